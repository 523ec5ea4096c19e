-- Demand 3 over C's own contracts, proved: what a C program holds after each call reads as the next state of the list's run, since the contracts
-- name the very definitions by which a run goes on; and for runs there is demand 3.
-- Assumes nothing.
use mathlib.Core.Bool.{Bool, true, false, cond}
use mathlib.Core.List.{List, [], ◌∷◌}
use mathlib.Core.Path.{◌≡◌, refl, sym, ap, ◌∙◌, subst}
use Prim.Native.Nat.{ℕ}
use native.Mathlib.Omega.{arith}
use Rattle.std.specs.Prelude.{Some, None}
use Rattle.refusals.specs.declared.Refusal.TheVariants as R
use Rattle.nas_settings.specs.Settings.{Settings, bad_secret, bad_nas_id}
use Rattle.sched_state.specs.declared.Called as C
use Rattle.sched_state.specs.Scheduler.{Ours}
use Rattle.sched_state.specs.Refusals.{make_refusal}
use Rattle.sched_state.specs.Making.{made_of}
use Rattle.sched_state.specs.Runs.{Call, Open, Step, Drop, Start, End, World, Out, call, run}
use Rattle.sched_rows.specs.Layout.{Held, held_of, scheduler_in}
use Rattle.sched_rows.specs.Left.{make_left}
use Rattle.sched_rows.proofs.ReadOurs.{read_ours}
use Rattle.sched_rows.proofs.Back.{in_out}
use Rattle.c_numbers.specs.Numbers.{refused_number}
use Rattle.thm_serial.specs.Demand3.{world, serially}
use Rattle.thm_serial.proofs.Proved.{demand3}
use Rattle.thm_corollaries.specs.FromC.{Holds, Event, GivenBy, Promised, AllPromised, calls_of, last_table, SameAs, Program, FromC}
use Rattle.thm_corollaries.proofs.Arrays.{Fits}
use Rattle.thm_corollaries.proofs.CallArrays.{Reads, open_reads, step_reads, drop_reads, start_reads, end_reads}

-- what a program holds, as a run has it
abbrev state_of : Holds → World
state_of h = world (scheduler_in h.held) h.table h.store

-- ---- one call

record Next (c : Call) (h : Holds) (e : Event) : Type 0 where
  given : GivenBy c (call c (state_of h)).out.outcome e
  reply : e.reply ≡ (call c (state_of h)).out.reply
  state : state_of e.left ≡ (call c (state_of h)).world
  fits : Fits e.left.held

same_state : (h' l : Held) (t t' store store' : List ℕ) (c : C.Called) → h' ≡ l → Reads l c → t' ≡ t → store' ≡ store
    → world (scheduler_in h') t' store' ≡ world c.scheduler t store
same_state h' l t t' store store' c e r et es = λ i. world ((ap scheduler_in e ∙ r.is) i) (et i) (es i)

next : (c : Call) (h : Holds) (e : Event) → Fits h.held → Promised c h e → Next c h e
unfolding call
next (Open p clock) h e f q =
    let r = open_reads h.held f p clock h.store in
    record { given = q.0; reply = q.4; state = same_state _ _ _ _ _ _ _ q.1 r q.3 q.2; fits = subst Fits (sym q.1) r.fits }
next (Step j b) h e f q =
    let r = step_reads h.held f j h.table b h.store in
    record { given = q.0; reply = q.3; state = same_state _ _ _ _ _ _ _ q.1 r q.2 q.4; fits = subst Fits (sym q.1) r.fits }
next (Drop j) h e f q =
    let r = drop_reads h.held f j in
    record { given = q.0; reply = q.4; state = same_state _ _ _ _ _ _ _ q.1 r q.2 q.3; fits = subst Fits (sym q.1) r.fits }
next (Start x) h e f q =
    let r = start_reads h.held f x h.table in
    record { given = q.0; reply = q.4; state = same_state _ _ _ _ _ _ _ q.1 r q.2 q.3; fits = subst Fits (sym q.1) r.fits }
next (End k) h e f q =
    let r = end_reads h.held f k h.table in
    record { given = q.0; reply = q.4; state = same_state _ _ _ _ _ _ _ q.1 r q.2 q.3; fits = subst Fits (sym q.1) r.fits }

-- ---- a list of them

record Runs (h : Holds) (es : List Event) : Type 0 where
  outs : SameAs es (run (calls_of es) (state_of h)).outs
  table : last_table h.table es ≡ (run (calls_of es) (state_of h)).world.table

runs : (h : Holds) (es : List Event) → Fits h.held → AllPromised h es → Runs h es
unfolding run
runs h [] f q = record { outs = tt; table = refl }
runs h (e ∷ es) f q =
    let n = next e.call h e f q.0 in
    let r = runs e.left es n.fits q.1 in
    record {
      outs = (n.given, n.reply, subst (λ (w : World). SameAs es (run (calls_of es) w).outs) n.state r.outs);
      table = r.table ∙ ap (λ (w : World). (run (calls_of es) w).world.table) n.state;
    }

-- ---- from making on

-- the number 0 is no refusal's
unrefused : (a b : Bool) → refused_number (cond a (Some R.SecretLength) (cond b (Some R.NasIdentifierLength) None)) ≡ 0
    → cond a (Some R.SecretLength) (cond b (Some R.NasIdentifierLength) None) ≡ None
unrefused true b e = absurd (omega arith)
unrefused false true e = absurd (omega arith)
unrefused false false e = refl

module _ (g : Settings) (h : Holds) (es : List Event) (p : Program g h es) where
  good : make_refusal g ≡ None
  unfolding make_refusal
  good = unrefused (bad_secret g.secret) (bad_nas_id g.nas_id) (sym p.made ∙ p.done)

  fresh : Ours (made_of g)
  fresh = (demand3.made g good).0.ours

  as_made : h.held ≡ held_of (made_of g)
  unfolding make_left
  as_made = p.left ∙ rw good

  state_made : state_of h ≡ world (made_of g) h.table h.store
  state_made = λ i. world ((ap scheduler_in as_made ∙ in_out (made_of g) fresh) i) h.table h.store

  fits_made : Fits (held_of (made_of g))
  unfolding held_of made_of
  fits_made = record { words = refl; kinds = refl; places = refl; marks = refl; secret = fresh.secret_room; nas_id = fresh.name_room }

  ran : Runs h es
  ran = runs h es (subst Fits (sym as_made) fits_made) p.calls

  answers : SameAs es (serially (calls_of es) (made_of g) h.table h.store).outs
  answers =
      subst (λ (os : List Out). SameAs es os)
      (ap (λ (w : World). (run (calls_of es) w).outs) state_made ∙ demand3.answers (made_of g) (demand3.made g good).0 (calls_of es) h.table h.store)
      ran.outs

  table : last_table h.table es ≡ (serially (calls_of es) (made_of g) h.table h.store).serial.table
  table =
      ran.table ∙ ap (λ (w : World). (run (calls_of es) w).world.table) state_made
      ∙ demand3.table (made_of g) (demand3.made g good).0 (calls_of es) h.table h.store

pub from_c : FromC
from_c = record { ours = read_ours; back = in_out; answers = answers; table = table }
