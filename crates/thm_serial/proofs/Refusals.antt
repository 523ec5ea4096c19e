-- A call that is not refused passed each test of its refusals. So the request that a step finishes is not refused by handling either: table and
-- reply buffer passed at the step, secret and identity when the scheduler was made.
-- Assumes nothing.
use mathlib.Core.Path.{◌≡◌, refl}
use mathlib.Core.Bool.{Bool, true, false, cond, not, ◌||◌}
use mathlib.Core.List.{List}
use Prim.Native.Nat.{ℕ, ◌<◌}
use native.Mathlib.Omega.{arith}
use borrow.Author.Tests.{eqb-true, eqb-false}
use lib.Dec.{eqb, ltb}
use lib.ListN.{length}
use Rattle.std.specs.Prelude.{Option, Some, None}
use Rattle.refusals.specs.declared.Refusal.{Refusal}
use Rattle.refusals.specs.declared.Refusal.TheVariants as R
use Rattle.octet_numbers.proofs.Bools.{neither, not-false}
use Rattle.table_slots.specs.Slot.{slot_count}
use Rattle.nas_settings.specs.Settings.{Settings}
use Rattle.das_handle.specs.Refusals.{refusal_of}
use Rattle.sched_state.specs.Scheduler.{lowest_free}
use Rattle.sched_state.specs.Refusals.{open_refusal, step_refusal, drop_refusal}
use Rattle.thm_serial.proofs.Invariant.{Made}

-- a chain of tests that refuses nothing passed the first
passes : (f : Bool) (r : Refusal) (a : Option Refusal) → cond f (Some r) a ≡ None → (f ≡ false) × (a ≡ None)
passes true r a e = cc
passes false r a e = (refl, e)

-- a step; f tells which jobs are open
pub record Admitted (f : ℕ → Bool) (size j : ℕ) (t b : List ℕ) : Type 0 where
  pub slots : eqb (slot_count t) 0 ≡ false
  pub room : ltb (length b) 4096 ≡ false
  pub size_is : size ≡ 16384
  pub open_is : f j ≡ true

module _ (f : ℕ → Bool) (size : ℕ) where
  pub step_admitted : (j : ℕ) (t b : List ℕ) → step_refusal f size j t b ≡ None → Admitted f size j t b
  unfolding step_refusal drop_refusal
  step_admitted j t b e =
      let first = passes (eqb (slot_count t) 0) R.TableLength _ e in
      let fourth = passes (ltb (length b) 4096) R.OutputRoom _ first.1 in
      let fifth = passes (not (eqb size 16384)) R.StoreLength _ fourth.1 in
      let seventh = passes (ltb 3 j || not (f j)) R.NoSuchJob None fifth.1 in
      record {
        slots = first.0;
        room = fourth.0;
        size_is = eqb-true size 16384 (not-false (eqb size 16384) fifth.0);
        open_is = not-false (f j) (neither (ltb 3 j) (not (f j)) seventh.0).1;
      }

  pub drop_admitted : (j : ℕ) → drop_refusal f j ≡ None → f j ≡ true
  unfolding drop_refusal
  drop_admitted j e = not-false (f j) (neither (ltb 3 j) (not (f j)) (passes (ltb 3 j || not (f j)) R.NoSuchJob None e).0).1

  -- opening takes a job of the four
  below : (a b c d : Bool) (n : ℕ) → n ≡ cond a (cond b (cond c (cond d 4 3) 2) 1) 0 → (n ≡ 4 → ⊥) → n < 4
  below false b c d n e h = omega arith
  below true false c d n e h = omega arith
  below true true false d n e h = omega arith
  below true true true false n e h = omega arith
  below true true true true n e h = absurd (h e)

  pub open_admitted : open_refusal f size ≡ None → (size ≡ 16384) × (lowest_free f < 4)
  unfolding open_refusal lowest_free
  open_admitted e =
      let fifth = passes (not (eqb size 16384)) R.StoreLength _ e in
      let sixth = passes (eqb (lowest_free f) 4) R.NoFreeJob None fifth.1 in (
        eqb-true size 16384 (not-false (eqb size 16384) fifth.0),
        below (f 0) (f 1) (f 2) (f 3) (lowest_free f) refl (eqb-false (lowest_free f) 4 sixth.0),
      )

-- handling refuses nothing that the step did not
pub handling_admitted : (g : Settings) (f : ℕ → Bool) (size j : ℕ) (t b : List ℕ) → Made g → Admitted f size j t b → refusal_of g t b ≡ None
unfolding refusal_of
handling_admitted g f size j t b m a = rw (a.slots, m.secret_good, m.name_good, a.room)
