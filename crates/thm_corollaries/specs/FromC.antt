-- Demand 3 over C's own contracts. A C program makes a scheduler and then calls opening, step, drop, start and end in any order, each with the
-- arrays, the table and the store as the call before left them. The premises are what `capi` promises of the six calls; the conclusion is that
-- every number given out, every reply buffer and the table are those of the serial execution.
-- Assumes nothing.
use Rattle.std.specs.Prelude.{List, [], ◌∷◌, ◌≡◌, ℕ, length}
use Rattle.nas_settings.specs.Settings.{Settings}
use Rattle.table_sessions.specs.Session.{insert_table, remove_table}
use Rattle.sched_state.specs.declared.Scheduler as D
use Rattle.sched_state.specs.declared.Outcome as O
use Rattle.sched_state.specs.Scheduler.{Ours}
use Rattle.sched_state.specs.Refusals.{make_refusal}
use Rattle.sched_state.specs.Making.{made_of}
use Rattle.sched_state.specs.Calls.{open_called, open_store, step_called, step_table, step_reply, drop_called, start_called, end_called}
use Rattle.sched_state.specs.Runs.{Call, Open, Step, Drop, Start, End, Out}
use Rattle.sched_rows.specs.Layout.{Held, held_of, scheduler_in}
use Rattle.sched_rows.specs.Left.{make_left, open_left, step_left, drop_left, start_left, end_left}
use Rattle.c_numbers.specs.declared.numbers.Told.{Told}
use Rattle.c_numbers.specs.Numbers.{refused_number}
use Rattle.c_told.specs.Told.{number_by, place_by, told_by}
use Rattle.thm_serial.specs.Demand3.{serially}

-- what a C program holds between two calls
pub record Holds : Type 0 where
  pub held : Held
  pub table : List ℕ
  pub store : List ℕ

-- the numbers that calls write, where a program keeps them: the job or slot, and those of a step with the answer
pub record Numbers : Type 0 where
  pub place : ℕ
  pub told : Told

-- a call that a C program made: its arguments, the numbers before it, and what it left
pub record Event : Type 0 where
  pub call : Call
  pub before : Numbers
  pub after : Numbers
  pub reply : List ℕ
  pub left : Holds

-- the numbers that a call with the answer o gives out
abbrev pub GivenBy : Call → O.Outcome → Event → Type 0
GivenBy (Open p clock) o e = (e.after.told.answer ≡ number_by o) × (e.after.place ≡ place_by o e.before.place)
GivenBy (Step j b) o e = e.after.told ≡ told_by o e.before.told
GivenBy (Drop j) o e = e.after.told.answer ≡ number_by o
GivenBy (Start x) o e = (e.after.told.answer ≡ number_by o) × (e.after.place ≡ place_by o e.before.place)
GivenBy (End k) o e = e.after.told.answer ≡ number_by o

-- what `capi` promises of a call: `fbk_open_lent`, `fbk_step_lent`, `fbk_drop_lent`, `fbk_start_lent`, `fbk_end_lent`. What it is not lent
-- stays as it was
abbrev pub Promised : Call → Holds → Event → Type 0
Promised (Open p clock) h e =
    GivenBy (Open p clock) (open_called (scheduler_in h.held) p clock h.store).outcome e
    × (e.left.held ≡ open_left h.held p clock h.store)
    × (e.left.store ≡ open_store (scheduler_in h.held) p h.store)
    × (e.left.table ≡ h.table) × (e.reply ≡ [])
Promised (Step j b) h e =
    GivenBy (Step j b) (step_called (scheduler_in h.held) j h.table b h.store).outcome e
    × (e.left.held ≡ step_left h.held j h.table b h.store)
    × (e.left.table ≡ step_table (scheduler_in h.held) j h.table b h.store)
    × (e.reply ≡ step_reply (scheduler_in h.held) j h.table b h.store)
    × (e.left.store ≡ h.store)
Promised (Drop j) h e =
    GivenBy (Drop j) (drop_called (scheduler_in h.held) j).outcome e
    × (e.left.held ≡ drop_left h.held j)
    × (e.left.table ≡ h.table) × (e.left.store ≡ h.store) × (e.reply ≡ [])
Promised (Start x) h e =
    GivenBy (Start x) (start_called (scheduler_in h.held) x h.table).outcome e
    × (e.left.held ≡ start_left h.held x h.table)
    × (e.left.table ≡ insert_table x h.table)
    × (e.left.store ≡ h.store) × (e.reply ≡ [])
Promised (End k) h e =
    GivenBy (End k) (end_called (scheduler_in h.held) k h.table).outcome e
    × (e.left.held ≡ end_left h.held k h.table)
    × (e.left.table ≡ remove_table k h.table)
    × (e.left.store ≡ h.store) × (e.reply ≡ [])

-- each call of a program, with what the call before left
abbrev pub AllPromised : Holds → List Event → Type 0
AllPromised h [] = Unit {0}
AllPromised h (e ∷ es) = Promised e.call h e × AllPromised e.left es

-- the calls of a program, and the table that they leave
abbrev pub calls_of : List Event → List Call
calls_of [] = []
calls_of (e ∷ es) = e.call ∷ calls_of es

abbrev pub last_table : List ℕ → List Event → List ℕ
last_table t [] = t
last_table t (e ∷ es) = last_table e.left.table es

-- the numbers and the reply buffer of each call are those of the answers os
abbrev pub SameAs : List Event → List Out → Type 0
SameAs [] [] = Unit {0}
SameAs [] (o ∷ os) = ⊥
SameAs (e ∷ es) [] = ⊥
SameAs (e ∷ es) (o ∷ os) = GivenBy e.call o.outcome e × (e.reply ≡ o.reply) × SameAs es os

-- a program made a scheduler, which was not refused, and called on
pub record Program (g : Settings) (h : Holds) (es : List Event) : Type 0 where
  pub first : Held
  pub answer : ℕ
  -- what `capi` promises of `fbk_make_lent`
  pub made : answer ≡ refused_number (make_refusal g)
  pub left : h.held ≡ make_left g first
  pub done : answer ≡ 0
  pub calls : AllPromised h es

pub record FromC : Type 0 where
  -- whatever the arrays hold reads as a scheduler of ours; their lengths are those of C's types
  pub ours : (h : Held) → length h.secret ≡ 64 → length h.nas_id ≡ 32 → Ours (scheduler_in h)
  -- a scheduler of ours, written and read back, is the same
  pub back : (s : D.Scheduler) → Ours s → scheduler_in (held_of s) ≡ s
  -- every number given out and every reply buffer
  pub answers : (g : Settings) (h : Holds) (es : List Event) → Program g h es
      → SameAs es (serially (calls_of es) (made_of g) h.table h.store).outs
  -- after the list the table
  pub table : (g : Settings) (h : Holds) (es : List Event) → Program g h es
      → last_table h.table es ≡ (serially (calls_of es) (made_of g) h.table h.store).serial.table
