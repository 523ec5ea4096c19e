-- Demand 1 of a session start and a session end: the answer of the session table decides. Where that is a refusal, it is the call's, and neither
-- table nor scheduler is changed.
-- Assumes nothing.
use mathlib.Core.Path.{◌≡◌, refl, ap, subst}
use mathlib.Core.Bool.{Bool, true, false, cond, not, ◌&&◌}
use mathlib.Core.List.{List, [], ◌∷◌}
use Prim.Native.Nat.{ℕ}
use lib.Dec.{eqb, ltb}
use Rattle.std.specs.Prelude.{Result, Ok, Err}
use Rattle.octet_numbers.specs.Runs.{member}
use Rattle.refusals.specs.declared.Refusal.{Refusal}
use Rattle.refusals.specs.declared.Refusal.TheVariants as R
use Rattle.refusals.specs.Numbers.{refusal_number}
use Rattle.table_slots.specs.Slot.{slot_count, slot, live}
use Rattle.table_records.specs.Record.{Session, fits_record}
use Rattle.table_sessions.specs.Session as T
use Rattle.sched_state.specs.declared.Scheduler as D
use Rattle.sched_state.specs.declared.Called as C
use Rattle.sched_state.specs.declared.Outcome.TheVariants as O
use Rattle.sched_state.specs.Calls.{called, started_as, start_called, ended_as, end_called}
use Rattle.thm_demands.proofs.AnswerKinds.{WhenRefused}

-- ---- a session start

abbrev Inserts : Result ℕ Refusal → Type 0
Inserts (Ok k) = Unit {0}
Inserts (Err n) = member (refusal_number n) (1 ∷ 8 ∷ 9 ∷ 10 ∷ []) ≡ true

insert_by : (x y z w : Bool) (k : ℕ)
    → Inserts (cond x (Err R.TableLength) (cond y (Err R.TextLength) (cond z (Err R.SessionIdLive) (cond w (Err R.NoFreeSlot) (Ok k)))))
insert_by true y z w k = refl
insert_by false true z w k = refl
insert_by false false true w k = refl
insert_by false false false true k = refl
insert_by false false false false k = tt

insert_one : (x : Session) (t : List ℕ) → Inserts (T.insert_answer x t)
unfolding T.insert_answer
insert_one x t =
    insert_by (eqb (slot_count t) 0) (not (fits_record x)) (T.id_live x.id t (slot_count t)) (eqb (T.lowest_free t) (slot_count t)) (T.lowest_free t)

-- c is the call's result, u the table after it
abbrev Unstarted : D.Scheduler → Session → List ℕ → C.Called → List ℕ → Refusal → Type 0
Unstarted s x t c u n =
    (member (refusal_number n) (1 ∷ 8 ∷ 9 ∷ 10 ∷ []) ≡ true) × (T.insert_answer x t ≡ Err n) × (c.scheduler ≡ s) × (u ≡ t)

start_by : (s : D.Scheduler) (x : Session) (t : List ℕ) (i : Result ℕ Refusal) → T.insert_answer x t ≡ i → Inserts i
    → WhenRefused (Unstarted s x t (started_as s i) (T.inserted_as x t i)) (started_as s i).outcome
start_by s x t (Ok k) e h = tt
start_by s x t (Err n) e h = (h, e, refl, refl)

start_so : (s : D.Scheduler) (x : Session) (t : List ℕ)
    → WhenRefused (Unstarted s x t (start_called s x t) (T.insert_table x t)) (start_called s x t).outcome
unfolding start_called T.insert_table
start_so s x t = start_by s x t (T.insert_answer x t) refl (insert_one x t)

pub start_refused : (s : D.Scheduler) (x : Session) (t : List ℕ) (n : Refusal) → T.insert_answer x t ≡ Err n
    → start_called s x t ≡ called s (O.Refused n)
unfolding start_called
start_refused s x t n e = ap (started_as s) e

pub start_refusals : (s : D.Scheduler) (x : Session) (t : List ℕ) (n : Refusal) → (start_called s x t).outcome ≡ O.Refused n
    → Unstarted s x t (start_called s x t) (T.insert_table x t) n
start_refusals s x t n e = subst (WhenRefused (Unstarted s x t (start_called s x t) (T.insert_table x t))) e (start_so s x t)

-- ---- a session end

abbrev Removes : Result (Unit {0}) Refusal → Type 0
Removes (Ok done) = Unit {0}
Removes (Err n) = member (refusal_number n) (1 ∷ 11 ∷ []) ≡ true

remove_by : (x y : Bool) → Removes (cond x (Err R.TableLength) (cond y (Ok tt) (Err R.NoSuchSession)))
remove_by true y = refl
remove_by false true = tt
remove_by false false = refl

remove_one : (k : ℕ) (t : List ℕ) → Removes (T.remove_answer k t)
unfolding T.remove_answer
remove_one k t = remove_by (eqb (slot_count t) 0) (ltb k (slot_count t) && live (slot k t))

abbrev Unended : D.Scheduler → ℕ → List ℕ → C.Called → List ℕ → Refusal → Type 0
Unended s k t c u n = (member (refusal_number n) (1 ∷ 11 ∷ []) ≡ true) × (T.remove_answer k t ≡ Err n) × (c.scheduler ≡ s) × (u ≡ t)

end_by : (s : D.Scheduler) (k : ℕ) (t : List ℕ) (i : Result (Unit {0}) Refusal) → T.remove_answer k t ≡ i → Removes i
    → WhenRefused (Unended s k t (ended_as s i) (T.removed_as k t i)) (ended_as s i).outcome
end_by s k t (Ok done) e h = tt
end_by s k t (Err n) e h = (h, e, refl, refl)

end_so : (s : D.Scheduler) (k : ℕ) (t : List ℕ)
    → WhenRefused (Unended s k t (end_called s k t) (T.remove_table k t)) (end_called s k t).outcome
unfolding end_called T.remove_table
end_so s k t = end_by s k t (T.remove_answer k t) refl (remove_one k t)

pub end_refused : (s : D.Scheduler) (k : ℕ) (t : List ℕ) (n : Refusal) → T.remove_answer k t ≡ Err n
    → end_called s k t ≡ called s (O.Refused n)
unfolding end_called
end_refused s k t n e = ap (ended_as s) e

pub end_refusals : (s : D.Scheduler) (k : ℕ) (t : List ℕ) (n : Refusal) → (end_called s k t).outcome ≡ O.Refused n
    → Unended s k t (end_called s k t) (T.remove_table k t) n
end_refusals s k t n e = subst (WhenRefused (Unended s k t (end_called s k t) (T.remove_table k t))) e (end_so s k t)
