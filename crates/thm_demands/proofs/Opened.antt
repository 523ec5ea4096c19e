-- Demand 1 of an opening: it tests first the store's length and that a job is free, then the packet's form, and only after both does it take a job
-- and copy the packet. So a refusal and a discard leave scheduler and store.
-- Assumes nothing.
use mathlib.Core.Path.{◌≡◌, refl, subst}
use mathlib.Core.Bool.{Bool, true, cond, not}
use mathlib.Core.List.{List, [], ◌∷◌}
use Prim.Native.Nat.{ℕ}
use lib.Dec.{eqb}
use lib.ListN.{length}
use Rattle.std.specs.Prelude.{Option, Some, None, is_none}
use Rattle.octet_numbers.specs.Runs.{member}
use Rattle.refusals.specs.declared.Refusal.{Refusal}
use Rattle.refusals.specs.declared.Refusal.TheVariants as R
use Rattle.refusals.specs.declared.Discard.{Discard}
use Rattle.refusals.specs.Numbers.{refusal_number, discard_number}
use Rattle.packet_form.specs.Discards.{form_of}
use Rattle.sched_state.specs.declared.Scheduler as D
use Rattle.sched_state.specs.declared.Called as C
use Rattle.sched_state.specs.declared.Outcome.TheVariants as O
use Rattle.sched_state.specs.Scheduler.{open_at, lowest_free}
use Rattle.sched_state.specs.Refusals.{open_refusal}
use Rattle.sched_state.specs.Calls.{called, unless_refused, opened_as, open_called, open_store}
use Rattle.thm_demands.proofs.Cascades.{OneOf, none_of, one_more}
use Rattle.thm_demands.proofs.DiscardNumbers.{form_one}
use Rattle.thm_demands.proofs.AnswerKinds.{WhenRefused, WhenDiscarded}

refusal_one : (f : ℕ → Bool) (size : ℕ) → OneOf refusal_number (5 ∷ 6 ∷ []) (open_refusal f size)
unfolding open_refusal
refusal_one f size =
    one_more refusal_number (not (eqb size 16384)) R.StoreLength _ _
    (one_more refusal_number (eqb (lowest_free f) 4) R.NoFreeJob _ _ (none_of refusal_number))

module _ (s : D.Scheduler) (p store : List ℕ) (clock : ℕ) where
  abbrev refusal : Option Refusal
  refusal = open_refusal (open_at s.jobs) (length store)

  -- c is the call's result, u the store after it
  abbrev Refusing : C.Called → List ℕ → Refusal → Type 0
  Refusing c u n = (member (refusal_number n) (5 ∷ 6 ∷ []) ≡ true) × (refusal ≡ Some n) × (c.scheduler ≡ s) × (u ≡ store)

  abbrev Discards : C.Called → List ℕ → Discard → Type 0
  Discards c u d = (member (discard_number d) (1 ∷ 2 ∷ 3 ∷ []) ≡ true) × (form_of p ≡ Some d) × (c.scheduler ≡ s) × (u ≡ store)

  -- f is the refusal, h the discard, w the store with the packet
  abbrev shown : Option Refusal → Option Discard → C.Called
  shown f h = unless_refused s f (opened_as s p clock h)

  abbrev stored : Option Refusal → Option Discard → List ℕ → List ℕ
  stored f h w = cond (is_none f) (cond (is_none h) w store) store

  refused_by : (f : Option Refusal) (h : Option Discard) (w : List ℕ) → refusal ≡ f
      → WhenRefused (Refusing (shown f h) (stored f h w)) (shown f h).outcome
  refused_by None None w e = tt
  refused_by None (Some d) w e = tt
  refused_by (Some n) h w e = ((refusal_one (open_at s.jobs) (length store)).found n e, e, refl, refl)

  discarded_by : (f : Option Refusal) (h : Option Discard) (w : List ℕ) → form_of p ≡ h
      → WhenDiscarded (Discards (shown f h) (stored f h w)) (shown f h).outcome
  discarded_by None None w e = tt
  discarded_by None (Some d) w e = (form_one p d e, e, refl, refl)
  discarded_by (Some n) h w e = tt

  refused_so : WhenRefused (Refusing (open_called s p clock store) (open_store s p store)) (open_called s p clock store).outcome
  unfolding open_called open_store
  refused_so = refused_by refusal (form_of p) _ refl

  discarded_so : WhenDiscarded (Discards (open_called s p clock store) (open_store s p store)) (open_called s p clock store).outcome
  unfolding open_called open_store
  discarded_so = discarded_by refusal (form_of p) _ refl

  pub open_refusals : (n : Refusal) → (open_called s p clock store).outcome ≡ O.Refused n
      → Refusing (open_called s p clock store) (open_store s p store) n
  open_refusals n e = subst (WhenRefused (Refusing (open_called s p clock store) (open_store s p store))) e refused_so

  pub open_discards : (d : Discard) → (open_called s p clock store).outcome ≡ O.Discarded d
      → Discards (open_called s p clock store) (open_store s p store) d
  open_discards d e = subst (WhenDiscarded (Discards (open_called s p clock store) (open_store s p store))) e discarded_so

  pub open_refused : (n : Refusal) → refusal ≡ Some n → open_called s p clock store ≡ called s (O.Refused n)
  unfolding open_called
  open_refused n h = rw h

  pub open_discarded : refusal ≡ None → (d : Discard) → form_of p ≡ Some d → open_called s p clock store ≡ called s (O.Discarded d)
  unfolding open_called
  open_discarded z d h = rw (z, h)
