-- The numbers of an answer are small: a reply goes only to a request that D1 to D6 leave, and is no longer than it; no table has more than 64 slots.
-- Assumes nothing.
use mathlib.Core.Path.{◌≡◌, refl}
use mathlib.Core.Bool.{Bool, true, false, cond, false≢true}
use mathlib.Core.List.{List}
use Prim.Native.Nat.{ℕ, ◌≤◌}
use native.Mathlib.Omega.{arith}
use borrow.Author.Tests.{eqb-true}
use lib.Dec.{eqb}
use lib.IntN.{ℤ}
use Rattle.table_slots.specs.Slot.{slot_count}
use Rattle.table_slots.proofs.Count.{counted}
use Rattle.table_slots.proofs.Marked.{count_most}
use Rattle.std.specs.Prelude.{Option, Some, None}
use Rattle.refusals.specs.declared.Refusal.{Refusal}
use Rattle.refusals.specs.declared.Discard.{Discard}
use Rattle.rule_causes.specs.declared.cause.Cause as C
use Rattle.rule_causes.specs.declared.cause.Cause.TheVariants.{SessionNotFound}
use Rattle.rule_verdict.specs.declared.Verdict as R
use Rattle.rule_verdict.specs.declared.Verdict.TheVariants as J
use Rattle.packet_form.specs.Packet.{length_of, area_of}
use Rattle.nas_settings.specs.Settings.{Settings}
use Rattle.packet_form.specs.Discards.{form_of}
use Rattle.rule_verdict.specs.Discards.{signed_by}
use Rattle.rule_verdict.specs.Verdict.{check_verdict, form_verdict, verdict_of}
use Rattle.packet_form.proofs.Forms.{form_sized}
use Rattle.das_reply_parts.specs.Reply.{reply_length}
use Rattle.das_effects.specs.Matching.{matches_in, match_count}
use Rattle.das_answer.specs.declared.Answer as D
use Rattle.das_answer.specs.declared.Answer.TheVariants as A
use Rattle.das_answer.specs.Replied.{reply_size}
use Rattle.das_answer.specs.Commit.{count_answer}
use Rattle.das_handle.specs.Refusals.{refusal_of}
use Rattle.das_handle.specs.Handle.{answer_of, unless_refused, handle_answer}
use Rattle.das_reply.proofs.Fresh.{answered, fits}

-- the number of sessions changed
abbrev pub change_count : D.Answer → ℕ
change_count (A.Refused r) = 0
change_count (A.Discarded d) = 0
change_count (A.Stale k) = 0
change_count (A.Nak c k n) = 0
change_count (A.Ack m k n) = m

-- ---- a verdict that has a reply

module _ (g : Settings) (p : List ℕ) (clock m : ℕ) (cap : form_of p ≡ None → length_of p ≤ m) where
  by_signed : (b : Bool) → form_of p ≡ None → answered (check_verdict g b p clock) ≡ true → (c : Option C.Cause) → reply_length p c ≤ m
  unfolding check_verdict
  by_signed true z h c = omega (arith, cap z, fits g p clock (check_verdict g true p clock) refl (length_of p) c (form_sized p z) h)
  by_signed false z h c = absurd (false≢true h)

  by_form : (signed : Bool) (f : Option Discard) → form_of p ≡ f → answered (form_verdict g signed p clock f) ≡ true → (c : Option C.Cause) → reply_length p c ≤ m
  by_form signed None z h c = by_signed signed z h c
  by_form signed (Some d) z h c = absurd (false≢true h)

  verdict_fits : (signed : Bool) → answered (verdict_of g signed p clock) ≡ true → (c : Option C.Cause) → reply_length p c ≤ m
  unfolding verdict_of
  verdict_fits signed h c = by_form signed (form_of p) refl h c

-- ---- its answer

count_size : (p : List ℕ) (n m : ℕ) (k : ℤ) (b : Bool) → ((c : Option C.Cause) → reply_length p c ≤ m) → reply_size (cond b (A.Nak SessionNotFound k (reply_length p (Some SessionNotFound))) (A.Ack n k (reply_length p None))) ≤ m
count_size p n m k true h = h (Some SessionNotFound)
count_size p n m k false h = h None

verdict_size : (p t : List ℕ) (m : ℕ) (x : R.Verdict) → (answered x ≡ true → (c : Option C.Cause) → reply_length p c ≤ m) → reply_size (answer_of p t x) ≤ m
unfolding count_answer
verdict_size p t m (J.Discarded d) h = omega arith
verdict_size p t m (J.Stale k) h = omega arith
verdict_size p t m (J.Nak c k) h = h refl (Some c)
verdict_size p t m (J.Passed k) h = count_size p (match_count (area_of p) t) m k (eqb (match_count (area_of p) t) 0) (h refl)

by_refusal : (p t : List ℕ) (m : ℕ) (x : R.Verdict) (f : Option Refusal) → (answered x ≡ true → (c : Option C.Cause) → reply_length p c ≤ m) → reply_size (unless_refused f (answer_of p t x)) ≤ m
by_refusal p t m x None h = verdict_size p t m x h
by_refusal p t m x (Some r) h = omega arith

size_bound : (g : Settings) (t b p : List ℕ) (clock m : ℕ) → (form_of p ≡ None → length_of p ≤ m) → reply_size (handle_answer g t b p clock) ≤ m
unfolding handle_answer
size_bound g t b p clock m cap =
    by_refusal p t m (verdict_of g (signed_by g.secret p) p clock) (refusal_of g t b) (λ h c. verdict_fits g p clock m cap (signed_by g.secret p) h c)

-- a reply is never longer than the request, nor than 4,096 bytes
pub reply_bound : (g : Settings) (t b p : List ℕ) (clock : ℕ) → reply_size (handle_answer g t b p clock) ≤ length_of p
reply_bound g t b p clock = size_bound g t b p clock (length_of p) (λ z. omega arith)

pub reply_most : (g : Settings) (t b p : List ℕ) (clock : ℕ) → reply_size (handle_answer g t b p clock) ≤ 4096
reply_most g t b p clock = size_bound g t b p clock 4096 (λ z. (form_sized p z).high)

-- ---- no more sessions than slots

few : (p t : List ℕ) → match_count (area_of p) t ≤ 64
unfolding match_count
few p t = let c = counted t in omega (arith, count_most (matches_in (area_of p) t) (slot_count t))

count_few : (p t : List ℕ) (n : ℕ) (k : ℤ) (b : Bool) (i j : ℕ) → n ≤ 64 → change_count (cond b (A.Nak SessionNotFound k i) (A.Ack n k j)) ≤ 64
count_few p t n k true i j h = omega arith
count_few p t n k false i j h = h

verdict_few : (p t : List ℕ) (x : R.Verdict) → change_count (answer_of p t x) ≤ 64
unfolding count_answer
verdict_few p t (J.Discarded d) = omega arith
verdict_few p t (J.Stale k) = omega arith
verdict_few p t (J.Nak c k) = omega arith
verdict_few p t (J.Passed k) = count_few p t (match_count (area_of p) t) k (eqb (match_count (area_of p) t) 0) _ _ (few p t)

few_by : (p t : List ℕ) (x : R.Verdict) (f : Option Refusal) → change_count (unless_refused f (answer_of p t x)) ≤ 64
few_by p t x None = verdict_few p t x
few_by p t x (Some r) = omega arith

pub change_few : (g : Settings) (t b p : List ℕ) (clock : ℕ) → change_count (handle_answer g t b p clock) ≤ 64
unfolding handle_answer
change_few g t b p clock = few_by p t (verdict_of g (signed_by g.secret p) p clock) (refusal_of g t b)
