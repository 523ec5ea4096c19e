-- The numbers of the handler's answers fit C's: at most 64 sessions and 4,096 bytes. What is told of an answer is told of the definition's.
-- Assumes nothing.
use mathlib.Core.Path.{◌≡◌, refl, ◌∙◌}
use mathlib.Core.List.{List}
use Prim.Native.Nat.{ℕ}
use native.Mathlib.Omega.{arith}
use Rattle.nas_settings.specs.Settings.{Settings}
use Rattle.das_answer.specs.declared.Answer as D
use Rattle.das_answer.specs.declared.Answer.TheVariants as A
use Rattle.das_handle.specs.Handle.{handle_answer}
use Rattle.das_answer.specs.Replied.{reply_size}
use Rattle.das_handle.proofs.Bounds.{change_count, reply_most, change_few}
use Rattle.c_numbers.specs.declared.numbers.Told.{Told}
use Rattle.c_numbers.specs.Numbers.{alone, answer_told, Small}

changed_is : (a : D.Answer) → (answer_told a (alone 0)).changed ≡ change_count a
unfolding answer_told
changed_is (A.Refused n) = refl
changed_is (A.Discarded d) = refl
changed_is (A.Stale k) = refl
changed_is (A.Nak c k n) = refl
changed_is (A.Ack m k n) = refl

length_is : (a : D.Answer) → (answer_told a (alone 0)).length ≡ reply_size a
unfolding answer_told
length_is (A.Refused n) = refl
length_is (A.Discarded d) = refl
length_is (A.Stale k) = refl
length_is (A.Nak c k n) = refl
length_is (A.Ack m k n) = refl

module _ (g : Settings) (t b p : List ℕ) (clock : ℕ) (a : D.Answer) (is : a ≡ handle_answer g t b p clock) where
  pub answer_small : Small (answer_told a (alone 0))
  answer_small =
      rw is
      (record {
        few = omega (arith, changed_is (handle_answer g t b p clock), change_few g t b p clock);
        short = omega (arith, length_is (handle_answer g t b p clock), reply_most g t b p clock);
      })

  pub answer-told : (v old : Told) → v ≡ answer_told a old → v ≡ answer_told (handle_answer g t b p clock) old
  answer-told v old h = h ∙ rw is
