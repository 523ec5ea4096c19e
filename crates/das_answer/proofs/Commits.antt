-- Commit, from what its calls tell: the change is that of the request, since the slice is its area; the number changed decides between cause 7 and ACK.
-- Assumes nothing.
use mathlib.Core.Path.{◌≡◌, ap, ◌∙◌}
use mathlib.Core.Bool.{false}
use mathlib.Core.List.{List}
use Prim.Native.Nat.{ℕ}
use borrow.Author.Tests.{eq-eqb, ne_eqb}
use lib.IntN.{ℤ}
use Rattle.octet_numbers.specs.Runs.{write}
use Rattle.attr_walk.specs.Attributes.{attributes, any}
use Rattle.attr_types.specs.Types.{misfitting}
use Rattle.table_slots.specs.Slot.{slot_count}
use Rattle.table_change.specs.declared.Change.{Change}
use Rattle.table_change.specs.Change.{change_marked, count_marked}
use Rattle.std.specs.Prelude.{Some, None}
use Rattle.rule_causes.specs.declared.cause.Cause.TheVariants.{SessionNotFound}
use Rattle.packet_form.specs.Packet.{code_of, area_of}
use Rattle.das_reply_parts.specs.Reply.{reply_length, reply_of}
use Rattle.das_effects.specs.Changes.{change_of}
use Rattle.das_answer.specs.declared.Answer as D
use Rattle.das_answer.specs.declared.Answer.TheVariants as A
use Rattle.das_answer.specs.Replies.{reply_as}
use Rattle.das_answer.specs.Commit.{count_answer, commit_answer, commit_table}

pub misfit_at : (p s : List ℕ) → s ≡ area_of p → any misfitting (attributes (area_of p)) ≡ false → any misfitting (attributes s) ≡ false
misfit_at p s e h = rw e h

module _ (p marks t : List ℕ) (skew : ℤ) (m : ℕ) (counted : m ≡ count_marked marks (slot_count t) t) where
  none_left : m ≡ 0 → A.Nak SessionNotFound skew (reply_length p (Some SessionNotFound)) ≡ commit_answer p marks t skew
  unfolding commit_answer count_answer
  none_left h = rw (← counted, eq-eqb _ _ h)

  some_left : (m ≡ 0 → ⊥) → A.Ack m skew (reply_length p None) ≡ commit_answer p marks t skew
  unfolding commit_answer count_answer
  some_left h = rw (← counted, ne_eqb _ _ h)

  -- k is the skew as the machine holds it, u the buffer that the reply is written to
  pub commit_none : m ≡ 0 → (r : D.Answer) (k : ℤ) → r ≡ A.Nak SessionNotFound k (reply_length p (Some SessionNotFound)) → k ≡ skew → r ≡ commit_answer p marks t skew
  commit_none h r k e g = e ∙ rw g (none_left h)

  pub commit_none_reply : m ≡ 0 → (secret b u : List ℕ) → u ≡ write b 0 (reply_of secret p (Some SessionNotFound)) → u ≡ reply_as secret p b (commit_answer p marks t skew)
  commit_none_reply h secret b u e = e ∙ ap (reply_as secret p b) (none_left h)

  pub commit_some : (m ≡ 0 → ⊥) → (n : ℕ) (k : ℤ) → n ≡ reply_length p None → k ≡ skew → A.Ack m k n ≡ commit_answer p marks t skew
  commit_some h n k e g = rw (e, g) (some_left h)

  pub commit_some_reply : (m ≡ 0 → ⊥) → (secret b u : List ℕ) → u ≡ write b 0 (reply_of secret p None) → u ≡ reply_as secret p b (commit_answer p marks t skew)
  commit_some_reply h secret b u e = e ∙ ap (reply_as secret p b) (some_left h)

pub commit_table_lem : (p s marks t u : List ℕ) (code : ℕ) (c : Change) → s ≡ area_of p → code ≡ code_of p → c ≡ change_of code s → u ≡ change_marked s c marks (slot_count t) t
    → u ≡ commit_table p marks t
unfolding commit_table
commit_table_lem p s marks t u code c e i g h = h ∙ rw (g, e, i)
