-- Commit: the reply fits, since type 55 has length 6 and a type 80, where it stands, length 18; the skew is the stamp read again minus the kept clock.
-- Assumes nothing.
use mathlib.Core.Path.{◌≡◌, refl, sym, ap, ◌∙◌}
use mathlib.Core.Bool.{Bool, true, false, not, true≢false, false≢true}
use mathlib.Core.List.{List}
use Prim.Native.Nat.{ℕ, ◌≤◌}
use native.Mathlib.Omega.{arith}
use borrow.Author.Tests.{eqb-true}
use lib.Dec.{eqb}
use lib.IntN.{ℤ}
use Rattle.attr_walk.specs.declared.Attribute.{Attribute}
use Rattle.std.specs.Prelude.{Option, Some, None}
use Rattle.attr_walk.specs.Attributes.{attributes, any, found, first_of, on_first, kind_is}
use Rattle.attr_walk.proofs.Searches.{only}
use Rattle.attr_types.specs.Types.{misfitting, first_repeated, none}
use Rattle.attr_survey.specs.Survey.{size_of}
use Rattle.attr_types.proofs.Repeats.{at_most_once}
use Rattle.rule_stamp.specs.Stamp.{skew_of}
use Rattle.rule_causes.specs.declared.cause.Cause.{Cause}
use Rattle.packet_form.specs.Packet.{area_of}
use Rattle.packet_form.specs.Discards.{Sized}
use Rattle.das_reply_parts.specs.Reply.{reply_length}
use Rattle.das_reply.proofs.Fitting.{reply_short}
use Rattle.das_reply.proofs.Judged.{stamp_six}
use Rattle.das_answer.specs.declared.Answer as D
use Rattle.das_answer.specs.Replies.{reply_as}
use Rattle.das_answer.specs.Commit.{commit_answer}
use Rattle.sched_job.specs.declared.Job.{Job}
use Rattle.sched_job.specs.declared.Moved.{Moved}
use Rattle.sched_job.specs.Moves.{done, commit_move, reply_after}
use Rattle.sched_reread.specs.Again.{Stands}

size_right : (b : Bool) (z : ℕ) → eqb z 18 ≡ b → not b ≡ false → z ≡ 18
size_right true z e h = eqb-true z 18 e
size_right false z e h = absurd (true≢false h)

right_first : (x : Option Attribute) → on_first (λ a. not (eqb a.size 18)) x ≡ false → found x ≡ true → size_of x ≡ 18
right_first (Some a) h g = size_right (eqb a.size 18) a.size refl h
right_first None h g = absurd (false≢true g)

module _ (v : ℕ) (q : List ℕ) (x : Stands q v) where
  eighteen : any (kind_is 80) (attributes (area_of q)) ≡ true → size_of (first_of (kind_is 80) (attributes (area_of q))) ≡ 18
  eighteen g =
      let few = at_most_once (attributes (area_of q)) x.once 80 (λ e. omega arith) in
      right_first (first_of (kind_is 80) (attributes (area_of q))) (sym (only (kind_is 80) (λ a. not (eqb a.size 18)) (attributes (area_of q)) few) ∙ x.plain) g

  pub stands_short : (n : ℕ) → Sized q n → (c : Option Cause) → reply_length q c ≤ 4096
  stands_short n z c = reply_short q n c z (stamp_six (area_of q) v x.stamp) eighteen

  pub stands_fits : any misfitting (attributes (area_of q)) ≡ false
  stands_fits = x.fits

  pub stands_once : found (first_repeated none (attributes (area_of q))) ≡ false
  stands_once = x.once

  module _ (j : Job) (t : List ℕ) (skew skew' : ℤ) (is : skew ≡ skew_of v j.clock) (same : skew' ≡ skew) (a : D.Answer) (committed : a ≡ commit_answer q j.marks t skew') (r : Moved) (finished : r ≡ done a) where
    pub commit_move_lem : r ≡ commit_move j q t
    unfolding commit_move
    commit_move_lem = finished ∙ ap done (committed ∙ rw (same, is, x.stamp))

pub commit_reply : (secret q b u : List ℕ) (a y : D.Answer) (r : Moved) → r ≡ done a → a ≡ y → u ≡ reply_as secret q b y → u ≡ reply_after secret q b r.ending
commit_reply secret q b u a y r e i h = rw (e, i) h
