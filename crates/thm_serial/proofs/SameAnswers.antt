-- A packet read again from the store gets the verdict, the reply and the Commit of the packet itself: they look only at Length, code, identifier,
-- authenticator and attributes, and at the bytes that the signatures cover, and all these are the same.
-- Assumes nothing.
use mathlib.Core.Path.{◌≡◌, refl}
use mathlib.Core.Bool.{Bool}
use mathlib.Core.List.{List}
use Prim.Native.Nat.{ℕ}
use lib.IntN.{ℤ}
use Rattle.std.specs.Prelude.{Option, Some, None}
use Rattle.packet_auth.specs.Signing.{zeros}
use Rattle.rule_causes.specs.declared.cause.Cause.{Cause}
use Rattle.rule_causes.specs.declared.cause.Cause.TheVariants.{SessionNotFound}
use Rattle.nas_settings.specs.Settings.{Settings}
use Rattle.rule_verdict.specs.Verdict.{fresh_verdict, stamp_verdict, check_verdict}
use Rattle.packet_laws.proofs.SameBytes.{SamePacket, same_mac}
use Rattle.das_reply_parts.specs.Reply.{body_of, reply_length, head_of, reply_of}
use Rattle.das_answer.specs.declared.Answer as D
use Rattle.das_answer.specs.declared.Answer.TheVariants as A
use Rattle.das_answer.specs.Replies.{reply_as}
use Rattle.das_answer.specs.Commit.{count_answer, commit_answer, commit_table}

module _ (p q : List ℕ) (s : SamePacket p q) where
  -- ---- the verdict

  module _ (g : Settings) (clock : ℕ) where
    stamp_same : (x : Option ℕ) → stamp_verdict g q clock x ≡ stamp_verdict g p clock x
    unfolding fresh_verdict
    stamp_same (Some v) = rw (s.area, s.code)
    stamp_same None = refl

    pub check_same : (b : Bool) → check_verdict g b q clock ≡ check_verdict g b p clock
    unfolding check_verdict
    check_same b = rw (same_mac p q s zeros g.secret, s.area, stamp_same)

  -- ---- the reply

  body_same : (c : Option Cause) → body_of q c ≡ body_of p c
  unfolding body_of
  body_same c = rw s.area

  pub length_same : (c : Option Cause) → reply_length q c ≡ reply_length p c
  unfolding reply_length
  length_same c = rw (body_same c, s.area)

  head_same : (c : Option Cause) → head_of q c ≡ head_of p c
  unfolding head_of
  head_same c = rw (length_same c, s.code, s.identifier)

  reply_same : (secret : List ℕ) (c : Option Cause) → reply_of secret q c ≡ reply_of secret p c
  unfolding reply_of
  reply_same secret c = rw (head_same c, body_same c, s.auth, s.area)

  pub buffer_same : (secret b : List ℕ) (a : D.Answer) → reply_as secret q b a ≡ reply_as secret p b a
  buffer_same secret b (A.Refused r) = refl
  buffer_same secret b (A.Discarded d) = refl
  buffer_same secret b (A.Stale skew) = refl
  buffer_same secret b (A.Nak c skew n) = rw (reply_same secret)
  buffer_same secret b (A.Ack k skew n) = rw (reply_same secret)

  -- ---- the commit

  pub answer_same : (m t : List ℕ) (skew : ℤ) → commit_answer q m t skew ≡ commit_answer p m t skew
  unfolding commit_answer count_answer
  answer_same m t skew = rw (length_same (Some SessionNotFound), length_same None)

  pub table_same : (m t : List ℕ) → commit_table q m t ≡ commit_table p m t
  unfolding commit_table
  table_same m t = rw (s.area, s.code)
