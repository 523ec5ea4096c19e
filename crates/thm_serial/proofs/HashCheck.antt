-- Hash and Check keep the invariant of a job. Each Hash works the next block of the same message, so after the last block the words are the
-- authenticator, and Check gives the verdict of the packet: it ends the job with what handling the packet whole gives, or the packet passed.
-- Assumes nothing.
use mathlib.Core.Path.{◌≡◌, refl, sym, ap, ◌∙◌}
use mathlib.Core.Bool.{Bool, true, false, cond}
use mathlib.Core.List.{List}
use Prim.Native.Nat.{ℕ, suc, ◌<◌}
use native.Mathlib.Numerals.{add-one}
use native.Mathlib.Omega.{arith}
use borrow.Author.Tests.{ltb-true, ltb-false}
use lib.Dec.{ltb}
use Rattle.std.specs.Prelude.{Some, None}
use Rattle.octet_numbers.specs.Runs.{equal_bytes}
use Rattle.md5_ops.specs.Md5.{output}
use Rattle.packet_auth.specs.Signing.{zeros, authenticator}
use Rattle.packet_blocks.specs.Block.{hashed, hashed_to}
use Rattle.packet_blocks.proofs.Stepwise.{blocks_more, blocks_all, same_hashed}
use Rattle.table_slots.specs.Marks.{marks_after}
use Rattle.rule_verdict.specs.declared.Verdict as R
use Rattle.rule_verdict.specs.declared.Verdict.TheVariants as J
use Rattle.packet_form.specs.Packet.{length_of, auth_of}
use Rattle.nas_settings.specs.Settings.{Settings}
use Rattle.packet_form.specs.Discards.{form_of, Sized}
use Rattle.packet_form.proofs.Forms.{form_sized}
use Rattle.packet_laws.proofs.SameBytes.{SamePacket}
use Rattle.rule_verdict.specs.Discards.{signed_by}
use Rattle.rule_verdict.specs.Verdict.{check_verdict}
use Rattle.das_reply_parts.specs.Reply.{reply_length}
use Rattle.das_answer.specs.declared.Answer.TheVariants as A
use Rattle.das_handle.specs.Refusals.{refusal_of}
use Rattle.das_judge.specs.Judged.{judged_as}
use Rattle.sched_reread.specs.Check.{store_judged}
use Rattle.sched_job.specs.declared.Job as B
use Rattle.sched_job.specs.declared.Stage.TheVariants.{Hash, Check}
use Rattle.packet_words.specs.Words.{words_of, hash_state, words_signed}
use Rattle.sched_reread.specs.Reread.{holds}
use Rattle.sched_job.specs.Moves.{going, hash_job, checked_as, check_move}
use Rattle.thm_serial.proofs.SameAnswers.{check_same, length_same}
use Rattle.thm_serial.proofs.PassedCheck.{same_holds, passing}
use Rattle.thm_serial.proofs.JobInvariant.{blocks_of, words_at, Place, Right, ends_with, handled_as}

module _ (g : Settings) (p : List ℕ) (clock : ℕ) (q t b : List ℕ) (open-to : refusal_of g t b ≡ None) (good : form_of p ≡ None)
    (same : SamePacket p q) where
  -- ---- Hash

  next_words : (k : ℕ) (w : List ℕ) → w ≡ words_at g p k → words_of (hashed (hash_state w) k q (length_of p) g.secret) ≡ words_at g p (suc k)
  next_words k w e =
      ap (λ (v : List ℕ). words_of (hashed (hash_state v) k q (length_of p) g.secret)) e
      ∙ ap words_of (same_hashed (length_of p) q p same.alike g.secret (hashed_to k p (length_of p) g.secret) k)
      ∙ ap words_of (sym (blocks_more k p (length_of p) g.secret))

  hash_place : (f : Bool) (k : ℕ) (w m : List ℕ) → ltb (suc k) (blocks_of g p) ≡ f → k < blocks_of g p → w ≡ words_at g p (suc k)
      → Place g (cond f (Hash (suc k)) Check) w m p clock t
  hash_place true k w m e h i = (ltb-true (suc k) (blocks_of g p) e, i)
  hash_place false k w m e h i =
      let n : suc k ≡ blocks_of g p = omega (arith, ltb-false (suc k) (blocks_of g p) e) in
      i ∙ ap (words_at g p) n

  pub hash_right : (k : ℕ) (j : B.Job) → j.length ≡ length_of p → j.clock ≡ clock → k < blocks_of g p → j.words ≡ words_at g p k
      → Right g p clock q t b (going (hash_job g.secret j k q)) t
  unfolding hash_job
  hash_right k j l c h i =
      record {
        holding = record {
          long = l;
          clock_is = c;
          same = same;
          good = good;
          place = rw (l, add-one) (hash_place (ltb (suc k) (blocks_of g p)) k _ j.marks refl h (next_words k j.words i));
        };
        kept = refl;
      }

  -- ---- Check

  signed_words : (j : B.Job) → j.words ≡ words_at g p (blocks_of g p) → words_signed j.words q ≡ signed_by g.secret p
  unfolding words_signed signed_by
  signed_words j e =
      let z : Sized p (length_of p) = form_sized p good in
      ap (λ (w : List ℕ). equal_bytes (auth_of q) (output (hash_state w))) e
      ∙ ap (equal_bytes (auth_of q)) (blocks_all p (length_of p) g.secret z.low z.given)
      ∙ ap (λ (a : List ℕ). equal_bytes a (authenticator zeros p (length_of p) g.secret)) same.auth

  checked_right : (v : R.Verdict) (j : B.Job) → j.length ≡ length_of p → j.clock ≡ clock → check_verdict g (signed_by g.secret p) p clock ≡ v
      → Right g p clock q t b (checked_as j (judged_as q v)) t
  unfolding marks_after
  checked_right (J.Discarded d) j l c e =
      ends_with g p clock q t b (A.Discarded d) t same (handled_as g p clock q t b open-to good (J.Discarded d) e) refl
  checked_right (J.Stale skew) j l c e =
      ends_with g p clock q t b (A.Stale skew) t same (handled_as g p clock q t b open-to good (J.Stale skew) e) refl
  checked_right (J.Nak x skew) j l c e =
      ends_with g p clock q t b (A.Nak x skew (reply_length q (Some x))) t same
      (handled_as g p clock q t b open-to good (J.Nak x skew) e ∙ rw (length_same p q same (Some x))) refl
  checked_right (J.Passed skew) j l c e =
      record {
        holding = record {
          long = l;
          clock_is = c;
          same = same;
          good = good;
          place = (passing g p clock skew (signed_by g.secret p) e, omega arith, refl);
        };
        kept = refl;
      }

  pub check_right : (j : B.Job) → j.length ≡ length_of p → j.clock ≡ clock → j.words ≡ words_at g p (blocks_of g p)
      → Right g p clock q t b (check_move g j q) t
  unfolding check_move store_judged
  check_right j l c h =
      let still : holds j.length q ≡ true = ap (λ (n : ℕ). holds n q) l ∙ same_holds p q same good in
      let verdict : check_verdict g (words_signed j.words q) q j.clock ≡ check_verdict g (signed_by g.secret p) p clock =
      check_same p q same g j.clock (words_signed j.words q) ∙ rw (signed_words j h, c) in
      rw (still, verdict) (checked_right (check_verdict g (signed_by g.secret p) p clock) j l c refl)
