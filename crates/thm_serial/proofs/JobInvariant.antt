-- The invariant of an open job: which Length, clock, chaining words and marks it has at each stage of its request. And what a step of it must do:
-- keep the invariant, or end with the answer, table and reply buffer that handling the request whole gives.
-- Assumes nothing.
use mathlib.Core.Path.{◌≡◌, refl, sym, ap, ◌∙◌}
use mathlib.Core.Bool.{false, true≢false}
use mathlib.Core.List.{List}
use Prim.Native.Nat.{ℕ, ◌+◌, ◌≤◌, ◌<◌}
use lib.ListN.{length}
use Rattle.std.specs.Prelude.{Option, Some, None}
use Rattle.packet_blocks.specs.Block.{block_count, hashed_to}
use Rattle.table_slots.specs.Slot.{slot_count}
use Rattle.table_slots.specs.Marks.{marks_after}
use Rattle.rule_verdict.specs.declared.Verdict.{Verdict}
use Rattle.packet_form.specs.Packet.{length_of, area_of}
use Rattle.nas_settings.specs.Settings.{Settings}
use Rattle.packet_form.specs.Discards.{form_of}
use Rattle.packet_laws.proofs.SameBytes.{SamePacket}
use Rattle.rule_verdict.specs.Discards.{signed_by}
use Rattle.rule_verdict.specs.Verdict.{check_verdict, verdict_of}
use Rattle.das_effects.specs.Matching.{matches_in}
use Rattle.das_answer.specs.declared.Answer as D
use Rattle.das_answer.specs.declared.Answer.TheVariants as A
use Rattle.das_answer.specs.Replies.{reply_as}
use Rattle.das_handle.specs.Refusals.{refusal_of}
use Rattle.das_handle.specs.Handle.{answer_of, table_as, handle_answer, handle_table, handle_reply}
use Rattle.sched_job.specs.declared.Job as B
use Rattle.sched_job.specs.declared.Stage as S
use Rattle.sched_job.specs.declared.Stage.TheVariants.{Free, Hash, Check, Match}
use Rattle.sched_job.specs.declared.Moved as M
use Rattle.packet_words.specs.Words.{words_of}
use Rattle.sched_job.specs.Job.{free_job}
use Rattle.sched_job.specs.Moves.{done}
use Rattle.sched_state.specs.Calls.{is_ack}
use Rattle.thm_serial.proofs.SameAnswers.{buffer_same}
use Rattle.thm_serial.proofs.PassedCheck.{Passing}

module _ (g : Settings) where
  -- the blocks of the signed request, and the words after k of them
  abbrev pub blocks_of : List ℕ → ℕ
  blocks_of p = block_count (length_of p + length g.secret)

  abbrev pub words_at : List ℕ → ℕ → List ℕ
  words_at p k = words_of (hashed_to k p (length_of p) g.secret)

  -- in Hash the words after its blocks so far; in Check the last words; after it a request that passed, and the marks of its slots so far
  abbrev pub Place : S.Stage → List ℕ → List ℕ → List ℕ → ℕ → List ℕ → Type 0
  Place Free w m p clock t = ⊥
  Place (Hash k) w m p clock t = (k < blocks_of p) × (w ≡ words_at p k)
  Place Check w m p clock t = w ≡ words_at p (blocks_of p)
  Place (Match k) w m p clock t = Passing g (signed_by g.secret p) p clock × (k ≤ slot_count t) × (m ≡ marks_after (matches_in (area_of p) t) k)

  -- job j works on the packet p, opened with this clock; q is its part of the store, t the table
  pub record Holding (j : B.Job) (p : List ℕ) (clock : ℕ) (q t : List ℕ) : Type 0 where
    pub long : j.length ≡ length_of p
    pub clock_is : j.clock ≡ clock
    pub same : SamePacket p q
    pub good : form_of p ≡ None
    pub place : Place j.stage j.words j.marks p clock t

  module _ (p : List ℕ) (clock : ℕ) (q t b : List ℕ) where
    -- a step that goes on leaves the table u as it was
    pub record Continued (j : B.Job) (u : List ℕ) : Type 0 where
      pub holding : Holding j p clock q t
      pub kept : u ≡ t

    -- a step that finishes leaves answer, table and reply buffer as handling the packet does
    pub record Finished (j : B.Job) (u : List ℕ) (a : D.Answer) : Type 0 where
      pub freed : j ≡ free_job
      pub answer : handle_answer g t b p clock ≡ a
      pub table : handle_table g t b p clock ≡ u
      pub reply : handle_reply g t b p clock ≡ reply_as g.secret q b a
      pub kept : is_ack a ≡ false → u ≡ t

    abbrev pub Ended : B.Job → List ℕ → Option D.Answer → Type 0
    Ended j u None = Continued j u
    Ended j u (Some a) = Finished j u a

    abbrev pub Right : M.Moved → List ℕ → Type 0
    Right m u = Ended m.job u m.ending

    -- only an ACK changes the table
    unacked : (a : D.Answer) → is_ack a ≡ false → table_as p t a ≡ t
    unacked (A.Refused r) h = refl
    unacked (A.Discarded d) h = refl
    unacked (A.Stale skew) h = refl
    unacked (A.Nak c skew n) h = refl
    unacked (A.Ack k skew n) h = absurd (true≢false h)

    -- the answer decides the rest
    pub ends_with : (a : D.Answer) (u : List ℕ) → SamePacket p q → handle_answer g t b p clock ≡ a → u ≡ table_as p t a → Right (done a) u
    unfolding handle_table handle_reply
    ends_with a u s e h =
        record {
          freed = refl;
          answer = e;
          table = ap (table_as p t) e ∙ sym h;
          reply = ap (reply_as g.secret p b) e ∙ sym (buffer_same p q s g.secret b a);
          kept = λ z. h ∙ unacked a z;
        }

    -- handling a packet that meets none of D1 to D3, in a call that is not refused, is the rest of its verdict
    pub handled_as : refusal_of g t b ≡ None → form_of p ≡ None → (v : Verdict) → check_verdict g (signed_by g.secret p) p clock ≡ v
        → handle_answer g t b p clock ≡ answer_of p t v
    unfolding handle_answer verdict_of
    handled_as r e v h = rw (r, e, h)
