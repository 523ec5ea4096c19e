-- Padding is ignored, and so the buffers that our calls leave are as good as the packets in them: a packet that our writer or our gate writes has as
-- many bytes as its Length says, so the first Length bytes of a buffer that begins with it are the packet.
-- Assumes nothing.
use mathlib.Core.Path.{◌≡◌, refl, sym, ap, ◌∙◌}
use mathlib.Core.Bool.{false}
use mathlib.Core.List.{List}
use Prim.Native.Nat.{ℕ, ◌≤◌}
use native.Mathlib.Omega.{arith}
use lib.ListN.{length}
use lib.Seq.{take-length}
use Rattle.std.specs.Prelude.{Option, None, Ok}
use Rattle.nas_settings.specs.Settings.{Settings}
use Rattle.octet_numbers.specs.Runs.{write}
use Rattle.octet_numbers.proofs.Part.{part_whole, part-written}
use Rattle.octet_numbers.proofs.Write.{length-write}
use Rattle.packet_form.specs.Packet.{length_of}
use Rattle.packet_form.specs.Discards.{bad_length, Sized}
use Rattle.packet_form.proofs.Forms.{good_sized, form_good}
use Rattle.rule_causes.specs.declared.cause.Cause.{Cause}
use Rattle.das_reply_parts.specs.Reply.{reply_length, reply_of}
use Rattle.das_reply_parts.proofs.Lengths.{length-reply_of}
use Rattle.das_reply.proofs.Back.{reply_length_lem}
use Rattle.das_answer.specs.Replied.{silent}
use Rattle.das_handle.specs.Refusals.{refusal_of}
use Rattle.das_handle.specs.Handle.{handle_answer, handle_reply}
use Rattle.das_handle.proofs.Stages.{room}
use Rattle.dac_write.specs.Writer.{Draft, write_refusal, request_of, write_output}
use Rattle.dac_write.proofs.Refusals.{taken}
use Rattle.dac_check.specs.ReplyCheck.{check_answer}
use Rattle.thm_exchange.proofs.Requests.{written_form, written_short}
use Rattle.thm_exchange.proofs.Outputs as O
use Rattle.thm_exchange.proofs.Answered.{good_length}
use Rattle.thm_demands.proofs.Second.{demand2}
use Rattle.thm_demands.proofs.Replied.{formed}
use Rattle.thm_demands.proofs.Carried.{unrefused}
use Rattle.sched_state.specs.Scheduler.{settings_of}
use Rattle.sched_state.specs.Runs.{run}
use Rattle.thm_serial.specs.Demand3.{world}
use Rattle.thm_corollaries.specs.Corollaries.{Passes}
use Rattle.thm_corollaries.specs.Padding.{unpadded, Padding}
use Rattle.thm_corollaries.proofs.Prefixes.{same_unpadded, cut}
use Rattle.thm_corollaries.proofs.PaddedRequests as Q
use Rattle.thm_corollaries.proofs.PaddedReplies.{request_checked, reply_checked}
use Rattle.thm_corollaries.proofs.FinishedSteps.{step_handles}
use Rattle.thm_corollaries.proofs.HandledReplies.{answer_passes}

-- a buffer b with a packet r of Length bytes at its start
at_start : (b r : List ℕ) → bad_length r ≡ false → length_of r ≡ length r → length r ≤ length b → unpadded (write b 0 r) ≡ r
at_start b r good long room =
    let z : Sized r (length r) = good_sized r (length r) good (sym long) in
    same_unpadded r (write b 0 r) (length r) z (rw (length-write b 0 r) room) (part-written b 0 r (omega arith) ∙ sym (part_whole r))
    ∙ rw long (take-length r)

output : (secret out : List ℕ) (d : Draft) → write_refusal secret out d ≡ None → unpadded (write_output secret out d) ≡ request_of secret d
output secret out d h =
    let l = O.length_request secret d in
    let short : length (request_of secret d) ≤ length out = omega (arith, written_short secret out d h, (taken secret out d h).room) in
    ap unpadded (demand2.written secret out d h).1
    ∙ at_start out (request_of secret d) (form_good (request_of secret d) (written_form secret out d h))
    (sym (l ∙ (O.sized secret out d h).is)) short

module _ (g : Settings) (t b p : List ℕ) (clock : ℕ) (answered : silent (handle_answer g t b p clock) ≡ false) where
  reply_alone : (c : Option Cause) → unpadded (write b 0 (reply_of g.secret p c)) ≡ reply_of g.secret p c
  reply_alone c =
      let f = formed g t b p clock answered in
      let short : reply_length p c ≤ 4096 = omega (arith, f.room c, f.sized.high) in
      let l = length-reply_of g.secret p c in
      let r = reply_of g.secret p c in
      let fits : length r ≤ length b = omega (arith, room g t b (refusal_of g t b) refl (unrefused g t b p clock answered)) in
      at_start b r (good_length g.secret p (length_of p) c f.sized short) (reply_length_lem g.secret p c short ∙ sym l) fits

  buffer_passes : (r : List ℕ) → Passes g.secret p b r → check_answer g.secret p r ≡ Ok tt
  buffer_passes r x =
      let w = write b 0 (reply_of g.secret p x.cause) in
      rw (x.written, reply_checked g.secret p w, reply_alone x.cause) x.right

  passes : (q : List ℕ) → unpadded q ≡ unpadded p → check_answer g.secret q (handle_reply g t b p clock) ≡ Ok tt
  passes q e =
      let r = handle_reply g t b p clock in
      request_checked g.secret q r
      ∙ ap (λ (x : List ℕ). check_answer g.secret x r) e
      ∙ sym (request_checked g.secret p r)
      ∙ buffer_passes r (answer_passes g t b p clock (handle_answer g t b p clock) refl answered)

pub padding : Padding
padding =
    record {
      cut = cut;
      answer = Q.answer;
      table = Q.table;
      reply = Q.reply;
      opened = λ s p clock store. Q.opened s p store clock;
      stored = Q.stored;
      request_checked = request_checked;
      reply_checked = reply_checked;
      output = output;
      accepted = λ secret out d h. (O.output_form secret out d h, O.output-signed secret out d h, O.output-maced secret out d h);
      passes = λ g t b p q clock h e. passes g t b p clock h q e;
      step_passes = λ s new cs t store j clock b p q a note e h same.
          let x = step_handles b p clock s new cs t store j note a e in
          rw x.1 (passes (settings_of s) (run cs (world s t store)).world.table b p clock (ap silent x.0 ∙ h) q same);
    }
