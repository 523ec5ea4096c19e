-- "Bytes after Length are padding and ignored." (document 01, "The packet"), as one record: handling, opening and the reply check give for any
-- packet what they give for its first Length bytes. So a buffer as our writer or our gate left it, a packet at its start and older bytes after that,
-- is as good as the packet alone.
-- Assumes nothing.
use Rattle.std.specs.Prelude.{true, false, List, ◌++◌, ◌≡◌, ℕ, take, None, Ok}
use Rattle.nas_settings.specs.Settings.{Settings}
use Rattle.packet_auth.specs.Signing.{zeros}
use Rattle.packet_form.specs.Packet.{length_of}
use Rattle.packet_form.specs.Discards.{bad_length, form_of}
use Rattle.packet_mac.specs.Discards.{bad_mac}
use Rattle.rule_verdict.specs.Discards.{signed_by}
use Rattle.das_answer.specs.declared.Answer.{Answer}
use Rattle.das_answer.specs.Replied.{silent}
use Rattle.das_handle.specs.Handle.{handle_answer, handle_table, handle_reply}
use Rattle.dac_write.specs.Writer.{Draft, write_refusal, request_of, write_output}
use Rattle.dac_check.specs.ReplyCheck.{check_answer}
use Rattle.sched_state.specs.declared.Scheduler as D
use Rattle.sched_state.specs.declared.Outcome.TheVariants.{Done}
use Rattle.sched_state.specs.Scheduler.{settings_of}
use Rattle.sched_state.specs.Calls.{open_called, open_store}
use Rattle.sched_state.specs.Runs.{Call, Step, call, run}
use Rattle.thm_serial.specs.Serial.{noted, note_at}
use Rattle.thm_serial.specs.Demand3.{world, serially, New}

-- the first Length bytes of a packet: all its bytes, where it has fewer
abbrev pub unpadded : List ℕ → List ℕ
unpadded p = take (length_of p) p

pub record Padding : Type 0 where
  -- what follows a packet that does not meet D1 is cut off
  pub cut : (p x : List ℕ) → bad_length p ≡ false → unpadded (p ++ x) ≡ unpadded p
  -- a request handled whole, with or without its padding: the same answer, table and reply buffer
  pub answer : (g : Settings) (t b p : List ℕ) (clock : ℕ) → handle_answer g t b p clock ≡ handle_answer g t b (unpadded p) clock
  pub table : (g : Settings) (t b p : List ℕ) (clock : ℕ) → handle_table g t b p clock ≡ handle_table g t b (unpadded p) clock
  pub reply : (g : Settings) (t b p : List ℕ) (clock : ℕ) → handle_reply g t b p clock ≡ handle_reply g t b (unpadded p) clock
  -- a request opened: the same scheduler, answer and packet store
  pub opened : (s : D.Scheduler) (p : List ℕ) (clock : ℕ) (store : List ℕ) → open_called s p clock store ≡ open_called s (unpadded p) clock store
  pub stored : (s : D.Scheduler) (p store : List ℕ) → open_store s p store ≡ open_store s (unpadded p) store
  -- a reply checked: the same result with or without padding after the request q, and after the reply r
  pub request_checked : (secret q r : List ℕ) → check_answer secret q r ≡ check_answer secret (unpadded q) r
  pub reply_checked : (secret q r : List ℕ) → check_answer secret q r ≡ check_answer secret q (unpadded r)
  -- the output buffer of our writer, as the call left it, is the request with padding after it, and as a request it meets none of D1 to D5
  pub output : (secret out : List ℕ) (d : Draft) → write_refusal secret out d ≡ None → unpadded (write_output secret out d) ≡ request_of secret d
  pub accepted : (secret out : List ℕ) (d : Draft) → write_refusal secret out d ≡ None
      → (form_of (write_output secret out d) ≡ None) × (signed_by secret (write_output secret out d) ≡ true)
      × (bad_mac zeros secret (write_output secret out d) ≡ false)
  -- the reply buffer of our gate, as the call left it, passes our reply check. The gate was given p; q is the same request, whatever its padding
  pub passes : (g : Settings) (t b p q : List ℕ) (clock : ℕ) → silent (handle_answer g t b p clock) ≡ false → unpadded q ≡ unpadded p
      → check_answer g.secret q (handle_reply g t b p clock) ≡ Ok tt
  -- and so does that of a step which finishes the request p, after any list of calls on a newly made scheduler
  pub step_passes : (s : D.Scheduler) → New s → (cs : List Call) (t store : List ℕ) (j clock : ℕ) (b p q : List ℕ) (a : Answer)
      → note_at (serially cs s t store).serial.notes j ≡ noted p clock
      → (call (Step j b) (run cs (world s t store)).world).out.outcome ≡ Done a → silent a ≡ false → unpadded q ≡ unpadded p
      → check_answer (settings_of s).secret q (call (Step j b) (run cs (world s t store)).world).out.reply ≡ Ok tt
