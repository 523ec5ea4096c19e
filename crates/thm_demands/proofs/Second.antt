-- Demand 2: the definitions say it, and each field follows from the laws on handling, on replies, on the sessions that are changed, and on requests
-- from our writer and replies to our check.
-- Assumes nothing.
use mathlib.Core.Path.{◌≡◌, refl, ap, ◌∙◌}
use mathlib.Core.Bool.{true, false}
use mathlib.Core.List.{List}
use Prim.Native.Nat.{ℕ, ◌<◌}
use lib.IntN.{ℤ}
use lib.ListN.{length, get_or, replicate}
use mir.Syntax.{w8}
use mir.Val.{Fits}
use Rattle.std.specs.Prelude.{None, Ok}
use Rattle.octet_numbers.specs.Runs.{write}
use Rattle.table_slots.specs.Slot.{slot_count, slot}
use Rattle.table_change.specs.Change.{changed}
use Rattle.table_change.specs.Change as S
use Rattle.rule_causes.proofs.Passed.{filter_first}
use Rattle.packet_form.specs.Packet.{code_of, area_of}
use Rattle.nas_settings.specs.Settings.{Settings}
use Rattle.das_effects.specs.Matching.{matches_in}
use Rattle.das_effects.specs.Changes.{alteration_of, change_of, change_matching}
use Rattle.das_effects.proofs.Outcomes.{slot_matching, slot_other}
use Rattle.das_effects.proofs.Altered as E
use Rattle.das_effects.proofs.Rated as Q
use Rattle.das_answer.specs.declared.Answer as D
use Rattle.das_answer.specs.declared.Answer.TheVariants as A
use Rattle.das_answer.specs.Replies.{reply_as}
use Rattle.das_handle.specs.Handle.{table_as, handle_answer, handle_table, handle_reply}
use Rattle.das_handle.proofs.Bounds.{reply_bound}
use Rattle.dac_write.specs.Writer.{Draft, write_refusal, request_of, write_answer, write_output}
use Rattle.thm_exchange.proofs.Requests.{written_form, written-signed, written-maced}
use Rattle.thm_exchange.proofs.Outputs.{length_request}
use Rattle.thm_demands.specs.Demand2.{Bytes, Altered, Judging, Demand2}
use Rattle.thm_demands.proofs.Handled.{refused, judged}
use Rattle.thm_demands.proofs.Carried.{nak_size, ack_size, carries}
use Rattle.thm_demands.proofs.Acked.{acked}
use Rattle.thm_demands.proofs.Silent.{silent_table_by, silent_reply_by}

others_by : (p t : List ℕ) (k : ℕ) (a : D.Answer) → k < slot_count t → matches_in (area_of p) t k ≡ false → slot k (table_as p t a) ≡ slot k t
others_by p t k (A.Refused n) l h = refl
others_by p t k (A.Discarded d) l h = refl
others_by p t k (A.Stale s) l h = refl
others_by p t k (A.Nak c s n) l h = refl
others_by p t k (A.Ack m s n) l h = slot_other (code_of p) (area_of p) t k l h

fits_byte : (l : List ℕ) → Bytes l → (i : ℕ) → Fits w8 (get_or l i 0)
fits_byte l h i = record { fits = h i }

module _ (g : Settings) (t b p : List ℕ) (clock : ℕ) where
  table_of : (a : D.Answer) → handle_answer g t b p clock ≡ a → handle_table g t b p clock ≡ table_as p t a
  unfolding handle_table
  table_of a e = ap (table_as p t) e

  reply_of_lem : (a : D.Answer) → handle_answer g t b p clock ≡ a → handle_reply g t b p clock ≡ reply_as g.secret p b a
  unfolding handle_reply
  reply_of_lem a e = ap (reply_as g.secret p b) e

  module _ (m n : ℕ) (skew : ℤ) (ack : handle_answer g t b p clock ≡ A.Ack m skew n) (k : ℕ) (l : k < slot_count t)
      (h : matches_in (area_of p) t k ≡ true) where
    after : (code : ℕ) → code_of p ≡ code → handle_table g t b p clock ≡ change_matching code (area_of p) t
    after code e = table_of (A.Ack m skew n) ack ∙ rw e

    ended : code_of p ≡ 40 → slot k (handle_table g t b p clock) ≡ replicate 192 0
    unfolding change_of changed
    ended e = rw (after 40 e) (slot_matching 40 (area_of p) t k l h)

    bytes : slot k (change_matching 43 (area_of p) t) ≡ S.altered (area_of p) (alteration_of (area_of p)) (slot k t)
    unfolding change_of changed
    bytes = slot_matching 43 (area_of p) t k l h

    altered_to : Altered (area_of p) (slot k t) (slot k (change_matching 43 (area_of p) t))
    altered_to =
        let no-cause = (acked g t p clock m n skew b ack).uncaused_by in
        record {
          bytes = bytes;
          timeout = λ a e y. E.timeout_after (area_of p) t k l h a e (fits_byte (area_of p) y);
          timeout_same = λ e. E.timeout_same (area_of p) t k l h e;
          idle = λ a e y. E.idle_after (area_of p) t k l h a e (fits_byte (area_of p) y);
          idle_same = λ e. E.idle_same (area_of p) t k l h e;
          filter = λ a e. E.filter_after (area_of p) t k l h a e (filter_first (code_of p) g.nas_ip g.nas_id (area_of p) no-cause 11 a e refl);
          filter_same = λ e. E.filter_same (area_of p) t k l h e;
          down = λ v e y. E.down_after (area_of p) t k l h v e (Q.down_below (area_of p) v y e);
          down_same = λ e. E.down_same (area_of p) t k l h e;
          up = λ v e y. E.up_after (area_of p) t k l h v e (Q.up_below (area_of p) v y e);
          up_same = λ e. E.up_same (area_of p) t k l h e;
          port_same = E.port_same (area_of p) t k l h;
          address_same = E.address_same (area_of p) t k l h;
          user_same = E.user_same (area_of p) t k l h;
          id_same = E.id_same (area_of p) t k l h;
          station_same = E.station_same (area_of p) t k l h;
          still_live = E.live-after (area_of p) t k l h;
        }

    alters : code_of p ≡ 43 → Altered (area_of p) (slot k t) (slot k (handle_table g t b p clock))
    alters e = rw (after 43 e) altered_to

judging : (g : Settings) (t b p : List ℕ) (clock : ℕ) → Judging g t b p clock
judging g t b p clock =
    record {
      refused = refused g t b p clock;
      judged = judged g t b p clock;
      silent_table = λ h. table_of g t b p clock (handle_answer g t b p clock) refl ∙ silent_table_by p t (handle_answer g t b p clock) h;
      silent_reply =
          λ h. reply_of_lem g t b p clock (handle_answer g t b p clock) refl ∙ silent_reply_by g.secret p b (handle_answer g t b p clock) h;
      nak_table = λ c skew n e. table_of g t b p clock (A.Nak c skew n) e;
      nak_reply = λ c skew n e. reply_of_lem g t b p clock (A.Nak c skew n) e;
      ack_reply = λ m skew n e. reply_of_lem g t b p clock (A.Ack m skew n) e;
      nak_size = nak_size g t b p clock;
      ack_size = ack_size g t b p clock;
      never_longer = reply_bound g t b p clock;
      carries = carries g t b p clock;
      count = λ m skew n e. (acked g t p clock m n skew b e).count;
      others = λ k l h. ap (slot k) (table_of g t b p clock (handle_answer g t b p clock) refl) ∙ others_by p t k (handle_answer g t b p clock) l h;
      ended = λ m skew n e code k l h. ended g t b p clock m n skew e k l h code;
      alters = λ m skew n e code k l h. alters g t b p clock m n skew e k l h code;
    }

written : (secret out : List ℕ) (d : Draft) → write_refusal secret out d ≡ None
    → (write_answer secret out d ≡ Ok (length (request_of secret d))) × (write_output secret out d ≡ write out 0 (request_of secret d))
unfolding write_answer write_output
written secret out d h = (rw (h, length_request secret d), rw h)

pub demand2 : Demand2
demand2 =
    record {
      judging = judging;
      written = written;
      accepted = λ secret out d h. (written_form secret out d h, written-signed secret out d h, written-maced secret out d h);
    }
