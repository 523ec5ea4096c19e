-- Demand 2, as one record: "Requests are judged by RFC 3576 with RFC 2865, as 01 condenses them: discarded exactly for the causes D1 to D6,
-- answered NAK with the first cause that applies, else acknowledged, with exactly the matching sessions ended or altered."
-- g is what the gate is set up with, t the table, b the reply buffer, p the request, clock the clock reading. The code's contract is these
-- definitions.
-- Assumes nothing.
use Rattle.std.specs.Prelude.{true, false, cond, List, ◌++◌, ◌≡◌, ℕ, ◌+◌, ◌≤◌, ◌<◌, ℤ, length, get_or, replicate, Option, Some, None, is_some, Ok}
use Rattle.octet_numbers.specs.Numbers.{be}
use Rattle.octet_numbers.specs.Runs.{write}
use Rattle.attr_walk.specs.declared.Attribute.{Attribute}
use Rattle.attr_walk.specs.Attributes.{attributes, value_of, first_of, kind_is}
use Rattle.packet_auth.specs.Signing.{zeros, authenticator}
use Rattle.table_slots.specs.Slot.{slot_count, slot, live, nas_port, framed_address, session_timeout, idle_timeout, user_name, session_id}
use Rattle.table_slots.specs.Slot.{calling_station, filter_id, down_rate, up_rate}
use Rattle.table_change.specs.Change.{altered}
use Rattle.refusals.specs.declared.Refusal.{Refusal}
use Rattle.rule_causes.specs.declared.cause.Cause.{Cause}
use Rattle.packet_form.specs.Packet.{code_of, identifier_of, length_of, auth_of, area_of}
use Rattle.nas_settings.specs.Settings.{Settings}
use Rattle.packet_form.specs.Discards.{form_of}
use Rattle.packet_mac.specs.Discards.{bad_mac}
use Rattle.rule_verdict.specs.Discards.{signed_by}
use Rattle.rule_verdict.specs.Verdict.{verdict_of}
use Rattle.packet_write.specs.Packets.{mac_valued}
use Rattle.das_reply_parts.specs.Reply.{state_part, cause_part, proxy_part, maced, reply_mac, reply_of}
use Rattle.das_effects.specs.Matching.{matches_in, match_count}
use Rattle.das_effects.specs.Changes.{alteration_of, rates_named}
use Rattle.das_answer.specs.declared.Answer.TheVariants.{Refused, Nak, Ack}
use Rattle.das_handle.specs.Refusals.{refusal_of}
use Rattle.das_handle.specs.Handle.{answer_of, handle_answer, handle_table, handle_reply}
use Rattle.dac_write.specs.Writer.{Draft, write_refusal, request_of, write_answer, write_output}
use Rattle.dac_check.specs.ReplyCheck.{check_answer}
use Rattle.das_answer.specs.Replied.{silent, reply_size}

-- a list of bytes
abbrev pub Bytes : List ℕ → Type 0
Bytes l = (i : ℕ) → get_or l i 0 < 256

-- exactly the named fields of a session have the new values: s is the slot before, s' after; the numbers with all 32 bits
pub record Altered (area s s' : List ℕ) : Type 0 where
  -- its bytes: only the fields that the request names are written
  pub bytes : s' ≡ altered area (alteration_of area) s
  -- and so its fields
  pub timeout : (a : Attribute) → first_of (kind_is 27) (attributes area) ≡ Some a → Bytes area → session_timeout s' ≡ be (a.at + 2) 4 area
  pub timeout_same : first_of (kind_is 27) (attributes area) ≡ None → session_timeout s' ≡ session_timeout s
  pub idle : (a : Attribute) → first_of (kind_is 28) (attributes area) ≡ Some a → Bytes area → idle_timeout s' ≡ be (a.at + 2) 4 area
  pub idle_same : first_of (kind_is 28) (attributes area) ≡ None → idle_timeout s' ≡ idle_timeout s
  pub filter : (a : Attribute) → first_of (kind_is 11) (attributes area) ≡ Some a → filter_id s' ≡ value_of area a
  pub filter_same : first_of (kind_is 11) (attributes area) ≡ None → filter_id s' ≡ filter_id s
  -- the rates that its Vendor-Specific attribute (26) sets, and no other
  pub down : (v : ℕ) → (rates_named area).down ≡ Some v → Bytes area → down_rate s' ≡ v
  pub down_same : (rates_named area).down ≡ None → down_rate s' ≡ down_rate s
  pub up : (v : ℕ) → (rates_named area).up ≡ Some v → Bytes area → up_rate s' ≡ v
  pub up_same : (rates_named area).up ≡ None → up_rate s' ≡ up_rate s
  pub port_same : nas_port s' ≡ nas_port s
  pub address_same : framed_address s' ≡ framed_address s
  pub user_same : user_name s' ≡ user_name s
  pub id_same : session_id s' ≡ session_id s
  pub station_same : calling_station s' ≡ calling_station s
  pub still_live : live s' ≡ true

-- a reply r to the request p, of an ACK (None) or of the NAK with this cause
pub record Carries (secret p r : List ℕ) (c : Option Cause) : Type 0 where
  pub code : code_of r ≡ code_of p + cond (is_some c) 2 1
  pub identifier : identifier_of r ≡ identifier_of p
  pub authentic : auth_of r ≡ authenticator (auth_of p) r (length_of r) secret
  -- the first State, Error-Cause on NAK, every Proxy-State in order, and type 80 if the request had one
  pub body : area_of r ≡ (state_part (area_of p) ++ cause_part c ++ proxy_part (area_of p)) ++ mac_valued (maced p) (reply_mac secret p c)
  -- it passes our reply check
  pub passes : check_answer secret p r ≡ Ok tt

-- one request, handled whole
pub record Judging (g : Settings) (t b p : List ℕ) (clock : ℕ) : Type 0 where
  -- a refusal comes before any judgement; else the verdict of D1 to D6 and causes 1 to 6, and after it cause 7, decide
  pub refused : (n : Refusal) → refusal_of g t b ≡ Some n → handle_answer g t b p clock ≡ Refused n
  pub judged : refusal_of g t b ≡ None → handle_answer g t b p clock ≡ answer_of p t (verdict_of g (signed_by g.secret p) p clock)
  -- a discard or a refusal leaves table and reply as they were; a NAK leaves the table
  pub silent_table : silent (handle_answer g t b p clock) ≡ true → handle_table g t b p clock ≡ t
  pub silent_reply : silent (handle_answer g t b p clock) ≡ true → handle_reply g t b p clock ≡ b
  pub nak_table : (c : Cause) (skew : ℤ) (n : ℕ) → handle_answer g t b p clock ≡ Nak c skew n → handle_table g t b p clock ≡ t
  -- the reply stands at the buffer's start, the bytes after it stay, its length is the one told, and it is never longer than the request
  pub nak_reply : (c : Cause) (skew : ℤ) (n : ℕ) → handle_answer g t b p clock ≡ Nak c skew n
      → handle_reply g t b p clock ≡ write b 0 (reply_of g.secret p (Some c))
  pub ack_reply : (m : ℕ) (skew : ℤ) (n : ℕ) → handle_answer g t b p clock ≡ Ack m skew n
      → handle_reply g t b p clock ≡ write b 0 (reply_of g.secret p None)
  pub nak_size : (c : Cause) (skew : ℤ) (n : ℕ) → handle_answer g t b p clock ≡ Nak c skew n → length (reply_of g.secret p (Some c)) ≡ n
  pub ack_size : (m : ℕ) (skew : ℤ) (n : ℕ) → handle_answer g t b p clock ≡ Ack m skew n → length (reply_of g.secret p None) ≡ n
  pub never_longer : reply_size (handle_answer g t b p clock) ≤ length_of p
  pub carries : silent (handle_answer g t b p clock) ≡ false → (c : Option Cause) → Carries g.secret p (reply_of g.secret p c) c
  -- an ACK: the count is that of the matching live slots, and all others stay
  pub count : (m : ℕ) (skew : ℤ) (n : ℕ) → handle_answer g t b p clock ≡ Ack m skew n → m ≡ match_count (area_of p) t
  pub others : (k : ℕ) → k < slot_count t → matches_in (area_of p) t k ≡ false → slot k (handle_table g t b p clock) ≡ slot k t
  -- after an ACK of a Disconnect the 192 bytes of each matching session are zero
  pub ended : (m : ℕ) (skew : ℤ) (n : ℕ) → handle_answer g t b p clock ≡ Ack m skew n → code_of p ≡ 40
      → (k : ℕ) → k < slot_count t → matches_in (area_of p) t k ≡ true → slot k (handle_table g t b p clock) ≡ replicate 192 0
  -- after an ACK of a CoA exactly the named fields of the matching sessions have the new values
  pub alters : (m : ℕ) (skew : ℤ) (n : ℕ) → handle_answer g t b p clock ≡ Ack m skew n → code_of p ≡ 43
      → (k : ℕ) → k < slot_count t → matches_in (area_of p) t k ≡ true → Altered (area_of p) (slot k t) (slot k (handle_table g t b p clock))

pub record Demand2 : Type 0 where
  pub judging : (g : Settings) (t b p : List ℕ) (clock : ℕ) → Judging g t b p clock
  -- a request that our writer does not refuse stands at the output's start, its length is the one told, and it never meets D1 to D5 under the
  -- same secret
  pub written : (secret out : List ℕ) (d : Draft) → write_refusal secret out d ≡ None
      → (write_answer secret out d ≡ Ok (length (request_of secret d))) × (write_output secret out d ≡ write out 0 (request_of secret d))
  pub accepted : (secret out : List ℕ) (d : Draft) → write_refusal secret out d ≡ None
      → (form_of (request_of secret d) ≡ None) × (signed_by secret (request_of secret d) ≡ true)
      × (bad_mac zeros secret (request_of secret d) ≡ false)
