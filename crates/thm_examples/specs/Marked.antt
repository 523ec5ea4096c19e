-- Document 01's marked examples as one table, in its order and words, of a packet p at any gate g and clock; D1 to D3 whether it is rightly signed
-- or not.
-- Assumes nothing.
use Rattle.std.specs.Prelude.{Bool, true, false, List, [], ◌∷◌, ◌++◌, ◌≡◌, ℕ, ◌+◌, ◌≤◌, ◌<◌, ℤ, pos, neg_ℤ, length, get_or, Some, None}
use Rattle.octet_numbers.specs.Numbers.{be}
use Rattle.octet_numbers.specs.Runs.{write}
use Rattle.attr_walk.specs.declared.Attribute.{Attribute}
use Rattle.attr_walk.specs.Attributes.{attributes, tiled, value_of, any, first_of, count_of, kind_is}
use Rattle.packet_blocks.specs.Block.{block_count}
use Rattle.table_slots.specs.Slot.{slot_count, slot, live, down_rate, up_rate}
use Rattle.rule_stamp.specs.Stamp.{stamp_of, stale, skew_of}
use Rattle.rule_causes.specs.declared.cause.Cause.TheVariants.{MissingAttribute, SessionNotFound}
use Rattle.refusals.specs.declared.Discard.TheVariants as R
use Rattle.rule_verdict.specs.declared.Verdict.TheVariants.{Discarded, Stale}
use Rattle.packet_form.specs.Packet.{code_of, identifier_of, length_of, area_of}
use Rattle.nas_settings.specs.Settings.{Settings}
use Rattle.packet_form.specs.Discards.{bad_length, bad_code}
use Rattle.rule_verdict.specs.Discards.{signed_by}
use Rattle.rule_verdict.specs.Verdict.{fresh_verdict, stamp_verdict, verdict_of}
use Rattle.das_reply_parts.specs.Reply.{proxy_part, reply_auth}
use Rattle.das_effects.specs.Matching.{matches_in}
use Rattle.das_answer.specs.declared.Answer.TheVariants.{Nak, Ack}
use Rattle.das_handle.specs.Refusals.{refusal_of}
use Rattle.das_handle.specs.Handle.{handle_answer, handle_table, handle_reply}
use Rattle.thm_examples.specs.Sizes.{bytes_of_type, empty_of}

pub record Marked (g : Settings) (signed : Bool) (p : List ℕ) (clock : ℕ) : Type 0 where
  -- 19 bytes, D1
  pub few_bytes : length p ≡ 19 → verdict_of g signed p clock ≡ Discarded R.Length
  -- Length 19, D1
  pub low_length : length_of p ≡ 19 → verdict_of g signed p clock ≡ Discarded R.Length
  -- Code 41 with Length 20, D2
  pub other_code : 20 ≤ length p → code_of p ≡ 41 → length_of p ≡ 20 → verdict_of g signed p clock ≡ Discarded R.Code
  -- Attributes 01 01, D3, where neither D1 nor D2 applies
  pub length_one : bad_length p ≡ false → bad_code p ≡ false → area_of p ≡ 0x01 ∷ 0x01 ∷ [] → verdict_of g signed p clock ≡ Discarded R.Attributes
  -- No attributes: they tile
  pub no_attributes : tiled [] ≡ true
  -- Blocks for 55, 56 and 4,160 bytes: 1, 2, 66
  pub one_block : block_count 55 ≡ 1
  pub two_blocks : block_count 56 ≡ 2
  pub most_blocks : block_count 4160 ≡ 66
  -- Stamp 300 below the clock passes D6, and the causes are next
  pub near : (stamp : ℕ) → stamp_verdict g p (stamp + 300) (Some stamp) ≡ fresh_verdict g.nas_ip g.nas_id p (neg_ℤ (pos 300))
  -- 301 below is D6, skew -301
  pub far : (stamp : ℕ) → stamp_verdict g p (stamp + 301) (Some stamp) ≡ Stale (neg_ℤ (pos 301))
  -- Stamp 4294967295 at clock 0: D6, skew 4294967295
  pub farthest : stamp_verdict g p 0 (Some 4294967295) ≡ Stale (pos 4294967295)
  -- Bytes 00 01 00 D4 are 65,748
  pub number : be 0 4 (0x00 ∷ 0x01 ∷ 0x00 ∷ 0xD4 ∷ []) ≡ 65748
  -- A slot with User-Name length 0 is free
  pub no_name : (slot : List ℕ) → get_or slot 18 0 ≡ 0 → live slot ≡ false
  -- Length 4,096 with one type 55 and 4,070 bytes of type 33, none empty, rightly signed, fresh and without type 80: NAK 402 of 4,096 bytes.
  -- Of every call that is not refused, where none of D1 to D3 applies; a usable type 55 has the other 6 bytes, so no type 80 has room
  pub full_echo : (t b : List ℕ) (stamp : ℕ) → refusal_of g t b ≡ None → bad_length p ≡ false → bad_code p ≡ false → tiled (area_of p) ≡ true
      → length_of p ≡ 4096 → count_of (kind_is 55) (attributes (area_of p)) ≡ 1 → bytes_of_type 33 (attributes (area_of p)) ≡ 4070
      → any (empty_of 33) (attributes (area_of p)) ≡ false
      → signed_by g.secret p ≡ true → stamp_of (area_of p) ≡ Some stamp → stale stamp clock ≡ false
      → handle_answer g t b p clock ≡ Nak MissingAttribute (skew_of stamp clock) 4096
  -- A whole NAK 503 to Disconnect identifier 7 with Proxy-State 41 (one hex byte), no State, no 80:
  -- 2A 07 00 1D, sixteen authenticator bytes, 65 06 00 00 01 F7 21 03 41.
  -- It stands at the start of the reply buffer b, and the answer tells its 29 bytes
  pub session_not_found : (t b : List ℕ) (skew : ℤ) (n : ℕ) → handle_answer g t b p clock ≡ Nak SessionNotFound skew n
      → code_of p ≡ 40 → identifier_of p ≡ 7 → proxy_part (area_of p) ≡ 0x21 ∷ 0x03 ∷ 0x41 ∷ []
      → any (kind_is 24) (attributes (area_of p)) ≡ false → any (kind_is 80) (attributes (area_of p)) ≡ false
      → (handle_reply g t b p clock
      ≡ write b 0 ((0x2A ∷ 0x07 ∷ 0x00 ∷ 0x1D ∷ []) ++ reply_auth g.secret p (Some SessionNotFound)
      ++ (0x65 ∷ 0x06 ∷ 0x00 ∷ 0x00 ∷ 0x01 ∷ 0xF7 ∷ 0x21 ∷ 0x03 ∷ 0x41 ∷ [])))
      × (length (reply_auth g.secret p (Some SessionNotFound)) ≡ 16) × (n ≡ 29)
  -- Of request 01: a CoA with vendor 32473 and the items 03 08 01 06 00 00 FA 00 sets the down rate to 64,000 and leaves the up rate,
  -- in every matching session
  pub rate : (t b : List ℕ) (m n k : ℕ) (skew : ℤ) (a : Attribute) → handle_answer g t b p clock ≡ Ack m skew n → code_of p ≡ 43
      → first_of (kind_is 26) (attributes (area_of p)) ≡ Some a
      → value_of (area_of p) a ≡ 0x00 ∷ 0x00 ∷ 0x7E ∷ 0xD9 ∷ 0x03 ∷ 0x08 ∷ 0x01 ∷ 0x06 ∷ 0x00 ∷ 0x00 ∷ 0xFA ∷ 0x00 ∷ []
      → k < slot_count t → matches_in (area_of p) t k ≡ true
      → (down_rate (slot k (handle_table g t b p clock)) ≡ 64000) × (up_rate (slot k (handle_table g t b p clock)) ≡ up_rate (slot k t))

pub record MarkedExamples : Type 0 where
  pub table : (g : Settings) (signed : Bool) (p : List ℕ) (clock : ℕ) → Marked g signed p clock
