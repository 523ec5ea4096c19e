-- The marked examples hold: each is worked out from the definitions, D1 to D3 in their order, and the two whole packets by their laws.
-- Assumes nothing.
use mathlib.Core.Bool.{Bool, true, false, or-true, and-false}
use mathlib.Core.List.{List}
use mathlib.Core.Path.{◌≡◌, refl, ap}
use Prim.Native.Nat.{ℕ, suc, ◌+◌, ◌-◌, ◌≤◌}
use native.Mathlib.Omega.{arith}
use borrow.Author.Tests.{lt-ltb, le-ltb}
use lib.Dec.{ltb}
use lib.IntN.{negsuc, sub_ℕ}
use lib.ListN.{length}
use Rattle.octet_numbers.specs.Numbers.{be}
use Rattle.attr_walk.specs.Attributes.{step_at, walk_from}
use Rattle.packet_blocks.specs.Block.{block_count}
use Rattle.table_slots.specs.Slot.{live, within}
use Rattle.rule_stamp.specs.Stamp.{stale, skew_of}
use Rattle.packet_form.specs.Packet.{length_of}
use Rattle.nas_settings.specs.Settings.{Settings}
use Rattle.packet_form.specs.Discards.{bad_length, bad_code, bad_attributes, form_of}
use Rattle.rule_verdict.specs.Verdict.{verdict_of}
use Rattle.thm_examples.specs.Marked.{Marked, MarkedExamples}
use Rattle.thm_examples.proofs.Echoed.{echo}
use Rattle.thm_examples.proofs.Naks.{nak_503}
use Rattle.thm_examples.proofs.Rated.{down_rate_lem, up_rate_lem}

-- D1 by each of two of its parts
few : (p : List ℕ) → length p ≡ 19 → bad_length p ≡ true
unfolding bad_length
few p h = rw h

low : (p : List ℕ) → length_of p ≡ 19 → bad_length p ≡ true
unfolding bad_length
low p h = rw (h, or-true)

sound : (p : List ℕ) → 20 ≤ length p → length_of p ≡ 20 → bad_length p ≡ false
unfolding bad_length
sound p h e = rw (e, le-ltb (length p) 20 h)

-- a clock later than the stamp by a fixed time
later_skew : (stamp d : ℕ) → sub_ℕ stamp (stamp + suc d) ≡ negsuc d
later_skew stamp d = rw (lt-ltb stamp (stamp + suc d) (omega arith)) (ap negsuc (omega arith))

later-stale : (stamp d : ℕ) → stale stamp (stamp + d) ≡ ltb 300 d
unfolding stale
later-stale stamp d = let e : (stamp - (stamp + d)) + (stamp + d - stamp) ≡ d = omega arith in ap (ltb 300) e

marked : (g : Settings) (signed : Bool) (p : List ℕ) (clock : ℕ) → Marked g signed p clock
unfolding verdict_of form_of bad_code bad_attributes be step_at walk_from block_count live within stale skew_of
marked g signed p clock =
    record {
      few_bytes = λ h. rw (few p h);
      low_length = λ h. rw (low p h);
      other_code = λ h c e. rw (sound p h e, c);
      length_one = λ h c e. rw (h, c, e);
      no_attributes = refl;
      one_block = refl;
      two_blocks = refl;
      most_blocks = refl;
      near = λ stamp. rw (later-stale stamp 300, later_skew stamp 299);
      far = λ stamp. rw (later-stale stamp 301, later_skew stamp 300);
      farthest = refl;
      number = refl;
      no_name = λ slot h. rw (h, and-false, and-false);
      full_echo = λ t b stamp h sized coded tiles long once echoed filled signed usable fresh.
          echo g p clock stamp sized coded tiles long once echoed filled signed usable fresh t b h;
      session_not_found = λ t b skew n told c i proxies no_24 no_80. nak_503 g t b p clock skew n told no_24 no_80 proxies c i;
      rate = λ t b m n k skew a ack code first value l h.
          (down_rate_lem g p clock t b m n k skew a ack code first value l h, up_rate_lem g p clock t b m n k skew a ack code first value l h);
    }

pub examples : MarkedExamples
examples = record { table = marked }
