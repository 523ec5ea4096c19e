-- The large example: Length 4,096 leaves 4,076 bytes of attributes, and the 4,070 bytes of type 33 and the 6 of a usable type 55 are all of them. So
-- cause 402 applies, and the reply is head and authenticator, 20, Error-Cause in the place of type 55, 6, and every Proxy-State as it came, 4,070.
-- Assumes nothing.
use mathlib.Core.Path.{◌≡◌, refl, ap, ◌∙◌}
use mathlib.Core.Bool.{Bool, true, false, cond}
use mathlib.Core.List.{List, [], ◌∷◌, ◌++◌, Memᴰ}
use Prim.Native.Nat.{ℕ, suc, ◌+◌, ◌-◌}
use native.Mathlib.Omega.{arith}
use lib.ListN.{length, length-append}
use Rattle.std.specs.Prelude.{Some, None}
use Rattle.octet_numbers.proofs.Numbers.{length-be_bytes}
use Rattle.octet_numbers.proofs.Part.{length_part}
use Rattle.attr_walk.specs.declared.Attribute.{Attribute}
use Rattle.attr_walk.specs.declared.Step.TheVariants.{Found}
use Rattle.attr_walk.specs.Attributes.{step_at, attributes, tiled, any, count_of, kind_is}
use Rattle.attr_walk.proofs.Steps.{step_inv}
use Rattle.attr_walk.proofs.Stands.{member_stands}
use Rattle.rule_stamp.specs.Stamp.{stamp_of, stale, skew_of}
use Rattle.rule_causes.specs.declared.cause.Cause.TheVariants.{MissingAttribute}
use Rattle.rule_verdict.specs.declared.Verdict.TheVariants as J
use Rattle.packet_form.specs.Packet.{length_of, area_of}
use Rattle.nas_settings.specs.Settings.{Settings}
use Rattle.packet_form.specs.Discards.{bad_length, bad_code, bad_attributes, form_of}
use Rattle.rule_verdict.specs.Discards.{signed_by}
use Rattle.rule_verdict.specs.Verdict.{fresh_verdict, check_verdict, verdict_of}
use Rattle.packet_form.proofs.Forms.{good_sized}
use Rattle.das_reply_parts.specs.Reply.{as_came, cause_part, proxies_in, proxy_part, reply_length}
use Rattle.das_reply.proofs.Sums.{first_size}
use Rattle.das_reply.proofs.Judged.{stamp_six}
use Rattle.das_answer.specs.declared.Answer.TheVariants.{Nak}
use Rattle.das_handle.specs.Refusals.{refusal_of}
use Rattle.das_handle.specs.Handle.{handle_answer}
use Rattle.thm_examples.specs.Sizes.{bytes_of_type, empty_of}
use Rattle.thm_examples.proofs.Alone.{other, no_other}
use Rattle.thm_examples.proofs.Missed.{none_kind, cause_missing}
use Rattle.thm_examples.proofs.Absent.{no_mac, length_rest}

-- ---- every Proxy-State comes back whole

came_whole : (s : List ℕ) (a : Attribute) → step_at s a.at ≡ Found a (a.at + a.size) → length (as_came s a) ≡ a.size
came_whole s a q = let p = step_inv s a.at a (a.at + a.size) q in length_part a.at a.size s (omega arith)

one_more : (t : Bool) (came rest : List ℕ) (z n : ℕ) → length came ≡ z → length rest ≡ n → length (cond t (came ++ rest) rest) ≡ cond t z 0 + n
one_more true came rest z n h g = rw length-append (omega arith)
one_more false came rest z n h g = omega arith

all_whole : (s : List ℕ) (l : List Attribute) → ((a : Attribute) → Memᴰ a l → step_at s a.at ≡ Found a (a.at + a.size))
    → length (proxies_in s l) ≡ bytes_of_type 33 l
all_whole s [] f = refl
all_whole s (a ∷ l) f =
    one_more (kind_is 33 a) (as_came s a) (proxies_in s l) a.size (bytes_of_type 33 l) (came_whole s a (f a (Memᴰ.head refl)))
    (all_whole s l (λ b m. f b (Memᴰ.tail m)))

length_proxies : (s : List ℕ) → length (proxy_part s) ≡ bytes_of_type 33 (attributes s)
unfolding proxy_part
length_proxies s = all_whole s (attributes s) (λ a m. member_stands s 0 a m)

length_cause : length (cause_part (Some MissingAttribute)) ≡ 6
unfolding cause_part
length_cause = ap (λ (k : ℕ). suc (suc k)) (length-be_bytes 4 _)

-- ---- the packet

module _ (g : Settings) (p : List ℕ) (clock stamp : ℕ) (sized : bad_length p ≡ false) (coded : bad_code p ≡ false) (tiles : tiled (area_of p) ≡ true)
    (long : length_of p ≡ 4096)
    (once : count_of (kind_is 55) (attributes (area_of p)) ≡ 1) (echoed : bytes_of_type 33 (attributes (area_of p)) ≡ 4070)
    (filled : any (empty_of 33) (attributes (area_of p)) ≡ false)
    (signed : signed_by g.secret p ≡ true) (usable : stamp_of (area_of p) ≡ Some stamp) (fresh : stale stamp clock ≡ false) where
  alone : any other (attributes (area_of p)) ≡ false
  alone =
      let z = good_sized p (length_of p) sized refl in
      let low = z.low in
      let given = z.given in
      let size : length (area_of p) ≡ length_of p - 20 = length_part 20 (length_of p - 20) p (omega arith) in
      no_other (area_of p) 4070 (omega arith) echoed
      (omega (arith, stamp_six (area_of p) stamp usable, first_size (kind_is 55) (attributes (area_of p))))

  no_24 : any (kind_is 24) (attributes (area_of p)) ≡ false
  no_24 = none_kind (area_of p) alone filled 24 refl refl

  no_80 : any (kind_is 80) (attributes (area_of p)) ≡ false
  no_80 = none_kind (area_of p) alone filled 80 refl refl

  whole_length : reply_length p (Some MissingAttribute) ≡ 4096
  whole_length = length_rest p (Some MissingAttribute) no_24 no_80 ∙ omega (arith, length_cause, length_proxies (area_of p))

  verdict : verdict_of g true p clock ≡ J.Nak MissingAttribute (skew_of stamp clock)
  unfolding verdict_of form_of bad_attributes check_verdict fresh_verdict
  verdict = rw (sized, coded, tiles, no_mac p no_80, usable, fresh, cause_missing (area_of p) alone filled once)

  pub echo : (t b : List ℕ) → refusal_of g t b ≡ None → handle_answer g t b p clock ≡ Nak MissingAttribute (skew_of stamp clock) 4096
  unfolding handle_answer
  echo t b h = rw (h, signed, verdict, whole_length)
