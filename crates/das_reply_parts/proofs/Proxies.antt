-- The loop that copies the Proxy-States: those left from a place on, written from here on, give what all give. Each turn writes the one that is found, or none.
-- Assumes nothing.
use mathlib.Core.Path.{◌≡◌, refl, sym, ap, ◌∙◌}
use mathlib.Core.List.{List, [], ◌++◌}
use Prim.Native.Nat.{ℕ, ◌+◌, ◌≤◌}
use native.Mathlib.Omega.{arith}
use borrow.Author.Tests.{eq-eqb, ne_eqb}
use lib.ListN.{length, length-append}
use Rattle.octet_numbers.specs.Runs.{write}
use Rattle.octet_numbers.proofs.Write.{length-write, write_nil, write-append}
use Rattle.attr_walk.specs.declared.Attribute.{Attribute}
use Rattle.attr_walk.specs.declared.Step.{Step}
use Rattle.attr_walk.specs.declared.Step.TheVariants.{Found, End, Bad}
use Rattle.attr_walk.specs.Attributes.{step_at, attributes_from}
use Rattle.attr_walk.proofs.Steps.{found_placed}
use Rattle.attr_walk.proofs.Walks.{advance, left_found, left_end, left_bad}
use Rattle.das_reply_parts.specs.Reply.{as_came, proxies_in, proxy_part}

-- t₀ with some of them written is t; the attributes from at on are left, and go to place to
pub record Copying (s t₀ : List ℕ) (from : ℕ) (t : List ℕ) (at to : ℕ) : Type 0 where
  pub long : length t ≡ length t₀
  pub room : to + length (proxies_in s (attributes_from s at)) ≡ from + length (proxy_part s)
  pub left : write t to (proxies_in s (attributes_from s at)) ≡ write t₀ from (proxy_part s)

pub copy_starts : (s t : List ℕ) (from : ℕ) → Copying s t from t 0 from
unfolding proxy_part
copy_starts s t from = record { long = refl; room = refl; left = refl }

module _ (s t₀ : List ℕ) (from : ℕ) (t : List ℕ) (at to : ℕ) (c : Copying s t₀ from t at to) (x : Step) (q : x ≡ step_at s at) where
  place : proxies_in s (attributes_from s at) ≡ [] → to ≡ from + length (proxy_part s)
  place e =
      let l : to + 0 ≡ from + length (proxy_part s) = rw e at c.room in
      omega arith

  whole : proxies_in s (attributes_from s at) ≡ [] → t ≡ write t₀ from (proxy_part s)
  whole e = write_nil t to ∙ ap (write t to) (sym e) ∙ c.left

  pub end_place : x ≡ End → to ≡ from + length (proxy_part s)
  end_place r = place (ap (proxies_in s) (left_end s at x q r))

  pub end_bytes : x ≡ End → t ≡ write t₀ from (proxy_part s)
  end_bytes r = whole (ap (proxies_in s) (left_end s at x q r))

  pub bad_place : x ≡ Bad → to ≡ from + length (proxy_part s)
  bad_place r = place (ap (proxies_in s) (left_bad s at x q r))

  pub bad_bytes : x ≡ Bad → t ≡ write t₀ from (proxy_part s)
  bad_bytes r = whole (ap (proxies_in s) (left_bad s at x q r))

  module _ (a : Attribute) (next : ℕ) (r : x ≡ Found a next) where
    -- it stands where it says
    pub copy_stands : step_at s a.at ≡ Found a (a.at + a.size)
    copy_stands =
        let p = found_placed s at next a x q r in
        ap (step_at s) p.place ∙ sym q ∙ r ∙ ap (Found a) (sym p.ends)

    pub copy_none : (a.kind ≡ 33 → ⊥) → Copying s t₀ from t next to
    copy_none h =
        let e : proxies_in s (attributes_from s at) ≡ proxies_in s (attributes_from s next) =
        ap (proxies_in s) (left_found s at x q next a r) ∙ rw (ne_eqb _ _ h) in
        record { long = c.long; room = rw e at c.room; left = rw e at c.left }

    module _ (h : a.kind ≡ 33) where
      split : proxies_in s (attributes_from s at) ≡ as_came s a ++ proxies_in s (attributes_from s next)
      split = ap (proxies_in s) (left_found s at x q next a r) ∙ rw (eq-eqb _ _ h)

      long_split : length (proxies_in s (attributes_from s at)) ≡ length (as_came s a) + length (proxies_in s (attributes_from s next))
      long_split = ap length split ∙ length-append (as_came s a) (proxies_in s (attributes_from s next))

      pub copy_fits : from + length (proxy_part s) ≤ length t₀ → to + length (as_came s a) ≤ length t
      copy_fits f = omega (arith, long_split, c.room, c.long)

      pub copy_one : (t' : List ℕ) (to' : ℕ) → t' ≡ write t to (as_came s a) → to' ≡ to + length (as_came s a) → Copying s t₀ from t' next to'
      copy_one t' to' e g =
          let rest = proxies_in s (attributes_from s next) in
          let w : write t' to' rest ≡ write t to (proxies_in s (attributes_from s at)) =
          rw (e, g) (sym (write-append t to (as_came s a) rest)) ∙ ap (write t to) (sym split) in
          record { long = ap length e ∙ length-write t to (as_came s a) ∙ c.long; room = omega (arith, long_split, c.room); left = w ∙ c.left }

pub ruleset copying = (advance, copy_starts, copy_stands, copy_none, copy_fits, copy_one, end_place, end_bytes, bad_place, bad_bytes)
