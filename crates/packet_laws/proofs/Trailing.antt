-- Type 80 after attributes that have none: it is the only one and the last, and the others stand as before. Assumes nothing.
use mathlib.Core.Path.{◌≡◌, ◌∙◌}
use mathlib.Core.Bool.{Bool, true, false}
use mathlib.Core.List.{List, [], ◌∷◌, ◌++◌}
use Prim.Native.Nat.{ℕ, ◌+◌, ◌≤◌}
use native.Mathlib.Omega.{arith}
use lib.ListN.{length}
use Rattle.attr_walk.specs.declared.Attribute.{Attribute}
use Rattle.attr_walk.specs.Attributes.{attributes, value_of, tiled, first_of, count_of, kind_is, shifted, bytes_of}
use Rattle.attr_walk.proofs.Areas.{tiled_both, attributes-append, nil_tiled, nil_attributes, bytes_tiled, bytes_attributes, bytes_value, value_after, lone}
use Rattle.attr_walk.proofs.Searches.{any_none, count_append, first_after}
use Rattle.packet_write.specs.Packets.{mac_valued}
use Rattle.packet_laws.proofs.Plain.{Plain}

-- the attribute itself, and where it is present the list of it
abbrev pub trailing : List ℕ → List ℕ → Attribute
trailing body mac = shifted (length body) (lone 80 mac)

abbrev pub trailer : Bool → List ℕ → List ℕ → List Attribute
trailer true body mac = trailing body mac ∷ []
trailer false body mac = []

module _ (body mac : List ℕ) (plain : Plain body) (long : length mac ≡ 16) where
  as_bytes : mac_valued true mac ≡ bytes_of 80 mac
  unfolding mac_valued
  as_bytes = let e : length mac + 2 ≡ 18 = omega arith in rw e

  pub trailing_attributes : (present : Bool) → attributes (body ++ mac_valued present mac) ≡ attributes body ++ trailer present body mac
  unfolding mac_valued
  trailing_attributes true = rw (attributes-append body (mac_valued true mac) plain.tiles, as_bytes, bytes_attributes 80 mac)
  trailing_attributes false = rw (attributes-append body [] plain.tiles, nil_attributes)

  pub trailing_tiled : (present : Bool) → tiled (body ++ mac_valued present mac) ≡ true
  unfolding mac_valued
  trailing_tiled true = tiled_both body (mac_valued true mac) plain.tiles (rw as_bytes (bytes_tiled 80 mac))
  trailing_tiled false = tiled_both body [] plain.tiles nil_tiled

  pub trailing_first : (present : Bool) → first_of (kind_is 80) (attributes (body ++ mac_valued present mac)) ≡ first_of (kind_is 80) (trailer present body mac)
  trailing_first present = rw (trailing_attributes present) (first_after (kind_is 80) (attributes body) (trailer present body mac) plain.none)

  few : (present : Bool) → count_of (kind_is 80) (trailer present body mac) ≤ 1
  few true = omega arith
  few false = omega arith

  pub trailing_once : (present : Bool) → count_of (kind_is 80) (attributes (body ++ mac_valued present mac)) ≤ 1
  trailing_once present =
      rw (trailing_attributes present, count_append (kind_is 80) (attributes body) (trailer present body mac), any_none (kind_is 80) (attributes body) plain.none)
      (omega (arith, few present))

  pub trailing_value : value_of (body ++ mac_valued true mac) (trailing body mac) ≡ mac
  trailing_value = rw as_bytes (value_after body (bytes_of 80 mac) (lone 80 mac) ∙ bytes_value 80 mac)
