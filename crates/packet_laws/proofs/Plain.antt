-- Areas that attributes fill and that have no type 80: of one such area after another, and of one attribute of another type. A walk over both is the one over the second at the
-- end of the first, and moves places, not types. Assumes nothing.
use mathlib.Core.Path.{◌≡◌, refl, sym, ap, ◌∙◌}
use mathlib.Core.Bool.{true, false}
use mathlib.Core.List.{List, [], ◌++◌, map}
use Prim.Native.Nat.{ℕ}
use borrow.Author.Tests.{ne_eqb}
use lib.Dec.{leb}
use lib.ListN.{length}
use Rattle.attr_walk.specs.declared.Attribute.{Attribute}
use Rattle.attr_walk.specs.Attributes.{attributes, tiled, any, kind_is, shifted, bytes_of}
use Rattle.attr_walk.proofs.Areas.{tiled_both, attributes-append, nil_tiled, nil_attributes, bytes_tiled, bytes_attributes}
use Rattle.attr_walk.proofs.Searches.{any_count, any_append, count_map}

pub record Plain (s : List ℕ) : Type 0 where
  pub tiles : tiled s ≡ true
  pub none : any (kind_is 80) (attributes s) ≡ false

pub any-after : (k n : ℕ) (l : List Attribute) → any (kind_is k) (map (shifted n) l) ≡ any (kind_is k) l
any-after k n l =
    any_count (kind_is k) (map (shifted n) l) ∙ ap (leb 1) (count_map (kind_is k) (shifted n) (λ a. refl) l) ∙ sym (any_count (kind_is k) l)

pub plain_nil : Plain []
plain_nil = record { tiles = nil_tiled; none = rw nil_attributes }

pub plain_both : (x y : List ℕ) → Plain x → Plain y → Plain (x ++ y)
plain_both x y h g =
    record {
      tiles = tiled_both x y h.tiles g.tiles;
      none =
          rw (attributes-append x y h.tiles, any_append (kind_is 80) (attributes x) (map (shifted (length x)) (attributes y)), h.none, any-after 80 (length x) (attributes y))
          g.none;
    }

pub plain_bytes : (k : ℕ) (v : List ℕ) → (k ≡ 80 → ⊥) → Plain (bytes_of k v)
plain_bytes k v h = record { tiles = bytes_tiled k v; none = rw (bytes_attributes k v, ne_eqb k 80 h) }
