-- `octet_runs::slice` meets its contract: the definition, too, takes no more than there is. Past the end nothing is left, and where fewer than n are
-- left those are the part.
use mathlib.Core.Path.{◌≡◌, refl, sym, ap, ◌∙◌}
use mathlib.Core.List.{List, []}
use Prim.Native.Nat.{ℕ, ◌-◌}
use native.Mathlib.Omega.{arith}
use denote.Bor.{Bor}
use lib.ListN.{length, take, drop, length-drop, drop_of_length-le}
use lib.Seq.{take_all}
use Rattle.std.specs.Option.{unwrap_or}
use Rattle.std.specs.Prelude.{Option, None, Some}
use Rattle.std.specs.Slice.{IsGetRangeResult}
use Rattle.std.proofs.lemmas.Slice.{between_from_start}
use Rattle.octet_numbers.specs.Runs.{part}
use Rattle.octet_runs.proofs.slice.Goals as goal

rest_is : (s : List ℕ) (at : ℕ) (r : Option (Bor (List ℕ))) (d x : Bor (List ℕ)) → IsGetRangeResult s at (length s) r → d.now ≡ [] → x ≡ unwrap_or r d
    → x.now ≡ drop at s
rest_is s at None d x g e h = rw (h, e) (sym (drop_of_length-le s (omega (arith, g))))
rest_is s at (Some y) d x g e h = rw h (g.0.2 ∙ take_all (length s - at) (drop at s) (simp length-drop (omega arith)))

front_is : (n : ℕ) (r : Option (Bor (List ℕ))) (x y : Bor (List ℕ)) → IsGetRangeResult x.now 0 n r → y ≡ unwrap_or r x → y.now ≡ take n x.now
front_is n None x y g h = rw h (sym (take_all n x.now (omega (arith, g))))
front_is n (Some z) x y g h = rw h (g.0.2 ∙ between_from_start x.now n)

pub returns : goal.returns
unfolding part
returns c =
    front_is _ _ _ _ c.get-2.ensures.lookup c.unwrap_or.ensures ∙ ap (take c.args.n) (rest_is _ _ _ _ _ c.get.ensures.lookup refl c.unwrap_or-rest.ensures)
