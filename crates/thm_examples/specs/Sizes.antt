-- What the marked examples say of the attributes of one type: how many bytes they take, and that one is empty.
-- Assumes nothing.
use Rattle.std.specs.Prelude.{Bool, cond, ◌&&◌, List, [], ◌∷◌, ℕ, ◌+◌, eqb}
use Rattle.attr_walk.specs.declared.Attribute.{Attribute}
use Rattle.attr_walk.specs.Attributes.{kind_is}

-- the bytes of all attributes of type k, their type and length bytes counted
abbrev pub bytes_of_type : ℕ → List Attribute → ℕ
bytes_of_type k [] = 0
bytes_of_type k (a ∷ l) = cond (kind_is k a) a.size 0 + bytes_of_type k l

-- of type k, and without a value
abbrev pub empty_of : ℕ → Attribute → Bool
empty_of k a = kind_is k a && eqb a.size 2
