-- What the test exports answer: 0 done, 1 refused, and a refused call writes nothing.
-- Assumes nothing.
use Rattle.std.specs.Prelude.{Bool, cond, ◌&&◌, ◌||◌, List, ℕ, ◌+◌, ◌^◌, eqb, leb, ltb, length}

abbrev pub answer : Bool → ℕ
answer ok = cond ok 0 1

-- what stands in a buffer after the call: vs, or what stood there before
abbrev pub written : Bool → List ℕ → List ℕ → List ℕ
written ok vs before = cond ok vs before

-- room for a digest, and no more
unfoldable pub digest_room : List ℕ → Bool
digest_room out = eqb (length out) 16

-- a message handed over as its bytes before a, from a to b, and from b on
unfoldable pub cut_ok : ℕ → ℕ → List ℕ → List ℕ → Bool
cut_ok a b m out = digest_room out && (leb a b && leb b (length m))

-- n bytes from place at on lie in l
unfoldable pub inside : ℕ → ℕ → List ℕ → Bool
inside at n l = leb (at + n) (length l)

-- a number of width bytes at a place: two bytes or four
unfoldable pub number_ok : ℕ → ℕ → List ℕ → Bool
number_ok at width l = (eqb width 2 || eqb width 4) && inside at width l

unfoldable pub put_ok : ℕ → ℕ → ℕ → List ℕ → Bool
put_ok at width v l = number_ok at width l && ltb v (256 ^ width)
