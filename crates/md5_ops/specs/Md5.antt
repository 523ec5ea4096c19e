-- MD5, in the order of RFC 1321. A byte and a word are numbers below 2 ^ 8 and 2 ^ 32; a message is the list of its bytes.
-- Assumes nothing.
use Rattle.std.specs.Prelude.{List, [], ◌∷◌, ◌++◌, ℕ, zero, suc, ◌+◌, ◌-◌, ◌*◌, ◌/◌, ◌%◌, ◌^◌, length, get_or, take, drop, replicate}
use Rattle.std.specs.Int.Bits.{bit_and, bit_or, bit_xor}
use Rattle.md5_ops.specs.declared.State.{State}
use Rattle.md5_ops.specs.Table.{sines, shifts}

-- 2, the word of the four bytes at place 4 j of a block, the low-order byte first
unfoldable pub word_at : List ℕ → ℕ → ℕ
word_at m j = get_or m (4 * j) 0 + get_or m (4 * j + 1) 0 * 2 ^ 8 + get_or m (4 * j + 2) 0 * 2 ^ 16 + get_or m (4 * j + 3) 0 * 2 ^ 24

-- 2, X <<< s
abbrev pub rotl : ℕ → ℕ → ℕ
rotl x s = bit_or (x * 2 ^ s % 2 ^ 32) (x / 2 ^ (32 - s))

-- 2, not(X)
abbrev pub bit_not : ℕ → ℕ
bit_not x = 2 ^ 32 - 1 - x

-- n in k bytes, the low-order byte first
abbrev pub le_bytes : ℕ → ℕ → List ℕ
le_bytes zero n = []
le_bytes (suc k) n = n % 256 ∷ le_bytes k (n / 256)

-- 3.1 and 3.2, after n bytes: a 1 bit, 0 bits until 8 bytes are missing from a multiple of 64, and n in bits
abbrev pub padding : ℕ → List ℕ
padding n = 0x80 ∷ replicate ((119 - n % 64) % 64) 0 ++ le_bytes 8 (n * 8)

abbrev pub pad : List ℕ → List ℕ
pad m = m ++ padding (length m)

-- 3.3
abbrev pub initial : State
initial = record { a = 0x67452301; b = 0xefcdab89; c = 0x98badcfe; d = 0x10325476 }

-- 3.4, the functions F, G, H and I, by rounds
abbrev pub mix : ℕ → ℕ → ℕ → ℕ → ℕ
mix zero x y z = bit_or (bit_and x y) (bit_and (bit_not x) z)
mix (suc zero) x y z = bit_or (bit_and x z) (bit_and y (bit_not z))
mix (suc (suc zero)) x y z = bit_xor x (bit_xor y z)
mix (suc (suc (suc r))) x y z = bit_xor y (bit_or x (bit_not z))

-- 3.4, the word of the block that operation i takes, by rounds
abbrev pub index_in : ℕ → ℕ → ℕ
index_in zero i = i % 16
index_in (suc zero) i = (5 * i + 1) % 16
index_in (suc (suc zero)) i = (3 * i + 5) % 16
index_in (suc (suc (suc r))) i = 7 * i % 16

-- 3.4, a = b + ((a + f + x + t) <<< s), and the words move on to [dabc]
unfoldable pub turn : State → ℕ → ℕ → ℕ → ℕ → State
turn q f x t s =
    record { a = q.d; b = (q.b + rotl ((q.a + f + x + t) % 2 ^ 32) s) % 2 ^ 32; c = q.b; d = q.c }

-- 3.4, operation i of the 64, i from 0, on the block m
unfoldable pub step : List ℕ → ℕ → State → State
step m i q =
    turn q (mix (i / 16) q.b q.c q.d) (word_at m (index_in (i / 16) i)) (get_or sines i 0) (get_or shifts (i / 16 * 4 + i % 4) 0)

-- the first n operations
abbrev pub steps : List ℕ → ℕ → State → State
steps m zero q = q
steps m (suc i) q = step m i (steps m i q)

-- 3.4, the words as they were are added
abbrev pub add_state : State → State → State
add_state p q =
    record { a = (p.a + q.a) % 2 ^ 32; b = (p.b + q.b) % 2 ^ 32; c = (p.c + q.c) % 2 ^ 32; d = (p.d + q.d) % 2 ^ 32 }

-- 3.4, the words after one block
unfoldable pub md5_block : State → List ℕ → State
md5_block q m = add_state q (steps m 64 q)

-- block k of a message, k from 0
abbrev pub block_at : ℕ → List ℕ → List ℕ
block_at k m = take 64 (drop (64 * k) m)

-- the chaining words after the first k blocks of m, from q on
abbrev pub after : State → ℕ → List ℕ → State
after q zero m = q
after q (suc k) m = md5_block (after q k m) (block_at k m)

-- 3.5, the words A, B, C, D, low-order bytes first
abbrev pub output : State → List ℕ
output q = le_bytes 4 q.a ++ le_bytes 4 q.b ++ le_bytes 4 q.c ++ le_bytes 4 q.d

unfoldable pub md5 : List ℕ → List ℕ
md5 m = output (after initial (length (pad m) / 64) (pad m))
