-- HMAC (RFC 2104) over MD5: B is 64 bytes.
-- Assumes nothing.
use Rattle.std.specs.Prelude.{cond, List, ◌++◌, map, ℕ, ◌-◌, ltb, length, replicate}
use Rattle.std.specs.Int.Bits.{bit_xor}
use Rattle.md5_ops.specs.Md5.{md5}

-- 2, a key longer than B bytes is hashed first
unfoldable pub short_key : List ℕ → List ℕ
short_key k = cond (ltb 64 (length k)) (md5 k) k

-- 2, the key with zeros to B bytes, each byte XOR c
unfoldable pub key_pad : ℕ → List ℕ → List ℕ
key_pad c k = map (λ x. bit_xor x c) (k ++ replicate (64 - length k) 0)

-- 2, K XOR ipad and K XOR opad
abbrev pub inner_pad : List ℕ → List ℕ
inner_pad k = key_pad 0x36 (short_key k)

abbrev pub outer_pad : List ℕ → List ℕ
outer_pad k = key_pad 0x5c (short_key k)

-- 2, H(K XOR opad, H(K XOR ipad, text))
unfoldable pub hmac : List ℕ → List ℕ → List ℕ
hmac k text = md5 (outer_pad k ++ md5 (inner_pad k ++ text))
