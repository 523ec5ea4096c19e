-- A packet read back, part by part: head and authenticator have fixed lengths and the attributes fill the rest, so each is found where a packet has it.
-- Assumes nothing.
use mathlib.Core.Path.{◌≡◌, refl, sym, ap, ◌∙◌}
use mathlib.Core.Bool.{Bool}
use mathlib.Core.List.{List, ◌∷◌, ◌++◌, append_assoc}
use Prim.Native.Nat.{ℕ, ◌+◌, ◌-◌, ◌*◌, ◌/◌, ◌%◌, ◌≤◌}
use native.Mathlib.Omega.{arith}
use lib.ListN.{length, take, drop, length-append, length-drop}
use lib.Seq.{take_all, take_at, drop_at}
use Rattle.octet_numbers.specs.Numbers.{be_bytes}
use Rattle.octet_numbers.specs.Runs.{part}
use Rattle.octet_numbers.proofs.Numbers.{be_two, length-be_bytes}
use Rattle.packet_form.specs.Packet.{code_of, identifier_of, length_of, auth_of, area_of}
use Rattle.packet_write.specs.Packets.{mac_valued, packet, packet_length, packet_mac, packet_auth, signed_packet}
use Rattle.packet_write.proofs.Packets.{length-packet, length-packet_mac, length-packet_auth}

-- the middle and the end of a list of parts
part_middle : (x v y : List ℕ) (i n : ℕ) → length x ≡ i → length v ≡ n → part i n (x ++ v ++ y) ≡ v
unfolding part
part_middle x v y i n h g = rw (append_assoc x v y, drop_at x (v ++ y) i h) (take_at v y n g)

pub part_last : (x y : List ℕ) (i n : ℕ) → length x ≡ i → length y ≤ n → part i n (x ++ y) ≡ y
unfolding part
part_last x y i n h g = rw (drop_at x y i h) (take_all n y g)

-- of a packet with any two signatures of 16 bytes
module _ (head body : List ℕ) (present : Bool) (auth mac : List ℕ) (four : length head ≡ 4) (la : length auth ≡ 16) (lm : length mac ≡ 16) where
  -- what stands before the attributes, and the attributes
  in_two : packet head body present auth mac ≡ (head ++ auth) ++ (body ++ mac_valued present mac)
  unfolding packet
  in_two = append_assoc (head ++ auth) body (mac_valued present mac)

  length_front : length (head ++ auth) ≡ 20
  length_front = rw length-append (omega arith)

  pub with_head : take 4 (packet head body present auth mac) ≡ head
  with_head = rw (in_two, append_assoc head auth (body ++ mac_valued present mac)) (take_at head (auth ++ (body ++ mac_valued present mac)) 4 four)

  with_auth_lem : auth_of (packet head body present auth mac) ≡ auth
  with_auth_lem = rw in_two (part_middle head auth (body ++ mac_valued present mac) 4 16 four la)

  -- from place 20 on, as many as there are
  with_area : (n : ℕ) → packet_length body present ≤ 20 + n → part 20 n (packet head body present auth mac) ≡ body ++ mac_valued present mac
  with_area n h =
      let l = length-packet head body present auth mac four la lm in
      let k = ap length in_two ∙ length-append (head ++ auth) (body ++ mac_valued present mac) in
      rw in_two (part_last (head ++ auth) (body ++ mac_valued present mac) 20 n length_front (omega (arith, k, l, length_front)))

  -- what the signatures look at, from place 20 on
  pub with_after : drop 20 (take (packet_length body present) (packet head body present auth mac)) ≡ body ++ mac_valued present mac
  unfolding part
  with_after =
      let n = packet_length body present in
      let r = packet head body present auth mac in
      let l = length-packet head body present auth mac four la lm in
      let all : take n r ≡ r = take_all n r (omega arith) in
      let rest : take n (drop 20 r) ≡ body ++ mac_valued present mac = with_area n (omega arith) in
      ap (drop 20) all ∙ sym (take_all n (drop 20 r) (short n r (omega arith))) ∙ rest
    where
      short : (n : ℕ) (x : List ℕ) → length x ≤ n → length (drop 20 x) ≤ n
      short n x h = simp length-drop (omega arith)

-- of a packet that is signed: code k, identifier i and Length n make its head
module _ (secret base body : List ℕ) (present : Bool) (k i n : ℕ) where
  pub head_four : length (k ∷ i ∷ be_bytes 2 n) ≡ 4
  head_four = omega (arith, length-be_bytes 2 n)

  pub signed_code : code_of (signed_packet secret base (k ∷ i ∷ be_bytes 2 n) body present) ≡ k
  unfolding signed_packet packet
  signed_code = refl

  pub signed_identifier : identifier_of (signed_packet secret base (k ∷ i ∷ be_bytes 2 n) body present) ≡ i
  unfolding signed_packet packet
  signed_identifier = refl

  pub signed-length : n ≤ 4096 → length_of (signed_packet secret base (k ∷ i ∷ be_bytes 2 n) body present) ≡ n
  unfolding signed_packet packet be_bytes
  signed-length h =
      let e : n ≡ n / 256 % 256 * 256 + n % 256 = omega arith in
      sym (be_two (signed_packet secret base (k ∷ i ∷ be_bytes 2 n) body present) 2 n e)

  pub signed_auth : auth_of (signed_packet secret base (k ∷ i ∷ be_bytes 2 n) body present) ≡ packet_auth secret base (k ∷ i ∷ be_bytes 2 n) body present
  unfolding signed_packet
  signed_auth = with_auth_lem (k ∷ i ∷ be_bytes 2 n) body present _ _ head_four (length-packet_auth secret base (k ∷ i ∷ be_bytes 2 n) body present) (length-packet_mac secret base (k ∷ i ∷ be_bytes 2 n) body present)

  fills : n ≡ packet_length body present → part 20 (n - 20) (signed_packet secret base (k ∷ i ∷ be_bytes 2 n) body present) ≡ body ++ mac_valued present (packet_mac secret base (k ∷ i ∷ be_bytes 2 n) body present)
  unfolding signed_packet
  fills e =
      with_area (k ∷ i ∷ be_bytes 2 n) body present _ _ head_four (length-packet_auth secret base (k ∷ i ∷ be_bytes 2 n) body present)
      (length-packet_mac secret base (k ∷ i ∷ be_bytes 2 n) body present) (n - 20) (omega arith)

  pub signed_area : n ≡ packet_length body present → n ≤ 4096
      → area_of (signed_packet secret base (k ∷ i ∷ be_bytes 2 n) body present) ≡ body ++ mac_valued present (packet_mac secret base (k ∷ i ∷ be_bytes 2 n) body present)
  signed_area e h = rw (signed-length h) (fills e)
