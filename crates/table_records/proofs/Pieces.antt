-- The pieces of a record, each at the place where those before it end.
-- Assumes nothing.
use mathlib.Core.Path.{◌≡◌, ◌∙◌}
use mathlib.Core.List.{List, ◌++◌, append_assoc}
use Prim.Native.Nat.{ℕ}
use lib.ListN.{length, length-append}
use lib.Seq.{take_at, drop_at}
use Rattle.octet_numbers.specs.Runs.{part}

-- a piece between two others
piece : (l front mid back : List ℕ) (i n : ℕ) → l ≡ front ++ (mid ++ back) → length front ≡ i → length mid ≡ n → part i n l ≡ mid
unfolding part
piece l front mid back i n e h g = rw (e, drop_at front (mid ++ back) i h) (take_at mid back n g)

abbrev pub joined : List ℕ → List ℕ → List ℕ → List ℕ → List ℕ → List ℕ → List ℕ → List ℕ → List ℕ → List ℕ → List ℕ → List ℕ → List ℕ
joined m a b c d u i s f v w z = m ++ a ++ b ++ c ++ d ++ u ++ i ++ s ++ f ++ v ++ w ++ z

-- twelve pieces, of the sizes of a record
pub record Sized (m a b c d u i s f v w z : List ℕ) : Type 0 where
  pub mark : length m ≡ 2
  pub port : length a ≡ 4
  pub address : length b ≡ 4
  pub timeout : length c ≡ 4
  pub idle : length d ≡ 4
  pub user : length u ≡ 64
  pub id : length i ≡ 33
  pub station : length s ≡ 33
  pub filter : length f ≡ 33
  pub down : length v ≡ 4
  pub up : length w ≡ 4
  pub rest : length z ≡ 3

module _ {m a b c d u i s f v w z : List ℕ} (sized : Sized m a b c d u i s f v w z) where
  pub piece_port : part 2 4 (joined m a b c d u i s f v w z) ≡ a
  piece_port = piece _ m a (b ++ (c ++ (d ++ (u ++ (i ++ (s ++ (f ++ (v ++ (w ++ z))))))))) 2 4 (simp append_assoc) sized.mark sized.port

  to_address : length (m ++ a) ≡ 6
  to_address = length-append m a ∙ rw (sized.mark, sized.port)

  pub piece_address : part 6 4 (joined m a b c d u i s f v w z) ≡ b
  piece_address = piece _ (m ++ a) b (c ++ (d ++ (u ++ (i ++ (s ++ (f ++ (v ++ (w ++ z)))))))) 6 4 (simp append_assoc) to_address sized.address

  to_timeout : length (m ++ a ++ b) ≡ 10
  to_timeout = length-append (m ++ a) b ∙ rw (to_address, sized.address)

  pub piece_timeout : part 10 4 (joined m a b c d u i s f v w z) ≡ c
  piece_timeout = piece _ (m ++ a ++ b) c (d ++ (u ++ (i ++ (s ++ (f ++ (v ++ (w ++ z))))))) 10 4 (simp append_assoc) to_timeout sized.timeout

  to_idle : length (m ++ a ++ b ++ c) ≡ 14
  to_idle = length-append (m ++ a ++ b) c ∙ rw (to_timeout, sized.timeout)

  pub piece_idle : part 14 4 (joined m a b c d u i s f v w z) ≡ d
  piece_idle = piece _ (m ++ a ++ b ++ c) d (u ++ (i ++ (s ++ (f ++ (v ++ (w ++ z)))))) 14 4 (simp append_assoc) to_idle sized.idle

  to_user : length (m ++ a ++ b ++ c ++ d) ≡ 18
  to_user = length-append (m ++ a ++ b ++ c) d ∙ rw (to_idle, sized.idle)

  pub piece_user : part 18 64 (joined m a b c d u i s f v w z) ≡ u
  piece_user = piece _ (m ++ a ++ b ++ c ++ d) u (i ++ (s ++ (f ++ (v ++ (w ++ z))))) 18 64 (simp append_assoc) to_user sized.user

  to_id : length (m ++ a ++ b ++ c ++ d ++ u) ≡ 82
  to_id = length-append (m ++ a ++ b ++ c ++ d) u ∙ rw (to_user, sized.user)

  pub piece_id : part 82 33 (joined m a b c d u i s f v w z) ≡ i
  piece_id = piece _ (m ++ a ++ b ++ c ++ d ++ u) i (s ++ (f ++ (v ++ (w ++ z)))) 82 33 (simp append_assoc) to_id sized.id

  to_station : length (m ++ a ++ b ++ c ++ d ++ u ++ i) ≡ 115
  to_station = length-append (m ++ a ++ b ++ c ++ d ++ u) i ∙ rw (to_id, sized.id)

  pub piece_station : part 115 33 (joined m a b c d u i s f v w z) ≡ s
  piece_station = piece _ (m ++ a ++ b ++ c ++ d ++ u ++ i) s (f ++ (v ++ (w ++ z))) 115 33 (simp append_assoc) to_station sized.station

  to_filter : length (m ++ a ++ b ++ c ++ d ++ u ++ i ++ s) ≡ 148
  to_filter = length-append (m ++ a ++ b ++ c ++ d ++ u ++ i) s ∙ rw (to_station, sized.station)

  pub piece_filter : part 148 33 (joined m a b c d u i s f v w z) ≡ f
  piece_filter = piece _ (m ++ a ++ b ++ c ++ d ++ u ++ i ++ s) f (v ++ (w ++ z)) 148 33 (simp append_assoc) to_filter sized.filter

  to_down : length (m ++ a ++ b ++ c ++ d ++ u ++ i ++ s ++ f) ≡ 181
  to_down = length-append (m ++ a ++ b ++ c ++ d ++ u ++ i ++ s) f ∙ rw (to_filter, sized.filter)

  pub piece_down : part 181 4 (joined m a b c d u i s f v w z) ≡ v
  piece_down = piece _ (m ++ a ++ b ++ c ++ d ++ u ++ i ++ s ++ f) v (w ++ z) 181 4 (simp append_assoc) to_down sized.down

  to_up : length (m ++ a ++ b ++ c ++ d ++ u ++ i ++ s ++ f ++ v) ≡ 185
  to_up = length-append (m ++ a ++ b ++ c ++ d ++ u ++ i ++ s ++ f) v ∙ rw (to_down, sized.down)

  pub piece_up : part 185 4 (joined m a b c d u i s f v w z) ≡ w
  piece_up = piece _ (m ++ a ++ b ++ c ++ d ++ u ++ i ++ s ++ f ++ v) w z 185 4 (simp append_assoc) to_up sized.up

  to_rest : length (m ++ a ++ b ++ c ++ d ++ u ++ i ++ s ++ f ++ v ++ w) ≡ 189
  to_rest = length-append (m ++ a ++ b ++ c ++ d ++ u ++ i ++ s ++ f ++ v) w ∙ rw (to_up, sized.up)

  pub pieces_length : length (joined m a b c d u i s f v w z) ≡ 192
  pieces_length = length-append (m ++ a ++ b ++ c ++ d ++ u ++ i ++ s ++ f ++ v ++ w) z ∙ rw (to_rest, sized.rest)
