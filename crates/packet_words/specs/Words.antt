-- MD5's chaining words as a job holds them: four numbers (document 01, "The desk": "A job holds the four chaining words").
-- Assumes nothing.
use Rattle.std.specs.Prelude.{Bool, List, [], ◌∷◌, ℕ, get_or}
use Rattle.octet_numbers.specs.Runs.{equal_bytes}
use Rattle.md5_ops.specs.declared.State.{State}
use Rattle.md5_ops.specs.Md5.{output}
use Rattle.packet_form.specs.Packet.{auth_of}

abbrev pub words_of : State → List ℕ
words_of x = x.a ∷ x.b ∷ x.c ∷ x.d ∷ []

abbrev pub hash_state : List ℕ → State
hash_state w = record { a = get_or w 0 0; b = get_or w 1 0; c = get_or w 2 0; d = get_or w 3 0 }

-- D4 by the words as held: are they the authenticator of the packet q
unfoldable pub words_signed : List ℕ → List ℕ → Bool
words_signed words q = equal_bytes (auth_of q) (output (hash_state words))
