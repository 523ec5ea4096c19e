-- D4 looks at Length, at the authenticator and at what it is worked out over, so two packets with the same first Length bytes are signed alike.
-- Assumes nothing.
use mathlib.Core.Path.{◌≡◌}
use mathlib.Core.List.{List}
use Prim.Native.Nat.{ℕ}
use Rattle.packet_auth.specs.Signing.{zeros}
use Rattle.packet_laws.proofs.SameBytes.{SamePacket, same_signature}
use Rattle.rule_verdict.specs.Discards.{signed_by}

pub same_signed : (p q : List ℕ) → SamePacket p q → (secret : List ℕ) → signed_by secret q ≡ signed_by secret p
unfolding signed_by
same_signed p q s secret = rw (s.auth, same_signature p q s zeros secret)
