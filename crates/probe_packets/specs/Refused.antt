-- What the exports on signatures do not refuse: p is the packet, n its Length.
-- Assumes nothing.
use Rattle.std.specs.Prelude.{Bool, ◌&&◌, List, ℕ, ◌+◌, leb, length}
use Rattle.probe_laws.specs.Probe.{digest_room}

-- an authenticator: Length from 20 to the bytes given
abbrev pub auth_ok : ℕ → List ℕ → List ℕ → List ℕ → Bool
auth_ok n p auth out = digest_room out && (digest_room auth && (leb 20 n && leb n (length p)))

-- a Message-Authenticator: its value at place at, after the packet's head and within Length
abbrev pub mac_ok : ℕ → ℕ → List ℕ → List ℕ → List ℕ → Bool
mac_ok n at p auth out = digest_room out && (digest_room auth && (leb 20 at && (leb (at + 16) n && leb n (length p))))

-- block by block: Length at most 4,096 and a secret of at most 64 bytes
abbrev pub blocks_ok : ℕ → List ℕ → List ℕ → List ℕ → Bool
blocks_ok n p secret out = digest_room out && (leb 20 n && (leb n 4096 && (leb n (length p) && leb (length secret) 64)))
