-- What a gate is set up with: the secret it shares with the billing server, and its identity (document 01's gate's own address and NAS-Identifier).
-- Assumes nothing.
use Rattle.std.specs.Prelude.{Bool, ◌||◌, List, ℕ, eqb, ltb, length}
use Rattle.nas_settings.specs.declared.Gate.{Gate}

pub record Settings : Type 0 where
  pub secret : List ℕ
  pub nas_ip : ℕ
  pub nas_id : List ℕ

abbrev pub settings : List ℕ → ℕ → List ℕ → Settings
settings secret nas_ip nas_id = record { secret = secret; nas_ip = nas_ip; nas_id = nas_id }

-- what a gate's own values say
abbrev pub gate_settings : Gate → Settings
gate_settings g = settings g.secret.now g.nas_ip g.nas_id.now

-- R2: secret not 1..64 bytes
unfoldable pub bad_secret : List ℕ → Bool
bad_secret secret = eqb (length secret) 0 || ltb 64 (length secret)

-- R3: own NAS-Identifier not 1..32 bytes
unfoldable pub bad_nas_id : List ℕ → Bool
bad_nas_id nas_id = eqb (length nas_id) 0 || ltb 32 (length nas_id)
