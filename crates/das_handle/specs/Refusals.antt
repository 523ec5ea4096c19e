-- What handling refuses (document 01, "Refusal numbers"): handling takes table, secret, identity, reply buffer and packet.
-- Assumes nothing.
use Rattle.std.specs.Prelude.{cond, List, ℕ, eqb, ltb, length, Option, Some, None}
use Rattle.refusals.specs.declared.Refusal.{Refusal}
use Rattle.refusals.specs.declared.Refusal.TheVariants as R
use Rattle.nas_settings.specs.Settings.{Settings, bad_secret, bad_nas_id}
use Rattle.table_slots.specs.Slot.{slot_count}

-- R1 table length, R2 secret, R3 own NAS-Identifier, R4 reply buffer: the lowest that applies
unfoldable pub refusal_of : Settings → List ℕ → List ℕ → Option Refusal
refusal_of g t b =
    cond (eqb (slot_count t) 0) (Some R.TableLength)
    (cond (bad_secret g.secret) (Some R.SecretLength)
    (cond (bad_nas_id g.nas_id) (Some R.NasIdentifierLength)
    (cond (ltb (length b) 4096) (Some R.OutputRoom)
    None)))
