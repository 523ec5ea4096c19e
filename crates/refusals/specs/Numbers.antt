-- The numbers by which C is told why a call is refused (R), a packet discarded (D), or a reply does not fit its request (V).
-- Assumes nothing.
use Rattle.std.specs.Prelude.{ℕ}
use Rattle.refusals.specs.declared.Refusal.{Refusal}
use Rattle.refusals.specs.declared.Refusal.TheVariants as R
use Rattle.refusals.specs.declared.Discard.{Discard}
use Rattle.refusals.specs.declared.Discard.TheVariants as D
use Rattle.refusals.specs.declared.Mismatch.{Mismatch}
use Rattle.refusals.specs.declared.Mismatch.TheVariants as V

-- R1 to R13
abbrev pub refusal_number : Refusal → ℕ
refusal_number R.TableLength = 1
refusal_number R.SecretLength = 2
refusal_number R.NasIdentifierLength = 3
refusal_number R.OutputRoom = 4
refusal_number R.StoreLength = 5
refusal_number R.NoFreeJob = 6
refusal_number R.NoSuchJob = 7
refusal_number R.TextLength = 8
refusal_number R.SessionIdLive = 9
refusal_number R.NoFreeSlot = 10
refusal_number R.NoSuchSession = 11
refusal_number R.RequestCode = 12
refusal_number R.GivenAttributes = 13

-- D1 to D6
abbrev pub discard_number : Discard → ℕ
discard_number D.Length = 1
discard_number D.Code = 2
discard_number D.Attributes = 3
discard_number D.Authenticator = 4
discard_number D.MessageAuthenticator = 5
discard_number D.Timestamp = 6

-- V1 to V6
abbrev pub mismatch_number : Mismatch → ℕ
mismatch_number V.Request = 1
mismatch_number V.Reply = 2
mismatch_number V.Code = 3
mismatch_number V.Identifier = 4
mismatch_number V.Authenticator = 5
mismatch_number V.MessageAuthenticator = 6
