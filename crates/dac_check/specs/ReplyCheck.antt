-- The reply check (document 01: "The reply check names the first failure"). q is the request, r the reply.
-- Assumes nothing.
use Rattle.std.specs.Prelude.{Bool, cond, not, ◌||◌, List, ℕ, ◌+◌, eqb, Option, Some, None, Result, Ok, Err, is_some}
use Rattle.octet_numbers.specs.Runs.{equal_bytes}
use Rattle.packet_auth.specs.Signing.{authenticator}
use Rattle.packet_form.specs.Packet.{code_of, identifier_of, length_of, auth_of}
use Rattle.nas_settings.specs.Settings.{bad_secret}
use Rattle.packet_form.specs.Discards.{bad_length, bad_attributes, form_of}
use Rattle.packet_mac.specs.Discards.{bad_mac}
use Rattle.refusals.specs.declared.Refusal.TheVariants.{SecretLength}
use Rattle.refusals.specs.declared.Mismatch.{Mismatch}
use Rattle.refusals.specs.declared.Mismatch.TheVariants as V
use Rattle.dac_check.specs.declared.Unfit.{Unfit}
use Rattle.dac_check.specs.declared.Unfit.TheVariants as U

-- V1: request fails D1 to D3
unfoldable pub bad_request : List ℕ → Bool
bad_request q = is_some (form_of q)

-- V2: reply fails D1's or D3's rule
unfoldable pub bad_reply : List ℕ → Bool
bad_reply r = bad_length r || bad_attributes r

-- V3: code not the request's plus 1 or 2
unfoldable pub wrong_code : List ℕ → List ℕ → Bool
wrong_code q r = not (eqb (code_of r) (code_of q + 1) || eqb (code_of r) (code_of q + 2))

-- V4: identifier
unfoldable pub wrong_identifier : List ℕ → List ℕ → Bool
wrong_identifier q r = not (eqb (identifier_of r) (identifier_of q))

-- V5: authenticator, worked out over the request's
unfoldable pub wrong_authenticator : List ℕ → List ℕ → List ℕ → Bool
wrong_authenticator secret q r = not (equal_bytes (auth_of r) (authenticator (auth_of q) r (length_of r) secret))

-- V1 to V6, the first failure. V6: type 80 repeated, of wrong length or wrong, over the request's authenticator
unfoldable pub failure_of : List ℕ → List ℕ → List ℕ → Option Mismatch
failure_of secret q r =
    cond (bad_request q) (Some V.Request)
    (cond (bad_reply r) (Some V.Reply)
    (cond (wrong_code q r) (Some V.Code)
    (cond (wrong_identifier q r) (Some V.Identifier)
    (cond (wrong_authenticator secret q r) (Some V.Authenticator)
    (cond (bad_mac (auth_of q) secret r) (Some V.MessageAuthenticator)
    None)))))

-- right where nothing fails
abbrev pub fit_by : Option Mismatch → Result (Unit {0}) Unfit
fit_by None = Ok tt
fit_by (Some v) = Err (U.Mismatch v)

-- R2, the first failure, or right
unfoldable pub check_answer : List ℕ → List ℕ → List ℕ → Result (Unit {0}) Unfit
check_answer secret q r = cond (bad_secret secret) (Err (U.Refused SecretLength)) (fit_by (failure_of secret q r))
