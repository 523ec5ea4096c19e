-- The messages under the signatures: their lengths, and what they do not look at. They take bytes 0 to 3 and those from 20 up to Length,
-- so two packets that agree there have the same signatures, whatever stands in the authenticator's place or after Length. Assumes nothing.
use mathlib.Core.Path.{◌≡◌, refl, sym, ap, ◌∙◌}
use mathlib.Core.List.{List}
use Prim.Native.Nat.{ℕ, ◌+◌, ◌-◌, ◌≤◌}
use native.Mathlib.Omega.{arith}
use lib.ListN.{length, take, drop, length-append, length-take, length-drop}
use lib.Seq.{take-take}
use Rattle.md5_ops.proofs.After.{length-md5}
use Rattle.md5_hmac.proofs.Runs.{length-hmac}
use Rattle.packet_auth.specs.Signing.{zeros, with_auth, signed, authenticator, message_authenticator}

-- the bytes of m from i to e
abbrev pub between : ℕ → ℕ → List ℕ → List ℕ
between i e m = take (e - i) (drop i m)

pub length-zeros : length zeros ≡ 16
unfolding zeros
length-zeros = refl

module _ (auth p : List ℕ) (n : ℕ) (low : 20 ≤ n) (fits : n ≤ length p) (long : length auth ≡ 16) where
  pub length-with_auth : length (with_auth auth p n) ≡ n
  unfolding with_auth
  length-with_auth = simp (length-append, length-drop, length-take) (omega arith)

  pub length-signed : (secret : List ℕ) → length (signed auth p n secret) ≡ n + length secret
  unfolding signed
  length-signed secret = rw (length-append, length-with_auth)

pub length-authenticator : (auth p : List ℕ) (n : ℕ) (secret : List ℕ) → length (authenticator auth p n secret) ≡ 16
unfolding authenticator
length-authenticator auth p n secret = length-md5 (signed auth p n secret)

pub length-message_authenticator : (auth p : List ℕ) (n at : ℕ) (secret : List ℕ) → length (message_authenticator auth p n at secret) ≡ 16
unfolding message_authenticator
length-message_authenticator auth p n at secret = length-hmac secret _

-- two packets that agree in bytes 0 to 3 and from 20 up to Length
pub record Alike (n : ℕ) (p p' : List ℕ) : Type 0 where
  pub head : take 4 p ≡ take 4 p'
  pub attributes : drop 20 (take n p) ≡ drop 20 (take n p')

-- the same first n bytes are enough
pub same_first : (n : ℕ) (p p' : List ℕ) → 4 ≤ n → take n p ≡ take n p' → Alike n p p'
same_first n p p' h e =
    record {
      head = sym (take-take 4 n p h) ∙ ap (take 4) e ∙ take-take 4 n p' h;
      attributes = ap (drop 20) e;
    }

module _ (n : ℕ) (p p' : List ℕ) (alike : Alike n p p') (auth : List ℕ) where
  pub same_with_auth : with_auth auth p n ≡ with_auth auth p' n
  unfolding with_auth
  same_with_auth = rw (alike.head, alike.attributes)

  pub same_signed : (secret : List ℕ) → signed auth p n secret ≡ signed auth p' n secret
  unfolding signed
  same_signed secret = rw same_with_auth

  pub same_authenticator : (secret : List ℕ) → authenticator auth p n secret ≡ authenticator auth p' n secret
  unfolding authenticator
  same_authenticator secret = rw same_signed

  pub same_message_authenticator : (at : ℕ) (secret : List ℕ) → message_authenticator auth p n at secret ≡ message_authenticator auth p' n at secret
  unfolding message_authenticator
  same_message_authenticator at secret = rw same_with_auth
