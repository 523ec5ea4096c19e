-- An answer without a reply is a refusal or a discard, and for each of these the definitions leave table and reply buffer as they are.
-- Assumes nothing.
use mathlib.Core.Path.{◌≡◌, refl, sym}
use mathlib.Core.Bool.{true, true≢false}
use mathlib.Core.List.{List}
use Prim.Native.Nat.{ℕ}
use Rattle.das_answer.specs.declared.Answer as D
use Rattle.das_answer.specs.declared.Answer.TheVariants as A
use Rattle.das_answer.specs.Replies.{reply_as}
use Rattle.das_handle.specs.Handle.{table_as}
use Rattle.das_answer.specs.Replied.{silent}

pub silent_table_by : (p t : List ℕ) (a : D.Answer) → silent a ≡ true → table_as p t a ≡ t
silent_table_by p t (A.Refused n) h = refl
silent_table_by p t (A.Discarded d) h = refl
silent_table_by p t (A.Stale k) h = refl
silent_table_by p t (A.Nak c k n) h = refl
silent_table_by p t (A.Ack m k n) h = absurd (true≢false (sym h))

pub silent_reply_by : (secret p b : List ℕ) (a : D.Answer) → silent a ≡ true → reply_as secret p b a ≡ b
silent_reply_by secret p b (A.Refused n) h = refl
silent_reply_by secret p b (A.Discarded d) h = refl
silent_reply_by secret p b (A.Stale k) h = refl
silent_reply_by secret p b (A.Nak c k n) h = absurd (true≢false (sym h))
silent_reply_by secret p b (A.Ack m k n) h = absurd (true≢false (sym h))
