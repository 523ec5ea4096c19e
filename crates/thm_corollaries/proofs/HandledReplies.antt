-- The reply of a request handled whole passes our reply check: it is the reply for the cause of a NAK or for an ACK, and demand 2 says that such a
-- reply passes.
-- Assumes nothing.
use mathlib.Core.Path.{◌≡◌, ap, ◌∙◌}
use mathlib.Core.Bool.{false, true≢false}
use mathlib.Core.List.{List}
use Prim.Native.Nat.{ℕ}
use Rattle.std.specs.Prelude.{Some, None}
use Rattle.nas_settings.specs.Settings.{Settings}
use Rattle.das_answer.specs.declared.Answer.{Answer}
use Rattle.das_answer.specs.declared.Answer.TheVariants as A
use Rattle.das_handle.specs.Handle.{handle_answer, handle_reply}
use Rattle.das_answer.specs.Replied.{silent}
use Rattle.thm_demands.proofs.Second.{demand2}
use Rattle.thm_corollaries.specs.Corollaries.{Passes}

pub answer_passes : (g : Settings) (t b p : List ℕ) (clock : ℕ) (a : Answer)
    → handle_answer g t b p clock ≡ a → silent a ≡ false → Passes g.secret p b (handle_reply g t b p clock)
answer_passes g t b p clock (A.Refused r) e h = absurd (true≢false h)
answer_passes g t b p clock (A.Discarded d) e h = absurd (true≢false h)
answer_passes g t b p clock (A.Stale k) e h = absurd (true≢false h)
answer_passes g t b p clock (A.Nak c k n) e h =
    let d = demand2.judging g t b p clock in
    record { cause = Some c; written = d.nak_reply c k n e; right = (d.carries (ap silent e ∙ h) (Some c)).passes }
answer_passes g t b p clock (A.Ack m k n) e h =
    let d = demand2.judging g t b p clock in
    record { cause = None; written = d.ack_reply m k n e; right = (d.carries (ap silent e ∙ h) None).passes }
