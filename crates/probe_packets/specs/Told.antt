-- The verdict on a request in numbers: what each of its cases is as seen from C.
-- Assumes nothing.
use Rattle.std.specs.Prelude.{List, ℕ, ◌+◌, ℤ, pos}
use Rattle.refusals.specs.Numbers.{discard_number}
use Rattle.rule_causes.specs.Causes.{error_cause}
use Rattle.rule_verdict.specs.declared.Verdict as D
use Rattle.rule_verdict.specs.declared.Verdict.TheVariants.{Discarded, Stale, Nak, Passed}
use Rattle.nas_settings.specs.Settings.{Settings}
use Rattle.rule_verdict.specs.Discards.{signed_by}
use Rattle.rule_verdict.specs.Verdict.{verdict_of}

-- the verdict on a packet by its own signature
unfoldable pub verdict : Settings → List ℕ → ℕ → D.Verdict
verdict g p clock = verdict_of g (signed_by g.secret p) p clock

-- 0 passed, 100 + n discarded by Dn, else the NAK's cause
unfoldable pub number_of : D.Verdict → ℕ
number_of (Discarded d) = 100 + discard_number d
number_of (Stale k) = 106
number_of (Nak c k) = error_cause c
number_of (Passed k) = 0

-- the signed skew; 0 where no stamp is usable
unfoldable pub skew_of : D.Verdict → ℤ
skew_of (Discarded d) = pos 0
skew_of (Stale k) = k
skew_of (Nak c k) = k
skew_of (Passed k) = k

-- 1 where a stamp is usable, else 0
unfoldable pub stamped_of : D.Verdict → ℕ
stamped_of (Discarded d) = 0
stamped_of (Stale k) = 1
stamped_of (Nak c k) = 1
stamped_of (Passed k) = 1
