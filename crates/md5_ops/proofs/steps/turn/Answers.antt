-- `md5_ops::steps::turn` meets its contract: the sum of three numbers is the same modulo 2 ^ 32 in any order, and 0 adds nothing.
use mathlib.Core.Path.{◌≡◌}
use Prim.Native.Nat.{◌+◌, ◌%◌, ◌^◌}
use native.Mathlib.Omega.{arith}
use Rattle.md5_ops.specs.Md5.{turn}
use Rattle.md5_ops.proofs.steps.turn.Goals as goal

pub returns : goal.returns
unfolding turn
returns c =
    let e : ((c.args.q.a + c.args.x) % 2 ^ 32 + c.args.f) % 2 ^ 32 ≡ (c.args.q.a + c.args.f + c.args.x + 0) % 2 ^ 32 = omega arith in
    rw (← e) cc
