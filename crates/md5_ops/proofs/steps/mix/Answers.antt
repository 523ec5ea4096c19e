-- `md5_ops::steps::mix` meets its contract: F by its shorter form, the others as they are written.
use borrow.Author.Rules.{rules}
use mathlib.Core.Path.{◌≡◌}
use Prim.Native.Nat.{suc, ◌-◌}
use native.Mathlib.Omega.{arith}
use Rattle.md5_ops.proofs.Choose.{mix_f}
use Rattle.md5_ops.proofs.steps.mix.Goals as goal

pub returns-in-0 : goal.returns-in-0
returns-in-0 c = search (rules, mix_f)

pub returns-in-1 : goal.returns-in-1
returns-in-1 c = rw c.in-1.is

pub returns-in-2 : goal.returns-in-2
returns-in-2 c = rw c.in-2.is

pub returns-in_default : goal.returns-in_default
returns-in_default c = let e : c.args.k ≡ suc (suc (suc (c.args.k - 3))) = omega arith in rw e
