-- `das_reply_parts::put_proxies` meets its contract: the Proxy-States left from the place on, written from here on, give all of them.
use borrow.Author.Rules.{rules}
use Rattle.das_reply_parts.proofs.Proxies.{copy_starts, copy_one, copy_none}
use Rattle.das_reply_parts.proofs.put_proxies.Goals as goal

pub loop-a-init : goal.loop-a-init
loop-a-init c = search (rules, copy_starts)

pub loop-a-preserved-then-a-eq-PROXY_STATE : goal.loop-a-preserved-then-a-eq-PROXY_STATE
loop-a-preserved-then-a-eq-PROXY_STATE c = search (rules, copy_one)

pub loop-a-preserved : goal.loop-a-preserved
loop-a-preserved c = search (rules, copy_none)
