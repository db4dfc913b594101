use Rattle.com_keyed.proofs.Walking.{walk_ends}
use Rattle.com_proxy.proofs.Rows.{index_past}
use Rattle.com_proxy.specs.Rows.{proxy_key_of}
use Rattle.com_proxy.proofs.find.Goals as goal

pub returns : goal.returns
returns c =
    index_past c.args.rows.now c.args.proxies.now.keys c.args.apartment c.args.object c.args.iface c.requires.keyed (walk_ends c.args.proxies.now.keys (proxy_key_of c.args.apartment c.args.object) _ c.loop-at.at c.loop-at.invariant c.in_default.is)
