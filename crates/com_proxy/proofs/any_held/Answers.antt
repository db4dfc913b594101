use Rattle.com_keyed.proofs.Walking.{walk_ends, walk_inside}
use Rattle.com_proxy.specs.Rows.{proxy_key_of}
use Rattle.com_proxy.proofs.Rows.{walk_free, held_row}
use Rattle.com_proxy.proofs.any_held.Goals as goal

pub returns-then-row-gt0-clause-some : goal.returns-then-row-gt0-clause-some
returns-then-row-gt0-clause-some c =
    let keys = c.args.proxies.now.keys in
    let inside = walk_inside keys (proxy_key_of c.args.apartment c.args.object) _ c.loop-at.at c.in-Some.index c.loop-at.invariant c.in-Some.is in
    held_row c.args.rows.now keys c.args.apartment c.args.object c.in-Some.index c.requires.keyed c.requires.first inside c.if-row-object.true c.if-row-apartment.true c.if-row-gt0.true

pub returns-clause-none : goal.returns-clause-none
returns-clause-none c =
    let keys = c.args.proxies.now.keys in
    walk_free c.args.rows.now keys c.args.apartment c.args.object c.requires.keyed (walk_ends keys (proxy_key_of c.args.apartment c.args.object) _ c.loop-at.at c.loop-at.invariant c.in_default.is)
