use Rattle.std.proofs.Common.{length, arith, vec_len, ◌≡◌}
use Rattle.com_keyed.proofs.Linking.{linked_push}
use Rattle.com_keyed.proofs.Chains.append.Goals as goal

pub link-requires-clause-linked : goal.link-requires-clause-linked
link-requires-clause-linked c =
    let i = c.self.inside in
    let pushed = linked_push i.keys.items i.links.items i.heads.items (length i.heads.items) c.args.key 0 c.self.invariant.linked c.self.invariant.as_many in
    let count : vec_len i.keys ≡ length i.keys.items = omega (arith, i.keys.ok.0) in
    rw (c.deref.ensures.value, c.deref_mut.ensures.value, c.deref_mut-2.ensures.value, c.push_reserved.ensures.items, c.push_reserved-2.ensures.items, c.len-index.ensures, count) pushed
