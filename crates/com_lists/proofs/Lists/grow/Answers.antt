use Rattle.std.proofs.Common.{arith}
use Rattle.com_lists.proofs.ChainLemmas.{stands_grown, stands_for_itself, lists_of_grown, length-lists_of, OnOk_from}
use Rattle.com_lists.proofs.Lists.grow.Goals as goal

pub invariant_of-self-2 : goal.invariant_of-self-2
invariant_of-self-2 c =
    let inside = c.self.inside in
    let requires = rw (← c.self.view_is) at c.requires in
    let long = length-lists_of inside.heads.items inside.nodes in
    stands_for_itself _ _ _ (stands_grown _ _ _ _ _ _ _ _ _ _ c.self.invariant
    (omega (arith, requires.heads, long))
    c.in_ok-reserve.ensures.items c.resize.ensures.items c.in_ok-grow.ensures.nodes)

pub returns-clause-lists : goal.returns-clause-lists
returns-clause-lists c =
    let inside = c.self.inside in
    let requires = rw (← c.self.view_is) at c.requires in
    let long = length-lists_of inside.heads.items inside.nodes in
    let stands = stands_grown _ _ _ _ _ _ _ _ _ _ c.self.invariant
    (omega (arith, requires.heads, long))
    c.in_ok-reserve.ensures.items c.resize.ensures.items c.in_ok-grow.ensures.nodes in
    OnOk_from c.resize.result _ (λ ok. rw (← c.self.view_is) (lists_of_grown _ _ _ _ _ _ stands ok
    (omega (arith, long, inside.heads.ok.0, c.in_ok-reserve.ensures.len))))
