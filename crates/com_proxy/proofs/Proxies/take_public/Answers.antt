use Rattle.std.proofs.Common.{refl}
use Rattle.com_proxy.specs.Rows.{IsLowest}
use Rattle.com_proxy.proofs.Rows.{taking, none_held}
use Rattle.com_proxy.proofs.Proxies.take_public.Goals as goal

pub returns-in_default-clause-none : goal.returns-in_default-clause-none
returns-in_default-clause-none c =
    let none = rw c.deref.ensures.value at c.in_default.ensures.none in
    rw (← c.self.view_is) (none_held (λ r. r.public) (λ a o i. refl) c.self.inside.rows.items c.args.apartment c.args.object none)

pub invariant_of-self : goal.invariant_of-self
invariant_of-self c =
    let lowest : IsLowest c.args.apartment c.args.object c.self.inside.rows.items c.in-Some.at = rw (← c.deref.ensures.value) c.in-Some.ensures.lowest in
    (taking c.self.inside.rows.items c.self.inside.proxies c.self.inside.objects c.args.apartment c.args.object c.in-Some.at c.index_mut-row.result.now c.self.invariant lowest c.index_mut-row.ensures.value).table

pub returns-clause-held : goal.returns-clause-held
returns-clause-held c =
    let lowest : IsLowest c.args.apartment c.args.object c.self.inside.rows.items c.in-Some.at = rw (← c.deref.ensures.value) c.in-Some.ensures.lowest in
    rw (← c.self.view_is) (taking c.self.inside.rows.items c.self.inside.proxies c.self.inside.objects c.args.apartment c.args.object c.in-Some.at c.index_mut-row.result.now c.self.invariant lowest c.index_mut-row.ensures.value).held

pub returns-clause-lowest : goal.returns-clause-lowest
returns-clause-lowest c =
    let lowest : IsLowest c.args.apartment c.args.object c.self.inside.rows.items c.in-Some.at = rw (← c.deref.ensures.value) c.in-Some.ensures.lowest in
    rw (← c.self.view_is) (taking c.self.inside.rows.items c.self.inside.proxies c.self.inside.objects c.args.apartment c.args.object c.in-Some.at c.index_mut-row.result.now c.self.invariant lowest c.index_mut-row.ensures.value).least

pub returns-clause-rows : goal.returns-clause-rows
returns-clause-rows c =
    let lowest : IsLowest c.args.apartment c.args.object c.self.inside.rows.items c.in-Some.at = rw (← c.deref.ensures.value) c.in-Some.ensures.lowest in
    rw (← c.self.view_is) (taking c.self.inside.rows.items c.self.inside.proxies c.self.inside.objects c.args.apartment c.args.object c.in-Some.at c.index_mut-row.result.now c.self.invariant lowest c.index_mut-row.ensures.value).changes
