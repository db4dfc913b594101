use Rattle.std.proofs.Common.{arith, refl, sym, subst, length, ◌<◌, ◌-◌}
use Rattle.std.proofs.lemmas.Grind.{common_steps}
use Rattle.com_proxy.specs.Rows.{EachFirst}
use Rattle.com_proxy.proofs.Rows.{table_write, held_index}
use Rattle.com_proxy.proofs.Proxies.release.Goals as goal

pub invariant_of-self : goal.invariant_of-self
invariant_of-self c =
    let rows = c.self.inside.rows in
    let inside : c.find-at.result < length rows.items = grind (arith, common_steps, held_index) in
    table_write rows.items c.self.inside.proxies c.self.inside.objects c.find-at.result c.index_mut-row.result.now _ c.self.invariant inside c.index_mut-row.ensures.value refl refl refl

pub is_free-requires-clause-keyed : goal.is_free-requires-clause-keyed
is_free-requires-clause-keyed c =
    let rows = c.self.inside.rows in
    let inside : c.find-at.result < length rows.items = grind (arith, common_steps, held_index) in
    let table = table_write rows.items c.self.inside.proxies c.self.inside.objects c.find-at.result c.index_mut-row.result.now (record c.index_mut-row.result.now { local = c.index_mut-row.result.now.local - 1 }) c.self.invariant inside c.index_mut-row.ensures.value refl refl refl in
    rw (c.deref-2.ensures.value) table.by_proxy

pub is_free-requires-clause-first : goal.is_free-requires-clause-first
is_free-requires-clause-first c =
    let rows = c.self.inside.rows in
    let inside : c.find-at.result < length rows.items = grind (arith, common_steps, held_index) in
    let table = table_write rows.items c.self.inside.proxies c.self.inside.objects c.find-at.result c.index_mut-row.result.now (record c.index_mut-row.result.now { local = c.index_mut-row.result.now.local - 1 }) c.self.invariant inside c.index_mut-row.ensures.value refl refl refl in
    subst EachFirst (sym c.deref-2.ensures.value) table.first
