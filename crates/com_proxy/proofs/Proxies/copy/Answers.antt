use Rattle.std.proofs.Common.{arith, refl, length, ◌<◌}
use Rattle.std.proofs.lemmas.Grind.{common_steps}
use Rattle.com_proxy.proofs.Rows.{table_write, held_index}
use Rattle.com_proxy.proofs.Proxies.copy.Goals as goal

pub invariant_of-self : goal.invariant_of-self
invariant_of-self c =
    let rows = c.self.inside.rows in
    let inside : c.find-at.result < length rows.items = grind (arith, common_steps, held_index) in
    table_write rows.items c.self.inside.proxies c.self.inside.objects c.find-at.result c.index_mut-row.result.now _ c.self.invariant inside c.index_mut-row.ensures.value refl refl refl
