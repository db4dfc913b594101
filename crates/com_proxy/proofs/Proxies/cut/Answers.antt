use Rattle.std.proofs.Common.{arith, length, take, drop, ◌++◌, ◌≡◌}
use Rattle.std.proofs.lemmas.Grind.{common_steps}
use Rattle.com_proxy.specs.Rows.{cut_rows}
use Rattle.com_proxy.proofs.Rows.{table_cut}
use Rattle.com_proxy.proofs.Proxies.cut.Goals as goal

pub invariant_of-self : goal.invariant_of-self
invariant_of-self c =
    let rows = c.self.inside.rows in
    let is : take rows.len (c.cut_all.new.rows ++ drop (length c.cut_all.new.rows) rows.items) ≡ cut_rows c.args.object rows.items = grind (arith, common_steps) in
    rw is (table_cut rows.items c.self.inside.proxies c.self.inside.objects c.args.object c.self.invariant)
