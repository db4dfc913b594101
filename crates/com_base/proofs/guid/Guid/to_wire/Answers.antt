use Rattle.std.proofs.Common.{ap, ◌++◌}
use Rattle.std.specs.Int.{to_le_bytes, w16, w32}
use Rattle.com_base.proofs.guid.Guid.to_wire.Goals as goal
use Rattle.com_base.proofs.Lengths.{eight_elements}

pub returns : goal.returns
returns c =
    let guid = c.args.self.now in
    rw (c.to_le_bytes.ensures, c.to_le_bytes-2.ensures, c.to_le_bytes-3.ensures)
    (ap (λ tail. to_le_bytes w32 guid.data1 ++ to_le_bytes w16 guid.data2 ++ to_le_bytes w16 guid.data3 ++ tail) (eight_elements guid.data4 (search (c.type_inv.self))))
