use Rattle.std.proofs.Common.{◌≡◌, drop, map}
use Rattle.com_servant.specs.Rows.{row}
use Rattle.com_replay.proofs.Between.{Picking}
use Rattle.com_replay.proofs.picks.picking.make_all.Given as goal

abbrev pub invariant-picks : goal.invariant-picks
invariant-picks g l = record {
  picking :
      Picking l.scenario l.picks (g.C.Runtime.state l.runtime) (drop l.lane-index l.picks) l.entries.items;
  same : g.C.Runtime.scenario l.runtime ≡ l.scenario;
  kinds : map (λ b. (goal.Servant-dyn g (b.vtable, b.value)).kind_of b.value) l.servants.items ≡ row;
}
