use Rattle.std.proofs.Common.{◌≡◌, drop}
use Rattle.com_points.specs.SourceHeads.{are_own_bodies}
use Rattle.com_points.proofs.sources.are_own_bodies.Given as goal

abbrev pub invariant-loop-body : goal.invariant-loop-body
invariant-loop-body l = are_own_bodies l.iface (drop l.body-index l.bodies) ≡ are_own_bodies l.iface l.bodies
