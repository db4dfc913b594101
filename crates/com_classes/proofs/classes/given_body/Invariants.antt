use Rattle.std.proofs.Common.{◌≡◌, drop}
use Rattle.com_classes.specs.Lookups.{given_in}
use Rattle.com_classes.proofs.classes.given_body.Given as goal

abbrev pub invariant-loop-given : goal.invariant-loop-given
invariant-loop-given l = given_in (drop l.given-index l.bodies) l.iface l.method ≡ given_in l.bodies l.iface l.method
