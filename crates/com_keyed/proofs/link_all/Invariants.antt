use Rattle.std.proofs.Common.{length}
use Rattle.com_keyed.specs.Linked.{IsLinked}
use Rattle.com_keyed.proofs.link_all.Given as goal

abbrev pub invariant-loop-index : goal.invariant-loop-index
invariant-loop-index l = IsLinked l.keys l.links l.heads (length l.heads) l.index
