use Rattle.std.proofs.Common.{◌≡◌, drop}
use Rattle.com_read_sections.specs.Opened.{has_body}
use Rattle.com_read_sections.proofs.open.has_body.Given as goal

abbrev pub invariant-loop-body : goal.invariant-loop-body
invariant-loop-body l = has_body (drop l.body-index l.bodies) l.head ≡ has_body l.bodies l.head
