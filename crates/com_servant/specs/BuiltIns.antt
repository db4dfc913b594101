-- The built-in bodies, each by its name.
use Rattle.std.specs.Prelude.{List, slice_get, unwrap_or}
use Rattle.com_body.specs.declared.statements.Stmt.{Stmt}
use Rattle.com_body.specs.BodySteps.{no_body}
use Rattle.com_classes.specs.BuiltIns.{counter_bodies, relay_bodies, latch_bodies}

-- ICounter.add and ICounter.get
abbrev pub counter_add : List Stmt
counter_add = unwrap_or (slice_get counter_bodies 0) no_body

abbrev pub counter_get : List Stmt
counter_get = unwrap_or (slice_get counter_bodies 1) no_body

-- IRelay.set and IRelay.forward
abbrev pub relay_set : List Stmt
relay_set = unwrap_or (slice_get relay_bodies 0) no_body

abbrev pub relay_forward : List Stmt
relay_forward = unwrap_or (slice_get relay_bodies 1) no_body

-- ILatch.set and ILatch.test
abbrev pub latch_set : List Stmt
latch_set = unwrap_or (slice_get latch_bodies 0) no_body

abbrev pub latch_test : List Stmt
latch_test = unwrap_or (slice_get latch_bodies 1) no_body
