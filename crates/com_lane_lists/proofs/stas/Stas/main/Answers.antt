use Rattle.std.proofs.Common.{arith}
use Rattle.com_lane_lists.proofs.StasKept.{main_lives, main_host}
use Rattle.com_lane_lists.proofs.stas.Stas.main.Goals as goal

pub returns-then-self-len : goal.returns-then-self-len
returns-then-self-len c = rw (← c.self.view_is) (let e = main_lives _ _ _ _ c.self.invariant (omega arith) in omega (arith, e))

pub returns-else-self-len : goal.returns-else-self-len
returns-else-self-len c = rw (← c.self.view_is) (let e = main_host _ _ _ _ c.self.invariant (omega arith) in omega (arith, e))
