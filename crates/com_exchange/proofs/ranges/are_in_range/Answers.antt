use Rattle.std.specs.Prelude.{option_copied}
use Rattle.com_exchange.proofs.Ranging.{ranges_step}
use Rattle.com_exchange.proofs.ranges.are_in_range.Goals as goal

pub loop-value-preserved : goal.loop-value-preserved
loop-value-preserved c =
    ranges_step c.loop-value.taken c.packets_of-taken.result c.loop-value.value-index c.value-item.result (option_copied c.packet_at.result)
    c.args.values.now c.args.packets.now c.loop-value-test.true c.value-item.is c.loop-value.invariant c.is_in_range.ensures c.packet_at.ensures
    c.packets_of-taken.ensures.value c.packets_of-taken.ensures.few
