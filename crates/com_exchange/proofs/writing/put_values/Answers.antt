use Rattle.std.proofs.Common.{◌-◌, refl}
use Rattle.std.specs.Prelude.{option_copied}
use Rattle.com_exchange.proofs.Streams.{each_at, so_far_all, so_far_fits, so_far_none, so_far_step}
use Rattle.com_exchange.proofs.writing.put_values.Goals as goal

pub loop-value-init : goal.loop-value-init
loop-value-init c = so_far_none c.args.out.now c.args.values.now c.args.packets.now

pub put_value-requires-clause-value : goal.put_value-requires-clause-value
put_value-requires-clause-value c =
    each_at c.args.values.now c.loop-value.value-index c.value-item.result c.loop-value-test.true c.value-item.is c.requires.travel

pub put_value-requires-clause-referent : goal.put_value-requires-clause-referent
put_value-requires-clause-referent c =
    so_far_fits c.args.out.now c.loop-value.out c.loop-value.referent c.loop-value.taken c.loop-value.value-index c.args.values.now
    c.args.packets.now c.loop-value.invariant c.loop-value-test.true c.requires.referents

pub loop-value-preserved : goal.loop-value-preserved
loop-value-preserved c =
    so_far_step c.args.out.now c.loop-value.out c.put_value.new.out c.loop-value.referent c.in_ok-referent.referent
    (c.len.result - c.len-start.result) c.loop-value.taken c.packets_of-taken.result c.loop-value.value-index c.value-item.result
    (option_copied c.packet_at.result) c.args.values.now c.args.packets.now
    c.loop-value-test.true c.value-item.is c.loop-value.invariant (rw (c.len.ensures, c.len-start.ensures) refl)
    c.in_ok-referent.ensures.ok c.in_ok-referent.ensures.next c.packet_at.ensures c.packets_of-taken.ensures.value c.packets_of-taken.ensures.few

pub returns : goal.returns
returns c =
    so_far_all c.args.out.now c.loop-value.out c.loop-value.referent c.loop-value.taken c.loop-value.value-index c.args.values.now
    c.args.packets.now c.loop-value-test.false c.loop-value.invariant
