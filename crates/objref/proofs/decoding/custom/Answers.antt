use Rattle.std.proofs.Common.{sym, ◌∙◌}
use Rattle.objref.proofs.Spelled.{long_enough}
use Rattle.objref.proofs.decoding.custom.Goals as goal

pub split_at-requires : goal.split_at-requires
split_at-requires c = long_enough c.args.bytes.now 44 c.in_ok-unread.unread c.u32_at-2.result c.u32_at-2.ensures.value (sym c.whole-4.ensures ∙ c.in_ok-unread.was)
