use Rattle.ndr_args.proofs.Streams.{all_can_send}
use Rattle.ndr_args.proofs.writing.write_args.Goals as goal

pub args_length-requires : goal.args_length-requires
args_length-requires c = all_can_send c.args.kinds.now c.args.values.now c.requires
