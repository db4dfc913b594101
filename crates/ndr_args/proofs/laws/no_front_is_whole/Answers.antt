use Rattle.ndr_args.proofs.Streams.{streams_end}
use Rattle.ndr_args.proofs.laws.no_front_is_whole.Goals as goal

pub returns : goal.returns
returns c = streams_end
