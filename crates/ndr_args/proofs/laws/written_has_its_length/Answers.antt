use Rattle.ndr_args.proofs.Streams.{stream_length}
use Rattle.ndr_args.proofs.laws.written_has_its_length.Goals as goal

pub returns : goal.returns
returns c = λ values fits. stream_length values 0 0x20000 fits
