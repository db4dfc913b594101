use Rattle.std.proofs.Common.{arith}
use Rattle.ndr_args.specs.Written.{written_args}
use Rattle.ndr_args.proofs.Streams.{args_written, of_again}
use Rattle.ndr_args.proofs.laws.written_is_read.Goals as goal

pub returns-clause-grammar : goal.returns-clause-grammar
returns-clause-grammar c = λ kinds values can fits le. args_written kinds values 0 0x20000 can fits (omega arith) le

pub returns-clause-again : goal.returns-clause-again
returns-clause-again c = λ kinds values can fits le. of_again kinds values (written_args values) (args_written kinds values 0 0x20000 can fits (omega arith) le)
