use Rattle.std.proofs.Common.{◌++◌, refl, arith}
use Rattle.orpc.specs.Headers.{this_text, this_of, that_text}
use Rattle.orpc.proofs.Spelled.{request_again, reply_again, length-this, length-that, this_fits}
use Rattle.orpc.proofs.written_is_read.Goals as goal

pub returns-clause-grammar : goal.returns-clause-grammar
returns-clause-grammar c = this_fits

pub returns-clause-request : goal.returns-clause-request
returns-clause-request c = λ cause rest fits. request_again (this_text (this_of cause) ++ rest) (this_of cause) rest (this_fits cause fits) refl

pub returns-clause-reply : goal.returns-clause-reply
returns-clause-reply c = λ rest. reply_again (that_text 0 ++ rest) 0 rest (omega arith) refl

pub returns-clause-request_size : goal.returns-clause-request_size
returns-clause-request_size c = λ cause fits. length-this (this_of cause) (this_fits cause fits)

pub returns-clause-reply_size : goal.returns-clause-reply_size
returns-clause-reply_size c = length-that
