use Rattle.orpc.proofs.Spelled.{request_ends, reply_ends}
use Rattle.orpc.proofs.no_front_is_whole.Goals as goal

pub returns-clause-request : goal.returns-clause-request
returns-clause-request c = request_ends

pub returns-clause-reply : goal.returns-clause-reply
returns-clause-reply c = reply_ends
