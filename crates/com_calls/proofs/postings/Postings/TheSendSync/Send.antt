-- The order of postings owns nothing, so it may go to another thread.
use denote.Param.Send.{IsSend}
use Rattle.com_calls.specs.contracts.postings.Postings.{the_row}

pub send : IsSend the_row
send = record { owned = λ d vs. ((λ vss. (tt, tt)), tt); leaving = λ k d w. tt }
