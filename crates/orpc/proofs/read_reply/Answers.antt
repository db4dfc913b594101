use Rattle.std.proofs.Common.{◌∙◌, arith}
use Rattle.orpc.proofs.Spelled.{is_reply, reply_again}
use Rattle.orpc.proofs.read_reply.Goals as goal

pub returns-clause-found : goal.returns-clause-found
returns-clause-found c = is_reply c.args.bytes.now c.that_at.result (λ i. omega (arith, c.type_inv.bytes i)) c.that_at.ensures

pub returns-clause-only : goal.returns-clause-only
returns-clause-only c = λ flags rest lt e. c.that_at.ensures ∙ reply_again c.args.bytes.now flags rest lt e
