use Rattle.std.proofs.Common.{◌∙◌, arith}
use Rattle.orpc.proofs.Spelled.{is_request, request_again}
use Rattle.orpc.proofs.read_request.Goals as goal

pub returns-clause-found : goal.returns-clause-found
returns-clause-found c = is_request c.args.bytes.now c.cause_of.result (λ i. omega (arith, c.type_inv.bytes i)) c.cause_of.ensures

pub returns-clause-only : goal.returns-clause-only
returns-clause-only c = λ h rest fits e. c.cause_of.ensures ∙ request_again c.args.bytes.now h rest fits e
