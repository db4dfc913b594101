use Rattle.std.proofs.Common.{subst, arith}
use Rattle.ndr_args.specs.Reading.{Gives}
use Rattle.ndr_args.proofs.Streams.{is_found, of_again}
use Rattle.ndr_args.proofs.reading.read_args.Goals as goal

pub returns-clause-found : goal.returns-clause-found
returns-clause-found c = is_found c.args.kinds.now c.args.bytes.now c.all.result (λ i. omega (arith, c.type_inv.bytes i)) c.all.ensures

pub returns-clause-only : goal.returns-clause-only
returns-clause-only c = λ values is. subst (λ read. Gives (λ v. v.items) c.all.result read) (of_again c.args.kinds.now values c.args.bytes.now is) c.all.ensures
