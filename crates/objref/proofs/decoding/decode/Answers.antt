use Rattle.std.proofs.Common.{ap, subst, ◌∙◌, arith}
use Rattle.objref.specs.Grammar.{reference_of}
use Rattle.objref.specs.Reading.{Gives, objref_of}
use Rattle.objref.proofs.Spelled.{is_found, objref_again}
use Rattle.objref.proofs.decoding.decode.Goals as goal

pub returns-clause-found : goal.returns-clause-found
returns-clause-found c = is_found c.args.bytes.now c.any.result (λ i. omega (arith, c.type_inv.bytes i)) c.any.ensures

pub returns-clause-only : goal.returns-clause-only
returns-clause-only c = λ said is. subst (λ read. Gives reference_of c.any.result read) (ap objref_of is.bytes_are ∙ objref_again said is.says) c.any.ensures
