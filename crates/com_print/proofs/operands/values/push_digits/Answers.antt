use Rattle.std.proofs.Common.{rules}
use Rattle.com_print.proofs.Pieces.{digits_all}
use Rattle.com_print.proofs.operands.values.push_digits.Goals as goal

pub returns : goal.returns
returns c = digits_all _ c.pieces.rest.now _ (search rules) c.pieces.invariant.text
