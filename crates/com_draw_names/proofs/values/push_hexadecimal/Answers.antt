use Rattle.std.proofs.Common.{rules}
use Rattle.com_draw_names.proofs.Pieces.{digits_all}
use Rattle.com_draw_names.proofs.values.push_hexadecimal.Goals as goal

pub returns : goal.returns
returns c = digits_all _ c.pieces.rest.now _ (search rules) c.pieces.invariant
