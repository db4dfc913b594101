use Rattle.std.proofs.Common.{◌∙◌, sym, Some, None}
use Rattle.com_text.proofs.Strays.{column_of}
use Rattle.com_text.proofs.stray.stray_column.Goals as goal

pub returns-in-Some : goal.returns-in-Some
returns-in-Some c = sym (column_of c.args.column c.args.bytes.now (Some c.in-Some.at) (sym c.first_stray.ensures.first ∙ c.in-Some.is))

pub returns-in-None : goal.returns-in-None
returns-in-None c = sym (column_of c.args.column c.args.bytes.now None (sym c.first_stray.ensures.first ∙ c.in-None.is))
