use Rattle.std.proofs.Common.{refl}
use Rattle.com_commands.proofs.Asking.{reads_input, short_text}
use Rattle.com_top.specs.Showing.{are_long_digits, digits_of}
use Rattle.com_top.proofs.objrefs.ObjRefCommandInputReader.read.Goals as goal

pub returns-clause-value : goal.returns-clause-value
returns-clause-value c = reads_input are_long_digits digits_of c.args.text c.args.text (short_text 1048576 c.args.text c.requires) refl
