use Rattle.com_laws_draw.proofs.Rows.{has_entries}
use Rattle.com_laws_draw.proofs.laws.every_entry_is_there.Goals as goal

pub returns : goal.returns
returns c = has_entries
