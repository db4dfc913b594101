use Rattle.com_laws_markup.proofs.Rows.{row_of_entry}
use Rattle.com_laws_markup.proofs.laws.rows_hold_their_entries.Goals as goal

pub returns : goal.returns
returns c = row_of_entry
