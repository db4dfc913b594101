use Rattle.com_laws_draw.proofs.Bites.{entry_is_uncounted, row_is_lost, row_is_twice}
use Rattle.com_laws_draw.proofs.laws.rows_bite.Goals as goal

pub returns : goal.returns
returns c = record { lost = row_is_lost; twice = row_is_twice; uncounted = entry_is_uncounted }
