-- The tables of lanes, by what is kept of them.
use Rattle.std.specs.Prelude.{ℕ, Bool, List, Option}
use Rattle.com_lane_lists.specs.Apartments.{StaTables}
use Rattle.com_lane_lists.specs.Rooms.{OpenerRows, MailRows, openers_in, mail_in}
use Rattle.com_state.specs.Parts.{LaneTables}

abbrev pub tables_of : List OpenerRows → (served : List ℕ) → (homes : List (Option ℕ)) → (counts : List ℕ)
    → (over : List Bool) → (filters : List (Option ℕ)) → List MailRows → (quits : List Bool) → StaTables
    → LaneTables
tables_of openers served homes counts over filters mail quits stas = record {
  openers = openers_in openers;
  served = served;
  homes = homes;
  counts = counts;
  made = stas.made;
  over = over;
  filters = filters;
  mail = mail_in mail;
  quits = quits;
  stas = stas.stas;
  ended = stas.ended;
}
