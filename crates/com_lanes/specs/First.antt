-- The lanes before the first entry.
use Rattle.std.specs.Prelude.{ℕ, ◌+◌, false, [], None}
use Rattle.com_model.specs.Lists.{tabulated}
use Rattle.com_model.specs.Waiting.{no_mail}
use Rattle.com_state.specs.Parts.{LaneTables}

-- The parts of lanes in `first_tables`, with so many lanes beside the clock's.
abbrev pub first_lanes : ℕ → LaneTables
first_lanes n = record {
  openers = tabulated (n + 1) (λ l. []);
  served = tabulated (n + 1) (λ l. 0);
  homes = tabulated (n + 1) (λ l. None);
  counts = tabulated (n + 1) (λ l. 0);
  made = tabulated (n + 1) (λ l. []);
  over = tabulated (n + 1) (λ l. false);
  filters = tabulated (n + 1) (λ l. None);
  mail = tabulated (n + 1) (λ l. no_mail);
  quits = tabulated (n + 1) (λ l. false);
  stas = [];
  ended = [];
}
