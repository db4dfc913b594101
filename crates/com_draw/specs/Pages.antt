-- The page of a history.
use Rattle.std.specs.Prelude.{ℕ, List, [], ◌∷◌, ◌++◌}
use Rattle.com_model.specs.declared.deeds.Entry.{Entry}
use Rattle.com_model.specs.declared.scenario.Scenario.{Scenario}
use Rattle.com_draw.specs.declared.beside.Beside.{Beside}
use Rattle.com_draw.specs.Ends.{end_text}
use Rattle.com_draw.specs.Entries.{drawn, entry_text}
use Rattle.com_draw.specs.Fronts.{front}

-- What is written of a history, from the page's first byte on: each entry is written as the picture was before.
abbrev pub written : Scenario → List Entry → List ℕ
written s [] = front s
written s (e ∷ h) = written s h ++ entry_text s (drawn s h) e

-- The page of a history that has ended, which is given with its newest entry first.
abbrev pub page : Scenario → List Entry → Beside → List ℕ
page s h x = written s h ++ end_text (drawn s h) x
