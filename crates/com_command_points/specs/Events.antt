-- What is printed of the events of sources.
use Rattle.std.specs.Prelude.{ℕ, List, [], ◌∷◌, ◌++◌, codes, decimal}
use Rattle.com_deliveries.specs.declared.Delivery.{Delivery}

-- Cookies, each behind a space.
abbrev pub cookie_words : List ℕ → List ℕ
cookie_words [] = []
cookie_words (c ∷ cs) = codes " " ++ decimal c ++ cookie_words cs

-- The call, and the cookies of the sinks that got the event.
abbrev pub event_line : Delivery → List ℕ
event_line d = codes "fire c" ++ decimal d.call ++ cookie_words d.cookies ++ codes "\n"

-- A line for each event.
abbrev pub event_lines : List Delivery → List ℕ
event_lines [] = []
event_lines (d ∷ ds) = event_line d ++ event_lines ds
