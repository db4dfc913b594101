-- How the cells of a source keep its sinks.
use Rattle.std.specs.Prelude.{◌≡◌, ℕ, zero, suc, ◌≤◌, ◌<◌, ◌^◌, ℤ, pos, List, [], ◌∷◌, ◌++◌, Option, None}
use Rattle.std.specs.Prelude.{length}
use Rattle.com_base.specs.declared.limits.TheConstants.{LINK_COUNT}
use Rattle.com_base.specs.declared.value.RefValue.{RefValue}
use Rattle.com_body.specs.declared.frame.Cells.{Cells}
use Rattle.com_laws_sources.specs.Sinks.{Sink}

-- The first n cookies of the sinks, 0 where there are no more, and the first n references, null where there
-- are no more.
abbrev pub cookies : ℕ → List Sink → List ℤ
cookies zero xs = []
cookies (suc n) [] = pos 0 ∷ cookies n []
cookies (suc n) (x ∷ xs) = pos x.cookie ∷ cookies n xs

abbrev pub links : ℕ → List Sink → List (Option RefValue)
links zero xs = []
links (suc n) [] = None ∷ links n []
links (suc n) (x ∷ xs) = x.held ∷ links n xs

-- The cookies rise, each above the one before, and none is above the last one that was given.
abbrev pub Rising : (before last : ℕ) → List Sink → Type 0
Rising before last [] = before ≤ last
Rising before last (x ∷ xs) = (before < x.cookie) × Rising x.cookie last xs

-- Cells 0 to 3 are the cookies, and links 0 to 3 the sinks; cell 4 is the cookie that was given last.
abbrev pub cells_of : List Sink → (last : ℕ) → List ℤ → Cells
cells_of sinks last rest = record { numbers = cookies LINK_COUNT sinks ++ (pos last ∷ rest); links = links LINK_COUNT sinks }

-- The cells keep these sinks, where this is the cookie that was given last.
pub record Keeps (c : Cells) (sinks : List Sink) (last : ℕ) : Type 0 where
  pub rest : List ℤ
  pub cells : c ≡ cells_of sinks last rest
  pub few : length sinks ≤ LINK_COUNT
  pub rising : Rising 0 last sinks
  pub fits : last < 2 ^ 63
