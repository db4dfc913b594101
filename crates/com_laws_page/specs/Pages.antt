-- Well-formed pages, and what they hold.
use Rattle.std.specs.Prelude.{◌≡◌, ℕ, zero, suc, true, false, nat_le, if◌then◌else◌, List, [], ◌∷◌, ◌++◌}
use Rattle.std.specs.Prelude.{codes, decimal}
use Rattle.com_draw_words.specs.Ends.{tail_text}
use Rattle.com_draw_words.specs.declared.limits.TheConstants.{LIMIT}
use Rattle.com_laws_markup.specs.Markup.{Before, Content, Over, read}

-- Well-formed markup: the document's type, and one element that holds all else. In it the attribute
-- `data-entry` has these values, the newest first.
pub record IsWellFormed (entries : List (List ℕ)) (w : List ℕ) : Type 0 where
  pub reads : read true (Before []) w ≡ Over entries

-- A page with no script but that of its tail, which is the same in every page: up to there it is well formed
-- also to a reader who takes none, and the body is open.
pub record HasOneScript (entries : List (List ℕ)) (w : List ℕ) : Type 0 where
  pub before : List ℕ
  pub is : w ≡ before ++ tail_text
  pub reads : read false (Before []) before ≡ Content (codes "body" ∷ codes "html" ∷ []) entries

-- The numbers of so many entries, the newest first, but for those behind the limit, which are not drawn.
abbrev pub row_numbers : (entries : ℕ) → List (List ℕ)
row_numbers zero = []
row_numbers (suc k) = if nat_le (suc k) LIMIT then decimal (suc k) ∷ row_numbers k else row_numbers k
