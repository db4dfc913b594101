-- Columns, one behind another.
use Rattle.std.proofs.Common.{◌≡◌, ℕ, zero, suc, List, ◌++◌, ◌+◌, ◌-◌, ◌<◌, ◌≤◌, append_assoc, append-nil, arith}
use Rattle.com_draw_words.specs.Sections.{column_text}
use Rattle.com_draw_shapes.specs.Sections.{columns}

-- one column more
pub next_column : (text longer : List ℕ) (l left : ℕ) → longer ≡ text ++ column_text l → 0 < left
    → longer ++ columns (l + 1) (left - 1) ≡ text ++ columns l left
next_column text longer l zero e h = absurd (omega arith)
next_column text longer l (suc n) e h =
    let one : suc n - 1 ≡ n = omega arith in
    rw (e, one) (append_assoc text (column_text l) (columns (l + 1) n))

pub no_column : (text : List ℕ) (l left : ℕ) → left ≤ 0 → text ++ columns l left ≡ text
no_column text l zero h = append-nil text
no_column text l (suc n) h = absurd (omega arith)
