-- Words in the order of their numbers.
use Rattle.std.specs.Prelude.{ℕ, ◌<◌, ◌≤◌, List, [], ◌∷◌}
use Rattle.com_model.specs.declared.keeps.Mark.{Mark}
use Rattle.com_model.specs.declared.keeps.Word.{Word}
use Rattle.com_model.specs.Waiting.{Mail}

abbrev pub number_of : Word → ℕ
number_of w = w.number

-- Each number is above those before it; all are above the one given first, and none is above the last.
abbrev pub Ascend : (low : ℕ) → List Word → (high : ℕ) → Type 0
Ascend n [] p = n ≤ p
Ascend n (w ∷ ws) p = (n < w.number) × Ascend w.number ws p

-- What a lane has of words.
abbrev pub mail_of : (posted : ℕ) → List Word → List Mark → Mail
mail_of p ws ms = record { posted = p; words = ws; marks = ms }
