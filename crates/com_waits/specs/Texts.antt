-- What is printed of an explanation: a line for each lane that waits, and the cycle.
use Rattle.std.specs.Prelude.{ℕ, List, [], ◌∷◌, ◌++◌, Option, Some, None, codes, decimal}
use Rattle.com_waits.specs.declared.reasons.Why.{Why}
use Rattle.com_waits.specs.declared.reasons.Why.TheVariants.{Message, Body, Pool}
use Rattle.com_waits.specs.declared.reasons.Wait.{Wait}
use Rattle.com_waits.specs.declared.reasons.Waits.{Waits}

abbrev pub at_call : List ℕ → (call lane : ℕ) → List ℕ
at_call word c m = word ++ decimal c ++ codes " L" ++ decimal m

abbrev pub why_text : Why → List ℕ
why_text Message = codes " message"
why_text (Body c m) = at_call (codes " body c") c m
why_text (Pool c m) = at_call (codes " pool c") c m

abbrev pub wait_line : Wait → List ℕ
wait_line w = codes "L" ++ decimal w.lane ++ why_text w.why ++ codes "\n"

abbrev pub wait_lines : List Wait → List ℕ
wait_lines [] = []
wait_lines (w ∷ ws) = wait_line w ++ wait_lines ws

abbrev pub lane_words : List ℕ → List ℕ
lane_words [] = []
lane_words (l ∷ ls) = codes " L" ++ decimal l ++ lane_words ls

abbrev pub cycle_line : List ℕ → List ℕ
cycle_line [] = codes "cycle -\n"
cycle_line (l ∷ ls) = codes "cycle" ++ lane_words (l ∷ ls) ++ codes "\n"

abbrev pub waits_text : Waits → List ℕ
waits_text w = wait_lines w.waits ++ cycle_line w.cycle

abbrev pub not_stuck_line : List ℕ
not_stuck_line = codes "not stuck\n"

-- The text of an explanation, and the line `not stuck` where there is none.
abbrev pub text_of : Option Waits → List ℕ
text_of None = not_stuck_line
text_of (Some w) = waits_text w
