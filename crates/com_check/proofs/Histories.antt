-- How many lines and entries a history has.
use Rattle.std.proofs.Common.{◌≡◌, ℕ, ◌+◌, ◌<◌, ◌≤◌, refl, ap, length-append, arith, List, [], ◌∷◌, length, Option, None}
use Rattle.std.proofs.lemmas.Grind.{common_steps}
use Rattle.std.specs.Prelude.{if◌then◌else◌, ◌==◌}
use Rattle.com_model.specs.declared.counts.Ended.{Ended}
use Rattle.com_model.specs.declared.deeds.Entry.{Entry}
use Rattle.com_model.specs.declared.scenario.Scenario.{Scenario}
use Rattle.com_model.specs.Ends.{ended_as, limit, report_as}
use Rattle.com_check.specs.Lines.{lines_of}
use Rattle.com_check.specs.Judging.{entry_line, history_lines, report_lines}

pub history_length : (version : ℕ) (h : List Entry) → length (history_lines version h) ≡ length h
unfolding history_lines
history_length version [] = refl
history_length version (e ∷ h) =
    let older : length (history_lines version h) ≡ length h = history_length version h in
    omega (arith, length-append (history_lines version h) (entry_line version (length h + 1) e ∷ []), older)

-- A history that has not ended has no report.
pub nothing_told : (s : Scenario) (h : List Entry) → ended_as s h ≡ None → report_lines s h ≡ []
unfolding report_lines lines_of
nothing_told s h e = ap (λ (x : Option Ended). lines_of (report_as s h x)) e

few_by : (v : ℕ) → (if v == 2 then 1_000_000 else 200_000) ≤ 1_000_000
few_by v = grind (arith, common_steps)

pub few_entries : (s : Scenario) → limit s ≤ 1_000_000
few_entries s = few_by s.version

pub few_more : (s : Scenario) (n : ℕ) → n < limit s → n ≤ 1_000_000
few_more s n p = let k : limit s ≤ 1_000_000 = few_entries s in omega (arith, p, k)
