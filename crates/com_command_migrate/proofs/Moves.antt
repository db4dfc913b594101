-- An agreed history of version 1 in version 2.
use Rattle.std.proofs.Common.{sym, ap, subst, ◌∙◌, inl, inr}
use Rattle.std.proofs.lemmas.List.{length-reverse}
use Rattle.std.specs.Prelude.{◌≡◌, ℕ, ◌<◌, ◌≤◌, true, false, List, ◌++◌, Option, Some, length, reverse, codes}
use Rattle.com_model.specs.declared.counts.Counts.{Counts}
use Rattle.com_model.specs.declared.counts.Ended.{Ended}
use Rattle.com_model.specs.declared.deeds.Entry.{Entry}
use Rattle.com_model.specs.declared.scenario.Scenario.{Scenario}
use Rattle.com_model.specs.Clock.{clock}
use Rattle.com_model.specs.Ends.{all_counts, ended_as, report, report_as, text}
use Rattle.com_model.specs.Formed.{Formed}
use Rattle.com_model.specs.Rules.{legal}
use Rattle.com_model.specs.Text.{report_text}
use Rattle.com_check.specs.declared.judged.Judged.{Judged}
use Rattle.com_check.specs.Judging.{IsJudged, judged_text}
use Rattle.com_check.specs.declared.agreement.traces.Agreed.{Agreed}
use Rattle.com_check.specs.Agreeing.{IsAgreed, IsOther}
use Rattle.com_laws_versions.specs.Moved.{moved}
use Rattle.com_laws_versions.proofs.Formed.{moved_formed}
use Rattle.com_laws_versions.proofs.Histories.{moved_counts, moved_ends, moved_legal}
use Rattle.com_command_migrate.specs.declared.answers.Moved.{Moved}
use Rattle.com_command_migrate.specs.Answers.{IsMovedBy}
use Rattle.com_command_migrate.specs.Moving.{Moves, trace_text}
use Rattle.com_command_migrate.proofs.Long.{below, few_lines}

pub moves_by : (s : Scenario) (trace : List ℕ) (a : Agreed) → Formed s → length trace ≤ 1_048_576 → IsAgreed s trace a → Moves s a
moves_by s trace a f short p =
    let h : List Entry = reverse a.history in
    let is : h ≡ p.text.history = p.history in
    let low : length p.text.history < 200_000 = few_lines s trace p.text f short in
    let lawful : legal s h = subst (legal s) (sym is) p.text.lawful in
    let count : length h ≡ length a.history = length-reverse a.history in
    let few : length h < 200_000 = subst (λ (x : List Entry). length x < 200_000) (sym is) low in
    let ends : ended_as (moved s) h ≡ Some a.ended =
    moved_ends s h f lawful (below s (length h) few) ∙ ap (ended_as s) is ∙ p.ended in
    let counts : a.counts ≡ all_counts (moved s) h = p.counts ∙ ap (all_counts s) (sym is) ∙ sym (moved_counts s h f lawful) in
    record {
      lawful = moved_legal s h f lawful;
      ends = ends;
      few = subst (λ (n : ℕ). n < 200_000) count few;
      written = ap (λ (y : List ℕ). text (moved s) h ++ y)
          (ap (λ (cs : List Counts). report_text cs (length a.history) a.clock a.ended) counts
          ∙ ap (λ (n : ℕ). report_text (all_counts (moved s) h) n a.clock a.ended) (sym count)
          ∙ ap (λ (t : ℕ). report_text (all_counts (moved s) h) (length h) t a.ended) (p.clock ∙ ap clock (sym is))
          ∙ ap (λ (x : Option Ended). report_as (moved s) h x) (sym ends));
    }

-- ---- the answer

carried : (s : Scenario) (trace before : List ℕ) (a : Agreed) (answer : Moved) → Formed s → length trace ≤ 1_048_576 → IsAgreed s trace a
    → answer.agrees ≡ true → answer.text ≡ (before ++ codes "trace\n") ++ trace_text a → IsMovedBy s trace before answer
carried s trace before a answer f short p agrees written =
    let m : Moves s a = moves_by s trace a f short p in
    inl (record {
      carried = p.text;
      lawful = subst (legal (moved s)) p.history m.lawful;
      ends = sym (ap (ended_as (moved s)) p.history) ∙ m.ends ∙ sym p.ended;
      agrees = agrees;
      written = written ∙ ap (λ (y : List ℕ). (before ++ codes "trace\n") ++ y)
          (m.written ∙ ap (λ (g : List Entry). text (moved s) g ++ report (moved s) g) p.history);
    })

-- An agreed trace is carried, where the scenario is shared.
pub is_carried : (s shared : Scenario) (trace before : List ℕ) (a : Agreed) (answer : Moved) → shared ≡ s → Formed s
    → length trace ≤ 1_048_576 → IsAgreed shared trace a → answer.agrees ≡ true → answer.text ≡ (before ++ codes "trace\n") ++ trace_text a
    → IsMovedBy s trace before answer
is_carried s shared trace before a answer same f short p agrees written =
    carried s trace before a answer f short (subst (λ (x : Scenario). IsAgreed x trace a) same p) agrees written

pub is_refused : (s shared : Scenario) (trace before : List ℕ) (j : Judged) (answer : Moved) → shared ≡ s
    → IsJudged shared trace j × IsOther j → answer.agrees ≡ false → answer.text ≡ judged_text j → IsMovedBy s trace before answer
is_refused s shared trace before j answer same p agrees written =
    inr (record { verdict = j; is = subst (λ (x : Scenario). IsJudged x trace j) same p.0; differs = p.1; agrees = agrees; written = written })

pub moves_form : (s : Scenario) (v : ℕ) → Formed s → v ≡ 2 → Formed (record s { version = v })
moves_form s v f two = subst (λ (n : ℕ). Formed (record s { version = n })) (sym two) (moved_formed s f)
