-- What `waits` answers.
use Rattle.std.proofs.Common.{◌≡◌, ℕ, List, refl, sym, ◌∙◌, ap, subst, reverse, Option, Some}
use Rattle.com_io.specs.Told.{IsAtEnd}
use Rattle.com_model.specs.declared.counts.Ended.{Ended}
use Rattle.com_model.specs.declared.deeds.Entry.{Entry}
use Rattle.com_model.specs.declared.scenario.Scenario.{Scenario}
use Rattle.com_model.specs.Ends.{ended_as}
use Rattle.com_model.specs.Rules.{legal}
use Rattle.com_command_replay.specs.Replays.{whole_served}
use Rattle.com_command_replay.specs.Recorded.{IsRecorded}
use Rattle.com_waits.specs.Chains.{explanation_of}
use Rattle.com_waits.specs.declared.reasons.Waits.{Waits}
use Rattle.com_waits.specs.Texts.{text_of}
use Rattle.com_commands.specs.declared.inputs.Input.TheVariants as input
use Rattle.com_commands.specs.declared.statuses.Status.{Status}
use Rattle.com_commands.specs.declared.statuses.Status.TheVariants as status
use Rattle.com_commands.specs.Responses.{Causes, FitsServed, GivesWhole}
use Rattle.com_commands.specs.Statuses.{Concludes, IsEnd, Says, Sides}
use Rattle.com_commands.proofs.Answering.{answered_serves, said_answered, said_causes, said_no_memory}
use Rattle.com_top.specs.Explaining.{IsExplained, explanation}
use Rattle.com_command_replay.specs.Scenarios.{scenario_input}

-- ---- the explanation

abbrev Explains : Scenario → List Entry → Ended → Option Waits → Type 0
Explains s entries x w =
    legal s (reverse entries) → ended_as s (reverse entries) ≡ Some x → w ≡ explanation_of s (reverse entries)

explained_is : (s : Scenario) (entries : List Entry) (x : Ended) (w : Option Waits) (text : List ℕ) → IsRecorded s entries x
    → Explains s entries x w → text ≡ text_of w → text ≡ explanation s
unfolding explanation
explained_is s entries x w text r explains written =
    written ∙ ap text_of (explains r.lawful r.ended_is) ∙ ap (λ (h : List Entry). text_of (explanation_of s h)) r.history

-- What is explained, of a scenario and of entries that are looked at.
pub explained_at : (s seen : Scenario) (entries slice : List Entry) (x : Ended) (w : Option Waits) (text : List ℕ)
    → seen ≡ s → slice ≡ entries → IsRecorded s entries x → Explains seen slice x w → text ≡ text_of w → text ≡ explanation s
explained_at s seen entries slice x w text is_seen is_slice r explains written =
    explained_is s entries x w text r
    (subst (λ (y : Scenario). Explains y entries x w) is_seen (subst (λ (es : List Entry). Explains seen es x w) is_slice explains)) written

-- ---- what was said of it

explained_concludes : (scenario : Scenario) (s : Status) (text : List ℕ) → IsExplained scenario s text → Concludes s
explained_concludes scenario s text is = subst (λ (x : Status). Concludes x) (sym is.0) tt

pub explained_causes : (scenario : Scenario) (result : Status) (text slice : List ℕ) (sides : Sides)
    → ((bytes : List ℕ) → sides.left ≡ Some bytes → scenario_input bytes ≡ input.Reads scenario) → IsAtEnd sides.left_after
    → text ≡ explanation scenario → slice ≡ text → Says result status.Done slice sides.held sides.held_after sides.write_faults sides.write_faults_after
    → Causes scenario_input IsExplained result sides
explained_causes scenario result text slice sides which end is same said =
    said_causes scenario_input IsExplained scenario result status.Done slice sides which end (explained_concludes scenario) (refl, same ∙ is) said

pub explained_serves : (scenario : Scenario) (result : Status) (text slice : List ℕ) (sides : Sides) (steps steps_after : List ℕ)
    → ((bytes : List ℕ) → sides.left ≡ Some bytes → scenario_input bytes ≡ input.Reads scenario)
    → text ≡ explanation scenario → slice ≡ text → Says result status.Done slice sides.held sides.held_after sides.write_faults sides.write_faults_after
    → steps_after ≡ whole_served scenario steps
    → IsEnd result → GivesWhole scenario_input (FitsServed IsExplained whole_served steps steps_after) result sides
explained_serves scenario result text slice sides steps steps_after which is same said counted end =
    answered_serves scenario_input IsExplained whole_served scenario result sides steps steps_after which
    (said_answered (IsExplained scenario) result status.Done slice sides.held sides.held_after sides.write_faults sides.write_faults_after (refl, same ∙ is) said)
    (λ e. counted) end

pub explained_unwritten : (result : Status) (text : List ℕ) (held held_after : Option (List ℕ)) (faults faults_after : ℕ)
    → Says result status.Done text held held_after faults faults_after → result ≡ status.Memory → held_after ≡ held
explained_unwritten result text held held_after faults faults_after said wants =
    said_no_memory result status.Done text held held_after faults faults_after tt said wants
