-- What is read of a trace.
use Rattle.std.specs.Prelude.{◌≡◌, List, ℕ, Option, Some, None, reverse}
use Rattle.com_model.specs.declared.scenario.Scenario.{Scenario}
use Rattle.com_model.specs.Clock.{clock}
use Rattle.com_model.specs.Ends.{all_counts, ended_as}
use Rattle.com_check.specs.declared.judged.Judged.{Judged}
use Rattle.com_check.specs.declared.judged.Judged.TheVariants as judged
use Rattle.com_check.specs.Judging.{IsJudged, IsText}
use Rattle.com_check.specs.declared.agreement.traces.Agreed.{Agreed}
use Rattle.com_check.specs.declared.agreement.traces.Trace.{Trace}
use Rattle.com_check.specs.declared.agreement.traces.Trace.TheVariants as traces

-- The trace is the text and the report of a legal history that has ended, and this is that history, in the
-- order of making, with its own counts, clock and end.
pub record IsAgreed (s : Scenario) (trace : List ℕ) (a : Agreed) : Type 0 where
  pub text : IsText s trace
  pub history : reverse a.history ≡ text.history
  pub counts : a.counts ≡ all_counts s text.history
  pub clock : a.clock ≡ clock text.history
  pub ended : ended_as s text.history ≡ Some a.ended

-- A line differs.
abbrev pub IsOther : Judged → Type 0
IsOther judged.Agrees = ⊥
IsOther (judged.Differs line found legal) = Unit {0}

-- What is read of a trace: the history that it agrees with, or the first of its lines that differs.
abbrev pub IsRead : Scenario → List ℕ → Trace → Type 0
IsRead s trace (traces.Agrees a) = IsAgreed s trace a
IsRead s trace (traces.Differs j) = IsJudged s trace j × IsOther j

-- The history that a trace is, where it agrees.
abbrev pub history_in : Trace → Option Agreed
history_in (traces.Agrees a) = Some a
history_in (traces.Differs j) = None
