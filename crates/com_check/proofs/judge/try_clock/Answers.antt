-- The clock goes on, or the history runs or has ended.
use Rattle.std.proofs.Common.{refl, sym, ◌∙◌}
use Rattle.com_runtime.proofs.Limits.{not_finished, not_stuck}
use Rattle.com_check.proofs.Entries.{no_tick}
use Rattle.com_check.proofs.Judging.{clock_goes_on}
use Rattle.com_check.proofs.judge.try_clock.Goals as goal

pub returns-in_ok-let_tick-in-Ticks-clause-made : goal.returns-in_ok-let_tick-in-Ticks-clause-made
returns-in_ok-let_tick-in-Ticks-clause-made g c =
    (clock_goes_on _ _ (sym c.in-Ticks.is ∙ c.standing.ensures) c.requires.room, c.in_ok-let_tick-in-Ticks.ensures.entry)

pub returns-in-Runs-clause-made : goal.returns-in-Runs-clause-made
returns-in-Runs-clause-made g c = (refl, λ goes. no_tick _ _ (sym c.in-Runs.is ∙ c.standing.ensures))

pub returns-in-Finished-clause-made : goal.returns-in-Finished-clause-made
returns-in-Finished-clause-made g c = (refl, λ goes. absurd (not_finished _ _ (sym c.in-Finished.is ∙ c.standing.ensures) goes))

pub returns-in-Stuck-clause-made : goal.returns-in-Stuck-clause-made
returns-in-Stuck-clause-made g c = (refl, λ goes. absurd (not_stuck _ _ (sym c.in-Stuck.is ∙ c.standing.ensures) goes))
