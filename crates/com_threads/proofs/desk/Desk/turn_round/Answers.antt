use Rattle.std.proofs.Common.{sym, ◌∙◌}
use Rattle.com_runtime.proofs.Limits.{below_limit}
use Rattle.com_threads.proofs.Added.{reached_at, entries_within}
use Rattle.com_threads.proofs.Driven.{no_finish, no_stuck, no_runs}
use Rattle.com_threads.proofs.desk.Desk.turn_round.Goals as goal

pub choose-chosen-requires-clause-reached : goal.choose-chosen-requires-clause-reached
choose-chosen-requires-clause-reached g c = reached_at _ _ _ _ c.requires.at

pub stand-standing-requires-clause-reached : goal.stand-standing-requires-clause-reached
stand-standing-requires-clause-reached g c = reached_at _ _ _ _ c.requires.at

pub step-requires-clause-room : goal.step-requires-clause-room
step-requires-clause-room g c = below_limit _ _ (sym c.end_of.ensures ∙ c.in_default.is) (entries_within _ _ _ _ c.requires.at)

pub unreachable-requires : goal.unreachable-requires
unreachable-requires g c = no_runs _ _ (sym c.in-Runs.is ∙ c.stand-standing.ensures) (c.choose-chosen.ensures.none c.in-None.is)

pub advance-requires-clause-room : goal.advance-requires-clause-room
advance-requires-clause-room g c = below_limit _ _ (sym c.end_of.ensures ∙ c.in_default.is) (entries_within _ _ _ _ c.requires.at)

pub unreachable-requires-in-Finished : goal.unreachable-requires-in-Finished
unreachable-requires-in-Finished g c = no_finish _ _ _ c.requires.at.same (sym c.in-Finished.is ∙ c.stand-standing.ensures) (sym c.end_of.ensures ∙ c.in_default.is)

pub unreachable-requires-in-Stuck : goal.unreachable-requires-in-Stuck
unreachable-requires-in-Stuck g c = no_stuck _ _ _ c.requires.at.same (sym c.in-Stuck.is ∙ c.stand-standing.ensures) (sym c.end_of.ensures ∙ c.in_default.is)
