use Rattle.com_replay.proofs.Histories.{history_picked, picked_legal}
use Rattle.com_replay.proofs.picks.laws.picks_and_histories.Goals as goal

pub returns-clause-lawful : goal.returns-clause-lawful
returns-clause-lawful c = picked_legal

pub returns-clause-all : goal.returns-clause-all
returns-clause-all c = history_picked
