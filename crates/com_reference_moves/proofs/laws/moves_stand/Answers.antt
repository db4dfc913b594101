use Rattle.com_reference_moves.proofs.Stands.{moves-history, moves-tables, moves-places}
use Rattle.com_reference_moves.proofs.Stepped.{moves-stepped}
use Rattle.com_reference_moves.proofs.laws.moves_stand.Goals as goal

pub returns-clause-history : goal.returns-clause-history
returns-clause-history c = moves-history

pub returns-clause-tables : goal.returns-clause-tables
returns-clause-tables c = moves-tables

pub returns-clause-places : goal.returns-clause-places
returns-clause-places c = moves-places

pub returns-clause-stepped : goal.returns-clause-stepped
returns-clause-stepped c = moves-stepped
