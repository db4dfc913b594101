use Rattle.com_state.proofs.SceneNext.{tables-next, scene-next}
use Rattle.com_state.proofs.laws.scene_by_rows.Goals as goal

pub returns-clause-tables : goal.returns-clause-tables
returns-clause-tables c = tables-next

pub returns-clause-state : goal.returns-clause-state
returns-clause-state c = scene-next
