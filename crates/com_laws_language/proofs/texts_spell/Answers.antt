use Rattle.com_laws_language.proofs.Laws.{spelled_is_read, read_is_spelled, one_scenario}
use Rattle.com_laws_language.proofs.texts_spell.Goals as goal

pub returns : goal.returns
returns c = record { read = spelled_is_read; spelled = read_is_spelled; one = one_scenario }
