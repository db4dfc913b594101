use Rattle.com_laws_language.proofs.Bites.{first_spells, third_spells, second_none, open_none}
use Rattle.com_laws_language.proofs.examples_bite.Goals as goal

pub returns : goal.returns
returns c = record { spells = first_spells; spaced = third_spells; order = second_none; open_section = open_none }
