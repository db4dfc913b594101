-- A number's text is read as its scenario.
use Rattle.std.proofs.Common.{◌≡◌, ℕ, [], Ok, codes, refl, sym, ap, ◌∙◌}
use Rattle.com_classes.specs.BuiltIns.{built_in_interfaces}
use Rattle.com_model.specs.declared.scenario.Scenario.{Scenario}
use Rattle.com_model.specs.Formed.{FormedInterfaces, Formed}
use Rattle.com_text.specs.Scanning.{lines_of}
use Rattle.com_read_operands.specs.Reading.{end_at}
use Rattle.com_read_lines.specs.Header.{version_at}
use Rattle.com_read_sections.specs.Header.{header_line}
use Rattle.com_read_sections.specs.Opened.{step}
use Rattle.com_read_sections.specs.Outlines.{finish, read}
use Rattle.com_scenario.specs.Scenarios.{reading}
use Rattle.com_scenario.proofs.Again.{law}
use Rattle.com_scenario.proofs.Forms.{reading_formed}
use Rattle.com_gen.specs.Loads.{load_text}
use Rattle.com_laws_load.specs.LoadScenarios.{load_scenario}
use Rattle.com_laws_load.proofs.Spelling.{load_spelled}
use Rattle.com_laws_load.proofs.Forming.{load_formed, load_fits}

-- the scenario of a header alone
abbrev bare : Scenario
bare = record {
  version = 1;
  pool = 1;
  classes = record { interfaces = built_in_interfaces; classes = [] };
  filters = [];
  threads = [];
  picks = [];
}

bare_read : reading (codes "scenario 1\n") ≡ Ok bare
unfolding reading read lines_of step header_line version_at end_at finish
bare_read = refl

built_in_formed : FormedInterfaces built_in_interfaces
built_in_formed = ((reading_formed (codes "scenario 1\n")).of bare bare_read).interfaces

pub formed : (number : ℕ) → Formed (load_scenario number)
formed number = load_formed built_in_formed number

pub read_again : (number : ℕ) → reading (load_text number) ≡ Ok (load_scenario number)
read_again number =
    ap reading (sym (load_spelled number)) ∙ law (load_scenario number) (formed number) (load_fits number)
