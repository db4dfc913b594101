-- Texts that spell a scenario, and texts that spell none.
use Rattle.std.proofs.Common.{◌≡◌, Ok, Err, refl, sym, ◌∙◌}
use Rattle.com_model.specs.declared.scenario.Scenario.{Scenario}
use Rattle.com_text.specs.Scanning.{lines_of}
use Rattle.com_read_operands.specs.Reading.{word_at, first_at, end_at}
use Rattle.com_read_operands.specs.Naming.{name_at, number_of_name, declared_at}
use Rattle.com_read_statements.specs.Keywords.{keyword_of}
use Rattle.com_read_statements.specs.Statements.{filter_at, lane_of, stmt_of}
use Rattle.com_read_lines.specs.Header.{version_at}
use Rattle.com_read_lines.specs.Declaring.{free_name_at, filter_name_at}
use Rattle.com_read_lines.specs.Programs.{program_line}
use Rattle.com_read_sections.specs.Header.{header_line}
use Rattle.com_read_sections.specs.Beginning.{filter_line, thread_line, top_line}
use Rattle.com_read_sections.specs.Opened.{inner_filter, inner_thread, step}
use Rattle.com_read_sections.specs.Outlines.{finish, read}
use Rattle.com_scenario.specs.Scenarios.{reading}
use Rattle.com_laws_language.specs.Spelling.{Spells}
use Rattle.com_laws_language.specs.Examples.{filter_first, commented, thread_first, unended, filtered}
use Rattle.com_laws_language.proofs.Lists.{never}
use Rattle.com_laws_language.proofs.Laws.{spelled_is_read, read_is_spelled}

first_read : reading filter_first ≡ Ok filtered
unfolding reading read lines_of step header_line version_at end_at top_line first_at filter_line filter_name_at name_at word_at free_name_at inner_filter thread_line inner_thread program_line keyword_of stmt_of lane_of filter_at declared_at number_of_name finish
first_read = refl

second_read : reading thread_first ≡ Err (record { number = 8; line = 3; column = 11 })
unfolding reading read lines_of step header_line version_at end_at top_line first_at filter_line filter_name_at name_at word_at free_name_at inner_filter thread_line inner_thread program_line keyword_of stmt_of lane_of filter_at declared_at number_of_name finish
second_read = refl

third_read : reading commented ≡ Ok filtered
unfolding reading read lines_of step header_line version_at end_at top_line first_at filter_line filter_name_at name_at word_at free_name_at inner_filter thread_line inner_thread program_line keyword_of stmt_of lane_of filter_at declared_at number_of_name finish
third_read = refl

open_read : reading unended ≡ Err (record { number = 11; line = 3; column = 1 })
unfolding reading read lines_of step header_line version_at end_at top_line first_at thread_line finish
open_read = refl

pub first_spells : Spells filter_first filtered
first_spells = read_is_spelled filter_first filtered first_read

pub second_none : (s : Scenario) → Spells thread_first s → ⊥
second_none s h = never ⊥ _ s (sym second_read ∙ spelled_is_read thread_first s h)

pub third_spells : Spells commented filtered
third_spells = read_is_spelled commented filtered third_read

pub open_none : (s : Scenario) → Spells unended s → ⊥
open_none s h = never ⊥ _ s (sym open_read ∙ spelled_is_read unended s h)
