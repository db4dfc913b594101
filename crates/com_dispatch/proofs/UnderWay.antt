-- A text that is read line by line: what was read stands, and so do the words of the lines that are left.
use Rattle.std.proofs.Common.{◌≡◌, ℕ, ◌+◌, true, false, List, [], ◌∷◌, drop, Result, Ok, All, refl, sym, ap, subst, ◌∙◌, if◌then◌else◌}
use Rattle.std.proofs.lemmas.List.Elements.{All-head, All-tail}
use Rattle.com_classes.specs.declared.interfaces.Interface.{Interface}
use Rattle.com_classes.specs.BuiltIns.{built_in_interfaces}
use Rattle.com_text.specs.declared.scan.LineEnd.{LineEnd}
use Rattle.com_text.specs.Words.{WordAt, LineAt}
use Rattle.com_text.specs.Scanning.{at_line, line_of, lines_from, lines_of, more_lines}
use Rattle.com_laws_scenario.specs.Words.{IsLine}
use Rattle.com_laws_scenario.proofs.Words.{lines_formed}
use Rattle.com_read_sections.specs.declared.state.State.{State}
use Rattle.com_read_sections.specs.declared.state.Section.{Section}
use Rattle.com_read_sections.specs.declared.state.Section.TheVariants as sections
use Rattle.com_read_sections.specs.Outlines.{begun}
use Rattle.com_scenario.proofs.Standing.{ClosedIn, Stands, StandsAt}
use Rattle.com_scenario.proofs.Forms.{begun_stands}
use Rattle.com_dispatch.specs.declared.outcomes.Binding.{Binding}
use Rattle.com_dispatch.specs.Binding.{HasFewMethods}
use Rattle.com_dispatch.specs.Late.{Reading, late_step}
use Rattle.com_dispatch.proofs.FewMethods.{formed_few}
use Rattle.com_dispatch.proofs.LateForms.{StandsRead, late_stands}

pub record IsUnderWay (st : State) (left : List LineAt) : Type 0 where
  pub stands : Stands st
  pub lines : All IsLine left

-- ---- the interfaces that were declared

closed_at : (st : State) (section : Section) → StandsAt st section → ClosedIn st
closed_at st (sections.Header pending) h = h.closed
closed_at st sections.Top h = h.closed
closed_at st (sections.Interface i) h = h.closed
closed_at st (sections.Class c) h = h.closed
closed_at st (sections.Body c head code) h = h.outer.closed
closed_at st (sections.Filter rules) h = h.closed
closed_at st (sections.Thread code) h = h.top.closed

pub few_under_way : (st : State) (left : List LineAt) → IsUnderWay st left → All HasFewMethods st.names.tables
few_under_way st left h = formed_few st.names.tables (closed_at st st.section h.stands).tables

-- ---- the lines

all_lines : (text : List ℕ) → All IsLine (lines_from (at_line 1 0) [] text)
unfolding lines_of
all_lines text = lines_formed text

pub begins : (text : List ℕ) (tables : List Interface) (st : State) → tables ≡ built_in_interfaces → st ≡ begun tables
    → IsUnderWay st (lines_from (at_line 1 0) [] (drop 0 text))
begins text tables st built is = record {
  stands = subst Stands (sym (is ∙ ap begun built)) begun_stands;
  lines = all_lines text;
}

pub goes_on : (text : List ℕ) (st new : State) (bindings more : List Binding) (words : List WordAt) (line : ℕ) (end : LineEnd) (left : List LineAt)
    → left ≡ line_of words line end ∷ more_lines text line end → end.last ≡ false
    → late_step (record { state = st; bindings = bindings }) words ≡ Ok (record { state = new; bindings = more })
    → IsUnderWay st left → IsUnderWay new (lines_from (at_line (line + 1) (end.at + 1)) [] (drop (end.at + 1) text))
goes_on text st new bindings more words line end left is unended step h =
    let all : All IsLine (line_of words line end ∷ more_lines text line end) = subst (λ (ls : List LineAt). All IsLine ls) is h.lines in
    record {
      stands = (late_stands (record { state = st; bindings = bindings }) words (All-head IsLine (line_of words line end) (more_lines text line end) all) h.stands).of
          (record { state = new; bindings = more }) step;
      lines = subst (λ (ls : List LineAt). All IsLine ls)
          (ap (λ b. if b then [] else lines_from (at_line (line + 1) (end.at + 1)) [] (drop (end.at + 1) text)) unended)
          (All-tail IsLine (line_of words line end) (more_lines text line end) all);
    }
