-- The reading of a text is what the text spells.
use Rattle.std.proofs.Common.{◌≡◌, ℕ, inl, inr, List, [], ◌∷◌, Ok, Err, refl, sym, ap, ◌∙◌, subst}
use Rattle.com_classes.specs.BuiltIns.{built_in_interfaces}
use Rattle.com_model.specs.declared.scenario.Scenario.{Scenario}
use Rattle.com_text.specs.Words.{LineAt}
use Rattle.com_text.specs.Scanning.{lines_of}
use Rattle.com_read_operands.specs.declared.faults.ScenarioError.TheVariants as errors
use Rattle.com_read_sections.specs.Opened.{step}
use Rattle.com_read_sections.specs.Outlines.{outlined, begun, read}
use Rattle.com_scenario.specs.Scenarios.{scenario_of, reading}
use Rattle.com_laws_language.specs.Sections.{Line, with_words}
use Rattle.com_laws_language.specs.Parts.{Part, scenario_with}
use Rattle.com_laws_language.specs.Spelling.{IsHeader}
use Rattle.com_laws_language.specs.Laws.{IsReading, IsSpelled, IsOne, IsAnswered, IsTaken}
use Rattle.com_laws_language.proofs.Lists.{ok_same, bound, binds, never}
use Rattle.com_laws_language.proofs.States.{from, state_at}
use Rattle.com_laws_language.proofs.Takes.{steps}
use Rattle.com_laws_language.proofs.Cut.{lines_of_are, lines_there}
use Rattle.com_laws_language.proofs.Down.{outside, sections_down, ready_end}
use Rattle.com_laws_language.proofs.Texts.{text_ended, read_steps, steps_read, head_down, head_up, end_up}

made : (v : ℕ) (parts : List Part) → scenario_of (outlined (state_at v parts)) ≡ scenario_with v parts
unfolding from
made v parts = refl

pub spelled_is_read : IsReading
unfolding reading
spelled_is_read text s h =
    let v = s.version in
    let same : lines_of text ≡ h.cut = ap lines_of h.joined ∙ lines_of_are h.pieces h.cut h.worded in
    let q = sections_down v h.sections [] h.parts (state_at v []) (outside refl) h.declared h.limits in
    let all : steps (begun built_in_interfaces) (with_words (lines_of text)) ≡ Ok q.0 =
    ap (λ (ls : List LineAt). steps (begun built_in_interfaces) (with_words ls)) same ∙ ap (λ (ls : List Line). steps (begun built_in_interfaces) ls) h.lines ∙ binds (step (begun built_in_interfaces) h.header) _ (state_at v []) _ (head_down v h.header h.headed) q.1 in
    binds (read (begun built_in_interfaces) (lines_of text)) _ (outlined (state_at v h.parts)) _
    (steps_read (begun built_in_interfaces) q.0 (lines_of text) (outlined (state_at v h.parts)) (text_ended text) all (λ line column. ready_end v h.parts q.0 line column q.2))
    (ap Ok (made v h.parts ∙ sym h.made))

pub read_is_spelled : IsSpelled
unfolding reading
read_is_spelled text s e =
    let a = bound (read (begun built_in_interfaces) (lines_of text)) _ s e in
    let b = read_steps (begun built_in_interfaces) (lines_of text) a.0 (text_ended text) a.1 in
    let c = head_up (lines_of text) b.0 a.0 b.1 b.2 b.4 b.3 in
    let d = end_up c.version c.rest b.0 b.1 b.2 a.0 c.stands b.4 in
    let is : s ≡ scenario_with c.version d.parts = sym (ok_same _ s a.2) ∙ ap scenario_of d.is ∙ made c.version d.parts in
    let version : c.version ≡ s.version = ap (λ (t : Scenario). t.version) (sym is) in
    let k = lines_there text in
    record {
      pieces = k.0;
      cut = lines_of text;
      joined = k.1;
      worded = k.2;
      header = c.header;
      sections = d.sections;
      parts = d.parts;
      lines = c.lines_are ∙ ap (λ (ls : List Line). c.header ∷ ls) d.read;
      headed = subst (λ (n : ℕ). IsHeader c.header n) version c.headed;
      declared = d.whole.order;
      limits = d.whole.limits;
      made = is ∙ ap (λ (n : ℕ). scenario_with n d.parts) version;
    }

pub one_scenario : IsOne
one_scenario text s t h k = ok_same s t (sym (spelled_is_read text s h) ∙ spelled_is_read text t k)

pub answered : IsAnswered
answered text (Ok s) g = read_is_spelled text s g
answered text (Err errors.Memory) g = tt
answered text (Err (errors.Fault n l c)) g = λ s h. never ⊥ _ s (sym g ∙ spelled_is_read text s h)

pub taken : IsTaken
taken text s (Ok t) h g = inl (ap Ok (ok_same t s (sym g ∙ spelled_is_read text s h)))
taken text s (Err errors.Memory) h g = inr refl
taken text s (Err (errors.Fault n l c)) h g = never _ _ s (sym g ∙ spelled_is_read text s h)
