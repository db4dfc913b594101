-- A text without the statement is read as before.
use Rattle.std.proofs.Common.{◌≡◌, ℕ, Bool, true, false, List, [], ◌∷◌, Result, Ok, Err, All, refl, ap, ◌∙◌, if◌then◌else◌}
use Rattle.std.proofs.lemmas.List.Elements.{All-head, All-tail}
use Rattle.com_classes.specs.BuiltIns.{built_in_interfaces}
use Rattle.com_text.specs.Words.{WordAt, LineAt}
use Rattle.com_text.specs.Scanning.{lines_of}
use Rattle.com_read_operands.specs.declared.faults.Fault.{Fault}
use Rattle.com_read_operands.specs.Reading.{◌>>=◌}
use Rattle.com_read_sections.specs.declared.outline.Outline.{Outline}
use Rattle.com_read_sections.specs.declared.state.State.{State}
use Rattle.com_read_sections.specs.Opened.{step}
use Rattle.com_read_sections.specs.Outlines.{begun, finish, read}
use Rattle.com_scenario.specs.Scenarios.{scenario_of, reading}
use Rattle.com_dispatch.specs.declared.outcomes.Binding.{Binding}
use Rattle.com_dispatch.specs.Late.{Reading, other_line, in_section, late_step, LateOutline, late_finish, late_read, late_of, late, has_invoke}

abbrev reading_at : State → List Binding → Reading
reading_at st bs = record { state = st; bindings = bs }

abbrev with_bindings : List Binding → Result Outline Fault → Result LateOutline Fault
with_bindings bs r = r >>= λ o. Ok (record { outline = o; bindings = bs })

plain_step : (r : Reading) (line : List WordAt) → has_invoke line ≡ false → late_step r line ≡ other_line r line
unfolding late_step
plain_step r [] h = refl
plain_step r (w ∷ ws) h = ap (λ (b : Bool). if b then in_section r w (w ∷ ws) r.state.section else other_line r (w ∷ ws)) h

after_line : (o : Result State Fault) (last : Bool) (line column : ℕ) (bs : List Binding) (ls : List LineAt)
    → ((next : State) → late_read (reading_at next bs) ls ≡ with_bindings bs (read next ls))
    → ((o >>= λ next. Ok (reading_at next bs)) >>= λ r. (if last then late_finish r line column else late_read r ls))
    ≡ with_bindings bs (o >>= λ next. (if last then finish next line column else read next ls))
after_line (Err e) last line column bs ls more = refl
after_line (Ok next) true line column bs ls more = refl
after_line (Ok next) false line column bs ls more = more next

same_lines : (ls : List LineAt) (st : State) (bs : List Binding) → All (λ (l : LineAt). has_invoke l.words ≡ false) ls → late_read (reading_at st bs) ls ≡ with_bindings bs (read st ls)
unfolding late_read read
same_lines [] st bs h = refl
same_lines (l ∷ ls) st bs h =
    ap (λ (o : Result Reading Fault). o >>= λ r. (if l.last then late_finish r l.line l.column else late_read r ls)) (plain_step (reading_at st bs) l.words (All-head (λ (x : LineAt). has_invoke x.words ≡ false) l ls h))
    ∙ after_line (step st l.words) l.last l.line l.column bs ls (λ next. same_lines ls next bs (All-tail (λ (x : LineAt). has_invoke x.words ≡ false) l ls h))

outlined : (r : Result Outline Fault) → ((r >>= λ o. Ok (record { outline = o; bindings = [] })) >>= λ o. Ok (late_of o)) ≡ ((r >>= λ o. Ok (scenario_of o)) >>= λ s. Ok (record { scenario = s; bindings = [] }))
outlined (Err e) = refl
outlined (Ok o) = refl

pub same_text : (text : List ℕ) → All (λ (l : LineAt). has_invoke l.words ≡ false) (lines_of text) → late text ≡ (reading text >>= λ s. Ok (record { scenario = s; bindings = [] }))
unfolding late reading
same_text text h =
    ap (λ (r : Result LateOutline Fault). r >>= λ o. Ok (late_of o)) (same_lines (lines_of text) (begun built_in_interfaces) [] h)
    ∙ outlined (read (begun built_in_interfaces) (lines_of text))
