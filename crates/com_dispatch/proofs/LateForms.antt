-- Every scenario with late-bound calls is formed.
use Rattle.std.proofs.Common.{◌≡◌, ℕ, suc, nat_le, List, [], ◌∷◌, length, map, Option, Some, None, Result, Ok, Err, IfOk, All, refl, sym, ap, subst, ◌∙◌, arith, inr}
use Rattle.std.specs.Prelude.{slice_get, option_and_then}
use Rattle.std.proofs.lemmas.List.Elements.{All-nil, All-cons, All-head, All-tail, All-push}
use Rattle.com_base.specs.declared.hresult.HResult.{HResult}
use Rattle.com_body.specs.Bodies.{IsArg}
use Rattle.com_classes.specs.declared.interfaces.Interface.{Interface}
use Rattle.com_classes.specs.declared.interfaces.Method.{Method}
use Rattle.com_classes.specs.declared.classes.Class.{Class}
use Rattle.com_classes.specs.BuiltIns.{built_in_interfaces}
use Rattle.com_classes.specs.Lookups.{method_at}
use Rattle.com_dispatch.specs.declared.members.Bound.{Bound}
use Rattle.com_dispatch.specs.declared.members.DispArg.{DispArg}
use Rattle.com_dispatch.specs.declared.members.DispArg.TheVariants as given
use Rattle.com_dispatch.specs.Binding.{bound_among, methods_of}
use Rattle.com_dispatch.specs.Ranges.{IsDispArg}
use Rattle.com_dispatch.proofs.InRange.{bound_to, bound_stays}
use Rattle.com_dispatch.specs.declared.invoke.Invocation.{Invocation}
use Rattle.com_dispatch.specs.Invoking.{invocation_at}
use Rattle.com_dispatch.specs.Standing.{sort_of, outcome_by, outcome_of, argument_of, statement_of}
use Rattle.com_text.specs.Words.{WordAt, LineAt}
use Rattle.com_text.specs.Scanning.{lines_of}
use Rattle.com_read_operands.specs.declared.faults.ScenarioError.{ScenarioError}
use Rattle.com_read_operands.specs.Reading.{Gives}
use Rattle.com_read_statements.specs.declared.calls.MethodNumber.{MethodNumber}
use Rattle.com_read_statements.specs.declared.keywords.Program.{Program}
use Rattle.com_read_statements.specs.declared.keywords.Program.TheVariants as programs
use Rattle.com_read_statements.specs.declared.names.Names.{Names}
use Rattle.com_read_sections.specs.declared.state.Section.{Section}
use Rattle.com_read_sections.specs.declared.state.Section.TheVariants as sections
use Rattle.com_read_lines.specs.Codes.{CodeAt, code_more}
use Rattle.com_read_sections.specs.Opened.{program_of, step}
use Rattle.com_read_sections.specs.Outlines.{finish}
use Rattle.com_model.specs.declared.scenario.Scenario.{Scenario}
use Rattle.com_model.specs.Formed.{Context, IsStatement, FitsMethod, in_script, in_class, Formed}
use Rattle.com_scenario.specs.Scenarios.{scenario_of}
use Rattle.com_laws_scenario.specs.Declared.{Declares, Fits}
use Rattle.com_laws_scenario.specs.Words.{IsWord, IsLine}
use Rattle.com_laws_scenario.specs.Holds.{Holds}
use Rattle.com_laws_scenario.proofs.Holds.{done, fails, bind, weaker, either}
use Rattle.com_laws_scenario.proofs.Words.{lines_formed}
use Rattle.com_scenario.proofs.Standing.{so_far, AtBody, AtThread, Stands, StandsAt, body_declares, script_declares}
use Rattle.com_scenario.proofs.Steps.{step_stands}
use Rattle.com_scenario.proofs.Forms.{IsOutline, begun_stands, finish_formed}
use Rattle.com_read_sections.specs.declared.outline.Outline.{Outline}
use Rattle.com_dispatch.specs.declared.outcomes.Binding.{Binding}
use Rattle.com_dispatch.specs.declared.outcomes.Late.{Late}
use Rattle.com_dispatch.specs.Late.{Reading, Coding, invoke_line, other_line, in_section, is_invoke, late_step, LateOutline, late_finish, late_read, late_begun, late_of, late}
use Rattle.com_dispatch.proofs.Given.{IsGiven, IsInvoked, invoked}
use Rattle.com_dispatch.proofs.Passed.{signed_match}

-- ---- the statement

given_slot : (a : DispArg) → IsGiven a → IsDispArg a
given_slot (given.Literal v) h = tt
given_slot (given.Slot n) h = h
given_slot given.Null h = tt

given_slots : (as' : List DispArg) → All IsGiven as' → All IsDispArg as'
given_slots [] h = All-nil IsDispArg
given_slots (a ∷ as') h = All-cons IsDispArg a as' (given_slot a (All-head IsGiven a as' h)) (given_slots as' (All-tail IsGiven a as' h))

passed_slot : (a : DispArg) → IsDispArg a → IsArg (argument_of a)
passed_slot (given.Literal v) h = tt
passed_slot (given.Slot n) h = h
passed_slot given.Null h = tt

passed_slots : (as' : List DispArg) → All IsDispArg as' → All IsArg (map argument_of as')
passed_slots [] h = All-nil IsArg
passed_slots (a ∷ as') h = All-cons IsArg (argument_of a) (map argument_of as') (passed_slot a (All-head IsDispArg a as' h)) (passed_slots as' (All-tail IsDispArg a as' h))

method_in : (o : Option Interface) (k : ℕ) (m : Method) → slice_get (methods_of o) k ≡ Some m → option_and_then (λ (i : Interface). slice_get i.methods k) o ≡ Some m
method_in None k m e = absurd cc
method_in (Some i) k m e = e

call_fits : (s : Scenario) (x : Context) (tables : List Interface) (i : Invocation) (b : Bound) → tables ≡ s.classes.interfaces → IsInvoked (length s.classes.interfaces) i
    → bound_among (methods_of (slice_get tables i.iface)) i.member i.args (sort_of i.destination) ≡ Ok b → IsStatement s x (statement_of i (outcome_by (Ok b)))
unfolding statement_of
call_fits s x tables i b same h e =
    let t = bound_to (methods_of (slice_get tables i.iface)) i.member i.args (sort_of i.destination) b e in
    let m = signed_match t.index t.method i.args i.destination b t.signature h.args in
    let at : slice_get (methods_of (slice_get s.classes.interfaces i.iface)) t.index ≡ Some t.method = subst (λ (ts : List Interface). slice_get (methods_of (slice_get ts i.iface)) t.index ≡ Some t.method) same t.there in
    let declared : method_at s.classes i.iface t.index ≡ Some t.method = method_in (slice_get s.classes.interfaces i.iface) t.index t.method at in
    let named : method_at s.classes i.iface b.method ≡ Some t.method = ap (λ (k : ℕ). method_at s.classes i.iface k) m.method ∙ declared in
    (h.iface, inr (subst (λ (o : Option Method). FitsMethod o (map argument_of b.args) i.destination) (sym named) m.fits))

stands_by : (s : Scenario) (x : Context) (tables : List Interface) (i : Invocation) (r : Result Bound HResult) → tables ≡ s.classes.interfaces → IsInvoked (length s.classes.interfaces) i
    → bound_among (methods_of (slice_get tables i.iface)) i.member i.args (sort_of i.destination) ≡ r → Fits s x (statement_of i (outcome_by r))
unfolding statement_of
stands_by s x tables i (Ok b) same h e = record {
  in_range = (h.slot, passed_slots b.args (bound_stays (methods_of (slice_get tables i.iface)) i.member i.args (sort_of i.destination) b e (given_slots i.args h.args)), h.destination);
  stated = call_fits s x tables i b same h e;
}
stands_by s x tables i (Err hr) same h e = record { in_range = (omega arith, tt); stated = tt }

stands_fits : (s : Scenario) (x : Context) (tables : List Interface) (i : Invocation) → tables ≡ s.classes.interfaces → IsInvoked (length s.classes.interfaces) i → Fits s x (statement_of i (outcome_of tables i))
unfolding outcome_of
stands_fits s x tables i same h = stands_by s x tables i (bound_among (methods_of (slice_get tables i.iface)) i.member i.args (sort_of i.destination)) same h refl

-- ---- a line

abbrev pub StandsRead : Reading → Type 0
StandsRead r = Stands r.state

-- the statements of a body or a script, with one that an `invoke` stands for
abbrev Coded : Scenario → Context → Names → CodeAt → Invocation → ℕ → ℕ → Type 0
Coded s x names code i line column =
    All (Fits s x) (code_more code (statement_of i (outcome_of names.tables i)) (record { number = 11; line = line; column = column })).statements

coded : (s : Scenario) (x : Context) (p : Program) (names : Names) (code : CodeAt) (w : WordAt) (line : List WordAt) → Declares s x p names → All IsWord line → All (Fits s x) code.statements
    → Holds (λ (i : Invocation). Coded s x names code i w.line w.column) (invocation_at names.interfaces line)
coded s x p names code w line d h c = weaker (invocation_at names.interfaces line) (invoked names.interfaces line h) (λ i is.
    All-push (Fits s x) code.statements (statement_of i (outcome_of names.tables i)) c
    (stands_fits s x names.tables i d.tables (subst (λ (n : ℕ). IsInvoked n i) d.interfaces is)))

-- one statement more of a body or a script
invoked_fits : (s : Scenario) (x : Context) (p : Program) (limit : ℕ) (names : Names) (coding : Coding) (w : WordAt) (line : List WordAt) → Declares s x p names → All IsWord line
    → All (Fits s x) coding.code.statements → Holds (λ (more : Coding). All (Fits s x) more.code.statements) (invoke_line limit names coding w line)
unfolding invoke_line
invoked_fits s x p limit names coding w line d h c = either (nat_le limit (length coding.code.statements)) _ _ (λ _. fails _) (λ _.
    bind (invocation_at names.interfaces line) _ (coded s x p names coding.code w line d h c) (λ i is. done _ is))

body_stands : (r : Reading) (c : Class) (head : MethodNumber) (code : CodeAt) (w : WordAt) (line : List WordAt) → All IsWord line → AtBody r.state c head code
    → Holds StandsRead (in_section r w line (sections.Body c head code))
body_stands r c head code w line ws h =
    (let st = r.state in
    let coding : Coding = record { code = code; bindings = r.bindings } in
    let s = so_far st.names.tables st.classes st.filters in
    let x = in_class (suc (length st.classes)) c in
    let o = h.outer in
    bind (invoke_line 200 st.names coding w line) _ (invoked_fits s x (program_of c.model) 200 st.names coding w line (body_declares st c o) ws h.code) (λ more is.
    done (record { state = record st { section = sections.Body c head more.code }; bindings = more.bindings }) (record {
      outer = record { version = o.version; closed = o.closed; named = o.named; opened = o.opened };
      head = record { method = h.head.method; new = h.head.new };
      code = is;
    })))

thread_stands : (r : Reading) (code : CodeAt) (w : WordAt) (line : List WordAt) → All IsWord line → AtThread r.state code → Holds StandsRead (in_section r w line (sections.Thread code))
thread_stands r code w line ws h =
    (let st = r.state in
    let coding : Coding = record { code = code; bindings = r.bindings } in
    let s = so_far st.names.tables st.classes st.filters in
    let o = h.top in
    bind (invoke_line 2000 st.names coding w line) _ (invoked_fits s (in_script s) programs.Script 2000 st.names coding w line (script_declares st o) ws h.code) (λ more is.
    done (record { state = record st { section = sections.Thread more.code }; bindings = more.bindings }) (record {
      top = record { version = o.version; closed = o.closed; named = o.named };
      room = h.room;
      code = is;
    })))

other_stands : (r : Reading) (line : List WordAt) → All IsWord line → Stands r.state → Holds StandsRead (other_line r line)
other_stands r line ws h = bind (step r.state line) _ (step_stands r.state line ws h) (λ next k. done _ k)

invoke_stands : (r : Reading) (w : WordAt) (line : List WordAt) (section : Section) → All IsWord line → Stands r.state → StandsAt r.state section → Holds StandsRead (in_section r w line section)
invoke_stands r w line (sections.Header pending) ws h k = other_stands r line ws h
invoke_stands r w line sections.Top ws h k = other_stands r line ws h
invoke_stands r w line (sections.Interface i) ws h k = other_stands r line ws h
invoke_stands r w line (sections.Class c) ws h k = other_stands r line ws h
invoke_stands r w line (sections.Body c head code) ws h k = body_stands r c head code w line ws k
invoke_stands r w line (sections.Filter rules) ws h k = other_stands r line ws h
invoke_stands r w line (sections.Thread code) ws h k = thread_stands r code w line ws k

-- what was read stands behind a line
pub late_stands : (r : Reading) (line : List WordAt) → All IsWord line → Stands r.state → Holds StandsRead (late_step r line)
unfolding late_step
late_stands r [] ws h = other_stands r [] ws h
late_stands r (w ∷ vs) ws h = either (is_invoke w) _ _
    (λ _. invoke_stands r w (w ∷ vs) r.state.section ws h h)
    (λ _. other_stands r (w ∷ vs) ws h)

-- ---- the text

abbrev IsLateOutline : LateOutline → Type 0
IsLateOutline o = Formed (scenario_of o.outline)

late_finish_formed : (r : Reading) (line column : ℕ) → Stands r.state → Holds IsLateOutline (late_finish r line column)
unfolding IsOutline
late_finish_formed r line column h = bind (finish r.state line column) _ (finish_formed r.state line column h) (λ o k. done _ k)

read_formed : (ls : List LineAt) (r : Reading) → All IsLine ls → Stands r.state → Holds IsLateOutline (late_read r ls)
unfolding late_read
read_formed [] r ws h = fails _
read_formed (l ∷ ls) r ws h = bind (late_step r l.words) _ (late_stands r l.words (All-head IsLine l ls ws) h) (λ next k. either l.last _ _
    (λ _. late_finish_formed next l.line l.column k)
    (λ _. read_formed ls next (All-tail IsLine l ls ws) k))

-- the outline that was read
pub outline_formed : (text : List ℕ) (tables : List Interface) (outline : Outline) (bindings : List Binding) → tables ≡ built_in_interfaces
    → late_read (late_begun tables) (lines_of text) ≡ Ok (record { outline = outline; bindings = bindings }) → Formed (scenario_of outline)
outline_formed text tables outline bindings t e =
    let f : late_read (late_begun built_in_interfaces) (lines_of text) ≡ Ok (record { outline = outline; bindings = bindings }) =
    ap (λ (x : List Interface). late_read (late_begun x) (lines_of text)) (sym t) ∙ e in
    (read_formed (lines_of text) (late_begun built_in_interfaces) (lines_formed text) begun_stands).of (record { outline = outline; bindings = bindings }) f

pub formed : (text : List ℕ) → Holds (λ (l : Late). Formed l.scenario) (late text)
unfolding late
formed text = bind (late_read (late_begun built_in_interfaces) (lines_of text)) _ (read_formed (lines_of text) (late_begun built_in_interfaces) (lines_formed text) begun_stands) (λ o h. done (late_of o) h)

pub late_formed : (text : List ℕ) (l : Late) → late text ≡ Ok l → Formed l.scenario
late_formed text l e = (formed text).of l e

pub given_formed : (text : List ℕ) (r : Result Late ScenarioError) → Gives (λ (l : Late). l) r (late text) → IfOk r (λ (l : Late). Formed l.scenario)
given_formed text (Ok l) e = late_formed text l e
given_formed text (Err x) e = tt
