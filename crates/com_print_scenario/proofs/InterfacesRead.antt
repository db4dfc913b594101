-- Interfaces and their methods are read again.
use Rattle.std.proofs.Common.{◌≡◌, ℕ, ◌+◌, ◌≤◌, ◌<◌, List, [], ◌∷◌, ◌++◌, map, Option, Some, None, is_some, Bool, true, false, if◌then◌else◌, refl, sym, ap, ◌∙◌, subst, arith, length, length-append, codes, Result, Ok, Err, All, append_assoc, bytes_eq}
use Rattle.std.proofs.lemmas.List.{append-nil}
use Rattle.std.proofs.lemmas.List.Elements.{All-head, All-tail}
use Rattle.std.proofs.Math.ListN.{get_or-append}
use Rattle.com_base.specs.declared.guid.Guid.{Guid}
use Rattle.com_base.specs.declared.value.Kind.{Kind}
use Rattle.com_base.specs.declared.value.Kind.TheVariants as kinds
use Rattle.com_classes.specs.declared.interfaces.Interface.{Interface}
use Rattle.com_classes.specs.declared.interfaces.Method.{Method}
use Rattle.com_model.specs.Formed.{Distinct, same_method}
use Rattle.com_text.specs.declared.word.Sort.TheVariants as sorts
use Rattle.com_text.specs.Words.{WordAt}
use Rattle.com_read_operands.specs.declared.faults.Fault.{Fault}
use Rattle.com_read_operands.specs.Reading.{◌>>=◌, fault_at}
use Rattle.com_read_operands.specs.Naming.{is_name, position_of}
use Rattle.com_read_statements.specs.Calls.{method_position}
use Rattle.com_read_sections.specs.declared.outline.Outline.{Outline}
use Rattle.com_read_sections.specs.declared.state.State.{State}
use Rattle.com_read_sections.specs.declared.state.Section.TheVariants as sections
use Rattle.com_read_lines.specs.Tables.{has_guid}
use Rattle.com_read_lines.specs.Methods.{type_word_of, method_of}
use Rattle.com_read_sections.specs.Beginning.{top_line}
use Rattle.com_read_sections.specs.Opened.{step, method_line, inner_interface, interface_closed}
use Rattle.com_read_sections.specs.Outlines.{finish, read, outlined}
use Rattle.com_print.specs.Spelled.{Spelled, plain, spelled_of, shown}
use Rattle.com_print.specs.Ranges.{IsGuid}
use Rattle.com_print_scenario.specs.Printed.{kind_word, result_words, method_words, interface_words, interface_lines}
use Rattle.com_print_scenario.proofs.Apart.{new_of, no_method}
use Rattle.com_print_scenario.proofs.Methods.{AreTypes, IsKind, IsResult, CanRead, method_again}
use Rattle.com_print_scenario.proofs.Places.{first_word}
use Rattle.com_print_scenario.proofs.Runs.{Gets, line_then, step_in, behind, by_last, no_words}
use Rattle.com_print_scenario.proofs.Tops.{first_of, room_of, opened_by, interface_again}

-- ---- an interface is closed by the line behind its methods

-- what follows an interface's methods
abbrev pub IsTop : List (List Spelled) → Type 0
IsTop [] = Unit {0}
IsTop ([] ∷ ls) = ⊥
IsTop ((w ∷ ws) ∷ ls) = (w.sort ≡ sorts.Plain) × (bytes_eq w.bytes (codes "method") ≡ false)

abbrev pub with_open : State → Interface → State
with_open st i = record st { section = sections.Interface i }

abbrev inner_by : State → Interface → List WordAt → WordAt → Bool → Result State Fault
inner_by st i line w b = if b then (method_line st.names.interfaces i w line >>= λ more. Ok (with_open st more)) else top_line (interface_closed st i) line

interface_word_in : (st : State) (i : Interface) (line : List WordAt) (bs : List ℕ) (rest : List Spelled) (e : map spelled_of line ≡ plain bs ∷ rest)
    → step (with_open st i) line ≡ inner_by st i line (first_of line bs rest e).word (bytes_eq bs (codes "method"))
unfolding inner_interface
interface_word_in st i line bs rest e =
    let s = first_of line bs rest e in
    step_in (with_open st i) line (plain bs) rest e
    ∙ ap (λ (r : Result WordAt Fault). r >>= λ w. inner_by st i line w (bytes_eq w.bytes (codes "method"))) (first_word line (plain bs) s tt)
    ∙ ap (λ (x : List ℕ). inner_by st i line s.word (bytes_eq x (codes "method"))) s.bytes

same_step : (st : State) (i : Interface) (line : List WordAt) (bs : List ℕ) (rest : List Spelled) → bytes_eq bs (codes "method") ≡ false → map spelled_of line ≡ plain bs ∷ rest
    → step (with_open st i) line ≡ step (interface_closed st i) line
same_step st i line bs rest other e =
    interface_word_in st i line bs rest e
    ∙ ap (inner_by st i line (first_of line bs rest e).word) other
    ∙ sym (step_in (interface_closed st i) line (plain bs) rest e)

closes_line : (st : State) (i : Interface) (w : Spelled) (ws : List Spelled) (ls : List (List Spelled)) (o : Outline) → w.sort ≡ sorts.Plain → bytes_eq w.bytes (codes "method") ≡ false
    → Gets (interface_closed st i) ((w ∷ ws) ∷ ls) o → Gets (with_open st i) ((w ∷ ws) ∷ ls) o
unfolding read
closes_line st i w ws ls o sort other more [] h = absurd h
closes_line st i w ws ls o sort other more (x ∷ xs) h =
    let e : shown x ≡ plain w.bytes ∷ ws = h.1 ∙ ap (λ s. record { sort = s; bytes = w.bytes } ∷ ws) sort in
    ap (behind x xs) (same_step st i x.words w.bytes ws other e) ∙ more (x ∷ xs) h

closes_end : (st : State) (i : Interface) (o : Outline) → Gets (interface_closed st i) [] o → Gets (with_open st i) [] o
unfolding read finish
closes_end st i o more [] h = absurd h
closes_end st i o more (x ∷ xs) h =
    let closed = interface_closed st i in
    let good : outlined closed ≡ o =
    ok_same (outlined closed) o (read closed (x ∷ xs)) (ap (behind x xs) (no_words closed x.words h.1) ∙ ap (by_last closed x xs) h.0) (more (x ∷ xs) h) in
    ap (behind x xs) (no_words (with_open st i) x.words h.1) ∙ ap (by_last (with_open st i) x xs) h.0 ∙ ap Ok good
  where
    ok_same : (a b : Outline) (r : Result Outline Fault) → r ≡ Ok a → r ≡ Ok b → a ≡ b
    ok_same a b r e f = cc

pub closes : (st : State) (i : Interface) (ls : List (List Spelled)) (o : Outline) → IsTop ls → Gets (interface_closed st i) ls o → Gets (with_open st i) ls o
closes st i [] o top more = closes_end st i o more
closes st i ([] ∷ ls) o top more = absurd top
closes st i ((w ∷ ws) ∷ ls) o top more = closes_line st i w ws ls o top.0 top.1 more

-- ---- methods

-- the words of a type are the same among the names so far and those of all interfaces
kind_same : (front back : List (List ℕ)) (k : Kind) → IsKind front k → kind_word (front ++ back) k ≡ kind_word front k
kind_same front back kinds.Int h = refl
kind_same front back kinds.Bool h = refl
kind_same front back kinds.Text h = refl
kind_same front back kinds.Bytes h = refl
kind_same front back kinds.Guid h = refl
kind_same front back (kinds.Ref i) h = ap plain (get_or-append front back [] i h)

kinds_same : (front back : List (List ℕ)) (ks : List Kind) → All (IsKind front) ks → map (kind_word (front ++ back)) ks ≡ map (kind_word front) ks
kinds_same front back [] h = refl
kinds_same front back (k ∷ ks) h =
    ap (λ (w : Spelled). w ∷ map (kind_word (front ++ back)) ks) (kind_same front back k (All-head (IsKind front) k ks h))
    ∙ ap (λ (ws : List Spelled). kind_word front k ∷ ws) (kinds_same front back ks (All-tail (IsKind front) k ks h))

result_same : (front back : List (List ℕ)) (r : Option Kind) → IsResult front r → result_words (front ++ back) r ≡ result_words front r
result_same front back None h = refl
result_same front back (Some k) h = ap (λ (w : Spelled). plain (codes "->") ∷ w ∷ []) (kind_same front back k h)

-- a method that can be written among all names, and read among those so far
pub record IsSigned (names : List (List ℕ)) (m : Method) : Type 0 where
  pub name : is_name m.name ≡ true
  pub params : All (IsKind names) m.params
  pub few : length m.params ≤ 4
  pub result : IsResult names m.result

pub method_same : (front back : List (List ℕ)) (m : Method) → IsSigned front m → method_words (front ++ back) m ≡ method_words front m
method_same front back m h =
    ap (λ (ws : List Spelled). plain (codes "method") ∷ plain m.name ∷ (ws ++ result_words (front ++ back) m.result)) (kinds_same front back m.params h.params)
    ∙ ap (λ (ws : List Spelled). plain (codes "method") ∷ plain m.name ∷ (map (kind_word front) m.params ++ ws)) (result_same front back m.result h.result)

abbrev methods_more : Interface → Result Method Fault → Result Interface Fault
methods_more i r = r >>= λ m. Ok (record i { methods = i.methods ++ m ∷ [] })

abbrev opened_again : State → Result Interface Fault → Result State Fault
opened_again st r = r >>= λ more. Ok (with_open st more)

method_step : (st : State) (i : Interface) (m : Method) (line : List WordAt) → map spelled_of line ≡ method_words st.names.interfaces m
    → AreTypes st.names.interfaces → IsSigned st.names.interfaces m → is_some (method_position i.methods m.name) ≡ false → length i.methods < 32
    → step (with_open st i) line ≡ Ok (with_open st (record i { methods = i.methods ++ m ∷ [] }))
unfolding method_line
method_step st i m line e are is free room =
    let can : CanRead st.names.interfaces i.methods m = record { types = are; name = is.name; free = free; params = is.params; few = is.few; result = is.result } in
    let s = first_of line _ _ e in
    interface_word_in st i line (codes "method") _ e
    ∙ ap (λ (b : Bool). opened_again st (if b then Err (fault_at 12 s.word) else methods_more i (method_of st.names.interfaces i.methods line))) (room_of 32 (length i.methods) room)
    ∙ ap (λ (r : Result Method Fault). opened_again st (methods_more i r)) (method_again st.names.interfaces i.methods line m e can)

methods_on : (st : State) (back : List (List ℕ)) (i : Interface) (rest done : List Method) (ls : List (List Spelled)) (o : Outline)
    → AreTypes st.names.interfaces → All (IsSigned st.names.interfaces) rest → Distinct same_method (done ++ rest) → length done + length rest ≤ 32
    → Gets (with_open st (record i { methods = done ++ rest })) ls o
    → Gets (with_open st (record i { methods = done })) (map (method_words (st.names.interfaces ++ back)) rest ++ ls) o
methods_on st back i [] done ls o are all apart few more =
    subst (λ (x : List Method). Gets (with_open st (record i { methods = x })) ls o) (append-nil done) more
methods_on st back i (m ∷ ms) done ls o are all apart few more =
    let is = All-head (IsSigned st.names.interfaces) m ms all in
    let e : done ++ m ∷ ms ≡ (done ++ m ∷ []) ++ ms = sym (append_assoc done (m ∷ []) ms) in
    let shorter : length (done ++ m ∷ []) + length ms ≤ 32 = simp length-append (omega arith) in
    let rest_read = methods_on st back i ms (done ++ m ∷ []) ls o are (All-tail (IsSigned st.names.interfaces) m ms all) (subst (Distinct same_method) e apart) shorter
    (subst (λ (x : List Method). Gets (with_open st (record i { methods = x })) ls o) e more) in
    line_then (with_open st (record i { methods = done })) (with_open st (record i { methods = done ++ m ∷ [] })) (method_words (st.names.interfaces ++ back) m)
    (map (method_words (st.names.interfaces ++ back)) ms ++ ls) o
    (λ line h. method_step st (record i { methods = done }) m line (h ∙ method_same st.names.interfaces back m is) are is
    (no_method done m (new_of same_method done m ms apart)) (omega arith))
    rest_read

-- ---- interfaces

-- between interfaces: the names and IIDs that are declared, and the interfaces that are closed
abbrev pub at_interfaces : State → List (List ℕ) → List Guid → List Interface → State
at_interfaces st names iids tables = record st {
  names = record (st.names) { interfaces = names; tables = tables };
  iids = iids;
  section = sections.Top;
}

pub record CanDefine (before : List (List ℕ)) (iids : List Guid) (i : Interface) : Type 0 where
  pub room : length before < 64
  pub name : is_name i.name ≡ true
  pub no_type : is_some (type_word_of i.name) ≡ false
  pub free : is_some (position_of before i.name) ≡ false
  pub fits : IsGuid i.iid
  pub new : has_guid iids i.iid ≡ false
  pub types : AreTypes (before ++ i.name ∷ [])
  pub methods : All (IsSigned (before ++ i.name ∷ [])) i.methods
  pub apart : Distinct same_method i.methods
  pub few : length i.methods ≤ 32

interface_on : (st : State) (before back : List (List ℕ)) (iids : List Guid) (tables : List Interface) (i : Interface) (ls : List (List Spelled)) (o : Outline)
    → CanDefine before iids i → IsTop ls
    → Gets (at_interfaces st (before ++ i.name ∷ []) (iids ++ i.iid ∷ []) (tables ++ i ∷ [])) ls o
    → Gets (at_interfaces st before iids tables) (interface_words i ∷ (map (method_words ((before ++ i.name ∷ []) ++ back)) i.methods ++ ls)) o
interface_on st before back iids tables i ls o can top more =
    let t = at_interfaces st before iids tables in
    let next = opened_by t i.name i.iid in
    let closed = closes next i ls o top more in
    let methods = methods_on next back i i.methods [] ls o can.types can.methods can.apart (omega (arith, can.few)) closed in
    line_then t next (interface_words i) (map (method_words ((before ++ i.name ∷ []) ++ back)) i.methods ++ ls) o
    (λ line e. step_in t line _ _ e ∙ interface_again t line i e can.room can.name can.no_type can.free can.fits can.new)
    methods

abbrev pub CanDefineAll : List (List ℕ) → List Guid → List Interface → Type 0
CanDefineAll before iids [] = Unit {0}
CanDefineAll before iids (i ∷ is) = CanDefine before iids i × CanDefineAll (before ++ i.name ∷ []) (iids ++ i.iid ∷ []) is

abbrev pub name_of_interface : Interface → List ℕ
name_of_interface i = i.name

lines_top : (names : List (List ℕ)) (is : List Interface) (ls : List (List Spelled)) → IsTop ls → IsTop (interface_lines names is ++ ls)
lines_top names [] ls top = top
lines_top names (i ∷ is) ls top = (refl, refl)

pub interfaces_on : (st : State) (all before : List (List ℕ)) (iids : List Guid) (done rest : List Interface) (ls : List (List Spelled)) (o : Outline)
    → all ≡ before ++ map name_of_interface rest → CanDefineAll before iids rest → IsTop ls
    → ((ids : List Guid) → Gets (at_interfaces st all ids (done ++ rest)) ls o)
    → Gets (at_interfaces st before iids done) (interface_lines all rest ++ ls) o
interfaces_on st all before iids done [] ls o is can top more =
    let e : all ≡ before = is ∙ append-nil before in
    subst (λ (x : List (List ℕ)). Gets (at_interfaces st x iids done) ls o) e
    (subst (λ (x : List Interface). Gets (at_interfaces st all iids x) ls o) (append-nil done) (more iids))
interfaces_on st all before iids done (i ∷ is) ls o is_all can top more =
    let e : all ≡ (before ++ i.name ∷ []) ++ map name_of_interface is = is_all ∙ sym (append_assoc before (i.name ∷ []) (map name_of_interface is)) in
    let f : done ++ i ∷ is ≡ (done ++ i ∷ []) ++ is = sym (append_assoc done (i ∷ []) is) in
    let rest_read = interfaces_on st all (before ++ i.name ∷ []) (iids ++ i.iid ∷ []) (done ++ i ∷ []) is ls o e can.1 top
    (λ ids. subst (λ (x : List Interface). Gets (at_interfaces st all ids x) ls o) f (more ids)) in
    let split : (map (method_words all) i.methods ++ interface_lines all is) ++ ls ≡ map (method_words all) i.methods ++ (interface_lines all is ++ ls)
    = append_assoc (map (method_words all) i.methods) (interface_lines all is) ls in
    subst (λ (x : List (List Spelled)). Gets (at_interfaces st before iids done) (interface_words i ∷ x) o) (sym split)
    (subst (λ (x : List (List ℕ)). Gets (at_interfaces st before iids done) (interface_words i ∷ (map (method_words x) i.methods ++ (interface_lines all is ++ ls))) o) (sym e)
    (interface_on st before (map name_of_interface is) iids done i (interface_lines all is ++ ls) o can.0 (lines_top all is ls top) rest_read))
