-- Calls are read again.
use Rattle.std.proofs.Common.{◌≡◌, ℕ, ◌+◌, inl, inr, List, [], ◌∷◌, ◌++◌, Option, Some, None, Bool, true, false, if◌then◌else◌, Result, Ok, length, drop, refl, sym, ap, ◌∙◌, slice_get, subst, decimal}
use Rattle.com_base.specs.declared.value.Kind.{Kind}
use Rattle.com_base.specs.declared.value.Kind.TheVariants as kinds
use Rattle.com_body.specs.declared.operands.Arg.{Arg}
use Rattle.com_body.specs.declared.operands.Destination.{Destination}
use Rattle.com_body.specs.declared.operands.Destination.TheVariants as destinations
use Rattle.com_body.specs.declared.statements.Stmt.{Stmt}
use Rattle.com_body.specs.declared.statements.Stmt.TheVariants as stmts
use Rattle.com_classes.specs.declared.interfaces.Method.{Method}
use Rattle.com_text.specs.Words.{WordAt}
use Rattle.com_read_operands.specs.declared.faults.Fault.{Fault}
use Rattle.com_read_operands.specs.Reading.{◌>>=◌}
use Rattle.com_read_statements.specs.declared.calls.Target.TheVariants as targets
use Rattle.com_read_statements.specs.declared.keywords.Program.{Program}
use Rattle.com_read_statements.specs.declared.keywords.ObjectWord.TheVariants as objects
use Rattle.com_read_statements.specs.declared.keywords.Keyword.TheVariants as keywords
use Rattle.com_read_statements.specs.declared.names.Names.{Names}
use Rattle.com_read_statements.specs.Keywords.{keyword_of}
use Rattle.com_read_statements.specs.Statements.{stmt_of, object_of}
use Rattle.com_read_statements.specs.Calls.{method_of, arguments_on, destination_at, call_of, signed_call, call_by, call_at}
use Rattle.com_print.specs.Spelled.{Spelled, plain}
use Rattle.com_print.specs.Words.{destination_words, name_at}
use Rattle.com_print.proofs.Places.{at, end_again, slot_again}
use Rattle.com_print.specs.StatementWords.{takes_nothing, alone_text, method_text, name_of}
use Rattle.com_print.specs.Standing.{AreDeclared, TakesArgs, TakesResult, TakesMethod}
use Rattle.com_print.specs.Reads.{Reads}
use Rattle.com_print.proofs.Firsts.{first_bytes, Written}
use Rattle.com_print.proofs.Targets.{number_pair, numbered_again, named_again, no_params}
use Rattle.com_print.proofs.Arguments.{arguments_again, destination_again}

abbrev call : ℕ → ℕ → ℕ → List Arg → Destination → Stmt
call slot iface method given to = stmts.Call slot iface method given to

numbered_reads : (p : Program) (names : Names) (slot iface method : ℕ) (w : WordAt) (ws : List WordAt) → AreDeclared names
    → Written p names (call slot iface method [] destinations.Nowhere) w ws → method_text names iface method [] destinations.Nowhere ≡ 35 ∷ decimal method
    → Reads p names (call slot iface method [] destinations.Nowhere) w ws
unfolding stmt_of object_of call_at keyword_of
numbered_reads p names slot iface method w ws are h text =
    let g = λ (k : ℕ). ap (λ (l : List Spelled). slice_get l k) h.words in
    let front = name_at names.interfaces iface in
    let target : at (w ∷ ws) 2 ≡ Some (plain (front ++ 46 ∷ 35 ∷ decimal method)) = g 2 ∙ ap (λ (t : List ℕ). Some (plain (front ++ 46 ∷ t))) text in
    record {
      keyword = keywords.Object objects.Call;
      begins = ap keyword_of (first_bytes w ws h.words);
      taken = refl;
      read = rw (slot_again (w ∷ ws) 1 slot (g 1) h.range.0, numbered_again names (w ∷ ws) 2 iface method target are h.stands.0 h.fits.0, end_again (w ∷ ws) 3 (g 3)) refl;
    }

-- the call of a method by its name
called : (names : Names) (line : List WordAt) (slot iface method : ℕ) (m : Method) (given : List Arg) (to : Destination) → method_of names.tables iface method ≡ Some m
    → arguments_on [] m.params line 3 ≡ Ok given → destination_at m.result line (3 + length m.params) ≡ Ok to
    → call_by names slot line (targets.Named (number_pair iface method)) ≡ Ok (call slot iface method given to)
unfolding call_of
called names line slot iface method m given to has arguments destination =
    ap (λ (o : Option Method). signed_call slot (number_pair iface method) o line) has
    ∙ ap (λ (r : Result (List Arg) Fault). r >>= λ args. destination_at m.result line (3 + length m.params) >>= λ d. Ok (call slot iface method args d)) arguments
    ∙ ap (λ (r : Result Destination Fault). r >>= λ d. Ok (call slot iface method given d)) destination

named_reads : (p : Program) (names : Names) (slot iface method : ℕ) (given : List Arg) (to : Destination) (m : Method) (w : WordAt) (ws : List WordAt) → AreDeclared names
    → Written p names (call slot iface method given to) w ws → method_of names.tables iface method ≡ Some m → method_text names iface method given to ≡ m.name
    → TakesArgs m.params given → TakesResult m.result to
    → Reads p names (call slot iface method given to) w ws
unfolding stmt_of object_of call_at keyword_of
named_reads p names slot iface method given to m w ws are h has text takes result =
    let g = λ (k : ℕ). ap (λ (l : List Spelled). slice_get l k) h.words in
    let front = name_at names.interfaces iface in
    let target : at (w ∷ ws) 2 ≡ Some (plain (front ++ 46 ∷ m.name)) = g 2 ∙ ap (λ (t : List ℕ). Some (plain (front ++ 46 ∷ t))) text in
    let arguments = arguments_again [] m.params given (w ∷ ws) 3 (destination_words to) (ap (drop 3) h.words) h.range.1 takes h.fits.1 in
    let destination = destination_again m.result (w ∷ ws) (3 + length m.params) to arguments.left h.range.2 result in
    record {
      keyword = keywords.Object objects.Call;
      begins = ap keyword_of (first_bytes w ws h.words);
      taken = refl;
      read = rw (slot_again (w ∷ ws) 1 slot (g 1) h.range.0, named_again names (w ∷ ws) 2 iface method m target are h.stands.0 has)
          (called names (w ∷ ws) slot iface method m given to has arguments.read destination);
    }

-- a call of what the table has
by_table : (p : Program) (names : Names) (slot iface method : ℕ) (given : List Arg) (to : Destination) (o : Option Method) (w : WordAt) (ws : List WordAt) → AreDeclared names
    → Written p names (call slot iface method given to) w ws → method_of names.tables iface method ≡ o → method_text names iface method given to ≡ name_of (method_of names.tables iface method)
    → TakesMethod o given to
    → Reads p names (call slot iface method given to) w ws
by_table p names slot iface method given to None w ws are h has text takes = absurd takes
by_table p names slot iface method given to (Some m) w ws are h has text takes =
    named_reads p names slot iface method given to m w ws are h has (text ∙ ap name_of has) takes.0 takes.1

keeps_nothing : (k : Option Kind) → TakesResult k destinations.Nowhere
keeps_nothing None = tt
keeps_nothing (Some kinds.Int) = tt
keeps_nothing (Some kinds.Bool) = tt
keeps_nothing (Some kinds.Text) = tt
keeps_nothing (Some kinds.Bytes) = tt
keeps_nothing (Some kinds.Guid) = tt
keeps_nothing (Some (kinds.Ref i)) = tt

-- a call that gives nothing and keeps no result, by whether its method takes nothing
alone_reads : (p : Program) (names : Names) (slot iface method : ℕ) (o : Option Method) (none : Bool) (w : WordAt) (ws : List WordAt) → AreDeclared names
    → Written p names (call slot iface method [] destinations.Nowhere) w ws → method_of names.tables iface method ≡ o → takes_nothing o ≡ none
    → Reads p names (call slot iface method [] destinations.Nowhere) w ws
alone_reads p names slot iface method o false w ws are h has takes =
    numbered_reads p names slot iface method w ws are h (ap (alone_text method) has ∙ ap (λ (b : Bool). if b then name_of o else 35 ∷ decimal method) takes)
alone_reads p names slot iface method None true w ws are h has takes = absurd cc
alone_reads p names slot iface method (Some m) true w ws are h has takes =
    named_reads p names slot iface method [] destinations.Nowhere m w ws are h has
    (ap (alone_text method) has ∙ ap (λ (b : Bool). if b then m.name else 35 ∷ decimal method) takes)
    (subst (λ (ks : List Kind). TakesArgs ks []) (sym (no_params m.params takes)) tt) (keeps_nothing m.result)

pub call_reads : (p : Program) (names : Names) (slot iface method : ℕ) (given : List Arg) (to : Destination) (w : WordAt) (ws : List WordAt) → AreDeclared names
    → Written p names (call slot iface method given to) w ws → Reads p names (call slot iface method given to) w ws
call_reads p names slot iface method [] destinations.Nowhere w ws are h =
    let o = method_of names.tables iface method in
    alone_reads p names slot iface method o (takes_nothing o) w ws are h refl refl
call_reads p names slot iface method [] (destinations.Register n) w ws are h = elim h.stands.1 [
  | inl none ↦ (let e : destinations.Register n ≡ destinations.Nowhere = none.1 in absurd cc)
  | inr takes ↦ by_table p names slot iface method [] (destinations.Register n) (method_of names.tables iface method) w ws are h refl refl takes
]
call_reads p names slot iface method [] (destinations.Slot n) w ws are h = elim h.stands.1 [
  | inl none ↦ (let e : destinations.Slot n ≡ destinations.Nowhere = none.1 in absurd cc)
  | inr takes ↦ by_table p names slot iface method [] (destinations.Slot n) (method_of names.tables iface method) w ws are h refl refl takes
]
call_reads p names slot iface method (a ∷ given) to w ws are h = elim h.stands.1 [
  | inl none ↦ (let e : a ∷ given ≡ [] = none.0 in absurd cc)
  | inr takes ↦ by_table p names slot iface method (a ∷ given) to (method_of names.tables iface method) w ws are h refl refl takes
]
