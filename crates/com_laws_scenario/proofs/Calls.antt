-- Calls, and the methods that they name.
use Rattle.std.proofs.Common.{◌≡◌, ℕ, ◌+◌, ◌<◌, inl, inr, Bool, true, false, ◌==◌, List, [], ◌∷◌, ◌++◌, length, take, drop, Option, Some, None, Result, Ok, All, refl, sym, ap, subst, ◌∙◌, arith, if◌then◌else◌, option_map, option_and_then, append-nil, append_assoc}
use Rattle.std.specs.Prelude.{slice_get, bytes_eq, codes}
use Rattle.std.proofs.lemmas.List.Elements.{All-nil, All-cons}
use Rattle.com_base.specs.declared.value.Kind.{Kind}
use Rattle.com_base.specs.declared.value.Kind.TheVariants as kinds
use Rattle.com_body.specs.declared.operands.Op.{Op}
use Rattle.com_body.specs.declared.operands.Arg.{Arg}
use Rattle.com_body.specs.declared.operands.Arg.TheVariants as args
use Rattle.com_body.specs.declared.operands.Destination.{Destination}
use Rattle.com_body.specs.declared.operands.Destination.TheVariants as destinations
use Rattle.com_body.specs.declared.statements.Stmt.TheVariants as stmts
use Rattle.com_body.specs.Bodies.{IsArg, IsDestination}
use Rattle.com_classes.specs.declared.interfaces.Interface.{Interface}
use Rattle.com_classes.specs.declared.interfaces.Method.{Method}
use Rattle.com_text.specs.Words.{WordAt}
use Rattle.com_read_operands.specs.declared.faults.Fault.{Fault}
use Rattle.com_read_operands.specs.declared.operands.Operand.{Operand}
use Rattle.com_read_operands.specs.declared.operands.Operand.TheVariants as operands
use Rattle.com_read_operands.specs.Numbers.{number_of}
use Rattle.com_read_operands.specs.Reading.{◌>>=◌, word_at, stands_at, end_at, within}
use Rattle.com_read_operands.specs.Naming.{is_name, number_of_name}
use Rattle.com_read_operands.specs.Operands.{operand_of, slot_at, literal_of}
use Rattle.com_read_statements.specs.declared.calls.MethodNumber.{MethodNumber}
use Rattle.com_read_statements.specs.declared.calls.Target.{Target}
use Rattle.com_read_statements.specs.declared.calls.Target.TheVariants as targets
use Rattle.com_read_statements.specs.declared.keywords.Program.{Program}
use Rattle.com_read_statements.specs.declared.names.Names.{Names}
use Rattle.com_read_statements.specs.Calls.{dot_of, method_position, in_table, method_number, in_methods, method_of, numbered_by, numbered_of, named_in, named_by, named_of, as_target, behind_dot, dotted, target_at, headed, method_at, as_reference, as_value, as_argument, argument_at, arguments_on, in_slot, in_register, landing_of, destination_at, call_of, signed_call, call_by, call_at}
use Rattle.com_model.specs.declared.scenario.Scenario.{Scenario}
use Rattle.com_classes.specs.Lookups.{method_at as declared_method}
use Rattle.com_model.specs.Formed.{Context, methods_of, FitsKind, FitKinds, FitsResult, FitsMethod}
use Rattle.com_laws_scenario.specs.Words.{IsWord}
use Rattle.com_laws_scenario.specs.Holds.{Holds}
use Rattle.com_laws_scenario.specs.Declared.{Declares, Fits}
use Rattle.com_laws_scenario.proofs.Holds.{done, fails, anything, bind, weaker, either}
use Rattle.com_laws_scenario.proofs.Fields.{IsSaid, said, kept_16, numbered_below, word_formed, slot_formed, literal_formed, IsOpOf}

-- ---- methods

methods_below : (ms : List Method) (name : List ℕ) (n : ℕ) → method_position ms name ≡ Some n → n < length ms
methods_below [] name n e = absurd cc
methods_below (m ∷ ms) name n e = by (bytes_eq m.name name) refl (λ k is. methods_below ms name k is)
  where
    more : (o : Option ℕ) → ((k : ℕ) → o ≡ Some k → k < length ms) → option_map (λ (k : ℕ). k + 1) o ≡ Some n → n < length (m ∷ ms)
    more None lower f = absurd cc
    more (Some k) lower f = let g : k + 1 ≡ n = cc in let h = lower k refl in omega arith

    by : (b : Bool) → bytes_eq m.name name ≡ b → ((k : ℕ) → method_position ms name ≡ Some k → k < length ms) → n < length (m ∷ ms)
    by true t lower = let f : Some 0 ≡ Some n = sym (ap (λ (b : Bool). if b then Some 0 else option_map (λ (k : ℕ). k + 1) (method_position ms name)) t) ∙ e in let g : 0 ≡ n = cc in omega arith
    by false t lower = more (method_position ms name) lower (sym (ap (λ (b : Bool). if b then Some 0 else option_map (λ (k : ℕ). k + 1) (method_position ms name)) t) ∙ e)

in_table_below : (o : Option Interface) (name : List ℕ) (n : ℕ) → in_table name o ≡ Some n → n < length (methods_of o)
in_table_below None name n e = absurd cc
in_table_below (Some i) name n e = methods_below i.methods name n (kept_16 (method_position i.methods name) n e)

-- a method of a declared interface
pub record IsDeclared (tables : List Interface) (count : ℕ) (m : MethodNumber) : Type 0 where
  pub iface : m.iface < count
  pub method : m.method < length (methods_of (slice_get tables m.iface))

named_in_holds : (tables : List Interface) (count : ℕ) (w : WordAt) (iface : ℕ) (o : Option ℕ) → iface < count → ((n : ℕ) → o ≡ Some n → n < length (methods_of (slice_get tables iface)))
    → Holds (IsDeclared tables count) (named_in w iface o)
named_in_holds tables count w iface None h k = fails _
named_in_holds tables count w iface (Some m) h k = done (record { iface = iface; method = m }) (record { iface = h; method = k m refl })

named_by_holds : (names : Names) (w : WordAt) (back : List ℕ) (o : Option ℕ) → ((n : ℕ) → o ≡ Some n → n < length names.interfaces)
    → Holds (IsDeclared names.tables (length names.interfaces)) (named_by names w back o)
named_by_holds names w back None h = fails _
named_by_holds names w back (Some i) h = named_in_holds names.tables (length names.interfaces) w i (method_number names.tables i back) (h i refl) (λ n e. in_table_below (slice_get names.tables i) back n e)

named_holds : (names : Names) (w : WordAt) (front back : List ℕ) → Holds (IsDeclared names.tables (length names.interfaces)) (named_of names w front back)
unfolding named_of
named_holds names w front back = either (is_name back) _ _ (λ _. named_by_holds names w back (number_of_name names.interfaces front) (λ n e. numbered_below names.interfaces front n e)) (λ _. fails _)

headed_holds : (names : Names) (w : WordAt) (o : Option ℕ) → Holds (IsDeclared names.tables (length names.interfaces)) (headed names w o)
headed_holds names w None = fails _
headed_holds names w (Some dot) = either (is_name (take dot w.bytes)) _ _ (λ _. named_holds names w (take dot w.bytes) (drop (dot + 1) w.bytes)) (λ _. fails _)

pub head_formed : (names : Names) (line : List WordAt) (k : ℕ) → Holds (IsDeclared names.tables (length names.interfaces)) (method_at names line k)
unfolding method_at
head_formed names line k = bind (word_at line k) _ (anything (word_at line k)) (λ w _. headed_holds names w (dot_of w.bytes))

-- ---- what a call names

abbrev IsTarget : ℕ → Target → Type 0
IsTarget count (targets.Named m) = m.iface < count
IsTarget count (targets.Numbered m) = m.iface < count

numbered_by_holds : (count method : ℕ) (w : WordAt) (o : Option ℕ) → ((n : ℕ) → o ≡ Some n → n < count) → Holds (IsTarget count) (numbered_by method w o)
numbered_by_holds count method w None h = fails _
numbered_by_holds count method w (Some i) h = done (targets.Numbered (record { iface = i; method = method })) (h i refl)

numbered_holds : (names : Names) (w : WordAt) (front digits : List ℕ) → Holds (IsTarget (length names.interfaces)) (numbered_of names w front digits)
unfolding numbered_of
numbered_holds names w front digits = bind (within 0 65535 w (number_of digits)) _ (anything (within 0 65535 w (number_of digits)))
    (λ m _. numbered_by_holds (length names.interfaces) m w (number_of_name names.interfaces front) (λ n e. numbered_below names.interfaces front n e))

as_target_holds : (names : Names) (r : Result MethodNumber Fault) → Holds (IsDeclared names.tables (length names.interfaces)) r → Holds (IsTarget (length names.interfaces)) (as_target r)
as_target_holds names r h = bind r _ h (λ m is. done (targets.Named m) is.iface)

behind_dot_holds : (names : Names) (w : WordAt) (front back : List ℕ) → Holds (IsTarget (length names.interfaces)) (behind_dot names w front back)
behind_dot_holds names w front [] = as_target_holds names (named_of names w front []) (named_holds names w front [])
behind_dot_holds names w front (b ∷ bs) = either (b == 35) _ _ (λ _. numbered_holds names w front bs) (λ _. as_target_holds names (named_of names w front (b ∷ bs)) (named_holds names w front (b ∷ bs)))

dotted_holds : (names : Names) (w : WordAt) (o : Option ℕ) → Holds (IsTarget (length names.interfaces)) (dotted names w o)
dotted_holds names w None = fails _
dotted_holds names w (Some dot) = either (is_name (take dot w.bytes)) _ _ (λ _. behind_dot_holds names w (take dot w.bytes) (drop (dot + 1) w.bytes)) (λ _. fails _)

target_formed : (names : Names) (line : List WordAt) (k : ℕ) → Holds (IsTarget (length names.interfaces)) (target_at names line k)
unfolding target_at
target_formed names line k = bind (word_at line k) _ (anything (word_at line k)) (λ w _. dotted_holds names w (dot_of w.bytes))

-- ---- arguments

pub record IsArgOf (k : Kind) (a : Arg) : Type 0 where
  pub fits : FitsKind k a
  pub in_range : IsArg a

reference_holds : (i : ℕ) (w : WordAt) (bytes : List ℕ) (o : Operand) → IsSaid bytes o → Holds (IsArgOf (kinds.Ref i)) (as_reference w o)
reference_holds i w bytes (operands.Slot n) h = done (args.Slot n) (record { fits = tt; in_range = h })
reference_holds i w bytes operands.Null h = done args.Null (record { fits = tt; in_range = tt })
reference_holds i w bytes (operands.Wrong n) h = fails _
reference_holds i w bytes o h = fails _

-- a value's kind is no interface
abbrev IsPlain : Kind → Type 0
IsPlain (kinds.Ref i) = ⊥
IsPlain _ = Unit {0}

op_argument : (k : Kind) → IsPlain k → (op : Op) → IsOpOf op → IsArgOf k (args.Op op)
op_argument kinds.Int p op h = record { fits = h.1; in_range = h.0 }
op_argument kinds.Bool p op h = record { fits = h.1; in_range = h.0 }
op_argument kinds.Text p op h = record { fits = h.1; in_range = h.0 }
op_argument kinds.Bytes p op h = record { fits = h.1; in_range = h.0 }
op_argument kinds.Guid p op h = record { fits = h.1; in_range = h.0 }
op_argument (kinds.Ref i) p op h = absurd p

value_op : (k : Kind) → IsPlain k → (r : Result Op Fault) → Holds IsOpOf r → Holds (IsArgOf k) (r >>= λ op. Ok (args.Op op))
value_op k p r h = bind r _ h (λ op is. done (args.Op op) (op_argument k p op is))

value_holds : (k : Kind) → IsPlain k → (w : WordAt) (o : Operand) → IsSaid w.bytes o → Holds (IsArgOf k) (as_value w o)
value_holds k p w operands.Null h = fails _
value_holds k p w (operands.Register n) h = value_op k p (literal_of w (operands.Register n)) (literal_formed w (operands.Register n) h)
value_holds k p w (operands.Slot n) h = value_op k p (literal_of w (operands.Slot n)) (literal_formed w (operands.Slot n) h)
value_holds k p w (operands.Cell n) h = value_op k p (literal_of w (operands.Cell n)) (literal_formed w (operands.Cell n) h)
value_holds k p w (operands.Link n) h = value_op k p (literal_of w (operands.Link n)) (literal_formed w (operands.Link n) h)
value_holds k p w (operands.Buffer n) h = value_op k p (literal_of w (operands.Buffer n)) (literal_formed w (operands.Buffer n) h)
value_holds k p w (operands.Number n) h = value_op k p (literal_of w (operands.Number n)) (literal_formed w (operands.Number n) h)
value_holds k p w (operands.Bool b) h = value_op k p (literal_of w (operands.Bool b)) (literal_formed w (operands.Bool b) h)
value_holds k p w (operands.Guid g) h = value_op k p (literal_of w (operands.Guid g)) (literal_formed w (operands.Guid g) h)
value_holds k p w operands.Text h = value_op k p (literal_of w operands.Text) (literal_formed w operands.Text h)
value_holds k p w operands.Bytes h = value_op k p (literal_of w operands.Bytes) (literal_formed w operands.Bytes h)
value_holds k p w (operands.Wrong n) h = value_op k p (literal_of w (operands.Wrong n)) (literal_formed w (operands.Wrong n) h)

argument_by : (k : Kind) (w : WordAt) (o : Operand) → IsSaid w.bytes o → Holds (IsArgOf k) (as_argument k w o)
argument_by (kinds.Ref i) w o h = reference_holds i w w.bytes o h
argument_by kinds.Int w o h = value_holds kinds.Int tt w o h
argument_by kinds.Bool w o h = value_holds kinds.Bool tt w o h
argument_by kinds.Text w o h = value_holds kinds.Text tt w o h
argument_by kinds.Bytes w o h = value_holds kinds.Bytes tt w o h
argument_by kinds.Guid w o h = value_holds kinds.Guid tt w o h

argument_formed : (k : Kind) (line : List WordAt) (i : ℕ) → All IsWord line → Holds (IsArgOf k) (argument_at k line i)
unfolding argument_at
argument_formed k line i h = bind (word_at line i) _ (word_formed line i h) (λ w is. argument_by k w (operand_of w) (said w is))

-- the arguments behind those so far
pub record Argued (front : List Arg) (ps : List Kind) (all : List Arg) : Type 0 where
  pub more : List Arg
  pub is : all ≡ front ++ more
  pub fits : FitKinds ps more
  pub in_range : All IsArg more

argued_more : (front : List Arg) (p : Kind) (ps : List Kind) (a : Arg) (all : List Arg) → IsArgOf p a → Argued (front ++ a ∷ []) ps all → Argued front (p ∷ ps) all
argued_more front p ps a all h k = record {
  more = a ∷ k.more;
  is = k.is ∙ append_assoc front (a ∷ []) k.more;
  fits = (h.fits, k.fits);
  in_range = All-cons IsArg a k.more h.in_range k.in_range;
}

arguments_formed : (front : List Arg) (ps : List Kind) (line : List WordAt) (i : ℕ) → All IsWord line → Holds (Argued front ps) (arguments_on front ps line i)
arguments_formed front [] line i h = done front (record { more = []; is = sym (append-nil front); fits = tt; in_range = All-nil IsArg })
arguments_formed front (p ∷ ps) line i h = bind (argument_at p line i) _ (argument_formed p line i h) (λ a is.
    weaker (arguments_on (front ++ a ∷ []) ps line (i + 1)) (arguments_formed (front ++ a ∷ []) ps line (i + 1) h) (λ all k. argued_more front p ps a all is k))

-- ---- where the result goes

pub record IsLanding (k : Option Kind) (d : Destination) : Type 0 where
  pub fits : FitsResult k d
  pub in_range : IsDestination d

landing_slot : (i : ℕ) (w : WordAt) (bytes : List ℕ) (o : Operand) → IsSaid bytes o → Holds (IsLanding (Some (kinds.Ref i))) (in_slot w o)
landing_slot i w bytes (operands.Slot n) h = done (destinations.Slot n) (record { fits = tt; in_range = h })
landing_slot i w bytes o h = fails _

in_register_fits : (k : Kind) (n : ℕ) → IsPlain k → FitsResult (Some k) (destinations.Register n)
in_register_fits kinds.Int n p = tt
in_register_fits kinds.Bool n p = tt
in_register_fits kinds.Text n p = tt
in_register_fits kinds.Bytes n p = tt
in_register_fits kinds.Guid n p = tt
in_register_fits (kinds.Ref i) n p = absurd p

landing_register : (k : Kind) → IsPlain k → (w : WordAt) (bytes : List ℕ) (o : Operand) → IsSaid bytes o → Holds (IsLanding (Some k)) (in_register w o)
landing_register k p w bytes (operands.Register n) h = done (destinations.Register n) (record { fits = in_register_fits k n p; in_range = h })
landing_register k p w bytes o h = fails _

landing_formed : (k : Option Kind) (w : WordAt) (bytes : List ℕ) (o : Operand) → IsSaid bytes o → Holds (IsLanding k) (landing_of k w o)
unfolding landing_of
landing_formed None w bytes o h = fails _
landing_formed (Some (kinds.Ref i)) w bytes o h = landing_slot i w bytes o h
landing_formed (Some kinds.Int) w bytes o h = landing_register kinds.Int tt w bytes o h
landing_formed (Some kinds.Bool) w bytes o h = landing_register kinds.Bool tt w bytes o h
landing_formed (Some kinds.Text) w bytes o h = landing_register kinds.Text tt w bytes o h
landing_formed (Some kinds.Bytes) w bytes o h = landing_register kinds.Bytes tt w bytes o h
landing_formed (Some kinds.Guid) w bytes o h = landing_register kinds.Guid tt w bytes o h

nowhere_fits : (k : Option Kind) → FitsResult k destinations.Nowhere
nowhere_fits k = tt

destination_formed : (kind : Option Kind) (line : List WordAt) (k : ℕ) → All IsWord line → Holds (IsLanding kind) (destination_at kind line k)
unfolding destination_at
destination_formed kind line k h = bind (stands_at line k) _ (anything (stands_at line k)) (λ there _. either there _ _
    (λ _. bind (word_at line k) _ (anything (word_at line k)) (λ arrow _. either (bytes_eq arrow.bytes (codes "->")) _ _
    (λ _. bind (word_at line (k + 1)) _ (word_formed line (k + 1) h) (λ w is.
    bind (landing_of kind w (operand_of w)) _ (landing_formed kind w w.bytes (operand_of w) (said w is)) (λ d lands.
    bind (end_at line (k + 2)) _ (anything (end_at line (k + 2))) (λ _ _. done d lands))))
    (λ _. fails _)))
    (λ _. done destinations.Nowhere (record { fits = nowhere_fits kind; in_range = tt })))

-- ---- calls

found : (o : Option Interface) (m : ℕ) → in_methods m o ≡ option_and_then (λ (x : Interface). slice_get x.methods m) o
found None m = refl
found (Some i) m = refl

whole_arguments : (ps : List Kind) (all : List Arg) → Argued [] ps all → FitKinds ps all × All IsArg all
whole_arguments ps all h = subst (λ (x : List Arg). FitKinds ps x × All IsArg x) (sym h.is) (h.fits, h.in_range)

call_holds : (s : Scenario) (x : Context) (slot : ℕ) (number : MethodNumber) (m : Method) (line : List WordAt) → All IsWord line
    → slot < 8 → number.iface < length s.classes.interfaces → declared_method s.classes number.iface number.method ≡ Some m → Holds (Fits s x) (call_of slot number m line)
unfolding call_of
call_holds s x slot number m line h low known is =
    bind (arguments_on [] m.params line 3) _ (arguments_formed [] m.params line 3 h) (λ given argued.
    bind (destination_at m.result line (3 + length m.params)) _ (destination_formed m.result line (3 + length m.params) h) (λ d lands.
    (let whole = whole_arguments m.params given argued in
    done (stmts.Call slot number.iface number.method given d) (record {
      in_range = (low, whole.1, lands.in_range);
      stated = (known, inr (subst (λ (o : Option Method). FitsMethod o given d) (sym is) (whole.0, lands.fits)));
    }))))

signed_holds : (s : Scenario) (x : Context) (slot : ℕ) (number : MethodNumber) (o : Option Method) (line : List WordAt) → All IsWord line
    → slot < 8 → number.iface < length s.classes.interfaces → declared_method s.classes number.iface number.method ≡ o → Holds (Fits s x) (signed_call slot number o line)
signed_holds s x slot number None line h low known is = bind (word_at line 2) _ (anything (word_at line 2)) (λ w _. fails _)
signed_holds s x slot number (Some m) line h low known is = call_holds s x slot number m line h low known is

call_by_holds : (s : Scenario) (x : Context) (p : Program) (names : Names) (slot : ℕ) (line : List WordAt) (t : Target) → Declares s x p names → All IsWord line → slot < 8 → IsTarget (length names.interfaces) t
    → Holds (Fits s x) (call_by names slot line t)
call_by_holds s x p names slot line (targets.Named m) d h low is =
    let known : m.iface < length s.classes.interfaces = subst (λ (n : ℕ). m.iface < n) d.interfaces is in
    let same : declared_method s.classes m.iface m.method ≡ method_of names.tables m.iface m.method =
    sym (found (slice_get s.classes.interfaces m.iface) m.method) ∙ ap (λ (ts : List Interface). in_methods m.method (slice_get ts m.iface)) (sym d.tables) in
    signed_holds s x slot m (method_of names.tables m.iface m.method) line h low known same
call_by_holds s x p names slot line (targets.Numbered m) d h low is =
    let known : m.iface < length s.classes.interfaces = subst (λ (n : ℕ). m.iface < n) d.interfaces is in
    bind (end_at line 3) _ (anything (end_at line 3)) (λ _ _. done (stmts.Call slot m.iface m.method [] destinations.Nowhere) (record {
      in_range = (low, All-nil IsArg, tt);
      stated = (known, inl (refl, refl));
    }))

pub call_formed : (s : Scenario) (x : Context) (p : Program) (names : Names) (line : List WordAt) → Declares s x p names → All IsWord line → Holds (Fits s x) (call_at names line)
unfolding call_at
call_formed s x p names line d h =
    bind (slot_at line 1) _ (slot_formed line 1 h) (λ slot low.
    bind (target_at names line 2) _ (target_formed names line 2) (λ t is. call_by_holds s x p names slot line t d h low is))
