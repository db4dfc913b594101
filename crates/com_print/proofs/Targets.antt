-- The method of a call is read again.
use Rattle.std.proofs.Common.{◌≡◌, ℕ, zero, suc, ◌+◌, ◌<◌, ◌==◌, ◌^◌, List, [], ◌∷◌, ◌++◌, Option, Some, None, Result, Ok, Err, Bool, true, false, ◌&&◌, nat_le, nat_lt, if◌then◌else◌, refl, sym, ap, ◌∙◌, arith, All, length, take, drop, slice_get, decimal, option_map, bytes_eq}
use Rattle.std.specs.Char.{is_ascii_alphabetic}
use Rattle.std.proofs.lemmas.Bool.Decides.{nat_tests}
use Rattle.std.proofs.lemmas.List.Elements.{All-get_or}
use Rattle.std.proofs.lemmas.Option.{get_or_from_slice_get, slice_get_within}
use Rattle.com_base.specs.declared.value.Kind.{Kind}
use Rattle.com_classes.specs.declared.interfaces.Interface.{Interface}
use Rattle.com_classes.specs.declared.interfaces.Method.{Method}
use Rattle.com_text.specs.Words.{WordAt}
use Rattle.com_read_operands.specs.declared.faults.Fault.{Fault}
use Rattle.com_read_operands.specs.Reading.{◌>>=◌, fault_at, within}
use Rattle.com_read_operands.specs.Naming.{is_name, is_tail, are_tail, number_of_name, of_16_bits, position_of}
use Rattle.com_read_statements.specs.declared.calls.MethodNumber.{MethodNumber}
use Rattle.com_read_statements.specs.declared.calls.Target.{Target}
use Rattle.com_read_statements.specs.declared.calls.Target.TheVariants as targets
use Rattle.com_read_statements.specs.declared.names.Names.{Names}
use Rattle.com_read_statements.specs.Calls.{dot_of, method_position, in_table, in_methods, method_of, numbered_by, numbered_of, named_in, named_by, named_of, as_target, behind_dot, dotted, target_at}
use Rattle.com_print.specs.Spelled.{plain}
use Rattle.com_print.specs.Words.{name_at}
use Rattle.com_print.specs.Ranges.{AreNames}
use Rattle.com_print.proofs.Decimals.{number_again as digits_again}
use Rattle.com_print.proofs.Names.{name_parts, tail_parts, number_again, is_name_at}
use Rattle.com_print.proofs.Places.{at, StandsAt, stands, word_bytes}
use Rattle.com_print.specs.Standing.{AreDeclared, names_of}

-- ---- the dot behind an interface's name

no_dot : (b : ℕ) → is_tail b ≡ true → (b == 46) ≡ false
no_dot b h = grind (arith, nat_tests)

letter_no_dot : (b : ℕ) → is_ascii_alphabetic b ≡ true → (b == 46) ≡ false
letter_no_dot b h = grind (arith, nat_tests)

dot_behind_tail : (bs rest : List ℕ) → are_tail bs ≡ true → dot_of (bs ++ 46 ∷ rest) ≡ Some (length bs)
dot_behind_tail [] rest h = refl
dot_behind_tail (b ∷ bs) rest h =
    let t = tail_parts (is_tail b) (are_tail bs) h in
    let e : length bs + 1 ≡ suc (length bs) = omega arith in
    rw (no_dot b t.0, dot_behind_tail bs rest t.1) (ap Some e)

dot_behind_name : (bs rest : List ℕ) → is_name bs ≡ true → dot_of (bs ++ 46 ∷ rest) ≡ Some (length bs)
dot_behind_name [] rest h = absurd cc
dot_behind_name (b ∷ bs) rest h =
    let t = name_parts (is_ascii_alphabetic b) (nat_lt (length bs) 32) (are_tail bs) h in
    let e : length bs + 1 ≡ suc (length bs) = omega arith in
    rw (letter_no_dot b t.0, dot_behind_tail bs rest t.1) (ap Some e)

front_of : (bs rest : List ℕ) → take (length bs) (bs ++ 46 ∷ rest) ≡ bs
front_of [] rest = refl
front_of (b ∷ bs) rest = ap (λ (l : List ℕ). b ∷ l) (front_of bs rest)

behind_front : (bs rest : List ℕ) → drop (suc (length bs)) (bs ++ 46 ∷ rest) ≡ rest
behind_front [] rest = refl
behind_front (b ∷ bs) rest = behind_front bs rest

back_of : (bs rest : List ℕ) → drop (length bs + 1) (bs ++ 46 ∷ rest) ≡ rest
back_of bs rest =
    let e : length bs + 1 ≡ suc (length bs) = omega arith in
    ap (λ (k : ℕ). drop k (bs ++ 46 ∷ rest)) e ∙ behind_front bs rest

-- a target by the bytes of its word
abbrev target_by : Names → WordAt → List ℕ → Option ℕ → Result Target Fault
target_by names w bytes None = Err (fault_at 3 w)
target_by names w bytes (Some dot) = if is_name (take dot bytes) then behind_dot names w (take dot bytes) (drop (dot + 1) bytes) else Err (fault_at 3 w)

by_bytes : (names : Names) (w : WordAt) (o : Option ℕ) → dotted names w o ≡ target_by names w w.bytes o
by_bytes names w None = refl
by_bytes names w (Some dot) = refl

split_at_dot : (names : Names) (w : WordAt) (front back : List ℕ) → is_name front ≡ true
    → target_by names w (front ++ 46 ∷ back) (dot_of (front ++ 46 ∷ back)) ≡ behind_dot names w front back
split_at_dot names w front back is =
    ap (target_by names w (front ++ 46 ∷ back)) (dot_behind_name front back is)
    ∙ ap (λ (f : List ℕ). if is_name f then behind_dot names w f (drop (length front + 1) (front ++ 46 ∷ back)) else Err (fault_at 3 w)) (front_of front back)
    ∙ ap (λ (t : Bool). if t then behind_dot names w front (drop (length front + 1) (front ++ 46 ∷ back)) else Err (fault_at 3 w)) is
    ∙ ap (behind_dot names w front) (back_of front back)

target_word_at : (names : Names) (line : List WordAt) (k : ℕ) (front back : List ℕ) (h : StandsAt line k (plain (front ++ 46 ∷ back))) → is_name front ≡ true
    → target_at names line k ≡ behind_dot names h.word front back
unfolding target_at
target_word_at names line k front back h is =
    word_bytes (λ w bs. dotted names w (dot_of bs)) line k (front ++ 46 ∷ back) h
    ∙ by_bytes names h.word (dot_of (front ++ 46 ∷ back))
    ∙ ap (λ (bs : List ℕ). target_by names h.word bs (dot_of (front ++ 46 ∷ back))) h.bytes
    ∙ split_at_dot names h.word front back is

abbrev pub number_pair : ℕ → ℕ → MethodNumber
number_pair iface method = record { iface = iface; method = method }

-- ---- by number

pub numbered_again : (names : Names) (line : List WordAt) (k iface method : ℕ) → at line k ≡ Some (plain (name_at names.interfaces iface ++ 46 ∷ 35 ∷ decimal method))
    → AreDeclared names → iface < length names.interfaces → method < 2 ^ 16
    → target_at names line k ≡ Ok (targets.Numbered (number_pair iface method))
unfolding numbered_of
numbered_again names line k iface method h are lt fits =
    let front = name_at names.interfaces iface in
    let s = stands line k (plain (front ++ 46 ∷ 35 ∷ decimal method)) h in
    let low : nat_le 0 method ≡ true = grind (arith, nat_tests) in
    let high : nat_le method 65535 ≡ true = grind (arith, nat_tests) in
    target_word_at names line k front (35 ∷ decimal method) s (is_name_at names.interfaces iface are.interfaces lt)
    ∙ ap (λ (o : Option ℕ). within 0 65535 s.word o >>= λ m. numbered_by m s.word (number_of_name names.interfaces front)) (digits_again method (omega arith))
    ∙ ap (λ (t : Bool). (if t then Ok method else Err (fault_at 6 s.word)) >>= λ m. numbered_by m s.word (number_of_name names.interfaces front)) both_hold
    ∙ ap (numbered_by method s.word) (number_again names.interfaces iface are.interfaces lt)
  where
    both_hold : (nat_le 0 method && nat_le method 65535) ≡ true
    both_hold = grind (arith, nat_tests)

-- ---- by name

one_more : (n : ℕ) → (suc n == 0) ≡ false
one_more n = grind (arith, nat_tests)

pub no_params : (ks : List Kind) → (length ks == 0) ≡ true → ks ≡ []
no_params [] h = refl
no_params (k ∷ ks) h =
    let e : (length (k ∷ ks) == 0) ≡ false = one_more (length ks) in
    absurd cc

same_position : (ms : List Method) (name : List ℕ) → method_position ms name ≡ position_of (names_of ms) name
same_position [] name = refl
same_position (m ∷ ms) name = ap (λ (o : Option ℕ). if bytes_eq m.name name then Some 0 else option_map (λ k. k + 1) o) (same_position ms name)

name_there : (ms : List Method) (k : ℕ) (m : Method) → slice_get ms k ≡ Some m → (k < length (names_of ms)) × (name_at (names_of ms) k ≡ m.name)
name_there [] k m h = absurd cc
name_there (n ∷ ms) zero m h = let e : n ≡ m = cc in (omega arith, ap (λ (x : Method). x.name) e)
name_there (n ∷ ms) (suc k) m h = let t = name_there ms k m h in let a = t.0 in (omega arith, t.1)

number_there : (ms : List Method) (k : ℕ) (m : Method) → slice_get ms k ≡ Some m → AreNames (names_of ms) → of_16_bits (method_position ms m.name) ≡ Some k
unfolding number_of_name
number_there ms k m h are =
    let t = name_there ms k m h in
    ap of_16_bits (same_position ms m.name)
    ∙ ap (λ (name : List ℕ). of_16_bits (position_of (names_of ms) name)) (sym t.1)
    ∙ number_again (names_of ms) k are t.0

is_name_there : (ms : List Method) (k : ℕ) (m : Method) → slice_get ms k ≡ Some m → AreNames (names_of ms) → is_name m.name ≡ true
is_name_there ms k m h are =
    let t = name_there ms k m h in
    ap is_name (sym t.1) ∙ is_name_at (names_of ms) k are t.0

-- the interface of a method that a table has
pub record Holds (tables : List Interface) (iface method : ℕ) (m : Method) : Type 0 where
  pub table : Interface
  pub there : slice_get tables iface ≡ Some table
  pub has : slice_get table.methods method ≡ Some m

holds_by : (tables : List Interface) (iface method : ℕ) (m : Method) (o : Option Interface) → slice_get tables iface ≡ o → in_methods method o ≡ Some m → Holds tables iface method m
holds_by tables iface method m None e h = absurd cc
holds_by tables iface method m (Some t) e h = record { table = t; there = e; has = h }

pub holds : (tables : List Interface) (iface method : ℕ) (m : Method) → method_of tables iface method ≡ Some m → Holds tables iface method m
holds tables iface method m h = holds_by tables iface method m (slice_get tables iface) refl h

table_names : (tables : List Interface) (iface : ℕ) (t : Interface) → slice_get tables iface ≡ Some t → All (λ (i : Interface). AreNames (names_of i.methods)) tables → AreNames (names_of t.methods)
table_names tables iface t h all =
    let e = get_or_from_slice_get tables iface t t h in
    rw e at (All-get_or (λ (i : Interface). AreNames (names_of i.methods)) tables iface t (slice_get_within tables iface t h) all)

no_hash : (b : ℕ) → is_ascii_alphabetic b ≡ true → (b == 35) ≡ false
no_hash b h = grind (arith, nat_tests)

behind_dot_name : (names : Names) (w : WordAt) (front back : List ℕ) → is_name back ≡ true → behind_dot names w front back ≡ as_target (named_of names w front back)
behind_dot_name names w front [] is = refl
behind_dot_name names w front (b ∷ bs) is =
    let t = name_parts (is_ascii_alphabetic b) (nat_lt (length bs) 32) (are_tail bs) is in
    rw (no_hash b t.0) refl

pub is_method_name : (names : Names) (iface method : ℕ) (m : Method) → AreDeclared names → method_of names.tables iface method ≡ Some m → is_name m.name ≡ true
is_method_name names iface method m are has =
    let o = holds names.tables iface method m has in
    is_name_there o.table.methods method m o.has (table_names names.tables iface o.table o.there are.methods)

pub named_again : (names : Names) (line : List WordAt) (k iface method : ℕ) (m : Method) → at line k ≡ Some (plain (name_at names.interfaces iface ++ 46 ∷ m.name))
    → AreDeclared names → iface < length names.interfaces → method_of names.tables iface method ≡ Some m
    → target_at names line k ≡ Ok (targets.Named (number_pair iface method))
unfolding named_of
named_again names line k iface method m h are lt has =
    let front = name_at names.interfaces iface in
    let s = stands line k (plain (front ++ 46 ∷ m.name)) h in
    let o = holds names.tables iface method m has in
    let are_methods = table_names names.tables iface o.table o.there are.methods in
    let is = is_name_there o.table.methods method m o.has are_methods in
    target_word_at names line k front m.name s (is_name_at names.interfaces iface are.interfaces lt)
    ∙ behind_dot_name names s.word front m.name is
    ∙ ap (λ (t : Bool). as_target (if t then named_by names s.word m.name (number_of_name names.interfaces front) else Err (fault_at 3 s.word))) is
    ∙ ap (λ (i : Option ℕ). as_target (named_by names s.word m.name i)) (number_again names.interfaces iface are.interfaces lt)
    ∙ ap (λ (i : Option Interface). as_target (named_in s.word iface (in_table m.name i))) o.there
    ∙ ap (λ (n : Option ℕ). as_target (named_in s.word iface n)) (number_there o.table.methods method m o.has are_methods)
