-- The arguments of a call, and where its result goes, are read again.
use Rattle.std.proofs.Common.{◌≡◌, ℕ, zero, suc, ◌+◌, List, [], ◌∷◌, ◌++◌, map, Option, Some, None, Result, Ok, Err, Bool, if◌then◌else◌, refl, sym, ap, ◌∙◌, arith, All, length, drop, slice_get, codes, bytes_eq, append_assoc, append-nil}
use Rattle.std.proofs.lemmas.List.Elements.{All-head, All-tail}
use Rattle.com_base.specs.declared.value.Kind.{Kind}
use Rattle.com_base.specs.declared.value.Kind.TheVariants as kinds
use Rattle.com_base.specs.declared.value.Value.TheVariants as values
use Rattle.com_body.specs.declared.operands.Op.{Op}
use Rattle.com_body.specs.declared.operands.Op.TheVariants as ops
use Rattle.com_body.specs.declared.operands.Arg.{Arg}
use Rattle.com_body.specs.declared.operands.Arg.TheVariants as args
use Rattle.com_body.specs.declared.operands.Destination.{Destination}
use Rattle.com_body.specs.declared.operands.Destination.TheVariants as destinations
use Rattle.com_body.specs.Bodies.{IsOp, IsArg, IsDestination}
use Rattle.com_text.specs.Words.{WordAt}
use Rattle.com_read_operands.specs.declared.faults.Fault.{Fault}
use Rattle.com_read_operands.specs.declared.operands.Operand.{Operand}
use Rattle.com_read_operands.specs.declared.operands.Operand.TheVariants as operands
use Rattle.com_read_operands.specs.Reading.{◌>>=◌, fault_at, word_at, end_at}
use Rattle.com_read_operands.specs.Operands.{operand_of, plain_of, literal_of}
use Rattle.com_read_statements.specs.Calls.{as_value, as_argument, argument_at, arguments_on, landing_of, destination_at}
use Rattle.com_print.specs.Spelled.{Spelled, plain, spelled_of}
use Rattle.com_print.specs.Words.{op_word, slot_word, register_word, arg_word, destination_words}
use Rattle.com_print.specs.Ranges.{TakesOp, FitsOp, FitsArg}
use Rattle.com_print.proofs.Places.{at, StandsAt, stands, word_again, operand_again, read_by, present, missing, end_again, register_operand, slot_operand}
use Rattle.com_print.proofs.Literals.{operand_at, op_good, op_operand, op_read}
use Rattle.com_print.specs.Standing.{TakesArg, TakesArgs, TakesResult}

-- ---- the words that are left of a line

pub first_left : {X : Type 0} (xs : List X) (k : ℕ) (x : X) (more : List X) → drop k xs ≡ x ∷ more → slice_get xs k ≡ Some x
first_left [] zero x more h = absurd cc
first_left [] (suc k) x more h = absurd cc
first_left (y ∷ xs) zero x more h = cc
first_left (y ∷ xs) (suc k) x more h = first_left xs k x more h

next_left : {X : Type 0} (xs : List X) (k : ℕ) (x : X) (more : List X) → drop k xs ≡ x ∷ more → drop (suc k) xs ≡ more
next_left [] zero x more h = absurd cc
next_left [] (suc k) x more h = absurd cc
next_left (y ∷ xs) zero x more h = cc
next_left (y ∷ xs) (suc k) x more h = next_left xs k x more h

pub more_left : {X : Type 0} (xs : List X) (k : ℕ) (x : X) (more : List X) → drop k xs ≡ x ∷ more → drop (k + 1) xs ≡ more
more_left xs k x more h =
    let e : k + 1 ≡ suc k = omega arith in
    ap (λ (n : ℕ). drop n xs) e ∙ next_left xs k x more h

pub none_left : {X : Type 0} (xs : List X) (k : ℕ) → drop k xs ≡ [] → slice_get xs k ≡ None
none_left [] zero h = refl
none_left [] (suc k) h = refl
none_left (y ∷ xs) zero h = absurd cc
none_left (y ∷ xs) (suc k) h = none_left xs k h

-- ---- one argument

value_by : (w : WordAt) (o : Op) → TakesOp o → FitsOp o → w.bytes ≡ (op_word o).bytes → as_value w (operand_at o) ≡ Ok (args.Op o)
unfolding literal_of
value_by w (ops.Register n) takes fits e = refl
value_by w (ops.Literal (values.Int n)) takes fits e = refl
value_by w (ops.Literal (values.Bool b)) takes fits e = refl
value_by w (ops.Literal (values.Text t)) takes fits e = ap (λ (r : Result Op Fault). r >>= λ op. Ok (args.Op op)) (op_read w (ops.Literal (values.Text t)) takes fits e)
value_by w (ops.Literal (values.Bytes b)) takes fits e = ap (λ (r : Result Op Fault). r >>= λ op. Ok (args.Op op)) (op_read w (ops.Literal (values.Bytes b)) takes fits e)
value_by w (ops.Literal (values.Guid g)) takes fits e = refl
value_by w (ops.Literal (values.Ref r)) takes fits e = absurd takes

-- a kind that is no interface
abbrev IsPlainKind : Kind → Type 0
IsPlainKind (kinds.Ref i) = ⊥
IsPlainKind _ = Unit {0}

by_value : (k : Kind) (w : WordAt) (o : Operand) → IsPlainKind k → as_argument k w o ≡ as_value w o
by_value kinds.Int w o is = refl
by_value kinds.Bool w o is = refl
by_value kinds.Text w o is = refl
by_value kinds.Bytes w o is = refl
by_value kinds.Guid w o is = refl
by_value (kinds.Ref i) w o is = absurd is

op_argument : (kind : Kind) (line : List WordAt) (k : ℕ) (o : Op) → IsPlainKind kind → at line k ≡ Some (op_word o) → IsOp o → TakesOp o → FitsOp o
    → argument_at kind line k ≡ Ok (args.Op o)
unfolding argument_at
op_argument kind line k o is h lt takes fits =
    let s = stands line k (op_word o) h in
    read_by (as_argument kind) line k (op_word o) (operand_at o) s (op_good o) (op_operand o lt takes fits)
    ∙ by_value kind s.word (operand_at o) is
    ∙ value_by s.word o takes fits s.bytes

null_operand : plain_of (codes "null") ≡ operands.Null
unfolding plain_of
null_operand = refl

argument_again : (kind : Kind) (line : List WordAt) (k : ℕ) (a : Arg) → at line k ≡ Some (arg_word a) → IsArg a → TakesArg kind a → FitsArg a
    → argument_at kind line k ≡ Ok a
unfolding argument_at
argument_again (kinds.Ref i) line k (args.Op o) h lt takes fits = absurd takes
argument_again (kinds.Ref i) line k (args.Slot n) h lt takes fits =
    read_by (as_argument (kinds.Ref i)) line k (slot_word n) (operands.Slot n) (stands line k _ h) tt (slot_operand n lt)
argument_again (kinds.Ref i) line k args.Null h lt takes fits =
    read_by (as_argument (kinds.Ref i)) line k (plain (codes "null")) operands.Null (stands line k _ h) tt null_operand
argument_again kinds.Int line k (args.Op o) h lt takes fits = op_argument kinds.Int line k o tt h lt takes fits
argument_again kinds.Bool line k (args.Op o) h lt takes fits = op_argument kinds.Bool line k o tt h lt takes fits
argument_again kinds.Text line k (args.Op o) h lt takes fits = op_argument kinds.Text line k o tt h lt takes fits
argument_again kinds.Bytes line k (args.Op o) h lt takes fits = op_argument kinds.Bytes line k o tt h lt takes fits
argument_again kinds.Guid line k (args.Op o) h lt takes fits = op_argument kinds.Guid line k o tt h lt takes fits
argument_again kinds.Int line k (args.Slot n) h lt takes fits = absurd takes
argument_again kinds.Bool line k (args.Slot n) h lt takes fits = absurd takes
argument_again kinds.Text line k (args.Slot n) h lt takes fits = absurd takes
argument_again kinds.Bytes line k (args.Slot n) h lt takes fits = absurd takes
argument_again kinds.Guid line k (args.Slot n) h lt takes fits = absurd takes
argument_again kinds.Int line k args.Null h lt takes fits = absurd takes
argument_again kinds.Bool line k args.Null h lt takes fits = absurd takes
argument_again kinds.Text line k args.Null h lt takes fits = absurd takes
argument_again kinds.Bytes line k args.Null h lt takes fits = absurd takes
argument_again kinds.Guid line k args.Null h lt takes fits = absurd takes

-- ---- all arguments

-- what reading them gives, and what is left behind them
pub record AreRead (done : List Arg) (params : List Kind) (given : List Arg) (line : List WordAt) (k : ℕ) (rest : List Spelled) : Type 0 where
  pub read : arguments_on done params line k ≡ Ok (done ++ given)
  pub left : drop (k + length params) (map spelled_of line) ≡ rest

pub arguments_again : (done : List Arg) (params : List Kind) (given : List Arg) (line : List WordAt) (k : ℕ) (rest : List Spelled)
    → drop k (map spelled_of line) ≡ map arg_word given ++ rest → All IsArg given → TakesArgs params given → All FitsArg given
    → AreRead done params given line k rest
arguments_again done [] [] line k rest h lt takes fits =
    let e : k + 0 ≡ k = omega arith in
    record { read = ap Ok (sym (append-nil done)); left = ap (λ (n : ℕ). drop n (map spelled_of line)) e ∙ h }
arguments_again done [] (a ∷ given) line k rest h lt takes fits = absurd takes
arguments_again done (p ∷ params) [] line k rest h lt takes fits = absurd takes
arguments_again done (p ∷ params) (a ∷ given) line k rest h lt takes fits =
    let one = argument_again p line k a (first_left (map spelled_of line) k (arg_word a) (map arg_word given ++ rest) h) (All-head IsArg a given lt) takes.0 (All-head FitsArg a given fits) in
    let more = arguments_again (done ++ a ∷ []) params given line (k + 1) rest (more_left (map spelled_of line) k (arg_word a) (map arg_word given ++ rest) h) (All-tail IsArg a given lt) takes.1 (All-tail FitsArg a given fits) in
    let e : k + suc (length params) ≡ k + 1 + length params = omega arith in
    record {
      read = ap (λ (r : Result Arg Fault). r >>= λ b. arguments_on (done ++ b ∷ []) params line (k + 1)) one ∙ more.read ∙ ap Ok (append_assoc done (a ∷ []) given);
      left = ap (λ (n : ℕ). drop n (map spelled_of line)) e ∙ more.left;
    }

-- ---- where the result goes

-- what is read behind the arrow
abbrev landed : Option Kind → List WordAt → ℕ → Result Destination Fault
landed kind line k = do
  w ← word_at line (k + 1)
  d ← landing_of kind w (operand_of w)
  done ← end_at line (k + 2)
  Ok d

abbrev arrow_by : Option Kind → List WordAt → ℕ → WordAt → List ℕ → Result Destination Fault
arrow_by kind line k arrow bs = if bytes_eq bs (codes "->") then landed kind line k else Err (fault_at 3 arrow)

behind_arrow : (kind : Option Kind) (line : List WordAt) (k : ℕ) (h : StandsAt line k (plain (codes "->"))) → destination_at kind line k ≡ landed kind line k
unfolding destination_at
behind_arrow kind line k h =
    ap (λ (r : Result Bool Fault). r >>= λ there. if there then (word_at line k >>= λ arrow. arrow_by kind line k arrow arrow.bytes) else Ok destinations.Nowhere) (present line k (plain (codes "->")) h tt)
    ∙ ap (λ (r : Result WordAt Fault). r >>= λ arrow. arrow_by kind line k arrow arrow.bytes) (word_again line k (plain (codes "->")) h tt)
    ∙ ap (arrow_by kind line k h.word) h.bytes

landed_again : (kind : Option Kind) (line : List WordAt) (k : ℕ) (s : Spelled) (o : Operand) (d : Destination) (h : StandsAt line (k + 1) s) → word_at line (k + 1) ≡ Ok h.word
    → operand_of h.word ≡ o → landing_of kind h.word o ≡ Ok d → at line (k + 2) ≡ None → landed kind line k ≡ Ok d
landed_again kind line k s o d h word operand land none =
    ap (λ (r : Result WordAt Fault). r >>= λ w. landing_of kind w (operand_of w) >>= λ x. end_at line (k + 2) >>= λ done. Ok x) word
    ∙ ap (λ (x : Operand). landing_of kind h.word x >>= λ y. end_at line (k + 2) >>= λ done. Ok y) operand
    ∙ ap (λ (r : Result Destination Fault). r >>= λ x. end_at line (k + 2) >>= λ done. Ok x) land
    ∙ ap (λ (r : Result (Unit {0}) Fault). r >>= λ done. Ok d) (end_again line (k + 2) none)

register_lands : (kind : Option Kind) (w : WordAt) (n : ℕ) → TakesResult kind (destinations.Register n) → landing_of kind w (operands.Register n) ≡ Ok (destinations.Register n)
unfolding landing_of
register_lands None w n takes = absurd takes
register_lands (Some kinds.Int) w n takes = refl
register_lands (Some kinds.Bool) w n takes = refl
register_lands (Some kinds.Text) w n takes = refl
register_lands (Some kinds.Bytes) w n takes = refl
register_lands (Some kinds.Guid) w n takes = refl
register_lands (Some (kinds.Ref i)) w n takes = absurd takes

slot_lands : (kind : Option Kind) (w : WordAt) (n : ℕ) → TakesResult kind (destinations.Slot n) → landing_of kind w (operands.Slot n) ≡ Ok (destinations.Slot n)
unfolding landing_of
slot_lands None w n takes = absurd takes
slot_lands (Some kinds.Int) w n takes = absurd takes
slot_lands (Some kinds.Bool) w n takes = absurd takes
slot_lands (Some kinds.Text) w n takes = absurd takes
slot_lands (Some kinds.Bytes) w n takes = absurd takes
slot_lands (Some kinds.Guid) w n takes = absurd takes
slot_lands (Some (kinds.Ref i)) w n takes = refl

-- the arrow, the destination and the line's end
arrowed : (kind : Option Kind) (line : List WordAt) (k : ℕ) (s : Spelled) → drop k (map spelled_of line) ≡ plain (codes "->") ∷ s ∷ []
    → (at line k ≡ Some (plain (codes "->"))) × (at line (k + 1) ≡ Some s) × (at line (k + 2) ≡ None)
arrowed kind line k s h =
    let l = map spelled_of line in
    let second = more_left l k (plain (codes "->")) (s ∷ []) h in
    let third = more_left l (k + 1) s [] second in
    let e : k + 1 + 1 ≡ k + 2 = omega arith in
    (first_left l k (plain (codes "->")) (s ∷ []) h, first_left l (k + 1) s [] second, ap (slice_get l) (sym e) ∙ none_left l (k + 1 + 1) third)

pub destination_again : (kind : Option Kind) (line : List WordAt) (k : ℕ) (d : Destination) → drop k (map spelled_of line) ≡ destination_words d → IsDestination d → TakesResult kind d
    → destination_at kind line k ≡ Ok d
unfolding destination_at
destination_again kind line k destinations.Nowhere h lt takes =
    ap (λ (r : Result Bool Fault). r >>= λ there. if there then (word_at line k >>= λ arrow. arrow_by kind line k arrow arrow.bytes) else Ok destinations.Nowhere) (missing line k (none_left (map spelled_of line) k h))
destination_again kind line k (destinations.Register n) h lt takes =
    let a = arrowed kind line k (register_word n) h in
    let s = stands line (k + 1) (register_word n) a.1 in
    behind_arrow kind line k (stands line k (plain (codes "->")) a.0)
    ∙ landed_again kind line k (register_word n) (operands.Register n) (destinations.Register n) s (word_again line (k + 1) (register_word n) s tt)
    (operand_again line (k + 1) (register_word n) s ∙ register_operand n lt) (register_lands kind s.word n takes) a.2
destination_again kind line k (destinations.Slot n) h lt takes =
    let a = arrowed kind line k (slot_word n) h in
    let s = stands line (k + 1) (slot_word n) a.1 in
    behind_arrow kind line k (stands line k (plain (codes "->")) a.0)
    ∙ landed_again kind line k (slot_word n) (operands.Slot n) (destinations.Slot n) s (word_again line (k + 1) (slot_word n) s tt)
    (operand_again line (k + 1) (slot_word n) s ∙ slot_operand n lt) (slot_lands kind s.word n takes) a.2
