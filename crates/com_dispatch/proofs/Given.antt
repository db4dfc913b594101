-- What the words of an `invoke` give.
use Rattle.std.proofs.Common.{◌≡◌, ℕ, ◌+◌, ◌-◌, ◌<◌, ◌≤◌, ◌^◌, ◌==◌, Bool, true, false, ◌&&◌, ◌||◌, nat_lt, List, [], ◌∷◌, ◌++◌, length, drop, Option, Some, None, Result, Ok, Err, All, refl, subst, arith, if◌then◌else◌, ℤ, pos, negsuc, option_and_then}
use Rattle.std.specs.Prelude.{bytes_eq, codes}
use Rattle.std.proofs.lemmas.List.Elements.{All-nil, All-push}
use Rattle.std.proofs.lemmas.Bool.{cond_both, ltb-true, ltb-false}
use Rattle.com_base.specs.declared.guid.Guid.{Guid}
use Rattle.com_base.specs.declared.value.Value.{Value}
use Rattle.com_base.specs.declared.value.Value.TheVariants as values
use Rattle.com_body.specs.declared.operands.Op.TheVariants as ops
use Rattle.com_body.specs.declared.operands.Destination.TheVariants as destinations
use Rattle.com_body.specs.Bodies.{IsDestination}
use Rattle.com_dispatch.specs.declared.members.DispArg.{DispArg}
use Rattle.com_dispatch.specs.declared.members.DispArg.TheVariants as given
use Rattle.com_text.specs.declared.word.Sort.{Sort}
use Rattle.com_text.specs.declared.word.Sort.TheVariants as sorts
use Rattle.com_text.specs.Words.{WordAt}
use Rattle.com_read_operands.specs.declared.faults.Fault.{Fault}
use Rattle.com_read_operands.specs.declared.operands.Operand.{Operand}
use Rattle.com_read_operands.specs.declared.operands.Operand.TheVariants as operands
use Rattle.com_read_operands.specs.Numbers.{number_of, positive, negative, signed_of}
use Rattle.com_read_operands.specs.Reading.{◌>>=◌, word_at, stands_at, end_at}
use Rattle.com_read_operands.specs.Naming.{declared_at}
use Rattle.com_read_operands.specs.Literals.{guid_of, are_pairs, unhexed}
use Rattle.com_read_operands.specs.Operands.{small_of, lettered_by, lettered, numbered, numeric_of, braced, begins_number, by_first, plain_of, inner, operand_by, operand_of, slot_at, text_literal, as_bytes, bytes_literal, literal_of}
use Rattle.com_model.specs.Formed.{IsLiteral}
use Rattle.com_laws_scenario.specs.Words.{IsWord}
use Rattle.com_laws_scenario.specs.Holds.{Holds}
use Rattle.com_laws_scenario.proofs.Holds.{done, fails, anything, bind, either}
use Rattle.com_laws_scenario.proofs.Fields.{word_formed, declared_formed, IsSaid, said, slot_formed, text_formed, bytes_formed}
use Rattle.com_dispatch.specs.declared.invoke.Invocation.{Invocation}
use Rattle.com_dispatch.specs.Invoking.{member_at, as_literal, as_given, Arguments, item_at, arguments_on, landing_of, destination_at, invocation_at}

-- ---- numbers of 64 bits

abbrev pub IsWhole : ℤ → Type 0
IsWhole (pos n) = n < 2 ^ 63
IsWhole (negsuc n) = n < 2 ^ 63

positive_whole : (n : ℕ) (z : ℤ) → positive n ≡ Some z → IsWhole z
positive_whole n z e = by (nat_lt n 9223372036854775808) refl e
  where
    by : (b : Bool) → nat_lt n 9223372036854775808 ≡ b → (if b then Some (pos n) else None) ≡ Some z → IsWhole z
    by true t f = let k : pos n ≡ z = cc in let lt : n < 9223372036854775808 = ltb-true n 9223372036854775808 t in let w : IsWhole (pos n) = omega arith in subst IsWhole k w
    by false t f = absurd cc

negative_whole : (n : ℕ) (z : ℤ) → negative n ≡ Some z → IsWhole z
negative_whole n z e = zero_or (n == 0) e
  where
    high : (b : Bool) → nat_lt 9223372036854775808 n ≡ b → (if b then None else Some (negsuc (n - 1))) ≡ Some z → IsWhole z
    high true t f = absurd cc
    high false t f = let k : negsuc (n - 1) ≡ z = cc in let le : n ≤ 9223372036854775808 = ltb-false 9223372036854775808 n t in let w : IsWhole (negsuc (n - 1)) = omega arith in subst IsWhole k w

    zero_or : (b : Bool) → (if b then Some (pos 0) else (if nat_lt 9223372036854775808 n then None else Some (negsuc (n - 1)))) ≡ Some z → IsWhole z
    zero_or true f = let k : pos 0 ≡ z = cc in let w : IsWhole (pos 0) = omega arith in subst IsWhole k w
    zero_or false f = high (nat_lt 9223372036854775808 n) refl f

then_whole : (f : ℕ → Option ℤ) → ((n : ℕ) (z : ℤ) → f n ≡ Some z → IsWhole z) → (o : Option ℕ) (z : ℤ) → option_and_then f o ≡ Some z → IsWhole z
then_whole f h None z e = absurd cc
then_whole f h (Some n) z e = h n z e

signed_whole : (bytes : List ℕ) (z : ℤ) → signed_of bytes ≡ Some z → IsWhole z
unfolding signed_of
signed_whole [] z e = then_whole positive positive_whole (number_of []) z e
signed_whole (b ∷ bs) z e = by (b == 45) e
  where
    by : (t : Bool) → (if t then option_and_then negative (number_of bs) else option_and_then positive (number_of (b ∷ bs))) ≡ Some z → IsWhole z
    by true f = then_whole negative negative_whole (number_of bs) z f
    by false f = then_whole positive positive_whole (number_of (b ∷ bs)) z f

-- ---- an operand that is a number

abbrev pub IsNumber : Operand → Type 0
IsNumber (operands.Number n) = IsWhole n
IsNumber _ = Unit {0}

letter_number : (letter n : ℕ) → IsNumber (lettered_by letter n)
letter_number letter n =
    cond_both (letter == 114 && nat_lt n 16) _ _ IsNumber (λ _. tt) (λ _.
    cond_both (letter == 115 && nat_lt n 8) _ _ IsNumber (λ _. tt) (λ _.
    cond_both (letter == 99 && nat_lt n 8) _ _ IsNumber (λ _. tt) (λ _.
    cond_both (letter == 107 && nat_lt n 4) _ _ IsNumber (λ _. tt) (λ _.
    cond_both (letter == 112 && nat_lt n 64) _ _ IsNumber (λ _. tt) (λ _. tt)))))

lettered_number : (letter : ℕ) (o : Option ℕ) → IsNumber (lettered letter o)
unfolding lettered
lettered_number letter None = tt
lettered_number letter (Some n) = letter_number letter n

numbered_number : (o : Option ℤ) → ((z : ℤ) → o ≡ Some z → IsWhole z) → IsNumber (numbered o)
numbered_number None h = tt
numbered_number (Some z) h = h z refl

numeric_number : (word : List ℕ) → IsNumber (numeric_of word)
unfolding numeric_of
numeric_number word = numbered_number (signed_of word) (signed_whole word)

braced_number : (o : Option Guid) → IsNumber (braced o)
braced_number None = tt
braced_number (Some g) = tt

first_number : (word : List ℕ) → IsNumber (by_first word)
first_number [] = tt
first_number (b ∷ bs) =
    cond_both (b == 123) _ _ IsNumber (λ _. braced_number (guid_of (b ∷ bs))) (λ _.
    cond_both (begins_number b bs) _ _ IsNumber (λ _. numeric_number (b ∷ bs)) (λ _. lettered_number b (small_of bs)))

plain_number : (word : List ℕ) → IsNumber (plain_of word)
unfolding plain_of
plain_number word =
    cond_both (bytes_eq word (codes "true")) _ _ IsNumber (λ _. tt) (λ _.
    cond_both (bytes_eq word (codes "false")) _ _ IsNumber (λ _. tt) (λ _.
    cond_both (bytes_eq word (codes "null")) _ _ IsNumber (λ _. tt) (λ _. first_number word)))

sorted_number : (bytes : List ℕ) (sort : Sort) → IsNumber (operand_by bytes sort)
sorted_number bytes sorts.Plain = plain_number bytes
sorted_number bytes sorts.Text = tt
sorted_number bytes sorts.Bytes = cond_both (are_pairs (inner bytes)) operands.Bytes (operands.Wrong 3) IsNumber (λ _. tt) (λ _. tt)
sorted_number bytes sorts.Unclosed = tt
sorted_number bytes (sorts.Stray c) = tt
sorted_number bytes (sorts.Remark c) = tt

number_said : (w : WordAt) → IsNumber (operand_of w)
unfolding operand_of
number_said w = sorted_number w.bytes w.sort

-- ---- arguments

-- a literal that a word may spell
abbrev pub IsGivenValue : Value → Type 0
IsGivenValue (values.Int n) = IsWhole n
IsGivenValue v = IsLiteral v

abbrev pub IsGiven : DispArg → Type 0
IsGiven (given.Literal v) = IsGivenValue v
IsGiven (given.Slot n) = n < 8
IsGiven given.Null = Unit {0}

-- a text or bytes
abbrev pub IsMarked : Value → Type 0
IsMarked (values.Text t) = Unit {0}
IsMarked (values.Bytes b) = Unit {0}
IsMarked _ = ⊥

marked_given : (v : Value) → IsMarked v → IsLiteral v → IsGiven (given.Literal v)
marked_given (values.Text t) m h = h
marked_given (values.Bytes b) m h = h
marked_given (values.Int n) m h = absurd m
marked_given (values.Bool b) m h = absurd m
marked_given (values.Guid g) m h = absurd m
marked_given (values.Ref r) m h = absurd m

text_marked : (w : WordAt) → Holds IsMarked (text_literal w)
unfolding text_literal
text_marked w = either (nat_lt (length w.bytes) 2 || nat_lt 258 (length w.bytes)) _ _ (λ _. fails _) (λ _. done _ tt)

bytes_marked_by : (w : WordAt) (o : Option (List ℕ)) → Holds IsMarked (as_bytes w o)
bytes_marked_by w None = fails _
bytes_marked_by w (Some b) = done (values.Bytes b) tt

bytes_marked : (w : WordAt) → Holds IsMarked (bytes_literal w)
unfolding bytes_literal
bytes_marked w = either (nat_lt 512 (length (inner w.bytes))) _ _ (λ _. fails _) (λ _. bytes_marked_by w (unhexed (inner w.bytes)))

written_given : (w : WordAt) (r : Result Value Fault) → Holds IsMarked r → Holds IsLiteral r → Holds IsGiven ((r >>= λ v. Ok (ops.Literal v)) >>= λ op. as_literal w op)
written_given w (Err e) m h = fails e
written_given w (Ok v) m h = done (given.Literal v) (marked_given v (m.of v refl) (h.of v refl))

given_by : (w : WordAt) (o : Operand) → IsSaid w.bytes o → IsNumber o → Holds IsGiven (as_given w o)
unfolding literal_of
given_by w (operands.Slot n) h k = done (given.Slot n) h
given_by w operands.Null h k = done given.Null tt
given_by w (operands.Number n) h k = done (given.Literal (values.Int n)) k
given_by w (operands.Bool b) h k = done (given.Literal (values.Bool b)) tt
given_by w (operands.Guid g) h k = done (given.Literal (values.Guid g)) tt
given_by w operands.Text h k = written_given w (text_literal w) (text_marked w) (text_formed w h)
given_by w operands.Bytes h k = written_given w (bytes_literal w) (bytes_marked w) (bytes_formed w)
given_by w (operands.Register n) h k = fails _
given_by w (operands.Cell n) h k = fails _
given_by w (operands.Link n) h k = fails _
given_by w (operands.Buffer n) h k = fails _
given_by w (operands.Wrong n) h k = fails _

abbrev pub IsItem : Option DispArg → Type 0
IsItem None = Unit {0}
IsItem (Some a) = IsGiven a

item_given : (line : List WordAt) (k : ℕ) → All IsWord line → Holds IsItem (item_at line k)
unfolding item_at
item_given line k h = bind (stands_at line k) _ (anything (stands_at line k)) (λ _ _. bind (word_at line k) _ (word_formed line k h) (λ w is. either (bytes_eq w.bytes (codes "->")) _ _
    (λ _. done None tt)
    (λ _. bind (as_given w (operand_of w)) _ (given_by w (operand_of w) (said w is) (number_said w)) (λ a g. done (Some a) g))))

abbrev pub AreGiven : Arguments → Type 0
AreGiven a = All IsGiven a.args

item_more : (front : List DispArg) (line : List WordAt) (k : ℕ) (vs : List WordAt) → All IsGiven front
    → ((a : DispArg) → IsGiven a → Holds AreGiven (arguments_on (front ++ a ∷ []) line (k + 1) vs))
    → (o : Option DispArg) → IsItem o
    → Holds AreGiven (elim o as (λ _. Result Arguments Fault) [ None ↦ Ok (record { args = front; index = k }) | Some a ↦ arguments_on (front ++ a ∷ []) line (k + 1) vs ])
item_more front line k vs f more None is = done _ f
item_more front line k vs f more (Some a) is = more a is

arguments_given : (front : List DispArg) (line : List WordAt) (k : ℕ) (vs : List WordAt) → All IsWord line → All IsGiven front → Holds AreGiven (arguments_on front line k vs)
arguments_given front line k [] h f = done _ f
arguments_given front line k (v ∷ vs) h f = bind (item_at line k) _ (item_given line k h) (λ o is.
    item_more front line k vs f (λ a g. arguments_given (front ++ a ∷ []) line (k + 1) vs h (All-push IsGiven front a f g)) o is)

-- ---- the destination

landing_given : (w : WordAt) (bytes : List ℕ) (o : Operand) → IsSaid bytes o → Holds IsDestination (landing_of w o)
landing_given w bytes (operands.Register n) h = done (destinations.Register n) h
landing_given w bytes (operands.Slot n) h = done (destinations.Slot n) h
landing_given w bytes (operands.Cell n) h = fails _
landing_given w bytes (operands.Link n) h = fails _
landing_given w bytes (operands.Buffer n) h = fails _
landing_given w bytes (operands.Number n) h = fails _
landing_given w bytes (operands.Bool b) h = fails _
landing_given w bytes operands.Text h = fails _
landing_given w bytes operands.Bytes h = fails _
landing_given w bytes (operands.Guid g) h = fails _
landing_given w bytes operands.Null h = fails _
landing_given w bytes (operands.Wrong n) h = fails _

destination_given : (line : List WordAt) (k : ℕ) → All IsWord line → Holds IsDestination (destination_at line k)
unfolding destination_at
destination_given line k h = bind (stands_at line k) _ (anything (stands_at line k)) (λ there _. either there _ _
    (λ _. bind (word_at line (k + 1)) _ (word_formed line (k + 1) h) (λ w is.
    bind (landing_of w (operand_of w)) _ (landing_given w w.bytes (operand_of w) (said w is)) (λ d lands.
    bind (end_at line (k + 2)) _ (anything (end_at line (k + 2))) (λ _ _. done d lands))))
    (λ _. done destinations.Nowhere tt))

-- ---- the whole

pub record IsInvoked (count : ℕ) (i : Invocation) : Type 0 where
  pub slot : i.slot < 8
  pub iface : i.iface < count
  pub args : All IsGiven i.args
  pub destination : IsDestination i.destination

pub invoked : (interfaces : List (List ℕ)) (line : List WordAt) → All IsWord line → Holds (IsInvoked (length interfaces)) (invocation_at interfaces line)
unfolding invocation_at
invoked interfaces line h =
    bind (slot_at line 1) _ (slot_formed line 1 h) (λ slot low.
    bind (declared_at interfaces line 2) _ (declared_formed interfaces line 2) (λ iface known.
    bind (member_at line 3) _ (anything (member_at line 3)) (λ member _.
    bind (arguments_on [] line 4 (drop 4 line)) _ (arguments_given [] line 4 (drop 4 line) h (All-nil IsGiven)) (λ rest are.
    bind (destination_at line rest.index) _ (destination_given line rest.index h) (λ d lands.
    done _ (record { slot = low; iface = known; args = are; destination = lands }))))))
