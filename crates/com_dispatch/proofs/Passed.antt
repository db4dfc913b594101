-- What is passed on fits the method's parameters and its result.
use Rattle.std.proofs.Common.{◌≡◌, ℕ, suc, ◌+◌, ◌/◌, ◌%◌, ◌<◌, ◌≤◌, ◌^◌, ◌==◌, Bool, true, false, List, [], ◌∷◌, ◌++◌, length, map, Option, Some, None, Ok, Err, All, refl, sym, subst, ◌∙◌, arith, if◌then◌else◌, ℤ, pos, negsuc, decimal, append-nil, append_assoc}
use Rattle.std.specs.Prelude.{option_map, codes}
use Rattle.std.specs.Fmt.{signed_decimal}
use Rattle.std.proofs.lemmas.Fmt.{decimal_by_steps, length-decimal-le}
use Rattle.std.proofs.lemmas.Bool.Decides.{nat_tests}
use Rattle.std.proofs.lemmas.List.Elements.{All-nil, All-cons, All-head, All-tail, All-push, All-from_recursion}
use Rattle.com_base.specs.declared.guid.Guid.{Guid}
use Rattle.com_base.specs.declared.value.Kind.{Kind}
use Rattle.com_base.specs.declared.value.Kind.TheVariants as kinds
use Rattle.com_base.specs.declared.value.Value.{Value}
use Rattle.com_base.specs.declared.value.Value.TheVariants as values
use Rattle.com_body.specs.declared.operands.Op.TheVariants as ops
use Rattle.com_body.specs.declared.operands.Arg.TheVariants as args
use Rattle.com_body.specs.declared.operands.Destination.{Destination}
use Rattle.com_body.specs.declared.operands.Destination.TheVariants as destinations
use Rattle.com_classes.specs.declared.interfaces.Method.{Method}
use Rattle.com_dispatch.specs.declared.members.Bound.{Bound}
use Rattle.com_dispatch.specs.declared.members.DispArg.{DispArg}
use Rattle.com_dispatch.specs.declared.members.DispArg.TheVariants as given
use Rattle.com_dispatch.specs.Coercing.{to_int, to_bool, to_text, to_bytes, to_guid, word_of, coerced_value, coerced, coerced_on}
use Rattle.com_dispatch.specs.Binding.{is_for, matched, signed, bad_parameter_count}
use Rattle.com_dispatch.specs.Standing.{sort_of, argument_of}
use Rattle.com_model.specs.Formed.{is_text_byte, IsLiteral, FitsKind, FitKinds, FitsResult, FitsMethod}
use Rattle.com_dispatch.proofs.Given.{IsWhole, IsGivenValue, IsGiven}

-- ---- a number's decimal text

abbrev IsShown : ℕ → List ℕ → Type 0
IsShown n ds = All (λ c. is_text_byte c ≡ true) ds

digit_shown : (d : ℕ) → d < 10 → is_text_byte (48 + d) ≡ true
digit_shown d lt = grind (arith, nat_tests)

one_shown : (n : ℕ) → n < 10 → IsShown n ((48 + n) ∷ [])
one_shown n lt = All-cons (λ c. is_text_byte c ≡ true) (48 + n) [] (digit_shown n lt) (All-nil (λ c. is_text_byte c ≡ true))

more_shown : (n : ℕ) (ds : List ℕ) → 10 ≤ n → IsShown (n / 10) ds → IsShown n (ds ++ (48 + n % 10) ∷ [])
more_shown n ds ge h = let lt : n % 10 < 10 = omega arith in All-push (λ c. is_text_byte c ≡ true) ds (48 + n % 10) h (digit_shown (n % 10) lt)

decimal_shown : (n : ℕ) → n < 2 ^ 64 → All (λ c. is_text_byte c ≡ true) (decimal n)
decimal_shown n lt = decimal_by_steps IsShown one_shown more_shown n lt

decimal_short : (n : ℕ) → n < 2 ^ 64 → length (decimal n) ≤ 20
decimal_short n lt = let wide : n < 10 ^ 20 = omega arith in length-decimal-le 20 n (omega arith) wide lt

number_shown : (z : ℤ) → IsWhole z → IsLiteral (values.Text (signed_decimal z))
number_shown (pos n) h =
    let lt : n < 2 ^ 64 = omega arith in
    (decimal_shown n lt, (let s = decimal_short n lt in omega arith))
number_shown (negsuc n) h =
    let lt : suc n < 2 ^ 64 = omega arith in
    (All-cons (λ c. is_text_byte c ≡ true) 45 (decimal (suc n)) refl (decimal_shown (suc n) lt), (let s = decimal_short (suc n) lt in omega arith))

word_shown : (b : Bool) → IsLiteral (values.Text (word_of b))
word_shown true = (All-from_recursion (λ c. is_text_byte c ≡ true) (codes "true") (refl, (refl, (refl, (refl, tt)))), omega arith)
word_shown false = (All-from_recursion (λ c. is_text_byte c ≡ true) (codes "false") (refl, (refl, (refl, (refl, (refl, tt))))), omega arith)

-- ---- a value

mapped : {X : Type 0} (f : X → Value) (P : Value → Type 0) (o : Option X) (c : Value) → option_map f o ≡ Some c → ((x : X) → o ≡ Some x → P (f x)) → P c
mapped f P None c e h = absurd cc
mapped f P (Some x) c e h = let k : f x ≡ c = cc in subst P k (h x refl)

shown_text : (v : Value) (t : List ℕ) → to_text v ≡ Some t → IsGivenValue v → IsLiteral (values.Text t)
shown_text (values.Int n) t e h = let k : signed_decimal n ≡ t = cc in subst (λ (x : List ℕ). IsLiteral (values.Text x)) k (number_shown n h)
shown_text (values.Bool b) t e h = let k : word_of b ≡ t = cc in subst (λ (x : List ℕ). IsLiteral (values.Text x)) k (word_shown b)
shown_text (values.Text s) t e h = let k : s ≡ t = cc in subst (λ (x : List ℕ). IsLiteral (values.Text x)) k h
shown_text (values.Bytes b) t e h = absurd cc
shown_text (values.Guid g) t e h = absurd cc
shown_text (values.Ref r) t e h = absurd cc

passed_bytes : (v : Value) (b : List ℕ) → to_bytes v ≡ Some b → IsGivenValue v → IsLiteral (values.Bytes b)
passed_bytes (values.Bytes s) b e h = let k : s ≡ b = cc in subst (λ (x : List ℕ). IsLiteral (values.Bytes x)) k h
passed_bytes (values.Int n) b e h = absurd cc
passed_bytes (values.Bool t) b e h = absurd cc
passed_bytes (values.Text t) b e h = absurd cc
passed_bytes (values.Guid g) b e h = absurd cc
passed_bytes (values.Ref r) b e h = absurd cc

value_fits : (k : Kind) (v c : Value) → coerced_value k v ≡ Some c → IsGivenValue v → IsLiteral c
value_fits kinds.Int v c e h = mapped (λ (n : ℤ). values.Int n) IsLiteral (to_int v) c e (λ n _. tt)
value_fits kinds.Bool v c e h = mapped (λ (b : Bool). values.Bool b) IsLiteral (to_bool v) c e (λ b _. tt)
value_fits kinds.Text v c e h = mapped (λ (t : List ℕ). values.Text t) IsLiteral (to_text v) c e (λ t is. shown_text v t is h)
value_fits kinds.Bytes v c e h = mapped (λ (b : List ℕ). values.Bytes b) IsLiteral (to_bytes v) c e (λ b is. passed_bytes v b is h)
value_fits kinds.Guid v c e h = mapped (λ (g : Guid). values.Guid g) IsLiteral (to_guid v) c e (λ g _. tt)
value_fits (kinds.Ref i) v c e h = absurd cc

-- ---- an argument

literal_fits : (k : Kind) (v : Value) (o : Option Value) (c : DispArg) → coerced_value k v ≡ o → option_map (λ (x : Value). given.Literal x) o ≡ Some c → IsGivenValue v → FitsKind k (argument_of c)
literal_fits k v None c e f h = absurd cc
literal_fits k v (Some x) c e f h = let g : given.Literal x ≡ c = cc in subst (λ (y : DispArg). FitsKind k (argument_of y)) g (by k e)
  where
    by : (j : Kind) → coerced_value j v ≡ Some x → FitsKind j (args.Op (ops.Literal x))
    by kinds.Int p = value_fits kinds.Int v x p h
    by kinds.Bool p = value_fits kinds.Bool v x p h
    by kinds.Text p = value_fits kinds.Text v x p h
    by kinds.Bytes p = value_fits kinds.Bytes v x p h
    by kinds.Guid p = value_fits kinds.Guid v x p h
    by (kinds.Ref i) p = absurd cc

argument_fits : (k : Kind) (a c : DispArg) → coerced k a ≡ Some c → IsGiven a → FitsKind k (argument_of c)
argument_fits k (given.Literal v) c e h = literal_fits k v (coerced_value k v) c refl e h
argument_fits (kinds.Ref i) (given.Slot n) c e h = let g : given.Slot n ≡ c = cc in subst (λ (y : DispArg). FitsKind (kinds.Ref i) (argument_of y)) g tt
argument_fits (kinds.Ref i) given.Null c e h = let g : given.Null ≡ c = cc in subst (λ (y : DispArg). FitsKind (kinds.Ref i) (argument_of y)) g tt
argument_fits kinds.Int (given.Slot n) c e h = absurd cc
argument_fits kinds.Bool (given.Slot n) c e h = absurd cc
argument_fits kinds.Text (given.Slot n) c e h = absurd cc
argument_fits kinds.Bytes (given.Slot n) c e h = absurd cc
argument_fits kinds.Guid (given.Slot n) c e h = absurd cc
argument_fits kinds.Int given.Null c e h = absurd cc
argument_fits kinds.Bool given.Null c e h = absurd cc
argument_fits kinds.Text given.Null c e h = absurd cc
argument_fits kinds.Bytes given.Null c e h = absurd cc
argument_fits kinds.Guid given.Null c e h = absurd cc

-- the arguments behind those so far
record Passed (front : List DispArg) (ks : List Kind) (all : List DispArg) : Type 0 where
  more : List DispArg
  is : all ≡ front ++ more
  fits : FitKinds ks (map argument_of more)

passed_more : (front : List DispArg) (k : Kind) (ks : List Kind) (c : DispArg) (all : List DispArg) → FitsKind k (argument_of c) → Passed (front ++ c ∷ []) ks all → Passed front (k ∷ ks) all
passed_more front k ks c all h p = record {
  more = c ∷ p.more;
  is = p.is ∙ append_assoc front (c ∷ []) p.more;
  fits = (h, p.fits);
}

all_fit : (front : List DispArg) (ks : List Kind) (as' all : List DispArg) → coerced_on front ks as' ≡ Some all → All IsGiven as' → Passed front ks all
all_fit front [] [] all e h = let k : front ≡ all = cc in record { more = []; is = sym k ∙ sym (append-nil front); fits = tt }
all_fit front [] (a ∷ as') all e h = absurd cc
all_fit front (k ∷ ks) [] all e h = absurd cc
all_fit front (k ∷ ks) (a ∷ as') all e h =
    by (coerced k a) refl e (λ c f. all_fit (front ++ c ∷ []) ks as' all f (All-tail IsGiven a as' h))
  where
    by : (o : Option DispArg) → coerced k a ≡ o → elim o as (λ _. Option (List DispArg)) [ None ↦ None | Some c ↦ coerced_on (front ++ c ∷ []) ks as' ] ≡ Some all
        → ((c : DispArg) → coerced_on (front ++ c ∷ []) ks as' ≡ Some all → Passed (front ++ c ∷ []) ks all) → Passed front (k ∷ ks) all
    by None g f more = absurd cc
    by (Some c) g f more = passed_more front k ks c all (argument_fits k a c g (All-head IsGiven a as' h)) (more c f)

-- ---- the destination

result_fits : (k : Option Kind) (d : Destination) → is_for k (sort_of d) ≡ true → FitsResult k d
result_fits k destinations.Nowhere e = tt
result_fits None (destinations.Register n) e = absurd cc
result_fits None (destinations.Slot n) e = absurd cc
result_fits (Some (kinds.Ref i)) (destinations.Slot n) e = tt
result_fits (Some (kinds.Ref i)) (destinations.Register n) e = absurd cc
result_fits (Some kinds.Int) (destinations.Register n) e = tt
result_fits (Some kinds.Bool) (destinations.Register n) e = tt
result_fits (Some kinds.Text) (destinations.Register n) e = tt
result_fits (Some kinds.Bytes) (destinations.Register n) e = tt
result_fits (Some kinds.Guid) (destinations.Register n) e = tt
result_fits (Some kinds.Int) (destinations.Slot n) e = absurd cc
result_fits (Some kinds.Bool) (destinations.Slot n) e = absurd cc
result_fits (Some kinds.Text) (destinations.Slot n) e = absurd cc
result_fits (Some kinds.Bytes) (destinations.Slot n) e = absurd cc
result_fits (Some kinds.Guid) (destinations.Slot n) e = absurd cc

-- ---- the whole

pub record IsMatch (index : ℕ) (m : Method) (d : Destination) (b : Bound) : Type 0 where
  pub method : b.method ≡ index
  pub fits : FitsMethod (Some m) (map argument_of b.args) d

whole : (m : Method) (as' : List DispArg) (d : Destination) (index : ℕ) (o : Option (List DispArg)) (f : Bool) (b : Bound) → coerced_on [] m.params as' ≡ o → is_for m.result (sort_of d) ≡ f → All IsGiven as'
    → matched index o f ≡ Ok b → IsMatch index m d b
whole m as' d index None f b g j h e = absurd cc
whole m as' d index (Some xs) false b g j h e = absurd cc
whole m as' d index (Some xs) true b g j h e =
    let r : Bound = record { method = index; args = xs } in
    let k : r ≡ b = cc in
    let p = all_fit [] m.params as' xs g h in
    let fit : FitKinds m.params (map argument_of xs) = subst (λ (x : List DispArg). FitKinds m.params (map argument_of x)) (sym p.is) p.fits in
    subst (IsMatch index m d) k (record { method = refl; fits = (fit, result_fits m.result d j) })

pub signed_match : (index : ℕ) (m : Method) (as' : List DispArg) (d : Destination) (b : Bound) → signed index m as' (sort_of d) ≡ Ok b → All IsGiven as' → IsMatch index m d b
signed_match index m as' d b e h = by (length as' == length m.params) e
  where
    by : (t : Bool) → (if t then matched index (coerced_on [] m.params as') (is_for m.result (sort_of d)) else Err bad_parameter_count) ≡ Ok b → IsMatch index m d b
    by true f = whole m as' d index (coerced_on [] m.params as') (is_for m.result (sort_of d)) b refl refl h f
    by false f = absurd cc
