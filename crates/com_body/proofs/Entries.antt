-- The registers and slots with which a frame begins.
use Rattle.std.proofs.Common.{◌≡◌, ℕ, zero, suc, ◌+◌, ◌-◌, ◌<◌, ◌≤◌, List, [], ◌∷◌, ◌++◌, length, take, set, replicate, get_or, Option, None, ◌⊎◌, inl, inr, refl, sym, ap, ◌∙◌, arith, append_assoc, length-append}
use Rattle.std.proofs.Math.Seq.{get_or-append_seam, set-append_seam}
use Rattle.std.proofs.lemmas.List.{take_more, append-nil, length-set, length-replicate, get_or_append_left, get_or-append_right}
use Rattle.com_base.specs.declared.limits.TheConstants.{ANSWER_REGISTER, REGISTER_COUNT, SLOT_COUNT}
use Rattle.com_base.specs.declared.value.RefValue.{RefValue}
use Rattle.com_base.specs.declared.value.Value.{Value}
use Rattle.com_base.specs.declared.value.Value.TheVariants as value
use Rattle.com_body.specs.Frames.{plain_values, references, no_number, padded, entered}

plain-append : (xs ys : List Value) → plain_values (xs ++ ys) ≡ plain_values xs ++ plain_values ys
plain-append [] ys = refl
plain-append (value.Ref held ∷ xs) ys = plain-append xs ys
plain-append (value.Int n ∷ xs) ys = ap (λ l. value.Int n ∷ l) (plain-append xs ys)
plain-append (value.Bool n ∷ xs) ys = ap (λ l. value.Bool n ∷ l) (plain-append xs ys)
plain-append (value.Text n ∷ xs) ys = ap (λ l. value.Text n ∷ l) (plain-append xs ys)
plain-append (value.Bytes n ∷ xs) ys = ap (λ l. value.Bytes n ∷ l) (plain-append xs ys)
plain-append (value.Guid n ∷ xs) ys = ap (λ l. value.Guid n ∷ l) (plain-append xs ys)

references-append : (xs ys : List Value) → references (xs ++ ys) ≡ references xs ++ references ys
references-append [] ys = refl
references-append (value.Ref held ∷ xs) ys = ap (λ l. held ∷ l) (references-append xs ys)
references-append (value.Int n ∷ xs) ys = references-append xs ys
references-append (value.Bool n ∷ xs) ys = references-append xs ys
references-append (value.Text n ∷ xs) ys = references-append xs ys
references-append (value.Bytes n ∷ xs) ys = references-append xs ys
references-append (value.Guid n ∷ xs) ys = references-append xs ys

pub plain_more : (xs : List Value) (i : ℕ) (d : Value) → i < length xs → plain_values (take (i + 1) xs) ≡ plain_values (take i xs) ++ plain_values (get_or xs i d ∷ [])
plain_more xs i d within = ap plain_values (take_more xs i d within) ∙ plain-append (take i xs) (get_or xs i d ∷ [])

pub references_more : (xs : List Value) (i : ℕ) (d : Value) → i < length xs → references (take (i + 1) xs) ≡ references (take i xs) ++ references (get_or xs i d ∷ [])
references_more xs i d within = ap references (take_more xs i d within) ∙ references-append (take i xs) (get_or xs i d ∷ [])

pub plain_length : (xs : List Value) → length (plain_values xs) ≤ length xs
plain_length [] = omega arith
plain_length (value.Ref held ∷ xs) = omega (arith, plain_length xs)
plain_length (value.Int n ∷ xs) = omega (arith, plain_length xs)
plain_length (value.Bool n ∷ xs) = omega (arith, plain_length xs)
plain_length (value.Text n ∷ xs) = omega (arith, plain_length xs)
plain_length (value.Bytes n ∷ xs) = omega (arith, plain_length xs)
plain_length (value.Guid n ∷ xs) = omega (arith, plain_length xs)

pub references_length : (xs : List Value) → length (references xs) ≤ length xs
references_length [] = omega arith
references_length (value.Ref held ∷ xs) = omega (arith, references_length xs)
references_length (value.Int n ∷ xs) = omega (arith, references_length xs)
references_length (value.Bool n ∷ xs) = omega (arith, references_length xs)
references_length (value.Text n ∷ xs) = omega (arith, references_length xs)
references_length (value.Bytes n ∷ xs) = omega (arith, references_length xs)
references_length (value.Guid n ∷ xs) = omega (arith, references_length xs)

replicate-more : {A : Type 0} (k : ℕ) (x : A) → replicate k x ++ x ∷ [] ≡ replicate (suc k) x
replicate-more zero x = refl
replicate-more (suc k) x = ap (λ l. x ∷ l) (replicate-more k x)

-- a list of the same value alone
get_or-replicate_any : {A : Type 0} (k : ℕ) (x : A) (n : ℕ) → get_or (replicate k x) n x ≡ x
get_or-replicate_any zero x n = refl
get_or-replicate_any (suc k) x zero = refl
get_or-replicate_any (suc k) x (suc n) = get_or-replicate_any k x n

-- the slots with which a frame begins are all that there are
pub entered_count : (values : List Value) → length values ≤ 4 → length (entered values).slots ≡ SLOT_COUNT
entered_count values few =
    let held : length (references values) ≤ length values = references_length values in
    let nulls : List (Option RefValue) = replicate (SLOT_COUNT - length (references values)) None in
    let both : length (entered values).slots ≡ length (references values) + length nulls = length-append (references values) nulls in
    let more : length nulls ≡ SLOT_COUNT - length (references values) = length-replicate (SLOT_COUNT - length (references values)) None in
    omega (arith, held, both, more, few)

-- one more Int 0 among those that were set changes no register
pub padded_more : (xs : List Value) (a : Value) → length xs < ANSWER_REGISTER → padded (xs ++ no_number ∷ []) a ≡ padded xs a
padded_more xs a within =
    let count : length (xs ++ no_number ∷ []) ≡ length xs + 1 = length-append xs (no_number ∷ []) in
    let more : suc (ANSWER_REGISTER - (length xs + 1)) ≡ ANSWER_REGISTER - length xs = omega (arith, within) in
    ap (λ l. l ++ a ∷ []) (
    ap (λ n. (xs ++ no_number ∷ []) ++ replicate (ANSWER_REGISTER - n) no_number) count ∙
    append_assoc xs (no_number ∷ []) (replicate (ANSWER_REGISTER - (length xs + 1)) no_number) ∙
    ap (λ n. xs ++ replicate n no_number) more)

-- the registers before the answer's
own_length : (xs : List Value) → length xs ≤ ANSWER_REGISTER → length (xs ++ replicate (ANSWER_REGISTER - length xs) no_number) ≡ ANSWER_REGISTER
own_length xs within =
    let both : length (xs ++ replicate (ANSWER_REGISTER - length xs) no_number) ≡ length xs + length (replicate (ANSWER_REGISTER - length xs) no_number) = length-append xs (replicate (ANSWER_REGISTER - length xs) no_number) in
    let more : length (replicate (ANSWER_REGISTER - length xs) no_number) ≡ ANSWER_REGISTER - length xs = length-replicate (ANSWER_REGISTER - length xs) no_number in
    omega (arith, both, more, within)

-- the registers that were set, those behind them, and the answer's are all that there are
pub padded_length : (xs : List Value) (a : Value) → length xs ≤ ANSWER_REGISTER → length (padded xs a) ≡ REGISTER_COUNT
padded_length xs a within =
    let own = own_length xs within in
    let both : length (padded xs a) ≡ length (xs ++ replicate (ANSWER_REGISTER - length xs) no_number) + 1 =
    length-append (xs ++ replicate (ANSWER_REGISTER - length xs) no_number) (a ∷ []) in
    omega (arith, both, own)

-- the registers of a frame at Enter, where no answer has come
pub padded_entered : (xs : List Value) → length xs ≤ 4 → padded xs no_number ≡ xs ++ replicate (REGISTER_COUNT - length xs) no_number
padded_entered xs few =
    let more : suc (ANSWER_REGISTER - length xs) ≡ REGISTER_COUNT - length xs = omega (arith, few) in
    append_assoc xs (replicate (ANSWER_REGISTER - length xs) no_number) (no_number ∷ []) ∙
    ap (λ l. xs ++ l) (replicate-more (ANSWER_REGISTER - length xs) no_number ∙ ap (λ n. replicate n no_number) more)

-- a write changes no number of places
pub set_count : (slots : List (Option RefValue)) (n : ℕ) (held : Option RefValue) → length (set slots n held) ≡ length slots
set_count slots n held = length-set slots n held

-- a write to a register that was set
set-before : (xs ys : List Value) (n : ℕ) (x : Value) → n < length xs → set (xs ++ ys) n x ≡ set xs n x ++ ys
set-before [] ys n x within = absurd (omega (arith, within))
set-before (y ∷ xs) ys zero x within = refl
set-before (y ∷ xs) ys (suc n) x within = ap (λ l. y ∷ l) (set-before xs ys n x (omega (arith, within)))

pub padded_set : (xs : List Value) (a : Value) (n : ℕ) (x : Value) → n < length xs → padded (set xs n x) a ≡ set (padded xs a) n x
padded_set xs a n x within =
    let own : List Value = xs ++ replicate (ANSWER_REGISTER - length xs) no_number in
    let both : length own ≡ length xs + length (replicate (ANSWER_REGISTER - length xs) no_number) = length-append xs (replicate (ANSWER_REGISTER - length xs) no_number) in
    let inside : n < length own = omega (arith, both, within) in
    ap (λ l. l ++ a ∷ []) (
    ap (λ k. set xs n x ++ replicate (ANSWER_REGISTER - k) no_number) (length-set xs n x) ∙
    sym (set-before xs (replicate (ANSWER_REGISTER - length xs) no_number) n x within)) ∙
    sym (set-before own (a ∷ []) n x inside)

-- a write to the answer's register
pub padded_answered : (xs : List Value) (a x : Value) → length xs ≤ ANSWER_REGISTER → padded xs x ≡ set (padded xs a) ANSWER_REGISTER x
padded_answered xs a x within =
    let own : List Value = xs ++ replicate (ANSWER_REGISTER - length xs) no_number in
    let count : length own ≡ ANSWER_REGISTER = own_length xs within in
    sym (ap (λ n. set (own ++ a ∷ []) n x) (sym count) ∙ set-append_seam own a [] x)

-- what the registers hold: the answer's, each that was set, and each other one
pub read_answer : (xs : List Value) (a : Value) → length xs ≤ ANSWER_REGISTER → get_or (padded xs a) ANSWER_REGISTER no_number ≡ a
read_answer xs a within =
    let own : List Value = xs ++ replicate (ANSWER_REGISTER - length xs) no_number in
    let count : length own ≡ ANSWER_REGISTER = own_length xs within in
    ap (λ n. get_or (own ++ a ∷ []) n no_number) (sym count) ∙ get_or-append_seam own a [] no_number

pub read_set : (xs : List Value) (a : Value) (n : ℕ) → n < length xs → get_or (padded xs a) n no_number ≡ get_or xs n no_number
read_set xs a n within =
    let own : List Value = xs ++ replicate (ANSWER_REGISTER - length xs) no_number in
    let both : length own ≡ length xs + length (replicate (ANSWER_REGISTER - length xs) no_number) = length-append xs (replicate (ANSWER_REGISTER - length xs) no_number) in
    let inside : n < length own = omega (arith, both, within) in
    get_or_append_left own (a ∷ []) no_number n inside ∙ get_or_append_left xs (replicate (ANSWER_REGISTER - length xs) no_number) no_number n within

pub read_unset : (xs : List Value) (a : Value) (n : ℕ) → length xs ≤ n → n < ANSWER_REGISTER → get_or (padded xs a) n no_number ≡ no_number
read_unset xs a n beyond below =
    let rest : List Value = replicate (ANSWER_REGISTER - length xs) no_number in
    let own : List Value = xs ++ rest in
    let count : length own ≡ ANSWER_REGISTER = own_length xs (omega (arith, beyond, below)) in
    get_or_append_left own (a ∷ []) no_number n (omega (arith, count, below)) ∙
    get_or-append_right xs rest (length xs) n no_number refl beyond ∙
    get_or-replicate_any (ANSWER_REGISTER - length xs) no_number (n - length xs)

-- a write to the first free place of a list that is filled up
set-first : {A : Type 0} (xs : List A) (k : ℕ) (x d : A) → set (xs ++ replicate (suc k) d) (length xs) x ≡ (xs ++ x ∷ []) ++ replicate k d
set-first [] k x d = refl
set-first (y ∷ xs) k x d = ap (λ l. y ∷ l) (set-first xs k x d)

pub set_next : (xs : List (Option RefValue)) (n : ℕ) (x : Option RefValue) → length xs < n →
    set (xs ++ replicate (n - length xs) None) (length xs) x ≡ (xs ++ x ∷ []) ++ replicate (n - length (xs ++ x ∷ [])) None
set_next xs n x within =
    let more : n - length xs ≡ suc (n - (length xs + 1)) = omega (arith, within) in
    let count : length (xs ++ x ∷ []) ≡ length xs + 1 = length-append xs (x ∷ []) in
    ap (λ k. set (xs ++ replicate k None) (length xs) x) more ∙ set-first xs (n - (length xs + 1)) x None ∙
    ap (λ k. (xs ++ x ∷ []) ++ replicate (n - k) None) (sym count)

-- a value is no reference, or it is one
pub one_reference : (v : Value) → (references (v ∷ []) ≡ []) ⊎ ((h : Option RefValue) × (references (v ∷ []) ≡ h ∷ []))
one_reference (value.Ref held) = inr (held, refl)
one_reference (value.Int n) = inl refl
one_reference (value.Bool n) = inl refl
one_reference (value.Text n) = inl refl
one_reference (value.Bytes n) = inl refl
one_reference (value.Guid n) = inl refl

-- the slots after one more value
pub slots_more : (rs more one : List (Option RefValue)) (slots after : List (Option RefValue)) (taken next : ℕ) →
    more ≡ rs ++ one → taken ≡ length rs → slots ≡ rs ++ replicate (SLOT_COUNT - length rs) None → length rs < SLOT_COUNT →
    (one ≡ [] → (after ≡ slots) × (next ≡ taken)) →
    ((h : Option RefValue) → one ≡ h ∷ [] → (after ≡ set slots taken h) × (next ≡ taken + 1)) →
    (one ≡ []) ⊎ ((h : Option RefValue) × (one ≡ h ∷ [])) →
    (next ≡ length more) × (after ≡ more ++ replicate (SLOT_COUNT - length more) None)
slots_more rs more one slots after taken next grown count filled_up room none some (inl e) =
    let same : more ≡ rs = grown ∙ ap (λ l. rs ++ l) e ∙ append-nil rs in
    let got = none e in
    (got.1 ∙ count ∙ ap length (sym same), got.0 ∙ filled_up ∙ ap (λ l. l ++ replicate (SLOT_COUNT - length l) None) (sym same))
slots_more rs more one slots after taken next grown count filled_up room none some (inr (h, e)) =
    let same : more ≡ rs ++ h ∷ [] = grown ∙ ap (λ l. rs ++ l) e in
    let got = some h e in
    let long : length (rs ++ h ∷ []) ≡ length rs + 1 = length-append rs (h ∷ []) in
    let put : set slots taken h ≡ (rs ++ h ∷ []) ++ replicate (SLOT_COUNT - length (rs ++ h ∷ [])) None =
    ap (λ l. set l taken h) filled_up ∙ ap (λ n. set (rs ++ replicate (SLOT_COUNT - length rs) None) n h) count ∙ set_next rs SLOT_COUNT h room in
    (got.1 ∙ ap (λ n. n + 1) count ∙ sym long ∙ ap length (sym same), got.0 ∙ put ∙ ap (λ l. l ++ replicate (SLOT_COUNT - length l) None) (sym same))
