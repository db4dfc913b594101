-- What is read at one word: the first words of a line give what the whole line gives, or lack the word.
use Rattle.std.proofs.Common.{◌≡◌, ℕ, zero, suc, ◌+◌, ◌-◌, ◌≤◌, ◌<◌, ◌⊎◌, inl, inr, Bool, true, false, List, [], ◌∷◌, ◌++◌, length, Option, Some, None, Result, Ok, refl, sym, ap, subst, arith, if◌then◌else◌}
use Rattle.std.specs.Prelude.{slice_get, nat_le}
use Rattle.std.proofs.lemmas.Bool.{leb-true, leb-false}
use Rattle.com_body.specs.declared.operands.Given.{Given}
use Rattle.com_body.specs.declared.operands.Given.TheVariants as gifts
use Rattle.com_text.specs.declared.word.Sort.{Sort}
use Rattle.com_text.specs.declared.word.Sort.TheVariants as sorts
use Rattle.com_text.specs.Words.{WordAt}
use Rattle.com_read_operands.specs.declared.faults.Fault.{Fault}
use Rattle.com_read_operands.specs.Reading.{◌>>=◌, missing_at, judged, needed, word_at, is_there, stands_at, nothing, end_at, opened, first_at, number_at}
use Rattle.com_read_operands.specs.Literals.{guid_at}
use Rattle.com_read_operands.specs.Naming.{name_at, declared_at, opens_brace, asked_at}
use Rattle.com_read_operands.specs.Operands.{operand_of, register_at, slot_at, cell_at, buffer_at, place_at, op_at, code_at, as_given, given_at, mode_at, marshal_mode_at}
use Rattle.com_laws_faults.proofs.Goes.{IsMissed, IsMild, Sure, Goes, still, bind, surely, by_word, map, surely_either}

-- ---- lists

pub shorter : {A : Type 0} (p : List A) (k : ℕ) → length p ≤ k → slice_get p k ≡ None
shorter [] k h = refl
shorter (x ∷ xs) zero h = absurd (omega arith)
shorter (x ∷ xs) (suc k) h = shorter xs k (omega arith)

pub within_first : {A : Type 0} (p a : List A) (k : ℕ) → k < length p → slice_get (p ++ a) k ≡ slice_get p k
within_first [] a k h = absurd (omega arith)
within_first (x ∷ xs) a zero h = refl
within_first (x ∷ xs) a (suc k) h = within_first xs a k (omega arith)

pub there_or_not : {A : Type 0} (p a : List A) (k : ℕ) → (slice_get (p ++ a) k ≡ slice_get p k) ⊎ (slice_get p k ≡ None)
there_or_not [] a k = inr refl
there_or_not (x ∷ xs) a zero = inl refl
there_or_not (x ∷ xs) a (suc k) = there_or_not xs a k

-- ---- words

missed : (o : Option WordAt) → (missing_at o).number ≡ 4
missed None = refl
missed (Some v) = refl

judged_sure : (p q : List WordAt) (k : ℕ) (w : WordAt) (sort : Sort) → Sure (judged p k w sort) (judged q k w sort)
judged_sure p q k w sorts.Plain = still _
judged_sure p q k w sorts.Text = still _
judged_sure p q k w sorts.Bytes = still _
judged_sure p q k w sorts.Unclosed = still _
judged_sure p q k w (sorts.Stray c) = still _
judged_sure p q k w (sorts.Remark c) = record { is = inr (missed (slice_get p (k - 1))) }

needed_missed : (p : List WordAt) (k : ℕ) → IsMissed (needed p k None)
needed_missed p k = missed (slice_get p (k - 1))

needed_sure : (p q : List WordAt) (k : ℕ) (o : Option WordAt) → Sure (needed p k o) (needed q k o)
needed_sure p q k None = record { is = inr (needed_missed p k) }
needed_sure p q k (Some w) = judged_sure p q k w w.sort

opening_missed : (p : List WordAt) → IsMissed (opened p None)
opening_missed p = missed (slice_get p 0)

opening_sure : (p q : List WordAt) (o : Option WordAt) → Sure (opened p o) (opened q o)
opening_sure p q None = record { is = inr (opening_missed p) }
opening_sure p q (Some w) = still _

nothing_sure : (o : Option WordAt) → o ≡ None → IsMild (nothing o)
nothing_sure o e = subst (λ (x : Option WordAt). IsMild (nothing x)) (sym e) tt

module _ (p a : List WordAt) where
  pub word_sure : (k : ℕ) → Sure (word_at p k) (word_at (p ++ a) k)
  unfolding word_at
  word_sure k = elim (there_or_not p a k) [
    | inl e ↦ subst (λ (o : Option WordAt). Sure (needed p k (slice_get p k)) (needed (p ++ a) k o)) (sym e) (needed_sure p (p ++ a) k (slice_get p k))
    | inr e ↦ record { is = inr (subst (λ (o : Option WordAt). IsMissed (needed p k o)) (sym e) (needed_missed p k)) }
  ]

  pub first_sure : Sure (first_at p) (first_at (p ++ a))
  unfolding first_at
  first_sure = elim (there_or_not p a 0) [
    | inl e ↦ subst (λ (o : Option WordAt). Sure (opened p (slice_get p 0)) (opened (p ++ a) o)) (sym e) (opening_sure p (p ++ a) (slice_get p 0))
    | inr e ↦ (let none : Sure (opened p None) (opened (p ++ a) (slice_get (p ++ a) 0)) = record { is = inr (opening_missed p) } in subst (λ (o : Option WordAt). Sure (opened p o) (opened (p ++ a) (slice_get (p ++ a) 0))) (sym e) none)
  ]

  pub end_goes : (k : ℕ) → Goes (end_at p k) (end_at (p ++ a) k)
  unfolding end_at
  end_goes k = elim (there_or_not p a k) [
    | inl e ↦ record { is = inl (ap nothing e) }
    | inr e ↦ record { is = inr (nothing_sure (slice_get p k) e) }
  ]

  -- the line's last word stood before, and its answer is known
  pub ends : {A : Type 0} (k : ℕ) (x y : A) → Goes (end_at p k >>= λ done. Ok x) (end_at (p ++ a) k >>= λ done. Ok y)
  ends k x y = map (end_at p k) (end_at (p ++ a) k) (λ done. x) (λ done. y) (end_goes k)

  pub stands_or_not : (k : ℕ) → (stands_at (p ++ a) k ≡ stands_at p k) ⊎ (stands_at p k ≡ Ok false)
  unfolding stands_at
  stands_or_not k = elim (there_or_not p a k) [
    | inl e ↦ inl (ap is_there e)
    | inr e ↦ inr (ap is_there e)
  ]

  pub stands_sure : (k : ℕ) → k < length p → Sure (stands_at p k) (stands_at (p ++ a) k)
  unfolding stands_at
  stands_sure k h = record { is = inl (ap is_there (within_first p a k h)) }

  -- ---- words of each sort

  pub number_sure : (low high k : ℕ) → Sure (number_at low high p k) (number_at low high (p ++ a) k)
  unfolding number_at
  number_sure low high k = by_word (word_at p k) (word_at (p ++ a) k) _ (word_sure k)

  pub guid_sure : (k : ℕ) → Sure (guid_at p k) (guid_at (p ++ a) k)
  unfolding guid_at
  guid_sure k = by_word (word_at p k) (word_at (p ++ a) k) _ (word_sure k)

  pub name_sure : (k : ℕ) → Sure (name_at p k) (name_at (p ++ a) k)
  unfolding name_at
  name_sure k = by_word (word_at p k) (word_at (p ++ a) k) _ (word_sure k)

  pub declared_sure : (names : List (List ℕ)) (k : ℕ) → Sure (declared_at names p k) (declared_at names (p ++ a) k)
  unfolding declared_at
  declared_sure names k = by_word (name_at p k) (name_at (p ++ a) k) _ (name_sure k)

  pub asked_sure : (names : List (List ℕ)) (low k : ℕ) → Sure (asked_at names low p k) (asked_at names low (p ++ a) k)
  unfolding asked_at
  asked_sure names low k = surely (word_at p k) (word_at (p ++ a) k) _ _ (word_sure k) (λ w. surely_either (opens_brace w.bytes) _ _ _ _
      (λ _. still _)
      (λ _. by_word (declared_at names p k) (declared_at names (p ++ a) k) _ (declared_sure names k)))

  pub register_sure : (k : ℕ) → Sure (register_at p k) (register_at (p ++ a) k)
  unfolding register_at
  register_sure k = by_word (word_at p k) (word_at (p ++ a) k) _ (word_sure k)

  pub slot_sure : (k : ℕ) → Sure (slot_at p k) (slot_at (p ++ a) k)
  unfolding slot_at
  slot_sure k = by_word (word_at p k) (word_at (p ++ a) k) _ (word_sure k)

  pub cell_sure : (cells : Bool) (k : ℕ) → Sure (cell_at cells p k) (cell_at cells (p ++ a) k)
  unfolding cell_at
  cell_sure cells k = by_word (word_at p k) (word_at (p ++ a) k) _ (word_sure k)

  pub buffer_sure : (k : ℕ) → Sure (buffer_at p k) (buffer_at (p ++ a) k)
  unfolding buffer_at
  buffer_sure k = by_word (word_at p k) (word_at (p ++ a) k) _ (word_sure k)

  pub place_sure : (links : Bool) (k : ℕ) → Sure (place_at links p k) (place_at links (p ++ a) k)
  unfolding place_at
  place_sure links k = by_word (word_at p k) (word_at (p ++ a) k) _ (word_sure k)

  pub op_sure : (k : ℕ) → Sure (op_at p k) (op_at (p ++ a) k)
  unfolding op_at
  op_sure k = by_word (word_at p k) (word_at (p ++ a) k) _ (word_sure k)

  pub code_sure : (k : ℕ) → Sure (code_at p k) (code_at (p ++ a) k)
  unfolding code_at
  code_sure k = by_word (word_at p k) (word_at (p ++ a) k) _ (word_sure k)

  pub mode_sure : (k : ℕ) → Sure (mode_at p k) (mode_at (p ++ a) k)
  unfolding mode_at
  mode_sure k = by_word (word_at p k) (word_at (p ++ a) k) _ (word_sure k)

  pub marshal_mode_sure : (k : ℕ) → Sure (marshal_mode_at p k) (marshal_mode_at (p ++ a) k)
  unfolding marshal_mode_at
  marshal_mode_sure k = by_word (word_at p k) (word_at (p ++ a) k) _ (word_sure k)

  given_sure : (k : ℕ) → k < length p → Sure (given_at p k) (given_at (p ++ a) k)
  unfolding given_at
  given_sure k h = surely (stands_at p k) (stands_at (p ++ a) k) _ _ (stands_sure k h) (λ there. surely_either there _ _ _ _
      (λ _. by_word (word_at p k) (word_at (p ++ a) k) _ (word_sure k))
      (λ _. still _))

  not_given : (k : ℕ) → length p ≤ k → given_at p k ≡ Ok gifts.Nothing
  unfolding given_at stands_at
  not_given k h = ap (λ (o : Option WordAt). is_there o >>= λ there. if there then (word_at p k >>= λ w. as_given w (operand_of w)) else Ok gifts.Nothing) (shorter p k h)

  -- a result that may be lacking, as the last word
  pub given_ends : {A : Type 0} (k : ℕ) (f : Given → A) → Goes (given_at p k >>= λ given. end_at p (k + 1) >>= λ done. Ok (f given)) (given_at (p ++ a) k >>= λ given. end_at (p ++ a) (k + 1) >>= λ done. Ok (f given))
  unfolding end_at
  given_ends k f = by (nat_le (length p) k) refl
    where
      over : length p ≤ k → IsMild (given_at p k >>= λ given. end_at p (k + 1) >>= λ done. Ok (f given))
      over h = subst (λ (r : Result Given Fault). IsMild (r >>= λ given. end_at p (k + 1) >>= λ done. Ok (f given))) (sym (not_given k h))
          (subst (λ (o : Option WordAt). IsMild (nothing o >>= λ done. Ok (f gifts.Nothing))) (sym (shorter p (k + 1) (omega arith))) tt)

      by : (b : Bool) → nat_le (length p) k ≡ b → Goes (given_at p k >>= λ given. end_at p (k + 1) >>= λ done. Ok (f given)) (given_at (p ++ a) k >>= λ given. end_at (p ++ a) (k + 1) >>= λ done. Ok (f given))
      by true e = record { is = inr (over (leb-true (length p) k e)) }
      by false e = bind (given_at p k) (given_at (p ++ a) k) _ _ (given_sure k (leb-false (length p) k e)) (λ given. ends (k + 1) (f given) (f given))
