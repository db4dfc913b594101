-- Declarations, rules and statements in programs: what a line's first words say goes on to be said of it.
use Rattle.std.proofs.Common.{◌≡◌, ℕ, zero, suc, ◌+◌, ◌≤◌, ◌<◌, ◌⊎◌, inl, inr, List, [], ◌∷◌, ◌++◌, length, drop, Option, Some, None, refl, sym, subst, arith, nat_le}
use Rattle.std.specs.Prelude.{is_some, bytes_eq, codes}
use Rattle.com_base.specs.declared.guid.Guid.{Guid}
use Rattle.com_base.specs.declared.value.Kind.{Kind}
use Rattle.com_classes.specs.declared.classes.ThreadingModel.{ThreadingModel}
use Rattle.com_classes.specs.declared.interfaces.Method.{Method}
use Rattle.com_text.specs.Words.{WordAt}
use Rattle.com_read_operands.specs.Reading.{word_at, stands_at, end_at, number_at}
use Rattle.com_read_operands.specs.Literals.{guid_at}
use Rattle.com_read_operands.specs.Naming.{name_at, declared_at}
use Rattle.com_read_statements.specs.declared.keywords.Program.{Program}
use Rattle.com_read_statements.specs.declared.keywords.Keyword.{Keyword}
use Rattle.com_read_statements.specs.declared.names.Names.{Names}
use Rattle.com_read_statements.specs.Keywords.{keyword_of, takes}
use Rattle.com_read_statements.specs.Statements.{stmt_of}
use Rattle.com_read_statements.specs.Calls.{method_position}
use Rattle.com_read_lines.specs.declared.rules.RuleWord.{RuleWord}
use Rattle.com_read_lines.specs.declared.rules.RuleWord.TheVariants as rule_words
use Rattle.com_read_lines.specs.Codes.{CodeAt, code_more}
use Rattle.com_read_lines.specs.Tables.{has_guid}
use Rattle.com_read_lines.specs.Declaring.{free_guid_at, free_name_at, interface_name_at, filter_name_at, model_at, native_at, listed_item, listed_on, listed_at, pick_at, picks_on}
use Rattle.com_read_lines.specs.Methods.{type_word_of, type_by, type_at, item_at, signature_on, method_of}
use Rattle.com_read_lines.specs.Rules.{call_type_at, verdict_at, refusal_at, answer_at, kept_at, rule_of}
use Rattle.com_read_lines.specs.Programs.{spot_at, stated, allowed, program_line}
use Rattle.com_laws_faults.proofs.Goes.{Sure, Goes, still, stays, fine, bind, surely, by_word, map, either, surely_either, inside, ended_then, either_then}
use Rattle.com_laws_faults.proofs.Words.{word_sure, end_goes, ends, stands_sure, number_sure, guid_sure, name_sure, declared_sure}
use Rattle.com_laws_faults.proofs.Statements.{stmt_goes}

-- what is left of a line from an index on: nothing, or the same in the whole line and more
dropped : (p a : List WordAt) (k : ℕ) → (drop k p ≡ []) ⊎ ((drop k (p ++ a) ≡ drop k p ++ a) × (k + length (drop k p) ≤ length p))
dropped [] a zero = inl refl
dropped [] a (suc k) = inl refl
dropped (x ∷ xs) a zero = inr (refl, omega arith)
dropped (x ∷ xs) a (suc k) = elim (dropped xs a k) [
  | inl e ↦ inl e
  | inr h ↦ (let l : k + length (drop k xs) ≤ length xs = h.1 in inr (h.0, omega arith))
]

module _ (p a : List WordAt) where
  -- ---- declarations

  pub free_guid_sure : (guids : List Guid) (k : ℕ) → Sure (free_guid_at guids p k) (free_guid_at guids (p ++ a) k)
  unfolding free_guid_at
  free_guid_sure guids k = surely (guid_at p k) (guid_at (p ++ a) k) _ _ (guid_sure p a k) (λ g. surely_either (has_guid guids g) _ _ _ _
      (λ _. by_word (word_at p k) (word_at (p ++ a) k) _ (word_sure p a k))
      (λ _. still _))

  pub free_name_sure : (names : List (List ℕ)) (k : ℕ) → Sure (free_name_at names p k) (free_name_at names (p ++ a) k)
  unfolding free_name_at
  free_name_sure names k = by_word (name_at p k) (name_at (p ++ a) k) _ (name_sure p a k)

  pub interface_name_sure : (names : List (List ℕ)) → Sure (interface_name_at names p) (interface_name_at names (p ++ a))
  unfolding interface_name_at
  interface_name_sure names = surely (name_at p 1) (name_at (p ++ a) 1) _ _ (name_sure p a 1) (λ w. surely_either (is_some (type_word_of w.bytes)) _ _ _ _
      (λ _. still _)
      (λ _. free_name_sure names 1))

  pub filter_name_sure : (names : List (List ℕ)) → Sure (filter_name_at names p) (filter_name_at names (p ++ a))
  unfolding filter_name_at
  filter_name_sure names = surely (name_at p 1) (name_at (p ++ a) 1) _ _ (name_sure p a 1) (λ w. surely_either (bytes_eq w.bytes (codes "none")) _ _ _ _
      (λ _. still _)
      (λ _. free_name_sure names 1))

  pub model_sure : (k : ℕ) → Sure (model_at p k) (model_at (p ++ a) k)
  unfolding model_at
  model_sure k = by_word (word_at p k) (word_at (p ++ a) k) _ (word_sure p a k)

  pub native_sure : (model : ThreadingModel) (k : ℕ) → Sure (native_at model p k) (native_at model (p ++ a) k)
  unfolding native_at
  native_sure model k = by_word (word_at p k) (word_at (p ++ a) k) _ (word_sure p a k)

  listed_item_sure : (names : List (List ℕ)) (count k : ℕ) → k < length p → Sure (listed_item names count p k) (listed_item names count (p ++ a) k)
  unfolding listed_item
  listed_item_sure names count k h = surely (stands_at p k) (stands_at (p ++ a) k) _ _ (stands_sure p a k h) (λ there.
      surely (declared_at names p k) (declared_at names (p ++ a) k) _ _ (declared_sure p a names k) (λ n. surely_either (nat_le 16 count) _ _ _ _
      (λ _. by_word (word_at p k) (word_at (p ++ a) k) _ (word_sure p a k))
      (λ _. still _)))

  listed_goes : (names : List (List ℕ)) (done : List ℕ) (k : ℕ) (vs : List WordAt) → k + length vs ≤ length p → Goes (listed_on names done p k vs) (listed_on names done (p ++ a) k (vs ++ a))
  listed_goes names done k [] h = fine done _
  listed_goes names done k (v ∷ vs) h = bind (listed_item names (length done) p k) (listed_item names (length done) (p ++ a) k) _ _ (listed_item_sure names (length done) k (omega arith))
      (λ n. listed_goes names (done ++ n ∷ []) (k + 1) vs (omega arith))

  listed_rest : (names : List (List ℕ)) (k : ℕ) → Goes (listed_on names [] p k (drop k p)) (listed_on names [] (p ++ a) k (drop k (p ++ a)))
  listed_rest names k = elim (dropped p a k) [
    | inl e ↦ subst (λ (vs : List WordAt). Goes (listed_on names [] p k vs) (listed_on names [] (p ++ a) k (drop k (p ++ a)))) (sym e) (fine [] _)
    | inr h ↦ subst (λ (vs : List WordAt). Goes (listed_on names [] p k (drop k p)) (listed_on names [] (p ++ a) k vs)) (sym h.0) (listed_goes names [] k (drop k p) h.1)
  ]

  pub list_goes : (names : List (List ℕ)) → Goes (listed_at names p) (listed_at names (p ++ a))
  unfolding listed_at
  list_goes names = bind (word_at p 4) (word_at (p ++ a) 4) _ _ (word_sure p a 4) (λ w. listed_rest names 4)

  pick_sure : (k : ℕ) → k < length p → Sure (pick_at p k) (pick_at (p ++ a) k)
  unfolding pick_at
  pick_sure k h = surely (stands_at p k) (stands_at (p ++ a) k) _ _ (stands_sure p a k h) (λ there. number_sure p a 0 4294967295 k)

  picks_goes : (done : List ℕ) (k : ℕ) (vs : List WordAt) → k + length vs ≤ length p → Goes (picks_on done p k vs) (picks_on done (p ++ a) k (vs ++ a))
  picks_goes done k [] h = fine done _
  picks_goes done k (v ∷ vs) h = bind (pick_at p k) (pick_at (p ++ a) k) _ _ (pick_sure k (omega arith)) (λ n. picks_goes (done ++ n ∷ []) (k + 1) vs (omega arith))

  pub picks_rest : (k : ℕ) → Goes (picks_on [] p k (drop k p)) (picks_on [] (p ++ a) k (drop k (p ++ a)))
  picks_rest k = elim (dropped p a k) [
    | inl e ↦ subst (λ (vs : List WordAt). Goes (picks_on [] p k vs) (picks_on [] (p ++ a) k (drop k (p ++ a)))) (sym e) (fine [] _)
    | inr h ↦ subst (λ (vs : List WordAt). Goes (picks_on [] p k (drop k p)) (picks_on [] (p ++ a) k vs)) (sym h.0) (picks_goes [] k (drop k p) h.1)
  ]

  -- ---- methods

  type_by_sure : (names : List (List ℕ)) (k : ℕ) (o : Option Kind) → Sure (type_by names p k o) (type_by names (p ++ a) k o)
  type_by_sure names k (Some kind) = still _
  type_by_sure names k None = by_word (declared_at names p k) (declared_at names (p ++ a) k) _ (declared_sure p a names k)

  type_sure : (names : List (List ℕ)) (k : ℕ) → Sure (type_at names p k) (type_at names (p ++ a) k)
  unfolding type_at
  type_sure names k = surely (word_at p k) (word_at (p ++ a) k) _ _ (word_sure p a k) (λ w. type_by_sure names k (type_word_of w.bytes))

  signature_goes : (names : List (List ℕ)) (done : List Kind) (k : ℕ) (vs : List WordAt) → k + length vs ≤ length p → Goes (signature_on names done p k vs) (signature_on names done (p ++ a) k (vs ++ a))
  unfolding item_at
  signature_goes names done k [] h = fine _ _
  signature_goes names done k (v ∷ vs) h = inside (stands_at p k) (stands_at (p ++ a) k) _ _ _ _ (stands_sure p a k (omega arith)) (λ there.
      inside (word_at p k) (word_at (p ++ a) k) _ _ _ _ (word_sure p a k) (λ w. either_then (bytes_eq w.bytes (codes "->")) _ _ _ _ _ _
      (λ _. inside (type_at names p (k + 1)) (type_at names (p ++ a) (k + 1)) _ _ _ _ (type_sure names (k + 1)) (λ kind.
      ended_then (end_at p (k + 2)) (end_at (p ++ a) (k + 2)) _ _ _ (end_goes p a (k + 2)) tt))
      (λ _. inside (type_at names p k) (type_at names (p ++ a) k) _ _ _ _ (type_sure names k) (λ kind. either_then (nat_le 4 (length done)) _ _ _ _ _ _
      (λ _. stays _)
      (λ _. signature_goes names (done ++ kind ∷ []) (k + 1) vs (omega arith))))))

  signature_rest : (names : List (List ℕ)) (k : ℕ) → Goes (signature_on names [] p k (drop k p)) (signature_on names [] (p ++ a) k (drop k (p ++ a)))
  signature_rest names k = elim (dropped p a k) [
    | inl e ↦ subst (λ (vs : List WordAt). Goes (signature_on names [] p k vs) (signature_on names [] (p ++ a) k (drop k (p ++ a)))) (sym e) (fine _ _)
    | inr h ↦ subst (λ (vs : List WordAt). Goes (signature_on names [] p k (drop k p)) (signature_on names [] (p ++ a) k vs)) (sym h.0) (signature_goes names [] k (drop k p) h.1)
  ]

  pub method_goes : (names : List (List ℕ)) (methods : List Method) → Goes (method_of names methods p) (method_of names methods (p ++ a))
  unfolding method_of
  method_goes names methods = bind (name_at p 1) (name_at (p ++ a) 1) _ _ (name_sure p a 1) (λ w. either (is_some (method_position methods w.bytes)) _ _ _ _
      (λ _. stays _)
      (λ _. map (signature_on names [] p 2 (drop 2 p)) (signature_on names [] (p ++ a) 2 (drop 2 (p ++ a))) _ _ (signature_rest names 2)))

  -- ---- rules

  call_type_sure : (k : ℕ) → Sure (call_type_at p k) (call_type_at (p ++ a) k)
  unfolding call_type_at
  call_type_sure k = by_word (word_at p k) (word_at (p ++ a) k) _ (word_sure p a k)

  verdict_sure : (k : ℕ) → Sure (verdict_at p k) (verdict_at (p ++ a) k)
  unfolding verdict_at
  verdict_sure k = by_word (word_at p k) (word_at (p ++ a) k) _ (word_sure p a k)

  refusal_sure : (k : ℕ) → Sure (refusal_at p k) (refusal_at (p ++ a) k)
  unfolding refusal_at
  refusal_sure k = by_word (word_at p k) (word_at (p ++ a) k) _ (word_sure p a k)

  answer_sure : (k : ℕ) → Sure (answer_at p k) (answer_at (p ++ a) k)
  unfolding answer_at
  answer_sure k = by_word (word_at p k) (word_at (p ++ a) k) _ (word_sure p a k)

  kept_sure : (k : ℕ) → Sure (kept_at p k) (kept_at (p ++ a) k)
  unfolding kept_at
  kept_sure k = by_word (word_at p k) (word_at (p ++ a) k) _ (word_sure p a k)

  pub rule_goes : (k : RuleWord) → Goes (rule_of k p) (rule_of k (p ++ a))
  unfolding rule_of
  rule_goes rule_words.Incoming =
      bind (call_type_at p 1) (call_type_at (p ++ a) 1) _ _ (call_type_sure 1) (λ call_type.
      bind (number_at 0 2147483647 p 2) (number_at 0 2147483647 (p ++ a) 2) _ _ (number_sure p a 0 2147483647 2) (λ ms.
      bind (verdict_at p 3) (verdict_at (p ++ a) 3) _ _ (verdict_sure 3) (λ verdict. ends p a 4 _ _)))
  rule_goes rule_words.Retry =
      bind (refusal_at p 1) (refusal_at (p ++ a) 1) _ _ (refusal_sure 1) (λ verdict.
      bind (number_at 0 2147483647 p 2) (number_at 0 2147483647 (p ++ a) 2) _ _ (number_sure p a 0 2147483647 2) (λ ms.
      bind (answer_at p 3) (answer_at (p ++ a) 3) _ _ (answer_sure 3) (λ answer. ends p a 4 _ _)))
  rule_goes rule_words.Pending =
      bind (number_at 0 2147483647 p 1) (number_at 0 2147483647 (p ++ a) 1) _ _ (number_sure p a 0 2147483647 1) (λ ms.
      bind (kept_at p 2) (kept_at (p ++ a) 2) _ _ (kept_sure 2) (λ answer. ends p a 3 _ _))

  -- ---- programs

  stated_goes : (pr : Program) (limit : ℕ) (names : Names) (code : CodeAt) (w : WordAt) (k : Keyword) → Goes (stated pr limit names code w p k) (stated pr limit names code w (p ++ a) k)
  stated_goes pr limit names code w k = either (nat_le limit (length code.statements)) _ _ _ _
      (λ _. stays _)
      (λ _. map (stmt_of pr names k p) (stmt_of pr names k (p ++ a)) (λ s. code_more code s (spot_at k p)) (λ s. code_more code s (spot_at k (p ++ a))) (stmt_goes p a pr names k))

  allowed_goes : (pr : Program) (limit : ℕ) (names : Names) (code : CodeAt) (w : WordAt) (o : Option Keyword) → Goes (allowed pr limit names code w p o) (allowed pr limit names code w (p ++ a) o)
  allowed_goes pr limit names code w None = stays _
  allowed_goes pr limit names code w (Some k) = either (takes pr k) _ _ _ _ (λ _. stated_goes pr limit names code w k) (λ _. stays _)

  pub program_goes : (pr : Program) (limit : ℕ) (names : Names) (code : CodeAt) (w : WordAt) → Goes (program_line pr limit names code w p) (program_line pr limit names code w (p ++ a))
  unfolding program_line
  program_goes pr limit names code w = allowed_goes pr limit names code w (keyword_of w.bytes)
