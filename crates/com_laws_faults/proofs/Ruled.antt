-- Declarations, rules and statements in programs: each fault of a line is that of its words in front of the cut, or
-- stands behind it.
use Rattle.std.proofs.Common.{◌≡◌, ℕ, zero, suc, ◌+◌, ◌≤◌, ◌<◌, inr, Bool, true, false, Result, Ok, Err, ap, ◌∙◌, if◌then◌else◌, List, [], ◌∷◌, ◌++◌, length, drop, Option, Some, None, refl, arith, nat_le}
use Rattle.std.specs.Prelude.{is_some, bytes_eq, codes}
use Rattle.com_base.specs.declared.value.Kind.{Kind}
use Rattle.com_classes.specs.declared.interfaces.Method.{Method}
use Rattle.com_text.specs.Words.{WordAt}
use Rattle.com_read_operands.specs.Reading.{word_at, stands_at, end_at, number_at}
use Rattle.com_read_operands.specs.Naming.{name_at, declared_at}
use Rattle.com_read_statements.specs.declared.keywords.Program.{Program}
use Rattle.com_read_statements.specs.declared.keywords.Keyword.{Keyword}
use Rattle.com_read_statements.specs.declared.names.Names.{Names}
use Rattle.com_read_statements.specs.Keywords.{keyword_of, takes}
use Rattle.com_read_statements.specs.Statements.{stmt_of}
use Rattle.com_read_statements.specs.Calls.{method_position}
use Rattle.com_read_lines.specs.declared.rules.RuleWord.{RuleWord}
use Rattle.com_read_lines.specs.declared.rules.RuleWord.TheVariants as rule_words
use Rattle.com_read_lines.specs.Codes.{CodeAt, code_more}
use Rattle.com_read_lines.specs.Declaring.{listed_item, listed_on, listed_at, pick_at, picks_on}
use Rattle.com_read_lines.specs.Methods.{type_word_of, type_by, type_at, item_at, signature_on, method_of}
use Rattle.com_read_lines.specs.Rules.{call_type_at, verdict_at, refusal_at, answer_at, kept_at, rule_of}
use Rattle.com_read_lines.specs.Programs.{spot_at, stated, allowed, program_line}
use Rattle.com_read_operands.specs.declared.faults.Fault.{Fault}
use Rattle.com_read_operands.specs.Reading.{◌>>=◌, fault_at}
use Rattle.com_laws_faults.proofs.Out.{IsFrom, Cut, Outside, Reads, Told, okay, wrong, part, followed, also, fixed, settled, branch, fork, sooner, made, next, regrouped}
use Rattle.com_laws_faults.proofs.At.{word_reads, word_from, word_then, stands_reads, end_reads, number_reads, name_reads, name_from, declared_reads, call_type_reads, verdict_reads, refusal_reads, answer_reads, kept_reads}
use Rattle.com_laws_faults.proofs.Told.{ends, stmt_told}

dropped_next : {A : Type 0} (p : List A) (k : ℕ) (v : A) (vs : List A) → drop k p ≡ v ∷ vs → (drop (k + 1) p ≡ vs) × (k < length p)
dropped_next [] zero v vs e = absurd cc
dropped_next [] (suc k) v vs e = absurd cc
dropped_next (y ∷ ys) zero v vs e = (cc, omega arith)
dropped_next (y ∷ ys) (suc k) v vs e =
    let h = dropped_next ys k v vs e in
    let n : suc k + 1 ≡ suc (k + 1) = omega arith in
    let l : k < length ys = h.1 in
    (ap (λ (m : ℕ). drop m (y ∷ ys)) n ∙ h.0, omega arith)

dropped_none : {A : Type 0} (p : List A) (k : ℕ) → drop k p ≡ [] → length p ≤ k
dropped_none [] k e = omega arith
dropped_none (y ∷ ys) zero e = absurd cc
dropped_none (y ∷ ys) (suc k) e = let h : length ys ≤ k = dropped_none ys k e in omega arith

given : {A : Type 0} (x : Cut) (k : ℕ) (r : Result A Fault) (y : A) → Told x k r (Ok y)
given x k r y = record { told = λ f e. absurd cc; late = λ l. okay x y }

-- what is read behind the cut alone
beyond : {A : Type 0} (x : Cut) (k : ℕ) (r s : Result A Fault) → Outside x s → Told x k r s
beyond x k r s h = record { told = λ f e. inr (h.of f e); late = λ l. h }

module _ (x : Cut) where
  -- ---- lists

  item_reads : (names : List (List ℕ)) (count k : ℕ) → Reads x k (listed_item names count x.p k) (listed_item names count (x.p ++ x.a) k)
  unfolding listed_item
  item_reads names count k = also x k (stands_at x.p k) (stands_at (x.p ++ x.a) k) _ _ (stands_reads x k) (λ there _.
      also x k (declared_at names x.p k) (declared_at names (x.p ++ x.a) k) _ _ (declared_reads x names k) (λ n _. fork x k (nat_le 16 count) _ _ _ _
      (word_then x k _ (λ w h. wrong x 12 w h))
      (fixed x k _ (λ l. okay x n))))

  listed_out : (names : List (List ℕ)) (done : List ℕ) (k : ℕ) (ws : List WordAt) → length x.p ≤ k → Outside x (listed_on names done (x.p ++ x.a) k ws)
  listed_out names done k [] l = okay x done
  listed_out names done k (w ∷ ws) l = followed x (listed_item names (length done) (x.p ++ x.a) k) _ ((item_reads names (length done) k).late l) (λ n _. listed_out names (done ++ n ∷ []) (k + 1) ws (omega arith))

  listed_told : (names : List (List ℕ)) (done : List ℕ) (k : ℕ) (vs ws : List WordAt) → drop k x.p ≡ vs → Told x k (listed_on names done x.p k vs) (listed_on names done (x.p ++ x.a) k ws)
  listed_told names done k vs [] e = given x k _ done
  listed_told names done k [] (w ∷ ws) e = beyond x k _ _ (listed_out names done k (w ∷ ws) (dropped_none x.p k e))
  listed_told names done k (v ∷ vs) (w ∷ ws) e = next x k k (listed_item names (length done) x.p k) (listed_item names (length done) (x.p ++ x.a) k) _ _ (omega arith) (item_reads names (length done) k) (λ n _.
      sooner x k (k + 1) _ _ (omega arith) (listed_told names (done ++ n ∷ []) (k + 1) vs ws (dropped_next x.p k v vs e).0))

  pub list_told : (names : List (List ℕ)) → Told x 3 (listed_at names x.p) (listed_at names (x.p ++ x.a))
  unfolding listed_at
  list_told names = next x 3 4 (word_at x.p 4) (word_at (x.p ++ x.a) 4) _ _ (omega arith) (word_reads x 4) (λ w _. listed_told names [] 4 (drop 4 x.p) (drop 4 (x.p ++ x.a)) refl)

  pick_reads : (k : ℕ) → Reads x k (pick_at x.p k) (pick_at (x.p ++ x.a) k)
  unfolding pick_at
  pick_reads k = also x k (stands_at x.p k) (stands_at (x.p ++ x.a) k) _ _ (stands_reads x k) (λ there _. number_reads x 0 4294967295 k)

  picks_out : (done : List ℕ) (k : ℕ) (ws : List WordAt) → length x.p ≤ k → Outside x (picks_on done (x.p ++ x.a) k ws)
  picks_out done k [] l = okay x done
  picks_out done k (w ∷ ws) l = followed x (pick_at (x.p ++ x.a) k) _ ((pick_reads k).late l) (λ n _. picks_out (done ++ n ∷ []) (k + 1) ws (omega arith))

  picks_told : (done : List ℕ) (k : ℕ) (vs ws : List WordAt) → drop k x.p ≡ vs → Told x k (picks_on done x.p k vs) (picks_on done (x.p ++ x.a) k ws)
  picks_told done k vs [] e = given x k _ done
  picks_told done k [] (w ∷ ws) e = beyond x k _ _ (picks_out done k (w ∷ ws) (dropped_none x.p k e))
  picks_told done k (v ∷ vs) (w ∷ ws) e = next x k k (pick_at x.p k) (pick_at (x.p ++ x.a) k) _ _ (omega arith) (pick_reads k) (λ n _.
      sooner x k (k + 1) _ _ (omega arith) (picks_told (done ++ n ∷ []) (k + 1) vs ws (dropped_next x.p k v vs e).0))

  pub picks_all_told : Told x 0 (picks_on [] x.p 1 (drop 1 x.p)) (picks_on [] (x.p ++ x.a) 1 (drop 1 (x.p ++ x.a)))
  picks_all_told = sooner x 0 1 _ _ (omega arith) (picks_told [] 1 (drop 1 x.p) (drop 1 (x.p ++ x.a)) refl)

  -- ---- methods

  type_by_reads : (names : List (List ℕ)) (k : ℕ) (o : Option Kind) → Reads x k (type_by names x.p k o) (type_by names (x.p ++ x.a) k o)
  type_by_reads names k (Some kind) = fixed x k _ (λ l. okay x kind)
  type_by_reads names k None = also x k (declared_at names x.p k) (declared_at names (x.p ++ x.a) k) _ _ (declared_reads x names k) (λ n _. fixed x k _ (λ l. okay x _))

  type_reads : (names : List (List ℕ)) (k : ℕ) → Reads x k (type_at names x.p k) (type_at names (x.p ++ x.a) k)
  unfolding type_at
  type_reads names k = also x k (word_at x.p k) (word_at (x.p ++ x.a) k) _ _ (word_reads x k) (λ w _. type_by_reads names k (type_word_of w.bytes))

  item_out : (names : List (List ℕ)) (count k : ℕ) → length x.p ≤ k → Outside x (item_at names count (x.p ++ x.a) k)
  unfolding item_at
  item_out names count k l = followed x (stands_at (x.p ++ x.a) k) _ ((stands_reads x k).late l) (λ there _.
      followed x (word_at (x.p ++ x.a) k) _ ((word_reads x k).late l) (λ w e. part x (bytes_eq w.bytes (codes "->")) _ _
      (followed x (type_at names (x.p ++ x.a) (k + 1)) _ ((type_reads names (k + 1)).late (omega arith)) (λ kind _. followed x (end_at (x.p ++ x.a) (k + 2)) _ ((end_reads x (k + 2)).late (omega arith)) (λ d _. okay x _)))
      (followed x (type_at names (x.p ++ x.a) k) _ ((type_reads names k).late l) (λ kind _. part x (nat_le 4 count) _ _ (wrong x 12 w (word_from x k w l e)) (okay x _)))))

  signature_out : (names : List (List ℕ)) (done : List Kind) (k : ℕ) (ws : List WordAt) → length x.p ≤ k → Outside x (signature_on names done (x.p ++ x.a) k ws)
  signature_out names done k [] l = okay x _
  signature_out names done k (w ∷ ws) l = followed x (item_at names (length done) (x.p ++ x.a) k) _ (item_out names (length done) k l) (λ item _. part x item.last _ _ (okay x _) (signature_out names (done ++ item.kind ∷ []) (k + 1) ws (omega arith)))

  branch_then : {A B : Type 0} (k : ℕ) (b : Bool) (r s t u : Result A Fault) (g g' : A → Result B Fault) → Told x k (r >>= g) (t >>= g') → Told x k (s >>= g) (u >>= g') → Told x k ((if b then r else s) >>= g) ((if b then t else u) >>= g')
  branch_then k true r s t u g g' h l = h
  branch_then k false r s t u g g' h l = l

  signature_told : (names : List (List ℕ)) (done : List Kind) (k : ℕ) (vs ws : List WordAt) → drop k x.p ≡ vs → Told x k (signature_on names done x.p k vs) (signature_on names done (x.p ++ x.a) k ws)
  unfolding item_at
  signature_told names done k vs [] e = given x k _ _
  signature_told names done k [] (w ∷ ws) e = beyond x k _ _ (signature_out names done k (w ∷ ws) (dropped_none x.p k e))
  signature_told names done k (v ∷ vs) (w ∷ ws) e =
      regrouped x k (stands_at x.p k) (stands_at (x.p ++ x.a) k) _ _ _ _ (next x k k (stands_at x.p k) (stands_at (x.p ++ x.a) k) _ _ (omega arith) (stands_reads x k) (λ there _.
      regrouped x k (word_at x.p k) (word_at (x.p ++ x.a) k) _ _ _ _ (next x k k (word_at x.p k) (word_at (x.p ++ x.a) k) _ _ (omega arith) (word_reads x k) (λ u c. branch_then k (bytes_eq u.bytes (codes "->")) _ _ _ _ _ _
      (regrouped x k (type_at names x.p (k + 1)) (type_at names (x.p ++ x.a) (k + 1)) _ _ _ _ (next x k (k + 1) (type_at names x.p (k + 1)) (type_at names (x.p ++ x.a) (k + 1)) _ _ (omega arith) (type_reads names (k + 1)) (λ kind _.
      regrouped x (k + 1) (end_at x.p (k + 2)) (end_at (x.p ++ x.a) (k + 2)) _ _ _ _ (next x (k + 1) (k + 2) (end_at x.p (k + 2)) (end_at (x.p ++ x.a) (k + 2)) _ _ (omega arith) (end_reads x (k + 2)) (λ d _. given x (k + 2) _ _)))))
      (regrouped x k (type_at names x.p k) (type_at names (x.p ++ x.a) k) _ _ _ _ (next x k k (type_at names x.p k) (type_at names (x.p ++ x.a) k) _ _ (omega arith) (type_reads names k) (λ kind _. branch_then k (nat_le 4 (length done)) _ _ _ _ _ _
      (settled x k (Err (fault_at 12 u)) (λ l. wrong x 12 u (word_from x k u l c)))
      (sooner x k (k + 1) _ _ (omega arith) (signature_told names (done ++ kind ∷ []) (k + 1) vs ws (dropped_next x.p k v vs e).0)))))))))

  pub method_told : (names : List (List ℕ)) (methods : List Method) → Told x 0 (method_of names methods x.p) (method_of names methods (x.p ++ x.a))
  unfolding method_of
  method_told names methods = next x 0 1 (name_at x.p 1) (name_at (x.p ++ x.a) 1) _ _ (omega arith) (name_reads x 1) (λ w e. branch x 1 (is_some (method_position methods w.bytes)) _ _ _ _
      (settled x 1 (Err (fault_at 9 w)) (λ l. wrong x 9 w (name_from x 1 w l e)))
      (made x 1 (signature_on names [] x.p 2 (drop 2 x.p)) (signature_on names [] (x.p ++ x.a) 2 (drop 2 (x.p ++ x.a))) _ _ (sooner x 1 2 _ _ (omega arith) (signature_told names [] 2 (drop 2 x.p) (drop 2 (x.p ++ x.a)) refl))))

  -- ---- rules

  pub rule_told : (k : RuleWord) → Told x 0 (rule_of k x.p) (rule_of k (x.p ++ x.a))
  unfolding rule_of
  rule_told rule_words.Incoming =
      next x 0 1 (call_type_at x.p 1) (call_type_at (x.p ++ x.a) 1) _ _ (omega arith) (call_type_reads x 1) (λ call_type _.
      next x 1 2 (number_at 0 2147483647 x.p 2) (number_at 0 2147483647 (x.p ++ x.a) 2) _ _ (omega arith) (number_reads x 0 2147483647 2) (λ ms _.
      next x 2 3 (verdict_at x.p 3) (verdict_at (x.p ++ x.a) 3) _ _ (omega arith) (verdict_reads x 3) (λ verdict _. ends x 3 4 _ _ (omega arith))))
  rule_told rule_words.Retry =
      next x 0 1 (refusal_at x.p 1) (refusal_at (x.p ++ x.a) 1) _ _ (omega arith) (refusal_reads x 1) (λ verdict _.
      next x 1 2 (number_at 0 2147483647 x.p 2) (number_at 0 2147483647 (x.p ++ x.a) 2) _ _ (omega arith) (number_reads x 0 2147483647 2) (λ ms _.
      next x 2 3 (answer_at x.p 3) (answer_at (x.p ++ x.a) 3) _ _ (omega arith) (answer_reads x 3) (λ answer _. ends x 3 4 _ _ (omega arith))))
  rule_told rule_words.Pending =
      next x 0 1 (number_at 0 2147483647 x.p 1) (number_at 0 2147483647 (x.p ++ x.a) 1) _ _ (omega arith) (number_reads x 0 2147483647 1) (λ ms _.
      next x 1 2 (kept_at x.p 2) (kept_at (x.p ++ x.a) 2) _ _ (omega arith) (kept_reads x 2) (λ answer _. ends x 2 3 _ _ (omega arith)))

  -- ---- programs

  stated_told : (pr : Program) (limit : ℕ) (names : Names) (code : CodeAt) (w : WordAt) (k : Keyword) → (length x.p ≤ 0 → IsFrom x.line x.column w) → Told x 0 (stated pr limit names code w x.p k) (stated pr limit names code w (x.p ++ x.a) k)
  stated_told pr limit names code w k h = branch x 0 (nat_le limit (length code.statements)) _ _ _ _
      (settled x 0 (Err (fault_at 12 w)) (λ l. wrong x 12 w (h l)))
      (made x 0 (stmt_of pr names k x.p) (stmt_of pr names k (x.p ++ x.a)) (λ s. code_more code s (spot_at k x.p)) (λ s. code_more code s (spot_at k (x.p ++ x.a))) (stmt_told x pr names k))

  allowed_told : (pr : Program) (limit : ℕ) (names : Names) (code : CodeAt) (w : WordAt) (o : Option Keyword) → (length x.p ≤ 0 → IsFrom x.line x.column w) → Told x 0 (allowed pr limit names code w x.p o) (allowed pr limit names code w (x.p ++ x.a) o)
  allowed_told pr limit names code w None h = settled x 0 (Err (fault_at 3 w)) (λ l. wrong x 3 w (h l))
  allowed_told pr limit names code w (Some k) h = branch x 0 (takes pr k) _ _ _ _ (stated_told pr limit names code w k h) (settled x 0 (Err (fault_at 3 w)) (λ l. wrong x 3 w (h l)))

  pub program_told : (pr : Program) (limit : ℕ) (names : Names) (code : CodeAt) (w : WordAt) → (length x.p ≤ 0 → IsFrom x.line x.column w) → Told x 0 (program_line pr limit names code w x.p) (program_line pr limit names code w (x.p ++ x.a))
  unfolding program_line
  program_told pr limit names code w h = allowed_told pr limit names code w (keyword_of w.bytes) h
