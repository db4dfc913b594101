-- The text and the report of a legal history are cut into its own lines and those of its report.
use Rattle.std.proofs.Common.{ap, ap₂, sym, arith, ◌∙◌, inl, inr, append_assoc}
use Rattle.std.proofs.lemmas.Grind.{common_steps}
use Rattle.std.specs.Prelude.{◌≡◌, refl, ℕ, ◌+◌, Bool, true, false, cond, not, ◌==◌, ◌&&◌, ◌||◌, List, [], ◌∷◌, ◌++◌, length, Option, Some, None, is_some, codes, decimal}
use Rattle.com_model.specs.declared.counts.Counts.{Counts}
use Rattle.com_model.specs.declared.counts.Ended.{Ended}
use Rattle.com_model.specs.declared.counts.Ended.TheVariants as ended
use Rattle.com_model.specs.declared.deeds.Entry.{Entry}
use Rattle.com_model.specs.declared.scenario.Scenario.{Scenario}
use Rattle.com_model.specs.Clock.{clock}
use Rattle.com_model.specs.Ends.{all_counts, ended_as, report, report_as, text}
use Rattle.com_model.specs.Text.{history_text, object_lines, ended_text, report_text}
use Rattle.com_model.specs.Safe.{EachEntry}
use Rattle.com_check.specs.Lines.{lines_of, onto}
use Rattle.com_check.specs.Judging.{IsUpToEnd, entry_line, history_lines, report_lines}
use Rattle.com_laws_lines.specs.Breaks.{no_break, HasWholeLine}

-- ---- one line

onto-line : (b : ℕ) (t : Bool) (bs : List ℕ) (ls ms : List (List ℕ)) → t ≡ false → ls ≡ bs ∷ ms → cond t ([] ∷ ls) (onto b ls) ≡ (b ∷ bs) ∷ ms
onto-line b true bs ls ms p e = cc
onto-line b false bs ls ms p e = ap (onto b) e

plain-first : (b : ℕ) (t : Bool) (bs : List ℕ) → (not t && no_break bs) ≡ true → (t ≡ false) × (no_break bs ≡ true)
plain-first b true bs p = cc
plain-first b false bs p = (refl, p)

-- What has no break is a line, where a break stands behind it.
cut-line : (line w : List ℕ) → no_break line ≡ true → lines_of (line ++ 10 ∷ w) ≡ line ∷ lines_of w
unfolding lines_of
cut-line [] w p = refl
cut-line (b ∷ bs) w p =
    let z : ((b == 10) ≡ false) × (no_break bs ≡ true) = plain-first b (b == 10) bs p in
    onto-line b (b == 10) bs (lines_of (bs ++ 10 ∷ w)) (lines_of w) z.0 (cut-line bs w z.1)

-- ---- a history

pub history-cut : (s : Scenario) (h : List Entry) (w : List ℕ) → EachEntry (HasWholeLine s) h → lines_of (history_text s.version h ++ w) ≡ history_lines s.version h ++ lines_of w
unfolding history_lines entry_line
history-cut s [] w p = refl
history-cut s (e ∷ h) w p =
    let line : List ℕ = entry_line s.version (length h + 1) e in
    let older : List ℕ = history_text s.version h in
    ap lines_of (append_assoc older (line ++ codes "\n") w)
    ∙ history-cut s h ((line ++ codes "\n") ++ w) p.0
    ∙ ap (λ (x : List (List ℕ)). history_lines s.version h ++ x) (ap lines_of (append_assoc line (codes "\n") w) ∙ cut-line line w p.1)
    ∙ sym (append_assoc (history_lines s.version h) (line ∷ []) (lines_of w))

-- ---- the end of a report

-- The last letter of a report: that of "ok" and "stuck", or of "budget".
abbrev pub is_last : ℕ → Bool
is_last b = b == 107 || b == 116

-- A text that ends with the last letter of a report, and a break.
pub record Ends (w : List ℕ) : Type 0 where
  pub front : List ℕ
  pub last : ℕ
  pub is : w ≡ front ++ last ∷ 10 ∷ []
  pub letter : is_last last ≡ true

ends-behind : (xs ys : List ℕ) → Ends ys → Ends (xs ++ ys)
ends-behind xs ys e = record {
  front = xs ++ e.front;
  last = e.last;
  is = ap (λ (y : List ℕ). xs ++ y) e.is ∙ sym (append_assoc xs e.front (e.last ∷ 10 ∷ []));
  letter = e.letter;
}

ends-with : (front w : List ℕ) (b : ℕ) → is_last b ≡ true → Ends ((front ++ (w ++ b ∷ [])) ++ codes "\n")
ends-with front w b p = record {
  front = front ++ w;
  last = b;
  is = append_assoc front (w ++ b ∷ []) (10 ∷ []) ∙ ap (λ (y : List ℕ). front ++ y) (append_assoc w (b ∷ []) (10 ∷ [])) ∙ sym (append_assoc front w (b ∷ 10 ∷ []));
  letter = p;
}

end-ends : (front : List ℕ) (x : Ended) → Ends ((front ++ ended_text x) ++ codes "\n")
end-ends front ended.Ok = ends-with front (codes "o") 107 refl
end-ends front ended.Stuck = ends-with front (codes "stuc") 107 refl
end-ends front ended.Budget = ends-with front (codes "budge") 116 refl

report-ends : (cs : List Counts) (n t : ℕ) (x : Ended) → Ends (report_text cs n t x)
report-ends cs n t x = end-ends (object_lines 1 cs ++ codes "entries " ++ decimal n ++ codes " clock " ++ decimal t ++ codes "\nend ") x

ended-ends : (s : Scenario) (h : List Entry) (o : Option Ended) → is_some o ≡ true → Ends (report_as s h o)
ended-ends s h None p = cc
ended-ends s h (Some x) p = report-ends (all_counts s h) (length h) (clock h) x

pub whole-ends : (s : Scenario) (h : List Entry) → is_some (ended_as s h) ≡ true → Ends (text s h ++ report s h)
whole-ends s h e = ends-behind (text s h) (report s h) (ended-ends s h (ended_as s h) e)

-- ---- without the last break

tail-same : (x y : ℕ) (xs ys : List ℕ) → x ∷ xs ≡ y ∷ ys → xs ≡ ys
tail-same x y xs ys e = cc

head-same : (x y : ℕ) (xs ys : List ℕ) → x ∷ xs ≡ y ∷ ys → x ≡ y
head-same x y xs ys e = cc

pub not-empty : (xs : List ℕ) (b : ℕ) → [] ≡ xs ++ b ∷ [] → ⊥
not-empty [] b e = cc
not-empty (x ∷ xs) b e = cc

pub same-front : (xs ys : List ℕ) (a b : ℕ) → xs ++ a ∷ [] ≡ ys ++ b ∷ [] → xs ≡ ys
same-front [] [] a b e = refl
same-front [] (y ∷ ys) a b e = absurd (not-empty ys b (tail-same a y [] (ys ++ b ∷ []) e))
same-front (x ∷ xs) [] a b e = absurd (not-empty xs a (sym (tail-same x b (xs ++ a ∷ []) [] e)))
same-front (x ∷ xs) (y ∷ ys) a b e = ap₂ (λ (z : ℕ) (zs : List ℕ). z ∷ zs) (head-same x y (xs ++ a ∷ []) (ys ++ b ∷ []) e) (same-front xs ys a b (tail-same x y (xs ++ a ∷ []) (ys ++ b ∷ []) e))

pub same-end : (xs ys : List ℕ) (a b : ℕ) → xs ++ a ∷ [] ≡ ys ++ b ∷ [] → a ≡ b
same-end [] [] a b e = head-same a b [] [] e
same-end [] (y ∷ ys) a b e = absurd (not-empty ys b (tail-same a y [] (ys ++ b ∷ []) e))
same-end (x ∷ xs) [] a b e = absurd (not-empty xs a (sym (tail-same x b (xs ++ a ∷ []) [] e)))
same-end (x ∷ xs) (y ∷ ys) a b e = same-end xs ys a b (tail-same x y (xs ++ a ∷ []) (ys ++ b ∷ []) e)

one-line : (b : ℕ) (t : Bool) → t ≡ false → cond t ([] ∷ [] ∷ []) (onto b ([] ∷ [])) ≡ cond t ([] ∷ []) (onto b [])
one-line b true e = cc
one-line b false e = refl

end-lines : (front : List ℕ) (b : ℕ) → (b == 10) ≡ false → lines_of (front ++ b ∷ 10 ∷ []) ≡ lines_of (front ++ b ∷ [])
unfolding lines_of
end-lines [] b p = one-line b (b == 10) p
end-lines (x ∷ front) b p = ap (λ (ls : List (List ℕ)). cond (x == 10) ([] ∷ ls) (onto x ls)) (end-lines front b p)

pub no-letter : (b : ℕ) → is_last b ≡ true → (b == 10) ≡ false
no-letter b p = grind (arith, common_steps, p)

up-to-end : (trace w : List ℕ) → Ends w → IsUpToEnd trace w → lines_of trace ≡ lines_of w
up-to-end trace w e (inl p) = ap lines_of p
up-to-end trace w e (inr p) =
    let front : trace ≡ e.front ++ e.last ∷ [] = same-front trace (e.front ++ e.last ∷ []) 10 10 (p ∙ e.is ∙ sym (append_assoc e.front (e.last ∷ []) (10 ∷ []))) in
    ap lines_of front ∙ sym (end-lines e.front e.last (no-letter e.last e.letter)) ∙ ap lines_of (sym e.is)

-- ---- the whole

pub whole-cut : (s : Scenario) (h : List Entry) (trace : List ℕ) → EachEntry (HasWholeLine s) h → is_some (ended_as s h) ≡ true → IsUpToEnd trace (text s h ++ report s h) → lines_of trace ≡ history_lines s.version h ++ report_lines s h
unfolding report_lines
whole-cut s h trace p e u =
    up-to-end trace (text s h ++ report s h) (whole-ends s h e) u
    ∙ history-cut s h (report s h) p
