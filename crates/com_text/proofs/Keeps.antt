-- The words that the scanner keeps are the words of the definition.
use Rattle.std.proofs.Common.{◌≡◌, ◌≢◌, ℕ, ◌+◌, ◌-◌, ◌<◌, ◌≤◌, inl, inr, Bool, true, false, cond, ◌==◌, ◌&&◌, ◌||◌, nat_lt, List, [], length, take, drop, Option, Some, None, refl, sym, ap, ◌∙◌, arith}
use Rattle.std.specs.Prelude.{slice_index, slice_range, unwrap_or}
use Rattle.std.proofs.lemmas.Bool.{eqb-true, cases_order}
use Rattle.std.proofs.lemmas.List.{length-drop, length-take-le}
use Rattle.com_text.specs.declared.word.Sort.{Sort}
use Rattle.com_text.specs.declared.word.Sort.TheVariants as sorts
use Rattle.com_text.specs.declared.word.Kind.{Kind}
use Rattle.com_text.specs.declared.word.Kind.TheVariants as kinds
use Rattle.com_text.specs.declared.scan.Class.{Class}
use Rattle.com_text.specs.declared.scan.Class.TheVariants as classes
use Rattle.com_text.specs.declared.scan.Scanner.{Scanner}
use Rattle.com_text.specs.Scanning.{class_of, seen, strayed, sorted, word_of, literal}
use Rattle.com_text.specs.Tokens.{stray_from}
use Rattle.com_text.specs.Sorts.{sort_of}
use Rattle.com_text.specs.Kept.{IsKept, kind_of, word_to}
use Rattle.com_text.proofs.Scans.{range_more}
use Rattle.com_text.proofs.Strays.{same_class, stray_more, not_ten}

range_length : (text : List ℕ) (from at : ℕ) → at ≤ length text → length (slice_range text from at) ≡ at - from
range_length text from at h = length-take-le (at - from) (drop from text) (omega (arith, length-drop from text))

no_range : (text : List ℕ) (at : ℕ) → slice_range text at at ≡ []
no_range text at = (let e : at - at ≡ 0 = omega arith in ap (λ (n : ℕ). take n (drop at text)) e)

-- ---- a byte further

grown : (text : List ℕ) (from at first : ℕ) → from ≤ at → at < length text → slice_index text at ≢ 10
    → stray_from first (slice_range text from (at + 1)) ≡ strayed (stray_from first (slice_range text from at)) (class_of (slice_index text at) 0) (first + (at - from))
grown text from at first l m h =
    ap (λ (x : List ℕ). stray_from first x) (range_more text from at l m)
    ∙ stray_more first (slice_range text from at) (slice_index text at) h
    ∙ ap (λ (n : ℕ). strayed (stray_from first (slice_range text from at)) (class_of (slice_index text at) 0) (first + n)) (range_length text from at (omega arith))

-- a byte that is outside the characters before another is so before 0
bad_alone : (b n k column : ℕ) → strayed None (class_of b n) column ≡ Some k → strayed None (class_of b 0) column ≡ Some k
bad_alone b n k column h = by (b == 13) refl
  where
    by : (t : Bool) → (b == 13) ≡ t → strayed None (class_of b 0) column ≡ Some k
    by true e = elim (cases_order n 10) [
      | inl same ↦ (let wrong : None ≡ Some k = ap (λ (x : ℕ). strayed None (class_of x 10) column) (sym (eqb-true b 13 e)) ∙ ap (λ (y : ℕ). strayed None (class_of b y) column) (sym same) ∙ h in absurd cc)
      | inr other ↦ ap (λ (c : Class). strayed None c column) (same_class b 0 n (λ z. absurd cc) (λ z. elim other [ inl less ↦ absurd (omega arith) | inr more ↦ absurd (omega arith) ])) ∙ h
    ]
    by false e =
        let same : (b == 13 && 0 == 10) ≡ (b == 13 && n == 10) = ap (λ (x : Bool). x && 0 == 10) e ∙ sym (ap (λ (x : Bool). x && n == 10) e) in
        ap (λ (t : Bool). strayed None (cond (b == 10) classes.LineEnd (cond (b == 32 || b == 9 || t) classes.Blank (cond (nat_lt b 32 || nat_lt 126 b) classes.Bad (cond (b == 34) classes.Quote (cond (b == 59) classes.Semicolon classes.Other))))) column) same ∙ h

stray_on : (text : List ℕ) (from at first : ℕ) (stray : Option ℕ) → from ≤ at → at < length text → slice_index text at ≢ 10 → stray_from first (slice_range text from at) ≡ stray
    → (k : ℕ) → strayed stray (class_of (slice_index text at) (slice_index text (at + 1))) (first + (at - from)) ≡ Some k → stray_from first (slice_range text from (at + 1)) ≡ Some k
stray_on text from at first (Some j) l m h x k g = grown text from at first l m h ∙ ap (λ (o : Option ℕ). strayed o (class_of (slice_index text at) 0) (first + (at - from))) x ∙ g
stray_on text from at first None l m h x k g =
    grown text from at first l m h ∙ ap (λ (o : Option ℕ). strayed o (class_of (slice_index text at) 0) (first + (at - from))) x
    ∙ bad_alone (slice_index text at) (slice_index text (at + 1)) k (first + (at - from)) g

exact_on : (text : List ℕ) (from at first : ℕ) (stray : Option ℕ) → from ≤ at → at < length text → slice_index text at ≢ 10 → stray_from first (slice_range text from at) ≡ stray
    → slice_index text (at + 1) ≢ 10 → stray_from first (slice_range text from (at + 1)) ≡ strayed stray (class_of (slice_index text at) (slice_index text (at + 1))) (first + (at - from))
exact_on text from at first stray l m h x n =
    grown text from at first l m h ∙ ap (λ (o : Option ℕ). strayed o (class_of (slice_index text at) 0) (first + (at - from))) x
    ∙ ap (λ (c : Class). strayed stray c (first + (at - from))) (same_class (slice_index text at) 0 (slice_index text (at + 1)) (λ z. absurd cc) n)

-- a word goes on
pub kept_on : (text : List ℕ) (at : ℕ) (s t : Scanner) (c : Class) → IsKept text at s → at < length text → c ≡ class_of (slice_index text at) (slice_index text (at + 1)) → c ≢ classes.LineEnd
    → t.from ≡ s.from → t.first ≡ s.first → t.column ≡ s.column + 1 → t.stray ≡ strayed s.stray c s.column → IsKept text (at + 1) t
kept_on text at s t c h m e inner from first column stray =
    let l = h.from in
    let width = h.column in
    let b = slice_index text at in
    let n = slice_index text (at + 1) in
    let ten : b ≢ 10 = not_ten b n (λ x. inner (e ∙ x)) in
    let exact = h.exact ten in
    let said : t.stray ≡ strayed s.stray (class_of b n) (s.first + (at - s.from)) = stray ∙ ap (λ (x : Class). strayed s.stray x s.column) e ∙ ap (λ (x : ℕ). strayed s.stray (class_of b n) x) (sym width) in
    let same : stray_from t.first (slice_range text t.from (at + 1)) ≡ stray_from s.first (slice_range text s.from (at + 1)) = ap (λ (x : ℕ). stray_from x (slice_range text t.from (at + 1))) first ∙ ap (λ (x : ℕ). stray_from s.first (slice_range text x (at + 1))) from in
    record {
      from = omega arith;
      column = omega arith;
      stray = λ k g. same ∙ stray_on text s.from at s.first s.stray l m ten exact k (sym said ∙ g);
      exact = λ z. same ∙ exact_on text s.from at s.first s.stray l m ten exact z ∙ sym said;
    }

-- no word has begun
pub kept_fresh : (text : List ℕ) (at : ℕ) (s : Scanner) → s.from ≡ at → s.first ≡ s.column → s.stray ≡ None → IsKept text at s
kept_fresh text at s from first stray =
    let none : stray_from s.first (slice_range text s.from at) ≡ None = ap (λ (x : ℕ). stray_from s.first (slice_range text x at)) from ∙ ap (λ (x : List ℕ). stray_from s.first x) (no_range text at) in
    record {
      from = omega arith;
      column = omega arith;
      stray = λ k g. none ∙ sym stray ∙ g;
      exact = λ z. none ∙ sym stray;
    }

-- ---- the words

sort_kept : (o : Option ℕ) (kind : Kind) (sort : Sort) (first : ℕ) (bytes : List ℕ) → ((k : ℕ) → o ≡ Some k → stray_from first bytes ≡ Some k)
    → sort_of kind first bytes ≡ sort → sort_of (kind_of o kind) first bytes ≡ sorted o sort
sort_kept None kind sort first bytes h e = e
sort_kept (Some k) kind sort first bytes h e = ap (λ (x : Option ℕ). sorts.Stray (unwrap_or x first)) (h k refl)

word_kept : (text : List ℕ) (at : ℕ) (s : Scanner) (kind : Kind) (sort : Sort) → IsKept text at s → sort_of kind s.first (slice_range text s.from at) ≡ sort
    → word_to text s at kind ≡ word_of (seen text at s) sort (slice_range text s.from at) 0
word_kept text at s kind sort h e =
    let after : s.first + (at - s.from) ≡ s.column + 0 = (let c = h.column in omega arith) in
    let end : at ≡ at + 0 = omega arith in
    cc (after, end, e)

pub plain_kept : (text : List ℕ) (at : ℕ) (s : Scanner) → IsKept text at s
    → word_to text s at (kind_of s.stray kinds.Plain) ≡ word_of (seen text at s) (sorted s.stray sorts.Plain) (slice_range text s.from at) 0
plain_kept text at s h = word_kept text at s (kind_of s.stray kinds.Plain) (sorted s.stray sorts.Plain) h (sort_kept s.stray kinds.Plain sorts.Plain s.first (slice_range text s.from at) h.stray refl)

pub unclosed_kept : (text : List ℕ) (at : ℕ) (s : Scanner) → IsKept text at s → word_to text s at kinds.Unclosed ≡ word_of (seen text at s) sorts.Unclosed (slice_range text s.from at) 0
unclosed_kept text at s h = word_kept text at s kinds.Unclosed sorts.Unclosed h refl

pub remark_kept : (text : List ℕ) (at : ℕ) (s : Scanner) (k : ℕ) → IsKept text at s → s.stray ≡ Some k → word_to text s at kinds.Remark ≡ word_of (seen text at s) (sorts.Remark k) (slice_range text s.from at) 0
remark_kept text at s k h e = word_kept text at s kinds.Remark (sorts.Remark k) h (ap (λ (x : Option ℕ). sorts.Remark (unwrap_or x s.first)) (h.stray k e))

-- a literal, with the mark that closes it
pub literal_kept : (text : List ℕ) (at : ℕ) (s : Scanner) (c : Class) (kind : Kind) (sort : Sort) → IsKept text at s → at < length text → c ≡ class_of (slice_index text at) (slice_index text (at + 1)) → c ≢ classes.LineEnd
    → sort_of kind s.first (slice_range text s.from (at + 1)) ≡ sort → word_to text s (at + 1) (kind_of s.stray kind) ≡ literal (seen text at s) (slice_index text at) sort
literal_kept text at s c kind sort h m d inner e =
    let l = h.from in
    let ten : slice_index text at ≢ 10 = not_ten (slice_index text at) (slice_index text (at + 1)) (λ x. inner (d ∙ x)) in
    let after : s.first + ((at + 1) - s.from) ≡ s.column + 1 = (let w = h.column in omega arith) in
    let bytes = range_more text s.from at l m in
    let stray : (k : ℕ) → s.stray ≡ Some k → stray_from s.first (slice_range text s.from (at + 1)) ≡ Some k = (λ k x. grown text s.from at s.first l m ten ∙ ap (λ (o : Option ℕ). strayed o (class_of (slice_index text at) 0) (s.first + (at - s.from))) (h.stray k x)) in
    let same = sort_kept s.stray kind sort s.first (slice_range text s.from (at + 1)) stray e in
    cc (after, bytes, same)
