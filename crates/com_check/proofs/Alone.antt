-- One answer alone is judged of a trace: what stands before a line fixes the history behind it, and the only legal line there.
use Rattle.std.proofs.Common.{◌≡◌, ℕ, zero, suc, ◌+◌, ◌^◌, ◌<◌, ◌≤◌, refl, sym, ◌∙◌, ap, ap₂, subst, append_assoc, append-nil, length-append, arith, List, [], ◌∷◌, ◌++◌, length, Bool, true, false, Option, Some, None}
use Rattle.std.proofs.lemmas.Grind.{common_steps}
use Rattle.std.specs.Prelude.{if◌then◌else◌, is_some, nat_le, option_map, option_and_then}
use Rattle.com_model.specs.declared.counts.Ended.{Ended}
use Rattle.com_model.specs.declared.deeds.Deed.{Deed}
use Rattle.com_model.specs.declared.deeds.Entry.{Entry}
use Rattle.com_model.specs.declared.scenario.Scenario.{Scenario}
use Rattle.com_model.specs.Ends.{ended_as, limit}
use Rattle.com_model.specs.Formed.{Formed}
use Rattle.com_model.specs.Lists.{first}
use Rattle.com_model.specs.Rules.{legal, next}
use Rattle.com_model.proofs.Lanes.{lane-within}
use Rattle.com_check.specs.declared.judged.Judged.{Judged}
use Rattle.com_check.specs.declared.judged.Judged.TheVariants as judged
use Rattle.com_check.specs.Fronts.{named}
use Rattle.com_check.specs.Lines.{lines_of}
use Rattle.com_check.specs.Judging.{Differs, IsJudged, IsText, Unended, entry_line, entry_of, history_lines, legal_line, line_due, report_lines, shown}
use Rattle.com_check.proofs.Histories.{few_entries, history_length, nothing_told}
use Rattle.com_check.proofs.Names.{line_names}

-- ---- lists

abbrev Lines : Type 0
Lines = List (List ℕ)

head_same : (x y : List ℕ) (xs ys : Lines) → x ∷ xs ≡ y ∷ ys → x ≡ y
head_same x y xs ys e = cc

tail_same : (x y : List ℕ) (xs ys : Lines) → x ∷ xs ≡ y ∷ ys → xs ≡ ys
tail_same x y xs ys e = cc

cut_front : (xs a b : Lines) → xs ++ a ≡ xs ++ b → a ≡ b
cut_front [] a b e = e
cut_front (x ∷ xs) a b e = cut_front xs a b (tail_same x x (xs ++ a) (xs ++ b) e)

cut_both : (xs ys a b : Lines) → length xs ≡ length ys → xs ++ a ≡ ys ++ b → a ≡ b
cut_both [] [] a b n e = e
cut_both [] (y ∷ ys) a b n e = absurd (omega (arith, n))
cut_both (x ∷ xs) [] a b n e = absurd (omega (arith, n))
cut_both (x ∷ xs) (y ∷ ys) a b n e = cut_both xs ys a b (omega (arith, n)) (tail_same x y (xs ++ a) (ys ++ b) e)

nothing_both : (a b : Lines) → [] ≡ a ++ b → a ≡ []
nothing_both [] b e = refl
nothing_both (x ∷ a) b e = cc

data LastOf (xs : List Entry) : Type 0 where
  none : xs ≡ [] → LastOf xs
  some : (zs : List Entry) (k : Entry) → xs ≡ zs ++ k ∷ [] → LastOf xs

last_of : (xs : List Entry) → LastOf xs
last_of [] = none refl
last_of (x ∷ xs) =
    elim (last_of xs) as (λ _. LastOf (x ∷ xs)) [
      | none e ↦ some [] x (ap (λ (ys : List Entry). x ∷ ys) e)
      | some zs k e ↦ some (x ∷ zs) k (ap (λ (ys : List Entry). x ∷ ys) e)
    ]

-- ---- fronts of histories

record Behind (v : ℕ) (xs h : List Entry) : Type 0 where
  rest : Lines
  is : history_lines v (xs ++ h) ≡ history_lines v h ++ rest

behind : (v : ℕ) (xs h : List Entry) → Behind v xs h
unfolding history_lines
behind v [] h = record { rest = []; is = sym (append-nil (history_lines v h)) }
behind v (x ∷ xs) h =
    let r : Behind v xs h = behind v xs h in
    let line : Lines = entry_line v (length (xs ++ h) + 1) x ∷ [] in
    record {
      rest = r.rest ++ line;
      is = ap (λ (y : Lines). y ++ line) r.is ∙ append_assoc (history_lines v h) r.rest line;
    }

one_line_more : (v : ℕ) (e : Entry) (g : List Entry) (x : Lines) → history_lines v (e ∷ g) ++ x ≡ history_lines v g ++ (entry_line v (length g + 1) e ∷ x)
unfolding history_lines
one_line_more v e g x = append_assoc (history_lines v g) (entry_line v (length g + 1) e ∷ []) x

legal_older : (s : Scenario) (xs h : List Entry) → legal s (xs ++ h) → legal s h
legal_older s [] h q = q
legal_older s (x ∷ xs) h q = legal_older s xs h q.0

unended_older : (s : Scenario) (xs h : List Entry) → Unended s (xs ++ h) → Unended s h
unended_older s [] h q = q
unended_older s (x ∷ xs) h q = unended_older s xs h q.0

low_lane : (s : Scenario) (h : List Entry) (e : Entry) → Formed s → legal s (e ∷ h) → e.lane < 2 ^ 64
low_lane s h e f q = few s.pool (length s.threads) e.lane f.pool.1 f.threads.1 (lane-within s h e.lane e.deed q.1)
  where
    few : (p t l : ℕ) → p ≤ 8 → t ≤ 16 → l ≤ t + 1 + p → l < 2 ^ 64
    few p t l a b c = omega (arith, a, b, c)

low_place : (s : Scenario) (n : ℕ) → n < limit s → n + 1 < 2 ^ 64
low_place s n p = let k : limit s ≤ 1_000_000 = few_entries s in omega (arith, p, k)

some_same : {A : Type 0} → (a b : A) → Some a ≡ Some b → a ≡ b
some_same a b e = cc

-- The next entries with one line are one.
same_entry : (s : Scenario) (g : List Entry) (e k : Entry) → Formed s → legal s (e ∷ g) → legal s (k ∷ g) → length g < limit s
    → entry_line s.version (length g + 1) e ≡ entry_line s.version (length g + 1) k → e ≡ k
same_entry s g e k f p q low z =
    let n : ℕ = length g + 1 in
    let lane : e.lane ≡ k.lane =
    some_same e.lane k.lane
    (sym (line_names s.version n e (low_place s (length g) low) (low_lane s g e f p)) ∙ ap named z
    ∙ line_names s.version n k (low_place s (length g) low) (low_lane s g k f q)) in
    ap₂ (λ (l : ℕ) (d : Deed). record { lane = l; deed = d }) lane (some_same e.deed k.deed (sym p.1 ∙ ap (next s g) lane ∙ q.1))

record Front (g h : List Entry) : Type 0 where
  xs : List Entry
  is : h ≡ xs ++ g

-- What stands behind a common front of two histories.
lines_behind : (v : ℕ) (g zs h : List Entry) (k : Entry) (x y : Lines) → h ≡ zs ++ k ∷ g → history_lines v g ++ x ≡ history_lines v h ++ y
    → (more : Lines) × (x ≡ entry_line v (length g + 1) k ∷ more)
lines_behind v g zs h k x y is z =
    let r : Behind v zs (k ∷ g) = behind v zs (k ∷ g) in (
      r.rest ++ y,
      cut_front (history_lines v g) x (entry_line v (length g + 1) k ∷ (r.rest ++ y))
          (z ∙ ap (λ (j : List Entry). history_lines v j ++ y) is ∙ ap (λ (l : Lines). l ++ y) r.is
          ∙ append_assoc (history_lines v (k ∷ g)) r.rest y ∙ one_line_more v k g (r.rest ++ y)),
    )

front_of : (s : Scenario) (g h : List Entry) (x y : Lines) → Formed s → legal s g → Unended s g → legal s h → length g ≤ length h
    → history_lines s.version g ++ x ≡ history_lines s.version h ++ y → Front g h
front_of s [] h x y f p u q n z = record { xs = h; is = sym (append-nil h) }
front_of s (e ∷ g) h x y f p u q n z =
    let line : List ℕ = entry_line s.version (length g + 1) e in
    let w : history_lines s.version g ++ (line ∷ x) ≡ history_lines s.version h ++ y = sym (one_line_more s.version e g x) ∙ z in
    let r : Front g h = front_of s g h (line ∷ x) y f p.0 u.0 q (omega (arith, n)) w in
    elim (last_of r.xs) as (λ _. Front (e ∷ g) h) [
      | none a ↦ let same : h ≡ g = r.is ∙ ap (λ (ys : List Entry). ys ++ g) a in absurd (omega (arith, n, ap (λ (ys : List Entry). length ys) same))
      | some zs k a ↦
          let is : h ≡ zs ++ k ∷ g = r.is ∙ ap (λ (ys : List Entry). ys ++ g) a ∙ append_assoc zs (k ∷ []) g in
          let m = lines_behind s.version g zs h k (line ∷ x) y is w in
          let own : e ≡ k = same_entry s g e k f p (legal_older s zs (k ∷ g) (subst (λ (j : List Entry). legal s j) is q)) u.1
          (head_same line (entry_line s.version (length g + 1) k) x m.0 m.1) in
          record { xs = zs; is = is ∙ ap (λ (j : Entry). zs ++ j ∷ g) (sym own) }
    ]

-- ---- readings of one trace

-- The lines are those of a history and first lines of its report, and others.
record Reading (s : Scenario) (ls : Lines) (h : List Entry) (told left rest : Lines) : Type 0 where
  lawful : legal s h
  unended : Unended s h
  report : report_lines s h ≡ told ++ left
  are : ls ≡ (history_lines s.version h ++ told) ++ rest

abbrev count : Scenario → List Entry → (told : Lines) → ℕ
count s h told = length (history_lines s.version h ++ told)

count_is : (s : Scenario) (h : List Entry) (told : Lines) → count s h told ≡ length h + length told
count_is s h told = let n : length (history_lines s.version h) ≡ length h = history_length s.version h in omega (arith, n, length-append (history_lines s.version h) told)

both_read : (s : Scenario) (ls : Lines) (g h : List Entry) (t u : Lines) (l m : Lines) (x y : Lines) → Reading s ls g t l x → Reading s ls h u m y
    → history_lines s.version g ++ (t ++ x) ≡ history_lines s.version h ++ (u ++ y)
both_read s ls g h t u l m x y p q =
    sym (append_assoc (history_lines s.version g) t x) ∙ sym p.are ∙ q.are ∙ append_assoc (history_lines s.version h) u y

untold : (s : Scenario) (ls : Lines) (h : List Entry) (t l x : Lines) → Reading s ls h t l x → ended_as s h ≡ None → t ≡ []
untold s ls h t l x p on = nothing_both t l (sym (nothing_told s h on) ∙ p.report)

-- A history that went on had not ended.
went_on : (s : Scenario) (g zs h : List Entry) (k : Entry) → Unended s h → h ≡ zs ++ k ∷ g → (length g < limit s) × (ended_as s g ≡ None)
went_on s g zs h k u is =
    let w : Unended s (k ∷ g) = unended_older s zs (k ∷ g) (subst (λ (j : List Entry). Unended s j) is u) in
    (w.1, w.2)

data Along (g h : List Entry) : Type 0 where
  same : g ≡ h → Along g h
  on : (zs : List Entry) (k : Entry) → h ≡ zs ++ k ∷ g → Along g h
  off : (zs : List Entry) (k : Entry) → g ≡ zs ++ k ∷ h → Along g h

along_front : (g h : List Entry) → Front g h → Along g h
along_front g h r =
    elim (last_of r.xs) as (λ _. Along g h) [
      | none a ↦ same (sym (r.is ∙ ap (λ (ys : List Entry). ys ++ g) a))
      | some zs k a ↦ on zs k (r.is ∙ ap (λ (ys : List Entry). ys ++ g) a ∙ append_assoc zs (k ∷ []) g)
    ]

along_back : (g h : List Entry) → Front h g → Along g h
along_back g h r =
    elim (last_of r.xs) as (λ _. Along g h) [
      | none a ↦ same (r.is ∙ ap (λ (ys : List Entry). ys ++ h) a)
      | some zs k a ↦ off zs k (r.is ∙ ap (λ (ys : List Entry). ys ++ h) a ∙ append_assoc zs (k ∷ []) h)
    ]

along : (s : Scenario) (ls : Lines) (g h : List Entry) (t u l m x y : Lines) → Formed s → Reading s ls g t l x → Reading s ls h u m y → Along g h
along s ls g h t u l m x y f p q =
    elim (nat_le (length g) (length h)) as (λ b. nat_le (length g) (length h) ≡ b → Along g h) [
      | true ↦ λ z. along_front g h (front_of s g h (t ++ x) (u ++ y) f p.lawful p.unended q.lawful (low z) (both_read s ls g h t u l m x y p q))
      | false ↦ λ z. along_back g h (front_of s h g (u ++ y) (t ++ x) f q.lawful q.unended p.lawful (high z) (sym (both_read s ls g h t u l m x y p q)))
    ] refl
  where
    low : nat_le (length g) (length h) ≡ true → length g ≤ length h
    low z = grind (arith, common_steps, z)

    high : nat_le (length g) (length h) ≡ false → length h ≤ length g
    high z = grind (arith, common_steps, z)

-- ---- a longer reading has the only legal line behind the shorter one

told_next : (t u l m x y : Lines) → t ++ x ≡ u ++ y → t ++ l ≡ u ++ m → length t < length u → first x ≡ first l
told_next [] [] l m x y e d n = absurd (omega (arith, n))
told_next [] (q ∷ u) l m x y e d n = ap first e ∙ sym (ap first d)
told_next (a ∷ t) [] l m x y e d n = absurd (omega (arith, n))
told_next (a ∷ t) (q ∷ u) l m x y e d n =
    told_next t u l m x y (tail_same a q (t ++ x) (u ++ y) e) (tail_same a q (t ++ l) (u ++ m) d) (omega (arith, n))

ended_by_report : (s : Scenario) (h : List Entry) (u m : Lines) (o : Option Ended) → ended_as s h ≡ o → report_lines s h ≡ u ++ m → 1 ≤ length u
    → is_some (ended_as s h) ≡ true
ended_by_report s h u m None e r n =
    absurd (let z : u ≡ [] = nothing_both u m (sym (nothing_told s h e) ∙ r) in omega (arith, n, ap (λ (k : Lines). length k) z))
ended_by_report s h u m (Some o) e r n = ap is_some e

in_report : (s : Scenario) (ls : Lines) (h : List Entry) (t u l m x y : Lines) → Reading s ls h t l x → Reading s ls h u m y → count s h t < count s h u
    → first x ≡ legal_line s h l (first x)
in_report s ls h t u l m x y p q n =
    let more : length t < length u = omega (arith, n, count_is s h t, count_is s h u) in
    let over : is_some (ended_as s h) ≡ true = ended_by_report s h u m (ended_as s h) refl q.report (omega (arith, more)) in
    told_next t u l m x y (cut_front (history_lines s.version h) (t ++ x) (u ++ y) (both_read s ls h h t u l m x y p q)) (sym p.report ∙ q.report) more
    ∙ ap (λ (b : Bool). if b then first l else line_due s h (first x)) (sym over)

line_due_is : (s : Scenario) (g : List Entry) (k : Entry) → Formed s → legal s (k ∷ g) → length g < limit s
    → line_due s g (Some (entry_line s.version (length g + 1) k)) ≡ Some (entry_line s.version (length g + 1) k)
unfolding line_due entry_of
line_due_is s g k f p low =
    let n : ℕ = length g + 1 in
    ap (λ (x : Option ℕ). option_map (entry_line s.version n) (option_and_then (entry_of s g) x))
    (line_names s.version n k (low_place s (length g) low) (low_lane s g k f p))
    ∙ ap (λ (d : Option Deed). option_map (entry_line s.version n) (option_map (λ (d : Deed). record { lane = k.lane; deed = d }) d)) p.1

in_history : (s : Scenario) (ls : Lines) (g h zs : List Entry) (k : Entry) (t u l m x y : Lines) → Formed s → Reading s ls g t l x → Reading s ls h u m y
    → h ≡ zs ++ k ∷ g → first x ≡ legal_line s g l (first x)
in_history s ls g h zs k t u l m x y f p q is =
    let w = went_on s g zs h k q.unended is in
    let line : List ℕ = entry_line s.version (length g + 1) k in
    let r = lines_behind s.version g zs h k (t ++ x) (u ++ y) is (both_read s ls g h t u l m x y p q) in
    let lawful : legal s (k ∷ g) = legal_older s zs (k ∷ g) (subst (λ (j : List Entry). legal s j) is q.lawful) in
    let here : first x ≡ Some line = ap first (sym (ap (λ (j : Lines). j ++ x) (untold s ls g t l x p w.1)) ∙ r.1) in
    here ∙ sym (line_due_is s g k f lawful w.0) ∙ ap (line_due s g) (sym here)
    ∙ ap (λ (o : Option Ended). if is_some o then first l else line_due s g (first x)) (sym w.1)

shorter : (s : Scenario) (ls : Lines) (g h zs : List Entry) (k : Entry) (t u l m x y : Lines) → Reading s ls g t l x → Reading s ls h u m y
    → g ≡ zs ++ k ∷ h → count s h u < count s g t
shorter s ls g h zs k t u l m x y p q is =
    let w = went_on s h zs g k p.unended is in
    let none : u ≡ [] = untold s ls h u m y q w.1 in
    omega (arith, count_is s g t, count_is s h u, ap (λ (j : Lines). length j) none, ap (λ (j : List Entry). length j) is, length-append zs (k ∷ h))

longer_agrees : (s : Scenario) (ls : Lines) (g h : List Entry) (t u l m x y : Lines) → Formed s → Reading s ls g t l x → Reading s ls h u m y
    → count s g t < count s h u → first x ≡ legal_line s g l (first x)
longer_agrees s ls g h t u l m x y f p q n =
    elim (along s ls g h t u l m x y f p q) as (λ _. first x ≡ legal_line s g l (first x)) [
      | same e ↦ in_report s ls g t u l m x y p (subst (λ (j : List Entry). Reading s ls j u m y) (sym e) q) (subst (λ (j : List Entry). count s g t < count s j u) (sym e) n)
      | on zs k e ↦ in_history s ls g h zs k t u l m x y f p q e
      | off zs k e ↦ absurd (let c : count s h u < count s g t = shorter s ls g h zs k t u l m x y p q e in omega (arith, n, c))
    ]

-- ---- readings of the same length are one

record Same (g h : List Entry) (l m x y : Lines) : Type 0 where
  history : g ≡ h
  left : l ≡ m
  rest : x ≡ y

same_history : (s : Scenario) (ls : Lines) (g h : List Entry) (t u l m x y : Lines) → g ≡ h → Reading s ls g t l x → Reading s ls h u m y
    → count s g t ≡ count s h u → Same g h l m x y
same_history s ls g h t u l m x y e p q n =
    let told : length t ≡ length u = omega (arith, n, count_is s g t, count_is s h u, ap (λ (j : List Entry). length j) e) in
    record {
      history = e;
      left = cut_both t u l m told (sym p.report ∙ ap (report_lines s) e ∙ q.report);
      rest = cut_both (history_lines s.version g ++ t) (history_lines s.version h ++ u) x y n (sym p.are ∙ q.are);
    }

one_reading : (s : Scenario) (ls : Lines) (g h : List Entry) (t u l m x y : Lines) → Formed s → Reading s ls g t l x → Reading s ls h u m y
    → count s g t ≡ count s h u → Same g h l m x y
one_reading s ls g h t u l m x y f p q n =
    elim (along s ls g h t u l m x y f p q) as (λ _. Same g h l m x y) [
      | same e ↦ same_history s ls g h t u l m x y e p q n
      | on zs k e ↦ absurd (let c : count s g t < count s h u = shorter s ls h g zs k u t m l y x q p e in omega (arith, n, c))
      | off zs k e ↦ absurd (let c : count s h u < count s g t = shorter s ls g h zs k t u l m x y p q e in omega (arith, n, c))
    ]

-- ---- one answer

text_read : (s : Scenario) (trace : List ℕ) (d : IsText s trace) → Reading s (lines_of trace) d.history (report_lines s d.history) [] []
text_read s trace d = record {
  lawful = d.lawful;
  unended = d.unended;
  report = sym (append-nil (report_lines s d.history));
  are = d.lines ∙ sym (append-nil (history_lines s.version d.history ++ report_lines s d.history));
}

differs_read : (s : Scenario) (trace : List ℕ) (line : ℕ) (found legal : List ℕ) (d : Differs s trace line found legal)
    → Reading s (lines_of trace) d.begins.history d.begins.told d.begins.left d.rest
differs_read s trace line found legal d = record {
  lawful = d.begins.lawful;
  unended = d.begins.unended;
  report = d.begins.report;
  are = d.parts ∙ ap (λ (ls : Lines). ls ++ d.rest) d.begins.are;
}

data Order (a b : ℕ) : Type 0 where
  less : a < b → Order a b
  equal : a ≡ b → Order a b
  more : b < a → Order a b

order : (a b : ℕ) → Order a b
order zero zero = equal refl
order zero (suc b) = less (omega arith)
order (suc a) zero = more (omega arith)
order (suc a) (suc b) =
    elim (order a b) as (λ _. Order (suc a) (suc b)) [
      | less p ↦ less (omega (arith, p))
      | equal p ↦ equal (ap (λ (n : ℕ). suc n) p)
      | more p ↦ more (omega (arith, p))
    ]

all_read : (s : Scenario) (ls : Lines) (g h : List Entry) (t u l m x y : Lines) → Reading s ls g t l x → Reading s ls h u m y → y ≡ [] → count s h u < count s g t → ⊥
all_read s ls g h t u l m x y p q empty n =
    let a : length ls ≡ count s g t + length x = ap (λ (j : Lines). length j) p.are ∙ length-append (history_lines s.version g ++ t) x in
    let b : length ls ≡ count s h u + length y = ap (λ (j : Lines). length j) q.are ∙ length-append (history_lines s.version h ++ u) y in
    omega (arith, a, b, n, ap (λ (j : Lines). length j) empty)

pub not_both : (s : Scenario) (trace : List ℕ) (line : ℕ) (found legal : List ℕ) → Formed s → IsText s trace → Differs s trace line found legal → ⊥
not_both s trace line found legal f d e =
    let p : Reading s (lines_of trace) e.begins.history e.begins.told e.begins.left e.rest = differs_read s trace line found legal e in
    let q : Reading s (lines_of trace) d.history (report_lines s d.history) [] [] = text_read s trace d in
    elim (order (count s e.begins.history e.begins.told) (count s d.history (report_lines s d.history))) as (λ _. ⊥) [
      | less n ↦ e.differ (longer_agrees s _ _ _ _ _ _ _ _ _ f p q n)
      | equal n ↦
          let z : Same e.begins.history d.history e.begins.left [] e.rest [] = one_reading s _ _ _ _ _ _ _ _ _ f p q n in
          e.differ (ap first z.rest ∙ sym (ap first z.left)
          ∙ ap (λ (b : Bool). if b then first e.begins.left else line_due s e.begins.history (first e.rest))
          (sym (ap (λ (j : List Entry). is_some (ended_as s j)) z.history ∙ d.ends)))
      | more n ↦ all_read s _ _ _ _ _ _ _ _ _ p q refl n
    ]

same_answer : (s : Scenario) (trace : List ℕ) (a b : ℕ) (c d p q : List ℕ) → Formed s → (e : Differs s trace a c p) → (k : Differs s trace b d q)
    → count s e.begins.history e.begins.told ≡ count s k.begins.history k.begins.told → judged.Differs a c p ≡ judged.Differs b d q
same_answer s trace a b c d p q f e k n =
    let z : Same e.begins.history k.begins.history e.begins.left k.begins.left e.rest k.rest =
    one_reading s _ _ _ _ _ _ _ _ _ f (differs_read s trace a c p e) (differs_read s trace b d q k) n in
    let line : a ≡ b =
    e.place ∙ ap (λ (x : Lines). length x + 1) e.begins.are ∙ ap (λ (x : ℕ). x + 1) n ∙ sym (k.place ∙ ap (λ (x : Lines). length x + 1) k.begins.are) in
    let found : c ≡ d = e.found_is ∙ ap (λ (x : Lines). shown (first x)) z.rest ∙ sym k.found_is in
    let legal : p ≡ q =
    e.legal_is ∙ ap (λ (x : List Entry). shown (legal_line s x e.begins.left (first e.rest))) z.history
    ∙ ap (λ (x : Lines). shown (legal_line s k.begins.history x (first e.rest))) z.left
    ∙ ap (λ (x : Lines). shown (legal_line s k.begins.history k.begins.left (first x))) z.rest ∙ sym k.legal_is in
    ap (λ (x : ℕ). judged.Differs x c p) line ∙ ap (λ (x : List ℕ). judged.Differs b x p) found ∙ ap (λ (x : List ℕ). judged.Differs b d x) legal

pub judged_alone : (s : Scenario) (trace : List ℕ) (j k : Judged) → Formed s → IsJudged s trace j → IsJudged s trace k → j ≡ k
judged_alone s trace judged.Agrees judged.Agrees f d e = refl
judged_alone s trace judged.Agrees (judged.Differs b c p) f d e = absurd (not_both s trace b c p f d e)
judged_alone s trace (judged.Differs a c p) judged.Agrees f d e = absurd (not_both s trace a c p f e d)
judged_alone s trace (judged.Differs a c p) (judged.Differs b d q) f e k =
    let x : Reading s (lines_of trace) e.begins.history e.begins.told e.begins.left e.rest = differs_read s trace a c p e in
    let y : Reading s (lines_of trace) k.begins.history k.begins.told k.begins.left k.rest = differs_read s trace b d q k in
    elim (order (count s e.begins.history e.begins.told) (count s k.begins.history k.begins.told)) as (λ _. judged.Differs a c p ≡ judged.Differs b d q) [
      | less n ↦ absurd (e.differ (longer_agrees s _ _ _ _ _ _ _ _ _ f x y n))
      | equal n ↦ same_answer s trace a b c d p q f e k n
      | more n ↦ absurd (k.differ (longer_agrees s _ _ _ _ _ _ _ _ _ f y x n))
    ]
