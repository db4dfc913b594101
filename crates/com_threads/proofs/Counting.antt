-- The numbers of entries by lane, with one entry more.
use Rattle.std.proofs.Common.{◌≡◌, cond, ℕ, zero, suc, ◌+◌, ◌<◌, ◌≤◌, ◌==◌, List, [], ◌∷◌, ◌++◌, length, get_or, set, replicate, refl, sym, ap, ◌∙◌, subst, arith, get_or-set_other, get_or-set_same, length-set, length-append, eq-eqb, ne_eqb}
use Rattle.std.specs.Prelude.{slice_index, sum}
use Rattle.std.proofs.lemmas.List.Sums.{sum_by-append, sum_by-set, count_by-le-length}
use Rattle.std.proofs.lemmas.List.Folds.{sum_by-replicate}
use mathlib.Core.Logic.{dite}
use native.Mathlib.Decide.{ℕ_discrete}
use Rattle.com_model.specs.declared.deeds.Entry.{Entry}
use Rattle.com_threads.specs.Commits.{count_of, Tallies}

-- ---- before the first entry

abbrev pub zeros : ℕ → List ℕ
zeros n = replicate n 0

none_at : (n l : ℕ) → get_or (zeros n) l 0 ≡ 0
none_at zero l = refl
none_at (suc n) zero = refl
none_at (suc n) (suc l) = none_at n l

length_replicated : (n : ℕ) → length (zeros n) ≡ n
length_replicated zero = refl
length_replicated (suc n) = ap suc (length_replicated n)

none_written : (n : ℕ) → Tallies (length (zeros n)) [] (zeros n)
none_written n = record {
  one_each = refl;
  each = λ l at. none_at n l;
  all = sum_by-replicate (λ (x : ℕ). x) n 0 ∙ omega arith;
}

pub none_written_yet : (h : List Entry) (commits : List ℕ) (n : ℕ) → h ≡ [] → commits ≡ zeros n → Tallies (length commits) h commits
none_written_yet h commits n none is =
    subst (λ (k : List Entry). Tallies (length commits) k commits) (sym none)
    (subst (λ (c : List ℕ). Tallies (length c) [] c) (sym is) (none_written n))

-- ---- with one entry more

count_more : (l : ℕ) (h : List Entry) (e : Entry) → count_of l (h ++ e ∷ []) ≡ count_of l h + count_of l (e ∷ [])
count_more l h e = sum_by-append (λ (x : Entry). cond (x.lane == l) 1 0) h (e ∷ [])

any_default : (xs : List ℕ) (i d : ℕ) → i < length xs → get_or xs i d ≡ get_or xs i 0
any_default [] i d h = absurd (omega arith)
any_default (x ∷ xs) zero d h = refl
any_default (x ∷ xs) (suc i) d h = any_default xs i d (omega arith)

-- each lane's number is at most the number of all
pub at_most_all : (rows : ℕ) (h : List Entry) (commits : List ℕ) (l : ℕ) → Tallies rows h commits → l < rows → slice_index commits l ≤ length h
at_most_all rows h commits l t at = let most = count_by-le-length (λ (e : Entry). e.lane == l) h in let each = t.each l at in omega arith

pub one_more : (rows : ℕ) (h : List Entry) (commits : List ℕ) (e : Entry) → Tallies rows h commits → e.lane < rows → Tallies rows (h ++ e ∷ []) (set commits e.lane (get_or commits e.lane 0 + 1))
one_more rows h commits e t less = record { one_each = length-set commits e.lane _ ∙ t.one_each; each = each; all = all }
  where
    there : e.lane < length commits
    there = let n = t.one_each in omega (arith, n, less)

    each : (l : ℕ) → l < rows → slice_index (set commits e.lane (get_or commits e.lane 0 + 1)) l ≡ count_of l (h ++ e ∷ [])
    each l at = let was : get_or commits l 0 ≡ count_of l h = t.each l at in let more = count_more l h e in
        dite (ℕ_discrete l e.lane)
        (λ is. let one : count_of l (e ∷ []) ≡ 1 = rw (eq-eqb e.lane l (sym is)) refl in
        let here : get_or (set commits e.lane (get_or commits e.lane 0 + 1)) l 0 ≡ get_or commits e.lane 0 + 1 = ap (λ (k : ℕ). get_or (set commits e.lane (get_or commits e.lane 0 + 1)) k 0) is ∙ get_or-set_same commits e.lane (get_or commits e.lane 0 + 1) 0 there in
        let same : get_or commits e.lane 0 ≡ get_or commits l 0 = ap (λ (k : ℕ). get_or commits k 0) (sym is) in omega arith)
        (λ ne. let none : count_of l (e ∷ []) ≡ 0 = rw (ne_eqb e.lane l (λ q. ne (sym q))) refl in
        let other = get_or-set_other commits e.lane l (get_or commits e.lane 0 + 1) 0 ne in omega arith)

    all : sum (set commits e.lane (get_or commits e.lane 0 + 1)) ≡ length (h ++ e ∷ [])
    all = let s = sum_by-set (λ (x : ℕ). x) commits e.lane (get_or commits e.lane 0 + 1) 0 there in let n = length-append h (e ∷ []) in let a = t.all in omega arith

-- A commit is counted, where the row's number was read first.
pub one_written : (h new : List Entry) (commits : List ℕ) (e : Entry) (v : ℕ) → Tallies (length commits) h commits → e.lane < length commits → new ≡ h ++ e ∷ [] → v ≡ get_or commits e.lane v
    → Tallies (length (set commits e.lane (v + 1))) new (set commits e.lane (v + 1))
one_written h new commits e v t less is value =
    subst (λ (n : List Entry). Tallies (length (set commits e.lane (v + 1))) n (set commits e.lane (v + 1))) (sym is)
    (subst (λ (k : ℕ). Tallies k (h ++ e ∷ []) (set commits e.lane (v + 1))) (sym (length-set commits e.lane (v + 1)))
    (subst (λ (k : ℕ). Tallies (length commits) (h ++ e ∷ []) (set commits e.lane (k + 1))) (sym (value ∙ any_default commits e.lane v less)) (one_more (length commits) h commits e t less)))
