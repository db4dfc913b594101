-- Places that moves bring and take.
use mathlib.Core.Path.{fun_ext}
use Rattle.std.proofs.Common.{◌≡◌, ℕ, zero, suc, ◌+◌, ◌<◌, ◌≤◌, List, [], ◌∷◌, ◌++◌, length, get_or, take, drop, refl, sym, ap, subst, ◌∙◌, arith, add-one, drop-cons}
use Rattle.std.proofs.lemmas.List.{take_more}
use Rattle.com_refs_books.specs.Changes.{Books}
use Rattle.com_refs_books.specs.Ends.{ends}
use Rattle.com_refs_holders.specs.Places.{Counts, OneMore, OneLess}
use Rattle.com_refs_holders.specs.Stands.{Tells}
use Rattle.com_refs_holders.specs.Tables.{Tables, books_of, owns_of}
use Rattle.com_reference_moves.specs.declared.moves.Move.{Move}
use Rattle.com_refs.specs.Totals.{Totals}
use Rattle.com_refs.proofs.Ties.{counts_more, counts_less}
use Rattle.com_refs.proofs.Ends.{ends_again}
use Rattle.com_refs_rows.specs.Moving.{moves_at, plus, AllBelow, Ended}

pub same_counts : (n : ℕ) (p q : ℕ → ℕ → ℕ) (t : Tables) → ((c x : ℕ) → p c x ≡ q c x) → Counts n p t → Counts n q t
same_counts n p q t e c = subst (λ (f : ℕ → ℕ → ℕ). Counts n f t) (fun_ext (λ a. fun_ext (λ x. e a x))) c

pub gained : (n : ℕ) (places : ℕ → ℕ → ℕ) (t u : Tables) (m : Move) → OneMore t u m.apartment m.reference.object (owns_of t.objects m.reference.object m.apartment) → m.apartment < n → Counts n places t → Counts n (plus places (m ∷ [])) u
gained n places t u m more below counts =
    counts_more n places (plus places (m ∷ [])) t u m.apartment m.reference.object (owns_of t.objects m.reference.object m.apartment) counts more refl below (λ c x. omega arith)

pub lost : (n : ℕ) (later : ℕ → ℕ → ℕ) (t u : Tables) (m : Move) → OneLess t u m.apartment m.reference.object (owns_of t.objects m.reference.object m.apartment) → m.apartment < n → Counts n (plus later (m ∷ [])) t → Counts n later u
lost n later t u m less below counts =
    counts_less n (plus later (m ∷ [])) later t u m.apartment m.reference.object (owns_of t.objects m.reference.object m.apartment) counts less refl below (λ c x. omega arith)

pub moves_append : (xs ys : List Move) (c x : ℕ) → moves_at (xs ++ ys) c x ≡ moves_at xs c x + moves_at ys c x
moves_append [] ys c x = omega arith
moves_append (m ∷ xs) ys c x = omega (arith, moves_append xs ys c x)

pub below_at : (n : ℕ) (ms : List Move) (k : ℕ) (d : Move) → k < length ms → AllBelow n ms → (get_or ms k d).apartment < n
below_at n [] k d h a = absurd (omega (arith, h))
below_at n (m ∷ ms) zero d h a = a.0
below_at n (m ∷ ms) (suc k) d h a = below_at n ms k d (omega (arith, h)) a.1

-- What the first of a list bring.
abbrev pub GainedSome : List Move → ℕ → (t u : Tables) → Type 0
GainedSome ms k t u = (n : ℕ) (places : ℕ → ℕ → ℕ) → AllBelow n ms → Counts n places t → Counts n (plus places (take k ms)) u

pub gained_none : (ms : List Move) (t : Tables) → GainedSome ms 0 t t
gained_none ms t n places below counts = same_counts n places (plus places []) t (λ c x. omega arith) counts

pub gained_next : (ms : List Move) (k : ℕ) (d : Move) (t v u : Tables) → k < length ms → GainedSome ms k t v
    → ((n : ℕ) (places : ℕ → ℕ → ℕ) → (get_or ms k d).apartment < n → Counts n places v → Counts n (plus places (get_or ms k d ∷ [])) u)
    → GainedSome ms (k + 1) t u
gained_next ms k d t v u within some one n places below counts =
    same_counts n (plus (plus places (take k ms)) (get_or ms k d ∷ [])) (plus places (take (k + 1) ms)) u (λ c x. grows c x)
    (one n (plus places (take k ms)) (below_at n ms k d within below) (some n places below counts))
  where
    grows : (c x : ℕ) → plus (plus places (take k ms)) (get_or ms k d ∷ []) c x ≡ plus places (take (k + 1) ms) c x
    grows c x = omega (arith, ap (λ (l : List Move). moves_at l c x) (take_more ms k d within), moves_append (take k ms) (get_or ms k d ∷ []) c x)

-- What is left of a list is still to be lost.
abbrev pub EndedSome : List Move → ℕ → (t u : Tables) → Type 0
EndedSome ms k t u = (n : ℕ) (later : ℕ → ℕ → ℕ) → AllBelow n ms → Counts n (plus later ms) t → Ended n (plus later (drop k ms)) t u

pub ended_none : (ms : List Move) (t : Tables)
    → ((n : ℕ) (places : ℕ → ℕ → ℕ) → Counts n places t → Tells n places t) → ((n : ℕ) (places : ℕ → ℕ → ℕ) → Counts n places t → Totals n places t)
    → ((n : ℕ) (places : ℕ → ℕ → ℕ) → Tells n places t → Totals n places t → ends n places (books_of t) ≡ books_of t)
    → EndedSome ms 0 t t
ended_none ms t tells totals rests n later below counts = record {
  counts = counts;
  books = sym (rests n (plus later ms) (tells n (plus later ms) counts) (totals n (plus later ms) counts));
}

-- The next of what is still to be lost.
pub falls_one : (ms : List Move) (k : ℕ) (d : Move) (later : ℕ → ℕ → ℕ) → k < length ms → (c x : ℕ) → plus later (drop k ms) c x ≡ plus (plus later (drop (k + 1) ms)) (get_or ms k d ∷ []) c x
falls_one ms k d later within c x =
    let next : moves_at (drop (k + 1) ms) c x ≡ moves_at (drop (suc k) ms) c x = ap (λ (j : ℕ). moves_at (drop j ms) c x) (add-one k) in
    omega (arith, next, ap (λ (l : List Move). moves_at l c x) (drop-cons ms k d within))

pub ended_next : (ms : List Move) (k : ℕ) (d : Move) (t v u : Tables) → k < length ms → EndedSome ms k t v
    → ((n : ℕ) (later : ℕ → ℕ → ℕ) → (get_or ms k d).apartment < n → Counts n (plus later (get_or ms k d ∷ [])) v → Ended n later v u)
    → EndedSome ms (k + 1) t u
ended_next ms k d t v u within some one n later below counts =
    let before : Ended n (plus later (drop k ms)) t v = some n later below counts in
    let last : Ended n (plus later (drop (k + 1) ms)) v u = one n (plus later (drop (k + 1) ms)) (below_at n ms k d within below) (same_counts n (plus later (drop k ms)) (plus (plus later (drop (k + 1) ms)) (get_or ms k d ∷ [])) v (λ c x. falls_one ms k d later within c x) before.counts) in
    record {
      counts = last.counts;
      books = last.books ∙ ap (λ (b : Books). ends n (plus later (drop (k + 1) ms)) b) before.books ∙ ends_again n (plus later (drop k ms)) (plus later (drop (k + 1) ms)) (books_of t) (λ c x. omega (arith, falls_one ms k d later within c x));
    }

pub ended_all : (ms : List Move) (k : ℕ) (t u : Tables) → drop k ms ≡ [] → EndedSome ms k t u → (n : ℕ) (later : ℕ → ℕ → ℕ) → AllBelow n ms → Counts n (plus later ms) t → Ended n later t u
ended_all ms k t u none some n later below counts =
    let done : Ended n (plus later (drop k ms)) t u = some n later below counts in
    subst (λ (f : ℕ → ℕ → ℕ). Ended n f t u) (fun_ext (λ c. fun_ext (λ x. left c x))) done
  where
    left : (c x : ℕ) → plus later (drop k ms) c x ≡ later c x
    left c x = omega (arith, ap (λ (l : List Move). moves_at l c x) none)

pub drop_none : (ms : List Move) (k : ℕ) → length ms ≤ k → drop k ms ≡ []
drop_none [] zero h = refl
drop_none [] (suc k) h = refl
drop_none (m ∷ ms) zero h = absurd (omega (arith, h))
drop_none (m ∷ ms) (suc k) h = drop_none ms k (omega (arith, h))

take_whole : (ms : List Move) (k : ℕ) → length ms ≤ k → take k ms ≡ ms
take_whole [] zero h = refl
take_whole [] (suc k) h = refl
take_whole (m ∷ ms) zero h = absurd (omega (arith, h))
take_whole (m ∷ ms) (suc k) h = ap (λ (l : List Move). m ∷ l) (take_whole ms k (omega (arith, h)))

pub gained_all : (ms : List Move) (k : ℕ) (t u : Tables) → length ms ≤ k → GainedSome ms k t u → (n : ℕ) (places : ℕ → ℕ → ℕ) → AllBelow n ms → Counts n places t → Counts n (plus places ms) u
gained_all ms k t u h some n places below counts =
    same_counts n (plus places (take k ms)) (plus places ms) u (λ c x. omega (arith, ap (λ (l : List Move). moves_at l c x) (take_whole ms k h))) (some n places below counts)

-- ---- what stands first

abbrev pub no_move : Move
no_move = record { apartment = 0; reference = record { object = 0; iface = 0 } }

abbrev pub AgreeTo : ℕ → (xs ys : List Move) → Type 0
AgreeTo n xs ys = (k : ℕ) → k < n → get_or xs k no_move ≡ get_or ys k no_move

pub kept_all : (xs ys : List Move) (n : ℕ) → n ≡ length xs → n ≤ length ys → AgreeTo n xs ys → ys ≡ xs ++ drop n ys
kept_all [] ys zero e l a = refl
kept_all [] ys (suc n) e l a = absurd (omega (arith, e))
kept_all (x ∷ xs) ys zero e l a = absurd (omega (arith, e))
kept_all (x ∷ xs) [] (suc n) e l a = absurd (omega (arith, l))
kept_all (x ∷ xs) (y ∷ ys) (suc n) e l a =
    let first : y ≡ x = sym (a 0 (omega arith)) in
    let rest : ys ≡ xs ++ drop n ys = kept_all xs ys n (omega (arith, e)) (omega (arith, l)) (λ k h. a (suc k) (omega (arith, h))) in
    λ i. first i ∷ rest i

pub below_both : (n : ℕ) (xs ys : List Move) → AllBelow n (xs ++ ys) → AllBelow n xs × AllBelow n ys
below_both n [] ys p = (tt, p)
below_both n (x ∷ xs) ys p = let rest : AllBelow n xs × AllBelow n ys = below_both n xs ys p.1 in ((p.0, rest.0), rest.1)
