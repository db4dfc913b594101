-- What the packets of one call hold is what was foreseen.
use Rattle.std.specs.Prelude.{map}
use Rattle.std.specs.List.{AllByRecursion}
use Rattle.std.proofs.Common.{◌≡◌, ℕ, suc, ◌+◌, ◌<◌, ◌≤◌, Bool, List, [], ◌∷◌, ◌++◌, length, get_or, take, drop, refl, sym, ap, ◌∙◌, append_assoc, append-nil, arith}
use Rattle.std.proofs.lemmas.List.{take_more}
use Rattle.std.proofs.lemmas.Grind.{common_steps}
use Rattle.std.proofs.Math.Seq.{drop-cons}
use Rattle.std.proofs.Math.ListN.{drop_of_length-le}
use Rattle.com_base.specs.declared.value.MarshalMode.TheVariants as marshal
use Rattle.com_refs_books.specs.Changes.{Books, Row, Marshals, change, changed, marshal_all, entered_rows}
use Rattle.com_exchange.specs.declared.preview.Outgoing.{Outgoing}
use Rattle.com_exchange.specs.Previews.{IsOutgoing, reference_of, refs_in, after_one, left_after, refs_if_connected, previewed}

-- ---- the loops

pub left_next : (ys : List Outgoing) (x y : Outgoing) (i n m total : ℕ) → i < length ys → y ≡ get_or ys i y
    → m ≡ after_one y x n → left_after (drop i ys) x n ≡ total → left_after (drop (i + 1) ys) x m ≡ total
left_next ys x y i n m total within is m_is so_far =
    let split : drop i ys ≡ y ∷ drop (suc i) ys = drop-cons ys i y within ∙ ap (λ (z : Outgoing). z ∷ drop (suc i) ys) (sym is) in
    let more : suc i ≡ i + 1 = omega arith in
    ap (λ (k : ℕ). left_after (drop k ys) x m) (sym more) ∙ ap (λ (k : ℕ). left_after (drop (suc i) ys) x k) m_is
    ∙ ap (λ (l : List Outgoing). left_after l x n) (sym split) ∙ so_far

pub left_all : (ys : List Outgoing) (x : Outgoing) (i n total : ℕ) → length ys ≤ i → left_after (drop i ys) x n ≡ total → n ≡ total
left_all ys x i n total past so_far =
    let none : drop i ys ≡ [] = drop_of_length-le ys past in
    ap (λ (l : List Outgoing). left_after l x n) (sym none) ∙ so_far

abbrev pub PreviewedSoFar : List Outgoing → ℕ → List ℕ → Type 0
PreviewedSoFar xs i refs = refs ++ previewed (take i xs) (drop i xs) ≡ previewed [] xs

pub previewed_more : (xs : List Outgoing) (i : ℕ) (refs new : List ℕ) (x : Outgoing) → i < length xs → x ≡ get_or xs i x
    → new ≡ refs ++ refs_if_connected x (left_after (take i xs) x x.held) → PreviewedSoFar xs i refs → PreviewedSoFar xs (i + 1) new
previewed_more xs i refs new x within is new_is so_far =
    let split : drop i xs ≡ x ∷ drop (suc i) xs = drop-cons xs i x within ∙ ap (λ (z : Outgoing). z ∷ drop (suc i) xs) (sym is) in
    let more : suc i ≡ i + 1 = omega arith in
    let front : take i xs ++ x ∷ [] ≡ take (i + 1) xs = ap (λ (z : Outgoing). take i xs ++ z ∷ []) is ∙ sym (take_more xs i x within) in
    let here : List ℕ = refs_if_connected x (left_after (take i xs) x x.held) in
    ap (λ (l : List ℕ). l ++ previewed (take (i + 1) xs) (drop (i + 1) xs)) new_is
    ∙ append_assoc refs here (previewed (take (i + 1) xs) (drop (i + 1) xs))
    ∙ ap (λ (k : ℕ). refs ++ (here ++ previewed (take (i + 1) xs) (drop k xs))) (sym more)
    ∙ ap (λ (l : List Outgoing). refs ++ (here ++ previewed l (drop (suc i) xs))) (sym front)
    ∙ ap (λ (l : List Outgoing). refs ++ previewed (take i xs) l) (sym split) ∙ so_far

pub previewed_all : (xs : List Outgoing) (i : ℕ) (refs : List ℕ) → length xs ≤ i → PreviewedSoFar xs i refs → refs ≡ previewed [] xs
previewed_all xs i refs past so_far =
    let none : drop i xs ≡ [] = drop_of_length-le xs past in
    sym (append-nil refs) ∙ ap (λ (l : List Outgoing). refs ++ previewed (take i xs) l) (sym none) ∙ so_far

-- ---- one reference

left_snoc : (ys : List Outgoing) (y x : Outgoing) (n : ℕ) → left_after (ys ++ y ∷ []) x n ≡ after_one y x (left_after ys x n)
left_snoc [] y x n = refl
left_snoc (z ∷ ys) y x n = left_snoc ys y x (after_one z x n)

-- the row of a reference
abbrev row_of : ℕ → Outgoing → Row
row_of a x = Marshals a marshal.Normal x.object x.iface

abbrev after_row : (owned : ℕ → ℕ → Bool) → Books → ℕ → Outgoing → Books
after_row owned b a x = changed b (change owned b (row_of a x))

live_after : (owned : ℕ → ℕ → Bool) (b : Books) (a : ℕ) (x : Outgoing) (o : ℕ) → (after_row owned b a x).live o ≡ b.live o
live_after owned b a x o = grind (arith, common_steps)

proxy_after : (owned : ℕ → ℕ → Bool) (b : Books) (a : ℕ) (y x : Outgoing) → owned y.object a ≡ y.is_owned → b.live y.object ≡ y.is_connected
    → (after_row owned b a y).proxy a x.object x.iface ≡ after_one y x (b.proxy a x.object x.iface)
proxy_after owned b a y x own live = grind (arith, common_steps, own, live)

packets_after : (owned : ℕ → ℕ → Bool) (b : Books) (a : ℕ) (x : Outgoing) → owned x.object a ≡ x.is_owned → b.live x.object ≡ x.is_connected
    → map refs_in (after_row owned b a x).packets ≡ map refs_in b.packets ++ refs_if_connected x (b.proxy a x.object x.iface)
packets_after owned b a x own live = grind (arith, common_steps, own, live)

-- ---- all references

-- the books say of a reference what stands in its row, after others were marshalled
record Stands (owned : ℕ → ℕ → Bool) (b : Books) (a : ℕ) (before : List Outgoing) (x : Outgoing) : Type 0 where
  pub owned_so : owned x.object a ≡ x.is_owned
  pub live_so : b.live x.object ≡ x.is_connected
  pub held_so : b.proxy a x.object x.iface ≡ left_after before x x.held

all_first : (owned : ℕ → ℕ → Bool) (b : Books) (a : ℕ) (xs : List Outgoing) → AllByRecursion (IsOutgoing owned b a) xs
    → AllByRecursion (Stands owned b a []) xs
all_first owned b a [] all = tt
all_first owned b a (x ∷ xs) all =
    (record { owned_so = all.0.owned; live_so = all.0.connected; held_so = all.0.held }, all_first owned b a xs all.1)

one_later : (owned : ℕ → ℕ → Bool) (b : Books) (a : ℕ) (before : List Outgoing) (y x : Outgoing) → Stands owned b a before y
    → Stands owned b a before x → Stands owned (after_row owned b a y) a (before ++ y ∷ []) x
one_later owned b a before y x first so = record {
  owned_so = so.owned_so;
  live_so = live_after owned b a y x.object ∙ so.live_so;
  held_so = proxy_after owned b a y x first.owned_so first.live_so ∙ ap (after_one y x) so.held_so
      ∙ sym (left_snoc before y x x.held);
}

all_later : (owned : ℕ → ℕ → Bool) (b : Books) (a : ℕ) (before : List Outgoing) (y : Outgoing) (xs : List Outgoing)
    → Stands owned b a before y → AllByRecursion (Stands owned b a before) xs
    → AllByRecursion (Stands owned (after_row owned b a y) a (before ++ y ∷ [])) xs
all_later owned b a before y [] first all = tt
all_later owned b a before y (x ∷ xs) first all =
    (one_later owned b a before y x first all.0, all_later owned b a before y xs first all.1)

abbrev refs_after : (owned : ℕ → ℕ → Bool) → Books → ℕ → List Outgoing → List ℕ
refs_after owned b a xs = map refs_in (entered_rows owned b (marshal_all a (map reference_of xs))).packets

refs_stand : (owned : ℕ → ℕ → Bool) (b : Books) (a : ℕ) (before xs : List Outgoing) → AllByRecursion (Stands owned b a before) xs
    → refs_after owned b a xs ≡ map refs_in b.packets ++ previewed before xs
refs_stand owned b a before [] all = sym (append-nil (map refs_in b.packets))
refs_stand owned b a before (x ∷ xs) all =
    let later = all_later owned b a before x xs all.0 all.1 in
    let old : List ℕ = map refs_in b.packets in
    let rest : List ℕ = previewed (before ++ x ∷ []) xs in
    refs_stand owned (after_row owned b a x) a (before ++ x ∷ []) xs later
    ∙ ap (λ (l : List ℕ). l ++ rest) (packets_after owned b a x all.0.owned_so all.0.live_so)
    ∙ ap (λ (n : ℕ). (old ++ refs_if_connected x n) ++ rest) all.0.held_so
    ∙ append_assoc old (refs_if_connected x (left_after before x x.held)) rest

pub packets_hold : (xs : List Outgoing) (refs : List ℕ) → refs ≡ previewed [] xs → (owned : ℕ → ℕ → Bool) (b : Books) (a : ℕ)
    → AllByRecursion (IsOutgoing owned b a) xs
    → map refs_in (entered_rows owned b (marshal_all a (map reference_of xs))).packets ≡ map refs_in b.packets ++ refs
packets_hold xs refs is owned b a all =
    refs_stand owned b a [] xs (all_first owned b a xs all) ∙ ap (λ (l : List ℕ). map refs_in b.packets ++ l) (sym is)
