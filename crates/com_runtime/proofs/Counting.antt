-- What a report counts by the tables is what it counts after the history that they stand for.
use Rattle.std.proofs.Common.{sym, ◌∙◌, ap, arith}
use Rattle.std.specs.Prelude.{◌≡◌, refl, ℕ, suc, ◌+◌, List, [], ◌∷◌, ◌++◌, length, map, sum_by}
use Rattle.com_refs_books.specs.Counting.{sum_below}
use Rattle.com_refs_books.specs.Changes.{in_normal, in_table, in_cookie}
use Rattle.com_model.specs.declared.counts.Counts.{Counts}
use Rattle.com_model.specs.declared.deeds.Entry.{Entry}
use Rattle.com_model.specs.declared.scenario.Scenario.{Scenario}
use Rattle.com_model.specs.Lists.{one_to}
use Rattle.com_model.specs.Objects.{named, class_of}
use Rattle.com_model.specs.Places.{ground, direct_places}
use Rattle.com_model.specs.Frames.{scene}
use Rattle.com_model.specs.Books.{books}
use Rattle.com_model.specs.Ends.{state_of, over_interfaces, counts_of, all_counts}
use Rattle.com_model.specs.State.{State, StandsFor, scene_in, books_in, ground_in, named_in, class_in, objects_in}
use Rattle.com_model.proofs.Sights.{same-scene, same-books, same-ground, same-named, same-class}
use Rattle.com_runtime.specs.Reports.{counts_in, all_counts_in}

counted : (s : Scenario) (st : State) (h : List Entry) (o : ℕ) → StandsFor s st h → counts_in s st o ≡ counts_of s h o
unfolding counts_in
counted s st h o p =
    let g : ground_in s st ≡ ground s h = same-ground s st h p.lanes p.apartments p.objects p.calls in
    let w : scene_in st ≡ scene s h = same-scene (scene_in st) (scene s h) p.scene in
    let b : books_in st ≡ books s h = same-books (books_in st) (books s h) p.books in
    let n : named_in st ≡ named h = same-named st h p.objects in
    let k : class_in st ≡ class_of h = same-class st h p.objects in
    λ i. record {
      class = k i o;
      owner = n i o;
      state = state_of (p.objects.finaled o i) ((b i).live o);
      direct = direct_places s (g i) (w i) o;
      proxies = sum_below (length (p.apartments.stas i) + 3) (λ a. over_interfaces s ((b i).proxy a o));
      packets = sum_by (in_normal o) (b i).packets;
      tables = sum_by (in_table o) (b i).packets + sum_by (in_cookie o) (b i).cookies;
      stub = over_interfaces s ((b i).stub o);
    }

map-same : (f g : ℕ → Counts) (xs : List ℕ) → ((o : ℕ) → f o ≡ g o) → map f xs ≡ map g xs
map-same f g [] e = refl
map-same f g (x ∷ xs) e = ap (λ (c : Counts). c ∷ map f xs) (e x) ∙ ap (λ (cs : List Counts). g x ∷ cs) (map-same f g xs e)

pub all-counted : (s : Scenario) (st : State) (h : List Entry) → StandsFor s st h → all_counts_in s st ≡ all_counts s h
all-counted s st h p =
    map-same (counts_in s st) (counts_of s h) (one_to (objects_in st)) (λ o. counted s st h o p)
    ∙ ap (λ (n : ℕ). map (counts_of s h) (one_to n)) p.objects.number

pub counted_as : (s : Scenario) (st : State) (h : List Entry) (o : ℕ) → StandsFor s st h → counts_in s st o ≡ counts_of s h o
counted_as s st h o p = counted s st h o p

map-last : (f : ℕ → Counts) (xs : List ℕ) (x : ℕ) → map f (xs ++ x ∷ []) ≡ map f xs ++ f x ∷ []
map-last f [] x = refl
map-last f (y ∷ ys) x = ap (λ (cs : List Counts). f y ∷ cs) (map-last f ys x)

pub one_more_counted : (f : ℕ → Counts) (n : ℕ) (xs : List Counts) (c : Counts) → xs ≡ map f (one_to n) → c ≡ f (n + 1) → xs ++ c ∷ [] ≡ map f (one_to (n + 1))
one_more_counted f n xs c e d =
    let q : suc n ≡ n + 1 = omega arith in
    ap (λ (ys : List Counts). ys ++ c ∷ []) e
    ∙ ap (λ (y : Counts). map f (one_to n) ++ y ∷ []) (d ∙ ap f (sym q))
    ∙ sym (map-last f (one_to n) (suc n))
    ∙ ap (λ (m : ℕ). map f (one_to m)) q

pub one_more_counted_at : (r s : Scenario) (st : State) (n : ℕ) (xs : List Counts) (c : Counts) → r ≡ s → xs ≡ map (counts_in s st) (one_to n) → c ≡ counts_in r st (n + 1) → xs ++ c ∷ [] ≡ map (counts_in s st) (one_to (n + 1))
one_more_counted_at r s st n xs c same e d =
    one_more_counted (counts_in s st) n xs c e (d ∙ ap (λ (x : Scenario). counts_in x st (n + 1)) same)
