-- What the tables of a ledger say of the state that it is tied to, and the ties of the new ledger.
use mathlib.Core.Path.{fun_ext}
use Rattle.std.proofs.Common.{◌≡◌, refl, sym, ap, ◌∙◌, subst, arith, eqb-true, ℕ, zero, suc, Bool, true, false, cond, not, eqb, ◌&&◌, ◌+◌, ◌*◌, ◌<◌, ◌≤◌, ◌||◌, List, [], length}
use Rattle.std.proofs.lemmas.Grind.{common_steps}
use Rattle.std.specs.Prelude.{None}
use Rattle.com_refs_books.specs.Changes.{Books, no_books, held_outside}
use Rattle.com_refs_books.specs.Counting.{sum_below}
use Rattle.com_refs_books.proofs.Sums.{sum-nothing}
use Rattle.com_refs_holders.specs.declared.ObjectRow.{ObjectRow}
use Rattle.com_refs_holders.specs.Places.{Counts, locals_of, places_of}
use Rattle.com_refs_holders.specs.Tables.{Tables, books_by, books_of, direct_in, no_object, object_in, owns_of}
use Rattle.com_model.specs.declared.scenario.Scenario.{Scenario}
use Rattle.com_model.specs.Books.{holders_in}
use Rattle.com_model.specs.Calls.{is_direct, route_of}
use Rattle.com_model.specs.Frames.{Scene, scene}
use Rattle.com_model.specs.Lists.{is_number}
use Rattle.com_model.specs.Places.{Ground, Test, ground, all_places, direct_places, entered_in, in_bodies, in_links, in_result, in_results, in_scripts, in_slots, places, places_that, to_object}
use Rattle.com_model.specs.State.{State, StandsFor, books_in, first_tables, ground_in, named_in, next_sta_in, owns_in, scene_in}
use Rattle.com_model.specs.Tables.{threads, lanes}
use Rattle.com_model.proofs.Sights.{same-books, same-ground, same-scene}
use Rattle.com_model.proofs.Whole.{first-stands}
use Rattle.com_proxy.specs.declared.ProxyRow.{ProxyRow}
use Rattle.com_refs.specs.Counts.{holders_of, outside_of}
use Rattle.com_refs.specs.Totals.{Totals}
use Rattle.com_stub.specs.StubRows.{is_connected}
use Rattle.com_refs_rows.specs.declared.calls.CallPackets.{CallPackets}
use Rattle.com_refs_rows.specs.Books.{Held, books_held}
use Rattle.com_refs_rows.specs.Calls.{arguments_in, result_in}
use Rattle.com_ledger.specs.Ties.{AllTouched, Notes, OffersTie, OwnersTie, Ties, IsNew, places_at, holders_at}

-- ---- holders

-- What a connected object has, and what another has.
holders-split : (t : Tables) (s : Scenario) (g : Ground) (w : Scene) (b : Books) (o : ℕ)
    → held_outside (books_of t) o ≡ held_outside b o → (books_of t).live o ≡ b.live o
    → direct_in t o + locals_of o t.proxies ≡ all_places s g w o → direct_in t o ≡ direct_places s g w o
    → holders_of t o ≡ holders_in s g w b o
holders-split t s g w b o outside live all direct =
    let held : direct_in t o + outside_of t o ≡ all_places s g w o + held_outside b o = omega (arith, outside, all) in
    λ i. cond (live i) (held i) (direct i)

pub holders-tie : (s : Scenario) (st : State) (w : Held) (o : ℕ) → Ties s st w → holders_of w.tables o ≡ holders_at s st o
holders-tie s st w o p =
    let all : sum_below (next_sta_in st) (λ a. places_at s st a o) ≡ direct_in w.tables o + locals_of o w.tables.proxies = p.totals.total o in
    let owned : sum_below (next_sta_in st) (λ a. cond (owns_of w.tables.objects o a) (places_at s st a o) 0) ≡ direct_in w.tables o = p.counts.direct o in
    let same : sum_below (next_sta_in st) (λ a. cond (owns_of w.tables.objects o a) (places_at s st a o) 0) ≡ sum_below (next_sta_in st) (λ a. cond (owns_in s st o a) (places_at s st a o) 0) =
    λ i. sum_below (next_sta_in st) (λ a. cond (p.objects.owns o a i) (places_at s st a o) 0) in
    holders-split w.tables s (ground_in s st) (scene_in st) (books_in st) o
    (ap (λ (b : Books). held_outside b o) p.books)
    (ap (λ (b : Books). b.live o) p.books)
    (sym all)
    (sym owned ∙ same)

-- ---- the new ledger

cond-none : (b : Bool) (x : ℕ) → x ≡ 0 → cond b x 0 ≡ 0
cond-none true x e = e
cond-none false x e = refl

either-none : (b : Bool) → cond b zero zero ≡ 0
either-none true = refl
either-none false = refl

no-slots : (s : Scenario) (t : Test) (l : ℕ) → in_slots t ((scene s []).scripts l).slots ≡ 0
no-slots s t l = refl

no-links : (s : Scenario) (t : Test) (o : ℕ) → in_slots t ((scene s []).cells o).links ≡ 0
no-links s t o = refl

no-places : (s : Scenario) (a : ℕ) (t : Test) → places_that s (ground s []) (scene s []) a t ≡ 0
no-places s a t =
    let scripts : in_scripts s (ground s []) (scene s []) a t ≡ 0 =
    sum-nothing (threads s + 1) (λ l. cond (is_number a ((ground s []).home l)) (in_slots t ((scene s []).scripts l).slots) 0) (λ l. cond-none (is_number a ((ground s []).home l)) (in_slots t ((scene s []).scripts l).slots) (no-slots s t l)) in
    let bodies : in_bodies s (ground s []) (scene s []) a t ≡ 0 = sum-nothing (lanes s + 1) (λ l. 0) (λ l. refl) in
    let links : in_links (ground s []) (scene s []) a t ≡ 0 =
    sum-nothing 1 (λ o. cond (eqb ((ground s []).named o) a) (in_slots t ((scene s []).cells o).links) 0) (λ o. cond-none (eqb ((ground s []).named o) a) (in_slots t ((scene s []).cells o).links) (no-links s t o)) in
    let results : in_results (ground s []) a t ≡ 0 = sum-nothing 1 (in_result (ground s []) a t) (λ c. either-none (is_direct (route_of ((ground s []).issue c)) && (entered_in a ((ground s []).admitted c) && not ((ground s []).returned c)))) in
    omega (arith, scripts, bodies, links, results)

first-places : (s : Scenario) (a o : ℕ) → places_at s (first_tables s) a o ≡ 0
first-places s a o =
    let p : StandsFor s (first_tables s) [] = first-stands s in
    let g : ground_in s (first_tables s) ≡ ground s [] = same-ground s (first_tables s) [] p.lanes p.apartments p.objects p.calls in
    let w : scene_in (first_tables s) ≡ scene s [] = same-scene (scene_in (first_tables s)) (scene s []) p.scene in
    (λ i. places s (g i) (w i) a o) ∙ no-places s a (to_object o)

no-row : (o : ℕ) → object_in [] o ≡ no_object
no-row zero = refl
no-row (suc o) = refl

no-arguments : (c : ℕ) → arguments_in [] c ≡ []
no-arguments zero = refl
no-arguments (suc c) = refl

no-result : (c : ℕ) → result_in [] c ≡ None
no-result zero = refl
no-result (suc c) = refl

-- The books of a ledger where nothing is held.
new-books : (w : Held) → IsNew w → books_of w.tables ≡ record { stub = λ o i. 0; proxy = λ a o i. 0; packets = []; cookies = []; live = λ o. false; arguments = λ c. []; result = λ c. None }
unfolding books_of
new-books w p = λ i. books_by (is_connected (p.stubs i)) w.tables.counters (p.proxies i) (p.packets i) (p.cookies i)

new-held : (w : Held) → IsNew w → books_held w ≡ no_books
new-held w p =
    let b : books_of w.tables ≡ no_books = new-books w p in
    (λ i. record (b i) { arguments = arguments_in (p.calls i); result = result_in (p.calls i) })
    ∙ (λ i. record no_books { arguments = λ c. no-arguments c i; result = λ c. no-result c i })

turned : (a b : ℕ) → eqb a b ≡ eqb b a
turned a b = grind (arith, common_steps)

first-owns : (s : Scenario) (o a : ℕ) → eqb 0 a ≡ owns_in s (first_tables s) o a
first-owns s zero a = turned 0 a
first-owns s (suc o) a = turned 0 a

new-owns : (s : Scenario) (w : Held) (o a : ℕ) → IsNew w → owns_of w.tables.objects o a ≡ owns_in s (first_tables s) o a
unfolding owns_of
new-owns s w o a p =
    let row : object_in w.tables.objects o ≡ no_object = ap (λ (rows : List ObjectRow). object_in rows o) p.objects ∙ no-row o in
    ap (λ (r : ObjectRow). r.agile || eqb r.owner a) row ∙ first-owns s o a

first-named : (s : Scenario) (o : ℕ) → zero ≡ named_in (first_tables s) o
first-named s zero = refl
first-named s (suc o) = refl

no-direct : (w : Held) (o : ℕ) → IsNew w → direct_in w.tables o ≡ 0
no-direct w o p = ap (λ (rows : List ObjectRow). (object_in rows o).direct) p.objects ∙ ap (λ (r : ObjectRow). r.direct) (no-row o)

new-counts : (w : Held) → IsNew w → Counts 3 (λ a o. 0) w.tables
new-counts w p = record {
  direct = λ o. sum-nothing 3 _ (λ a. either-none (owns_of w.tables.objects o a)) ∙ sym (no-direct w o p);
  elsewhere = λ a o l e. sym (ap (λ (rows : List ProxyRow). places_of a o rows) p.proxies);
  past = λ a o l. ap (λ (rows : List ProxyRow). places_of a o rows) p.proxies;
}

new-totals : (w : Held) → IsNew w → Totals 3 (λ a o. 0) w.tables
new-totals w p = record {
  total = λ o.
      let locals : locals_of o w.tables.proxies ≡ 0 = ap (λ (rows : List ProxyRow). locals_of o rows) p.proxies in
      omega (arith, locals, no-direct w o p, sum-nothing 3 (λ a. 0) (λ a. refl));
}

none-true : false ≡ true → ⊥
none-true e = cc

-- No object was made, and no class has number 0.
first-offers : (s : Scenario) (w : Held) → OffersTie s (first_tables s) w
first-offers s w zero i h = absurd (none-true h)
first-offers s w (suc o) i h = absurd (none-true h)

pub first-tied : (s : Scenario) (w : Held) → IsNew w → Ties s (first_tables s) w
first-tied s w p =
    let none : places_at s (first_tables s) ≡ (λ a o. 0) = fun_ext (λ a. fun_ext (λ o. first-places s a o)) in
    let first : StandsFor s (first_tables s) [] = first-stands s in
    record {
      books = new-held w p ∙ sym (same-books (books_in (first_tables s)) no_books first.books);
      counts = subst (λ (f : ℕ → ℕ → ℕ). Counts 3 f w.tables) (sym none) (new-counts w p);
      totals = subst (λ (f : ℕ → ℕ → ℕ). Totals 3 f w.tables) (sym none) (new-totals w p);
      objects = record {
        number = ap (λ (rows : List ObjectRow). length rows) p.objects;
        owns = λ o a. new-owns s w o a p;
      };
      offers = first-offers s w;
      calls = ap (λ (rows : List CallPackets). length rows) p.calls;
      issued = subst (λ (n : ℕ). n ≤ 32 * 0) (sym p.issued) (omega arith);
    }

-- ---- what lost its last holder

some-held : (n : ℕ) → eqb n 0 ≡ false → 0 < n
some-held zero e = cc
some-held (suc n) e = omega arith

pub losses-touched : (s : Scenario) (st su : State) (w u : Held) (touched : List ℕ) → Ties s st w → Ties s su u → Notes w.tables u.tables touched → AllTouched s st su touched
losses-touched s st su w u touched p q t o low held none =
    let was : holders_of w.tables o ≡ holders_at s st o = holders-tie s st w o p in
    let is : holders_of u.tables o ≡ holders_at s su o = holders-tie s su u o q in
    let some : 0 < holders_at s st o = some-held (holders_at s st o) held in
    t.all o low (omega (arith, was, some)) (is ∙ eqb-true (holders_at s su o) 0 none)

pub first-owners : (s : Scenario) (w : Held) → IsNew w → OwnersTie (first_tables s) w
first-owners s w p o = ap (λ (rows : List ObjectRow). (object_in rows o).owner) p.objects ∙ ap (λ (r : ObjectRow). r.owner) (no-row o) ∙ first-named s o
