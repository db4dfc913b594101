-- A ledger after an entry is tied to the state after it.
use Rattle.std.proofs.Common.{◌≡◌, refl, sym, ap, ◌∙◌, subst, arith, inl, inr, ℕ, zero, suc, Bool, true, false, cond, eqb, ◌&&◌, ◌||◌, ◌+◌, ◌-◌, ◌*◌, ◌<◌, ◌≤◌, ◌⊎◌, List, [], ◌∷◌, length}
use Rattle.std.proofs.lemmas.Bool.{cases_lt}
use Rattle.std.proofs.lemmas.Grind.{common_steps}
use Rattle.std.proofs.lemmas.List.Sums.{sum_by-cons}
use Rattle.std.specs.Prelude.{Option, Some, None, option_map}
use Rattle.com_classes.specs.Lookups.{has_interface}
use Rattle.com_classes.specs.Tables.{Tables as ClassTables}
use Rattle.com_laws_balance.proofs.Counts.{Found, found-place}
use Rattle.com_laws_balance.proofs.Lows.{more-stas}
use Rattle.com_refs_books.specs.Changes.{entered_rows}
use Rattle.com_refs_books.specs.Counting.{count_if}
use Rattle.com_refs_books.specs.Ends.{ends}
use Rattle.com_refs_books.proofs.Sums.{sum-more}
use Rattle.com_refs_holders.specs.Places.{Counts}
use Rattle.com_refs_holders.specs.Tables.{Tables, offers, owns_of}
use Rattle.com_model.specs.declared.deeds.Deed.{Deed}
use Rattle.com_model.specs.declared.deeds.Entry.{Entry}
use Rattle.com_model.specs.declared.keeps.Making.{Making}
use Rattle.com_model.specs.declared.scenario.Scenario.{Scenario}
use Rattle.com_model.specs.Apartments.{apartments, makes_sta, next_sta, stas}
use Rattle.com_model.specs.Books.{books, kept, rows}
use Rattle.com_model.specs.Endings.{is_leave}
use Rattle.com_model.specs.Formed.{Formed}
use Rattle.com_model.specs.Frames.{scene}
use Rattle.com_model.specs.Lists.{number_or_zero}
use Rattle.com_model.specs.Objects.{class_of, made_or, makes, making, named, one_more}
use Rattle.com_model.specs.Places.{Ground, ground, places, to_object}
use Rattle.com_model.specs.Rules.{legal}
use Rattle.com_model.specs.Sight.{sight}
use Rattle.com_model.specs.State.{State, StandsFor, after, books_in, ground_in, issued_by, named_in, next_of, next_sta_in, scene_in, sight_of}
use Rattle.com_model.specs.Tables.{is_agile_class}
use Rattle.com_model.proofs.Kept.{legal-bounded}
use Rattle.com_model.proofs.Rowed.{after-rows}
use Rattle.com_model.proofs.Sights.{same-books, same-class, same-ground, same-named, same-next, same-scene, same-sight}
use Rattle.com_model.proofs.Tabled.{length-grown}
use Rattle.com_model.proofs.Whole.{whole-after}
use Rattle.com_reference_moves.specs.declared.moves.Move.{Move}
use Rattle.com_reference_moves.specs.Steps.{moving_of, movings_of}
use Rattle.com_reference_moves.specs.Tables.{moves_in, PlacesMoveIn}
use Rattle.com_reference_moves.proofs.Stands.{moves-places}
use Rattle.com_laws_places.specs.Moves.{Move as Moving, counted}
use Rattle.com_laws_unchanged.specs.Ends.{books_entered, connected, history_entered}
use Rattle.com_laws_unchanged.proofs.Endings.{history-end}
use Rattle.com_laws_release.proofs.Lives.{place-low}
use Rattle.com_refs_rows.specs.Books.{Held}
use Rattle.com_refs_rows.specs.Moving.{moves_at, plus, AllBelow}
use Rattle.com_refs_rows.specs.Owners.{OffersMore, offers_made}
use Rattle.com_ledger.specs.Ties.{EntryEnds, ObjectsGrow, ObjectsTie, OffersTie, OwnersGrow, OwnersTie, Ties, owner_after, owns_after, places_at}
use Rattle.com_ledger.proofs.Lowest.{LowMoves, low-state, moves-low}

-- ---- the state after an entry

pub stands-after : (s : Scenario) (st : State) (h : List Entry) (l : ℕ) (d : Deed) → Formed s → StandsFor s st h → next_of s st l ≡ Some d → StandsFor s (after s st l d) (record { lane = l; deed = d } ∷ h)
stands-after s st h l d f p n =
    let e : Entry = record { lane = l; deed = d } in
    let q : legal s (e ∷ h) = (p.lawful, sym (same-next s st h l p) ∙ n) in
    subst (λ (x : State). StandsFor s x (e ∷ h)) (after-rows s st l d) (whole-after s st h l d q (legal-bounded s (e ∷ h) f q) p)

pub ground-is : (s : Scenario) (st : State) (h : List Entry) → StandsFor s st h → ground_in s st ≡ ground s h
ground-is s st h p = same-ground s st h p.lanes p.apartments p.objects p.calls

-- ---- books

entered-is : (s : Scenario) (st su : State) (h : List Entry) (e : Entry) → StandsFor s st h → StandsFor s su (e ∷ h) → books_entered s st su e ≡ history_entered s h e
entered-is s st su h e p q =
    let v : sight_of s st ≡ sight s h = same-sight s st h p in
    let n : named_in su ≡ named (e ∷ h) = same-named su (e ∷ h) q.objects in
    let g : ground_in s su ≡ ground s (e ∷ h) = ground-is s su (e ∷ h) q in
    λ i. connected e.deed (n i) (kept (v i).books e.deed (entered_rows (g i).owns (v i).books (rows s ((v i).act e.lane) (λ c. is_leave ((v i).ending c)) (v i).books (number_or_zero ((v i).running e.lane)) e.deed)))

-- The books after an entry are those with its rows, at their end for the places after it.
pub books-after : (s : Scenario) (st su : State) (h : List Entry) (e : Entry) → StandsFor s st h → StandsFor s su (e ∷ h) → books_in su ≡ ends (next_sta_in su) (places_at s su) (books_entered s st su e)
unfolding ends
books-after s st su h e p q =
    let g : ground_in s su ≡ ground s (e ∷ h) = ground-is s su (e ∷ h) q in
    let w : scene_in su ≡ scene s (e ∷ h) = same-scene (scene_in su) (scene s (e ∷ h)) q.scene in
    let x : books_entered s st su e ≡ history_entered s h e = entered-is s st su h e p q in
    let y : ends (next_sta_in su) (places_at s su) (books_entered s st su e) ≡ ends (apartments (e ∷ h)) (places s (ground s (e ∷ h)) (scene s (e ∷ h))) (history_entered s h e) =
    λ i. ends (g i).apartments (places s (g i) (w i)) (x i) in
    same-books (books_in su) (books s (e ∷ h)) q.books ∙ history-end s h e ∙ sym y

-- ---- places of apartments that there are not yet

none-or-some : (x : ℕ) → (x ≡ 0) ⊎ (1 ≤ x)
none-or-some zero = inl refl
none-or-some (suc x) = inr (omega arith)

none-past : (s : Scenario) (h : List Entry) (a o : ℕ) → Formed s → legal s h → next_sta h ≤ a → places s (ground s h) (scene s h) a o ≡ 0
none-past s h a o f q l = elim (none-or-some (places s (ground s h) (scene s h) a o)) [
  | inl e ↦ e
  | inr m ↦
      let x : Found s (ground s h) (scene s h) a (to_object o) = found-place s (ground s h) (scene s h) a (to_object o) m in
      let low : a < next_sta h = place-low s h a x.reference f q x.at in
      absurd (omega (arith, l, low))
]

places-past : (s : Scenario) (st : State) (h : List Entry) (a o : ℕ) → Formed s → StandsFor s st h → next_sta_in st ≤ a → places_at s st a o ≡ 0
places-past s st h a o f p l =
    let g : ground_in s st ≡ ground s h = ground-is s st h p in
    let w : scene_in st ≡ scene s h = same-scene (scene_in st) (scene s h) p.scene in
    let same : next_sta_in st ≡ next_sta h = ap (λ (x : Ground). x.apartments) g in
    (λ i. places s (g i) (w i) a o) ∙ none-past s h a o f p.lawful (omega (arith, l, same))

counts-more : (n k : ℕ) (places : ℕ → ℕ → ℕ) (t : Tables) → ((a o : ℕ) → n ≤ a → places a o ≡ 0) → Counts n places t → Counts (n + k) places t
counts-more n k places t none c = record {
  direct = λ o. sum-more n k (λ a. cond (owns_of t.objects o a) (places a o) 0) (λ a l. no-place (owns_of t.objects o a) (places a o) (none a o l)) ∙ c.direct o;
  elsewhere = λ a o l e. elim (cases_lt a n) [
    | inl q ↦ c.elsewhere a o q e
    | inr q ↦ none a o q ∙ sym (c.past a o q)
  ];
  past = λ a o l. c.past a o (omega (arith, l));
} where
  no-place : (b : Bool) (x : ℕ) → x ≡ 0 → cond b x 0 ≡ 0
  no-place true x e = e
  no-place false x e = refl

counts-at : (n m : ℕ) (places : ℕ → ℕ → ℕ) (t : Tables) → n ≤ m → ((a o : ℕ) → n ≤ a → places a o ≡ 0) → Counts n places t → Counts m places t
counts-at n m places t l none c =
    let same : n + (m - n) ≡ m = omega (arith, l) in
    subst (λ (k : ℕ). Counts k places t) same (counts-more n (m - n) places t none c)

pub stas-more : (s : Scenario) (st su : State) (h : List Entry) (e : Entry) → StandsFor s st h → StandsFor s su (e ∷ h) → next_sta_in st ≤ next_sta_in su
stas-more s st su h e p q =
    let old : length st.stas ≡ length (stas h) = ap (λ (xs : List ℕ). length xs) p.apartments.stas in
    let new : length su.stas ≡ length (stas (e ∷ h)) = ap (λ (xs : List ℕ). length xs) q.apartments.stas in
    let more : length (stas h) + 3 ≤ length (stas (e ∷ h)) + 3 = more-stas (stas h) (makes_sta e.deed) in
    omega (arith, old, new, more)

-- ---- moves

turned : (a b : ℕ) → eqb a b ≡ eqb b a
turned a b = grind (arith, common_steps)

pub moves-counted : (ms : List Move) (a o : ℕ) → moves_at ms a o ≡ counted (movings_of ms) a (to_object o)
moves-counted [] a o = refl
moves-counted (m ∷ ms) a o =
    let one : count_if (eqb a m.apartment && eqb o m.reference.object) ≡ count_if (eqb m.apartment a && eqb m.reference.object o) = λ i. count_if (turned a m.apartment i && turned o m.reference.object i) in
    let rest : moves_at ms a o ≡ counted (movings_of ms) a (to_object o) = moves-counted ms a o in
    omega (arith, one, rest, sum_by-cons (λ (x : Moving). count_if (eqb x.apartment a && to_object o x.reference)) (moving_of m) (movings_of ms))

pub places-by-moves : (s : Scenario) (st : State) (h : List Entry) (e : Entry) (gained lost : List Move) → Formed s → legal s (e ∷ h) → StandsFor s st h
    → movings_of gained ≡ (moves_in s st e).gained → movings_of lost ≡ (moves_in s st e).lost
    → (a o : ℕ) → plus (places_at s (after s st e.lane e.deed)) lost a o ≡ plus (places_at s st) gained a o
places-by-moves s st h e gained lost f q p g l a o =
    let moved : PlacesMoveIn s st e = moves-places s st h e f q p in
    let x : moves_at lost a o ≡ counted (moves_in s st e).lost a (to_object o) = moves-counted lost a o ∙ ap (λ (ms : List Moving). counted ms a (to_object o)) l in
    let y : moves_at gained a o ≡ counted (moves_in s st e).gained a (to_object o) = moves-counted gained a o ∙ ap (λ (ms : List Moving). counted ms a (to_object o)) g in
    omega (arith, x, y, moved a (to_object o))

-- ---- objects

owner-made : (m : Option Making) (o : ℕ) (x : Option Making) → owner_after m o (number_or_zero (option_map (λ (k : Making). k.apartment) x)) ≡ number_or_zero (option_map (λ (k : Making). k.apartment) (made_or m o x))
owner-made None o x = refl
owner-made (Some m) o x = elim (eqb m.object o) as (λ b. cond b m.apartment (number_or_zero (option_map (λ (k : Making). k.apartment) x)) ≡ number_or_zero (option_map (λ (k : Making). k.apartment) (cond b (Some m) x))) [ true ↦ refl | false ↦ refl ]

pub owns-made : (s : Scenario) (m : Option Making) (o a : ℕ) (x : Option Making)
    → owns_after s m o a (is_agile_class s (number_or_zero (option_map (λ (k : Making). k.class) x)) || eqb a (number_or_zero (option_map (λ (k : Making). k.apartment) x)))
    ≡ (is_agile_class s (number_or_zero (option_map (λ (k : Making). k.class) (made_or m o x))) || eqb a (number_or_zero (option_map (λ (k : Making). k.apartment) (made_or m o x))))
owns-made s None o a x = refl
owns-made s (Some m) o a x = elim (eqb m.object o) as (λ b. cond b (is_agile_class s m.class || eqb a m.apartment) (is_agile_class s (number_or_zero (option_map (λ (k : Making). k.class) x)) || eqb a (number_or_zero (option_map (λ (k : Making). k.apartment) x))) ≡ (is_agile_class s (number_or_zero (option_map (λ (k : Making). k.class) (cond b (Some m) x))) || eqb a (number_or_zero (option_map (λ (k : Making). k.apartment) (cond b (Some m) x))))) [ true ↦ refl | false ↦ refl ]

pub objects-tie : (s : Scenario) (st su : State) (h : List Entry) (e : Entry) (w u : Held) → StandsFor s st h → StandsFor s su (e ∷ h) → ObjectsTie s st w → ObjectsGrow s e.deed w u → ObjectsTie s su u
objects-tie s st su h e w u p q t g = record {
  number = g.number ∙ ap (one_more (makes e.deed)) (t.number ∙ p.objects.number) ∙ sym q.objects.number;
  owns = λ o a.
      g.owns o a ∙ ap (owns_after s (makes e.deed) o a) (t.owns o a ∙ (λ i. (ground-is s st h p i).owns o a)) ∙ owns-made s (makes e.deed) o a (making h o)
      ∙ sym (λ i. (ground-is s su (e ∷ h) q i).owns o a);
}

pub owners-tie : (s : Scenario) (st : State) (h : List Entry) (l : ℕ) (d : Deed) (w u : Held) → Formed s → StandsFor s st h → next_of s st l ≡ Some d → OwnersTie st w → OwnersGrow d w u → OwnersTie (after s st l d) u
owners-tie s st h l d w u f p n t g o =
    let q : StandsFor s (after s st l d) (record { lane = l; deed = d } ∷ h) = stands-after s st h l d f p n in
    g o ∙ ap (owner_after (makes d) o) (t o ∙ (λ i. same-named st h p.objects i o)) ∙ owner-made (makes d) o (making h o)
    ∙ sym (λ i. same-named (after s st l d) (record { lane = l; deed = d } ∷ h) q.objects i o)

offered-made : (classes : ClassTables) (m : Option Making) (o i : ℕ) (x : Option Making) → has_interface classes (number_or_zero (option_map (λ (k : Making). k.class) (made_or m o x))) i ≡ true
    → (has_interface classes (number_or_zero (option_map (λ (k : Making). k.class) x)) i ≡ true) ⊎ (offers_made classes m o i ≡ true)
offered-made classes None o i x h = inl h
offered-made classes (Some m) o i x h = elim (eqb m.object o) as (λ b. has_interface classes (number_or_zero (option_map (λ (k : Making). k.class) (cond b (Some m) x))) i ≡ true
    → (has_interface classes (number_or_zero (option_map (λ (k : Making). k.class) x)) i ≡ true) ⊎ ((b && has_interface classes m.class i) ≡ true)) [ true ↦ λ g. inr g | false ↦ λ g. inl g ] h

or-first : (a b : Bool) → a ≡ true → (a || b) ≡ true
or-first a b e = ap (λ (x : Bool). x || b) e

or-second : (a b : Bool) → b ≡ true → (a || b) ≡ true
or-second true b e = refl
or-second false b e = e

pub offers-tie : (s : Scenario) (st su : State) (h : List Entry) (e : Entry) (w u : Held) → StandsFor s st h → StandsFor s su (e ∷ h) → OffersTie s st w → OffersMore s.classes (makes e.deed) w.tables u.tables → OffersTie s su u
offers-tie s st su h e w u p q t g = λ o i k.
    let now : has_interface s.classes (class_of (e ∷ h) o) i ≡ true = subst (λ (c : ℕ). has_interface s.classes c i ≡ true) (λ j. same-class su (e ∷ h) q.objects j o) k in
    elim (offered-made s.classes (makes e.deed) o i (making h o) now) [
      | inl was ↦ g o i (or-first (offers w.tables o i) (offers_made s.classes (makes e.deed) o i) (t o i (subst (λ (c : ℕ). has_interface s.classes c i ≡ true) (sym (λ j. same-class st h p.objects j o)) was)))
      | inr new ↦ g o i (or-second (offers w.tables o i) (offers_made s.classes (makes e.deed) o i) new)
    ]

calls-tie : (s : Scenario) (st : State) (l : ℕ) (d : Deed) (w u : Held) → length w.calls ≡ length st.issues → length u.calls ≡ count_if (issued_by (record { lane = l; deed = d })) + length w.calls → length u.calls ≡ length (after s st l d).issues
calls-tie s st l d w u t g = g ∙ ap (λ (n : ℕ). count_if (issued_by (record { lane = l; deed = d })) + n) t ∙ sym (length-grown (issued_by (record { lane = l; deed = d })) _ st.issues)

issued-tie : (n m k : ℕ) → n ≤ 32 * k → m ≤ n + 32 → m ≤ 32 * (k + 1)
issued-tie n m k p q = omega (arith, p, q)

-- ---- the whole

tied-after : (s : Scenario) (st : State) (h : List Entry) (l : ℕ) (d : Deed) (w u : Held) → StandsFor s st h → StandsFor s (after s st l d) (record { lane = l; deed = d } ∷ h)
    → Ties s st w → EntryEnds s st l d w u → Ties s (after s st l d) u
tied-after s st h l d w u p q t c = record {
  books = c.ended.books ∙ sym (books-after s st (after s st l d) h (record { lane = l; deed = d }) p q);
  counts = c.ended.counts;
  totals = c.ended.totals;
  objects = objects-tie s st (after s st l d) h (record { lane = l; deed = d }) w u p q t.objects c.objects;
  offers = offers-tie s st (after s st l d) h (record { lane = l; deed = d }) w u p q t.offers c.offers;
  calls = calls-tie s st l d w u t.calls c.calls;
  issued = issued-tie w.tables.issued u.tables.issued st.entries t.issued c.issued;
}

pub ties-after : (s : Scenario) (st : State) (h : List Entry) (l : ℕ) (d : Deed) (w u : Held) → Formed s → StandsFor s st h → next_of s st l ≡ Some d → Ties s st w → EntryEnds s st l d w u → Ties s (after s st l d) u
ties-after s st h l d w u f p n t c = tied-after s st h l d w u p (stands-after s st h l d f p n) t c

-- ---- the parts of it

pub places-next : (s : Scenario) (st : State) (h : List Entry) (l : ℕ) (d : Deed) (gained lost : List Move) → Formed s → StandsFor s st h → next_of s st l ≡ Some d
    → movings_of gained ≡ (moves_in s st (record { lane = l; deed = d })).gained → movings_of lost ≡ (moves_in s st (record { lane = l; deed = d })).lost
    → (a o : ℕ) → plus (places_at s (after s st l d)) lost a o ≡ plus (places_at s st) gained a o
places-next s st h l d gained lost f p n g k = places-by-moves s st h (record { lane = l; deed = d }) gained lost f (stands-after s st h l d f p n).lawful p g k

pub moves-below : (s : Scenario) (st : State) (h : List Entry) (l : ℕ) (d : Deed) (gained lost : List Move) → Formed s → StandsFor s st h → next_of s st l ≡ Some d
    → movings_of gained ≡ (moves_in s st (record { lane = l; deed = d })).gained → movings_of lost ≡ (moves_in s st (record { lane = l; deed = d })).lost
    → AllBelow (next_sta_in (after s st l d)) gained × AllBelow (next_sta_in (after s st l d)) lost
moves-below s st h l d gained lost f p n g k =
    let low : LowMoves (next_sta_in (after s st l d)) (moves_in s st (record { lane = l; deed = d })) = low-state s st (after s st l d) h (record { lane = l; deed = d }) f p (stands-after s st h l d f p n) in
    (moves-low (next_sta_in (after s st l d)) gained _ g low.gained, moves-low (next_sta_in (after s st l d)) lost _ k low.lost)

pub books-next : (s : Scenario) (st : State) (h : List Entry) (l : ℕ) (d : Deed) → Formed s → StandsFor s st h → next_of s st l ≡ Some d
    → books_in (after s st l d) ≡ ends (next_sta_in (after s st l d)) (places_at s (after s st l d)) (books_entered s st (after s st l d) (record { lane = l; deed = d }))
books-next s st h l d f p n = books-after s st (after s st l d) h (record { lane = l; deed = d }) p (stands-after s st h l d f p n)

pub counts-next : (s : Scenario) (st : State) (h : List Entry) (l : ℕ) (d : Deed) (w : Held) → Formed s → StandsFor s st h → next_of s st l ≡ Some d → Ties s st w → Counts (next_sta_in (after s st l d)) (places_at s st) w.tables
counts-next s st h l d w f p n t =
    counts-at (next_sta_in st) (next_sta_in (after s st l d)) (places_at s st) w.tables
    (stas-more s st (after s st l d) h (record { lane = l; deed = d }) p (stands-after s st h l d f p n)) (λ a o m. places-past s st h a o f p m) t.counts
