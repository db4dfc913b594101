-- Which objects places hold, in which apartment a lane runs, and what the books are before an entry ends.
use Rattle.std.proofs.Common.{◌≡◌, refl, sym, ap, ◌∙◌, subst, arith, inl, inr, eqb-true, ℕ, zero, suc, Bool, cond, not, ◌&&◌, ◌||◌, ◌<◌, ◌≤◌, ◌⊎◌, List, [], ◌∷◌, length}
use Rattle.std.specs.Prelude.{All, Option, Some, None, option_map, slice_index_or}
use Rattle.com_laws_balance.proofs.Answered.{left-known}
use Rattle.com_laws_balance.proofs.Arrivals.{known-of}
use Rattle.com_laws_balance.proofs.Carries.{all-head, all-tail}
use Rattle.com_laws_balance.proofs.Counts.{Found, PlaceOf, found-place, of_script, of_body, of_link, of_result}
use Rattle.com_laws_balance.proofs.Lows.{legal-low, running-low}
use Rattle.com_base.specs.declared.value.RefValue.{RefValue}
use Rattle.com_base.specs.declared.value.Value.{Value}
use Rattle.com_body.specs.declared.actions.Action.{Action}
use Rattle.com_body.specs.declared.operands.Asked.TheVariants as asked
use Rattle.com_refs_books.specs.Changes.{Books, Same, ToProxy, changed, entered_rows}
use Rattle.com_refs_books.specs.Ends.{ends}
use Rattle.com_refs_holders.specs.Places.{Counts}
use Rattle.com_model.specs.declared.deeds.Deed.{Deed}
use Rattle.com_model.specs.declared.deeds.Deed.TheVariants as deed
use Rattle.com_model.specs.declared.deeds.Entry.{Entry}
use Rattle.com_model.specs.declared.keeps.Making.{Making}
use Rattle.com_model.specs.declared.scenario.Scenario.{Scenario}
use Rattle.com_model.specs.Apartments.{ends_sta, next_sta, running}
use Rattle.com_model.specs.Books.{kept, made_by, rows}
use Rattle.com_model.specs.Calls.{left}
use Rattle.com_model.specs.Endings.{is_leave}
use Rattle.com_model.specs.Formed.{Formed}
use Rattle.com_model.specs.Frames.{scene, value_reference}
use Rattle.com_model.specs.Lists.{is_number, number_or_zero}
use Rattle.com_model.specs.Objects.{disconnects, made_or, makes, making, objects, owns}
use Rattle.com_model.specs.Places.{Ground, ground, left_value, places, to_object}
use Rattle.com_model.specs.Rules.{legal}
use Rattle.com_model.specs.Sight.{Sight, sight}
use Rattle.com_model.specs.State.{State, StandsFor, after, books_in, ending_in, ground_in, named_in, next_of, next_sta_in, objects_in, owns_in, running_in, scene_in, sight_of}
use Rattle.com_model.proofs.Goods.{GoodHeld}
use Rattle.com_model.proofs.Kept.{legal-kept}
use Rattle.com_model.proofs.Scenes.{faces}
use Rattle.com_model.proofs.Sights.{same-named, same-scene, same-sight}
use Rattle.com_reference_moves.specs.declared.moves.Move.{Move}
use Rattle.com_reference_moves.specs.Steps.{movings_of}
use Rattle.com_reference_moves.specs.Tables.{moves_in}
use Rattle.com_laws_unchanged.specs.Ends.{books_entered, connected}
use Rattle.com_refs_rows.specs.Books.{Held, books_held}
use Rattle.com_refs_rows.specs.Moving.{plus, AllBelow}
use Rattle.com_ledger.specs.Ties.{AppliedAs, EndedAt, Ties, books_by_rows, owns_after, places_at}
use Rattle.com_ledger.proofs.Following.{counts-next, ground-is, moves-below, owns-made, places-next, stands-after, stas-more}
use Rattle.com_ledger.proofs.Lowest.{enters-low}

-- ---- objects

held-at : (n m : ℕ) (xs : List (Option RefValue)) (k : ℕ) (r : RefValue) → All (GoodHeld n m) xs → slice_index_or xs k None ≡ Some r → r.object ≤ n
held-at n m [] k r p e = absurd (cc)
held-at n m (x ∷ xs) zero r p e = let good : GoodHeld n m (Some r) = subst (λ (y : Option RefValue). GoodHeld n m y) e (all-head (GoodHeld n m) x xs p) in good.0
held-at n m (x ∷ xs) (suc k) r p e = held-at n m xs k r (all-tail (GoodHeld n m) x xs p) e

-- What a place holds was made.
place-made : (s : Scenario) (h : List Entry) (a : ℕ) (r : RefValue) → Formed s → legal s h → PlaceOf s (ground s h) (scene s h) a r → r.object ≤ objects h
place-made s h a r f q (of_script l k low n e) = held-at (objects h) (faces s) ((scene s h).scripts l).slots k r ((legal-kept s h f q).scene.scripts l).slots e
place-made s h a r f q (of_body l c x k low m e) = held-at (objects h) (faces s) ((scene s h).bodies c).slots k r ((legal-kept s h f q).scene.bodies c).slots e
place-made s h a r f q (of_link x k low n e) = held-at (objects h) (faces s) ((scene s h).cells x).links k r ((legal-kept s h f q).scene.cells x) e
place-made s h a r f q (of_result c low d m n e) = known-of (objects h) (value_reference (left_value (left h c))) r (left-known s h c f q) e

none-or-some : (x : ℕ) → (x ≡ 0) ⊎ (1 ≤ x)
none-or-some zero = inl refl
none-or-some (suc x) = inr (omega arith)

none-unmade : (s : Scenario) (h : List Entry) (a o : ℕ) → Formed s → legal s h → objects h < o → places s (ground s h) (scene s h) a o ≡ 0
none-unmade s h a o f q l = elim (none-or-some (places s (ground s h) (scene s h) a o)) [
  | inl e ↦ e
  | inr m ↦
      let x : Found s (ground s h) (scene s h) a (to_object o) = found-place s (ground s h) (scene s h) a (to_object o) m in
      let same : x.reference.object ≡ o = eqb-true x.reference.object o x.passes in
      let made : x.reference.object ≤ objects h = place-made s h a x.reference f q x.at in
      absurd (omega (arith, l, same, made))
]

pub places-made : (s : Scenario) (st : State) (h : List Entry) (a o : ℕ) → Formed s → StandsFor s st h → objects_in st < o → places_at s st a o ≡ 0
places-made s st h a o f p l =
    let g : ground_in s st ≡ ground s h = ground-is s st h p in
    let w : scene_in st ≡ scene s h = same-scene (scene_in st) (scene s h) p.scene in
    (λ i. places s (g i) (w i) a o) ∙ none-unmade s h a o f p.lawful (omega (arith, l, p.objects.number))

-- ---- apartments

pub running-below : (s : Scenario) (st : State) (h : List Entry) (l : ℕ) (d : Deed) → Formed s → StandsFor s st h → next_of s st l ≡ Some d → number_or_zero (running_in s st l) < next_sta_in (after s st l d)
running-below s st h l d f p n =
    let v : sight_of s st ≡ sight s h = same-sight s st h p in
    let same : number_or_zero (running_in s st l) ≡ number_or_zero (running s h l) = ap (λ (x : Sight). number_or_zero (x.running l)) v in
    let stas : next_sta_in st ≡ next_sta h = ap (λ (x : Ground). x.apartments) (ground-is s st h p) in
    let low : number_or_zero (running s h l) < next_sta h = running-low s h (legal-low s h p.lawful) l in
    let more : next_sta_in st ≤ next_sta_in (after s st l d) = stas-more s st (after s st l d) h (record { lane = l; deed = d }) p (stands-after s st h l d f p n) in
    omega (arith, same, stas, low, more)

pub entered-below : (s : Scenario) (st : State) (h : List Entry) (l c o a : ℕ) (t : Option ℕ) (vs : List Value) → Formed s → StandsFor s st h → next_of s st l ≡ Some (deed.Enter c o a t vs) → a < next_sta_in (after s st l (deed.Enter c o a t vs))
entered-below s st h l c o a t vs f p n = enters-low s st (after s st l (deed.Enter c o a t vs)) h l c o a t vs f p (stands-after s st h l (deed.Enter c o a t vs) f p n)

-- ---- the books before the entry ends

-- No object is made where an STA ends.
same-ends : (d : Deed) (m n : ℕ → ℕ) (o : ℕ) → (makes d ≡ None → m o ≡ n o) → is_number (m o) (ends_sta d) ≡ is_number (n o) (ends_sta d)
same-ends (deed.Uninit a k) m n o p = ap (λ (x : ℕ). is_number x (ends_sta (deed.Uninit a k))) (p refl)
same-ends _ m n o p = refl

same-connected : (d : Deed) (m n : ℕ → ℕ) (b : Books) → ((o : ℕ) → makes d ≡ None → m o ≡ n o) → connected d m b ≡ connected d n b
same-connected d m n b p = λ i. record b {
  live = λ o. (made_by (makes d) o || b.live o) && (not (is_number o (disconnects d)) && not (same-ends d m n o (p o) i));
}

named-stays : (s : Scenario) (st su : State) (h : List Entry) (e : Entry) (o : ℕ) → StandsFor s st h → StandsFor s su (e ∷ h) → makes e.deed ≡ None → named_in st o ≡ named_in su o
named-stays s st su h e o p q none =
    (λ i. same-named st h p.objects i o)
    ∙ sym (ap (λ (m : Option Making). number_or_zero (option_map (λ (k : Making). k.apartment) (made_or m o (making h o)))) none)
    ∙ sym (λ i. same-named su (e ∷ h) q.objects i o)

-- Rows rest on who owns the object that they make, and on who owns the others where they make none.
same-rows : (s : Scenario) (x : Option Action) (left : ℕ → Bool) (b : Books) (a : ℕ) (d : Deed) (f g : ℕ → ℕ → Bool)
    → (makes d ≡ None → (o c : ℕ) → f o c ≡ g o c) → ((m : Making) → makes d ≡ Some m → f m.object a ≡ g m.object a)
    → entered_rows f b (rows s x left b a d) ≡ entered_rows g b (rows s x left b a d)
same-rows s x left b a (deed.Made (Some o) (Some w) k (asked.Number i) hr) f g p q = ap (λ (t : Bool). changed b (cond t Same (ToProxy a o i 5))) (q _ refl)
same-rows s x left b a (deed.Made (Some o) (Some w) k (asked.Guid i) hr) f g p q = refl
same-rows s x left b a (deed.Made (Some o) None k i hr) f g p q = λ j. entered_rows (λ y c. p refl y c j) b (rows s x left b a (deed.Made (Some o) None k i hr))
same-rows s x left b a (deed.Made None w k i hr) f g p q = λ j. entered_rows (λ y c. p refl y c j) b (rows s x left b a (deed.Made None w k i hr))
same-rows s x left b a d f g p q = λ j. entered_rows (λ y c. p refl y c j) b (rows s x left b a d)

pub entered-by : (s : Scenario) (st : State) (h : List Entry) (l : ℕ) (d : Deed) (x : Option Action) (left : ℕ → Bool) (b : Books) (a : ℕ) (owned : ℕ → ℕ → Bool)
    → Formed s → StandsFor s st h → next_of s st l ≡ Some d
    → x ≡ (sight_of s st).act l → ((c : ℕ) → left c ≡ is_leave (ending_in st c)) → b ≡ books_in st → a ≡ number_or_zero (running_in s st l)
    → (makes d ≡ None → (o c : ℕ) → owned o c ≡ owns_in s (after s st l d) o c) → ((m : Making) → makes d ≡ Some m → owned m.object a ≡ owns_in s (after s st l d) m.object a)
    → connected d (named_in st) (kept b d (entered_rows owned b (rows s x left b a d))) ≡ books_entered s st (after s st l d) (record { lane = l; deed = d })
entered-by s st h l d x left b a owned f p n act ended books run owns made =
    let e : Entry = record { lane = l; deed = d } in
    let su : State = after s st l d in
    let q : StandsFor s su (e ∷ h) = stands-after s st h l d f p n in
    let same : entered_rows owned b (rows s x left b a d) ≡ entered_rows (owns_in s su) b (rows s x left b a d) = same-rows s x left b a d owned (owns_in s su) owns made in
    let all : entered_rows (owns_in s su) b (rows s x left b a d) ≡ entered_rows (owns_in s su) (books_in st) (rows s ((sight_of s st).act l) (λ c. is_leave (ending_in st c)) (books_in st) (number_or_zero (running_in s st l)) d) =
    λ i. entered_rows (owns_in s su) (books i) (rows s (act i) (λ c. ended c i) (books i) (run i) d) in
    let whole : entered_rows owned b (rows s x left b a d) ≡ entered_rows (owns_in s su) (books_in st) (rows s ((sight_of s st).act l) (λ c. is_leave (ending_in st c)) (books_in st) (number_or_zero (running_in s st l)) d) = same ∙ all in
    same-connected d (named_in st) (named_in su) (kept b d (entered_rows owned b (rows s x left b a d))) (λ o none. named-stays s st su h e o p q none)
    ∙ (λ i. connected d (named_in su) (kept (books i) d (whole i)))

-- ---- the end of the entry

owns-stays : (s : Scenario) (st su : State) (h : List Entry) (e : Entry) (o a : ℕ) → StandsFor s st h → StandsFor s su (e ∷ h) → makes e.deed ≡ None → owns_in s st o a ≡ owns_in s su o a
owns-stays s st su h e o a p q none =
    (λ i. (ground-is s st h p i).owns o a)
    ∙ sym (ap (λ (m : Option Making). owns_after s m o a (owns s h o a)) none)
    ∙ owns-made s (makes e.deed) o a (making h o)
    ∙ sym (λ i. (ground-is s su (e ∷ h) q i).owns o a)

pub ends-applied : (s : Scenario) (st : State) (h : List Entry) (l : ℕ) (d : Deed) (gained lost : List Move) (w u : Held) → Formed s → StandsFor s st h → next_of s st l ≡ Some d
    → movings_of gained ≡ (moves_in s st (record { lane = l; deed = d })).gained → movings_of lost ≡ (moves_in s st (record { lane = l; deed = d })).lost
    → Ties s st w → AppliedAs s st l d gained lost w u
    → EndedAt (next_sta_in (after s st l d)) (places_at s (after s st l d)) (books_entered s st (after s st l d) (record { lane = l; deed = d })) u
ends-applied s st h l d gained lost w u f p n g k t r =
    let e : Entry = record { lane = l; deed = d } in
    let su : State = after s st l d in
    let q : StandsFor s su (e ∷ h) = stands-after s st h l d f p n in
    let below : AllBelow (next_sta_in su) gained × AllBelow (next_sta_in su) lost = moves-below s st h l d gained lost f p n g k in
    let unmade : (c o : ℕ) → length w.tables.objects < o → places_at s st c o ≡ 0 = λ c o m. places-made s st h c o f p (omega (arith, m, t.objects.number)) in
    let wide : Counts (next_sta_in su) (places_at s st) w.tables = counts-next s st h l d w f p n t in
    let moved : (c o : ℕ) → plus (places_at s su) lost c o ≡ plus (places_at s st) gained c o = places-next s st h l d gained lost f p n g k in
    let counts : Counts (next_sta_in su) (places_at s su) u.tables = r.counts below.0 below.1 unmade wide moved in
    let entered : books_by_rows s st l d r.owned (books_held w) ≡ books_entered s st su e =
    entered-by s st h l d ((sight_of s st).act l) (λ c. is_leave (ending_in st c)) (books_held w) (number_or_zero (running_in s st l)) r.owned f p n refl (λ c. refl) t.books refl
    (λ none o c. r.others o c (inl none) ∙ t.objects.owns o c ∙ owns-stays s st su h e o c p q none) r.made in
    record {
      counts = counts;
      totals = r.totals (next_sta_in su) (places_at s su) counts;
      books = r.books below.0 below.1 unmade wide moved ∙ ap (λ (b : Books). ends (next_sta_in su) (places_at s su) b) entered;
    }
