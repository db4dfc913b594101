-- The apartments of an entry's moves are below the number of the next one after it.
use Rattle.std.proofs.Common.{◌≡◌, refl, sym, ap, subst, arith, eqb-true, ℕ, zero, suc, Bool, true, false, cond, not, eqb, ◌&&◌, ◌+◌, ◌<◌, ◌≤◌, List, [], ◌∷◌, ◌++◌, length}
use Rattle.std.specs.Prelude.{Option, Some, None, slice_index_or}
use Rattle.com_base.specs.declared.value.RefValue.{RefValue}
use Rattle.com_base.specs.declared.value.Value.{Value}
use Rattle.com_body.specs.declared.frame.Outcome.{Outcome}
use Rattle.com_body.specs.Frames.{entered}
use Rattle.com_laws_balance.proofs.Lows.{more-stas}
use Rattle.com_laws_balance.proofs.Makings.{fine-next}
use Rattle.com_model.specs.declared.deeds.Deed.{Deed}
use Rattle.com_model.specs.declared.deeds.Deed.TheVariants as deed
use Rattle.com_model.specs.declared.deeds.Entry.{Entry}
use Rattle.com_model.specs.declared.keeps.Admission.{Admission}
use Rattle.com_model.specs.declared.scenario.Scenario.{Scenario}
use Rattle.com_model.specs.Apartments.{ends_sta, home, home_by_sort, makes_sta, next_sta, stas, thread_home}
use Rattle.com_model.specs.Calls.{admission_or, admits, admitted, is_direct, route_of}
use Rattle.com_model.specs.Formed.{Formed}
use Rattle.com_model.specs.Frames.{Scene, Actor, Body, Script, Nobody, Write, ToRegister, ToSlot, ToLink, ToBuffer, acted, arrived, to_answer, to_destination, value_reference, with_frame, writes, written}
use Rattle.com_model.specs.Lists.{one_to}
use Rattle.com_model.specs.Objects.{named, objects}
use Rattle.com_model.specs.Places.{Ground, ground, left_value}
use Rattle.com_model.specs.Rules.{legal}
use Rattle.com_model.specs.State.{State, StandsFor, ground_in, next_sta_in, scene_in}
use Rattle.com_model.specs.Tables.{LaneSort, Thread, Host, Pool, NoLane, lane_sort}
use Rattle.com_model.proofs.Fines.{FineBy, GoodHome}
use Rattle.com_model.proofs.Kept.{Kept, legal-kept}
use Rattle.com_model.proofs.Scenes.{faces}
use Rattle.com_model.proofs.Sights.{same-ground}
use Rattle.com_reference_moves.specs.declared.moves.Move.{Move}
use Rattle.com_reference_moves.specs.Steps.{movings_of}
use Rattle.com_reference_moves.specs.Tables.{moves_by, moves_in}
use Rattle.com_laws_places.specs.Moves.{Move as Moving, Moves, acted_moves, all_moved, arrived_moves, ended_moves, entered_where, link_moves, links_moved, moved, result_moved, slots_where, together, write_moves, writes_moves}
use Rattle.com_state.specs.After.{acting_in, actor_after, step_in}
use Rattle.com_refs_rows.specs.Moving.{AllBelow}

abbrev pub Low : ℕ → List Moving → Type 0
Low n [] = Unit {0}
Low n (m ∷ ms) = (m.apartment < n) × Low n ms

pub record LowMoves (n : ℕ) (m : Moves) : Type 0 where
  pub lost : Low n m.lost
  pub gained : Low n m.gained

-- What moves rest on: homes, the apartments of makings, and those in which calls were entered.
record LowGround (n : ℕ) (g : Ground) : Type 0 where
  homes : (l : ℕ) → GoodHome n (g.home l)
  named : (o : ℕ) → g.named o < n
  admitted : (c : ℕ) → GoodHome n (entered_where (g.admitted c))

abbrev LowEnter : ℕ → Deed → Type 0
LowEnter n (deed.Enter c o a t vs) = a < n
LowEnter n _ = Unit {0}

-- ---- lists

low-both : (n : ℕ) (xs ys : List Moving) → Low n xs → Low n ys → Low n (xs ++ ys)
low-both n [] ys p q = q
low-both n (x ∷ xs) ys p q = (p.0, low-both n xs ys p.1 q)

low-moved : (n : ℕ) (a : Option ℕ) (held : Option RefValue) → GoodHome n a → Low n (moved a held)
low-moved n None held p = tt
low-moved n (Some a) None p = tt
low-moved n (Some a) (Some r) p = (p, tt)

low-all : (n : ℕ) (a : Option ℕ) (xs : List (Option RefValue)) → GoodHome n a → Low n (all_moved a xs)
low-all n a [] p = tt
low-all n a (x ∷ xs) p = low-both n (moved a x) (all_moved a xs) (low-moved n a x p) (low-all n a xs p)

low-together : (n : ℕ) (x y : Moves) → LowMoves n x → LowMoves n y → LowMoves n (together x y)
low-together n x y p q = record { lost = low-both n x.lost y.lost p.lost q.lost; gained = low-both n x.gained y.gained p.gained q.gained }

low-none : (n : ℕ) → LowMoves n (record { lost = []; gained = [] })
low-none n = record { lost = tt; gained = tt }

-- ---- whoever acts

low-where : (n : ℕ) (g : Ground) (a : Actor) → LowGround n g → GoodHome n (slots_where g a)
low-where n g (Body c o) p = p.admitted c
low-where n g (Script l) p = p.homes l
low-where n g Nobody p = tt

low-link : (n : ℕ) (g : Ground) (w : Scene) (a : Actor) (k : ℕ) (held : Option RefValue) → LowGround n g → LowMoves n (link_moves g w a k held)
low-link n g w (Body c o) k held p = record { lost = low-moved n (Some (g.named o)) (slice_index_or (w.cells o).links k None) (p.named o); gained = low-moved n (Some (g.named o)) held (p.named o) }
low-link n g w (Script l) k held p = low-none n
low-link n g w Nobody k held p = low-none n

low-write : (n : ℕ) (g : Ground) (w : Scene) (a : Actor) (x : Write) → LowGround n g → LowMoves n (write_moves g w a x)
low-write n g w a (ToRegister r v) p = low-none n
low-write n g w a (ToSlot k held) p = record { lost = low-moved n (slots_where g a) _ (low-where n g a p); gained = low-moved n (slots_where g a) held (low-where n g a p) }
low-write n g w a (ToLink k held) p = low-link n g w a k held p
low-write n g w a (ToBuffer b bytes) p = low-none n

low-writes : (n : ℕ) (g : Ground) (w : Scene) (a : Actor) (xs : List Write) → LowGround n g → LowMoves n (writes_moves g w a xs)
low-writes n g w a [] p = low-none n
low-writes n g w a (x ∷ xs) p = low-together n (write_moves g w a x) (writes_moves g (written a w x) a xs) (low-write n g w a x p) (low-writes n g (written a w x) a xs p)

low-acted : (n : ℕ) (g : Ground) (w : Scene) (a : Actor) (r : Option Outcome) (d : Deed) → LowGround n g → LowMoves n (acted_moves g w a r d)
low-acted n g w a None d p = low-none n
low-acted n g w a (Some r) d p = low-writes n g (with_frame a r w) a (writes r.action d) p

low-result : (n : ℕ) (g : Ground) (c : ℕ) (v : Option Value) → LowGround n g → Low n (result_moved g c v)
low-result n g c v p = by-test (is_direct (route_of (g.issue c))) (g.returned c)
  where
    by-test : (b r : Bool) → Low n (cond (b && not r) (moved (entered_where (g.admitted c)) (value_reference v)) [])
    by-test true true = tt
    by-test true false = low-moved n (entered_where (g.admitted c)) (value_reference v) (p.admitted c)
    by-test false r = tt

low-arrived : (n : ℕ) (g : Ground) (w : Scene) (b : Actor) (l : ℕ) (d : Deed) → LowGround n g → LowEnter n d → LowMoves n (arrived_moves g w b l d)
low-arrived n g w b l (deed.Leave c hr v bytes) p q = record { lost = low-all n (entered_where (g.admitted c)) (w.bodies c).slots (p.admitted c); gained = low-result n g c v p }
low-arrived n g w b l (deed.Enter c o a k vs) p q = record { lost = tt; gained = low-all n (Some a) (entered vs).slots q }
low-arrived n g w b l (deed.Back c hr v) p q =
    low-together n (record { lost = result_moved g c (left_value (g.left c)); gained = [] }) (writes_moves g w b (to_answer hr ∷ to_destination (w.destinations c) v))
    (record { lost = low-result n g c (left_value (g.left c)) p; gained = tt }) (low-writes n g w b (to_answer hr ∷ to_destination (w.destinations c) v) p)
low-arrived n g w b l (deed.Uninit a zero) p q = record { lost = low-all n (g.home l) (w.scripts l).slots (p.homes l); gained = tt }
low-arrived n g w b l (deed.Uninit a (suc k)) p q = low-none n
low-arrived n g w b l (deed.Final o) p q = record { lost = low-all n (Some (g.named o)) (w.cells o).links (p.named o); gained = tt }
low-arrived n g w b l _ p q = low-none n

low-links : (n : ℕ) (g : Ground) (w : Scene) (a : ℕ) (os : List ℕ) → LowGround n g → Low n (links_moved g w a os)
low-links n g w a [] p = tt
low-links n g w a (o ∷ os) p = low-both n _ (links_moved g w a os) (elim (eqb (g.named o) a) as (λ b. eqb (g.named o) a ≡ b → Low n (cond b (all_moved (Some a) (w.cells o).links) [])) [
  | true ↦ λ e. low-all n (Some a) (w.cells o).links (subst (λ (x : ℕ). x < n) (eqb-true (g.named o) a e) (p.named o))
  | false ↦ λ e. tt
] refl) (low-links n g w a os p)

low-ended : (n : ℕ) (g : Ground) (w : Scene) (x : Option ℕ) → LowGround n g → LowMoves n (ended_moves g w x)
low-ended n g w None p = low-none n
low-ended n g w (Some a) p = record { lost = low-links n g w a (one_to g.objects) p; gained = tt }

low-by : (n : ℕ) (g : Ground) (w : Scene) (a : Actor) (r : Option Outcome) (b : Actor) (e : Entry) → LowGround n g → LowEnter n e.deed → LowMoves n (moves_by g w a r b e)
low-by n g w a r b e p q =
    low-together n (acted_moves g w a r e.deed) _ (low-acted n g w a r e.deed p)
    (low-together n (arrived_moves g (acted a r e.deed w) b e.lane e.deed) (ended_moves g (arrived b e.lane e.deed (acted a r e.deed w)) (ends_sta e.deed))
    (low-arrived n g (acted a r e.deed w) b e.lane e.deed p q) (low-ended n g (arrived b e.lane e.deed (acted a r e.deed w)) (ends_sta e.deed) p))

-- ---- every legal history

sorted-low : (a : ℕ) (sort : LaneSort) (x : Option ℕ) → 3 ≤ a → GoodHome a x → GoodHome a (home_by_sort sort x)
sorted-low a Thread x p q = q
sorted-low a Host x p q = omega (arith, p)
sorted-low a Pool x p q = omega (arith, p)
sorted-low a NoLane x p q = tt

home-more : (n m : ℕ) (x : Option ℕ) → n ≤ m → GoodHome n x → GoodHome m x
home-more n m None p q = tt
home-more n m (Some y) p q = omega (arith, p, q)

admits-low : (n k y m l c : ℕ) (d : Deed) (x : Option Admission) → y ≤ m → FineBy n k y d → GoodHome m (entered_where x) → GoodHome m (entered_where (admission_or (admits l d) c x))
admits-low n k y m l c (deed.Enter j o b t vs) x p f g = by-test (eqb j c)
  where
    by-test : (t : Bool) → GoodHome m (entered_where (cond t (Some (record { call = j; lane = l; apartment = b })) x))
    by-test true = let z : b < y = f.1 in omega (arith, z, p)
    by-test false = g
admits-low n k y m l c _ x p f g = g

admission-low : (s : Scenario) (h : List Entry) (c : ℕ) → Formed s → legal s h → GoodHome (next_sta h) (entered_where (admitted h c))
admission-low s [] c f q = tt
admission-low s (e ∷ h) c f q =
    let p : next_sta h ≤ next_sta (e ∷ h) = more-stas _ _ in
    admits-low (objects h) (faces s) (next_sta h) (next_sta (e ∷ h)) e.lane c e.deed (admitted h c) p (fine-next s h e f q)
    (home-more (next_sta h) (next_sta (e ∷ h)) (entered_where (admitted h c)) p (admission-low s h c f q.0))

ground-low : (s : Scenario) (h : List Entry) (m : ℕ) → Formed s → legal s h → next_sta h ≤ m → LowGround m (ground s h)
ground-low s h m f q more =
    let k : Kept s h = legal-kept s h f q in
    record {
      homes = λ l. home-more (next_sta h) m (home s h l) more (sorted-low (next_sta h) (lane_sort s l) (thread_home h l) (omega arith) (k.homes l));
      named = λ o. let low : named h o < next_sta h = k.named o in omega (arith, low, more);
      admitted = λ c. home-more (next_sta h) m (entered_where (admitted h c)) more (admission-low s h c f q);
    }

enter-low : (n k y m : ℕ) (d : Deed) → y ≤ m → FineBy n k y d → LowEnter m d
enter-low n k y m (deed.Enter j o b t vs) p f = let z : b < y = f.1 in omega (arith, z, p)
enter-low n k y m _ p f = tt

pub low-state : (s : Scenario) (st su : State) (h : List Entry) (e : Entry) → Formed s → StandsFor s st h → StandsFor s su (e ∷ h) → LowMoves (next_sta_in su) (moves_in s st e)
low-state s st su h e f p q =
    let g : ground_in s st ≡ ground s h = same-ground s st h p.lanes p.apartments p.objects p.calls in
    let n : next_sta_in su ≡ next_sta (e ∷ h) = ap (λ (xs : List ℕ). length xs + 3) q.apartments.stas in
    let more : next_sta h ≤ next_sta (e ∷ h) = more-stas _ _ in
    let low : LowGround (next_sta (e ∷ h)) (ground_in s st) = subst (λ (x : Ground). LowGround (next_sta (e ∷ h)) x) (sym g) (ground-low s h (next_sta (e ∷ h)) f p.lawful more) in
    let enter : LowEnter (next_sta (e ∷ h)) e.deed = enter-low (objects h) (faces s) (next_sta h) (next_sta (e ∷ h)) e.deed more (fine-next s h e f q.lawful) in
    subst (λ (k : ℕ). LowMoves k (moves_in s st e)) (sym n) (low-by (next_sta (e ∷ h)) (ground_in s st) (scene_in st) (acting_in s st e) (step_in s st e) (actor_after s st e) e low enter)

pub enters-low : (s : Scenario) (st su : State) (h : List Entry) (l c o a : ℕ) (t : Option ℕ) (vs : List Value) → Formed s → StandsFor s st h → StandsFor s su (record { lane = l; deed = deed.Enter c o a t vs } ∷ h) → a < next_sta_in su
enters-low s st su h l c o a t vs f p q =
    let e : Entry = record { lane = l; deed = deed.Enter c o a t vs } in
    let n : next_sta_in su ≡ next_sta (e ∷ h) = ap (λ (xs : List ℕ). length xs + 3) q.apartments.stas in
    let more : next_sta h ≤ next_sta (e ∷ h) = more-stas (stas h) (makes_sta e.deed) in
    let fine : FineBy (objects h) (faces s) (next_sta h) (deed.Enter c o a t vs) = fine-next s h e f q.lawful in
    let low : a < next_sta h = fine.1 in
    omega (arith, n, more, low)

below-by : (n : ℕ) (ms : List Move) → Low n (movings_of ms) → AllBelow n ms
below-by n [] p = tt
below-by n (m ∷ ms) p = (p.0, below-by n ms p.1)

pub moves-low : (n : ℕ) (ms : List Move) (xs : List Moving) → movings_of ms ≡ xs → Low n xs → AllBelow n ms
moves-low n ms xs e p = below-by n ms (subst (λ (ys : List Moving). Low n ys) (sym e) p)
