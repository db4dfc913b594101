-- A quiet entry leaves the places of all objects, the books and the list of the dying.
use Rattle.std.proofs.Common.{◌≡◌, refl, sym, ◌∙◌, ap, subst, arith, ℕ, zero, suc, ◌+◌, Bool, true, false, ◌==◌, ◌||◌, List, [], ◌∷◌, length, sum_by, slice_index_or}
use Rattle.std.specs.Prelude.{Option, Some, None, is_some, option_map}
use Rattle.com_body.specs.declared.frame.Cells.{Cells}
use Rattle.com_body.specs.Frames.{FrameView, entered}
use Rattle.com_body.specs.declared.frame.Outcome.{Outcome}
use Rattle.com_body.specs.Operands.{new_cells}
use Rattle.com_refs_books.specs.Counting.{sum_below}
use Rattle.com_refs_books.specs.Changes.{Books, Row, entered_rows, given_back, cut, held_outside}
use Rattle.com_model.specs.declared.deeds.Deed.{Deed}
use Rattle.com_model.specs.declared.deeds.Deed.TheVariants as deed
use Rattle.com_model.specs.declared.deeds.Entry.{Entry}
use Rattle.com_model.specs.declared.keeps.Making.{Making}
use Rattle.com_model.specs.declared.keeps.Issue.{Issue}
use Rattle.com_model.specs.declared.keeps.Opener.{Opener}
use Rattle.com_model.specs.declared.keeps.Opener.TheVariants.{Pumps, Waits, Enters}
use Rattle.com_model.specs.declared.scenario.Scenario.{Scenario}
use Rattle.com_model.specs.Lists.{is_member, number_or_zero, from_one, without_first, tabulated}
use Rattle.com_model.specs.Tables.{threads, LaneSort, Thread, Host, Pool, NoLane, lane_sort, is_agile_class}
use Rattle.com_model.specs.Openers.{effect, runs}
use Rattle.com_model.specs.Apartments.{with_last, home_by_sort, home_effect}
use Rattle.com_model.specs.Objects.{makes}
use Rattle.com_model.specs.Calls.{issues}
use Rattle.com_model.specs.Endings.{is_leave}
use Rattle.com_model.specs.Frames.{Scene, Actor, actor, act_by, outcome, action_of, unless_over, acted, arrived, cut_links}
use Rattle.com_model.specs.Places.{Ground, in_frame, places}
use Rattle.com_model.specs.Books.{rows, kept, live_after, holders_in}
use Rattle.com_model.specs.Dying.{fallen_more, is_dying_by, is_entered}
use Rattle.com_model.specs.State.{State, SceneTables, BookTables, openers_in, home_in, named_in, class_in, issue_in, ending_in, running_in, next_sta_in, objects_in, ground_in, scene_in, books_in, books_read, scene_read, actor_of, dies_in, sight_of, next_of, grown, issued_by, changed_at, opens, homes_change, admissions_by, leavings_by, returned_by, scene_tables, book_tables, scene_next, books_next, after}
use Rattle.com_model.proofs.Given.{Given}
use Rattle.com_state.specs.After.{parts_after, acting_in}
use Rattle.com_state.specs.Resting.{Rested, Settled, is_quiet}
use Rattle.com_laws_unchanged.specs.Resting.{Resting}
use Rattle.com_state.proofs.Joined.{joined}
use Rattle.com_laws_unchanged.proofs.Apt.{PlainStep, StartsPump, Fits, sort_of, Apt, Idle, next-apt, is_still, quiet-stills}
use Rattle.com_laws_unchanged.proofs.Silent.{Silent, silent, silent-rows, silent-kept, silent-actor, silent-live}
use Rattle.com_state.proofs.Quiet.{given-rested, cut-rested, none-fall}
use Rattle.com_laws_unchanged.proofs.Still.{SameHolds, then-holds, step-holds, arrived-holds, past-rows, read-back, rows-tell, Still, frames-told, still-places, still-dying}

clash : false ≡ true → ⊥
clash e = cc

-- ---- what the rules give

idle-act : (s : Scenario) (st : State) (l : ℕ) (sort : LaneSort) (os : List Opener) → Idle sort os (act_by s (class_in st) (issue_in st) (scene_in st) (actor sort l os))
idle-act s st l sort (Enters c o a ∷ os) = tt
idle-act s st l sort (Waits c ∷ os) = refl
idle-act s st l sort (Pumps n ∷ os) = refl
idle-act s st l Thread [] = tt
idle-act s st l Host [] = refl
idle-act s st l Pool [] = refl
idle-act s st l NoLane [] = refl

pub still-apt : (s : Scenario) (st : State) (l : ℕ) (d : Deed) → Resting s st → next_of s st l ≡ Some d → is_still d ≡ true → Apt ((sight_of s st).act l) (home_in s st l) (openers_in st l) d
still-apt s st l d p e q =
    subst (λ (x : Option Deed). Given (λ y. is_still y ≡ true → Apt ((sight_of s st).act l) (home_in s st l) (openers_in st l) y) x) e
    (next-apt s (sight_of s st) l (lane_sort s l) refl (idle-act s st l (lane_sort s l) (openers_in st l)) (p.idle l)) q

quiet-apt : (s : Scenario) (st : State) (l : ℕ) (d : Deed) → Resting s st → next_of s st l ≡ Some d → is_quiet d ≡ true → Apt ((sight_of s st).act l) (home_in s st l) (openers_in st l) d
quiet-apt s st l d p e q = still-apt s st l d p e (quiet-stills d q)

-- ---- the scene

quiet-scene : (s : Scenario) (st su : State) (e : Entry) → is_quiet e.deed ≡ true → PlainStep ((sight_of s st).act e.lane) e.deed → SameHolds (scene_in st) (scene_next s st su e)
quiet-scene s st su e q p =
    let w : Scene = scene_in st in
    let a : Actor = acting_in s st e in
    let o : Option Outcome = outcome s (class_in st) (issue_in st) w a in
    let b : Actor = actor_of s su e.lane in
    let u : Actor = unless_over (actor_of s st e.lane) (outcome s (class_in st) (issue_in st) w (actor_of s st e.lane)) in
    let step : PlainStep (action_of o) e.deed = subst (λ (x : Actor). PlainStep (action_of (outcome s (class_in st) (issue_in st) w x)) e.deed) (sym (silent-actor e.deed u q)) p in
    let x : Scene = acted a o e.deed w in
    let y : Scene = arrived b e.lane e.deed x in
    let z : SameHolds w y = then-holds w x y (step-holds s (class_in st) (issue_in st) w a e.deed step) (arrived-holds b e.lane e.deed x q) in
    subst (λ (c : Option ℕ). SameHolds w (cut_links (named_in st) c y)) (sym (silent e.lane e.deed q).no_end) z

-- ---- lanes

told-homes : (s : Scenario) (st : State) (l : ℕ) (x : Option ℕ) → home_in s st l ≡ x → home_by_sort (lane_sort s l) x ≡ home_in s st l
told-homes s st l x e = by-sort (lane_sort s l) (slice_index_or st.homes l None) e
  where
    by-sort : (sort : LaneSort) (y : Option ℕ) → home_by_sort sort y ≡ x → home_by_sort sort x ≡ home_by_sort sort y
    by-sort Thread y e = sym e
    by-sort Host y e = refl
    by-sort Pool y e = refl
    by-sort NoLane y e = refl

quiet-homes : (s : Scenario) (st : State) (l : ℕ) (os : List Opener) (d : Deed) → is_quiet d ≡ true → Fits (home_in s st l) os (sort_of d) → (k : ℕ) → home_by_sort (lane_sort s k) (slice_index_or (changed_at (homes_change (home_effect d)) l None st.homes) k None) ≡ home_in s st k
quiet-homes s st l os (deed.Init m a hr) q f k = rows-tell (λ (j : ℕ) (x : Option ℕ). home_by_sort (lane_sort s j) x) st.homes l (Some a) None (told-homes s st l (Some a) f) k
quiet-homes s st l os (deed.Uninit a zero) q f k = absurd (clash q)
quiet-homes s st l os (deed.Uninit a (suc n)) q f k = rows-tell (λ (j : ℕ) (x : Option ℕ). home_by_sort (lane_sort s j) x) st.homes l a None (told-homes s st l a f) k
quiet-homes s st l os _ q f k = refl

-- What pumps do not change of openers.
quiet-openers : {Y : Type 0} (f : List Opener → Y) → ((n : ℕ) (os : List Opener) → f (Pumps n ∷ os) ≡ f os) → (st : State) (l : ℕ) (h : Option ℕ) (d : Deed) → is_quiet d ≡ true → Fits h (openers_in st l) (sort_of d) → (k : ℕ) → f (slice_index_or (changed_at (opens (effect d)) l [] st.openers) k []) ≡ f (openers_in st k)
quiet-openers f p st l h (deed.Pump n) q z k = rows-tell (λ (j : ℕ) (os : List Opener). f os) st.openers l (Pumps n ∷ openers_in st l) [] (p n (openers_in st l)) k
quiet-openers f p st l h deed.EndPump q z k = rows-tell (λ (j : ℕ) (os : List Opener). f os) st.openers l (without_first (openers_in st l)) [] (by-top (openers_in st l) z) k
  where
    by-top : (os : List Opener) → StartsPump os → f (without_first os) ≡ f os
    by-top (Pumps n ∷ os) z = sym (p n os)
    by-top [] z = absurd z
    by-top (Waits c ∷ os) z = absurd z
    by-top (Enters c o a ∷ os) z = absurd z
quiet-openers f p st l h (deed.Out c o i m r x bytes) q z k = absurd (clash q)
quiet-openers f p st l h (deed.Enter c o a t vs) q z k = absurd (clash q)
quiet-openers f p st l h (deed.Leave c hr v bytes) q z k = absurd (clash q)
quiet-openers f p st l h (deed.Back c hr v) q z k = absurd (clash q)
quiet-openers f p st l h _ q z k = refl

-- ---- the ground

quiet-ground : (s : Scenario) (st : State) (e : Entry) → is_quiet e.deed ≡ true → Fits (home_in s st e.lane) (openers_in st e.lane) (sort_of e.deed) → ground_in s (parts_after s st e) ≡ record (ground_in s st) { openers = openers_in (parts_after s st e) }
quiet-ground s st e q f =
    let z : Silent e.lane e.deed = silent e.lane e.deed q in
    let makings : Option Making → List (Option Making) = λ (m : Option Making). grown (is_some m) m st.makings in
    let making : Option Making → ℕ → Option Making = λ (m : Option Making) (o : ℕ). from_one (makings m) o None in
    let named : Option Making → ℕ → ℕ = λ (m : Option Making) (o : ℕ). number_or_zero (option_map (λ (x : Making). x.apartment) (making m o)) in
    let class : Option Making → ℕ → ℕ = λ (m : Option Making) (o : ℕ). number_or_zero (option_map (λ (x : Making). x.class) (making m o)) in
    λ i. record {
      openers = openers_in (parts_after s st e);
      home = λ k. quiet-homes s st e.lane (openers_in st e.lane) e.deed q f k i;
      apartments = length (with_last st.stas (z.no_sta i)) + 3;
      objects = length (makings (z.no_making i));
      named = named (z.no_making i);
      owns = λ o a. is_agile_class s (class (z.no_making i) o) || a == named (z.no_making i) o;
      calls = length (grown (is_some (z.no_issue i)) (z.no_issue i) st.issues);
      issue = λ c. from_one (grown (is_some (z.no_issue i)) (z.no_issue i) st.issues) c None;
      admitted = λ c. from_one (admissions_by (z.no_admission i) (grown (is_some (z.no_issue i)) None st.admissions)) c None;
      left = λ c. from_one (leavings_by (z.no_leaving i) (grown (is_some (z.no_issue i)) None st.leavings)) c None;
      returned = λ c. from_one (returned_by (z.no_return i) (grown (is_some (z.no_issue i)) false st.returned)) c false;
    }

quiet-still : (s : Scenario) (st : State) (e : Entry) (x : Scene) → is_quiet e.deed ≡ true → Fits (home_in s st e.lane) (openers_in st e.lane) (sort_of e.deed) → SameHolds (scene_in st) x → Still (ground_in s st) (openers_in (parts_after s st e)) (scene_in st) x
quiet-still s st e x q f h = record {
  scripts = h.scripts;
  frames = λ l a t. frames-told (scene_in st) x a t (openers_in (parts_after s st e) l) h ∙ quiet-openers (λ (os : List Opener). sum_by (in_frame (scene_in st) a t) os) (λ n os. refl) st e.lane (home_in s st e.lane) e.deed q f l;
  links = h.links;
  runs = λ l o. quiet-openers (λ (os : List Opener). runs o os) (λ n os. refl) st e.lane (home_in s st e.lane) e.deed q f l;
}

-- ---- the books

-- The end of an entry without rows, on the books and the places as they were.
abbrev ended : Deed → (named : ℕ → ℕ) → (n : ℕ) → (ℕ → ℕ → ℕ) → Books → Books
ended d named n pl b = cut (live_after d named (λ o. sum_below n (λ a. pl a o) + held_outside (given_back n pl b) o) b.live) (given_back n pl b)

ended-rests : (d : Deed) (named : ℕ → ℕ) (n : ℕ) (pl : ℕ → ℕ → ℕ) (b : Books) → is_quiet d ≡ true → Rested pl (λ o. sum_below n (λ a. pl a o) + held_outside b o) b → ended d named n pl b ≡ b
ended-rests d named n pl b q r =
    let h : ℕ → ℕ = λ o. sum_below n (λ a. pl a o) + held_outside b o in
    ap (λ (c : Books). cut (live_after d named (λ o. sum_below n (λ a. pl a o) + held_outside c o) b.live) c) (given-rested n pl h b r)
    ∙ cut-rested pl h b (live_after d named h b.live) r (λ o. silent-live d 0 named h b.live o q (r.held o))

quiet-books : (s : Scenario) (st : State) (e : Entry) (w : Scene) → Settled s st → is_quiet e.deed ≡ true → Fits (home_in s st e.lane) (openers_in st e.lane) (sort_of e.deed) → SameHolds (scene_in st) w → books_next s st (parts_after s st e) w e ≡ books_in st
quiet-books s st e w p q f h =
    let g : Ground = ground_in s (parts_after s st e) in
    let b : Books = books_in st in
    let r : List Row = rows s ((sight_of s st).act e.lane) (λ c. is_leave (ending_in st c)) b (number_or_zero (running_in s st e.lane)) e.deed in
    let none : r ≡ [] = silent-rows s ((sight_of s st).act e.lane) (λ c. is_leave (ending_in st c)) b (number_or_zero (running_in s st e.lane)) e.deed q in
    let same : g ≡ record (ground_in s st) { openers = openers_in (parts_after s st e) } = quiet-ground s st e q f in
    let z : Still (ground_in s st) (openers_in (parts_after s st e)) (scene_in st) w = quiet-still s st e w q f h in
    ap (λ (c : Books). ended e.deed g.named g.apartments (places s g w) c) (ap (λ (x : List Row). kept b e.deed (entered_rows g.owns b x)) none ∙ silent-kept b e.deed b q)
    ∙ ap (λ (x : Ground). ended e.deed x.named x.apartments (places s x w) b) same
    ∙ ap (λ (pl : ℕ → ℕ → ℕ). ended e.deed (named_in st) (next_sta_in st) pl b) (still-places s (ground_in s st) (openers_in (parts_after s st e)) (scene_in st) w z)
    ∙ ended-rests e.deed (named_in st) (next_sta_in st) (places s (ground_in s st) (scene_in st)) b q p.rested

-- ---- the state

-- The scene as it is read back from its tables.
read-holds : (s : Scenario) (st : State) (e : Entry) (w : Scene) → Settled s st → is_quiet e.deed ≡ true → SameHolds (scene_in st) w → SameHolds (scene_in st) (scene_read (scene_tables s (parts_after s st e) w))
read-holds s st e w p q h =
    let z : Silent e.lane e.deed = silent e.lane e.deed q in
    let calls : length (grown (issued_by e) (issues e.lane e.deed) st.issues) ≡ length st.issues = ap (λ (x : Option Issue). length (grown (is_some x) x st.issues)) z.no_issue in
    let objects : length (grown (is_some (makes e.deed)) (makes e.deed) st.makings) ≡ length st.makings = ap (λ (x : Option Making). length (grown (is_some x) x st.makings)) z.no_making in
    let u : Scene = scene_in st in
    record {
      scripts = read-back (λ (f : FrameView). f.slots) (threads s + 1) w.scripts u.scripts (entered []) h.scripts (past-rows st.scene.scripts (threads s) u.scripts (entered []) (ap (λ (t : SceneTables). t.scripts) p.scene));
      bodies = read-back (λ (f : FrameView). f.slots) (length (grown (issued_by e) (issues e.lane e.deed) st.issues) + 1) w.bodies u.bodies (entered []) h.bodies (λ k m. past-rows st.scene.bodies (length st.issues) u.bodies (entered []) (ap (λ (t : SceneTables). t.bodies) p.scene) k (omega (arith, m, calls)));
      links = read-back (λ (f : Cells). f.links) (length (grown (is_some (makes e.deed)) (makes e.deed) st.makings) + 1) w.cells u.cells new_cells h.links (λ k m. past-rows st.scene.cells (length st.makings) u.cells new_cells (ap (λ (t : SceneTables). t.cells) p.scene) k (omega (arith, m, objects)));
    }

quiet-tables : (s : Scenario) (st : State) (e : Entry) (b : Books) → is_quiet e.deed ≡ true → book_tables s (parts_after s st e) b ≡ book_tables s st b
quiet-tables s st e b q =
    let z : Silent e.lane e.deed = silent e.lane e.deed q in
    let n : Option Making → ℕ = λ (m : Option Making). length (grown (is_some m) m st.makings) + 1 in
    let c : Option Issue → ℕ = λ (x : Option Issue). length (grown (is_some x) x st.issues) + 1 in
    λ i. record {
      stub = tabulated (n (z.no_making i)) (λ o. tabulated (length s.classes.interfaces) (b.stub o));
      proxy = tabulated (length (with_last st.stas (z.no_sta i)) + 3) (λ a. tabulated (n (z.no_making i)) (λ o. tabulated (length s.classes.interfaces) (b.proxy a o)));
      packets = b.packets;
      cookies = b.cookies;
      live = tabulated (n (z.no_making i)) b.live;
      arguments = tabulated (c (z.no_issue i)) b.arguments;
      result = tabulated (c (z.no_issue i)) b.result;
    }

-- The state before its list of the dying.
abbrev before_fallen : Scenario → State → Entry → State
before_fallen s st e =
    let su : State = parts_after s st e in
    let w : Scene = scene_next s st su e in
    record su { scene = scene_tables s su w; books = book_tables s su (books_next s st su w e) }

abbrev entry : ℕ → Deed → Entry
entry l d = record { lane = l; deed = d }

next-scene : (s : Scenario) (st : State) (l : ℕ) (d : Deed) → Resting s st → next_of s st l ≡ Some d → is_quiet d ≡ true → SameHolds (scene_in st) (scene_next s st (parts_after s st (entry l d)) (entry l d))
next-scene s st l d p n q = quiet-scene s st (parts_after s st (entry l d)) (entry l d) q (quiet-apt s st l d p n q).plain

next-books : (s : Scenario) (st : State) (l : ℕ) (d : Deed) → Resting s st → next_of s st l ≡ Some d → is_quiet d ≡ true → (before_fallen s st (entry l d)).books ≡ st.books
next-books s st l d p n q =
    let e : Entry = entry l d in
    let su : State = parts_after s st e in
    let w : Scene = scene_next s st su e in
    ap (book_tables s su) (quiet-books s st e w p.settled q (quiet-apt s st l d p n q).fits (next-scene s st l d p n q)) ∙ quiet-tables s st e (books_in st) q ∙ p.settled.books

next-still : (s : Scenario) (st : State) (l : ℕ) (d : Deed) → Resting s st → next_of s st l ≡ Some d → is_quiet d ≡ true → Still (ground_in s st) (openers_in (parts_after s st (entry l d))) (scene_in st) (scene_in (before_fallen s st (entry l d)))
next-still s st l d p n q =
    let e : Entry = entry l d in
    let w : Scene = scene_next s st (parts_after s st e) e in
    quiet-still s st e (scene_read (scene_tables s (parts_after s st e) w)) q (quiet-apt s st l d p n q).fits (read-holds s st e w p.settled q (next-scene s st l d p n q))

next-dies : (s : Scenario) (st : State) (l : ℕ) (d : Deed) → Resting s st → next_of s st l ≡ Some d → is_quiet d ≡ true → dies_in s (before_fallen s st (entry l d)) ≡ dies_in s st
next-dies s st l d p n q =
    let e : Entry = entry l d in
    let su : State = parts_after s st e in
    let y : State = before_fallen s st e in
    let z : Silent l d = silent l d q in
    let os : ℕ → List Opener = openers_in su in
    ap (λ (m : Option Making). is_dying_by (length (grown (is_some m) m st.makings)) (λ x. is_member x su.finaled) (holders_in s (ground_in s su) (scene_in y) (books_in y)) (is_entered s os)) z.no_making
    ∙ ap (λ (m : Option ℕ). is_dying_by (objects_in st) (λ x. is_member x (with_last st.finaled m)) (holders_in s (ground_in s su) (scene_in y) (books_in y)) (is_entered s os)) z.no_final
    ∙ ap (λ (b : BookTables). is_dying_by (objects_in st) (λ x. is_member x st.finaled) (holders_in s (ground_in s su) (scene_in y) (books_read b)) (is_entered s os)) (next-books s st l d p n q)
    ∙ ap (λ (g : Ground). is_dying_by (objects_in st) (λ x. is_member x st.finaled) (holders_in s g (scene_in y) (books_in st)) (is_entered s os)) (quiet-ground s st e q (quiet-apt s st l d p n q).fits)
    ∙ still-dying s (ground_in s st) os (scene_in st) (scene_in y) (books_in st) (objects_in st) (λ x. is_member x st.finaled) (next-still s st l d p n q)

pub quiet-entry-books : (s : Scenario) (st : State) (l : ℕ) (d : Deed) → Resting s st → next_of s st l ≡ Some d → is_quiet d ≡ true → (after s st l d).books ≡ st.books
quiet-entry-books s st l d p n q = ap (λ (x : State). x.books) (joined s st l d) ∙ next-books s st l d p n q

pub quiet-entry-fallen : (s : Scenario) (st : State) (l : ℕ) (d : Deed) → Resting s st → next_of s st l ≡ Some d → is_quiet d ≡ true → (after s st l d).fallen ≡ st.fallen
quiet-entry-fallen s st l d p n q =
    let y : State = before_fallen s st (entry l d) in
    ap (λ (x : State). x.fallen) (joined s st l d)
    ∙ ap (λ (f : ℕ → Bool). fallen_more f (objects_in y) st.fallen) (next-dies s st l d p n q)
    ∙ none-fall (dies_in s st) (objects_in y) st.fallen p.settled.dying p.settled.fell

pub quiet-entry-places : (s : Scenario) (st : State) (l : ℕ) (d : Deed) → Resting s st → next_of s st l ≡ Some d → is_quiet d ≡ true → places s (ground_in s (after s st l d)) (scene_in (after s st l d)) ≡ places s (ground_in s st) (scene_in st)
quiet-entry-places s st l d p n q =
    let e : Entry = entry l d in
    let y : State = before_fallen s st e in
    ap (λ (x : State). places s (ground_in s x) (scene_in x)) (joined s st l d)
    ∙ ap (λ (g : Ground). places s g (scene_in y)) (quiet-ground s st e q (quiet-apt s st l d p n q).fits)
    ∙ still-places s (ground_in s st) (openers_in (parts_after s st e)) (scene_in st) (scene_in y) (next-still s st l d p n q)
