-- An Out moves no reference between places; one that marshals nothing leaves the books and the list of the dying.
use Rattle.std.proofs.Common.{◌≡◌, refl, ◌∙◌, ap, ap₂, arith, ℕ, zero, suc, ◌+◌, ◌<◌, Bool, true, false, not, ◌&&◌, List, [], ◌∷◌, ◌++◌, length, sum_by, if◌then◌else◌}
use Rattle.std.proofs.lemmas.Grind.{common_steps}
use Rattle.std.proofs.lemmas.List.{get_or_append_left}
use Rattle.std.specs.Prelude.{Option, Some, None}
use Rattle.com_body.specs.declared.frame.Cells.{Cells}
use Rattle.com_body.specs.Frames.{FrameView, entered}
use Rattle.com_body.specs.Operands.{new_cells}
use Rattle.com_refs_books.specs.Counting.{sum_below}
use Rattle.com_refs_books.specs.Changes.{Books, held_outside}
use Rattle.com_refs_books.specs.Ends.{ends}
use Rattle.com_model.specs.declared.deeds.Deed.{Deed}
use Rattle.com_model.specs.declared.deeds.Deed.TheVariants as deed
use Rattle.com_model.specs.declared.deeds.Entry.{Entry}
use Rattle.com_model.specs.declared.deeds.Route.{Route}
use Rattle.com_model.specs.declared.keeps.Issue.{Issue}
use Rattle.com_model.specs.declared.keeps.Opener.{Opener}
use Rattle.com_model.specs.declared.keeps.Opener.TheVariants.{Waits}
use Rattle.com_model.specs.declared.scenario.Scenario.{Scenario}
use Rattle.com_model.specs.Lists.{from_one, is_member, any_of, one_to}
use Rattle.com_model.specs.Tables.{threads, lanes}
use Rattle.com_model.specs.Openers.{runs}
use Rattle.com_model.specs.Calls.{is_direct, route_of}
use Rattle.com_model.specs.Frames.{Scene, value_reference}
use Rattle.com_model.specs.Places.{Ground, Test, to_object, passes, in_frame, in_scripts, in_bodies, in_links, in_result, in_results, entered_in, left_value, places}
use Rattle.com_model.specs.Books.{holders_in}
use Rattle.com_model.specs.State.{State, SceneTables, openers_in, home_in, named_in, class_in, issue_in, owns_in, next_sta_in, objects_in, ground_in, scene_in, scene_read, next_of, scene_tables, scene_next, after, BookTables, books_in, books_read, book_tables, books_next, dies_in}
use Rattle.com_model.proofs.Tabled.{grown-row}
use Rattle.com_state.specs.After.{parts_after, acting_in}
use Rattle.com_state.proofs.Joined.{joined}
use Rattle.com_laws_unchanged.specs.Resting.{Resting}
use Rattle.com_laws_unchanged.proofs.Quiets.{still-apt}
use Rattle.com_laws_unchanged.proofs.Still.{SameHolds, step-holds, past-rows, read-back, rows-tell, Still, frames-told, still-places}
use Rattle.com_model.specs.Dying.{fallen_more, is_dying_by, is_entered}
use Rattle.com_laws_unchanged.proofs.Endings.{books-end}
use Rattle.com_laws_unchanged.proofs.Rowless.{ends-rested, out-books}
use Rattle.com_state.proofs.Quiet.{none-fall}
use Rattle.com_state.proofs.SceneRows.{grown-tabulated}

-- ---- results, with one call more

sum-same : (n : ℕ) (f g : ℕ → ℕ) → ((k : ℕ) → k < n → f k ≡ g k) → sum_below n f ≡ sum_below n g
sum-same zero f g p = refl
sum-same (suc n) f g p = ap₂ (λ (x y : ℕ). x + y) (sum-same n f g (λ k h. p k (omega (arith, h)))) (p n (omega arith))

abbrev issue_at : List (Option Issue) → ℕ → Option Issue
issue_at is c = from_one is c None

same-issue : (is : List (Option Issue)) (x : Option Issue) (c : ℕ) → c < length is + 1 → issue_at (is ++ x ∷ []) c ≡ issue_at is c
same-issue is x zero h = refl
same-issue is x (suc c) h = get_or_append_left is (x ∷ []) None c (omega (arith, h))

none-result : (d r : Bool) (n : ℕ) → (if d && (false && r) then n else 0) ≡ 0
none-result true r n = refl
none-result false r n = refl

-- The places of a ground in which one call more is issued, that was not entered.
abbrev with_issues : Ground → List (Option Issue) → Ground
with_issues g is = record g { calls = length is; issue = issue_at is }

results-grown : (g : Ground) (is : List (Option Issue)) (x : Option Issue) (a : ℕ) (t : Test) → g.admitted (length is + 1) ≡ None → in_results (with_issues g (is ++ x ∷ [])) a t ≡ in_results (with_issues g is) a t
results-grown g is x a t e =
    let n : length (is ++ x ∷ []) + 1 ≡ suc (length is + 1) = grind (arith, common_steps) in
    let f : ℕ → ℕ = in_result (with_issues g (is ++ x ∷ [])) a t in
    let last : f (length is + 1) ≡ 0 =
    ap (λ (y : Option _). if is_direct (route_of (issue_at (is ++ x ∷ []) (length is + 1))) && (entered_in a y && not (g.returned (length is + 1))) then passes t (value_reference (left_value (g.left (length is + 1)))) else 0) e
    ∙ none-result (is_direct (route_of (issue_at (is ++ x ∷ []) (length is + 1)))) (not (g.returned (length is + 1))) (passes t (value_reference (left_value (g.left (length is + 1))))) in
    let rest : sum_below (length is + 1) f ≡ sum_below (length is + 1) (in_result (with_issues g is) a t) =
    sum-same (length is + 1) f (in_result (with_issues g is) a t) (λ c h. ap (λ (y : Option Issue). if is_direct (route_of y) && (entered_in a (g.admitted c) && not (g.returned c)) then passes t (value_reference (left_value (g.left c))) else 0) (same-issue is x c h)) in
    ap (λ (k : ℕ). sum_below k f) n ∙ omega (arith, last, rest)

places-grown : (s : Scenario) (g : Ground) (w : Scene) (is : List (Option Issue)) (x : Option Issue) → g.admitted (length is + 1) ≡ None → places s (with_issues g (is ++ x ∷ [])) w ≡ places s (with_issues g is) w
places-grown s g w is x e = λ i a o. in_scripts s g w a (to_object o) + in_bodies s g w a (to_object o) + in_links g w a (to_object o) + results-grown g is x a (to_object o) e i

holders-same : (s : Scenario) (g h : Ground) (w x : Scene) (b : Books) → g.apartments ≡ h.apartments → g.owns ≡ h.owns → places s g w ≡ places s h x → holders_in s g w b ≡ holders_in s h x b
holders-same s g h w x b n q p = λ i o.
    if b.live o then sum_below (n i) (λ a. p i a o) + held_outside b o
    else sum_below (n i) (λ a. if q i o a then p i a o else 0)

-- ---- the Out

module _ (s : Scenario) (st : State) (l c i m k : ℕ) (o : Option ℕ) (r : Route) (bytes : Option (List ℕ)) where
  abbrev said : Deed
  said = deed.Out c o i m r k bytes

  abbrev made : Entry
  made = record { lane = l; deed = said }

  abbrev issued : Option Issue
  issued = Some (record { call = c; lane = l; object = o; iface = i; method = m; route = r; cause = k })

  out-scene : Resting s st → next_of s st l ≡ Some said → SameHolds (scene_in st) (scene_next s st (parts_after s st made) made)
  out-scene p n = step-holds s (class_in st) (issue_in st) (scene_in st) (acting_in s st made) said (still-apt s st l said p n refl).plain

  out-read : Resting s st → next_of s st l ≡ Some said → SameHolds (scene_in st) (scene_read (scene_tables s (parts_after s st made) (scene_next s st (parts_after s st made) made)))
  out-read p n =
      let u : Scene = scene_in st in
      let w : Scene = scene_next s st (parts_after s st made) made in
      let h : SameHolds u w = out-scene p n in
      let more : length (st.issues ++ issued ∷ []) + 1 ≡ suc (length st.issues + 1) = grind (arith, common_steps) in
      record {
        scripts = read-back (λ (f : FrameView). f.slots) (threads s + 1) w.scripts u.scripts (entered []) h.scripts (past-rows st.scene.scripts (threads s) u.scripts (entered []) (ap (λ (t : SceneTables). t.scripts) p.settled.scene));
        bodies = read-back (λ (f : FrameView). f.slots) (length (st.issues ++ issued ∷ []) + 1) w.bodies u.bodies (entered []) h.bodies (λ j z. past-rows st.scene.bodies (length st.issues) u.bodies (entered []) (ap (λ (t : SceneTables). t.bodies) p.settled.scene) j (omega (arith, z, more)));
        links = read-back (λ (f : Cells). f.links) (length st.makings + 1) w.cells u.cells new_cells h.links (past-rows st.scene.cells (length st.makings) u.cells new_cells (ap (λ (t : SceneTables). t.cells) p.settled.scene));
      }

  out-ground : ground_in s (parts_after s st made) ≡ with_issues (record (ground_in s st) { openers = openers_in (parts_after s st made) }) (st.issues ++ issued ∷ [])
  out-ground = λ j. record {
    openers = openers_in (parts_after s st made);
    home = home_in s st;
    apartments = next_sta_in st;
    objects = objects_in st;
    named = named_in st;
    owns = owns_in s st;
    calls = length (st.issues ++ issued ∷ []);
    issue = issue_at (st.issues ++ issued ∷ []);
    admitted = λ d. grown-row true st.admissions d None j;
    left = λ d. grown-row true st.leavings d None j;
    returned = λ d. grown-row true st.returned d false j;
  }

  out-still : (x : Scene) → SameHolds (scene_in st) x → Still (ground_in s st) (openers_in (parts_after s st made)) (scene_in st) x
  out-still x h = record {
    scripts = h.scripts;
    frames = λ j a t. frames-told (scene_in st) x a t (openers_in (parts_after s st made) j) h ∙ rows-tell (λ (d : ℕ) (os : List Opener). sum_by (in_frame (scene_in st) a t) os) st.openers l (Waits c ∷ openers_in st l) [] refl j;
    links = h.links;
    runs = λ j x. rows-tell (λ (d : ℕ) (os : List Opener). runs x os) st.openers l (Waits c ∷ openers_in st l) [] refl j;
  }

  -- The places, in whatever scene holds the same.
  out-places : (x : Scene) → Resting s st → SameHolds (scene_in st) x → places s (ground_in s (parts_after s st made)) x ≡ places s (ground_in s st) (scene_in st)
  out-places x p h =
      let os : ℕ → List Opener = openers_in (parts_after s st made) in
      ap (λ (g : Ground). places s g x) out-ground
      ∙ places-grown s (record (ground_in s st) { openers = os }) x st.issues issued (p.unissued (length st.issues + 1) (omega arith))
      ∙ still-places s (ground_in s st) os (scene_in st) x (out-still x h)

pub out-entry-places : (s : Scenario) (st : State) (l c i m k : ℕ) (o : Option ℕ) (r : Route) (bytes : Option (List ℕ)) → Resting s st → next_of s st l ≡ Some (deed.Out c o i m r k bytes) → places s (ground_in s (after s st l (deed.Out c o i m r k bytes))) (scene_in (after s st l (deed.Out c o i m r k bytes))) ≡ places s (ground_in s st) (scene_in st)
out-entry-places s st l c i m k o r bytes p n =
    let e : Entry = record { lane = l; deed = deed.Out c o i m r k bytes } in
    let su : State = parts_after s st e in
    ap (λ (x : State). places s (ground_in s x) (scene_in x)) (joined s st l (deed.Out c o i m r k bytes))
    ∙ out-places s st l c i m k o r bytes (scene_read (scene_tables s su (scene_next s st su e))) p (out-read s st l c i m k o r bytes p n)

-- ---- an Out that marshals nothing

-- The tables of the books with a row for one call more.
abbrev pub with_call : BookTables → BookTables
with_call t = record t { arguments = t.arguments ++ [] ∷ []; result = t.result ++ None ∷ [] }

module _ (s : Scenario) (st : State) (l c i m k : ℕ) (o : Option ℕ) (r : Route) (p : Resting s st) (n : next_of s st l ≡ Some (deed.Out c o i m r k None)) (e : c ≡ length st.issues + 1) where
  abbrev entry : Entry
  entry = record { lane = l; deed = deed.Out c o i m r k None }

  abbrev new : Option Issue
  new = Some (record { call = c; lane = l; object = o; iface = i; method = m; route = r; cause = k })

  next-books : books_next s st (parts_after s st entry) (scene_next s st (parts_after s st entry) entry) entry ≡ books_in st
  next-books =
      let su : State = parts_after s st entry in
      let w : Scene = scene_next s st su entry in
      let none : (books_in st).arguments c ≡ [] = past-rows st.books.arguments (length st.issues) (books_in st).arguments [] (ap (λ (t : BookTables). t.arguments) p.settled.books) c (omega (arith, e)) in
      books-end s st su w entry
      ∙ ap (ends (next_sta_in st) (places s (ground_in s su) w)) (out-books s st su l c i m k o r none)
      ∙ ap (λ (pl : ℕ → ℕ → ℕ). ends (next_sta_in st) pl (books_in st)) (out-places s st l c i m k o r None w p (out-scene s st l c i m k o r None p n))
      ∙ ends-rested (next_sta_in st) (places s (ground_in s st) (scene_in st)) (books_in st) p.settled.rested

  next-tables : book_tables s (parts_after s st entry) (books_in st) ≡ with_call st.books
  next-tables =
      let b : Books = books_in st in
      let arguments : b.arguments (length st.issues + 1) ≡ [] = past-rows st.books.arguments (length st.issues) b.arguments [] (ap (λ (t : BookTables). t.arguments) p.settled.books) (length st.issues + 1) (omega arith) in
      let result : b.result (length st.issues + 1) ≡ None = past-rows st.books.result (length st.issues) b.result None (ap (λ (t : BookTables). t.result) p.settled.books) (length st.issues + 1) (omega arith) in
      ap₂ (λ (xs : List (List ℕ)) (ys : List (Option ℕ)). record (book_tables s st b) { arguments = xs; result = ys }) (grown-tabulated true new st.issues b.arguments [] arguments) (grown-tabulated true new st.issues b.result None result)
      ∙ ap with_call p.settled.books

  abbrev before_fallen : State
  before_fallen =
      let su : State = parts_after s st entry in
      let w : Scene = scene_next s st su entry in
      record su { scene = scene_tables s su w; books = book_tables s su (books_next s st su w entry) }

  out-tables : before_fallen.books ≡ with_call st.books
  out-tables = ap (book_tables s (parts_after s st entry)) next-books ∙ next-tables

  out-dies : dies_in s before_fallen ≡ dies_in s st
  out-dies =
      let su : State = parts_after s st entry in
      let x : Scene = scene_in before_fallen in
      let os : ℕ → List Opener = openers_in su in
      let h : SameHolds (scene_in st) x = out-read s st l c i m k o r None p n in
      let z : Still (ground_in s st) os (scene_in st) x = out-still s st l c i m k o r None x h in
      ap (λ (b : BookTables). is_dying_by (objects_in st) (λ j. is_member j st.finaled) (holders_in s (ground_in s su) x (books_read b)) (is_entered s os)) out-tables
      ∙ ap (λ (f : ℕ → ℕ). is_dying_by (objects_in st) (λ j. is_member j st.finaled) f (is_entered s os)) (holders-same s (ground_in s su) (ground_in s st) x (scene_in st) (books_in st) refl refl (out-places s st l c i m k o r None x p h))
      ∙ ap (λ (f : ℕ → Bool). is_dying_by (objects_in st) (λ j. is_member j st.finaled) (holders_in s (ground_in s st) (scene_in st) (books_in st)) f) (λ j y. any_of (λ d. z.runs d y j) (one_to (lanes s)))

  pub out-entry-books : (after s st l (deed.Out c o i m r k None)).books ≡ with_call st.books
  out-entry-books = ap (λ (x : State). x.books) (joined s st l (deed.Out c o i m r k None)) ∙ out-tables

  pub out-entry-fallen : (after s st l (deed.Out c o i m r k None)).fallen ≡ st.fallen
  out-entry-fallen =
      ap (λ (x : State). x.fallen) (joined s st l (deed.Out c o i m r k None))
      ∙ ap (λ (f : ℕ → Bool). fallen_more f (objects_in st) st.fallen) out-dies
      ∙ none-fall (dies_in s st) (objects_in st) st.fallen p.settled.dying p.settled.fell
