-- A state that stands for a history stands for the longer one after a deed, where nothing stands outside of the numbers that
-- were given: the scene, the books and the dying objects. And the first state stands for the empty history.
use Rattle.std.proofs.Common.{ap}
use Rattle.std.specs.Prelude.{◌≡◌, refl, ℕ, ◌+◌, false, List, [], ◌∷◌, length, None}
use Rattle.com_body.specs.declared.operands.Destination.TheVariants as destination
use Rattle.com_body.specs.Frames.{entered}
use Rattle.com_body.specs.Operands.{new_cells}
use Rattle.com_model.specs.declared.deeds.Deed.{Deed}
use Rattle.com_model.specs.declared.deeds.Entry.{Entry}
use Rattle.com_model.specs.declared.scenario.Scenario.{Scenario}
use Rattle.com_model.specs.Lists.{number_or_zero, is_member}
use Rattle.com_model.specs.Tables.{lane_sort, lanes, threads}
use Rattle.com_model.specs.Answers.{S_OK}
use Rattle.com_model.specs.Apartments.{next_sta}
use Rattle.com_model.specs.Waiting.{Unposted, no_mail}
use Rattle.com_model.specs.Calls.{calls}
use Rattle.com_model.specs.Objects.{objects}
use Rattle.com_model.specs.Frames.{Scene, first_scene, scene, scene_after, actor}
use Rattle.com_model.specs.Places.{ground}
use Rattle.com_refs_books.specs.Changes.{Books, no_books}
use Rattle.com_model.specs.Books.{books, closed, most, holders_in}
use Rattle.com_model.specs.Endings.{is_leave}
use Rattle.com_model.specs.Dying.{is_dying_by, is_entered, fallen_more}
use Rattle.com_model.specs.Sight.{sight}
use Rattle.com_model.specs.Rules.{legal}
use Rattle.com_model.specs.State.{State, scene_tables, book_tables, scene_read, books_read, SameScene, SameBooks, LanesStand, ApartmentsStand, ObjectsStand, CallsStand, StandsFor, Bounded, first_tables, scene_in, books_in, ground_in, sight_of, scene_next, books_next}
use Rattle.com_model.proofs.Stands.{apartments-after, clock-after}
use Rattle.com_model.proofs.Lanes.{lanes-after}
use Rattle.com_model.proofs.Rows.{objects-after, calls-after, entries-after}
use Rattle.com_model.proofs.Replies.{answers-after}
use Rattle.com_model.proofs.Sights.{same-scene, same-books, same-named, same-class, same-ground, same-sight}
use Rattle.com_model.proofs.Tabled.{again, again-rows, again-deep, tabulated-row, length-tabulated, rows-of, rows-in-rows, rows-deep, no-row}
use Rattle.com_model.proofs.Rowed.{after_rowed, tables_rowed}

-- Tables that are written again from their own readings.
scene-again : (s : Scenario) (st : State) (w : Scene) → scene_tables s st (scene_read (scene_tables s st w)) ≡ scene_tables s st w
scene-again s st w = λ i. record {
  scripts = again (threads s + 1) w.scripts (entered []) i;
  bodies = again (length st.issues + 1) w.bodies (entered []) i;
  cells = again (length st.makings + 1) w.cells new_cells i;
  buffers = again 64 w.buffers [] i;
  destinations = again (length st.issues + 1) w.destinations destination.Nowhere i;
}

books-again : (s : Scenario) (st : State) (b : Books) → book_tables s st (books_read (book_tables s st b)) ≡ book_tables s st b
books-again s st b = λ i. record {
  stub = again-rows (length st.makings + 1) (length s.classes.interfaces) b.stub 0 i;
  proxy = again-deep (length st.stas + 3) (length st.makings + 1) (length s.classes.interfaces) b.proxy 0 i;
  packets = b.packets;
  cookies = b.cookies;
  live = again (length st.makings + 1) b.live false i;
  arguments = again (length st.issues + 1) b.arguments [] i;
  result = again (length st.issues + 1) b.result None i;
}

pub whole-after : (s : Scenario) (st : State) (h : List Entry) (l : ℕ) (d : Deed) → legal s (record { lane = l; deed = d } ∷ h) → Bounded s (record { lane = l; deed = d } ∷ h) → StandsFor s st h → StandsFor s (after_rowed s st l d) (record { lane = l; deed = d } ∷ h)
whole-after s st h l d q b p =
    let e : Entry = record { lane = l; deed = d } in
    let su : State = tables_rowed s st e in
    let nl : LanesStand s (after_rowed s st l d) (e ∷ h) = lanes-after s st h l d q.1 p.lanes in
    let na : ApartmentsStand (after_rowed s st l d) (e ∷ h) = apartments-after s st h l d p.apartments in
    let no : ObjectsStand (after_rowed s st l d) (e ∷ h) = objects-after s st h l d q p.objects in
    let nc : CallsStand (after_rowed s st l d) (e ∷ h) = calls-after s st h l d q p.lanes p.clock p.calls in
    let v : sight_of s st ≡ sight s h = same-sight s st h p in
    let g : ground_in s (after_rowed s st l d) ≡ ground s (e ∷ h) = same-ground s (after_rowed s st l d) (e ∷ h) nl na no nc in
    let sc : scene_in st ≡ scene s h = same-scene (scene_in st) (scene s h) p.scene in
    let w : scene_next s st su e ≡ scene s (e ∷ h) = λ i. scene_after s (same-class st h p.objects i) (same-named st h p.objects i) (λ c. p.calls.issues c i) (actor (lane_sort s l) l (p.lanes.openers l i)) (actor (lane_sort s l) l (nl.openers l i)) l d (sc i) in
    let x : books_next s st su (scene_next s st su e) e ≡ books s (e ∷ h) = λ i. closed s (g i) (w i) d (most s (g i) (w i) ((v i).act l) (λ c. is_leave ((v i).ending c)) (number_or_zero ((v i).running l)) d (v i).books) in
    let calls' : length su.issues + 1 ≡ calls (e ∷ h) + 1 = ap (λ (n : ℕ). n + 1) nc.number in
    let objects' : length su.makings + 1 ≡ objects (e ∷ h) + 1 = ap (λ (n : ℕ). n + 1) no.number in
    let stas' : length su.stas + 3 ≡ next_sta (e ∷ h) = ap (λ (xs : List ℕ). length xs + 3) na.stas in
    let new : SameScene (scene_in (after_rowed s st l d)) (scene s (e ∷ h)) = record {
      scripts = rows-of (threads s + 1) (threads s + 1) _ (scene s (e ∷ h)).scripts (entered []) refl (ap (λ (y : Scene). y.scripts) w) b.scripts;
      bodies = rows-of (length su.issues + 1) (calls (e ∷ h) + 1) _ (scene s (e ∷ h)).bodies (entered []) calls' (ap (λ (y : Scene). y.bodies) w) b.bodies;
      cells = rows-of (length su.makings + 1) (objects (e ∷ h) + 1) _ (scene s (e ∷ h)).cells new_cells objects' (ap (λ (y : Scene). y.cells) w) b.cells;
      buffers = rows-of 64 64 _ (scene s (e ∷ h)).buffers [] refl (ap (λ (y : Scene). y.buffers) w) b.buffers;
      destinations = rows-of (length su.issues + 1) (calls (e ∷ h) + 1) _ (scene s (e ∷ h)).destinations destination.Nowhere calls' (ap (λ (y : Scene). y.destinations) w) b.destinations;
    } in
    let book : SameBooks (books_in (after_rowed s st l d)) (books s (e ∷ h)) = record {
      stub = rows-in-rows (length su.makings + 1) (objects (e ∷ h) + 1) (length s.classes.interfaces) _ (books s (e ∷ h)).stub 0 objects' (ap (λ (y : Books). y.stub) x) b.stub_objects b.stub_interfaces;
      proxy = rows-deep (length su.stas + 3) (next_sta (e ∷ h)) (length su.makings + 1) (objects (e ∷ h) + 1) (length s.classes.interfaces) _ (books s (e ∷ h)).proxy 0 stas' objects' (ap (λ (y : Books). y.proxy) x) b.proxy_apartments b.proxy_objects b.proxy_interfaces;
      packets = ap (λ (y : Books). y.packets) x;
      cookies = ap (λ (y : Books). y.cookies) x;
      live = rows-of (length su.makings + 1) (objects (e ∷ h) + 1) _ (books s (e ∷ h)).live false objects' (ap (λ (y : Books). y.live) x) b.live;
      arguments = rows-of (length su.issues + 1) (calls (e ∷ h) + 1) _ (books s (e ∷ h)).arguments [] calls' (ap (λ (y : Books). y.arguments) x) b.arguments;
      result = rows-of (length su.issues + 1) (calls (e ∷ h) + 1) _ (books s (e ∷ h)).result None calls' (ap (λ (y : Books). y.result) x) b.result;
    } in
    let sn : scene_in (after_rowed s st l d) ≡ scene s (e ∷ h) = same-scene (scene_in (after_rowed s st l d)) (scene s (e ∷ h)) new in
    let bn : books_in (after_rowed s st l d) ≡ books s (e ∷ h) = same-books (books_in (after_rowed s st l d)) (books s (e ∷ h)) book in
    record {
      lawful = q;
      lanes = nl;
      apartments = na;
      objects = no;
      calls = nc;
      answers = answers-after s st h l d q p;
      scene = new;
      books = book;
      rows = (scene-again s su (scene_next s st su e), books-again s su (books_next s st su (scene_next s st su e) e));
      fallen = λ i. fallen_more (is_dying_by (no.number i) (λ o. no.finaled o i) (holders_in s (g i) (sn i) (bn i)) (is_entered s (g i).openers)) (no.number i) (p.fallen i);
      clock = clock-after s st h l d p.clock;
      entries = entries-after s st h l d p.entries;
    }

pub first-stands : (s : Scenario) → StandsFor s (first_tables s) []
first-stands s = record {
  lawful = tt;
  lanes = record {
    rows = (length-tabulated (lanes s + 1) _, length-tabulated (lanes s + 1) _, length-tabulated (lanes s + 1) _, length-tabulated (lanes s + 1) _, length-tabulated (lanes s + 1) _, length-tabulated (lanes s + 1) _, length-tabulated (lanes s + 1) _, length-tabulated (lanes s + 1) _, length-tabulated (lanes s + 1) _);
    openers = tabulated-row (lanes s + 1) (λ l. []) [] (λ k q. refl);
    served = tabulated-row (lanes s + 1) (λ l. 0) 0 (λ k q. refl);
    homes = tabulated-row (lanes s + 1) (λ l. None) None (λ k q. refl);
    counts = tabulated-row (lanes s + 1) (λ l. 0) 0 (λ k q. refl);
    made = λ l a. ap (is_member a) (tabulated-row (lanes s + 1) (λ l. []) [] (λ k q. refl) l);
    over = tabulated-row (lanes s + 1) (λ l. false) false (λ k q. refl);
    filters = tabulated-row (lanes s + 1) (λ l. None) None (λ k q. refl);
    mail = tabulated-row (lanes s + 1) (λ l. no_mail) no_mail (λ k q. refl);
    quits = tabulated-row (lanes s + 1) (λ l. false) false (λ k q. refl);
  };
  apartments = record { stas = refl; ended = λ a. refl };
  objects = record { number = refl; makings = λ o. no-row o None; finaled = λ o. refl };
  calls = record {
    number = refl;
    rows = (refl, refl, refl, refl, refl);
    issues = λ c. no-row c None;
    admissions = λ c. no-row c None;
    leavings = λ c. no-row c None;
    returned = λ c. no-row c false;
    phases = λ c. no-row c Unposted;
    times = λ c. no-row c 0;
    postings = refl;
    causes = refl;
  };
  answers = record { rows = (refl, refl, refl); endings = λ c. no-row c None; refusals = λ c. no-row c S_OK; unread = λ c. no-row c [] };
  scene = record {
    scripts = tabulated-row (threads s + 1) (λ l. entered []) (entered []) (λ k q. refl);
    bodies = tabulated-row 1 (λ c. entered []) (entered []) (λ k q. refl);
    cells = tabulated-row 1 (λ o. new_cells) new_cells (λ k q. refl);
    buffers = tabulated-row 64 (λ b. []) [] (λ k q. refl);
    destinations = tabulated-row 1 (λ c. destination.Nowhere) destination.Nowhere (λ k q. refl);
  };
  books = record {
    stub = rows-in-rows 1 1 (length s.classes.interfaces) (λ o k. 0) (λ o k. 0) 0 refl refl (λ o k q. refl) (λ o k q. refl);
    proxy = rows-deep 3 3 1 1 (length s.classes.interfaces) (λ a o k. 0) (λ a o k. 0) 0 refl refl refl (λ a o k q. refl) (λ a o k q. refl) (λ a o k q. refl);
    packets = refl;
    cookies = refl;
    live = tabulated-row 1 (λ o. false) false (λ k q. refl);
    arguments = tabulated-row 1 (λ c. []) [] (λ k q. refl);
    result = tabulated-row 1 (λ c. None) None (λ k q. refl);
  };
  rows = (scene-again s (first_tables s) first_scene, books-again s (first_tables s) no_books);
  fallen = refl;
  clock = refl;
  entries = refl;
}
