-- Where a state stands for a history, the rules see in its tables what they see after the history.
use Rattle.std.proofs.Common.{ap}
use Rattle.std.specs.Prelude.{◌≡◌, ℕ, ◌+◌, not, cond, ◌||◌, ◌&&◌, ◌==◌, List, length, filter, is_none, option_map}
use Rattle.com_model.specs.declared.deeds.Entry.{Entry}
use Rattle.com_model.specs.declared.scenario.Scenario.{Scenario}
use Rattle.com_model.specs.Lists.{or_else, first, number_or_zero}
use Rattle.com_model.specs.Tables.{lane_sort, is_agile_class}
use Rattle.com_model.specs.Openers.{entered_apartment}
use Rattle.com_model.specs.Apartments.{home_by_sort, or_host, serves_by_sort}
use Rattle.com_model.specs.Objects.{Making, named, class_of}
use Rattle.com_model.specs.Calls.{object_of}
use Rattle.com_model.specs.Clock.{in_made_sta}
use Rattle.com_model.specs.Frames.{Scene, scene, actor, act_by}
use Rattle.com_model.specs.Places.{ground}
use Rattle.com_refs_books.specs.Changes.{Books}
use Rattle.com_model.specs.Books.{books, holders_in}
use Rattle.com_model.specs.Waiting.{is_queued}
use Rattle.com_model.specs.Dying.{is_dying_by, is_entered}
use Rattle.com_model.specs.Sight.{Sight, sight}
use Rattle.com_model.specs.Rules.{next, next_by}
use Rattle.com_model.specs.State.{State, SameScene, SameBooks, LanesStand, ApartmentsStand, ObjectsStand, CallsStand, StandsFor, scene_in, books_in, named_in, class_in, ground_in, sight_of, next_of}

-- What reads alike at each number is the same.
pub same-scene : (w x : Scene) → SameScene w x → w ≡ x
same-scene w x p = λ i. record {
  scripts = λ l. p.scripts l i;
  bodies = λ c. p.bodies c i;
  cells = λ o. p.cells o i;
  buffers = λ b. p.buffers b i;
  destinations = λ c. p.destinations c i;
}

pub same-books : (b c : Books) → SameBooks b c → b ≡ c
same-books b c p = λ i. record {
  stub = λ o k. p.stub o k i;
  proxy = λ a o k. p.proxy a o k i;
  packets = p.packets i;
  cookies = p.cookies i;
  live = λ o. p.live o i;
  arguments = λ x. p.arguments x i;
  result = λ x. p.result x i;
}

pub same-named : (st : State) (h : List Entry) → ObjectsStand st h → named_in st ≡ named h
same-named st h p = λ i o. number_or_zero (option_map (λ (m : Making). m.apartment) (p.makings o i))

pub same-class : (st : State) (h : List Entry) → ObjectsStand st h → class_in st ≡ class_of h
same-class st h p = λ i o. number_or_zero (option_map (λ (m : Making). m.class) (p.makings o i))

pub same-ground : (s : Scenario) (st : State) (h : List Entry) → LanesStand s st h → ApartmentsStand st h → ObjectsStand st h → CallsStand st h → ground_in s st ≡ ground s h
same-ground s st h lanes apartments objects calls = λ i. record {
  openers = λ l. lanes.openers l i;
  home = λ l. home_by_sort (lane_sort s l) (lanes.homes l i);
  apartments = length (apartments.stas i) + 3;
  objects = objects.number i;
  named = same-named st h objects i;
  owns = λ o a. is_agile_class s (same-class st h objects i o) || a == same-named st h objects i o;
  calls = calls.number i;
  issue = λ c. calls.issues c i;
  admitted = λ c. calls.admissions c i;
  left = λ c. calls.leavings c i;
  returned = λ c. calls.returned c i;
}

pub same-sight : (s : Scenario) (st : State) (h : List Entry) → StandsFor s st h → sight_of s st ≡ sight s h
same-sight s st h p =
    let g : ground_in s st ≡ ground s h = same-ground s st h p.lanes p.apartments p.objects p.calls in
    let w : scene_in st ≡ scene s h = same-scene (scene_in st) (scene s h) p.scene in
    let b : books_in st ≡ books s h = same-books (books_in st) (books s h) p.books in
    let n : named_in st ≡ named h = same-named st h p.objects in
    let k : class_in st ≡ class_of h = same-class st h p.objects in
    λ i. record {
      openers = (g i).openers;
      served = λ l. p.lanes.served l i;
      home = (g i).home;
      running = λ l. or_else (entered_apartment (p.lanes.openers l i)) ((g i).home l);
      count = λ l. p.lanes.counts l i;
      over = λ l. p.lanes.over l i;
      act = λ l. act_by s (k i) (λ c. p.calls.issues c i) (w i) (actor (lane_sort s l) l (p.lanes.openers l i));
      filter = λ l. in_made_sta ((g i).home l) (p.lanes.filters l i);
      mail = λ l. p.lanes.mail l i;
      quit = λ l. p.lanes.quits l i;
      dying = λ l. filter (λ o. is_dying_by (p.objects.number i) (λ x. p.objects.finaled x i) (holders_in s (g i) (w i) (b i)) (is_entered s (g i).openers) o && serves_by_sort (lane_sort s l) (p.lanes.made l (n i o) i) (n i o)) (p.fallen i);
      next_sta = length (p.apartments.stas i) + 3;
      main_sta = or_host (first (filter (λ a. not (p.apartments.ended a i)) (p.apartments.stas i)));
      inbox = λ a. filter (λ c. n i (object_of (p.calls.issues c i)) == a && (is_queued (p.calls.phases c i) && (is_none (p.calls.admissions c i) && is_none (p.answers.endings c i)))) (p.calls.postings i);
      objects = p.objects.number i;
      named = n i;
      class = k i;
      owns = (g i).owns;
      owner = λ o l. cond (is_agile_class s (k i o)) (number_or_zero (or_else (entered_apartment (p.lanes.openers l i)) ((g i).home l))) (n i o);
      calls = p.calls.number i;
      causes = p.calls.causes i;
      issue = λ c. p.calls.issues c i;
      admitted = λ c. p.calls.admissions c i;
      returned = λ c. p.calls.returned c i;
      ending = λ c. p.answers.endings c i;
      at_issue = λ c. p.answers.refusals c i;
      unread = λ c. p.answers.unread c i;
      phase = λ c. p.calls.phases c i;
      issued_at = λ c. p.calls.times c i;
      clock = p.clock i;
      books = b i;
      buffers = (w i).buffers;
    }

pub same-next : (s : Scenario) (st : State) (h : List Entry) (l : ℕ) → StandsFor s st h → next_of s st l ≡ next s h l
same-next s st h l p = ap (λ (v : Sight). next_by s v (lane_sort s l) l) (same-sight s st h p)
