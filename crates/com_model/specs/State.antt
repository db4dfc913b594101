-- What a core keeps, as tables: a field for each definition, one row for each lane, call or object. No field
-- is a function; functions are readings of the tables. Every step here is the step of the definition.
use Rattle.std.specs.Prelude.{◌≡◌, ℕ, zero, suc, ◌+◌, ◌≤◌, Bool, true, false, not, ◌==◌, ◌&&◌, ◌||◌}
use Rattle.std.specs.Prelude.{if◌then◌else◌, List, [], ◌∷◌, ◌++◌, length, filter, Option, Some, None, is_some}
use Rattle.std.specs.Prelude.{is_none, option_map, slice_index_or, slice_set, pos}
use Rattle.com_base.specs.declared.apartments.TheConstants.{FIRST_STA}
use Rattle.com_base.specs.declared.limits.TheConstants.{BUFFER_COUNT}
use Rattle.com_base.specs.declared.hresult.HResult.{HResult}
use Rattle.com_base.specs.declared.value.Value.{Value}
use Rattle.com_body.specs.declared.operands.Destination.{Destination}
use Rattle.com_body.specs.declared.operands.Destination.TheVariants as destination
use Rattle.com_body.specs.declared.frame.Cells.{Cells}
use Rattle.com_body.specs.Frames.{FrameView, entered}
use Rattle.com_body.specs.Operands.{new_cells}
use Rattle.com_model.specs.declared.deeds.Deed.{Deed}
use Rattle.com_model.specs.declared.deeds.Deed.TheVariants as deed
use Rattle.com_model.specs.declared.deeds.Entry.{Entry}
use Rattle.com_model.specs.declared.scenario.Scenario.{Scenario}
use Rattle.com_model.specs.Answers.{S_OK, is_S_OK}
use Rattle.com_model.specs.Lists.{or_else, where_true, without_first, first, is_member, number_or_zero}
use Rattle.com_model.specs.Lists.{each_from, tabulated, from_one}
use Rattle.com_refs_books.specs.Counting.{count_if}
use Rattle.com_model.specs.Tables.{lanes, threads, lane_sort, is_agile_class}
use Rattle.com_model.specs.Openers.{Opener, Pumps, Effect, Opens, Closes, Keeps, Leaves, effect, opened}
use Rattle.com_model.specs.Openers.{left_on, running_call, entered_apartment, openers, served}
use Rattle.com_model.specs.Apartments.{HomeEffect, Initialises, Uninitialises, Remains, home_effect}
use Rattle.com_model.specs.Apartments.{home_after, home_by_sort, count_after, makes_sta, ends_sta, with_last}
use Rattle.com_model.specs.Apartments.{or_host, serves_by_sort, is_end, thread_home, init_count, stas, ended}
use Rattle.com_model.specs.Apartments.{made_in, over, next_sta}
use Rattle.com_model.specs.Objects.{Making, makes, finals, making, objects, finaled}
use Rattle.com_model.specs.Calls.{Issue, Admission, Leaving, issues, admits, leaves, returns, object_of}
use Rattle.com_model.specs.Calls.{lane_of, is_marshalled, issue, admitted, left, returned, calls, causes}
use Rattle.com_model.specs.Clock.{FilterEffect, Names, Keeps as KeepsFilter, ticked, filter_effect}
use Rattle.com_model.specs.Clock.{in_made_sta, clock, issued_at, last_filter}
use Rattle.com_model.specs.Frames.{Scene, Actor, actor, scene_after, act_by, scene}
use Rattle.com_model.specs.Endings.{Ending, EndEffect, EndsCall, CutsObject, CutsSta, EndsNone, end_effect}
use Rattle.com_model.specs.Endings.{ends, can_be_cut, is_leave, ending}
use Rattle.com_model.specs.Places.{Ground}
use Rattle.com_refs_books.specs.Changes.{Books}
use Rattle.com_refs_books.specs.declared.keeps.Packet.{Packet}
use Rattle.com_refs_books.specs.declared.keeps.Cookie.{Cookie}
use Rattle.com_model.specs.Books.{most, closed, out_values, holders_in, books}
use Rattle.com_model.specs.Waiting.{Phase, Queued, Judged, Delayed, GivenUp, PostEffect, Posts, Judges}
use Rattle.com_model.specs.Waiting.{Delays, GivesUp, PostsNone, Brings, Takes, Asks, Forgets, Unposted, Mail}
use Rattle.com_model.specs.Waiting.{no_mail, post_effect, is_queued, posted_last, mail_after, bound_reached}
use Rattle.com_model.specs.Waiting.{phase, postings, mail, quit_stands}
use Rattle.com_model.specs.Dying.{is_entered, is_dying_by, fallen_more, fallen}
use Rattle.com_model.specs.Issue.{action_refusal, or_ok, at_issue, unread}
use Rattle.com_model.specs.Sight.{Sight}
use Rattle.com_model.specs.Rules.{next_by, legal}

-- A scene and books without functions.
pub record SceneTables : Type 0 where
  pub scripts : List FrameView
  pub bodies : List FrameView
  pub cells : List Cells
  pub buffers : List (List ℕ)
  pub destinations : List Destination

-- The books of public references. Rows of apartments, objects, interfaces and calls are by number from 0; packets
-- and cookies from 1.
pub record BookTables : Type 0 where
  pub stub : List (List ℕ)
  pub proxy : List (List (List ℕ))
  pub packets : List Packet
  pub cookies : List Cookie
  pub live : List Bool
  pub arguments : List (List ℕ)
  pub result : List (Option ℕ)

-- What a core keeps of the history so far: tables by lane, object and call, and what there is once for all.
pub record State : Type 0 where
  -- by lane, from 0
  pub openers : List (List Opener)
  pub served : List ℕ
  pub homes : List (Option ℕ)
  pub counts : List ℕ
  pub made : List (List ℕ)
  pub over : List Bool
  pub filters : List (Option ℕ)
  pub mail : List Mail
  pub quits : List Bool
  -- the STAs that threads made, and those that ended
  pub stas : List ℕ
  pub ended : List ℕ
  -- by object, from 1, and the objects that were released
  pub makings : List (Option Making)
  pub finaled : List ℕ
  -- by call, from 1, and the calls in the order of their last posting
  pub issues : List (Option Issue)
  pub admissions : List (Option Admission)
  pub leavings : List (Option Leaving)
  pub returned : List Bool
  pub endings : List (Option Ending)
  pub refusals : List HResult
  pub unread : List (List Value)
  pub phases : List Phase
  pub times : List ℕ
  pub postings : List ℕ
  pub causes : ℕ
  pub clock : ℕ
  pub entries : ℕ
  pub scene : SceneTables
  pub books : BookTables
  pub fallen : List ℕ

-- ---- readings

-- What stands open in a lane, the innermost first.
abbrev pub openers_in : State → ℕ → List Opener
openers_in st l = slice_index_or st.openers l []

-- How many bodies have left that the lane's last pump admitted directly.
abbrev pub served_in : State → ℕ → ℕ
served_in st l = slice_index_or st.served l 0

-- The home of a lane: the host's is a2, a pool lane's a1; a thread has none while it is not initialised.
abbrev pub home_in : Scenario → State → ℕ → Option ℕ
home_in s st l = home_by_sort (lane_sort s l) (slice_index_or st.homes l None)

-- The apartment in which a lane runs: the one of its last open Enter, else its home, if it has one.
abbrev pub running_in : Scenario → State → ℕ → Option ℕ
running_in s st l = or_else (entered_apartment (openers_in st l)) (home_in s st l)

-- The number of the next STA that a thread makes. All apartments have numbers below it.
abbrev pub next_sta_in : State → ℕ
next_sta_in st = length st.stas + FIRST_STA

abbrev pub main_sta_in : State → ℕ
main_sta_in st = or_host (first (filter (λ a. not (is_member a st.ended)) st.stas))

abbrev pub making_in : State → ℕ → Option Making
making_in st o = from_one st.makings o None

-- How many objects were made. They have the numbers from 1 to this.
abbrev pub objects_in : State → ℕ
objects_in st = length st.makings

-- The apartment that an object's making names, its owner; 0 for an agile object, and where there is no such object.
abbrev pub named_in : State → ℕ → ℕ
named_in st o = number_or_zero (option_map (λ (m : Making). m.apartment) (making_in st o))

-- The number of an object's class, from 1; 0 where there is no such object.
abbrev pub class_in : State → ℕ → ℕ
class_in st o = number_or_zero (option_map (λ (m : Making). m.class) (making_in st o))

abbrev pub agile_in : Scenario → State → ℕ → Bool
agile_in s st o = is_agile_class s (class_in st o)

-- Whether apartment a owns the object: each apartment does where the object is agile, else the one of its making.
abbrev pub owns_in : Scenario → State → ℕ → ℕ → Bool
owns_in s st o a = agile_in s st o || a == named_in st o

abbrev pub owner_in : Scenario → State → ℕ → ℕ → ℕ
owner_in s st o l = if agile_in s st o then number_or_zero (running_in s st l) else named_in st o

-- What the Out of a call says; none where there is no such call.
abbrev pub issue_in : State → ℕ → Option Issue
issue_in st c = from_one st.issues c None

-- What the Enter of a call says; none where it was not entered.
abbrev pub admitted_in : State → ℕ → Option Admission
admitted_in st c = from_one st.admissions c None

abbrev pub left_in : State → ℕ → Option Leaving
left_in st c = from_one st.leavings c None

abbrev pub returned_in : State → ℕ → Bool
returned_in st c = from_one st.returned c false

-- What fixed the answer of a call; none as long as it has no answer.
abbrev pub ending_in : State → ℕ → Option Ending
ending_in st c = from_one st.endings c None

-- Where a call stands since its last posting: `Unposted` where it was never posted, or there is no such call.
abbrev pub phase_in : State → ℕ → Phase
phase_in st c = from_one st.phases c Unposted

-- The message filter of a lane: the one named last in its home, if that is an STA that a thread made; else none.
abbrev pub filter_in : Scenario → State → ℕ → Option ℕ
filter_in s st l = in_made_sta (home_in s st l) (slice_index_or st.filters l None)

abbrev pub waits_for : State → ℕ → ℕ → Bool
waits_for st a c =
    named_in st (object_of (issue_in st c)) == a
    && (is_queued (phase_in st c) && (is_none (admitted_in st c) && is_none (ending_in st c)))

-- The calls that wait in the inbox of an apartment, in the order of their last posting.
abbrev pub inbox_in : State → ℕ → List ℕ
inbox_in st a = filter (waits_for st a) st.postings

-- The scene that tables stand for. Under a number without row a frame, an object's cells or a buffer are as new.
abbrev pub scene_read : SceneTables → Scene
scene_read t = record {
  scripts = λ l. slice_index_or t.scripts l (entered []);
  bodies = λ c. slice_index_or t.bodies c (entered []);
  cells = λ o. slice_index_or t.cells o new_cells;
  buffers = λ p. slice_index_or t.buffers p [];
  destinations = λ c. slice_index_or t.destinations c destination.Nowhere;
}

-- What scripts, open bodies, objects and packet buffers hold.
abbrev pub scene_in : State → Scene
scene_in st = scene_read st.scene

-- The books that tables stand for. Under a number without row nothing is counted and nothing is connected.
abbrev pub books_read : BookTables → Books
books_read t = record {
  stub = λ o i. slice_index_or (slice_index_or t.stub o []) i 0;
  proxy = λ a o i. slice_index_or (slice_index_or (slice_index_or t.proxy a []) o []) i 0;
  packets = t.packets;
  cookies = t.cookies;
  live = λ o. slice_index_or t.live o false;
  arguments = λ c. slice_index_or t.arguments c [];
  result = λ c. slice_index_or t.result c None;
}

-- What stubs, proxies, packets and cookies hold, and which objects are connected.
abbrev pub books_in : State → Books
books_in st = books_read st.books

-- What the places of references rest on, beside what the scene holds.
abbrev pub ground_in : Scenario → State → Ground
ground_in s st = record {
  openers = openers_in st;
  home = home_in s st;
  apartments = next_sta_in st;
  objects = objects_in st;
  named = named_in st;
  owns = owns_in s st;
  calls = length st.issues;
  issue = issue_in st;
  admitted = admitted_in st;
  left = left_in st;
  returned = returned_in st;
}

-- Who acts in a lane: a body, a script, which may have come to its end, or nobody.
abbrev pub actor_of : Scenario → State → ℕ → Actor
actor_of s st l = actor (lane_sort s l) l (openers_in st l)

-- Whether an object is dying: it was made, has no Final, no holder, and no Enter of it is open.
abbrev pub dies_in : Scenario → State → ℕ → Bool
dies_in s st o =
    is_dying_by (objects_in st) (λ x. is_member x st.finaled)
    (holders_in s (ground_in s st) (scene_in st) (books_in st))
    (is_entered s (openers_in st)) o

-- Whether a lane serves apartment a: a thread the STAs that it made, ended ones too; the host a2; a pool lane a0, a1.
abbrev pub serves_in : Scenario → State → ℕ → ℕ → Bool
serves_in s st l a = serves_by_sort (lane_sort s l) (is_member a (slice_index_or st.made l [])) a

-- The dying objects of the apartments that a lane serves, in the order in which their Finals are due.
abbrev pub dying_in : Scenario → State → ℕ → List ℕ
dying_in s st l = filter (λ o. dies_in s st o && serves_in s st l (named_in st o)) st.fallen

-- All that the rules look at, as the tables have it.
abbrev pub sight_of : Scenario → State → Sight
sight_of s st = record {
  openers = openers_in st;
  served = served_in st;
  home = home_in s st;
  running = running_in s st;
  count = λ l. slice_index_or st.counts l 0;
  over = λ l. slice_index_or st.over l false;
  act = λ l. act_by s (class_in st) (issue_in st) (scene_in st) (actor_of s st l);
  filter = filter_in s st;
  mail = λ l. slice_index_or st.mail l no_mail;
  quit = λ l. slice_index_or st.quits l false;
  dying = dying_in s st;
  next_sta = next_sta_in st;
  main_sta = main_sta_in st;
  inbox = inbox_in st;
  objects = objects_in st;
  named = named_in st;
  class = class_in st;
  owns = owns_in s st;
  owner = owner_in s st;
  calls = length st.issues;
  causes = st.causes;
  issue = issue_in st;
  admitted = admitted_in st;
  returned = returned_in st;
  ending = ending_in st;
  at_issue = λ c. from_one st.refusals c S_OK;
  unread = λ c. from_one st.unread c [];
  phase = phase_in st;
  issued_at = λ c. from_one st.times c 0;
  clock = st.clock;
  books = books_in st;
  buffers = (scene_in st).buffers;
}

-- The next entry of a lane, by the same rules.
abbrev pub next_of : Scenario → State → ℕ → Option Deed
next_of s st l = next_by s (sight_of s st) (lane_sort s l) l

-- ---- after an entry

-- A new row for a call that an Out issues, and for an object that a Made makes.
abbrev pub grown : {X : Type 0} → Bool → X → List X → List X
grown false x xs = xs
grown true x xs = xs ++ x ∷ []

-- Whether an entry is an Out, which gives a new call its row.
abbrev pub issued_by : Entry → Bool
issued_by e = is_some (issues e.lane e.deed)

-- ---- what an entry changes in a table: one row, or none

-- A row after what an entry does to it; where it does nothing to it, the row as it was.
abbrev pub changed : {X : Type 0} → Option (X → X) → X → X
changed None x = x
changed (Some f) x = f x

-- The table where the row of a number changes.
abbrev pub changed_at : {X : Type 0} → Option (X → X) → ℕ → X → List X → List X
changed_at None k d t = t
changed_at (Some f) k d t = slice_set t k (f (slice_index_or t k d))

-- The changed table, where the first row is that of number 1.
abbrev pub changed_from_one : {X : Type 0} → Option (X → X) → ℕ → X → List X → List X
changed_from_one None k d t = t
changed_from_one (Some f) zero d t = t
changed_from_one (Some f) (suc k) d t = slice_set t k (f (slice_index_or t k d))

-- What a deed does to the openers of its lane: it adds one as the innermost, takes the innermost away, or neither.
abbrev pub opens : Effect → Option (List Opener → List Opener)
opens (Opens o) = Some (λ os. o ∷ os)
opens (Closes c) = Some without_first
opens Keeps = None

-- With the openers after it.
abbrev pub serves_more : Effect → List Opener → Option (ℕ → ℕ)
serves_more (Opens (Pumps n)) os = Some (λ k. 0)
serves_more (Closes (Leaves c)) os = Some (left_on (Closes (Leaves c)) os)
serves_more _ os = None

-- What a deed does to the home of its lane: an Init gives the home that it names, an Uninit the one before it or,
-- with count 0, none; every other deed leaves the home.
abbrev pub homes_change : HomeEffect → Option (Option ℕ → Option ℕ)
homes_change (Initialises a hr) = Some (home_after (Initialises a hr))
homes_change (Uninitialises a n) = Some (home_after (Uninitialises a n))
homes_change Remains = None

-- What a deed does to the count of its lane: an Init that succeeds adds 1, an Uninit sets the count that it
-- names; every other deed leaves the count.
abbrev pub counts_change : HomeEffect → Option (ℕ → ℕ)
counts_change (Initialises a hr) = Some (count_after (Initialises a hr))
counts_change (Uninitialises a n) = Some (count_after (Uninitialises a n))
counts_change Remains = None

-- An STA that a deed makes goes behind those that its lane made before; any other deed leaves these.
abbrev pub made_change : Option ℕ → Option (List ℕ → List ℕ)
made_change None = None
made_change (Some a) = Some (λ as'. as' ++ a ∷ [])

-- An End makes its lane be over; every other deed leaves the lane as it was, over or not.
abbrev pub over_change : Bool → Option (Bool → Bool)
over_change true = Some (λ b. true)
over_change false = None

-- What a deed does to the filter of its lane: it names one, or takes away the one before, or leaves it.
abbrev pub filters_change : FilterEffect → Option (Option ℕ → Option ℕ)
filters_change (Names f) = Some (λ g. f)
filters_change KeepsFilter = None

-- A Post changes the words of the lane that it names.
abbrev pub mail_lane : ℕ → Deed → ℕ
mail_lane l (deed.Post (pos m) w hr) = m
mail_lane l _ = l

-- What a deed does to the words and marks of a lane: a Post with S_OK brings a word, a Word takes the first, a Pending
-- asks, a Back forgets the mark of its call.
abbrev pub mail_change : Deed → Option (Mail → Mail)
mail_change (deed.Post (pos m) w hr) = where_true (is_S_OK hr) (mail_after (Brings w))
mail_change (deed.Word w) = Some (mail_after Takes)
mail_change (deed.Pending c w n) = Some (mail_after (Asks c n))
mail_change (deed.Back c hr v) = Some (mail_after (Forgets c))
mail_change _ = None

-- A Quit is for the lane that it names; any other deed can only touch the quit of its own lane.
abbrev pub quit_lane : ℕ → Deed → ℕ
quit_lane l (deed.Quit (pos m) hr) = m
quit_lane l _ = l

-- A Quit with S_OK makes a quit stand. An EndPump that comes of a quit, not of the pump's bound, uses it up.
abbrev pub quit_change : (by_quit : Bool) → Deed → Option (Bool → Bool)
quit_change own (deed.Quit (pos m) hr) = where_true (is_S_OK hr) (λ b. true)
quit_change own deed.EndPump = where_true own (λ b. false)
quit_change own _ = None

-- The table of Enters, by call: an Enter fills the row of its call.
abbrev pub admissions_by : Option Admission → List (Option Admission) → List (Option Admission)
admissions_by None t = t
admissions_by (Some a) t = changed_from_one (Some (λ x. Some a)) a.call None t

-- The table of Leaves, by call: a Leave fills the row of its call.
abbrev pub leavings_by : Option Leaving → List (Option Leaving) → List (Option Leaving)
leavings_by None t = t
leavings_by (Some a) t = changed_from_one (Some (λ x. Some a)) a.call None t

-- Which calls are back: a Back marks the row of its call.
abbrev pub returned_by : Option ℕ → List Bool → List Bool
returned_by None t = t
returned_by (Some c) t = changed_from_one (Some (λ b. true)) c false t

-- The phases of calls after an entry that posts, judges, delays or gives up one of them. A delay ends at a time of
-- the clock: so many milliseconds after `now`.
abbrev pub phases_by : PostEffect → (now : ℕ) → List Phase → List Phase
phases_by (Posts c) n t = changed_from_one (Some (λ p. Queued)) c Unposted t
phases_by (Judges c v) n t = changed_from_one (Some (λ p. Judged v)) c Unposted t
phases_by (Delays c ms) n t = changed_from_one (Some (λ p. Delayed (n + ms))) c Unposted t
phases_by (GivesUp c) n t = changed_from_one (Some (λ p. GivenUp)) c Unposted t
phases_by PostsNone n t = t

-- What the entry does to the answers of calls, and the ending that it gives to one.
abbrev pub end_effect_in : Scenario → State → Entry → EndEffect
end_effect_in s st e = end_effect (λ d. is_some (filter_in s st (lane_of (issue_in st d)))) e.deed

abbrev pub ends_in : State → EndEffect → ℕ → Option Ending
ends_in st x c =
    ends x c (object_of (issue_in st c)) (named_in st (object_of (issue_in st c)))
    (can_be_cut (issue_in st c) (admitted_in st c))

-- The endings of calls after an entry. A call that has one keeps it, since the first entry that fixes it counts.
abbrev pub endings_by : State → EndEffect → List (Option Ending) → List (Option Ending)
endings_by st EndsNone t = t
endings_by st (EndsCall c x) t = changed_from_one (Some (λ y. or_else y (Some x))) c None t
endings_by st (CutsObject o) t = each_from (λ c y. or_else y (ends_in st (CutsObject o) c)) 1 t
endings_by st (CutsSta a) t = each_from (λ c y. or_else y (ends_in st (CutsSta a) c)) 1 t

-- The tables of lanes, apartments, objects and calls. What the entry changes in a table is looked at first: a
-- table that it keeps is the same.
abbrev pub tables_after : Scenario → State → Entry → State
tables_after s st e =
    record st {
      openers = changed_at (opens (effect e.deed)) e.lane [] st.openers;
      served =
          changed_at (serves_more (effect e.deed) (opened (effect e.deed) (openers_in st e.lane))) e.lane 0
          st.served;
      homes = changed_at (homes_change (home_effect e.deed)) e.lane None st.homes;
      counts = changed_at (counts_change (home_effect e.deed)) e.lane 0 st.counts;
      made = changed_at (made_change (makes_sta e.deed)) e.lane [] st.made;
      over = changed_at (over_change (is_end e.deed)) e.lane false st.over;
      filters = changed_at (filters_change (filter_effect e.deed)) e.lane None st.filters;
      mail = changed_at (mail_change e.deed) (mail_lane e.lane e.deed) no_mail st.mail;
      quits =
          changed_at (quit_change (not (bound_reached (openers_in st e.lane) (served_in st e.lane))) e.deed)
          (quit_lane e.lane e.deed) false st.quits;
      stas = with_last st.stas (makes_sta e.deed);
      ended = with_last st.ended (ends_sta e.deed);
      makings = grown (is_some (makes e.deed)) (makes e.deed) st.makings;
      finaled = with_last st.finaled (finals e.deed);
      issues = grown (issued_by e) (issues e.lane e.deed) st.issues;
      admissions = admissions_by (admits e.lane e.deed) (grown (issued_by e) None st.admissions);
      leavings = leavings_by (leaves e.deed) (grown (issued_by e) None st.leavings);
      returned = returned_by (returns e.deed) (grown (issued_by e) false st.returned);
      endings = endings_by st (end_effect_in s st e) (grown (issued_by e) None st.endings);
      phases = phases_by (post_effect e.deed) st.clock (grown (issued_by e) Unposted st.phases);
      times = grown (issued_by e) st.clock st.times;
      postings = posted_last (post_effect e.deed) st.postings;
      causes = count_if (issued_by e && is_none (running_call (openers_in st e.lane))) + st.causes;
      clock = ticked e.deed st.clock;
      entries = st.entries + 1;
    }

-- The refusal and the values of a call at its Out, by the action that its lane makes.
abbrev pub refusals_after : Scenario → State → Entry → List HResult
refusals_after s st e =
    grown (issued_by e)
    (or_ok (action_refusal s (home_in s st e.lane) (running_in s st e.lane) (owns_in s st) (books_in st).live
    ((sight_of s st).act e.lane)))
    st.refusals

-- Whether the entry is an Out on a route that marshals, which are switch and post.
abbrev pub is_marshalled_by : Option Issue → Bool
is_marshalled_by None = false
is_marshalled_by (Some i) = is_marshalled i.route

-- The values of a call are let go where it is entered or gets its answer: nothing reads them after that.
abbrev pub enters : Option Admission → ℕ → Bool
enters None c = false
enters (Some a) c = a.call == c

-- The values of a call, and none once they are let go.
abbrev pub let_go : Bool → List Value → List Value
let_go true vs = []
let_go false vs = vs

-- The values that calls sent and nobody has read yet: a call that is entered or answered by the entry has none left.
abbrev pub unread_by : State → Option Admission → EndEffect → List (List Value) → List (List Value)
unread_by st None EndsNone t = t
unread_by st None (EndsCall c x) t = changed_from_one (Some (λ vs. [])) c [] t
unread_by st (Some a) EndsNone t = changed_from_one (Some (λ vs. [])) a.call [] t
unread_by st m x t = each_from (λ c vs. let_go (enters m c || is_some (ends_in st x c)) vs) 1 t

abbrev pub unread_after : Scenario → State → Entry → List (List Value)
unread_after s st e =
    unread_by st (admits e.lane e.deed) (end_effect_in s st e)
    (grown (issued_by e)
    (out_values s (books_in st) (is_marshalled_by (issues e.lane e.deed)) ((sight_of s st).act e.lane))
    st.unread)

-- The scene and the books, written as tables that have a row for each lane, call, object and buffer.
abbrev pub scene_tables : Scenario → State → Scene → SceneTables
scene_tables s st w = record {
  scripts = tabulated (threads s + 1) w.scripts;
  bodies = tabulated (length st.issues + 1) w.bodies;
  cells = tabulated (objects_in st + 1) w.cells;
  buffers = tabulated BUFFER_COUNT w.buffers;
  destinations = tabulated (length st.issues + 1) w.destinations;
}

-- Books as tables: a row for each apartment and declared interface, and for objects and calls from the unused 0 on.
abbrev pub book_tables : Scenario → State → Books → BookTables
book_tables s st b = record {
  stub = tabulated (objects_in st + 1) (λ o. tabulated (length s.classes.interfaces) (b.stub o));
  proxy =
      tabulated (next_sta_in st)
      (λ a. tabulated (objects_in st + 1) (λ o. tabulated (length s.classes.interfaces) (b.proxy a o)));
  packets = b.packets;
  cookies = b.cookies;
  live = tabulated (objects_in st + 1) b.live;
  arguments = tabulated (length st.issues + 1) b.arguments;
  result = tabulated (length st.issues + 1) b.result;
}

-- The scene after an entry. Who acts in its lane is judged both before it and after it.
abbrev pub scene_next : Scenario → (before after : State) → Entry → Scene
scene_next s st su e =
    scene_after s (class_in st) (named_in st) (issue_in st) (actor_of s st e.lane)
    (actor_of s su e.lane) e.lane e.deed (scene_in st)

-- The books after an entry: what its lane does, and in which apartment, is judged before it, places after it.
abbrev pub books_next : Scenario → (before after : State) → Scene → Entry → Books
books_next s st su w e =
    closed s (ground_in s su) w e.deed
    (most s (ground_in s su) w ((sight_of s st).act e.lane) (λ c. is_leave (ending_in st c))
    (number_or_zero (running_in s st e.lane))
    e.deed (books_in st))

abbrev pub with_fallen : Scenario → State → State
with_fallen s st = record st { fallen = fallen_more (dies_in s st) (objects_in st) st.fallen }

-- The state with this scene and these books, and with the objects that are dying by them.
abbrev pub with_books : Scenario → State → Scene → Books → State
with_books s st w b = with_fallen s (record st { scene = scene_tables s st w; books = book_tables s st b })

abbrev pub completed : Scenario → (before after : State) → List (List Value) → Scene → Entry → State
completed s st su vs w e =
    with_books s (record su { refusals = refusals_after s st e; unread = vs }) w (books_next s st su w e)

abbrev pub after_by : Scenario → (before after : State) → List (List Value) → Entry → State
after_by s st su vs e = completed s st su vs (scene_next s st su e) e

-- The state after a deed of a lane.
abbrev pub after_entry : Scenario → State → Entry → State
after_entry s st e = after_by s st (tables_after s st e) (unread_after s st e) e

-- The state after lane l made the deed.
abbrev pub after : Scenario → State → (lane : ℕ) → Deed → State
after s st l d = after_entry s st (record { lane = l; deed = d })

-- The state before the first entry: a row for each lane and each buffer, and none of a call or an object but
-- the unused one of number 0.
abbrev pub first_tables : Scenario → State
first_tables s = record {
  openers = tabulated (lanes s + 1) (λ l. []);
  served = tabulated (lanes s + 1) (λ l. 0);
  homes = tabulated (lanes s + 1) (λ l. None);
  counts = tabulated (lanes s + 1) (λ l. 0);
  made = tabulated (lanes s + 1) (λ l. []);
  over = tabulated (lanes s + 1) (λ l. false);
  filters = tabulated (lanes s + 1) (λ l. None);
  mail = tabulated (lanes s + 1) (λ l. no_mail);
  quits = tabulated (lanes s + 1) (λ l. false);
  stas = [];
  ended = [];
  makings = [];
  finaled = [];
  issues = [];
  admissions = [];
  leavings = [];
  returned = [];
  endings = [];
  refusals = [];
  unread = [];
  phases = [];
  times = [];
  postings = [];
  causes = 0;
  clock = 0;
  entries = 0;
  scene = record {
    scripts = tabulated (threads s + 1) (λ l. entered []);
    bodies = tabulated 1 (λ c. entered []);
    cells = tabulated 1 (λ o. new_cells);
    buffers = tabulated BUFFER_COUNT (λ b. []);
    destinations = tabulated 1 (λ c. destination.Nowhere);
  };
  books = record {
    stub = tabulated 1 (λ o. tabulated (length s.classes.interfaces) (λ i. 0));
    proxy = tabulated FIRST_STA (λ a. tabulated 1 (λ o. tabulated (length s.classes.interfaces) (λ i. 0)));
    packets = [];
    cookies = [];
    live = tabulated 1 (λ o. false);
    arguments = tabulated 1 (λ c. []);
    result = tabulated 1 (λ c. None);
  };
  fallen = [];
}

-- ---- the state of a history

pub record SameScene (w x : Scene) : Type 0 where
  pub scripts : (l : ℕ) → w.scripts l ≡ x.scripts l
  pub bodies : (c : ℕ) → w.bodies c ≡ x.bodies c
  pub cells : (o : ℕ) → w.cells o ≡ x.cells o
  pub buffers : (p : ℕ) → w.buffers p ≡ x.buffers p
  pub destinations : (c : ℕ) → w.destinations c ≡ x.destinations c

-- Two books that agree for every object, interface, apartment and call, and have the same packets and cookies.
pub record SameBooks (b c : Books) : Type 0 where
  pub stub : (o i : ℕ) → b.stub o i ≡ c.stub o i
  pub proxy : (a o i : ℕ) → b.proxy a o i ≡ c.proxy a o i
  pub packets : b.packets ≡ c.packets
  pub cookies : b.cookies ≡ c.cookies
  pub live : (o : ℕ) → b.live o ≡ c.live o
  pub arguments : (x : ℕ) → b.arguments x ≡ c.arguments x
  pub result : (x : ℕ) → b.result x ≡ c.result x

-- One clause for each part.
pub record LanesStand (s : Scenario) (st : State) (h : List Entry) : Type 0 where
  pub rows : (length st.openers ≡ lanes s + 1) × (length st.served ≡ lanes s + 1)
      × (length st.homes ≡ lanes s + 1) × (length st.counts ≡ lanes s + 1) × (length st.made ≡ lanes s + 1)
      × (length st.over ≡ lanes s + 1) × (length st.filters ≡ lanes s + 1) × (length st.mail ≡ lanes s + 1)
      × (length st.quits ≡ lanes s + 1)
  pub openers : (l : ℕ) → openers_in st l ≡ openers h l
  pub served : (l : ℕ) → served_in st l ≡ served h l
  pub homes : (l : ℕ) → slice_index_or st.homes l None ≡ thread_home h l
  pub counts : (l : ℕ) → slice_index_or st.counts l 0 ≡ init_count h l
  pub made : (l a : ℕ) → is_member a (slice_index_or st.made l []) ≡ made_in h l a
  pub over : (l : ℕ) → slice_index_or st.over l false ≡ over h l
  pub filters : (l : ℕ) → slice_index_or st.filters l None ≡ last_filter h l
  pub mail : (l : ℕ) → slice_index_or st.mail l no_mail ≡ mail h l
  pub quits : (l : ℕ) → slice_index_or st.quits l false ≡ quit_stands h l

pub record ApartmentsStand (st : State) (h : List Entry) : Type 0 where
  pub stas : st.stas ≡ stas h
  pub ended : (a : ℕ) → is_member a st.ended ≡ ended h a

pub record ObjectsStand (st : State) (h : List Entry) : Type 0 where
  pub number : objects_in st ≡ objects h
  pub makings : (o : ℕ) → making_in st o ≡ making h o
  pub finaled : (o : ℕ) → is_member o st.finaled ≡ finaled h o

pub record CallsStand (st : State) (h : List Entry) : Type 0 where
  pub number : length st.issues ≡ calls h
  pub rows : (length st.admissions ≡ calls h) × (length st.leavings ≡ calls h)
      × (length st.returned ≡ calls h) × (length st.phases ≡ calls h) × (length st.times ≡ calls h)
  pub issues : (c : ℕ) → issue_in st c ≡ issue h c
  pub admissions : (c : ℕ) → admitted_in st c ≡ admitted h c
  pub leavings : (c : ℕ) → left_in st c ≡ left h c
  pub returned : (c : ℕ) → returned_in st c ≡ returned h c
  pub phases : (c : ℕ) → phase_in st c ≡ phase h c
  pub times : (c : ℕ) → from_one st.times c 0 ≡ issued_at h c
  pub postings : st.postings ≡ postings h
  pub causes : st.causes ≡ causes h

pub record AnswersStand (s : Scenario) (st : State) (h : List Entry) : Type 0 where
  pub rows : (length st.endings ≡ calls h) × (length st.refusals ≡ calls h) × (length st.unread ≡ calls h)
  pub endings : (c : ℕ) → ending_in st c ≡ ending s h c
  pub refusals : (c : ℕ) → from_one st.refusals c S_OK ≡ at_issue s h c
  pub unread : (c : ℕ) → from_one st.unread c [] ≡ unread s h c

-- The state stands for a legal history.
pub record StandsFor (s : Scenario) (st : State) (h : List Entry) : Type 0 where
  pub lawful : legal s h
  pub lanes : LanesStand s st h
  pub apartments : ApartmentsStand st h
  pub objects : ObjectsStand st h
  pub calls : CallsStand st h
  pub answers : AnswersStand s st h
  pub scene : SameScene (scene_in st) (scene s h)
  pub books : SameBooks (books_in st) (books s h)
  pub rows : (scene_tables s st (scene_in st) ≡ st.scene) × (book_tables s st (books_in st) ≡ st.books)
  pub fallen : st.fallen ≡ fallen s h
  pub clock : st.clock ≡ clock h
  pub entries : st.entries ≡ length h

-- Nothing stands outside of the numbers that were given by then: scripts are threads', bodies and packets are
-- those of calls that were issued, cells and public references those of objects that were made, by declared
-- interfaces, and a proxy's those of an apartment; there are `BUFFER_COUNT` buffers.
pub record Bounded (s : Scenario) (h : List Entry) : Type 0 where
  pub scripts : (l : ℕ) → threads s + 1 ≤ l → (scene s h).scripts l ≡ entered []
  pub bodies : (c : ℕ) → calls h + 1 ≤ c → (scene s h).bodies c ≡ entered []
  pub cells : (o : ℕ) → objects h + 1 ≤ o → (scene s h).cells o ≡ new_cells
  pub buffers : (b : ℕ) → BUFFER_COUNT ≤ b → (scene s h).buffers b ≡ []
  pub destinations : (c : ℕ) → calls h + 1 ≤ c → (scene s h).destinations c ≡ destination.Nowhere
  pub stub_objects : (o i : ℕ) → objects h + 1 ≤ o → (books s h).stub o i ≡ 0
  pub stub_interfaces : (o i : ℕ) → length s.classes.interfaces ≤ i → (books s h).stub o i ≡ 0
  pub proxy_apartments : (a o i : ℕ) → next_sta h ≤ a → (books s h).proxy a o i ≡ 0
  pub proxy_objects : (a o i : ℕ) → objects h + 1 ≤ o → (books s h).proxy a o i ≡ 0
  pub proxy_interfaces : (a o i : ℕ) → length s.classes.interfaces ≤ i → (books s h).proxy a o i ≡ 0
  pub live : (o : ℕ) → objects h + 1 ≤ o → (books s h).live o ≡ false
  pub arguments : (c : ℕ) → calls h + 1 ≤ c → (books s h).arguments c ≡ []
  pub result : (c : ℕ) → calls h + 1 ≤ c → (books s h).result c ≡ None
