-- The state of a core by parts: what lanes keep, what objects keep, and what calls keep, and how an entry
-- changes each part. Each column is changed as in the state's own definition; a part looks at the deed, and
-- at no more of the other parts than is handed in.
use Rattle.std.specs.Prelude.{ℕ, ◌+◌, Bool, false, not, ◌&&◌, ◌||◌, List, [], Option, Some, None, is_some}
use Rattle.std.specs.Prelude.{option_map, slice_index_or}
use Rattle.com_base.specs.declared.hresult.HResult.{HResult}
use Rattle.com_base.specs.declared.value.Value.{Value}
use Rattle.com_refs_books.specs.Counting.{count_if}
use Rattle.com_model.specs.declared.deeds.Entry.{Entry}
use Rattle.com_model.specs.declared.keeps.Opener.{Opener}
use Rattle.com_model.specs.declared.keeps.Making.{Making}
use Rattle.com_model.specs.declared.keeps.Issue.{Issue}
use Rattle.com_model.specs.declared.keeps.Admission.{Admission}
use Rattle.com_model.specs.declared.keeps.Leaving.{Leaving}
use Rattle.com_model.specs.declared.keeps.Ending.{Ending}
use Rattle.com_model.specs.declared.keeps.Phase.{Phase}
use Rattle.com_model.specs.declared.keeps.Phase.TheVariants.{Unposted}
use Rattle.com_model.specs.Lists.{or_else, number_or_zero, each_from, from_one}
use Rattle.com_model.specs.Openers.{effect, opened}
use Rattle.com_model.specs.Apartments.{home_effect, makes_sta, ends_sta, with_last, is_end}
use Rattle.com_model.specs.Objects.{makes, finals}
use Rattle.com_model.specs.Calls.{issues, admits, leaves, returns, object_of}
use Rattle.com_model.specs.Clock.{filter_effect}
use Rattle.com_model.specs.Endings.{EndEffect, EndsCall, CutsObject, CutsSta, EndsNone, end_effect, ends}
use Rattle.com_model.specs.Endings.{can_be_cut}
use Rattle.com_model.specs.Waiting.{Mail, no_mail, post_effect, posted_last, bound_reached}
use Rattle.com_model.specs.State.{State, SceneTables, BookTables, grown, issued_by, changed_at}
use Rattle.com_model.specs.State.{changed_from_one, opens, serves_more, homes_change, counts_change}
use Rattle.com_model.specs.State.{made_change, over_change, filters_change, mail_lane, mail_change, quit_lane}
use Rattle.com_model.specs.State.{quit_change, admissions_by, leavings_by, returned_by, phases_by, enters}
use Rattle.com_model.specs.State.{let_go}

-- By lane, from 0; and the STAs that threads made, the oldest first, and those that ended.
pub record LaneTables : Type 0 where
  pub openers : List (List Opener)
  pub served : List ℕ
  pub homes : List (Option ℕ)
  pub counts : List ℕ
  pub made : List (List ℕ)
  pub over : List Bool
  pub filters : List (Option ℕ)
  pub mail : List Mail
  pub quits : List Bool
  pub stas : List ℕ
  pub ended : List ℕ

-- By object, from 1; and the objects that were released.
pub record ObjectTables : Type 0 where
  pub makings : List (Option Making)
  pub finaled : List ℕ

-- By call, from 1; the calls in the order of their last posting; and how many causalities were drawn.
pub record CallTables : Type 0 where
  pub issues : List (Option Issue)
  pub admissions : List (Option Admission)
  pub leavings : List (Option Leaving)
  pub returned : List Bool
  pub endings : List (Option Ending)
  pub refusals : List HResult
  pub unread : List (List Value)
  pub phases : List Phase
  pub times : List ℕ
  pub postings : List ℕ
  pub causes : ℕ

-- What a state has of lanes and of the STAs that threads made.
abbrev pub lanes_of : State → LaneTables
lanes_of st = record {
  openers = st.openers;
  served = st.served;
  homes = st.homes;
  counts = st.counts;
  made = st.made;
  over = st.over;
  filters = st.filters;
  mail = st.mail;
  quits = st.quits;
  stas = st.stas;
  ended = st.ended;
}

-- What a state has of objects.
abbrev pub objects_of : State → ObjectTables
objects_of st = record { makings = st.makings; finaled = st.finaled }

-- What a state has of calls.
abbrev pub calls_of : State → CallTables
calls_of st = record {
  issues = st.issues;
  admissions = st.admissions;
  leavings = st.leavings;
  returned = st.returned;
  endings = st.endings;
  refusals = st.refusals;
  unread = st.unread;
  phases = st.phases;
  times = st.times;
  postings = st.postings;
  causes = st.causes;
}

-- The state that has these parts.
abbrev pub state_of : LaneTables → ObjectTables → CallTables → SceneTables → BookTables → (fallen : List ℕ)
    → (clock entries : ℕ) → State
state_of l o c scene books fallen clock entries = record {
  openers = l.openers;
  served = l.served;
  homes = l.homes;
  counts = l.counts;
  made = l.made;
  over = l.over;
  filters = l.filters;
  mail = l.mail;
  quits = l.quits;
  stas = l.stas;
  ended = l.ended;
  makings = o.makings;
  finaled = o.finaled;
  issues = c.issues;
  admissions = c.admissions;
  leavings = c.leavings;
  returned = c.returned;
  endings = c.endings;
  refusals = c.refusals;
  unread = c.unread;
  phases = c.phases;
  times = c.times;
  postings = c.postings;
  causes = c.causes;
  clock = clock;
  entries = entries;
  scene = scene;
  books = books;
  fallen = fallen;
}

-- ---- lanes

-- The openers of a lane, the innermost first; none where the lane has no row.
abbrev pub openers_at : LaneTables → ℕ → List Opener
openers_at t l = slice_index_or t.openers l []

-- How many bodies have left that the lane's last pump admitted directly; 0 where the lane has no row.
abbrev pub served_at : LaneTables → ℕ → ℕ
served_at t l = slice_index_or t.served l 0

-- The tables of lanes after an entry. It changes the row of its own lane, and a Post or a Quit that of the lane which
-- it names; an STA that begins or ends is put last.
abbrev pub lanes_after : LaneTables → Entry → LaneTables
lanes_after t e = record {
  openers = changed_at (opens (effect e.deed)) e.lane [] t.openers;
  served =
      changed_at (serves_more (effect e.deed) (opened (effect e.deed) (openers_at t e.lane))) e.lane 0
      t.served;
  homes = changed_at (homes_change (home_effect e.deed)) e.lane None t.homes;
  counts = changed_at (counts_change (home_effect e.deed)) e.lane 0 t.counts;
  made = changed_at (made_change (makes_sta e.deed)) e.lane [] t.made;
  over = changed_at (over_change (is_end e.deed)) e.lane false t.over;
  filters = changed_at (filters_change (filter_effect e.deed)) e.lane None t.filters;
  mail = changed_at (mail_change e.deed) (mail_lane e.lane e.deed) no_mail t.mail;
  quits =
      changed_at (quit_change (not (bound_reached (openers_at t e.lane) (served_at t e.lane))) e.deed)
      (quit_lane e.lane e.deed) false t.quits;
  stas = with_last t.stas (makes_sta e.deed);
  ended = with_last t.ended (ends_sta e.deed);
}

-- ---- objects

-- The object's number, apartment and class, as its Made names them; None where no object has the number.
abbrev pub making_at : ObjectTables → ℕ → Option Making
making_at t o = from_one t.makings o None

-- The apartment that the object's Made names; 0 where no object has the number.
abbrev pub named_at : ObjectTables → ℕ → ℕ
named_at t o = number_or_zero (option_map (λ (m : Making). m.apartment) (making_at t o))

-- The class of an object, by its number; 0 where no object has the number.
abbrev pub class_at : ObjectTables → ℕ → ℕ
class_at t o = number_or_zero (option_map (λ (m : Making). m.class) (making_at t o))

-- The tables of objects after an entry: a Made adds the object that it makes, a Final one to those that were released.
abbrev pub objects_after : ObjectTables → Entry → ObjectTables
objects_after t e = record {
  makings = grown (is_some (makes e.deed)) (makes e.deed) t.makings;
  finaled = with_last t.finaled (finals e.deed);
}

-- ---- calls

-- What a call has at its Out: the refusal, or S_OK, and the values that it sends.
pub record Issuing : Type 0 where
  pub refusal : HResult
  pub values : List Value

-- What an entry finds of other parts: whether its lane runs no body, whether the caller's lane of the call
-- that it names has a filter, and the clock.
pub record Moment : Type 0 where
  pub is_outermost : Bool
  pub filtered : Bool
  pub clock : ℕ

-- What the Out of a call says; None where no call has the number.
abbrev pub issue_at : CallTables → ℕ → Option Issue
issue_at t c = from_one t.issues c None

-- What the Enter of a call says; None before it.
abbrev pub admission_at : CallTables → ℕ → Option Admission
admission_at t c = from_one t.admissions c None

-- What an entry does to the answers of calls; a Verdict ends its call only where the caller's lane has no filter.
abbrev pub end_effect_at : Moment → Entry → EndEffect
end_effect_at m e = end_effect (λ c. m.filtered) e.deed

-- The ending that such an effect gives to a call, if any. A disconnection reaches it by its target, or by the
-- apartment that the target's Made names, and only while it can be cut.
abbrev pub ends_at : ObjectTables → CallTables → EndEffect → ℕ → Option Ending
ends_at o t x c =
    ends x c (object_of (issue_at t c)) (named_at o (object_of (issue_at t c)))
    (can_be_cut (issue_at t c) (admission_at t c))

-- The endings of calls after an entry; a call that has one keeps it.
abbrev pub endings_after : ObjectTables → CallTables → EndEffect → List (Option Ending) → List (Option Ending)
endings_after o t EndsNone xs = xs
endings_after o t (EndsCall c x) xs = changed_from_one (Some (λ y. or_else y (Some x))) c None xs
endings_after o t (CutsObject p) xs = each_from (λ c y. or_else y (ends_at o t (CutsObject p) c)) 1 xs
endings_after o t (CutsSta a) xs = each_from (λ c y. or_else y (ends_at o t (CutsSta a) c)) 1 xs

-- The values that calls sent, after an entry: those of a call that it enters or ends are not kept any more.
abbrev pub unread_after : ObjectTables → CallTables → Option Admission → EndEffect → List (List Value)
    → List (List Value)
unread_after o t None EndsNone xs = xs
unread_after o t None (EndsCall c x) xs = changed_from_one (Some (λ vs. [])) c [] xs
unread_after o t (Some a) EndsNone xs = changed_from_one (Some (λ vs. [])) a.call [] xs
unread_after o t m x xs = each_from (λ c vs. let_go (enters m c || is_some (ends_at o t x c)) vs) 1 xs

-- With what the call has that the entry issues, if it issues one.
abbrev pub calls_after : ObjectTables → Moment → Issuing → CallTables → Entry → CallTables
calls_after o m i t e = record {
  issues = grown (issued_by e) (issues e.lane e.deed) t.issues;
  admissions = admissions_by (admits e.lane e.deed) (grown (issued_by e) None t.admissions);
  leavings = leavings_by (leaves e.deed) (grown (issued_by e) None t.leavings);
  returned = returned_by (returns e.deed) (grown (issued_by e) false t.returned);
  endings = endings_after o t (end_effect_at m e) (grown (issued_by e) None t.endings);
  refusals = grown (issued_by e) i.refusal t.refusals;
  unread =
      unread_after o t (admits e.lane e.deed) (end_effect_at m e) (grown (issued_by e) i.values t.unread);
  phases = phases_by (post_effect e.deed) m.clock (grown (issued_by e) Unposted t.phases);
  times = grown (issued_by e) m.clock t.times;
  postings = posted_last (post_effect e.deed) t.postings;
  causes = count_if (issued_by e && m.is_outermost) + t.causes;
}
