-- What the rules look at, read from the parts of a core.
use Rattle.std.specs.Prelude.{ℕ, ◌+◌, Bool, false, not, ◌==◌, ◌||◌, if◌then◌else◌, List, []}
use Rattle.std.specs.Prelude.{Option, None, filter, length, slice_index_or}
use Rattle.com_base.specs.declared.apartments.TheConstants.{FIRST_STA}
use Rattle.com_refs_books.specs.Changes.{Books, no_books}
use Rattle.com_model.specs.declared.scenario.Scenario.{Scenario}
use Rattle.com_model.specs.declared.keeps.Phase.TheVariants.{Unposted}
use Rattle.com_model.specs.Answers.{S_OK}
use Rattle.com_model.specs.Lists.{or_else, first, from_one, is_member, number_or_zero}
use Rattle.com_model.specs.Tables.{lane_sort, is_agile_class}
use Rattle.com_model.specs.Openers.{entered_apartment}
use Rattle.com_model.specs.Apartments.{home_by_sort, or_host, serves_by_sort}
use Rattle.com_model.specs.Clock.{in_made_sta}
use Rattle.com_model.specs.Frames.{actor, act_by}
use Rattle.com_model.specs.Sight.{Sight}
use Rattle.com_model.specs.State.{SceneTables, scene_read}
use Rattle.com_model.specs.Waiting.{no_mail}
use Rattle.com_state.specs.Parts.{LaneTables, ObjectTables, openers_at, served_at, issue_at, admission_at}
use Rattle.com_state.specs.Parts.{named_at, class_at}
use Rattle.com_calls.specs.Kept.{Kept, inbox_at}

-- What is read: the scenario, the tables of lanes, of objects, of calls with their inboxes, what frames and
-- cells hold, the objects that wait for their Final, and the clock in milliseconds. Who holds references
-- stands beside.
pub record Seen : Type 0 where
  pub scenario : Scenario
  pub lanes : LaneTables
  pub objects : ObjectTables
  pub calls : Kept
  pub scene : SceneTables
  pub fallen : List ℕ
  pub clock : ℕ

-- A lane's home apartment, where it has one: the host lane's is the host STA, and a pool lane's is the MTA.
abbrev pub home_seen : Seen → ℕ → Option ℕ
home_seen w l = home_by_sort (lane_sort w.scenario l) (slice_index_or w.lanes.homes l None)

-- The apartment that the innermost open body of a lane entered, and the lane's home where no body is open.
abbrev pub running_seen : Seen → ℕ → Option ℕ
running_seen w l = or_else (entered_apartment (openers_at w.lanes l)) (home_seen w l)

-- The message filter that a lane has set, where its home is an STA that a thread made; else None.
abbrev pub filter_seen : Seen → ℕ → Option ℕ
filter_seen w l = in_made_sta (home_seen w l) (slice_index_or w.lanes.filters l None)

abbrev pub agile_seen : Seen → ℕ → Bool
agile_seen w o = is_agile_class w.scenario (class_at w.objects o)

abbrev pub serves_seen : Seen → (lane apartment : ℕ) → Bool
serves_seen w l a = serves_by_sort (lane_sort w.scenario l) (is_member a (slice_index_or w.lanes.made l [])) a

abbrev pub dying_seen : Seen → ℕ → List ℕ
dying_seen w l =
    filter (λ o. serves_seen w l (named_at w.objects o)) w.fallen

-- All that the model's rules may look at: what is read, and the books of references beside it.
abbrev pub sight_by : Seen → Books → Sight
sight_by w b = record {
  openers = openers_at w.lanes;
  served = served_at w.lanes;
  home = home_seen w;
  running = running_seen w;
  count = λ l. slice_index_or w.lanes.counts l 0;
  over = λ l. slice_index_or w.lanes.over l false;
  act =
      λ l. act_by w.scenario (class_at w.objects) (issue_at w.calls.tables) (scene_read w.scene)
      (actor (lane_sort w.scenario l) l (openers_at w.lanes l));
  filter = filter_seen w;
  mail = λ l. slice_index_or w.lanes.mail l no_mail;
  quit = λ l. slice_index_or w.lanes.quits l false;
  dying = dying_seen w;
  next_sta = length w.lanes.stas + FIRST_STA;
  main_sta = or_host (first (filter (λ a. not (is_member a w.lanes.ended)) w.lanes.stas));
  inbox = inbox_at w.calls;
  objects = length w.objects.makings;
  named = named_at w.objects;
  class = class_at w.objects;
  owns = λ o a. agile_seen w o || a == named_at w.objects o;
  owner = λ o l. if agile_seen w o then number_or_zero (running_seen w l) else named_at w.objects o;
  calls = length w.calls.tables.issues;
  causes = w.calls.tables.causes;
  issue = issue_at w.calls.tables;
  admitted = admission_at w.calls.tables;
  returned = λ c. from_one w.calls.tables.returned c false;
  ending = λ c. from_one w.calls.tables.endings c None;
  at_issue = λ c. from_one w.calls.tables.refusals c S_OK;
  unread = λ c. from_one w.calls.tables.unread c [];
  phase = λ c. from_one w.calls.tables.phases c Unposted;
  issued_at = λ c. from_one w.calls.tables.times c 0;
  clock = w.clock;
  books = b;
  buffers = λ p. slice_index_or w.scene.buffers p [];
}

-- The sight where nobody holds a reference: what a rule gives without references is the same in all books.
abbrev pub bare : Seen → Sight
bare w = sight_by w no_books
