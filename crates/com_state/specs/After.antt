-- The state after an entry by its parts: what the entry finds of the other parts, what it makes of each, and
-- the scene and the books after it.
use Rattle.std.specs.Prelude.{ℕ, ◌+◌, Bool, false, Option, is_some, is_none}
use Rattle.com_body.specs.declared.frame.Outcome.{Outcome}
use Rattle.com_model.specs.declared.deeds.Deed.{Deed}
use Rattle.com_model.specs.declared.deeds.Deed.TheVariants as deed
use Rattle.com_model.specs.declared.deeds.Entry.{Entry}
use Rattle.com_model.specs.declared.scenario.Scenario.{Scenario}
use Rattle.com_model.specs.Tables.{lane_sort}
use Rattle.com_model.specs.Openers.{running_call}
use Rattle.com_model.specs.Calls.{issues, lane_of}
use Rattle.com_model.specs.Clock.{ticked}
use Rattle.com_model.specs.Frames.{Actor, actor, acting, outcome}
use Rattle.com_model.specs.Books.{out_values}
use Rattle.com_model.specs.Issue.{action_refusal, or_ok}
use Rattle.com_model.specs.State.{State, SceneTables, openers_in, filter_in, issue_in, class_in, named_in}
use Rattle.com_model.specs.State.{home_in, running_in, owns_in, scene_in, books_in, actor_of, sight_of}
use Rattle.com_model.specs.State.{is_marshalled_by, with_books, scene_next, books_next}
use Rattle.com_state.specs.Parts.{Issuing, Moment, lanes_of, objects_of, calls_of, lanes_after, objects_after}
use Rattle.com_state.specs.Parts.{calls_after, openers_at, state_of}
use Rattle.com_state.specs.SceneParts.{rows_after}

-- Whether the caller's lane of the call that a Verdict names has a filter.
abbrev pub filtered_by : (filtered : ℕ → Bool) → Deed → Bool
filtered_by filtered (deed.Verdict c t v) = filtered c
filtered_by filtered _ = false

-- What an entry finds of other parts in the state before it. Only a Verdict asks for a filter.
abbrev pub moment_in : Scenario → State → Entry → Moment
moment_in s st e = record {
  is_outermost = is_none (running_call (openers_in st e.lane));
  filtered = filtered_by (λ c. is_some (filter_in s st (lane_of (issue_in st c)))) e.deed;
  clock = st.clock;
}

-- What the call has that the lane's action makes.
abbrev pub issuing_in : Scenario → State → Entry → Issuing
issuing_in s st e = record {
  refusal =
      or_ok
      (action_refusal s (home_in s st e.lane) (running_in s st e.lane) (owns_in s st) (books_in st).live
      ((sight_of s st).act e.lane));
  values = out_values s (books_in st) (is_marshalled_by (issues e.lane e.deed)) ((sight_of s st).act e.lane);
}

-- The state whose parts have changed, with the scene, the books and the dying objects as they were.
abbrev pub parts_after : Scenario → State → Entry → State
parts_after s st e =
    state_of (lanes_after (lanes_of st) e) (objects_after (objects_of st) e)
    (calls_after (objects_of st) (moment_in s st e) (issuing_in s st e) (calls_of st) e) st.scene st.books
    st.fallen (ticked e.deed st.clock) (st.entries + 1)

-- Then the scene and the books after the entry.
abbrev pub joined_after : Scenario → State → Entry → State
joined_after s st e =
    with_books s (parts_after s st e) (scene_next s st (parts_after s st e) e)
    (books_next s st (parts_after s st e) (scene_next s st (parts_after s st e) e) e)

-- ---- the rows of the scene

-- Who acts in the entry's lane, the step of whoever does, and who acts there afterwards.
abbrev pub acting_in : Scenario → State → Entry → Actor
acting_in s st e = acting s (class_in st) (issue_in st) (scene_in st) (actor_of s st e.lane) e.deed

-- The body step of whoever makes the entry; None where nobody acts, as by a Final or an Uninit after the script's end.
abbrev pub step_in : Scenario → State → Entry → Option Outcome
step_in s st e = outcome s (class_in st) (issue_in st) (scene_in st) (acting_in s st e)

-- Who acts in the entry's lane after it: the body that is innermost then, a thread's script, or nobody.
abbrev pub actor_after : Scenario → State → Entry → Actor
actor_after s st e = actor (lane_sort s e.lane) e.lane (openers_at (lanes_after (lanes_of st) e) e.lane)

-- The tables of the scene after the entry, one changed row after another.
abbrev pub scene_rows : Scenario → State → Entry → SceneTables
scene_rows s st e =
    rows_after (named_in st) (acting_in s st e) (step_in s st e) (actor_after s st e) e st.scene
