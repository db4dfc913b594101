-- Why a history is stuck: a row for each lane that waits.
use Rattle.std.specs.Prelude.{ℕ, ◌+◌, ◌*◌, Bool, true, false, ◌&&◌, List, [], ◌∷◌, ◌++◌, Option, Some, None, length}
use Rattle.com_model.specs.Lists.{is_member}
use Rattle.com_waits.specs.declared.reasons.Why.{Why}
use Rattle.com_waits.specs.declared.reasons.Why.TheVariants as why
use Rattle.com_waits.specs.declared.reasons.Wait.{Wait}
use Rattle.com_waits.specs.declared.reasons.Waits.{Waits}
use Rattle.com_draw_state.specs.Board.{State, with_lanes}
use Rattle.com_draw_state.specs.Lanes.{depth_of, lane_at, widened, with_lane}
use Rattle.com_draw_words.specs.declared.arrows.ArrowKind.{ArrowKind}
use Rattle.com_draw_words.specs.declared.arrows.ArrowKind.TheVariants as kind
use Rattle.com_draw_words.specs.declared.labels.LabelClass.TheVariants as class
use Rattle.com_draw_words.specs.declared.labels.Look.{Look}
use Rattle.com_draw_words.specs.Arrows.{arrow_text}
use Rattle.com_draw_words.specs.Labels.{label_text, label_width}
use Rattle.com_draw_words.specs.Rows.{reason_front_text, row_end_text, row_middle_text}
use Rattle.com_draw_labels.specs.Reasons.{body_label, message_label, pool_label}
use Rattle.com_draw_stories.specs.Ends.{body_story, message_story, pool_story}
use Rattle.com_draw_shapes.specs.Sections.{row_begins}

-- The lanes that wait, and the cycle in which lanes wait for each other.
abbrev pub waits_in : Option Waits → List Wait
waits_in None = []
waits_in (Some w) = w.waits

-- The lanes of the cycle, from its least one on; none where the history is not stuck or no lane waits for another.
abbrev pub cycle_in : Option Waits → List ℕ
cycle_in None = []
cycle_in (Some w) = w.cycle

-- Why a lane waits, as a sentence: for a message, for the lane that runs its call, or for a free lane of the pool.
unfoldable pub reason_story : (lane : ℕ) → Why → List ℕ
reason_story l why.Message = message_story l
reason_story l (why.Body c m) = body_story l m c
reason_story l (why.Pool c m) = pool_story l c

-- Why a lane waits, in the few words of its label.
unfoldable pub reason_words : Why → List ℕ
reason_words why.Message = message_label
reason_words (why.Body c m) = body_label m
reason_words (why.Pool c m) = pool_label

-- The label of a reason is plain, red where it is bad, and no link leads to it.
abbrev pub reason_look : (is_bad : Bool) → Look
reason_look is_bad = record { class = class.Plain; is_bad = is_bad; ident = None }

-- To the lane for which one waits; where both are in the cycle it is drawn as a part of the ring.
abbrev pub ring_kind : Bool → ArrowKind
ring_kind true = kind.Ring
ring_kind false = kind.Word

-- How much stands open in a lane.
abbrev pub depth_in : State → (lane : ℕ) → ℕ
depth_in b l = depth_of (lane_at b.lanes l)

-- The arrow between a lane that waits and the one for which it waits, each at its depth.
abbrev pub arrow_to : (cycle : List ℕ) → State → (lane to : ℕ) → List ℕ
arrow_to cycle b l m =
    arrow_text (record {
      kind = ring_kind (is_member l cycle && is_member m cycle);
      other = m;
      other_level = depth_in b m;
      lane = l;
      level = depth_in b l;
    })

-- The arrow of a lane that waits for another lane; none where it waits for a message.
unfoldable pub reason_arrow : (cycle : List ℕ) → State → (lane : ℕ) → Why → List ℕ
reason_arrow cycle b l why.Message = []
reason_arrow cycle b l (why.Body c m) = arrow_to cycle b l m
reason_arrow cycle b l (why.Pool c m) = arrow_to cycle b l m

-- The front of a reason's row, red where its lane is in the cycle, and the sentence.
unfoldable pub reason_lead : (cycle : List ℕ) → Wait → List ℕ
reason_lead cycle w =
    reason_front_text (is_member w.lane cycle) ++ reason_story w.lane w.why ++ row_middle_text

-- The label of a reason, at the depth of its lane, red where the lane is in the cycle.
unfoldable pub reason_label : (cycle : List ℕ) → State → Wait → List ℕ
reason_label cycle b w =
    label_text w.lane (depth_in b w.lane) (reason_look (is_member w.lane cycle)) (reason_words w.why)

-- All that is drawn of it.
unfoldable pub reason_drawing : (cycle : List ℕ) → State → Wait → List ℕ
reason_drawing cycle b w =
    reason_label cycle b w ++ reason_arrow cycle b w.lane w.why ++ row_end_text

-- The row of a lane that waits, before which a section may end and another begin.
unfoldable pub reason_row : (row : ℕ) → (cycle : List ℕ) → State → Wait → List ℕ
reason_row m cycle b w = row_begins m b ++ reason_lead cycle w ++ reason_drawing cycle b w

-- The rows of lanes that wait, of which the first is this row of the page.
abbrev pub reason_rows : (row : ℕ) → (cycle : List ℕ) → State → List Wait → List ℕ
reason_rows m cycle b [] = []
reason_rows m cycle b (w ∷ ws) = reason_row m cycle b w ++ reason_rows (m + 1) cycle b ws

-- The lanes have to be wide enough for these labels.
unfoldable pub reason_labelled : Wait → State → State
reason_labelled w b =
    with_lanes (with_lane (widened (label_width (depth_in b w.lane) (length (reason_words w.why)))) w.lane b.lanes) b

-- The lanes are wide enough for the labels of all these.
abbrev pub all_labelled : List Wait → State → State
all_labelled [] b = b
all_labelled (w ∷ ws) b = all_labelled ws (reason_labelled w b)
