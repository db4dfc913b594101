-- What stands behind the drawing.
use Rattle.std.proofs.Common.{Bool, List, [], codes, length, ℕ, ◌&&◌, ◌++◌, ◌+◌, ◌==◌, ◌∷◌}
use Rattle.com_deliveries.specs.declared.Delivery.{Delivery}
use Rattle.com_draw.specs.Ends.{all_items, event_item, event_items, event_styles, items_text, last_styles, list_text, reason_item, reason_items, report_part, ring_item, said_text, styles_text, told_text}
use Rattle.com_draw.specs.Reasons.{cycle_in, waits_in}
use Rattle.com_draw.specs.Widths.{lane_rule, lane_rules, objects_rules, objects_width, total_width, width_of, widths_text}
use Rattle.com_draw.specs.declared.beside.Beside.{Beside}
use Rattle.com_draw_shapes.specs.Boxes.{objects_lane}
use Rattle.com_draw_state.specs.Board.{State}
use Rattle.com_draw_state.specs.declared.lanes.Lane.{Lane}
use Rattle.com_draw_words.specs.Ends.{drawing_end_text, item_end_text, item_front_text, list_end_text, list_front_text, report_end_text, report_front_text, styles_end_text}
use Rattle.com_draw_words.specs.declared.limits.TheConstants.{STORY_WIDTH}
use Rattle.com_laws_markup.proofs.Leading.{Leads, both, closed_as, either, inside, lead, onward, style_both, style_none, styled}
use Rattle.com_laws_markup.proofs.Sections.{style_event, style_lane, style_main, style_page}
use Rattle.com_laws_markup.proofs.Words.{closed_none}
use Rattle.com_laws_markup.specs.Closed.{IsClosed, IsStyle}
use Rattle.com_laws_markup.specs.Markup.{Content}
use Rattle.com_laws_page.proofs.EndStories.{closed_event_text, closed_ring, closed_summary}
use Rattle.com_laws_page.proofs.Reported.{closed_report}
use Rattle.com_laws_page.proofs.Waited.{closed_reason_story}
use Rattle.com_model.specs.declared.counts.Counts.{Counts}
use Rattle.com_model.specs.declared.counts.Ended.{Ended}
use Rattle.com_waits.specs.declared.reasons.Wait.{Wait}

-- ---- the styles

style_rules : (l x : ℕ) (rows : List Lane) → IsStyle (lane_rules l x rows)
unfolding lane_rule
style_rules l x [] = style_none
style_rules l x (row ∷ rows) = style_both (style_lane l x (width_of row)) (style_rules (l + 1) (x + width_of row) rows)

style_objects : (m x w : ℕ) → IsStyle (objects_rules m x w)
unfolding objects_rules
style_objects m x w = style_both (style_both (style_lane m x w) (style_main (x + w))) (style_page (x + w + STORY_WIDTH))

style_widths : (b : State) → IsStyle (widths_text b)
unfolding widths_text
style_widths b =
    style_both (style_rules 1 0 b.lanes) (style_objects (objects_lane b) (total_width b.lanes) (objects_width b))

style_events : (ds : List Delivery) → IsStyle (event_styles ds)
style_events [] = style_none
style_events (d ∷ ds) = style_both (style_event d.call) (style_events ds)

style_last : (b : State) (ds : List Delivery) → IsStyle (last_styles b ds)
unfolding last_styles
style_last b ds = style_both (style_widths b) (style_events ds)

styles_lead : {s : Bool} {n : List ℕ} {o e : List (List ℕ)} (b : State) (ds : List Delivery)
    → Leads s (Content (codes "main" ∷ n ∷ o) e) (styles_text b ds) (Content (codes "footer" ∷ n ∷ o) e)
unfolding styles_text
styles_lead b ds = onward (onward (lead drawing_end_text) (styled (style_last b ds))) (lead styles_end_text)

-- ---- the reasons and the events

closed_item : {w : List ℕ} → IsClosed w → IsClosed (item_front_text ++ w ++ item_end_text)
closed_item h = closed_as (λ s n o e. onward (onward (lead item_front_text) (inside h)) (lead item_end_text))

closed_reason_item : (w : Wait) → IsClosed (reason_item w)
unfolding reason_item
closed_reason_item w = closed_item (closed_reason_story w.lane w.why)

closed_reason_items : (ws : List Wait) → IsClosed (reason_items ws)
closed_reason_items [] = closed_none
closed_reason_items (w ∷ ws) = both (closed_reason_item w) (closed_reason_items ws)

closed_ring_item : (cycle : List ℕ) → IsClosed (ring_item cycle)
unfolding ring_item
closed_ring_item cycle = either (length cycle == 0) closed_none (closed_item (closed_ring cycle))

closed_event_item : (d : Delivery) → IsClosed (event_item d)
unfolding event_item
closed_event_item d = closed_item (closed_event_text d.call d.cookies)

closed_event_items : (ds : List Delivery) → IsClosed (event_items ds)
closed_event_items [] = closed_none
closed_event_items (d ∷ ds) = both (closed_event_item d) (closed_event_items ds)

closed_all_items : (ws : List Wait) (cycle : List ℕ) (ds : List Delivery) → IsClosed (all_items ws cycle ds)
unfolding all_items
closed_all_items ws cycle ds =
    both (both (closed_reason_items ws) (closed_ring_item cycle)) (closed_event_items ds)

closed_items : (ws : List Wait) (cycle : List ℕ) (ds : List Delivery) → IsClosed (items_text ws cycle ds)
unfolding items_text
closed_items ws cycle ds =
    closed_as (λ s n o e. onward (onward (lead list_front_text) (inside (closed_all_items ws cycle ds))) (lead list_end_text))

closed_list : (ws : List Wait) (cycle : List ℕ) (ds : List Delivery) → IsClosed (list_text ws cycle ds)
unfolding list_text
closed_list ws cycle ds = either (length ws == 0 && length ds == 0) closed_none (closed_items ws cycle ds)

-- ---- the report

closed_told : (k : ℕ) (x : Beside) → IsClosed (told_text k x)
unfolding told_text
closed_told k x = both (closed_summary x.ended k x.clock) (closed_list (waits_in x.waits) (cycle_in x.waits) x.events)

report_leads : {s : Bool} {n : List ℕ} {o e : List (List ℕ)} (cs : List Counts) (k clock : ℕ) (x : Ended)
    → Leads s (Content (codes "footer" ∷ n ∷ o) e) (report_part cs k clock x) (Content (n ∷ o) e)
unfolding report_part
report_leads cs k clock x =
    onward (onward (lead report_front_text) (inside (closed_report cs k clock x))) (lead report_end_text)

said_leads : {s : Bool} {n : List ℕ} {o e : List (List ℕ)} (k : ℕ) (x : Beside)
    → Leads s (Content (codes "footer" ∷ n ∷ o) e) (said_text k x) (Content (n ∷ o) e)
unfolding said_text
said_leads k x = onward (inside (closed_told k x)) (report_leads x.counts k x.clock x.ended)

-- all that stands between the rows and the tail
pub footer_leads : {s : Bool} {n : List ℕ} {o e : List (List ℕ)} (k : ℕ) (b : State) (x : Beside)
    → Leads s (Content (codes "main" ∷ n ∷ o) e) (styles_text b x.events ++ said_text k x) (Content (n ∷ o) e)
footer_leads k b x = onward (styles_lead b x.events) (said_leads k x)
