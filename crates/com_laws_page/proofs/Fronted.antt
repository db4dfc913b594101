-- What stands before the first row.
use Rattle.std.proofs.Common.{Bool, List, [], codes, suc, zero, ℕ, ◌*◌, ◌+◌, ◌-◌, ◌∷◌}
use Rattle.com_draw.specs.Fronts.{first_widths, front, front_names, front_styles, front_widths, lane_names, names_of}
use Rattle.com_draw_words.specs.declared.limits.TheConstants.{FULL}
use Rattle.com_draw_words.specs.declared.sections.LaneKind.TheVariants as lane
use Rattle.com_draw_words.specs.declared.sections.LaneKind.{LaneKind}
use Rattle.com_laws_markup.proofs.Constants.{body_leads, head_leads}
use Rattle.com_laws_markup.proofs.Leading.{Leads, both, inside, onward, style_both, style_none, styled}
use Rattle.com_laws_markup.proofs.Sections.{closed_lane_name, objects_name, style_lane, style_main}
use Rattle.com_laws_markup.proofs.Words.{closed_none}
use Rattle.com_laws_markup.specs.Closed.{IsClosed, IsStyle}
use Rattle.com_laws_markup.specs.Markup.{Before, Content}
use Rattle.com_model.specs.Tables.{threads}
use Rattle.com_model.specs.declared.scenario.Scenario.{Scenario}

-- ---- the styles

style_first : (l n : ℕ) → IsStyle (first_widths l n)
style_first l zero = style_none
style_first l (suc n) = style_both (style_lane l ((l - 1) * FULL) FULL) (style_first (l + 1) n)

style_front : (m : ℕ) → IsStyle (front_widths m)
unfolding front_widths
style_front m = style_both (style_first 1 m) (style_main (m * FULL))

styles_lead : {s : Bool} (m : ℕ) → Leads s (Before []) (front_styles m)
    (Content (codes "div" ∷ codes "main" ∷ codes "body" ∷ codes "html" ∷ []) [])
unfolding front_styles
styles_lead m = onward (onward head_leads (styled (style_front m))) body_leads

-- ---- the names of lanes

closed_names : (k : LaneKind) (l n : ℕ) → IsClosed (names_of k l n)
closed_names k l zero = closed_none
closed_names k l (suc n) = both (closed_lane_name l k) (closed_names k (l + 1) n)

closed_lane_names : (t p : ℕ) → IsClosed (lane_names t p)
unfolding lane_names
closed_lane_names t p =
    both (both (closed_names lane.Thread 1 t) (closed_lane_name (t + 1) lane.Host)) (closed_names lane.Pool (t + 2) p)

names_lead : {s : Bool} {n : List ℕ} {o e : List (List ℕ)} (t p : ℕ)
    → Leads s (Content (codes "div" ∷ n ∷ o) e) (front_names t p) (Content (n ∷ o) e)
unfolding front_names
names_lead t p = onward (inside (closed_lane_names t p)) (objects_name (t + 1 + p + 1))

-- what stands before the first row
pub front_leads : {s : Bool} (q : Scenario)
    → Leads s (Before []) (front q) (Content (codes "main" ∷ codes "body" ∷ codes "html" ∷ []) [])
unfolding front
front_leads q = onward (styles_lead (threads q + 1 + q.pool + 1)) (names_lead (threads q) q.pool)
