-- The rows of lanes that wait, and the end of the drawing.
use Rattle.std.proofs.Common.{Bool, List, [], ap, arith, codes, false, if◌then◌else◌, length, nat_le, refl, suc, sym, true, ℕ, ◌&&◌, ◌++◌, ◌+◌, ◌-◌, ◌==◌, ◌∷◌, ◌≡◌}
use Rattle.com_draw.specs.Ends.{gap_row, last_back, last_rows, rows_of}
use Rattle.com_draw.specs.Reasons.{arrow_to, depth_in, reason_arrow, reason_drawing, reason_label, reason_lead, reason_look, reason_row, reason_rows, reason_story, reason_words, ring_kind}
use Rattle.com_draw_shapes.specs.Places.{row_at}
use Rattle.com_draw_shapes.specs.Sections.{back_of_section, front_of_section}
use Rattle.com_draw_state.specs.Board.{State}
use Rattle.com_draw_state.specs.declared.stacks.Start.{Start}
use Rattle.com_draw_words.specs.Rows.{gap_text, row_end_text, row_middle_text}
use Rattle.com_draw_words.specs.declared.limits.TheConstants.{LIMIT}
use Rattle.com_laws_markup.proofs.Leading.{Leads, along, inside, lead, onward}
use Rattle.com_laws_markup.proofs.Sections.{closed_gap, reason_front}
use Rattle.com_laws_markup.proofs.Words.{closed_arrow, closed_label, closed_none}
use Rattle.com_laws_markup.specs.Closed.{IsClosed}
use Rattle.com_laws_markup.specs.Markup.{Content}
use Rattle.com_laws_page.proofs.EndStories.{closed_body_story, closed_message_story, closed_pool_story}
use Rattle.com_laws_page.proofs.Rowed.{behind_entries}
use Rattle.com_laws_page.proofs.Sectioned.{behind_rows, row_leads, section_begins, section_ends, some_more, some_rows}
use Rattle.com_model.specs.Lists.{is_member}
use Rattle.com_waits.specs.declared.reasons.Wait.{Wait}
use Rattle.com_waits.specs.declared.reasons.Why.TheVariants as why
use Rattle.com_waits.specs.declared.reasons.Why.{Why}

-- ---- the row of a lane that waits

pub closed_reason_story : (l : ℕ) (y : Why) → IsClosed (reason_story l y)
unfolding reason_story
closed_reason_story l why.Message = closed_message_story l
closed_reason_story l (why.Body c m) = closed_body_story l m c
closed_reason_story l (why.Pool c m) = closed_pool_story l c

closed_arrow_to : (cycle : List ℕ) (b : State) (l m : ℕ) → IsClosed (arrow_to cycle b l m)
closed_arrow_to cycle b l m =
    closed_arrow (record {
      kind = ring_kind (is_member l cycle && is_member m cycle);
      other = m;
      other_level = depth_in b m;
      lane = l;
      level = depth_in b l;
    })

closed_reason_arrow : (cycle : List ℕ) (b : State) (l : ℕ) (y : Why) → IsClosed (reason_arrow cycle b l y)
unfolding reason_arrow
closed_reason_arrow cycle b l why.Message = closed_none
closed_reason_arrow cycle b l (why.Body c m) = closed_arrow_to cycle b l m
closed_reason_arrow cycle b l (why.Pool c m) = closed_arrow_to cycle b l m

closed_reason_label : (cycle : List ℕ) (b : State) (w : Wait) → IsClosed (reason_label cycle b w)
unfolding reason_label
closed_reason_label cycle b w =
    closed_label w.lane (depth_in b w.lane) (reason_look (is_member w.lane cycle)) (reason_words w.why)

told_leads : {s : Bool} {n : List ℕ} {o e : List (List ℕ)} (cycle : List ℕ) (w : Wait)
    → Leads s (Content (n ∷ o) e) (reason_lead cycle w) (Content (codes "i" ∷ codes "p" ∷ n ∷ o) e)
unfolding reason_lead
told_leads cycle w =
    onward (onward (reason_front (is_member w.lane cycle)) (inside (closed_reason_story w.lane w.why))) (lead row_middle_text)

drawn_leads : {s : Bool} {n : List ℕ} {o e : List (List ℕ)} (cycle : List ℕ) (b : State) (w : Wait)
    → Leads s (Content (codes "i" ∷ codes "p" ∷ n ∷ o) e) (reason_drawing cycle b w) (Content (n ∷ o) e)
unfolding reason_drawing
drawn_leads cycle b w =
    onward (onward (inside (closed_reason_label cycle b w)) (inside (closed_reason_arrow cycle b w.lane w.why)))
    (lead row_end_text)

pub reason_leads : {s : Bool} {n : List ℕ} {o e : List (List ℕ)} (m : ℕ) (cycle : List ℕ) (b : State) (w : Wait)
    → Leads s (Content (behind_rows m (n ∷ o)) e) (reason_row (m + 1) cycle b w) (Content (codes "section" ∷ n ∷ o) e)
unfolding reason_row
reason_leads {n = n} {o = o} {e = e} m cycle b w =
    onward (onward (row_leads {n = n} {o = o} {e = e} m b) (told_leads cycle w)) (drawn_leads cycle b w)

-- ---- all such rows, and the last section's end

one_row : (m : ℕ) (o : List (List ℕ)) → behind_rows (m + 1) o ≡ codes "section" ∷ o
one_row m o = some_rows (m + 1) o (some_more m)

none_more : (m : ℕ) → m + 0 ≡ m
none_more m = omega arith

one_further : (m k : ℕ) → m + suc k ≡ m + 1 + k
one_further m k = omega arith

pub reasons_lead : {s : Bool} {e : List (List ℕ)} (n : List ℕ) (o : List (List ℕ)) (m : ℕ) (cycle : List ℕ) (b : State) (ws : List Wait)
    → Leads s (Content (behind_rows m (n ∷ o)) e) (reason_rows (m + 1) cycle b ws)
    (Content (behind_rows (m + length ws) (n ∷ o)) e)
reasons_lead {e = e} n o m cycle b [] =
    along refl refl (ap (λ (k : ℕ). Content (behind_rows k (n ∷ o)) e) (none_more m)) (lead [])
reasons_lead {e = e} n o m cycle b (w ∷ ws) =
    onward (reason_leads {n = n} {o = o} {e = e} m cycle b w)
    (along (ap (λ (x : List (List ℕ)). Content x e) (sym (one_row m (n ∷ o)))) refl
    (ap (λ (k : ℕ). Content (behind_rows k (n ∷ o)) e) (one_further m (length ws))) (reasons_lead n o (m + 1) cycle b ws))

back_if : {s : Bool} {n : List ℕ} {o e : List (List ℕ)} (c : Bool) (here : Start) (cycle : List ℕ) (b : State)
    → Leads s (Content (if c then (n ∷ o) else codes "section" ∷ n ∷ o) e)
    (if c then [] else back_of_section here cycle b) (Content (n ∷ o) e)
back_if true here cycle b = lead []
back_if false here cycle b = section_ends here cycle b

back_leads : {s : Bool} {n : List ℕ} {o e : List (List ℕ)} (m : ℕ) (cycle : List ℕ) (b : State)
    → Leads s (Content (behind_rows m (n ∷ o)) e) (last_back m cycle b) (Content (n ∷ o) e)
unfolding last_back
back_leads {n = n} {o = o} {e = e} m cycle b = back_if {n = n} {o = o} {e = e} (m == 0) (row_at m) cycle b

gap_if : {s : Bool} {e : List (List ℕ)} (n : List ℕ) (o : List (List ℕ)) (c : Bool) (k : ℕ) (b : State)
    → Leads s (Content (if c then behind_rows k (n ∷ o) else (n ∷ o)) e)
    (if c then [] else front_of_section b ++ gap_text (k - LIMIT))
    (Content (behind_rows (if c then k else LIMIT + 1) (n ∷ o)) e)
gap_if n o true k b = lead []
gap_if n o false k b = onward (section_begins b) (inside (closed_gap (k - LIMIT)))

gap_leads : {s : Bool} {e : List (List ℕ)} (n : List ℕ) (o : List (List ℕ)) (k : ℕ) (b : State)
    → Leads s (Content (behind_entries k (n ∷ o)) e) (gap_row k b) (Content (behind_rows (rows_of k) (n ∷ o)) e)
unfolding gap_row
gap_leads n o k b = gap_if n o (nat_le k LIMIT) k b

-- behind so many entries the drawing ends where it began
pub last_rows_lead : {s : Bool} {n : List ℕ} {o e : List (List ℕ)} (k : ℕ) (cycle : List ℕ) (ws : List Wait) (b : State)
    → Leads s (Content (behind_entries k (n ∷ o)) e) (last_rows k cycle ws b) (Content (n ∷ o) e)
unfolding last_rows
last_rows_lead {n = n} {o = o} {e = e} k cycle ws b =
    onward (onward (gap_leads n o k b) (reasons_lead n o (rows_of k) cycle b ws))
    (back_leads {n = n} {o = o} {e = e} (rows_of k + length ws) cycle b)
