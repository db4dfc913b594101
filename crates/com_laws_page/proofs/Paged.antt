-- The whole page.
use Rattle.std.proofs.Common.{Bool, List, [], add-one, ap, append_assoc, arith, codes, false, length, refl, suc, sym, true, ℕ, ◌++◌, ◌+◌, ◌∙◌, ◌∷◌, ◌≡◌}
use Rattle.com_draw.specs.Ends.{end_text, footer_text, last_rows, said_text, styles_text}
use Rattle.com_draw.specs.Entries.{after, drawn, entry_text, seen}
use Rattle.com_draw.specs.Pages.{page, written}
use Rattle.com_draw.specs.Pictures.{Picture}
use Rattle.com_draw.specs.Reasons.{all_labelled, cycle_in, waits_in}
use Rattle.com_draw.specs.declared.beside.Beside.{Beside}
use Rattle.com_draw_words.specs.Ends.{tail_text}
use Rattle.com_laws_markup.proofs.Constants.{tail_leads}
use Rattle.com_laws_markup.proofs.Leading.{Leads, along, onward}
use Rattle.com_laws_markup.specs.Markup.{Before, Content, Over}
use Rattle.com_laws_page.proofs.Footed.{footer_leads}
use Rattle.com_laws_page.proofs.Fronted.{front_leads}
use Rattle.com_laws_page.proofs.Rowed.{behind_entries, entry_at_leads, met}
use Rattle.com_laws_page.proofs.Waited.{last_rows_lead}
use Rattle.com_laws_page.specs.Pages.{HasOneScript, IsWellFormed, row_numbers}
use Rattle.com_model.specs.declared.deeds.Entry.{Entry}
use Rattle.com_model.specs.declared.scenario.Scenario.{Scenario}

-- the elements round all rows
abbrev pub in_main : List (List ℕ)
in_main = codes "main" ∷ codes "body" ∷ codes "html" ∷ []

-- ---- the entries

-- so many entries a picture has
as_many : (q : Scenario) (h : List Entry) → (drawn q h).entries ≡ length h
unfolding after
as_many q [] = refl
as_many q (x ∷ h) = ap (λ (k : ℕ). k + 1) (as_many q h) ∙ add-one (length h)

one_entry : (k j : ℕ) → j ≡ k → suc k ≡ j + 1
one_entry k j h = omega (arith, h)

entry_leads : {s : Bool} {e : List (List ℕ)} (n : List ℕ) (o : List (List ℕ)) (q : Scenario) (p : Picture) (x : Entry) (k : ℕ)
    → p.entries ≡ k
    → Leads s (Content (behind_entries k (n ∷ o)) e) (entry_text q p x)
    (Content (behind_entries (suc k) (n ∷ o)) (met (suc k) e))
unfolding entry_text
entry_leads {e = e} n o q p x k h =
    along (ap (λ (j : ℕ). Content (behind_entries j (n ∷ o)) e) (sym h)) refl
    (ap (λ (j : ℕ). Content (behind_entries j (n ∷ o)) (met j e)) (one_entry k p.entries h))
    (entry_at_leads n o q p.entries p.board (seen p.board x) x)

-- behind the entries of a history the reader has met the numbers of those that have a row
pub written_leads : {s : Bool} (q : Scenario) (h : List Entry)
    → Leads s (Before []) (written q h) (Content (behind_entries (length h) in_main) (row_numbers (length h)))
written_leads q [] = front_leads q
written_leads q (x ∷ h) =
    onward (written_leads q h)
    (entry_leads (codes "main") (codes "body" ∷ codes "html" ∷ []) q (drawn q h) x (length h) (as_many q h))

-- ---- the end

rows_end : {s : Bool} {n : List ℕ} {o e : List (List ℕ)} (p : Picture) (x : Beside) (k : ℕ) → p.entries ≡ k
    → Leads s (Content (behind_entries k (n ∷ o)) e)
    (last_rows p.entries (cycle_in x.waits) (waits_in x.waits) p.board) (Content (n ∷ o) e)
rows_end {n = n} {o = o} {e = e} p x k h =
    along (ap (λ (j : ℕ). Content (behind_entries j (n ∷ o)) e) (sym h)) refl refl
    (last_rows_lead {n = n} {o = o} {e = e} p.entries (cycle_in x.waits) (waits_in x.waits) p.board)

-- what stands before the tail
abbrev before_tail : Scenario → List Entry → Beside → List ℕ
before_tail q h x =
    written q h
    ++ (last_rows (drawn q h).entries (cycle_in x.waits) (waits_in x.waits) (drawn q h).board
    ++ (styles_text (all_labelled (waits_in x.waits) (drawn q h).board) x.events ++ said_text (drawn q h).entries x))

before_leads : {s : Bool} (q : Scenario) (h : List Entry) (x : Beside)
    → Leads s (Before []) (before_tail q h x) (Content (codes "body" ∷ codes "html" ∷ []) (row_numbers (length h)))
before_leads q h x =
    onward (written_leads q h)
    (onward (rows_end {n = codes "main"} {o = codes "body" ∷ codes "html" ∷ []} (drawn q h) x (length h) (as_many q h))
    (footer_leads (drawn q h).entries (all_labelled (waits_in x.waits) (drawn q h).board) x))

regrouped : (w l f t : List ℕ) → w ++ (l ++ (f ++ t)) ≡ (w ++ (l ++ f)) ++ t
regrouped w l f t = ap (λ (y : List ℕ). w ++ y) (sym (append_assoc l f t)) ∙ sym (append_assoc w (l ++ f) t)

page_splits : (q : Scenario) (h : List Entry) (x : Beside) → page q h x ≡ before_tail q h x ++ tail_text
unfolding end_text footer_text
page_splits q h x =
    regrouped (written q h) (last_rows (drawn q h).entries (cycle_in x.waits) (waits_in x.waits) (drawn q h).board)
    (styles_text (all_labelled (waits_in x.waits) (drawn q h).board) x.events ++ said_text (drawn q h).entries x) tail_text

-- ---- the page

pub page_well_formed : (q : Scenario) (h : List Entry) (x : Beside) → IsWellFormed (row_numbers (length h)) (page q h x)
page_well_formed q h x =
    let leads : Leads true (Before []) (page q h x) (Over (row_numbers (length h))) =
    along refl (page_splits q h x) refl (onward (before_leads q h x) (tail_leads (row_numbers (length h)))) in
    record { reads = leads.reads }

pub page_scriptless : (q : Scenario) (h : List Entry) (x : Beside) → HasOneScript (row_numbers (length h)) (page q h x)
page_scriptless q h x =
    let leads : Leads false (Before []) (before_tail q h x) (Content (codes "body" ∷ codes "html" ∷ []) (row_numbers (length h))) =
    before_leads q h x in
    record { before = before_tail q h x; is = page_splits q h x; reads = leads.reads }
