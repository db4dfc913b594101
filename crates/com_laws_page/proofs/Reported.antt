-- The report is closed.
use Rattle.std.proofs.Common.{List, [], codes, refl, ℕ, ◌++◌, ◌+◌, ◌∷◌}
use Rattle.com_laws_markup.proofs.Leading.{both, closed_as, lead, said}
use Rattle.com_laws_markup.proofs.Words.{closed_decimal, closed_none}
use Rattle.com_laws_markup.specs.Closed.{IsClosed}
use Rattle.com_model.specs.Text.{ended_text, object_line, object_lines, object_state_text, report_text}
use Rattle.com_model.specs.declared.counts.Counts.{Counts}
use Rattle.com_model.specs.declared.counts.Ended.TheVariants as ended
use Rattle.com_model.specs.declared.counts.Ended.{Ended}
use Rattle.com_model.specs.declared.counts.ObjectState.TheVariants as object_state
use Rattle.com_model.specs.declared.counts.ObjectState.{ObjectState}

closed_state : (x : ObjectState) → IsClosed (object_state_text x)
closed_state object_state.Live = said (codes "live") refl
closed_state object_state.Disconnected = said (codes "disconnected") refl
closed_state object_state.Released = said (codes "released") refl

closed_end : (x : Ended) → IsClosed (ended_text x)
closed_end ended.Ok = said (codes "ok") refl
closed_end ended.Stuck = said (codes "stuck") refl
closed_end ended.Budget = said (codes "budget") refl

-- a line's end is text
closed_line_end : {w : List ℕ} → IsClosed w → IsClosed (w ++ codes "\n")
closed_line_end h = both {b = codes "\n"} h (record { stays = λ s n o e. refl })

closed_object_line : (number : ℕ) (c : Counts) → IsClosed (object_line number c)
closed_object_line number c =
    closed_line_end (both (both (both (both (both (both (both (both (both (both (both (both (both (both (both (both (both (said (codes "o") refl) (closed_decimal number)) (said (codes " C") refl)) (closed_decimal c.class)) (said (codes " a") refl)) (closed_decimal c.owner)) (said (codes " ") refl)) (closed_state c.state)) (said (codes " direct ") refl)) (closed_decimal c.direct)) (said (codes " proxies ") refl)) (closed_decimal c.proxies)) (said (codes " packets ") refl)) (closed_decimal c.packets)) (said (codes " tables ") refl)) (closed_decimal c.tables)) (said (codes " stub ") refl)) (closed_decimal c.stub))

closed_object_lines : (number : ℕ) (cs : List Counts) → IsClosed (object_lines number cs)
closed_object_lines number [] = closed_none
closed_object_lines number (c ∷ cs) = both (closed_object_line number c) (closed_object_lines (number + 1) cs)

-- the report
pub closed_report : (cs : List Counts) (k time : ℕ) (x : Ended) → IsClosed (report_text cs k time x)
closed_report cs k time x =
    closed_line_end
    (both (both (both (both (both (both (closed_object_lines 1 cs) (said (codes "entries ") refl)) (closed_decimal k))
    (said (codes " clock ") refl)) (closed_decimal time)) (closed_as (λ s n o e. lead (codes "\nend ")))) (closed_end x))
