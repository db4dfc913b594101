-- The moves that an entry's change reads from the parts are those of the state.
use Rattle.std.proofs.Common.{◌≡◌, ℕ, sym, ◌∙◌}
use Rattle.std.specs.Prelude.{Bool, List, Option}
use Rattle.com_body.specs.declared.frame.Outcome.{Outcome}
use Rattle.com_refs_books.specs.Changes.{Books}
use Rattle.com_model.specs.declared.deeds.Deed.{Deed}
use Rattle.com_model.specs.declared.deeds.Entry.{Entry}
use Rattle.com_model.specs.declared.scenario.Scenario.{Scenario}
use Rattle.com_model.specs.Frames.{Actor}
use Rattle.com_model.specs.State.{State, home_in}
use Rattle.com_reference_moves.specs.Steps.{moves_stepped}
use Rattle.com_reference_moves.specs.Tables.{ground_at, moves_at, moves_in}
use Rattle.com_reference_moves.proofs.Stands.{moves-tables}
use Rattle.com_reference_moves.proofs.Stepped.{moves-stepped}
use Rattle.com_parts.specs.Fits.{Sent}
use Rattle.com_parts.specs.Tables.{PartTables}
use Rattle.com_laws_places.specs.Moves.{Moves}
use Rattle.com_core.specs.Stands.{Stands, IsGiven}

pub moves_filled : (s : Scenario) (st : State) (p : PartTables) (b : Books) (fallen : List ℕ) (clock : ℕ) (l : ℕ) (d : Deed)
    (acting : Actor) (r : Option Outcome) (follows : Actor) (filtered : Bool) (x : Option Sent) (home : Option ℕ) (m : Moves)
    → Stands st p b fallen clock → IsGiven s st (record { lane = l; deed = d }) acting r follows filtered x → home ≡ home_in s st l
    → m ≡ moves_stepped (ground_at home p.objects p.calls.tables) p.scene acting r follows (record { lane = l; deed = d })
    → m ≡ moves_in s st (record { lane = l; deed = d })
moves_filled s st p b fallen clock l d acting r follows filtered x home m h g e k =
    let v : Entry = record { lane = l; deed = d } in
    k ∙ moves-stepped home p.objects p.calls.tables p.scene acting r follows v
    ∙ (λ i. moves_at (e i) (h.objects i) (h.calls i) (h.scene i) (g.acts i) (g.step i) (g.next i) v)
    ∙ sym (moves-tables s st v)
