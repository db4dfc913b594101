-- A turn is such as the ledger asks for.
use Rattle.std.proofs.Common.{◌≡◌, ℕ, ◌<◌, ◌≤◌, sym, ap, ◌∙◌}
use Rattle.std.specs.Prelude.{List, Option, Some}
use Rattle.com_body.specs.declared.frame.Outcome.{Outcome}
use Rattle.com_calls.specs.Kept.{IsNamed}
use Rattle.com_model.specs.declared.scenario.Scenario.{Scenario}
use Rattle.com_model.specs.Ends.{limit}
use Rattle.com_model.specs.Lists.{number_or_zero}
use Rattle.com_model.specs.Rules.{lane_next}
use Rattle.com_model.specs.Sight.{Sight}
use Rattle.com_model.specs.State.{State, next_of, sight_of}
use Rattle.com_model.specs.Tables.{lanes}
use Rattle.com_laws_ranges.proofs.Fitting.{entry-fits}
use Rattle.com_parts.specs.Tables.{PartTables}
use Rattle.com_scene.specs.Actors.{acting_of}
use Rattle.com_view.specs.Reads.{Reads}
use Rattle.com_view.specs.Seen.{Seen, running_seen, sight_by}
use Rattle.com_view.proofs.Sights.{reads_state as sight_read}
use Rattle.com_turns.specs.declared.turns.Turn.{Turn}
use Rattle.com_turns.specs.Turns.{IsTurn}
use Rattle.com_turns.proofs.Stands.{carried_stands, step_stands}
use Rattle.com_refs_rows.specs.Books.{Held, books_held}
use Rattle.com_refs_rows.specs.Entries.{tally}
use Rattle.com_refs_rows.specs.Fits.{FitsBooks}
use Rattle.com_ledger.specs.Ties.{Ties}
use Rattle.com_core.specs.Making.{Brings}
use Rattle.com_core.specs.Stands.{IsReached, Stands, seen_by}
use Rattle.com_core.proofs.Entries.{reads_state}
use Rattle.com_core.proofs.Fits.{brings_next, fits_next}
use Rattle.com_core.proofs.Fitting.{next_fits}
use Rattle.com_core.proofs.Turned.{turn_next}

module _ (s : Scenario) (st : State) (p : PartTables) (fallen : List ℕ) (clock l : ℕ) (o : Option Outcome) (t : Turn) (w : Held) (r : IsReached s st) (h : Stands st p (books_held w) fallen clock)
    (n : IsNamed p.objects p.calls) (low : 1 ≤ l) (high : l ≤ lanes s) (k : IsTurn (seen_by s p fallen clock) (books_held w) l o t) (ties : Ties s st w) where
  abbrev seen : Seen
  seen = seen_by s p fallen clock

  reads : Reads seen (books_held w) st
  reads = reads_state s st p (books_held w) fallen clock r h n

  same : sight_of s st ≡ sight_by seen (books_held w)
  same = sight_read seen (books_held w) st reads

  next : next_of s st l ≡ Some t.doing.deed
  next = turn_next s st p (books_held w) fallen clock l o t r h n low high k

  pub turn_books : st.entries < limit s → FitsBooks s.classes t.doing.carried (number_or_zero (running_seen seen l)) (tally w.tables w.calls) t.doing.deed
  turn_books few =
      fits_next s st r l t.doing.deed w next ties t.doing.carried (number_or_zero (running_seen seen l))
      (sym (ap (λ (v : Sight). number_or_zero (v.running l)) same))
      (k.carried ∙ carried_stands seen (books_held w) st l t.doing.deed reads)
      (next_fits s (sight_of s st) w (sym ties.books) l t.doing.deed (ap (λ (v : Sight). lane_next s v l) same ∙ k.next))
      few

  pub turn_brings : Brings s p w (record { lane = l; deed = t.doing.deed }) (acting_of t.acting) o
  turn_brings =
      brings_next s st r l t.doing.deed w next ties p (acting_of t.acting) o
      (k.outcome ∙ step_stands seen (books_held w) st l t.doing.deed reads)
      (entry-fits s st r.history l t.doing.deed r.formed r.stands next)
