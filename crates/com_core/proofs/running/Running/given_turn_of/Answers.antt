-- A step that was computed before is that of what is read of the core.
use Rattle.std.proofs.Common.{◌≡◌, ap, sym, ◌∙◌, subst}
use Rattle.com_rules.specs.Room.{HasRoom}
use Rattle.com_refs_rows.specs.Books.{books_held}
use Rattle.com_model.specs.Lists.{first}
use Rattle.com_state.specs.Parts.{openers_at}
use Rattle.com_turns.specs.Turns.{ActsFit, body_seen}
use Rattle.com_view.specs.Seen.{Seen}
use Rattle.com_core.specs.Stands.{seen_by, state_read}
use Rattle.com_core.proofs.Roomy.{acts_seen, room_seen}
use Rattle.com_core.proofs.running.Running.given_turn_of.Goals as goal

pub given_turn-requires-clause-step : goal.given_turn-requires-clause-step
given_turn-requires-clause-step c =
    let r = c.args.self.now in
    let w : c.view-view.result ≡ seen_by c.args.scenario.now r.parts r.fallen.objects r.clock = c.view-view.ensures.value in
    λ k o a e. c.requires.step k o a (sym (ap (λ (v : Seen). first (openers_at v.lanes c.args.lane)) w) ∙ e) ∙ sym (ap (λ (v : Seen). body_seen v k o) w)

pub given_turn-requires-clause-room : goal.given_turn-requires-clause-room
given_turn-requires-clause-room c =
    let s = c.args.scenario.now in
    let r = c.args.self.now in
    let b = books_held r.ledger in
    subst (λ (w : Seen). HasRoom w b) (sym c.view-view.ensures.value)
    (room_seen s (state_read s r.parts b r.fallen.objects r.clock) r.parts b r.fallen.objects r.clock c.requires.core.reached c.requires.core.stands c.requires.room)

pub given_turn-requires-clause-acts : goal.given_turn-requires-clause-acts
given_turn-requires-clause-acts c =
    let s = c.args.scenario.now in
    let r = c.args.self.now in
    let b = books_held r.ledger in
    subst (λ (w : Seen). ActsFit w) (sym c.view-view.ensures.value)
    (acts_seen s (state_read s r.parts b r.fallen.objects r.clock) r.parts b r.fallen.objects r.clock c.requires.core.reached c.requires.core.stands)
