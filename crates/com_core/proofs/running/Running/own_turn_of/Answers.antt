-- A turn is that of what is read of the core.
use Rattle.std.proofs.Common.{◌≡◌, Bool, None, subst, sym}
use Rattle.com_model.specs.Lists.{where_true}
use Rattle.com_rules.specs.Room.{HasRoom}
use Rattle.com_refs_rows.specs.Books.{books_held}
use Rattle.com_turns.specs.Turns.{ActsFit, IsNext, IsTurn}
use Rattle.com_view.specs.Seen.{Seen, sight_by}
use Rattle.com_model.specs.Rules.{lane_next}
use Rattle.com_core.specs.Stands.{seen_by, state_read}
use Rattle.com_core.proofs.Turned.{none_next}
use Rattle.com_core.proofs.Roomy.{acts_seen, room_seen}
use Rattle.com_core.proofs.running.Running.own_turn_of.Goals as goal

pub returns-then-made-clause-turn : goal.returns-then-made-clause-turn
returns-then-made-clause-turn c =
    let b = books_held c.args.self.now.ledger in
    subst (λ (w : Seen). IsTurn w b c.args.lane c.own_turn.new.step c.own_turn.new.turn) c.view-view.ensures.value
    (subst (λ (m : Bool). IsNext c.view-view.result b c.args.lane c.own_turn.new.step (where_true m c.own_turn.new.turn)) c.if-made.true c.in_ok-made.ensures.turn)

pub unreachable-requires : goal.unreachable-requires
unreachable-requires c =
    let s = c.args.scenario.now in
    let r = c.args.self.now in
    let b = books_held r.ledger in
    let none : lane_next s (sight_by (seen_by s r.parts r.fallen.objects r.clock) b) c.args.lane ≡ None =
    subst (λ (w : Seen). lane_next w.scenario (sight_by w b) c.args.lane ≡ None) c.view-view.ensures.value
    (subst (λ (m : Bool). IsNext c.view-view.result b c.args.lane c.own_turn.new.step (where_true m c.own_turn.new.turn)) c.if-made.false c.in_ok-made.ensures.turn) in
    none_next s (state_read s r.parts b r.fallen.objects r.clock) r.parts b r.fallen.objects r.clock c.args.lane
    c.requires.core.reached c.requires.core.stands c.view-view.ensures.named c.requires.can none

pub own_turn-requires-clause-room : goal.own_turn-requires-clause-room
own_turn-requires-clause-room c =
    let s = c.args.scenario.now in
    let r = c.args.self.now in
    let b = books_held r.ledger in
    subst (λ (w : Seen). HasRoom w b) (sym c.view-view.ensures.value)
    (room_seen s (state_read s r.parts b r.fallen.objects r.clock) r.parts b r.fallen.objects r.clock c.requires.core.reached c.requires.core.stands c.requires.room)

pub own_turn-requires-clause-acts : goal.own_turn-requires-clause-acts
own_turn-requires-clause-acts c =
    let s = c.args.scenario.now in
    let r = c.args.self.now in
    let b = books_held r.ledger in
    subst (λ (w : Seen). ActsFit w) (sym c.view-view.ensures.value)
    (acts_seen s (state_read s r.parts b r.fallen.objects r.clock) r.parts b r.fallen.objects r.clock c.requires.core.reached c.requires.core.stands)
