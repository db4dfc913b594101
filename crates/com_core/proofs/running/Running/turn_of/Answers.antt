-- A turn is that of what is read of the core.
use Rattle.std.proofs.Common.{◌≡◌, ◌∙◌, Bool, true, false, IfOk, is_some, refl, subst, sym}
use Rattle.com_model.specs.Lists.{where_true}
use Rattle.std.proofs.lemmas.Result.{IfOk-weaker}
use Rattle.com_rules.specs.Room.{HasRoom}
use Rattle.com_refs_rows.specs.Books.{books_held}
use Rattle.com_runtime.specs.Standings.{can_step_in}
use Rattle.com_turns.specs.declared.turns.Turn.{Turn}
use Rattle.com_turns.specs.Turns.{ActsFit, IsNext}
use Rattle.com_turns.specs.Work.{BodiesWork}
use Rattle.com_view.specs.Seen.{Seen}
use Rattle.com_core.specs.Stands.{seen_by, state_read}
use Rattle.com_core.proofs.OpenWork.{works_seen}
use Rattle.com_core.proofs.Roomy.{acts_seen, room_seen}
use Rattle.com_core.proofs.Tried.{turn_tells}
use Rattle.com_core.proofs.running.Running.turn_of.Goals as goal

some_where : (made : Bool) (t : Turn) → made ≡ is_some (where_true made t)
some_where true t = refl
some_where false t = refl

pub returns-clause-turn : goal.returns-clause-turn
returns-clause-turn g c =
    let b = books_held c.args.self.now.ledger in
    subst (λ (w : Seen). IfOk c.next_turn.result (λ (m : Bool). IsNext w b c.args.lane c.next_turn.new.bench.step (where_true m c.next_turn.new.turn))) c.view-view.ensures.value c.next_turn.ensures.turn

pub returns-clause-can : goal.returns-clause-can
returns-clause-can g c =
    let s = c.args.scenario.now in
    let r = c.args.self.now in
    let b = books_held r.ledger in
    let l = c.args.lane in
    let turn : IfOk c.next_turn.result (λ (m : Bool). IsNext (seen_by s r.parts r.fallen.objects r.clock) b l c.next_turn.new.bench.step (where_true m c.next_turn.new.turn)) =
    subst (λ (w : Seen). IfOk c.next_turn.result (λ (m : Bool). IsNext w b l c.next_turn.new.bench.step (where_true m c.next_turn.new.turn))) c.view-view.ensures.value c.next_turn.ensures.turn in
    IfOk-weaker c.next_turn.result _ (λ (m : Bool). m ≡ can_step_in s (state_read s r.parts b r.fallen.objects r.clock) l)
    (λ m n. some_where m c.next_turn.new.turn
    ∙ turn_tells s (state_read s r.parts b r.fallen.objects r.clock) r.parts b r.fallen.objects r.clock l c.next_turn.new.bench.step (where_true m c.next_turn.new.turn) c.requires.core.reached c.requires.core.stands c.view-view.ensures.named n) turn

pub next_turn-requires-clause-room : goal.next_turn-requires-clause-room
next_turn-requires-clause-room g c =
    let s = c.args.scenario.now in
    let r = c.args.self.now in
    let b = books_held r.ledger in
    subst (λ (w : Seen). HasRoom w b) (sym c.view-view.ensures.value)
    (room_seen s (state_read s r.parts b r.fallen.objects r.clock) r.parts b r.fallen.objects r.clock c.requires.core.reached c.requires.core.stands c.requires.room)

pub next_turn-requires-clause-acts : goal.next_turn-requires-clause-acts
next_turn-requires-clause-acts g c =
    let s = c.args.scenario.now in
    let r = c.args.self.now in
    let b = books_held r.ledger in
    subst (λ (w : Seen). ActsFit w) (sym c.view-view.ensures.value)
    (acts_seen s (state_read s r.parts b r.fallen.objects r.clock) r.parts b r.fallen.objects r.clock c.requires.core.reached c.requires.core.stands)

pub next_turn-requires-clause-works : goal.next_turn-requires-clause-works
next_turn-requires-clause-works g c =
    let s = c.args.scenario.now in
    let r = c.args.self.now in
    let b = books_held r.ledger in
    subst (λ (w : Seen). BodiesWork w) (sym c.view-view.ensures.value)
    (works_seen s (state_read s r.parts b r.fallen.objects r.clock) r.parts b r.fallen.objects r.clock c.requires.core.reached c.requires.core.stands)
