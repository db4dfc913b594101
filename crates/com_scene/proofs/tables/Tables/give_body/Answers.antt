-- The body has a frame, and its row's frame is given what the writes say.
use Rattle.std.proofs.Common.{◌<◌, length, arith, ◌∷◌, sym, ◌∙◌, ap, subst, fold, IsSome}
use Rattle.com_body.specs.Frames.{FrameView}
use Rattle.com_model.specs.Frames.{to_answer, to_destination}
use Rattle.com_scene.specs.declared.tables.CallRow.{CallRow}
use Rattle.com_scene.specs.Seen.{body_of, destination_of, own_or}
use Rattle.com_scene.specs.Steps.{frame_with}
use Rattle.com_scene.proofs.RowLemmas.{row_changed}
use Rattle.com_scene.proofs.SeatLemmas.{seat_at}
use Rattle.com_scene.proofs.tables.Tables.give_body.Goals as goal

pub receive-requires-clause-seat : goal.receive-requires-clause-seat
receive-requires-clause-seat c =
    let h : c.args.call < length c.args.self.now.calls.items = omega arith in
    subst (λ (row : CallRow). IsSome (own_or row.frame c.args.spare.now)) (sym c.index_mut-row.ensures.value)
    (seat_at c.args.self.now.calls.items c.args.call c.index_mut-row.result.now c.args.spare.now h c.requires.seat)

pub returns-then-call-len : goal.returns-then-call-len
returns-then-call-len c =
    let h : c.args.call < length c.args.self.now.calls.items = omega arith in
    row_changed (λ (f : FrameView). fold frame_with f (to_answer c.args.hr ∷ to_destination c.args.to c.args.value))
    c.args.self.now.scripts.items c.args.self.now.calls.items c.args.self.now.cells.items c.args.self.now.buffers.items
    c.args.call c.receive.new.self c.index_mut-row.result.now h
    (c.receive.ensures.frame ∙ ap (λ (row : CallRow). fold frame_with (body_of row) (to_answer c.args.hr ∷ to_destination c.args.to c.args.value)) c.index_mut-row.ensures.value)
    (c.receive.ensures.destination ∙ ap (λ (row : CallRow). destination_of row) c.index_mut-row.ensures.value)
