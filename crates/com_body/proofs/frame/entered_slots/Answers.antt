use Rattle.std.proofs.Common.{◌≡◌, ◌<◌, ◌+◌, ◌++◌, ◌∷◌, [], List, Option, ap, sym, ◌∙◌, length, take, arith}
use Rattle.std.proofs.lemmas.List.{length-take}
use Rattle.com_base.specs.declared.limits.TheConstants.{SLOT_COUNT}
use Rattle.com_base.specs.declared.value.Value.{Value}
use Rattle.com_base.specs.declared.value.RefValue.{RefValue}
use Rattle.com_body.specs.Frames.{references}
use Rattle.com_body.proofs.Entries.{references_length, references_more, one_reference, slots_more}
use Rattle.com_body.proofs.frame.entered_slots.Goals as goal

pub put_reference-taken-requires : goal.put_reference-taken-requires
put_reference-taken-requires c =
    let before = take c.loop-value.value-index c.args.values.now in
    omega (arith, c.loop-value.invariant.0, references_length before, length-take c.loop-value.value-index c.args.values.now, c.requires)

pub loop-value-preserved : goal.loop-value-preserved
loop-value-preserved c =
    let values : List Value = c.args.values.now in
    let i = c.loop-value.value-index in
    let v : Value = c.value-item.result in
    let rs : List (Option RefValue) = references (take i values) in
    let grown : references (take (i + 1) values) ≡ rs ++ references (v ∷ []) =
    references_more values i v c.loop-value-test.true ∙ ap (λ y. rs ++ references (y ∷ [])) (sym c.value-item.is) in
    let room : length rs < SLOT_COUNT = omega (arith, references_length (take i values), length-take i values, c.requires) in
    slots_more rs (references (take (i + 1) values)) (references (v ∷ [])) c.loop-value.slots c.put_reference-taken.new.slots
    c.loop-value.taken c.put_reference-taken.result grown c.loop-value.invariant.0 c.loop-value.invariant.1 room
    c.put_reference-taken.ensures.none c.put_reference-taken.ensures.some (one_reference v)
