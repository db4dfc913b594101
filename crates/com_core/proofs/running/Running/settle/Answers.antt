-- The dying objects are settled with those that begin to die.
use Rattle.std.proofs.Common.{◌≡◌, ℕ, List, Option, ap, filter, length, ◌∙◌, subst, sym}
use Rattle.com_ledger.specs.Falling.{begins_by, other_object, placed_in}
use Rattle.com_objects.specs.Settled.{DieBut, Falls}
use Rattle.com_refs.specs.Counts.{holders_of}
use Rattle.com_scene.specs.Actors.{acting_of}
use Rattle.com_state.specs.Parts.{ObjectTables}
use Rattle.com_core.specs.Changes.{fresh_by}
use Rattle.com_core.proofs.running.Running.settle.Goals as goal

pub returns-clause-fallen : goal.returns-clause-fallen
returns-clause-fallen c = λ dying n die falls.
    let v = c.args.self.now in
    let d = c.args.deed.now in
    let entered : List ℕ = c.count_bodies.new.entered.counts in
    let before : List ℕ = v.fallen.objects in
    let other : c.other_by-other.result ≡ other_object (length v.parts.objects.makings) d (acting_of c.args.acting) =
    c.other_by-other.ensures ∙ ap (λ (k : ℕ). other_object k d (acting_of c.args.acting)) (c.len.ensures ∙ ap (λ (o : ObjectTables). length o.makings) c.objects-2.ensures) in
    let found : c.as_slice.result.now ≡ fresh_by v.parts.objects (holders_of v.ledger.tables) entered before v.ledger.touched d (acting_of c.args.acting) =
    c.as_slice.ensures.value ∙ c.find_dying.ensures.items
    ∙ (λ i. filter (begins_by (c.objects.ensures i) (holders_of v.ledger.tables) entered before) (placed_in (other i) v.ledger.touched)) in
    c.settle.ensures dying n (subst (λ (g : Option ℕ). DieBut dying g before) (sym c.released_by.ensures) die)
    (subst (λ (xs : List ℕ). Falls dying n before xs) (sym found) falls)
