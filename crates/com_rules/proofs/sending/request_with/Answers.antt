use Rattle.std.proofs.Common.{◌≡◌, ◌≤◌, List, length, ap, ◌∙◌, arith}
use Rattle.com_base.specs.declared.value.RefValue.{RefValue}
use Rattle.com_model.specs.Values.{carried}
use Rattle.com_rules.proofs.Sized.{carried_few, travel_all, travel_size}
use Rattle.com_rules.proofs.sending.request_with.Goals as goal

pub fields_made-requires-clause-few : goal.fields_made-requires-clause-few
fields_made-requires-clause-few g c =
    let size : length c.args.values.now ≡ length c.args.kinds.now = travel_size c.args.kinds.now c.args.values.now c.requires.travel in
    let short : length c.args.kinds.now ≤ 4 = c.requires.few in
    let held : length c.as_slice.result.now ≡ length (carried c.args.values.now) = ap (λ (l : List RefValue). length l) (c.as_slice.ensures.value ∙ c.in_ok-held.ensures) in
    let fewer : length (carried c.args.values.now) ≤ length c.args.values.now = carried_few c.args.values.now in
    omega (arith, size, short, held, fewer)

pub request-requires-clause-travel : goal.request-requires-clause-travel
request-requires-clause-travel g c = travel_all c.args.kinds.now c.args.values.now c.requires.travel

pub request-requires-clause-referents : goal.request-requires-clause-referents
request-requires-clause-referents g c =
    let size : length c.args.values.now ≡ length c.args.kinds.now = travel_size c.args.kinds.now c.args.values.now c.requires.travel in
    let short : length c.args.kinds.now ≤ 4 = c.requires.few in
    omega (arith, size, short)
