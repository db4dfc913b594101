use Rattle.std.proofs.Common.{ap, ◌∙◌, List, ℕ}
use Rattle.com_model.specs.Lists.{is_member}
use Rattle.com_refs_rows.proofs.Climbing.{found-there, member-inserted, put-there}
use Rattle.com_refs_rows.proofs.touching.touch.Goals as goal

pub returns-in-Ok-clause-members : goal.returns-in-Ok-clause-members
returns-in-Ok-clause-members c = λ x. found-there x c.args.object c.args.touched.now.items c.deref.result.now c.in-Ok.field-0 c.deref.ensures.value c.in-Ok.ensures.bound c.in-Ok.ensures.ok

pub returns-in-Err-clause-members : goal.returns-in-Err-clause-members
returns-in-Err-clause-members c = λ x.
    ap (λ (xs : List ℕ). is_member x xs) c.put.ensures.items ∙ member-inserted x c.args.object c.args.touched.now.items c.in-Err.place

pub returns-in-Err-clause-climbs : goal.returns-in-Err-clause-climbs
returns-in-Err-clause-climbs c =
    put-there c.args.touched.now.items c.deref.result.now c.put.new.touched.items c.in-Err.place c.args.object
    c.deref.ensures.value c.put.ensures.items c.in-Err.ensures.position
