use Rattle.std.proofs.Common.{◌≡◌, ◌<◌, ℕ, ℤ, [], ◌∷◌, Some, sym, subst, w64}
use Rattle.std.proofs.lemmas.Int.{to_z-of_z}
use Rattle.com_base.specs.declared.value.RefValue.{RefValue}
use Rattle.com_model.specs.Deeds.{cookie_number}
use Rattle.com_refs_books.specs.Changes.{Takes}
use Rattle.com_slots.specs.Table.{held_in}
use Rattle.com_refs_rows.specs.Books.{Gained}
use Rattle.com_refs_rows.proofs.Fitting.{held_at, same_held}
use Rattle.com_refs_rows.proofs.Gaining.{gained_one}
use Rattle.com_refs_rows.proofs.Touched.{took-more}
use Rattle.com_refs_rows.proofs.rows.get.Goals as goal

pub returns-clause-row : goal.returns-clause-row
returns-clause-row c =
    let a = c.args.apartment in
    let cookies = c.args.refs.now.cookies in
    let found : RefValue = c.in-Ok.found in
    let few = subst (λ (n : ℕ). n < 4294967296) c.cookies-count.ensures.rows c.cookies-count.type_inv in
    let kept = subst (λ (z : ℤ). held_in cookies (cookie_number z) ≡ Some c.args.held) (sym (to_z-of_z w64 c.args.cookie c.ranges.cookie)) c.requires.kept.held_is in
    let stands : held_in cookies c.cookie_number-number.result ≡ Some c.args.held = held_at cookies 4294967296 _ c.cookie_number-number.result c.args.held few c.cookie_number-number.ensures.within kept in
    let same : found ≡ c.args.held = same_held cookies c.cookie_number-number.result found c.args.held c.in-Ok.ensures.held stands in
    subst (λ (r : RefValue). Gained a (Takes a r.object r.iface ∷ []) c.args.refs.now c.get.new.self c.args.brought.now.items c.bring.new.brought.items) same
    (gained_one a (Takes a found.object found.iface) c.args.refs.now c.get.new.self found c.args.brought.now.items c.bring.new.brought.items c.in-Ok.ensures.places c.in-Ok.ensures.row c.bring.ensures.items)

pub returns-clause-more : goal.returns-clause-more
returns-clause-more c =
    (λ x. took-more c.args.refs.now c.get.new.self c.args.apartment c.in-Ok.found.object c.in-Ok.found.iface _ c.in-Ok.ensures.row c.in-Ok.ensures.places x)
