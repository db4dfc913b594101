use Rattle.std.proofs.Common.{[], ◌∷◌, refl, sym, ap, ◌∙◌}
use Rattle.com_refs_holders.specs.Tables.{books_of, owns_of}
use Rattle.com_model.specs.Tables.{has_agile_model}
use Rattle.com_refs.proofs.Makings.{new_of_next}
use Rattle.com_refs_rows.proofs.Fitting.{among_making, offers_more, small_making}
use Rattle.com_refs_rows.proofs.Makings.{made_books, made_counts}
use Rattle.com_refs_rows.specs.Books.{moved_to}
use Rattle.com_refs_rows.specs.Moving.{plus}
use Rattle.com_refs_rows.proofs.Owning.{grown_one}
use Rattle.com_refs_rows.proofs.Unholding.{made-more}
use Rattle.com_refs_rows.proofs.making.make.Goals as goal

pub make_object-requires-clause-new : goal.make_object-requires-clause-new
make_object-requires-clause-new c = new_of_next c.args.refs.now.objects c.args.instance.now.held.object c.requires.made.next

pub make_object-requires-clause-within : goal.make_object-requires-clause-within
make_object-requires-clause-within c =
    among_making c.args.classes.now c.args.instance.now.class c.args.instance.now.held.iface c.in-Some.class.now c.as_slice.result.now (sym c.in-Some.ensures) (c.as_slice.ensures.value ∙ c.in_ok-fill_set.ensures) c.requires.made.offered

pub make_object-requires-clause-small : goal.make_object-requires-clause-small
make_object-requires-clause-small c =
    small_making c.in-Some.class.now c.as_slice.result.now (c.as_slice.ensures.value ∙ c.in_ok-fill_set.ensures) (c.requires.made.small c.in-Some.class.now (sym c.in-Some.ensures))

pub returns-clause-offers : goal.returns-clause-offers
returns-clause-offers c =
    offers_more c.args.classes.now (record { object = c.args.instance.now.held.object; apartment = c.args.instance.now.owner; class = c.args.instance.now.class }) c.args.refs.now c.make_object.new.self c.in-Some.class.now c.as_slice.result.now
    (sym c.in-Some.ensures) (c.as_slice.ensures.value ∙ c.in_ok-fill_set.ensures) c.in_ok-make_object.ensures.made.offers

pub returns-clause-made : goal.returns-clause-made
returns-clause-made c =
    let t = c.args.refs.now in
    let u = c.make_object.new.self in
    let next = c.requires.made.next in
    record {
      next = next;
      owns = c.in_ok-make_object.ensures.made.owns;
      counts = λ n places below made counts. made_counts n places t u c.args.apartment c.args.instance.now.held (owns_of u.objects c.args.instance.now.held.object c.args.apartment) next refl c.in_ok-make_object.ensures.made.owns c.in_ok-make_object.ensures.made.direct c.in_ok-make_object.ensures.made.elsewhere (c.tells.ensures.totals n places counts) below made counts;
      books = c.in_ok-make_object.ensures.made.row ∙ made_books (owns_of u.objects) (books_of t) c.args.apartment c.args.instance.now.held.object c.args.instance.now.held.iface;
    }

pub returns-clause-grown : goal.returns-clause-grown
returns-clause-grown c = grown_one c.args.classes.now (record { object = c.args.instance.now.held.object; apartment = c.args.instance.now.owner; class = c.args.instance.now.class }) c.args.refs.now c.make_object.new.self c.are_agile.result (c.are_agile.ensures ∙ ap has_agile_model c.in-Some.ensures) c.in_ok-make_object.ensures.made.made c.in_ok-make_object.ensures.made.whose

pub returns-clause-more : goal.returns-clause-more
returns-clause-more c = (λ n places below made counts.
    let t = c.args.refs.now in
    let u = c.make_object.new.self in
    let next = c.requires.made.next in
    let was = c.tells.ensures.totals n places counts in
    let later = made_counts n places t u c.args.apartment c.args.instance.now.held (owns_of u.objects c.args.instance.now.held.object c.args.apartment) next refl c.in_ok-make_object.ensures.made.owns c.in_ok-make_object.ensures.made.direct c.in_ok-make_object.ensures.made.elsewhere was below made counts in
    made-more t u c.args.apartment c.args.instance.now.held (owns_of u.objects c.args.instance.now.held.object c.args.apartment) n places c.in_ok-make_object.ensures.made.row c.in_ok-make_object.ensures.made.direct was
    (c.tells-2.ensures.totals n (plus places (moved_to c.args.apartment c.args.instance.now.held ∷ [])) later))
