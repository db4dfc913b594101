-- Places more and less, reckoned from tables that count the same.
use Rattle.std.proofs.Common.{◌≡◌, ℕ, Bool, eqb, not, ◌&&◌, ◌+◌, length, ap, ◌∙◌}
use Rattle.com_refs_books.specs.Counting.{count_if}
use Rattle.com_refs_holders.specs.Tables.{Tables, owns_of, object_in, made_in}
use Rattle.com_refs_holders.specs.Places.{OneMore, SamePlaces, places_of, locals_of}

pub more_from : (t v u : Tables) (a o : ℕ) (w : Bool) → v.objects ≡ t.objects → v.proxies ≡ t.proxies → OneMore v u a o w → OneMore t u a o w
more_from t v u a o w eo er m = record {
  made = m.made ∙ ap (λ os. length os) eo;
  owns = λ x c. m.owns x c ∙ ap (λ os. owns_of os x c) eo;
  as_made = λ x. m.as_made x ∙ ap (λ os. made_in os x) eo;
  direct = λ x. m.direct x ∙ ap (λ os. (object_in os x).direct + count_if (w && eqb x o)) eo;
  elsewhere = λ c x. m.elsewhere c x ∙ ap (λ rs. places_of c x rs + count_if (not w && (eqb c a && eqb x o))) er;
  all_elsewhere = λ x. m.all_elsewhere x ∙ ap (λ rs. locals_of x rs + count_if (not w && eqb x o)) er;
}

pub same_from : (t v u : Tables) → v.objects ≡ t.objects → v.proxies ≡ t.proxies → SamePlaces v u → SamePlaces t u
same_from t v u eo er m = record {
  made = m.made ∙ ap (λ os. length os) eo;
  owns = λ x c. m.owns x c ∙ ap (λ os. owns_of os x c) eo;
  as_made = λ x. m.as_made x ∙ ap (λ os. made_in os x) eo;
  direct = λ x. m.direct x ∙ ap (λ os. (object_in os x).direct) eo;
  elsewhere = λ c x. m.elsewhere c x ∙ ap (λ rs. places_of c x rs) er;
  all_elsewhere = λ x. m.all_elsewhere x ∙ ap (λ rs. locals_of x rs) er;
}
