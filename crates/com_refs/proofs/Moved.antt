-- Places less, and what tells of places, reckoned to tables that count the same.
use Rattle.std.proofs.Common.{◌≡◌, ℕ, Bool, eqb, not, ◌&&◌, ◌+◌, List, length, ap, sym, subst, ◌∙◌}
use Rattle.com_proxy.specs.declared.ProxyRow.{ProxyRow}
use Rattle.com_proxy.specs.Rows.{IsFree}
use Rattle.com_refs_books.specs.Counting.{count_if}
use Rattle.com_refs_holders.specs.Tables.{Tables, owns_of, object_in, made_in}
use Rattle.com_refs_holders.specs.Places.{OneLess, places_of, locals_of}
use Rattle.com_refs_holders.specs.Stands.{Tells}

pub less_same : (t v u : Tables) (a o : ℕ) (w : Bool) → u.objects ≡ v.objects → u.proxies ≡ v.proxies → OneLess t v a o w → OneLess t u a o w
less_same t v u a o w eo er m = record {
  made = ap (λ os. length os) eo ∙ m.made;
  owns = λ x c. ap (λ os. owns_of os x c) eo ∙ m.owns x c;
  as_made = λ x. ap (λ os. made_in os x) eo ∙ m.as_made x;
  direct = λ x. ap (λ os. (object_in os x).direct + count_if (w && eqb x o)) eo ∙ m.direct x;
  elsewhere = λ c x. ap (λ rs. places_of c x rs + count_if (not w && (eqb c a && eqb x o))) er ∙ m.elsewhere c x;
  all_elsewhere = λ x. ap (λ rs. locals_of x rs + count_if (not w && eqb x o)) er ∙ m.all_elsewhere x;
}

pub tells_same : (n : ℕ) (places : ℕ → ℕ → ℕ) (u v : Tables) → u.objects ≡ v.objects → u.proxies ≡ v.proxies → Tells n places u → Tells n places v
tells_same n places u v eo er h = record {
  none = λ a o e z. subst (λ (rs : List ProxyRow). IsFree rs a o) er (h.none a o (ap (λ os. owns_of os o a) eo ∙ e) z);
  some = λ a o l e f. h.some a o l (ap (λ os. owns_of os o a) eo ∙ e) (subst (λ (rs : List ProxyRow). IsFree rs a o) (sym er) f);
}
