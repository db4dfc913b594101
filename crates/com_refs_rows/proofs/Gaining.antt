-- Rows that take no holder, one after another, and the places that they bring.
use mathlib.Core.Path.{fun_ext}
use Rattle.std.proofs.Common.{◌≡◌, ℕ, Bool, ◌+◌, List, [], ◌∷◌, ◌++◌, refl, sym, ap, subst, ◌∙◌, arith, append_assoc}
use Rattle.std.proofs.lemmas.List.{append-nil}
use Rattle.std.proofs.lemmas.List.Sums.{fold-append}
use Rattle.com_base.specs.declared.value.RefValue.{RefValue}
use Rattle.com_refs_books.specs.Changes.{Books, Row, changed, change, entered_rows}
use Rattle.com_refs_holders.specs.Places.{OneMore, SamePlaces}
use Rattle.com_refs_holders.specs.Tables.{Tables, books_of, owns_of}
use Rattle.com_reference_moves.specs.declared.moves.Move.{Move}
use Rattle.com_refs.proofs.Ties.{counts_same}
use Rattle.com_refs_rows.specs.Books.{moved_to, Rowed, Brought, Gained}
use Rattle.com_refs_rows.specs.Moving.{moves_at, plus, AllBelow}
use Rattle.com_refs_rows.proofs.Cutting.{same_rows}
use Rattle.com_refs_rows.proofs.Placed.{same_counts, gained}

pub moves_append : (xs ys : List Move) (c x : ℕ) → moves_at (xs ++ ys) c x ≡ moves_at xs c x + moves_at ys c x
moves_append [] ys c x = omega arith
moves_append (m ∷ xs) ys c x = omega (arith, moves_append xs ys c x)

pub below_append : (n : ℕ) (xs ys : List Move) → AllBelow n xs → AllBelow n ys → AllBelow n (xs ++ ys)
below_append n [] ys a b = b
below_append n (m ∷ xs) ys a b = (a.0, below_append n xs ys a.1 b)

below_left : (n : ℕ) (xs ys : List Move) → AllBelow n (xs ++ ys) → AllBelow n xs
below_left n [] ys a = tt
below_left n (m ∷ xs) ys a = (a.0, below_left n xs ys a.1)

pub below_right : (n : ℕ) (xs ys : List Move) → AllBelow n (xs ++ ys) → AllBelow n ys
below_right n [] ys a = a
below_right n (m ∷ xs) ys a = below_right n xs ys a.1

-- ---- places

pub brought_none : (t u : Tables) → SamePlaces t u → Brought t u []
brought_none t u s = record {
  made = s.made;
  owns = s.owns;
  counts = λ n places below counts. same_counts n places (plus places []) u (λ c x. omega arith) (counts_same n places places t u counts s);
}

pub brought_one : (t u : Tables) (a : ℕ) (r : RefValue) → OneMore t u a r.object (owns_of t.objects r.object a) → Brought t u (moved_to a r ∷ [])
brought_one t u a r more = record {
  made = more.made;
  owns = more.owns;
  counts = λ n places below counts. gained n places t u (moved_to a r) more below.0 counts;
}

pub brought_more : (t v u : Tables) (xs ys : List Move) → Brought t v xs → Brought v u ys → Brought t u (xs ++ ys)
brought_more t v u xs ys f g = record {
  made = g.made ∙ f.made;
  owns = λ x c. g.owns x c ∙ f.owns x c;
  counts = λ n places below counts.
      same_counts n (plus (plus places xs) ys) (plus places (xs ++ ys)) u (λ c x. omega (arith, moves_append xs ys c x))
      (g.counts n (plus places xs) (below_right n xs ys below) (f.counts n places (below_left n xs ys below) counts));
}

pub same_owners : (t u : Tables) → ((x c : ℕ) → owns_of u.objects x c ≡ owns_of t.objects x c) → owns_of u.objects ≡ owns_of t.objects
same_owners t u e = fun_ext (λ x. fun_ext (λ c. e x c))

-- ---- rows

pub entered_more : (owned : ℕ → ℕ → Bool) (b : Books) (rs ss : List Row) → entered_rows owned (entered_rows owned b rs) ss ≡ entered_rows owned b (rs ++ ss)
entered_more owned b rs ss = sym (fold-append (λ (x : Books) (r : Row). changed x (change owned x r)) b rs ss)

pub gained_none : (a : ℕ) (t : Tables) (before : List Move) → SamePlaces t t → Gained a [] t t before before
gained_none a t before s = record {
  moves = [];
  written = sym (append-nil before);
  below = λ n h. tt;
  places = brought_none t t s;
  books = refl;
}

-- A row that brings a place.
pub gained_one : (a : ℕ) (row : Row) (t u : Tables) (r : RefValue) (before after : List Move) → OneMore t u a r.object (owns_of t.objects r.object a) → Rowed t u row → after ≡ before ++ moved_to a r ∷ [] → Gained a (row ∷ []) t u before after
gained_one a row t u r before after more books written = record {
  moves = moved_to a r ∷ [];
  written = written;
  below = λ n h. (h, tt);
  places = brought_one t u a r more;
  books = books;
}

-- A row that brings none.
pub gained_same : (a : ℕ) (row : Row) (t u : Tables) (before after : List Move) → SamePlaces t u → Rowed t u row → after ≡ before → Gained a (row ∷ []) t u before after
gained_same a row t u before after same books written = record {
  moves = [];
  written = written ∙ sym (append-nil before);
  below = λ n h. tt;
  places = brought_none t u same;
  books = books;
}

-- A row of what has ended.
pub gained_nothing : (a : ℕ) (row : Row) (t u : Tables) (before : List Move) → u ≡ t → changed (books_of t) (change (owns_of t.objects) (books_of t) row) ≡ books_of t → Gained a (row ∷ []) t u before before
gained_nothing a row t u before e same = subst (λ (v : Tables). Gained a (row ∷ []) t v before before) (sym e) (gained_same a row t t before before (same_rows t t refl refl) (sym same) refl)

pub gained_more : (a : ℕ) (rs ss : List Row) (t v u : Tables) (xs ys zs : List Move) → Gained a rs t v xs ys → Gained a ss v u ys zs → Gained a (rs ++ ss) t u xs zs
gained_more a rs ss t v u xs ys zs f g = record {
  moves = f.moves ++ g.moves;
  written = g.written ∙ ap (λ (l : List Move). l ++ g.moves) f.written ∙ append_assoc xs f.moves g.moves;
  below = λ n h. below_append n f.moves g.moves (f.below n h) (g.below n h);
  places = brought_more t v u f.moves g.moves f.places g.places;
  books = g.books ∙ ap (λ (o : ℕ → ℕ → Bool). entered_rows o (books_of v) ss) (same_owners t v f.places.owns) ∙ ap (λ (b : Books). entered_rows (owns_of t.objects) b ss) f.books ∙ entered_more (owns_of t.objects) (books_of t) rs ss;
}
