-- The rows of each deed.
use mathlib.Core.Path.{fun_ext}
use Rattle.std.proofs.Common.{◌≡◌, ℕ, Bool, true, false, cond, not, ◌&&◌, ◌||◌, ◌+◌, ◌<◌, ◌≤◌, List, [], ◌∷◌, ◌++◌, length, refl, sym, ap, subst, ◌∙◌, arith}
use Rattle.std.proofs.lemmas.List.{append-nil}
use Rattle.std.specs.Prelude.{Option, None, is_some}
use Rattle.com_body.specs.declared.actions.Action.{Action}
use Rattle.com_refs_books.specs.Changes.{Books, Row, changed, change, entered_rows}
use Rattle.com_refs_books.specs.Counting.{count_if}
use Rattle.com_refs_books.specs.Ends.{ends}
use Rattle.com_refs_holders.specs.Places.{Counts}
use Rattle.com_refs_holders.specs.Stands.{Tells}
use Rattle.com_refs_holders.specs.Tables.{Tables, books_of, owns_of}
use Rattle.com_model.specs.declared.deeds.Deed.{Deed}
use Rattle.com_model.specs.declared.deeds.Deed.TheVariants as deed
use Rattle.com_model.specs.declared.keeps.Issue.{Issue}
use Rattle.com_model.specs.declared.keeps.Making.{Making}
use Rattle.com_model.specs.declared.scenario.Scenario.{Scenario}
use Rattle.com_model.specs.Apartments.{ends_sta}
use Rattle.com_model.specs.Books.{rows, kept, made_by}
use Rattle.com_model.specs.Calls.{issues}
use Rattle.com_model.specs.Lists.{is_number}
use Rattle.com_model.specs.Objects.{makes, disconnects}
use Rattle.com_reference_moves.specs.declared.moves.Move.{Move}
use Rattle.com_laws_unchanged.specs.Ends.{connected}
use Rattle.com_refs.specs.Totals.{Totals}
use Rattle.com_refs.proofs.Ends.{ends_again}
use Rattle.com_refs.proofs.Ties.{counts_same}
use Rattle.com_state.specs.Parts.{named_at}
use Rattle.com_refs_rows.specs.declared.calls.CallPackets.{CallPackets}
use Rattle.com_refs_rows.specs.Calls.{arguments_in, result_in}
use Rattle.com_refs_rows.specs.Books.{AreMade, Brought, Gained, Taken, Cut, Exchanged, books_with}
use Rattle.com_refs_rows.specs.Entries.{Around, Tally, tally, books_tallied, left_by, entered, ends_holder, brings_to, Given, Closed, Applied}
use Rattle.com_refs_rows.specs.Moving.{plus, AllBelow, Ended}
use Rattle.com_refs_rows.specs.Owners.{AsOwned}
use Rattle.com_refs_rows.proofs.Cutting.{same_rows, ends_cut}
use Rattle.com_refs_rows.proofs.Gaining.{brought_none, same_owners}
use Rattle.com_refs_rows.proofs.Owning.{grown_none, grown_then, owned_same, owned_then}
use Rattle.com_refs_rows.proofs.Packed.{with_calls, rows_beside}
use Rattle.com_refs_rows.proofs.Placed.{same_counts}

-- ---- what is connected

unchanged : (named : ℕ → ℕ) (b : Books) (m : Option Making) (p q : Option ℕ) → m ≡ None → p ≡ None → q ≡ None
    → record b { live = λ o. (made_by m o || b.live o) && (not (is_number o p) && not (is_number (named o) q)) } ≡ b
unchanged named b m p q em ep eq =
    ap (λ (y : Option Making). record b { live = λ o. (made_by y o || b.live o) && (not (is_number o p) && not (is_number (named o) q)) }) em
    ∙ ap (λ (y : Option ℕ). record b { live = λ o. b.live o && (not (is_number o y) && not (is_number (named o) q)) }) ep
    ∙ ap (λ (y : Option ℕ). record b { live = λ o. b.live o && (true && not (is_number (named o) y)) }) eq
    ∙ ap (λ (l : ℕ → Bool). record b { live = l }) (fun_ext (λ o. keeps (b.live o)))
  where
    keeps : (l : Bool) → l && (true && true) ≡ l
    keeps true = refl
    keeps false = refl

-- The deed connects nothing, and disconnects nothing.
pub record IsPlain (d : Deed) : Type 0 where
  pub makes_none : makes d ≡ None
  pub disconnects_none : disconnects d ≡ None
  pub ends_none : ends_sta d ≡ None

pub connected_plain : (d : Deed) (named : ℕ → ℕ) (b : Books) → IsPlain d → connected d named b ≡ b
connected_plain d named b p = unchanged named b (makes d) (disconnects d) (ends_sta d) p.makes_none p.disconnects_none p.ends_none

-- ---- rows that give

as-many : (d : Deed) (calls later : List CallPackets) (l : ℕ) → issues l d ≡ None → later ≡ calls → length later ≡ count_if (is_some (issues l d)) + length calls
as-many d calls later l none same =
    let zero-more : count_if (is_some (issues l d)) ≡ 0 = ap (λ (i : Option Issue). count_if (is_some i)) none in
    let same-length : length later ≡ length calls = ap (λ (c : List CallPackets). length c) same in
    omega (arith, zero-more, same-length)

pub clash : true ≡ false → ⊥
clash e = cc

-- A deed that ends a holder makes no object.
ender_makes_none : (left : ℕ → Bool) (d : Deed) → ends_holder left d ≡ true → makes d ≡ None
ender_makes_none left (deed.Made o a k i hr) e = absurd (clash (sym e))
ender_makes_none left d e = refl

module _ (s : Scenario) (x : Option Action) (g : Around) (d : Deed) (t u : Tables) (calls later : List CallPackets) (xs ys : List Move) where
  abbrev pub expected : (ℕ → ℕ → Bool) → Books
  expected owned = cond (ends_holder (left_by g.calls) d) (books_with t calls) (entered s x g owned d (books_with t calls))

  abbrev pub its_rows : List Row
  its_rows = rows s x (left_by g.calls) (books_with t calls) g.apartment d

  -- the books with them are those that are expected
  pub given_by : ends_holder (left_by g.calls) d ≡ false → IsPlain d → ((l : ℕ) → length later ≡ count_if (is_some (issues l d)) + length calls) → (ms : List Move) → ys ≡ xs ++ ms → ((n : ℕ) → brings_to g.apartment d < n → AllBelow n ms) → Brought t u ms
      → books_with u later ≡ kept (books_with t calls) d (entered_rows (owns_of t.objects) (books_with t calls) its_rows)
      → Given g expected d (tally t calls) xs (tally u later) ys
  given_by gives plain many ms written below brought books = record {
    moves = ms;
    written = written;
    none = λ takes. absurd (clash (sym takes ∙ gives));
    below = below;
    owns = λ y c h. brought.owns y c;
    objects = grown_none g.classes (makes d) t u plain.makes_none (brought.made, brought.owns);
    counts = λ n places b made counts. brought.counts n places b counts;
    calls = many;
    books = books
        ∙ ap (λ (o : ℕ → ℕ → Bool). kept (books_with t calls) d (entered_rows o (books_with t calls) its_rows)) (sym (same_owners t u brought.owns))
        ∙ sym (connected_plain d (named_at g.objects) (kept (books_with t calls) d (entered_rows (owns_of u.objects) (books_with t calls) its_rows)) plain)
        ∙ sym (ap (λ (w : Bool). cond w (books_with t calls) (entered s x g (owns_of u.objects) d (books_with t calls))) gives);
  }

  pub given_gained : ends_holder (left_by g.calls) d ≡ false → IsPlain d → ((b c : Books) → kept b d c ≡ c) → ((l : ℕ) → issues l d ≡ None) → later ≡ calls → Gained (brings_to g.apartment d) its_rows t u xs ys
      → Given g expected d (tally t calls) xs (tally u later) ys
  given_gained gives plain keeps quiet same f = given_by gives plain (λ l. as-many d calls later l (quiet l) same) f.moves f.written f.below f.places
      (ap (λ (c : List CallPackets). books_with u c) same
      ∙ ap (λ (b : Books). with_calls b (arguments_in calls) (result_in calls)) f.books
      ∙ sym (rows_beside (owns_of t.objects) (books_of t) (arguments_in calls) (result_in calls) its_rows)
      ∙ sym (keeps (books_with t calls) (entered_rows (owns_of t.objects) (books_with t calls) its_rows)))

  -- nothing was done, by a deed that ends a holder
  pub given_later : ends_holder (left_by g.calls) d ≡ true → ((l : ℕ) → issues l d ≡ None) → u ≡ t → later ≡ calls → ys ≡ xs → Given g expected d (tally t calls) xs (tally u later) ys
  given_later takes quiet eu ec em = record {
    moves = [];
    written = em ∙ sym (append-nil xs);
    none = λ y. refl;
    below = λ n h. tt;
    owns = λ y c h. ap (λ (v : Tables). owns_of v.objects y c) eu;
    objects = grown_none g.classes (makes d) t u (ender_makes_none (left_by g.calls) d takes) (owned_same t u (same_rows t u (ap (λ (v : Tables). v.objects) eu) (ap (λ (v : Tables). v.proxies) eu)));
    counts = λ n places b made counts. (brought_none t u (same_rows t u (ap (λ (v : Tables). v.objects) eu) (ap (λ (v : Tables). v.proxies) eu))).counts n places b counts;
    calls = λ l. as-many d calls later l (quiet l) ec;
    books = ap (λ (v : Tables). books_with v later) eu ∙ ap (λ (c : List CallPackets). books_with t c) ec
        ∙ sym (ap (λ (w : Bool). cond w (books_with t calls) (entered s x g (owns_of u.objects) d (books_with t calls))) takes);
  }

-- ---- rows that end a holder

pub ends_beside : (n : ℕ) (places : ℕ → ℕ → ℕ) (b : Books) (x : ℕ → List ℕ) (y : ℕ → Option ℕ) → ends n places (with_calls b x y) ≡ with_calls (ends n places b) x y
unfolding ends
ends_beside n places b x y = refl

pub closed_none : (e : Books) (w v : Tally) → v ≡ w → e ≡ books_tallied w → Closed e w v
closed_none e w v same is = record {
  places = same_rows w.tables v.tables (ap (λ (z : Tally). z.tables.objects) same) (ap (λ (z : Tally). z.tables.proxies) same);
  books = λ n places later counts le. ap (λ (b : Books). ends n later b) (ap (λ (z : Tally). books_tallied z) same ∙ sym is);
}

pub closed_taken : (row : Row) (t u : Tables) (calls : List CallPackets) (e : Books) → ((n : ℕ) (places : ℕ → ℕ → ℕ) → Counts n places u → Tells n places u) → ((n : ℕ) (places : ℕ → ℕ → ℕ) → Counts n places u → Totals n places u)
    → Taken row t u → e ≡ entered_rows (owns_of t.objects) (books_with t calls) (row ∷ []) → Closed e (tally t calls) (tally u calls)
closed_taken row t u calls e tells totals f is = record {
  places = f.places;
  books = λ n places later counts le.
      let x : ℕ → List ℕ = arguments_in calls in
      let y : ℕ → Option ℕ = result_in calls in
      let r : Books = changed (books_of t) (change (owns_of t.objects) (books_of t) row) in
      ends_beside n later (books_of u) x y
      ∙ ap (λ (b : Books). with_calls (ends n later b) x y) (f.books n places (tells n places counts) (totals n places counts))
      ∙ ap (λ (b : Books). with_calls b x y) (ends_again n places later r le)
      ∙ sym (ends_beside n later r x y)
      ∙ ap (λ (b : Books). ends n later b) (sym (is ∙ rows_beside (owns_of t.objects) (books_of t) x y (row ∷ [])));
}

pub closed_cut : (gone : ℕ → Bool) (t u : Tables) (calls : List CallPackets) (e : Books) → Cut gone t u
    → record (books_with t calls) { live = λ x. (books_with t calls).live x && not (gone x) } ≡ e → Closed e (tally t calls) (tally u calls)
closed_cut gone t u calls e f is = record {
  places = f.places;
  books = λ n places later counts le.
      let x : ℕ → List ℕ = arguments_in calls in
      let y : ℕ → Option ℕ = result_in calls in
      let l : ℕ → Bool = λ o. (books_of t).live o && not (gone o) in
      ends_beside n later (books_of u) x y
      ∙ ap (λ (b : Books). with_calls (ends n later b) x y) f.books
      ∙ ap (λ (b : Books). with_calls b x y) (ends_cut n later l (books_of t))
      ∙ sym (ends_beside n later (record (books_of t) { live = l }) x y)
      ∙ ap (λ (b : Books). ends n later b) is;
}

-- ---- the whole entry

module _ (s : Scenario) (x : Option Action) (g : Around) (d : Deed) (t t1 t2 t3 t4 : Tables) (calls later-calls : List CallPackets) (brought gained lost : List Move) where
  abbrev ender : Bool
  ender = ends_holder (left_by g.calls) d

  abbrev whole : (ℕ → ℕ → Bool) → Books → Books
  whole owned b = entered s x g owned d b

  pub applied : Given g (λ owned. cond ender (books_with t calls) (whole owned (books_with t calls))) d (tally t calls) [] (tally t1 later-calls) brought
      → Exchanged brought gained t1 t2
      → ((owned : ℕ → ℕ → Bool) → Closed (cond ender (whole owned (books_with t2 later-calls)) (books_with t2 later-calls)) (tally t2 later-calls) (tally t3 later-calls))
      → AsOwned t3 t4 → ((n : ℕ) (later : ℕ → ℕ → ℕ) → AllBelow n lost → Counts n (plus later lost) t3 → Ended n later t3 t4)
      → Applied (λ owned. whole owned (books_with t calls)) g d gained lost (tally t calls) (tally t4 later-calls)
  applied given exchanged closed last ends-all = record {
    calls = given.calls;
    owned = owns_of t1.objects;
    owns = given.owns;
    exact = λ y c. sym (later-owned.1 y c);
    objects = grown_then g.classes (makes d) t t1 t4 given.objects later-owned;
    counts = λ n places later low gs ls made counts same. (at-end n places later low gs ls made counts same).counts;
    books = λ n places later low gs ls made counts same.
        let xs : ℕ → List ℕ = arguments_in later-calls in
        let ys : ℕ → Option ℕ = result_in later-calls in
        ap (λ (b : Books). with_calls b xs ys) (at-end n places later low gs ls made counts same).books
        ∙ sym (ends_beside n later (books_of t3) xs ys)
        ∙ (closed (owns_of t1.objects)).books n (plus places gained) later (after-row n places low gs made counts) (λ c y. omega (arith, same c y))
        ∙ by-kind n places later low gs made counts (λ c y. omega (arith, same c y)) ender refl;
  }
    where
      later-owned : AsOwned t1 t4
      later-owned = owned_then t1 t2 t4 exchanged.objects (owned_then t2 t3 t4 (owned_same t2 t3 (closed (owns_of t1.objects)).places) last)

      all-brought : (n : ℕ) → brings_to g.apartment d < n → AllBelow n brought
      all-brought n low = subst (λ (l : List Move). AllBelow n l) (sym given.written) (given.below n low)

      first-row : (n : ℕ) (places : ℕ → ℕ → ℕ) → brings_to g.apartment d < n → AreMade (length t.objects) places → Counts n places t → Counts n (plus places brought) t1
      first-row n places low made counts = subst (λ (l : List Move). Counts n (plus places l) t1) (sym given.written) (given.counts n places (given.below n low) made counts)

      then-gained : (n : ℕ) (places : ℕ → ℕ → ℕ) → brings_to g.apartment d < n → AllBelow n gained → AreMade (length t.objects) places → Counts n places t → Counts n (plus places gained) t2
      then-gained n places low gs made counts = exchanged.counts n places (all-brought n low) gs (first-row n places low made counts)

      after-row : (n : ℕ) (places : ℕ → ℕ → ℕ) → brings_to g.apartment d < n → AllBelow n gained → AreMade (length t.objects) places → Counts n places t → Counts n (plus places gained) t3
      after-row n places low gs made counts = counts_same n (plus places gained) (plus places gained) t2 t3 (then-gained n places low gs made counts) (closed (owns_of t1.objects)).places

      at-end : (n : ℕ) (places later : ℕ → ℕ → ℕ) → brings_to g.apartment d < n → AllBelow n gained → AllBelow n lost → AreMade (length t.objects) places → Counts n places t
          → ((c y : ℕ) → plus later lost c y ≡ plus places gained c y) → Ended n later t3 t4
      at-end n places later low gs ls made counts same = ends-all n later ls (same_counts n (plus places gained) (plus later lost) t3 (λ c y. sym (same c y)) (after-row n places low gs made counts))

      by-kind : (n : ℕ) (places later : ℕ → ℕ → ℕ) → brings_to g.apartment d < n → AllBelow n gained → AreMade (length t.objects) places → Counts n places t → ((c y : ℕ) → later c y ≤ plus places gained c y)
          → (kind : Bool) → ender ≡ kind
          → ends n later (cond ender (whole (owns_of t1.objects) (books_with t2 later-calls)) (books_with t2 later-calls)) ≡ ends n later (whole (owns_of t1.objects) (books_with t calls))
      by-kind n places later low gs made counts le true e =
          let before : books_with t1 later-calls ≡ books_with t calls = given.books ∙ ap (λ (k : Bool). cond k (books_with t calls) (whole (owns_of t1.objects) (books_with t calls))) e in
          let between : books_with t2 later-calls ≡ books_with t1 later-calls = ap (λ (b : Books). with_calls b (arguments_in later-calls) (result_in later-calls)) (exchanged.none (given.written ∙ given.none e)) in
          ap (λ (k : Bool). ends n later (cond k (whole (owns_of t1.objects) (books_with t2 later-calls)) (books_with t2 later-calls))) e
          ∙ ap (λ (b : Books). ends n later (whole (owns_of t1.objects) b)) (between ∙ before)
      by-kind n places later low gs made counts le false e =
          let xs : ℕ → List ℕ = arguments_in later-calls in
          let ys : ℕ → Option ℕ = result_in later-calls in
          let before : books_with t1 later-calls ≡ whole (owns_of t1.objects) (books_with t calls) = given.books ∙ ap (λ (k : Bool). cond k (books_with t calls) (whole (owns_of t1.objects) (books_with t calls))) e in
          ap (λ (k : Bool). ends n later (cond k (whole (owns_of t1.objects) (books_with t2 later-calls)) (books_with t2 later-calls))) e
          ∙ ends_beside n later (books_of t2) xs ys
          ∙ ap (λ (b : Books). with_calls b xs ys) (exchanged.books n places later (all-brought n low) gs (first-row n places low made counts) le)
          ∙ sym (ends_beside n later (books_of t1) xs ys)
          ∙ ap (λ (b : Books). ends n later b) before
