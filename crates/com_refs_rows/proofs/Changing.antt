-- An entry as a whole, from its steps.
use Rattle.std.proofs.Common.{◌≡◌, ℕ, ◌+◌, List, [], ◌∷◌, map, length, refl, sym, ap, subst, ◌∙◌, arith, inl, inr}
use Rattle.std.specs.Prelude.{is_some}
use Rattle.com_refs_books.specs.Changes.{Books}
use Rattle.com_refs_books.specs.Counting.{count_if}
use Rattle.com_refs_books.specs.Ends.{ends}
use Rattle.com_refs_holders.specs.Places.{Counts, SamePlaces}
use Rattle.com_refs_holders.specs.Tables.{Tables, books_of}
use Rattle.com_model.specs.declared.deeds.Deed.{Deed}
use Rattle.com_model.specs.Calls.{issues}
use Rattle.com_model.specs.Objects.{makes}
use Rattle.com_reference_moves.specs.declared.moves.Move.{Move}
use Rattle.com_reference_moves.specs.Steps.{movings_of}
use Rattle.com_laws_places.specs.Moves.{Move as Moving}
use Rattle.com_refs.proofs.Ties.{counts_same}
use Rattle.com_refs_rows.specs.declared.calls.CallPackets.{CallPackets}
use Rattle.com_refs_rows.specs.Books.{Exchanged, books_with}
use Rattle.com_refs_rows.specs.Calls.{arguments_in, result_in}
use Rattle.com_refs_rows.specs.Entries.{Around, Tally, tally, entered, Carries, Gives, Closes, Applied, Applies}
use Rattle.com_refs_rows.specs.Moving.{plus, AllBelow, Ended}
use Rattle.com_refs_rows.specs.Owners.{AsOwned}
use Rattle.com_refs_rows.proofs.Entering.{applied}
use Rattle.com_refs_rows.proofs.Owning.{owned_same, then_grown}
use Rattle.com_refs_rows.proofs.Packed.{with_calls}

move_of : Moving → Move
move_of m = record { apartment = m.apartment; reference = m.reference }

moves-of : (ms : List Move) → map move_of (movings_of ms) ≡ ms
unfolding move_of
moves-of [] = refl
moves-of (m ∷ ms) = ap (λ (l : List Move). m ∷ l) (moves-of ms)

pub same_moves : (ms ns : List Move) → movings_of ms ≡ movings_of ns → ms ≡ ns
same_moves ms ns e = sym (moves-of ms) ∙ ap (λ (l : List Moving). map move_of l) e ∙ moves-of ns

-- Where only memory was taken before.
pub applies_before : (g : Around) (d : Deed) (gained lost : List Move) (t t1 : Tables) (calls calls1 : List CallPackets) (v : Tally) → SamePlaces t t1 → calls1 ≡ calls → books_with t1 calls1 ≡ books_with t calls
    → Applies g d gained lost (tally t1 calls1) v → Applies g d gained lost (tally t calls) v
applies_before g d gained lost t t1 calls calls1 v same before books f = λ s x carries.
    let a : Applied (λ owned. entered s x g owned d (books_with t1 calls1)) g d gained lost (tally t1 calls1) v = f s x (subst (λ (b : Books). Carries s x b d g.carried) (sym books) carries) in
    record {
      calls = λ l. a.calls l ∙ ap (λ (c : List CallPackets). count_if (is_some (issues l d)) + length c) before;
      owned = a.owned;
      owns = λ y c h. a.owns y c (elim h [ inl none ↦ inl none | inr le ↦ inr (omega (arith, le, same.made)) ]) ∙ same.owns y c;
      exact = a.exact;
      objects = then_grown g.classes (makes d) t t1 v.tables (owned_same t t1 same) a.objects;
      counts = λ n places later low gs ls made counts both. a.counts n places later low gs ls (λ c y h. made c y (omega (arith, h, same.made))) (counts_same n places places t t1 counts same) both;
      books = λ n places later low gs ls made counts both. a.books n places later low gs ls (λ c y h. made c y (omega (arith, h, same.made))) (counts_same n places places t t1 counts same) both
          ∙ ap (λ (b : Books). ends n later (entered s x g a.owned d b)) books;
    }

pub applies_whole : (g : Around) (d : Deed) (t t1 t2 t3 t4 t5 : Tables) (calls calls1 calls2 calls5 : List CallPackets) (xs ys brought gains losses gained lost : List Move)
    → SamePlaces t t1 → books_of t1 ≡ books_of t → calls1 ≡ calls → xs ≡ []
    → Gives g d (tally t1 calls1) xs (tally t2 calls2) ys → brought ≡ ys → Exchanged brought gains t2 t3
    → Closes g d (tally t3 calls2) (tally t4 calls2) → calls5 ≡ calls2 → AsOwned t4 t5
    → ((n : ℕ) (later : ℕ → ℕ → ℕ) → AllBelow n losses → Counts n (plus later losses) t4 → Ended n later t4 t5)
    → movings_of gained ≡ movings_of gains → movings_of lost ≡ movings_of losses
    → Applies g d gained lost (tally t calls) (tally t5 calls5)
applies_whole g d t t1 t2 t3 t4 t5 calls calls1 calls2 calls5 xs ys brought gains losses gained lost same books before none gives value exchanged closes after last ends-all eg el =
    let gs : gains ≡ gained = sym (same_moves gained gains eg) in
    let ls : losses ≡ lost = sym (same_moves lost losses el) in
    applies_before g d gained lost t t1 calls calls1 (tally t5 calls5) same before
    (ap (λ (b : Books). with_calls b (arguments_in calls1) (result_in calls1)) books ∙ ap (λ (c : List CallPackets). books_with t c) before)
    (λ s x carries.
    subst (λ (c : List CallPackets). Applied (λ owned. entered s x g owned d (books_with t1 calls1)) g d gained lost (tally t1 calls1) (tally t5 c)) (sym after)
    (applied s x g d t1 t2 t3 t4 t5 calls1 calls2 brought gained lost
    (given-here s x carries)
    (subst (λ (l : List Move). Exchanged brought l t2 t3) gs exchanged)
    (λ owned. closes s x owned) last
    (subst (λ (l : List Move). (n : ℕ) (later : ℕ → ℕ → ℕ) → AllBelow n l → Counts n (plus later l) t4 → Ended n later t4 t5) ls ends-all)))
  where
    given-here : Gives g d (tally t1 calls1) [] (tally t2 calls2) brought
    given-here = subst (λ (l : List Move). Gives g d (tally t1 calls1) l (tally t2 calls2) brought) none (subst (λ (l : List Move). Gives g d (tally t1 calls1) xs (tally t2 calls2) l) (sym value) gives)
