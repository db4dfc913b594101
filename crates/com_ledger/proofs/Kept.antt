-- What is left of the objects that lost their last holder.
use Rattle.std.proofs.Common.{◌≡◌, ℕ, true, ◌<◌, ◌≤◌, List, [], length, ap, arith}
use Rattle.std.specs.Prelude.{Option, Some, None}
use Rattle.com_refs_holders.specs.Tables.{Tables, books_of}
use Rattle.com_model.specs.declared.deeds.Deed.{Deed}
use Rattle.com_model.specs.declared.keeps.Making.{Making}
use Rattle.com_model.specs.Lists.{is_member}
use Rattle.com_model.specs.Objects.{makes, one_more}
use Rattle.com_reference_moves.specs.declared.moves.Move.{Move}
use Rattle.com_refs.specs.Counts.{holders_of}
use Rattle.com_refs_rows.specs.Entries.{Applies, Around, Loses, Tally}
use Rattle.com_refs_rows.specs.Moving.{Touches}
use Rattle.com_ledger.specs.Ties.{Notes, NotesLost}

pub same_holders : (t u : Tables) (s o : ℕ) → u ≡ record t { spare = s } → holders_of u o ≡ holders_of t o
unfolding books_of
same_holders t u s o e = ap (λ (v : Tables). holders_of v o) e

below-more : (m : Option Making) (n k : ℕ) → k ≡ one_more m n → n ≤ k
below-more None n k e = omega (arith, e)
below-more (Some m) n k e = omega (arith, e)

touches-noted : (t u : Tables) (xs ys : List ℕ) → ((o : ℕ) → 1 ≤ o → 0 < holders_of t o → is_member o xs ≡ true → is_member o ys ≡ true) → Touches t u [] xs → Notes t u ys
touches-noted t u xs ys kept p = record { all = λ o low some none. kept o low some (p.all o some none) }

pub loses_kept : (g : Around) (d : Deed) (gained lost : List Move) (w v : Tally) (xs ys : List ℕ) → Applies g d gained lost w v
    → ((o : ℕ) → 0 < holders_of w.tables o → o ≤ length w.tables.objects)
    → ((o : ℕ) → 0 < o → o ≤ length v.tables.objects → is_member o xs ≡ true → is_member o ys ≡ true)
    → Loses g d gained lost w v xs → NotesLost g d gained lost w v ys
loses_kept g d gained lost w v xs ys applies made kept loses = λ s x carries n places later low gs ls are counts both.
    let more : length w.tables.objects ≤ length v.tables.objects = below-more (makes d) (length w.tables.objects) (length v.tables.objects) (applies s x carries).objects.number in
    touches-noted w.tables v.tables xs ys
    (λ o one some m. kept o (omega (arith, one)) (omega (arith, made o some, more)) m)
    (loses s x carries n places later low gs ls are counts both)

-- Each object with a holder was made.
pub held_made : (t u : Tables) (s : ℕ) → u ≡ record t { spare = s } → ((o : ℕ) → 0 < holders_of u o → o ≤ length u.objects)
    → (o : ℕ) → 0 < holders_of t o → o ≤ length t.objects
held_made t u s e high o h =
    let same : holders_of u o ≡ holders_of t o = same_holders t u s o e in
    let many : length u.objects ≡ length t.objects = ap (λ (v : Tables). length v.objects) e in
    omega (arith, many, high o (omega (arith, same, h)))
