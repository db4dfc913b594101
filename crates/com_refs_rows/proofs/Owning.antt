-- Who owns objects, from step to step of an entry.
use Rattle.std.proofs.Common.{◌≡◌, ℕ, Bool, eqb, cond, ◌||◌, ◌+◌, length, sym, ap, ◌∙◌, arith}
use Rattle.std.proofs.lemmas.Grind.{common_steps}
use Rattle.std.specs.Prelude.{Option, Some, None}
use Rattle.com_classes.specs.Lookups.{class_at}
use Rattle.com_classes.specs.Tables.{Tables as ClassTables}
use Rattle.com_refs_holders.specs.Places.{SamePlaces}
use Rattle.com_refs_holders.specs.Tables.{Tables, owns_of}
use Rattle.com_model.specs.declared.keeps.Making.{Making}
use Rattle.com_model.specs.Objects.{one_more}
use Rattle.com_model.specs.Tables.{has_agile_model}
use Rattle.com_refs_rows.specs.Owners.{AsOwned, Grown, owns_by}

pub owned_then : (t v u : Tables) → AsOwned t v → AsOwned v u → AsOwned t u
owned_then t v u p q = (q.0 ∙ p.0, λ x c. q.1 x c ∙ p.1 x c)

pub owned_same : (t u : Tables) → SamePlaces t u → AsOwned t u
owned_same t u same = (same.made, same.owns)

pub grown_then : (classes : ClassTables) (m : Option Making) (t v u : Tables) → Grown classes m t v → AsOwned v u → Grown classes m t u
grown_then classes m t v u g p = record { number = p.0 ∙ g.number; owns = λ x c. p.1 x c ∙ g.owns x c }

pub then_grown : (classes : ClassTables) (m : Option Making) (t v u : Tables) → AsOwned t v → Grown classes m v u → Grown classes m t u
then_grown classes m t v u p g = record {
  number = g.number ∙ ap (one_more m) p.0;
  owns = λ x c. g.owns x c ∙ ap (owns_by classes m x c) (p.1 x c);
}

-- An entry that makes no object.
pub grown_none : (classes : ClassTables) (m : Option Making) (t u : Tables) → m ≡ None → AsOwned t u → Grown classes m t u
grown_none classes m t u none p = record {
  number = p.0 ∙ sym (ap (λ (y : Option Making). one_more y (length t.objects)) none);
  owns = λ x c. p.1 x c ∙ sym (ap (λ (y : Option Making). owns_by classes y x c (owns_of t.objects x c)) none);
}

turned : (a b : ℕ) → eqb a b ≡ eqb b a
turned a b = grind (arith, common_steps)

-- An object that is made.
pub grown_one : (classes : ClassTables) (m : Making) (t u : Tables) (agile : Bool) → agile ≡ has_agile_model (class_at classes m.class)
    → length u.objects ≡ length t.objects + 1 → ((x c : ℕ) → owns_of u.objects x c ≡ cond (eqb x m.object) (agile || eqb m.apartment c) (owns_of t.objects x c)) → Grown classes (Some m) t u
grown_one classes m t u agile is more owns = record {
  number = more;
  owns = λ x c. owns x c ∙ (λ i. cond (turned x m.object i) (is i || turned m.apartment c i) (owns_of t.objects x c));
}
