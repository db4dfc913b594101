-- One interface's references given back, on the way of all.
use Rattle.std.proofs.Common.{◌≡◌, ℕ, Bool, true, false, ◌+◌, ◌-◌, ◌<◌, ◌≤◌, List, [], ◌∷◌, refl, ap, ◌∙◌, arith, eqb, cond, ◌&&◌}
use Rattle.std.proofs.lemmas.Grind.{common_steps}
use Rattle.com_proxy.specs.declared.ProxyRow.{ProxyRow}
use Rattle.com_proxy.specs.Rows.{public_of, local_of, changed_row, no_public, one_local_less}
use Rattle.com_proxy.proofs.Rows.{row_changed}
use Rattle.com_stub.specs.declared.counters.CounterRow.{CounterRow}
use Rattle.com_stub.specs.CounterRows.{has_counter, counter_of, changed_counter, less}
use Rattle.com_stub.proofs.CounterLemmas.{counter_changed}
use Rattle.com_refs_books.specs.Counting.{count_if}
use Rattle.com_refs_holders.proofs.Counters.{has_less, sum_less}
use Rattle.com_refs_holders.proofs.Rowed.{keeps_none, keeps_less, has_same, distinct_changed, local_has, public_has, places_given, places_less}
use Rattle.com_refs_holders.proofs.Counting.{locals_less, locals_given}
use Rattle.com_refs_holders.specs.Stands.{Gave, Released, Giving, publics}

pub counter_some : (cs : List CounterRow) (o i : ℕ) → 0 < (counter_of cs o i).count → has_counter cs o i ≡ true
counter_some [] o i h = absurd (omega arith)
counter_some (c ∷ cs) o i h = grind (arith, common_steps, counter_some cs o i, h)

pub publics_less : (rs : List ProxyRow) (a o i : ℕ) → 0 < public_of rs a o i → publics a o (changed_row no_public a o i rs) + public_of rs a o i ≡ publics a o rs
publics_less [] a o i h = absurd (omega arith)
publics_less (r ∷ rs) a o i h = grind (arith, common_steps, publics_less rs a o i, h)

module _ (a o : ℕ) (before : List ProxyRow) (counted : List CounterRow) where
  pub giving_begins : ((j : ℕ) → public_of before a o j ≤ (counter_of counted o j).count) → Giving a o before counted before counted
  giving_begins w = record { rows = λ c x j. refl; apart = λ d. d; has = λ x j. refl; sums = λ x. omega arith; places = λ c x. refl; local = λ c x j. refl; locals = λ x. refl; public = λ c x j e. refl; balance = λ j. refl; within = w; count = λ x j e. refl }

  pub giving_goes_on : (rs : List ProxyRow) (cs : List CounterRow) (i : ℕ) → 0 < public_of rs a o i → Giving a o before counted rs cs
      → Giving a o before counted (changed_row no_public a o i rs) (changed_counter (less (public_of rs a o i)) o i cs)
  giving_goes_on rs cs i h g =
      let row = λ (c x j : ℕ). row_changed rs no_public a o i c x j (λ r. refl) (λ r. refl) (λ r. refl) in
      let has : has_counter cs o i ≡ true = counter_some cs o i (omega (arith, h, g.within i)) in
      let counter = λ (x j : ℕ). counter_changed cs (less (public_of rs a o i)) o i x j (λ r. refl) (λ r. refl) has in
      record {
        rows = λ c x j. has_same no_public keeps_none a o i rs (public_has rs a o i h) c x j ∙ g.rows c x j;
        apart = λ d. distinct_changed no_public keeps_none a o i rs (g.apart d);
        has = λ x j. has_less cs o i (public_of rs a o i) x j ∙ g.has x j;
        sums = λ x. omega (arith, sum_less cs o i (public_of rs a o i) x, g.sums x);
        places = λ c x. places_given rs a o i c x ∙ g.places c x;
        local = λ c x j. grind (arith, common_steps, row c x j, g.local c x j);
        locals = λ x. locals_given rs a o i x ∙ g.locals x;
        public = λ c x j e. grind (arith, common_steps, row c x j, g.public c x j e, e);
        balance = λ j. grind (arith, common_steps, row a o j, counter o j, g.balance j, g.within j, g.within i);
        within = λ j. grind (arith, common_steps, row a o j, counter o j, g.within j);
        count = λ x j e. grind (arith, common_steps, counter x j, g.count x j e, e);
      }

  pub giving_ends : (rs : List ProxyRow) (cs : List CounterRow) → ((j : ℕ) → public_of rs a o j ≡ 0) → Giving a o before counted rs cs → Gave a o true before counted rs cs
  giving_ends rs cs none g = record {
    rows = g.rows;
    apart = g.apart;
    has = g.has;
    sums = g.sums;
    places = g.places;
    local = g.local;
    locals = g.locals;
    public = λ c x j. elim (eqb c a && eqb x o) as (λ t. eqb c a && eqb x o ≡ t → public_of rs c x j ≡ cond (t && true) 0 (public_of before c x j)) [
      | true ↦ λ e. grind (arith, common_steps, none j, e)
      | false ↦ λ e. g.public c x j e
    ] refl;
    count = λ x j. elim (eqb x o) as (λ t. eqb x o ≡ t → (counter_of cs x j).count ≡ (counter_of counted x j).count - cond (t && true) (public_of before a o j) 0) [
      | true ↦ λ e. grind (arith, common_steps, none j, g.balance j, e)
      | false ↦ λ e. omega (arith, g.count x j e)
    ] refl;
  }

  pub gone : (gave : Bool) (i : ℕ) (rs : List ProxyRow) (cs : List CounterRow) → 0 < local_of before a o i → Gave a o gave (changed_row one_local_less a o i before) counted rs cs → Released a o i gave before counted rs cs
  gone gave i rs cs h g =
      let row = λ (c x j : ℕ). row_changed before one_local_less a o i c x j (λ r. refl) (λ r. refl) (λ r. refl) in
      record {
        rows = λ c x j. g.rows c x j ∙ has_same one_local_less keeps_less a o i before (local_has before a o i h) c x j;
        apart = λ d. g.apart (distinct_changed one_local_less keeps_less a o i before d);
        has = g.has;
        sums = g.sums;
        places = λ c x. ap (λ (n : ℕ). n + count_if (eqb c a && eqb x o)) (g.places c x) ∙ places_less before a o i c x h;
        local = λ c x j. grind (arith, common_steps, row c x j, g.local c x j);
        locals = λ x. ap (λ (n : ℕ). n + count_if (eqb x o)) (g.locals x) ∙ locals_less before a o i x h;
        public = λ c x j. g.public c x j ∙ grind (arith, common_steps, row c x j);
        count = λ x j. g.count x j ∙ grind (arith, common_steps, row a o j);
      }

  pub only_less : (i : ℕ) → 0 < local_of before a o i → Released a o i false before counted (changed_row one_local_less a o i before) counted
  only_less i h = gone false i _ counted h (record { rows = λ c x j. refl; apart = λ d. d; has = λ x j. refl; sums = λ x. omega arith; places = λ c x. refl; local = λ c x j. refl; locals = λ x. refl; public = λ c x j. grind (arith, common_steps); count = λ x j. grind (arith, common_steps) })

pub same_public : (rs : List ProxyRow) (a o i c x j : ℕ) → public_of (changed_row one_local_less a o i rs) c x j ≡ public_of rs c x j
same_public rs a o i c x j = grind (arith, common_steps, row_changed rs one_local_less a o i c x j (λ r. refl) (λ r. refl) (λ r. refl))
