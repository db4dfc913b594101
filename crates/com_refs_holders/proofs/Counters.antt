-- Which counters there are, and the sum of an object's, after a change of one.
use Rattle.std.proofs.Common.{◌≡◌, ℕ, false, ◌+◌, ◌≤◌, List, [], ◌∷◌, refl, arith}
use Rattle.std.proofs.lemmas.Grind.{common_steps}
use Rattle.com_stub.specs.declared.counters.CounterRow.{CounterRow}
use Rattle.com_stub.specs.CounterRows.{has_counter, counter_of, changed_counter, more, less, sum_of}

pub has_more : (cs : List CounterRow) (o i n x j : ℕ) → has_counter (changed_counter (more n) o i cs) x j ≡ has_counter cs x j
has_more [] o i n x j = refl
has_more (c ∷ cs) o i n x j = grind (arith, common_steps, has_more cs o i n x j)

pub has_less : (cs : List CounterRow) (o i n x j : ℕ) → has_counter (changed_counter (less n) o i cs) x j ≡ has_counter cs x j
has_less [] o i n x j = refl
has_less (c ∷ cs) o i n x j = grind (arith, common_steps, has_less cs o i n x j)

pub sum_more : (cs : List CounterRow) (o i n x : ℕ) → sum_of (changed_counter (more n) o i cs) x ≤ sum_of cs x + n
sum_more [] o i n x = omega arith
sum_more (c ∷ cs) o i n x = grind (arith, common_steps, sum_more cs o i n x)

pub sum_less : (cs : List CounterRow) (o i n x : ℕ) → sum_of (changed_counter (less n) o i cs) x ≤ sum_of cs x
sum_less [] o i n x = omega arith
sum_less (c ∷ cs) o i n x = grind (arith, common_steps, sum_less cs o i n x)

pub count_le : (cs : List CounterRow) (o i : ℕ) → (counter_of cs o i).count ≤ sum_of cs o
count_le [] o i = omega arith
count_le (c ∷ cs) o i = grind (arith, common_steps, count_le cs o i)

pub no_counter_count : (cs : List CounterRow) (o i : ℕ) → has_counter cs o i ≡ false → (counter_of cs o i).count ≡ 0
no_counter_count [] o i h = refl
no_counter_count (c ∷ cs) o i h = grind (arith, common_steps, no_counter_count cs o i, h)
