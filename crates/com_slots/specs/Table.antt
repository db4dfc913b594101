-- What a contract sees of a `Slots`.
use Rattle.std.specs.Prelude.{ℕ, ◌-◌, zero, suc, List, Option, None, Some, slice_index_or, slice_set, refl}
use Rattle.std.specs.Coded.{Coded, code_by, coded×, coded_ℕ, coded_list, coded_option}

-- the value, or nothing, of each number that was given, in order from the number 1; how many numbers
-- may be given; and how many inserts are sure to find memory
pub record Table (T : Type 0) : Type 0 where
  pub entries : List (Option T)
  pub limit : ℕ
  pub spare : ℕ

-- a table is stored as the tuple of its fields
abbrev pub table_code : {T : Type 0} → Coded T → Coded (Table T)
table_code {T} code =
    code_by
    (List (Option T) × (ℕ × ℕ))
    (coded× (coded_list (coded_option code)) (coded× coded_ℕ coded_ℕ))
    (λ t. (t.entries, (t.limit, t.spare)))
    (λ p. record { entries = p.0; limit = p.1.0; spare = p.1.1 })
    (λ _. refl)

module _ {T : Type 0} where
  -- the value that these entries hold under a number
  abbrev pub held_in : List (Option T) → ℕ → Option T
  held_in entries zero = None
  held_in entries (suc index) = slice_index_or entries index None

  -- the value that a number holds
  abbrev pub held : Table T → ℕ → Option T
  held t number = held_in t.entries number

  -- the entries once the number has this, or nothing; a number that was never given changes nothing
  abbrev pub with_entry : List (Option T) → ℕ → Option T → List (Option T)
  with_entry entries zero entry = entries
  with_entry entries (suc index) entry = slice_set entries index entry

  -- the table after a write through `get_mut(number)`, at a number from 1 on
  abbrev pub with_value : Table T → ℕ → T → Table T
  with_value t number value = record t { entries = slice_set t.entries (number - 1) (Some value) }
