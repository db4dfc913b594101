-- What a `&mut` into a `Slots` leaves behind it.
use Rattle.std.specs.Prelude.{ℕ, Option}
use Rattle.std.specs.Borrow.{LendsIf, Fml, RattleType, MutBor}
use Rattle.com_slots.specs.Table.{Table, with_value}
use Rattle.com_slots.specs.contracts.Slots.{the_row}

-- the table ends with the last value behind the result under that number, and as it was at `None`
abbrev pub lends_value : (T : RattleType) → MutBor (Table T.Denot) → ℕ → Option (MutBor T.Denot) → Fml
lends_value T slots number r =
    LendsIf (the_row T) T slots r (with_value slots.now number) slots.now
