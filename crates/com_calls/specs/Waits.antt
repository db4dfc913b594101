-- Until when calls wait.
use Rattle.std.specs.Prelude.{ℕ, Bool, false, nat_lt, min, length, filter_map, Option, Some, None, is_some}
use Rattle.com_model.specs.declared.keeps.Phase.{Phase}
use Rattle.com_model.specs.declared.keeps.Phase.TheVariants.{Unposted, Delayed}
use Rattle.com_model.specs.Lists.{from_one, where_true, least, one_to}
use Rattle.com_calls.specs.Kept.{Kept}

-- A call without answer may wait for a time later than the clock.
abbrev pub wait_until : (now : ℕ) → Phase → (answered : Bool) → Option ℕ
wait_until now (Delayed t) false = where_true (nat_lt now t) t
wait_until now _ _ = None

abbrev pub wait_of : Kept → (now call : ℕ) → Option ℕ
wait_of b now c =
    wait_until now (from_one b.tables.phases c Unposted) (is_some (from_one b.tables.endings c None))

-- The least of these times.
abbrev pub next_wait : Kept → (now : ℕ) → Option ℕ
next_wait b now = least (filter_map (wait_of b now) (one_to (length b.tables.issues)))

-- The lesser of two times.
abbrev pub sooner_of : Option ℕ → Option ℕ → Option ℕ
sooner_of a None = a
sooner_of None (Some t) = Some t
sooner_of (Some x) (Some t) = Some (min x t)
