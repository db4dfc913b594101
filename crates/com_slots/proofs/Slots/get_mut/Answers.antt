use borrow.Follows.Closed.{read_of}
use Rattle.std.proofs.Common.{◌≡◌, ℕ, ◌-◌, ◌≤◌, zero, suc, List, Option, None, MutBor, get_or, set, sym, ap, ◌∙◌, arith, vec_len, vec_capacity}
use Rattle.std.specs.Option.{ghost_name_of}
use Rattle.std.proofs.lemmas.List.{set-get_or, get_or_read}
use Rattle.com_slots.specs.Table.{Table, held_in}
use Rattle.com_slots.proofs.Slots.get_mut.Goals as goal

-- what a number from 1 on holds
held_in-at : {T : Type 0} (entries : List (Option T)) (number index : ℕ) → 1 ≤ number → index ≡ number - 1 → held_in entries number ≡ get_or entries index None
held_in-at entries zero index h e = absurd (omega arith)
held_in-at entries (suc n) index h e = let same : n ≡ index = omega arith in ap (λ k. get_or entries k None) same

-- what an index has, written back, changes nothing
set-read : {X : Type 0} (xs : List X) (i : ℕ) (x : X) → x ≡ get_or xs i x → set xs i x ≡ xs
set-read xs i x e = ap (λ y. set xs i y) e ∙ set-get_or xs i x

-- two loans agree that agree where nothing is lent
read_of-at : {D E : Type 0} (r : Option (MutBor E)) (F : E → D) {v w : D} → v ≡ w → read_of (ghost_name_of r) F v ≡ read_of (ghost_name_of r) F w
read_of-at r F e = ap (λ v. read_of (ghost_name_of r) F v) e

pub returns : goal.returns
returns g c =
    let given = c.in_ok-index.ensures in
    let table = c.self.inside in
    let found = c.in_ok-self-inside.ensures in
    let back = set-read table.entries.items c.in_ok-index.index c.in_ok-self-inside.field-0.now found.value in
    let item = get_or_read table.entries.items c.in_ok-index.index c.in_ok-self-inside.field-0.now (omega arith) found.value None in
    let as_table : List (Option g.row.T.Denot) → Table g.row.T.Denot = λ es. record { entries = es; limit = table.limit; spare = vec_capacity table.entries - vec_len table.entries } in
    rw (← c.self.view_is, given.1) (
      read_of-at _ _ (ap as_table (rw given.1 at back)),
      record { writes_back = tt; value = c.as_mut.ensures.value ∙ item ∙ sym (held_in-at table.entries.items c.args.number c.in_ok-index.index given.0 given.1) },
    )
