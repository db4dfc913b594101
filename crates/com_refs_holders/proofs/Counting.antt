-- How the number of an object's places elsewhere changes.
use Rattle.std.proofs.Common.{◌≡◌, ℕ, eqb, ◌+◌, ◌<◌, List, [], ◌∷◌, arith}
use Rattle.std.proofs.lemmas.Grind.{common_steps}
use Rattle.com_proxy.specs.declared.ProxyRow.{ProxyRow}
use Rattle.com_proxy.specs.Rows.{local_of, changed_row, one_local_less, no_public, halved}
use Rattle.com_refs_books.specs.Counting.{count_if}
use Rattle.com_refs_holders.specs.Places.{locals_of}

pub locals_less : (rs : List ProxyRow) (a o i x : ℕ) → 0 < local_of rs a o i → locals_of x (changed_row one_local_less a o i rs) + count_if (eqb x o) ≡ locals_of x rs
locals_less [] a o i x h = absurd (omega arith)
locals_less (r ∷ rs) a o i x h = grind (arith, common_steps, locals_less rs a o i x, h)

pub locals_given : (rs : List ProxyRow) (a o i x : ℕ) → locals_of x (changed_row no_public a o i rs) ≡ locals_of x rs
locals_given [] a o i x = grind (arith, common_steps)
locals_given (r ∷ rs) a o i x = grind (arith, common_steps, locals_given rs a o i x)

pub locals_split : (rs : List ProxyRow) (a o i x : ℕ) → locals_of x (changed_row halved a o i rs) ≡ locals_of x rs
locals_split [] a o i x = grind (arith, common_steps)
locals_split (r ∷ rs) a o i x = grind (arith, common_steps, locals_split rs a o i x)
