use Rattle.std.proofs.Common.{◌≡◌, ◌≤◌, ℕ, eqb, true, nat_le, sym, subst, arith}
use Rattle.std.specs.Prelude.{Option}
use Rattle.std.proofs.lemmas.Bool.Decides.{nat_tests}
use Rattle.com_model.specs.declared.deeds.Deed.TheVariants as deed
use Rattle.com_state.specs.Parts.{ObjectTables, named_at}
use Rattle.com_refs_rows.specs.Books.{Cut, books_with}
use Rattle.com_refs_rows.specs.Entries.{Closed, entered, tally}
use Rattle.com_ledger.proofs.Closing.{closed_uninit}
use Rattle.com_ledger.proofs.ends.end_home.Goals as goal

is-sta : (a : ℕ) → 2 ≤ a → nat_le 2 a ≡ true
is-sta a h = grind (arith, nat_tests, h)

pub returns-clause-row : goal.returns-clause-row
returns-clause-row c =
    let t = c.args.refs.now in
    let u = c.end_apartment.new.refs in
    let a = c.in-Some.home in
    let zero-left : c.args.count ≡ 0 = omega arith in
    let sta : 2 ≤ a = omega arith in
    (λ s x g owned calls same.
    subst (λ (n : ℕ). Closed (entered s x g owned (deed.Uninit c.args.home n) (books_with t calls)) (tally t calls) (tally u calls)) (sym zero-left)
    (subst (λ (o : Option ℕ). Closed (entered s x g owned (deed.Uninit o 0) (books_with t calls)) (tally t calls) (tally u calls)) (sym c.in-Some.is)
    (closed_uninit s x g owned calls t u a (is-sta a sta) (subst (λ (os : ObjectTables). Cut (λ y. eqb (named_at os y) a) t u) (sym same) c.end_apartment.ensures.cut))))
