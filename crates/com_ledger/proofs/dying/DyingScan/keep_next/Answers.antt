-- The one beside stands before the next that lost a holder.
use Rattle.std.proofs.Common.{◌++◌, ◌∷◌, ℕ, Bool, Option, filter, ap, sym, ◌∙◌}
use Rattle.com_refs.specs.Counts.{holders_of}
use Rattle.com_ledger.specs.Falling.{begins_by, placed_in}
use Rattle.com_ledger.proofs.Keeping.{keep_both}
use Rattle.com_ledger.proofs.dying.DyingScan.keep_next.Goals as goal

pub returns-then-number-object-clause-items : goal.returns-then-number-object-clause-items
returns-then-number-object-clause-items c =
    let test : ℕ → Bool = begins_by c.args.self.now.objects.now.tables (holders_of c.args.self.now.ledger.now.tables) c.args.self.now.entered.now.counts c.args.self.now.fallen.now.objects in
    λ rest.
    keep_both test c.args.fresh.now.items c.keep-then-number-object.new.fresh.items c.keep-then-number-object-2.new.fresh.items c.in-Some.number c.args.object rest c.if-number-object.true c.keep-then-number-object.ensures.items c.keep-then-number-object-2.ensures.items
    ∙ ap (λ (o : Option ℕ). c.args.fresh.now.items ++ filter test (placed_in o (c.args.object ∷ rest))) (sym c.in-Some.is)
