use Rattle.std.proofs.Common.{◌≡◌, refl, arith, take, drop, length, ◌++◌}
use Rattle.std.proofs.lemmas.Grind.{common_steps}
use Rattle.com_refs_holders.specs.Tables.{direct_less}
use Rattle.com_refs_holders.proofs.Keeps.{direct_stands, direct_given, direct_books, less_length, less_owners, less_places}
use Rattle.com_refs_holders.proofs.Wholes.{whole_by}
use Rattle.com_refs_holders.proofs.Holders.leave_direct.Goals as goal

pub lose_direct-requires : goal.lose_direct-requires
lose_direct-requires c = rw c.deref_mut.ensures.value (record { some = rw (← c.self.view_is) at c.requires.some })

pub invariant_of-self : goal.invariant_of-self
invariant_of-self c =
    let objects : take c.self.inside.objects.len (c.lose_direct.new.objects ++ drop (length c.lose_direct.new.objects) c.self.inside.objects.items) ≡ direct_less c.args.object c.self.inside.objects.items = grind (arith, common_steps, less_length) in
    whole_by _ _ _ _ _ _ _ _ _ _ _ _ _ 0 c.self.invariant (rw objects (less_owners c.self.inside.objects.items c.args.object)) (omega arith) (omega arith) (omega arith) (omega arith) (omega arith) (omega arith)
    (direct_stands _ _ c.args.object c.self.invariant.stands objects refl refl refl refl refl refl)

pub returns-clause-books : goal.returns-clause-books
returns-clause-books c = rw (← c.self.view_is) (direct_books _ _ refl refl refl refl refl)

pub returns-clause-places : goal.returns-clause-places
returns-clause-places c =
    let some = rw (← c.self.view_is) at c.requires.some in
    let objects : take c.self.inside.objects.len (c.lose_direct.new.objects ++ drop (length c.lose_direct.new.objects) c.self.inside.objects.items) ≡ direct_less c.args.object c.self.inside.objects.items = grind (arith, common_steps, less_length) in
    λ a. rw (← c.self.view_is) (less_places _ _ a c.args.object some objects refl)

pub returns-clause-given : goal.returns-clause-given
returns-clause-given c =
    let objects : take c.self.inside.objects.len (c.lose_direct.new.objects ++ drop (length c.lose_direct.new.objects) c.self.inside.objects.items) ≡ direct_less c.args.object c.self.inside.objects.items = grind (arith, common_steps, less_length) in
    λ n a places h own tells. rw (← c.self.view_is) (direct_given _ _ a c.args.object c.self.invariant.stands objects (rw (← c.self.view_is) at own) refl (direct_books _ _ refl refl refl refl refl) n places h tells)
