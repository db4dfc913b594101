use Rattle.std.proofs.Common.{◌≡◌, refl, arith, take, drop, length, ◌++◌}
use Rattle.std.proofs.lemmas.Grind.{common_steps}
use Rattle.com_refs_holders.specs.Tables.{direct_more}
use Rattle.com_refs_holders.proofs.Issues.{more_length, more_owners, kept_books, kept_stands, kept_places}
use Rattle.com_refs_holders.proofs.Wholes.{whole_by}
use Rattle.com_refs_holders.proofs.Holders.keep_direct.Goals as goal

pub gain_direct-requires : goal.gain_direct-requires
gain_direct-requires c =
    let few = rw (← c.self.view_is) at c.requires.few in
    rw c.deref_mut.ensures.value (record { fits = omega (arith, few, c.self.invariant.stands.bounded.direct c.args.object) })

pub invariant_of-self : goal.invariant_of-self
invariant_of-self c =
    let made = rw (← c.self.view_is) at c.requires.made in
    let objects : take c.self.inside.objects.len (c.gain_direct.new.objects ++ drop (length c.gain_direct.new.objects) c.self.inside.objects.items) ≡ direct_more c.args.object c.self.inside.objects.items = grind (arith, common_steps, more_length) in
    whole_by _ _ _ _ _ _ _ _ _ _ _ _ _ 0 c.self.invariant (rw objects (more_owners c.self.inside.objects.items c.args.object)) (omega arith) (omega arith) (omega arith) (omega arith) (omega arith) (omega arith)
    (kept_stands _ _ c.args.object (record { objects = objects; stubs = refl; counters = refl; proxies = refl; packets = refl; cookies = refl; issued = refl }) made.0 made.1 c.self.invariant.stands)

pub returns-clause-books : goal.returns-clause-books
returns-clause-books c =
    let made = rw (← c.self.view_is) at c.requires.made in
    let objects : take c.self.inside.objects.len (c.gain_direct.new.objects ++ drop (length c.gain_direct.new.objects) c.self.inside.objects.items) ≡ direct_more c.args.object c.self.inside.objects.items = grind (arith, common_steps, more_length) in
    rw (← c.self.view_is) (kept_books _ _ c.args.object (record { objects = objects; stubs = refl; counters = refl; proxies = refl; packets = refl; cookies = refl; issued = refl }) made.0 made.1)

pub returns-clause-places : goal.returns-clause-places
returns-clause-places c =
    let made = rw (← c.self.view_is) at c.requires.made in
    let objects : take c.self.inside.objects.len (c.gain_direct.new.objects ++ drop (length c.gain_direct.new.objects) c.self.inside.objects.items) ≡ direct_more c.args.object c.self.inside.objects.items = grind (arith, common_steps, more_length) in
    λ a. rw (← c.self.view_is) (kept_places _ _ c.args.object (record { objects = objects; stubs = refl; counters = refl; proxies = refl; packets = refl; cookies = refl; issued = refl }) made.0 made.1 a)
