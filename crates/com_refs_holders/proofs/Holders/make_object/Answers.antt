use Rattle.std.proofs.Common.{◌≡◌, ℕ, ◌+◌, ◌-◌, ◌<◌, ◌≤◌, ◌++◌, ◌∷◌, [], true, List, length, take, drop, refl, ap, ◌∙◌, sym, subst, arith}
use Rattle.std.proofs.lemmas.Grind.{common_steps}
use Rattle.com_stub.specs.CounterRows.{has_counter}
use Rattle.com_stub.specs.StubRows.{is_connected}
use Rattle.com_refs_holders.specs.declared.TheConstants.{MOST_ISSUED}
use Rattle.com_refs_holders.specs.Makes.{MadeWithPlace}
use Rattle.com_refs_holders.specs.Stands.{IsHolders}
use Rattle.com_refs_holders.specs.Tables.{Tables, tables, owns_of}
use Rattle.com_refs_holders.specs.declared.ObjectRow.{ObjectRow}
use Rattle.com_refs_holders.proofs.Enrolls.{Enrolled, enrolled_books, enrolled_stands, enrolled_offers, enrolled_owners, enrolled_live, enrolled_has, enrolled_made}
use Rattle.com_refs_holders.proofs.Issues.{local_fits, public_fits}
use Rattle.com_refs_holders.proofs.Makes.{Placed, placed_length, placed_owners, placed_offers, placed_stands, placed_row, placed_places}
use Rattle.com_refs_holders.proofs.Holders.make_object.Goals as goal

pub give_first_place-requires-clause-connected : goal.give_first_place-requires-clause-connected
give_first_place-requires-clause-connected c =
    let t : Tables = tables c.self.inside.objects.items c.self.inside.stubs.stubs c.self.inside.stubs.counters c.self.inside.proxies.rows c.self.inside.packets.entries c.self.inside.cookies.entries c.self.inside.issued c.self.inside.room in
    let m : Tables = tables c.push_reserved.new.self.items c.enroll.new.stubs.stubs c.enroll.new.stubs.counters c.self.inside.proxies.rows c.self.inside.packets.entries c.self.inside.cookies.entries (c.self.inside.issued + 1) (c.self.inside.room - 1) in
    let o : ℕ = c.len.result + 1 in
    let number : o ≡ length c.self.inside.objects.items + 1 = grind (arith, common_steps, c.len.ensures) in
    let k : Enrolled t m o c.args.owner c.args.agile c.args.set.now = record { number = number; objects = c.push_reserved.ensures.items; stubs = c.enroll.ensures.stubs; counters = c.enroll.ensures.counters; proxies = refl; packets = refl; cookies = refl; issued = refl } in
    let live : is_connected m.stubs o ≡ true = enrolled_live t m o c.args.owner c.args.agile c.args.set.now k c.self.invariant.stands in
    live

pub give_first_place-requires-clause-known : goal.give_first_place-requires-clause-known
give_first_place-requires-clause-known c =
    let t : Tables = tables c.self.inside.objects.items c.self.inside.stubs.stubs c.self.inside.stubs.counters c.self.inside.proxies.rows c.self.inside.packets.entries c.self.inside.cookies.entries c.self.inside.issued c.self.inside.room in
    let m : Tables = tables c.push_reserved.new.self.items c.enroll.new.stubs.stubs c.enroll.new.stubs.counters c.self.inside.proxies.rows c.self.inside.packets.entries c.self.inside.cookies.entries (c.self.inside.issued + 1) (c.self.inside.room - 1) in
    let o : ℕ = c.len.result + 1 in
    let number : o ≡ length c.self.inside.objects.items + 1 = grind (arith, common_steps, c.len.ensures) in
    let k : Enrolled t m o c.args.owner c.args.agile c.args.set.now = record { number = number; objects = c.push_reserved.ensures.items; stubs = c.enroll.ensures.stubs; counters = c.enroll.ensures.counters; proxies = refl; packets = refl; cookies = refl; issued = refl } in
    enrolled_has t m o c.args.owner c.args.agile c.args.set.now k c.self.invariant.stands c.args.iface c.requires.within

pub give_first_place-requires-clause-local_fits : goal.give_first_place-requires-clause-local_fits
give_first_place-requires-clause-local_fits c =
    let t : Tables = tables c.self.inside.objects.items c.self.inside.stubs.stubs c.self.inside.stubs.counters c.self.inside.proxies.rows c.self.inside.packets.entries c.self.inside.cookies.entries c.self.inside.issued c.self.inside.room in
    let m : Tables = tables c.push_reserved.new.self.items c.enroll.new.stubs.stubs c.enroll.new.stubs.counters c.self.inside.proxies.rows c.self.inside.packets.entries c.self.inside.cookies.entries (c.self.inside.issued + 1) (c.self.inside.room - 1) in
    let o : ℕ = c.len.result + 1 in
    let number : o ≡ length c.self.inside.objects.items + 1 = grind (arith, common_steps, c.len.ensures) in
    let k : Enrolled t m o c.args.owner c.args.agile c.args.set.now = record { number = number; objects = c.push_reserved.ensures.items; stubs = c.enroll.ensures.stubs; counters = c.enroll.ensures.counters; proxies = refl; packets = refl; cookies = refl; issued = refl } in
    let stands : IsHolders m = enrolled_stands t m o c.args.owner c.args.agile c.args.set.now k c.self.invariant.stands in
    let few : c.self.inside.issued + 1 < MOST_ISSUED = rw (← c.self.view_is) at c.requires.few in
    local_fits m c.args.apartment o c.args.iface stands few

pub give_first_place-requires-clause-public_fits : goal.give_first_place-requires-clause-public_fits
give_first_place-requires-clause-public_fits c =
    let t : Tables = tables c.self.inside.objects.items c.self.inside.stubs.stubs c.self.inside.stubs.counters c.self.inside.proxies.rows c.self.inside.packets.entries c.self.inside.cookies.entries c.self.inside.issued c.self.inside.room in
    let m : Tables = tables c.push_reserved.new.self.items c.enroll.new.stubs.stubs c.enroll.new.stubs.counters c.self.inside.proxies.rows c.self.inside.packets.entries c.self.inside.cookies.entries (c.self.inside.issued + 1) (c.self.inside.room - 1) in
    let o : ℕ = c.len.result + 1 in
    let number : o ≡ length c.self.inside.objects.items + 1 = grind (arith, common_steps, c.len.ensures) in
    let k : Enrolled t m o c.args.owner c.args.agile c.args.set.now = record { number = number; objects = c.push_reserved.ensures.items; stubs = c.enroll.ensures.stubs; counters = c.enroll.ensures.counters; proxies = refl; packets = refl; cookies = refl; issued = refl } in
    let live : is_connected m.stubs o ≡ true = enrolled_live t m o c.args.owner c.args.agile c.args.set.now k c.self.invariant.stands in
    let stands : IsHolders m = enrolled_stands t m o c.args.owner c.args.agile c.args.set.now k c.self.invariant.stands in
    let few : c.self.inside.issued + 1 < MOST_ISSUED = rw (← c.self.view_is) at c.requires.few in
    omega (arith, few, public_fits m c.args.apartment o c.args.iface stands live)

pub give_first_place-requires-clause-sum_fits : goal.give_first_place-requires-clause-sum_fits
give_first_place-requires-clause-sum_fits c =
    let t : Tables = tables c.self.inside.objects.items c.self.inside.stubs.stubs c.self.inside.stubs.counters c.self.inside.proxies.rows c.self.inside.packets.entries c.self.inside.cookies.entries c.self.inside.issued c.self.inside.room in
    let m : Tables = tables c.push_reserved.new.self.items c.enroll.new.stubs.stubs c.enroll.new.stubs.counters c.self.inside.proxies.rows c.self.inside.packets.entries c.self.inside.cookies.entries (c.self.inside.issued + 1) (c.self.inside.room - 1) in
    let o : ℕ = c.len.result + 1 in
    let number : o ≡ length c.self.inside.objects.items + 1 = grind (arith, common_steps, c.len.ensures) in
    let k : Enrolled t m o c.args.owner c.args.agile c.args.set.now = record { number = number; objects = c.push_reserved.ensures.items; stubs = c.enroll.ensures.stubs; counters = c.enroll.ensures.counters; proxies = refl; packets = refl; cookies = refl; issued = refl } in
    let stands : IsHolders m = enrolled_stands t m o c.args.owner c.args.agile c.args.set.now k c.self.invariant.stands in
    let few : c.self.inside.issued + 1 < MOST_ISSUED = rw (← c.self.view_is) at c.requires.few in
    omega (arith, few, stands.bounded.sums o)

pub invariant_of-self : goal.invariant_of-self
invariant_of-self c =
    let t : Tables = tables c.self.inside.objects.items c.self.inside.stubs.stubs c.self.inside.stubs.counters c.self.inside.proxies.rows c.self.inside.packets.entries c.self.inside.cookies.entries c.self.inside.issued c.self.inside.room in
    let m : Tables = tables c.push_reserved.new.self.items c.enroll.new.stubs.stubs c.enroll.new.stubs.counters c.self.inside.proxies.rows c.self.inside.packets.entries c.self.inside.cookies.entries (c.self.inside.issued + 1) (c.self.inside.room - 1) in
    let o : ℕ = c.len.result + 1 in
    let number : o ≡ length c.self.inside.objects.items + 1 = grind (arith, common_steps, c.len.ensures) in
    let k : Enrolled t m o c.args.owner c.args.agile c.args.set.now = record { number = number; objects = c.push_reserved.ensures.items; stubs = c.enroll.ensures.stubs; counters = c.enroll.ensures.counters; proxies = refl; packets = refl; cookies = refl; issued = refl } in
    let live : is_connected m.stubs o ≡ true = enrolled_live t m o c.args.owner c.args.agile c.args.set.now k c.self.invariant.stands in
    let stands : IsHolders m = enrolled_stands t m o c.args.owner c.args.agile c.args.set.now k c.self.invariant.stands in
    let known : has_counter m.counters o c.args.iface ≡ true = enrolled_has t m o c.args.owner c.args.agile c.args.set.now k c.self.invariant.stands c.args.iface c.requires.within in
    let range : (0 < o) × (o ≤ length m.objects) = enrolled_made t m o c.args.owner c.args.agile c.args.set.now k c.self.invariant.stands in
    let is_now = rw c.deref_mut.ensures.value at c.give_first_place.ensures.objects in
    let rows_now = rw c.deref_mut.ensures.value at c.give_first_place.ensures.proxies in
    let counters_now = rw c.deref_mut.ensures.value at c.give_first_place.ensures.counters in
    let as_long : length c.give_first_place.new.objects ≡ length c.push_reserved.new.self.items = ap (λ (rows : List ObjectRow). length rows) is_now ∙ placed_length (owns_of m.objects o c.args.apartment) o m.objects in
    let objects : List ObjectRow = take c.push_reserved.new.self.len (c.give_first_place.new.objects ++ drop (length c.give_first_place.new.objects) c.push_reserved.new.self.items) in
    let whole : objects ≡ c.give_first_place.new.objects = grind (arith, common_steps, as_long) in
    let u : Tables = tables objects c.give_first_place.new.stubs.stubs c.give_first_place.new.stubs.counters c.give_first_place.new.proxies.rows c.self.inside.packets.entries c.self.inside.cookies.entries (c.self.inside.issued + 2) (c.self.inside.room - 1) in
    let p : Placed m u c.args.apartment o c.args.iface = record { objects = whole ∙ is_now; stubs = c.give_first_place.ensures.stubs; counters = counters_now; proxies = rows_now; packets = refl; cookies = refl; issued = omega arith } in
    let room = rw (← c.self.view_is) at c.requires.room in
    record {
      stands = placed_stands m u c.args.apartment o c.args.iface p live known range.0 range.1 stands;
      keyed = c.append.ensures.keys ∙ ap (λ (ks : List ℕ). ks ++ c.args.owner ∷ []) c.self.invariant.keyed
          ∙ sym (placed_owners m u c.args.apartment o c.args.iface p ∙ enrolled_owners t m o c.args.owner c.args.agile c.args.set.now k c.self.invariant.stands);
      object_room = omega (arith, c.self.invariant.object_room, c.push_reserved.ensures.capacity, c.push_reserved.ensures.len, room);
      owner_room = omega (arith, c.self.invariant.owner_room, c.append.ensures.spare, room);
      stub_room = omega (arith, c.self.invariant.stub_room, c.enroll.ensures.spare, c.give_first_place.ensures.stub_room, room);
      proxy_room = omega (arith, c.self.invariant.proxy_room, c.give_first_place.ensures.proxy_room, room);
      packet_room = omega (arith, c.self.invariant.packet_room);
      cookie_room = omega (arith, c.self.invariant.cookie_room);
    }

pub returns-clause-made : goal.returns-clause-made
returns-clause-made c =
    let t : Tables = tables c.self.inside.objects.items c.self.inside.stubs.stubs c.self.inside.stubs.counters c.self.inside.proxies.rows c.self.inside.packets.entries c.self.inside.cookies.entries c.self.inside.issued c.self.inside.room in
    let m : Tables = tables c.push_reserved.new.self.items c.enroll.new.stubs.stubs c.enroll.new.stubs.counters c.self.inside.proxies.rows c.self.inside.packets.entries c.self.inside.cookies.entries (c.self.inside.issued + 1) (c.self.inside.room - 1) in
    let o : ℕ = c.len.result + 1 in
    let number : o ≡ length c.self.inside.objects.items + 1 = grind (arith, common_steps, c.len.ensures) in
    let k : Enrolled t m o c.args.owner c.args.agile c.args.set.now = record { number = number; objects = c.push_reserved.ensures.items; stubs = c.enroll.ensures.stubs; counters = c.enroll.ensures.counters; proxies = refl; packets = refl; cookies = refl; issued = refl } in
    let live : is_connected m.stubs o ≡ true = enrolled_live t m o c.args.owner c.args.agile c.args.set.now k c.self.invariant.stands in
    let known : has_counter m.counters o c.args.iface ≡ true = enrolled_has t m o c.args.owner c.args.agile c.args.set.now k c.self.invariant.stands c.args.iface c.requires.within in
    let range : (0 < o) × (o ≤ length m.objects) = enrolled_made t m o c.args.owner c.args.agile c.args.set.now k c.self.invariant.stands in
    let is_now = rw c.deref_mut.ensures.value at c.give_first_place.ensures.objects in
    let rows_now = rw c.deref_mut.ensures.value at c.give_first_place.ensures.proxies in
    let counters_now = rw c.deref_mut.ensures.value at c.give_first_place.ensures.counters in
    let as_long : length c.give_first_place.new.objects ≡ length c.push_reserved.new.self.items = ap (λ (rows : List ObjectRow). length rows) is_now ∙ placed_length (owns_of m.objects o c.args.apartment) o m.objects in
    let objects : List ObjectRow = take c.push_reserved.new.self.len (c.give_first_place.new.objects ++ drop (length c.give_first_place.new.objects) c.push_reserved.new.self.items) in
    let whole : objects ≡ c.give_first_place.new.objects = grind (arith, common_steps, as_long) in
    let u : Tables = tables objects c.give_first_place.new.stubs.stubs c.give_first_place.new.stubs.counters c.give_first_place.new.proxies.rows c.self.inside.packets.entries c.self.inside.cookies.entries (c.self.inside.issued + 2) (c.self.inside.room - 1) in
    let p : Placed m u c.args.apartment o c.args.iface = record { objects = whole ∙ is_now; stubs = c.give_first_place.ensures.stubs; counters = counters_now; proxies = rows_now; packets = refl; cookies = refl; issued = omega arith } in
    let made : MadeWithPlace t u o c.args.owner c.args.agile c.args.set.now c.args.apartment c.args.iface =
    record {
      between = m;
      books = enrolled_books t m o c.args.owner c.args.agile c.args.set.now k c.self.invariant.stands;
      objects = c.push_reserved.ensures.items;
      proxies = refl;
      offered = enrolled_offers t m o c.args.owner c.args.agile c.args.set.now k c.self.invariant.stands;
      counted = refl;
      row = placed_row m u c.args.apartment o c.args.iface p live known range.0 range.1;
      places = placed_places m u c.args.apartment o c.args.iface p live known range.0 range.1;
      kept = placed_offers m u c.args.apartment o c.args.iface p;
      issued = omega arith;
    } in
    rw (← c.self.view_is) (subst (λ (n : ℕ). MadeWithPlace t u n c.args.owner c.args.agile c.args.set.now c.args.apartment c.args.iface) number made)
