use Rattle.std.proofs.Common.{◌≡◌, ◌<◌, ◌^◌, ◌∙◌, sym, ap, arith, length, true, false, subst}
use Rattle.com_refs_holders.specs.Tables.{Tables, object_in}
use Rattle.com_refs.specs.Found.{IsFound}
use Rattle.com_refs.proofs.Finding.{finds, found_inside, found_number}
use Rattle.com_refs.proofs.Refs.find.Goals as goal

pub returns-in_default-clause-none : goal.returns-in_default-clause-none
returns-in_default-clause-none c = λ n f.
    let u = c.args.self.now in
    let many : c.packets-most.result ≡ length u.packets = c.packets-most.ensures ∙ ap (λ (v : Tables). length v.packets) c.self.view_is in
    let few : length u.packets < 2 ^ 32 = omega (arith, many, c.packets-most.type_inv) in
    absurd (omega (arith, many, c.in_default.ensures.none, found_inside u c.args.fields.now c.args.iface n f, found_number u c.args.fields.now c.args.iface n few f))

pub returns-then-not-is_named-clause-none : goal.returns-then-not-is_named-clause-none
returns-then-not-is_named-clause-none c = λ n f.
    let u = c.args.self.now in
    let fields = c.args.fields.now in
    let many : c.packets-most.result ≡ length u.packets = c.packets-most.ensures ∙ ap (λ (v : Tables). length v.packets) c.self.view_is in
    let few : length u.packets < 2 ^ 32 = omega (arith, many, c.packets-most.type_inv) in
    let same : n ≡ c.in-Some.number = sym (found_number u fields c.args.iface n few f) ∙ c.in-Some.ensures.some in
    let here : IsFound u fields c.args.iface c.in-Some.number = subst (λ k. IsFound u fields c.args.iface k) same f in
    let own : c.owner-owner.result ≡ (object_in u.objects c.packet_row-row.result.object).owner = c.owner-owner.ensures ∙ ap (λ (v : Tables). (object_in v.objects c.packet_row-row.result.object).owner) c.self.view_is in
    let yes : c.is_named.result ≡ true = c.is_named.ensures.1 (finds u fields c.args.iface c.in-Some.number c.packet_row-row.result c.owner-owner.result c.packet_row-row.ensures own here) in
    let no : true ≡ false = sym yes ∙ c.if-not-is_named.true in
    absurd (cc)

pub returns-clause-only : goal.returns-clause-only
returns-clause-only c = λ n f.
    let u = c.args.self.now in
    let many : c.packets-most.result ≡ length u.packets = c.packets-most.ensures ∙ ap (λ (v : Tables). length v.packets) c.self.view_is in
    let few : length u.packets < 2 ^ 32 = omega (arith, many, c.packets-most.type_inv) in
    sym (found_number u c.args.fields.now c.args.iface n few f) ∙ c.in-Some.ensures.some
