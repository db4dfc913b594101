use Rattle.std.proofs.Common.{◌≡◌, ◌++◌, ◌∷◌, [], true, false, subst, sym}
use Rattle.com_stub.specs.StubRows.{has_stub}
use Rattle.com_stub.proofs.StubLemmas.{stub_table_push}
use Rattle.com_stub.proofs.Stubs.enroll.Goals as goal

pub invariant_of-self-2 : goal.invariant_of-self-2
invariant_of-self-2 c =
    let stubs = c.self.inside.stubs in
    let keys : c.append.new.self.keys ≡ c.self.inside.chains.keys ++ c.args.object ∷ [] = cc in
    let new : has_stub stubs.items c.args.object ≡ false = subst (λ t. has_stub t.stubs c.args.object ≡ false) (sym c.self.view_is) c.requires.new in
    rw (c.push_reserved.ensures.items, c.reserve-3.ensures.items) (stub_table_push stubs.items c.self.inside.chains c.append.new.self (record { object = c.args.object; is_connected = true }) c.self.invariant keys new)
