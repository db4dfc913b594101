use Rattle.std.proofs.Common.{◌≡◌, ◌∙◌, sym, ap, Bool, false, cond}
use Rattle.std.specs.Prelude.{Some}
use Rattle.com_slots.specs.Table.{held_in}
use Rattle.com_stub.specs.StubRows.{is_connected}
use Rattle.com_refs_holders.specs.Tables.{cookie_read}
use Rattle.com_refs.proofs.Finding.{cookie_is, no_cookie_is}
use Rattle.com_refs.proofs.Refs.cookie_row.Goals as goal

pub returns-in_default : goal.returns-in_default
returns-in_default c = rw (← c.self.view_is) (no_cookie_is c.self.inside.holders c.args.number (sym c.cookie.ensures ∙ c.in_default.is))

pub returns : goal.returns
returns c =
    let t = c.self.inside.holders in
    let r = c.in-Some.held in
    let held : held_in t.cookies c.args.number ≡ Some r = sym c.cookie.ensures ∙ c.in-Some.is in
    let row : c.cookie_row.result ≡ cookie_read (is_connected t.stubs) (Some r) = c.cookie_row.ensures ∙ ap (λ (b : Bool). record { is_revoked = false; object = r.object; iface = r.iface; refs = cond b 1 0 }) c.is_connected.ensures in
    rw (← c.self.view_is) (row ∙ ap (λ x. cookie_read (is_connected t.stubs) x) (sym held) ∙ cookie_is t c.args.number)
