use Rattle.std.proofs.Common.{◌∙◌, sym}
use Rattle.com_refs.proofs.Finding.{proxy_live, proxy_dead}
use Rattle.com_refs.proofs.Refs.public.Goals as goal

pub returns-then-not-is_connected : goal.returns-then-not-is_connected
returns-then-not-is_connected c =
    rw (← c.self.view_is) (sym (proxy_dead c.self.inside.holders c.args.apartment c.args.object c.args.iface (sym c.is_connected.ensures ∙ c.if-not-is_connected.true)))

pub returns : goal.returns
returns c =
    rw (← c.self.view_is) (c.public.ensures ∙ sym (proxy_live c.self.inside.holders c.args.apartment c.args.object c.args.iface (sym c.is_connected.ensures ∙ c.if-not-is_connected.false)))
