use Rattle.std.proofs.Common.{rules, ap, sym, ◌∙◌, ◌∷◌, Some}
use Rattle.atomic_table.specs.Table.{rest}
use Rattle.com_turnstile.proofs.turnstile.Turnstile.enter.Goals as goal

pub exchange-requires : goal.exchange-requires
exchange-requires g c = let in_ = c.await_turn.ensures.entered in let has = ap (λ m. m.1) in_.now in
    (search rules, (Some in_.value, has ∙ ap (λ l. (0, Some in_.value) ∷ rest l) (sym has)))
