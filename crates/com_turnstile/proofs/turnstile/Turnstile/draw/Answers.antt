use Rattle.std.proofs.Common.{rules, arith, ap, ◌∙◌}
use Rattle.com_turnstile.proofs.Steps.{draws}
use Rattle.com_turnstile.proofs.turnstile.Turnstile.draw.Goals as goal

pub compare_exchange-found-requires : goal.compare_exchange-found-requires
compare_exchange-found-requires g c = let same = c.loop.invariant in
    (search rules, search rules, draws _ _ _ _ _ _ _ (ap (λ m. m.0.ticket) same.3 ∙ c.requires.no_ticket) (ap (λ m. m.0.turn) same.3 ∙ c.requires.no_turn) (omega arith))
