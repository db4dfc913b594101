use Rattle.std.proofs.Common.{rules, ap, ◌∙◌}
use Rattle.com_turnstile.proofs.Steps.{serves}
use Rattle.com_turnstile.proofs.turnstile.Turnstile.await_turn.Goals as goal

pub load-requires : goal.load-requires
load-requires g c = let same = c.loop.invariant in
    (search rules, search rules, serves _ _ _ _ _ _ _ (ap (λ m. m.0.ticket) same.3 ∙ c.requires.drawn) (ap (λ m. m.0.turn) same.3 ∙ c.requires.outside))
