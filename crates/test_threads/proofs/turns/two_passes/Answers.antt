use Rattle.std.proofs.Common.{◌≡◌, arith, ap, ◌∙◌, length, ◌+◌, ◌∷◌, []}
use Rattle.std.specs.Prelude.{slice_get}
use Rattle.com_turnstile.proofs.Lists.{longer, slice_get_longer, slice_get_last}
use Rattle.test_threads.proofs.turns.two_passes.Goals as goal

pub returns-clause-first : goal.returns-clause-first
returns-clause-first c =
    let both = c.in-Some-Some.ensures.items in
    let one = c.in-Some-Some.ensures'.items in
    let made = c.in_ok-turnstile.ensures in
    let more : length c.in_ok-turnstile.passes.items ≡ length c.pop.new.self.items + 1 = longer _ _ _ both in
    let less : length c.pop.new.self.items ≡ length c.pop-2.new.self.items + 1 = longer _ _ _ one in
    let two : length c.in_ok-turnstile.passes.items ≡ 2 = omega (arith, made.count) in
    let at = ap (λ l. slice_get l 0) both ∙ slice_get_longer c.pop.new.self.items (c.in-Some-Some.second ∷ []) 0 c.in-Some-Some.first (ap (λ l. slice_get l 0) one ∙ slice_get_last c.pop-2.new.self.items c.in-Some-Some.first 0 (omega arith)) in
    let new = made.passes 0 c.in-Some-Some.first at in
    (new.pass, new.lane)

pub returns-clause-second : goal.returns-clause-second
returns-clause-second c =
    let both = c.in-Some-Some.ensures.items in
    let made = c.in_ok-turnstile.ensures in
    let more : length c.in_ok-turnstile.passes.items ≡ length c.pop.new.self.items + 1 = longer _ _ _ both in
    let two : length c.in_ok-turnstile.passes.items ≡ 2 = omega (arith, made.count) in
    let at = ap (λ l. slice_get l 1) both ∙ slice_get_last c.pop.new.self.items c.in-Some-Some.second 1 (omega arith) in
    let new = made.passes 1 c.in-Some-Some.second at in
    (new.pass, new.lane)
