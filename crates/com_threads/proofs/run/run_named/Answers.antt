use Rattle.std.proofs.Common.{rules, ◌≡◌, ◌≤◌, arith, ap, ◌∙◌, refl, length}
use Rattle.std.specs.Prelude.{slice_get}
use Rattle.com_runtime.proofs.Limits.{mapped}
use Rattle.com_model.specs.Tables.{lanes}
use Rattle.com_servant.specs.Rows.{row}
use Rattle.com_threads.proofs.Added.{first_told}
use Rattle.com_threads.proofs.Dealt.{all_at}
use Rattle.com_turnstile.proofs.Lists.{slice_get_longer, slice_get_last}
use Rattle.com_turnstile.specs.Passes.{IsPassOf, lane_of}
use Rattle.com_threads.proofs.run.run_named.Goals as goal

pub new-requires-2 : goal.new-requires-2
new-requires-2 g c =
    first_told c.args.scenario.now g.J.Plays.scenario _ _ _ c.lanes-count.result c.requires.named c.requires.formed c.requires.scenario c.requires.first c.lanes-count.ensures c.in_ok-pages.ensures

pub deal-requires-clause-new : goal.deal-requires-clause-new
deal-requires-clause-new g c = λ i p at.
    let new = c.in_ok-turnstile.ensures.passes i p (ap (λ l. slice_get l i) c.in-Some.ensures.items ∙ slice_get_longer c.pop.new.self.items _ i p at) in
    (new.pass, new.lane)

pub in_threads-requires-after_bounds : goal.in_threads-requires-after_bounds
in_threads-requires-after_bounds g c κs within = λ i x less is. (
  all_at (λ w. IsPassOf c.in_ok-turnstile.turnstile w.pass × (lane_of w.pass ≡ w.lane)) c.in_ok-workers.workers.items i x c.in_ok-workers.ensures.passes less is,
  (
    c.requires.named,
    (
      all_at (λ w. (1 ≤ w.lane) × (w.lane ≤ lanes c.args.scenario.now)) c.in_ok-workers.workers.items i x c.in_ok-workers.ensures.lanes less is,
      all_at (λ w. mapped w.servants.items (λ b. (goal.Servant-dyn g (b.vtable, b.value)).kind_of b.value) ≡ row) c.in_ok-workers.workers.items i x c.in_ok-workers.ensures.servants less is,
    ),
  ),
)

pub enter-value-requires : goal.enter-value-requires
enter-value-requires g c =
    (c.in_ok-turnstile.ensures.passes (length c.pop.new.self.items) c.in-Some.driver
    (ap (λ l. slice_get l (length c.pop.new.self.items)) c.in-Some.ensures.items ∙ slice_get_last c.pop.new.self.items c.in-Some.driver _ refl)).pass

pub drive-requires-clause-rows : goal.drive-requires-clause-rows
drive-requires-clause-rows g c = λ k d lt.
    let len = c.in_ok-rows.ensures.len in
    let gives = (c.in_ok-rows.ensures.each k d (omega (arith, len, lt))).1 in
    let met = gives.call.met in
    search rules
