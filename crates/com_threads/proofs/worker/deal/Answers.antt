use Rattle.std.proofs.Common.{◌≡◌, ◌+◌, ◌≤◌, ℕ, arith, ap, ◌∙◌, length}
use Rattle.std.proofs.lemmas.List.Elements.{All-same, All-push}
use Rattle.com_runtime.proofs.Limits.{mapped}
use Rattle.com_model.specs.Tables.{lanes}
use Rattle.com_servant.specs.Rows.{row}
use Rattle.com_threads.proofs.Dealt.{all_taken, length_taken, all_popped, one_less, each_before, last_of_each}
use Rattle.com_turnstile.specs.Passes.{IsPassOf, lane_of}
use Rattle.com_threads.proofs.worker.deal.Goals as goal

pub loop-pass-init : goal.loop-pass-init
loop-pass-init g c =
    let taken = c.truncate.ensures.items in
    let none = ap length c.in_ok-workers.ensures.items in
    let count = c.requires.count in
    record {
      passes = let n = c.requires.passes in omega (arith, n);
      crew = ap length taken ∙ length_taken c.args.count c.args.crew.items (let n = c.requires.rows in omega (arith, n));
      within = omega (arith, count);
      dealt = omega (arith, none);
      new = c.requires.new;
      rows = All-same (λ r. mapped r.items (λ b. (goal.Servant-dyn g (b.vtable, b.value)).kind_of b.value) ≡ row) _ _ taken
          (all_taken (λ r. mapped r.items (λ b. (goal.Servant-dyn g (b.vtable, b.value)).kind_of b.value) ≡ row) c.args.count c.args.crew.items c.requires.crew);
      own = λ k d lt. absurd (omega (arith, none, lt));
      lane_is = λ k d lt. absurd (omega (arith, none, lt));
      servants = λ k d lt. absurd (omega (arith, none, lt));
    }

pub loop-pass-preserved : goal.loop-pass-preserved
loop-pass-preserved g c =
    let inv = c.loop-pass.invariant in
    let pass = c.in-Some.ensures.items in
    let servants = c.in-Some-pop.ensures.items in
    let more = c.in_ok-push.ensures.items in
    let one = one_less _ _ _ pass in
    let two = one_less _ _ _ servants in
    let three = one_less _ _ _ more in
    let less = c.saturating_sub-lane.ensures in
    let passes = inv.passes in
    let within = inv.within in
    let mine = last_of_each (λ (i : ℕ) p. IsPassOf c.args.lock.now p × (lane_of p ≡ i + 1)) _ _ _ pass inv.new in
    let both = all_popped (λ r. mapped r.items (λ b. (goal.Servant-dyn g (b.vtable, b.value)).kind_of b.value) ≡ row) _ _ _ servants inv.rows in
    record {
      passes = omega (arith, one, less, passes);
      crew = let n = inv.crew in omega (arith, two, less, n);
      within = omega (arith, less, within);
      dealt = let n = inv.dealt in omega (arith, three, one, less, passes, n);
      new = each_before (λ (i : ℕ) p. IsPassOf c.args.lock.now p × (lane_of p ≡ i + 1)) _ _ _ pass inv.new;
      rows = both.0;
      own = All-same (λ w. IsPassOf c.args.lock.now w.pass × (lane_of w.pass ≡ w.lane)) _ _ more
          (All-push (λ w. IsPassOf c.args.lock.now w.pass × (lane_of w.pass ≡ w.lane)) _ _ inv.own (mine.0, mine.1 ∙ omega (arith, one, passes)));
      lane_is = All-same (λ w. (1 ≤ w.lane) × (w.lane ≤ lanes c.args.scenario.now)) _ _ more
          (All-push (λ w. (1 ≤ w.lane) × (w.lane ≤ lanes c.args.scenario.now)) _ _ inv.lane_is (omega (arith, one, passes), within));
      servants = All-same (λ w. mapped w.servants.items (λ b. (goal.Servant-dyn g (b.vtable, b.value)).kind_of b.value) ≡ row) _ _ more
          (All-push (λ w. mapped w.servants.items (λ b. (goal.Servant-dyn g (b.vtable, b.value)).kind_of b.value) ≡ row) _ _ inv.servants both.1);
    }
