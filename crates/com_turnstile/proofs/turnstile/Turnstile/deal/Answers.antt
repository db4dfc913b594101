use Rattle.std.proofs.Common.{sym, length, ◌≡◌, ℕ, ◌+◌, rules, arith, ap, subst, ◌∙◌, ⊎_elim}
use Rattle.std.specs.Prelude.{slice_get, Some}
use Rattle.com_turnstile.proofs.Steps.{splits}
use Rattle.com_turnstile.proofs.Lists.{slice_get_end, longer}
use Rattle.com_turnstile.specs.Passes.{IsNewPass}
use Rattle.com_turnstile.proofs.turnstile.Turnstile.deal.Goals as goal

pub split_seat-next-requires : goal.split_seat-next-requires
split_seat-next-requires g c = (search rules, search rules, splits _ _ _ _ _ c.loop.invariant.splits)

pub loop-preserved : goal.loop-preserved
loop-preserved g c = let inv = c.loop.invariant in let new = inv.new in let s = c.split_seat-next.ensures in let items = c.in_ok-push.ensures.items in
    let long = longer _ _ _ items in record {
      dealt = omega arith;
      splits = ap (λ m. m.0.splits) s.4;
      new = record {
        idle = record { table = s.3 ∙ new.idle.table; no_slot = ap (λ m. m.1) s.4; no_ticket = ap (λ m. m.0.ticket) s.4; no_turn = ap (λ m. m.0.turn) s.4 };
        number = ap (λ m. m.0.number) s.4 ∙ ap (λ (k : ℕ). k + 1) new.number;
        opening_kept = ap (λ m. m.0.opening) s.4 ∙ new.opening_kept;
        seen = ap (λ m. m.0.seen) s.4 ∙ new.opening_kept;
        none_made = ap (λ m. m.0.mine) s.4;
      };
      passes_new = λ i p h. ⊎_elim (λ t. inv.passes_new i p t.1)
          (λ t. let k : c.loop.counter ≡ i + 1 = (let l = inv.dealt in let j = t.0 in omega arith) in
          subst (λ q. IsNewPass c.args.self.now c.args.seat.me.0.opening (i + 1) q) t.1 record {
            pass = record {
              idle = record {
                table = s.0 ∙ new.idle.table;
                no_slot = ap (λ m. m.1) s.2 ∙ new.idle.no_slot;
                no_ticket = ap (λ m. m.0.ticket) s.2 ∙ new.idle.no_ticket;
                no_turn = ap (λ m. m.0.turn) s.2 ∙ new.idle.no_turn;
              };
              counted = c.requires.count ∙ ap length (sym (ap (λ m. m.0.seen) s.2 ∙ new.seen));
            };
            lane = ap (λ m. m.0.number) s.2 ∙ (new.number ∙ k);
            opening_kept = ap (λ m. m.0.opening) s.2 ∙ new.opening_kept;
            seen = ap (λ m. m.0.seen) s.2 ∙ new.seen;
            none_made = ap (λ m. m.0.mine) s.2 ∙ new.none_made;
          })
          (slice_get_end _ _ p i (subst (λ l. slice_get l i ≡ Some p) items h));
    }

pub returns-clause-passes : goal.returns-clause-passes
returns-clause-passes g c i p h = let inv = c.loop.invariant in let new = inv.new in let items = c.in_ok-push-2.ensures.items in
    ⊎_elim (λ t. inv.passes_new i p t.1)
    (λ t. let k : c.loop.counter ≡ i + 1 = (let l = inv.dealt in let j = t.0 in omega arith) in
    subst (λ q. IsNewPass c.args.self.now c.args.seat.me.0.opening (i + 1) q) t.1
    record { pass = record { idle = new.idle; counted = c.requires.count ∙ ap length (sym new.seen) }; lane = new.number ∙ k; opening_kept = new.opening_kept; seen = new.seen; none_made = new.none_made })
    (slice_get_end _ _ p i (subst (λ l. slice_get l i ≡ Some p) items h))
