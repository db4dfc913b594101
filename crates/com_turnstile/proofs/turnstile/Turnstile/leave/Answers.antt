use Rattle.std.proofs.Common.{◌≡◌, rules, arith, ap, sym, subst, ◌∙◌, ℕ, ◌+◌, ◌<◌, ◌∷◌, ◌++◌, length, length-append, Some}
use Rattle.atomic_table.specs.Table.{rest}
use Rattle.com_turnstile.specs.Entries.{AreOf}
use Rattle.com_turnstile.proofs.Steps.{publishes, advances}
use Rattle.com_turnstile.proofs.turnstile.Turnstile.leave.Goals as goal

pub fetch_add-requires : goal.fetch_add-requires
fetch_add-requires g c = let now = c.exchange.ensures.3 in let grown = c.requires.grown in
    let has = ap (λ m. m.1) now ∙ ap (λ l. (0, Some c.args.guard.value) ∷ rest l) c.requires.inside.empty_slot in
    let long : c.length-longer.result ≡ length (g.T.Grows.list c.args.guard.value) = c.length-longer.ensures in
    let small = c.length-longer.type_inv in
    let count : c.args.guard.pass.count ≡ length c.args.guard.pass.seat.me.0.seen = c.requires.inside.counted in
    let sum : length (g.T.Grows.list c.args.guard.value) ≡ length c.args.guard.pass.seat.me.0.seen + length grown.0 = ap length grown.1 ∙ length-append c.args.guard.pass.seat.me.0.seen grown.0 in (
      search rules,
      search rules,
      publishes _ _ _ _ _ _ c.args.guard.value grown.0 _ (ap (λ m. m.0.turn) now ∙ c.requires.inside.turn) has (grown.1 ∙ ap (λ m. m.0.seen ++ grown.0) (sym now))
          (omega arith) (subst (λ (k : ℕ). k < 18446744073709551616) long small) (subst (λ (k : ℕ). AreOf g.T.Grows.lane k grown.0) (sym (ap (λ m. m.0.number) now)) grown.2),
    )

pub fetch_add-served-requires : goal.fetch_add-served-requires
fetch_add-served-requires g c = let now = c.exchange.ensures.3 in let grown = c.requires.grown in
    let has = ap (λ m. m.1) now ∙ ap (λ l. (0, Some c.args.guard.value) ∷ rest l) c.requires.inside.empty_slot in
    let listed = grown.1 ∙ ap (λ m. m.0.seen ++ grown.0) (sym now) in
    let did = c.fetch_add.ensures.2 c.args.guard.value grown.0 has listed in
    (search rules, search rules, advances _ _ _ _ _ _ c.args.guard.value (ap (λ m. m.0.turn) did ∙ (ap (λ m. m.0.turn) now ∙ c.requires.inside.turn)) (ap (λ m. m.1) did ∙ has) (listed ∙ sym (ap (λ m. m.0.seen) did)))
