use Rattle.std.proofs.Common.{◌≡◌, ap, sym, subst, ◌∙◌, List, [], ◌∷◌, Some, length}
use Rattle.std.specs.Prelude.{Option}
use Rattle.atomic_table.specs.Table.{opening}
use Rattle.com_turnstile.specs.Turns.{InTurn, first_view}
use Rattle.com_turnstile.proofs.Steps.{starts}
use Rattle.com_turnstile.proofs.turnstile.Turnstile.new.Goals as goal

pub new-requires : goal.new-requires
new-requires g c = let list = g.T.Grows.list in let key : c.of-key.result.value ≡ c.args.value = c.of-key.ensures in
    let items : c.push.new.self.items ≡ Some c.args.value ∷ [] = cc (c.in_ok-push.ensures.items, c.new-slots.ensures.items) in
    let o : List g.row.T-Entry.Denot = list c.of-key.result.value in
    subst (λ (l : List (Option g.row.T.Denot)). InTurn g.T.Grows.list g.T.Grows.lane o (opening (0 ∷ 0 ∷ c.length-count.result ∷ []) l (first_view o))) (sym items)
    (starts g.T.Grows.list g.T.Grows.lane o c.args.value c.length-count.result (ap list (sym key)) (c.length-count.ensures ∙ ap (λ v. length (list v)) (sym key)))

pub returns-clause-passes : goal.returns-clause-passes
returns-clause-passes g c i p h = let list = g.T.Grows.list in let key : c.of-key.result.value ≡ c.args.value = c.of-key.ensures in
    let opens = ap (λ m. m.0.opening) c.in-Ok.ensures.ok.4 ∙ ap list key in
    let f = c.in_ok-list.ensures.passes i p h in record { pass = f.pass; lane = f.lane; opening_kept = f.opening_kept ∙ opens; seen = f.seen ∙ opens; none_made = f.none_made }
