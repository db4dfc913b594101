use Rattle.std.proofs.Common.{◌≡◌, ℕ, List, rules, subst, sym, true}
use Rattle.std.proofs.lemmas.Fn.{filter_same}
use Rattle.com_model.specs.Lists.{is_member}
use Rattle.com_objects.specs.Settled.{Rise}
use Rattle.com_ledger.proofs.Rising.{among_made, kept_rise, kept_member}
use Rattle.com_ledger.proofs.apply.keep_made.Goals as goal

pub returns-clause-rise : goal.returns-clause-rise
returns-clause-rise c =
    let e = filter_same _ (λ (o : ℕ). among_made c.args.objects o) _ (λ x b f' k. search rules) _ _ c.retain.ensures.filtered in
    subst (λ (l : List ℕ). Rise 0 l c.args.objects) (sym e) (kept_rise c.args.touched.now.items c.args.objects c.requires)

pub returns-clause-kept : goal.returns-clause-kept
returns-clause-kept c = λ o some most m.
    let e = filter_same _ (λ (o : ℕ). among_made c.args.objects o) _ (λ x b f' k. search rules) _ _ c.retain.ensures.filtered in
    subst (λ (l : List ℕ). is_member o l ≡ true) (sym e) (kept_member o c.args.objects c.args.touched.now.items some most m)
