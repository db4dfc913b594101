use Rattle.std.proofs.Common.{◌≡◌, ◌++◌, ◌∷◌, [], OnOk, ℕ, List, Option, None, sym, subst, ap, ◌∙◌, option_copied}
use Rattle.com_base.specs.HResults.{name_of}
use Rattle.com_print.proofs.Named.{unnamed}
use Rattle.com_print.proofs.operands.values.push_hresult.Goals as goal

pub returns-in-None : goal.returns-in-None
returns-in-None c =
    let none : name_of c.args.answer.0 ≡ None = sym c.name.ensures ∙ ap option_copied c.in-None.is in
    subst (λ (x : List ℕ). OnOk c.push_hresult_digits.result (c.push_hresult_digits.new.out ≡ c.args.out.now ++ 32 ∷ (x ++ []))) (sym (unnamed c.args.answer.0 none)) c.push_hresult_digits.ensures
