use Rattle.std.proofs.Common.{◌≡◌, Option, sym, subst, ◌∙◌}
use Rattle.std.specs.Prelude.{option_copied}
use Rattle.com_base.specs.declared.value.Value.{Value}
use Rattle.com_exchange.specs.Answers.{TravelsAs}
use Rattle.com_model.specs.Values.{sent_result}
use Rattle.com_rules.proofs.Sized.{result_travels}
use Rattle.com_rules.proofs.sending.left_as.Goals as goal

pub reply_on-requires-clause-travels : goal.reply_on-requires-clause-travels
reply_on-requires-clause-travels g c =
    let live = (g.B.References.books c.args.books.now).live in
    let given : Option Value = option_copied c.args.value in
    let sent : option_copied c.as_ref.result ≡ sent_result c.is_marshalled-is_marshalled.result live c.args.answer c.result_kind-kind.result given = c.as_ref.ensures.value ∙ c.in_ok-value.ensures in
    subst (λ (v : Option Value). TravelsAs c.result_kind-kind.result c.args.answer v) (sym sent)
    (result_travels c.is_marshalled-is_marshalled.result live c.args.answer c.result_kind-kind.result given c.requires.travels)
