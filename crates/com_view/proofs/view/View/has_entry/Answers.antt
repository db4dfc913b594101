use Rattle.std.proofs.Common.{◌≡◌, ◌∙◌, is_some, false}
use Rattle.com_model.specs.Lists.{first}
use Rattle.com_view.specs.Seen.{dying_seen}
use Rattle.com_view.proofs.ByTop.{ruled_stirs}
use Rattle.com_view.proofs.view.View.has_entry.Goals as goal

pub returns : goal.returns
returns c = λ b.
    let none : is_some (first (dying_seen c.args.self.now c.args.lane)) ≡ false = cc (c.dying.ensures, c.is_some.ensures, c.if-is_some.false) in
    c.stirs.ensures ∙ ruled_stirs c.args.self.now b c.args.lane none
