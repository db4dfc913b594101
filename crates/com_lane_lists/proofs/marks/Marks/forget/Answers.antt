use Rattle.std.proofs.Common.{rules, not, ◌==◌, ◌∙◌, ap}
use Rattle.std.proofs.lemmas.Fn.{filter_same}
use Rattle.com_model.specs.declared.keeps.Mark.{Mark}
use Rattle.com_model.specs.Waiting.{without_mark}
use Rattle.com_lane_lists.specs.Rooms.{Roomed}
use Rattle.com_lane_lists.proofs.marks.Marks.forget.Goals as goal

pub returns : goal.returns
returns c =
    let e = filter_same _ (λ (m : Mark). not (m.call == c.args.call)) _ (λ x b f' k. search rules) _ _ c.retain.ensures.filtered in
    e ∙ ap (λ (r : Roomed Mark). without_mark c.args.call r.rows) c.self.view_is
