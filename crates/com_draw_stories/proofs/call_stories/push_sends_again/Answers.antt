use Rattle.std.proofs.Common.{◌++◌, w64}
use Rattle.std.proofs.lemmas.Int.{to_z-of_z}
use Rattle.std.proofs.lemmas.Result.{on_ok_weaker}
use Rattle.com_draw_stories.specs.Calls.{again_words}
use Rattle.com_draw_stories.specs.Phrases.{lane_does}
use Rattle.com_draw_words.specs.Escapes.{link_text}
use Rattle.std.specs.Prelude.{codes}
use Rattle.com_draw_names.proofs.Joins.{join}
use Rattle.com_draw_stories.proofs.call_stories.push_sends_again.Goals as goal

pub returns : goal.returns
returns c =
    let same_answer = to_z-of_z w64 c.args.answer c.ranges.answer in
    on_ok_weaker c.push_again_words.result
    (λ e. join c.args.out.now c.push_link.new.out c.push_again_words.new.out ((lane_does c.args.lane (codes "'s filter sends ")) ++ link_text c.args.call) (again_words c.args.answer) (join c.args.out.now c.push_does.new.out c.push_link.new.out (lane_does c.args.lane (codes "'s filter sends ")) (link_text c.args.call) c.in_ok-push_does.ensures c.in_ok-push_link.ensures) e)
    (rw same_answer at c.push_again_words.ensures)
