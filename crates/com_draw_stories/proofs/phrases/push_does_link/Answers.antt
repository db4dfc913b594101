use Rattle.std.proofs.Common.{◌++◌}
use Rattle.std.proofs.lemmas.Result.{on_ok_weaker}
use Rattle.com_draw_stories.specs.Phrases.{lane_does}
use Rattle.com_draw_words.specs.Escapes.{link_text}
use Rattle.com_draw_names.proofs.Joins.{join}
use Rattle.com_draw_stories.proofs.phrases.push_does_link.Goals as goal

pub returns : goal.returns
returns c =
    on_ok_weaker c.push_all.result
    (λ e. join c.args.out.now c.push_link.new.out c.push_all.new.self ((lane_does c.args.lane c.args.words.now) ++ link_text c.args.call) (c.args.behind.now) (join c.args.out.now c.push_does.new.out c.push_link.new.out (lane_does c.args.lane c.args.words.now) (link_text c.args.call) c.in_ok-push_does.ensures c.in_ok-push_link.ensures) e)
    c.push_all.ensures.ok
