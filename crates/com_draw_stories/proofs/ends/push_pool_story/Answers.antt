use Rattle.std.proofs.lemmas.Result.{on_ok_weaker}
use Rattle.com_draw_stories.specs.Phrases.{lane_does}
use Rattle.com_draw_words.specs.Escapes.{link_text}
use Rattle.std.specs.Prelude.{codes}
use Rattle.com_draw_names.proofs.Joins.{join}
use Rattle.com_draw_stories.proofs.ends.push_pool_story.Goals as goal

pub returns : goal.returns
returns c =
    on_ok_weaker c.push_link.result
    (λ e. join c.args.out.now c.push_does.new.out c.push_link.new.out (lane_does c.args.lane (codes " waits for a free thread of the pool, for ")) (link_text c.args.call) c.in_ok-push_does.ensures e)
    c.push_link.ensures
