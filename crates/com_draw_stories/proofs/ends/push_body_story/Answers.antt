use Rattle.std.proofs.Common.{◌++◌}
use Rattle.std.proofs.lemmas.Result.{on_ok_weaker}
use Rattle.com_draw_stories.specs.Phrases.{lane_at}
use Rattle.com_draw_words.specs.Escapes.{link_text}
use Rattle.std.specs.Prelude.{codes}
use Rattle.com_draw_names.proofs.Joins.{join}
use Rattle.com_draw_stories.proofs.ends.push_body_story.Goals as goal

pub returns : goal.returns
returns c =
    on_ok_weaker c.push_link.result
    (λ e. join c.args.out.now c.push_all.new.self c.push_link.new.out ((lane_at c.args.lane (codes " waits for L") c.args.to) ++ codes ", which runs ") (link_text c.args.call) (join c.args.out.now c.push_at.new.out c.push_all.new.self (lane_at c.args.lane (codes " waits for L") c.args.to) (codes ", which runs ") c.in_ok-push_at.ensures c.in_ok-push_all.ensures.ok) e)
    c.push_link.ensures
