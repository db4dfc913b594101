use Rattle.std.proofs.Common.{◌++◌}
use Rattle.std.proofs.lemmas.Result.{on_ok_weaker}
use Rattle.com_draw_stories.specs.Ends.{sinks_text}
use Rattle.com_draw_words.specs.Escapes.{link_text}
use Rattle.std.specs.Prelude.{codes}
use Rattle.com_draw_names.proofs.Joins.{join}
use Rattle.com_draw_stories.proofs.ends.push_event.Goals as goal

pub returns : goal.returns
returns c =
    on_ok_weaker c.push_sinks.result
    (λ e. join c.args.out.now c.push_all-2.new.self c.push_sinks.new.out (((codes "The event of ") ++ link_text c.args.call) ++ codes " went to ") (sinks_text c.args.sinks.now) (join c.args.out.now c.push_link.new.out c.push_all-2.new.self ((codes "The event of ") ++ link_text c.args.call) (codes " went to ") (join c.args.out.now c.push_all.new.self c.push_link.new.out (codes "The event of ") (link_text c.args.call) c.in_ok-push_all.ensures.ok c.in_ok-push_link.ensures) c.in_ok-push_all-2.ensures.ok) e)
    c.push_sinks.ensures
