use Rattle.std.proofs.Common.{◌++◌, w64}
use Rattle.std.proofs.lemmas.Int.{to_z-of_z}
use Rattle.std.proofs.lemmas.Result.{on_ok_weaker}
use Rattle.com_draw_stories.specs.Phrases.{lane_signed}
use Rattle.com_draw_words.specs.Escapes.{link_text}
use Rattle.std.specs.Prelude.{codes}
use Rattle.com_draw_names.proofs.Joins.{join}
use Rattle.com_draw_stories.proofs.call_stories.push_waits_on.Goals as goal

pub returns : goal.returns
returns c =
    let same_word = to_z-of_z w64 c.args.word c.ranges.word in
    on_ok_weaker c.push_link.result
    (λ e. join c.args.out.now c.push_all.new.self c.push_link.new.out ((lane_signed c.args.lane c.args.words.now c.args.word) ++ codes ", and waits on for ") (link_text c.args.call) (join c.args.out.now c.push_does_signed.new.out c.push_all.new.self (lane_signed c.args.lane c.args.words.now c.args.word) (codes ", and waits on for ") (rw same_word at c.in_ok-push_does_signed.ensures) c.in_ok-push_all.ensures.ok) e)
    c.push_link.ensures
