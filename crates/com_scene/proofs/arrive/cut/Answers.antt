-- Each object's cells in their turn.
use Rattle.std.proofs.Common.{◌<◌, ◌==◌, if◌then◌else◌, ℕ, length, arith, ap, ◌∙◌}
use Rattle.std.proofs.lemmas.List.{length-set}
use Rattle.com_state.specs.SceneParts.{without_links}
use Rattle.com_scene.specs.Steps.{cut_by}
use Rattle.com_scene.proofs.CutLemmas.{cut_step}
use Rattle.com_scene.proofs.arrive.cut.Goals as goal

pub loop-object-preserved : goal.loop-object-preserved
loop-object-preserved c =
    let h : c.loop-object.object < length c.args.cells.now.items = omega arith in
    record {
      rows = cut_step (cut_by c.args.owners.now c.args.apartment) c.loop-object.cells.items c.args.cells.now.items c.loop-object.object
          c.cut_if.new.cells c.index_mut.result.now h c.loop-object.invariant.rows c.index_mut.ensures.value
          (c.cut_if.ensures ∙ ap (λ (o : ℕ). if o == c.args.apartment then without_links c.index_mut.result.now else c.index_mut.result.now) c.owner.ensures);
      count = length-set c.loop-object.cells.items c.loop-object.object c.cut_if.new.cells ∙ c.loop-object.invariant.count;
    }
