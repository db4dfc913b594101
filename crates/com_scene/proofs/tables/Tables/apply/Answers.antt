-- A new row and a step keep what holds of every scene, and one change comes after the other.
use Rattle.std.proofs.Common.{◌∙◌, sym, ap, subst, slice_index_or}
use Rattle.com_model.specs.Apartments.{ends_sta}
use Rattle.com_state.specs.SceneParts.{links_cut, rows_acted, rows_arrived}
use Rattle.com_scene.specs.Actors.{acting_of}
use Rattle.com_scene.specs.Kept.{IsKept}
use Rattle.com_scene.specs.Seen.{seen}
use Rattle.com_scene.proofs.KeptLemmas.{acted_kept, rows_kept}
use Rattle.com_scene.proofs.tables.Tables.apply.Goals as goal

pub arrive-requires-clause-kept : goal.arrive-requires-clause-kept
arrive-requires-clause-kept c =
    subst IsKept (sym c.act.ensures.tables)
    (acted_kept (acting_of c.args.entry.now.acting) c.args.outcome.now c.args.entry.now.deed.now (seen c.add_row.new.self) c.requires.step
    (subst IsKept (sym c.add_row.ensures.tables) (rows_kept (record { lane = c.args.entry.now.lane; deed = c.args.entry.now.deed.now }) (seen c.args.self.now) c.requires.kept)))

pub returns : goal.returns
returns c =
    let e = c.args.entry.now in
    c.cut_ended.ensures
    ∙ ap (links_cut (λ o. slice_index_or c.args.owners.now o 0) (ends_sta e.deed.now))
    (c.arrive.ensures
    ∙ ap (rows_arrived (acting_of e.after) e.lane e.deed.now)
    (c.act.ensures.tables
    ∙ ap (rows_acted (acting_of e.acting) c.args.outcome.now e.deed.now) c.add_row.ensures.tables))
