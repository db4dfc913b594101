-- The value that was taken is the one with which the call comes back.
use Rattle.std.proofs.Common.{◌≡◌, Option, sym, subst}
use Rattle.com_base.specs.declared.value.Value.{Value}
use Rattle.com_model.specs.declared.deeds.Deed.{Deed}
use Rattle.com_model.specs.declared.deeds.Deed.TheVariants as deed
use Rattle.com_state.specs.SceneParts.{rows_arrived}
use Rattle.com_scene.specs.Actors.{acting_of}
use Rattle.com_scene.specs.Seen.{seen}
use Rattle.com_scene.proofs.tables.Tables.arrive.Goals as goal

pub returns-in-Back : goal.returns-in-Back
returns-in-Back c =
    subst (λ (d : Deed). seen c.give_back.new.self ≡ rows_arrived (acting_of c.args.after) c.args.lane d (seen c.args.self.now)) (sym c.in-Back.is)
    (subst (λ (v : Option Value). seen c.give_back.new.self ≡ rows_arrived (acting_of c.args.after) c.args.lane (deed.Back c.in-Back.call c.in-Back.hr v) (seen c.args.self.now))
    c.own.ensures
    (c.give_back.ensures c.args.lane))
