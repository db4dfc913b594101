use Rattle.std.proofs.Common.{ℕ, ◌-◌, ◌∙◌, ap, ap₂, arith, refl, true, List, [], ◌∷◌, ◌++◌, Option}
use Rattle.com_model.specs.declared.keeps.Making.{Making}
use Rattle.com_state.specs.Parts.{ObjectTables}
use Rattle.com_objects.specs.declared.objects.Row.{Row}
use Rattle.com_objects.specs.Rooms.{ObjectRows}
use Rattle.com_objects.proofs.Kept.{kept_released, makings_length, makings_kept}
use Rattle.com_objects.proofs.objects.Objects.release.Goals as goal

seen : List (Option Making) → List ℕ → ObjectTables
seen ms os = record { makings = ms; finaled = os }

pub invariant_of-self : goal.invariant_of-self
invariant_of-self c =
    let r = rw (← c.self.view_is) at c.requires.made in
    rw c.push_reserved.ensures.items (kept_released _ _ _ _ c.self.invariant r.0 (omega (arith, r.1, makings_length c.self.inside.rows.items)) refl)

pub returns : goal.returns
unfolding seen
returns c =
    ap₂ seen
    (makings_kept c.self.inside.rows.items (c.args.object - 1) (record { making = c.index_mut.result.now.making; is_released = true }) c.index_mut.result.now
    (ap (λ (x : Row). x.making) c.index_mut.ensures.value))
    c.push_reserved.ensures.items
    ∙ ap (λ (k : ObjectRows). seen k.tables.makings (k.tables.finaled ++ c.args.object ∷ [])) c.self.view_is
