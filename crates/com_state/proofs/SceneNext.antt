-- The tables of the scene after an entry, from those before it.
use Rattle.std.proofs.Common.{◌≡◌, refl, sym, ◌∙◌, ap, arith, ℕ, ◌+◌, ◌≤◌, List, [], ◌∷◌, length, fold, slice_index_or}
use Rattle.std.proofs.lemmas.List.{get_or_past}
use Rattle.std.specs.Prelude.{Option, Some, None, is_some}
use Rattle.com_refs_books.specs.Counting.{count_if}
use Rattle.com_base.specs.declared.hresult.HResult.{HResult}
use Rattle.com_base.specs.declared.value.Value.{Value}
use Rattle.com_body.specs.declared.actions.Action.{Action}
use Rattle.com_body.specs.declared.actions.Action.TheVariants as action
use Rattle.com_body.specs.declared.operands.Destination.{Destination}
use Rattle.com_body.specs.declared.operands.Destination.TheVariants as destination
use Rattle.com_body.specs.declared.frame.Outcome.{Outcome}
use Rattle.com_body.specs.Frames.{entered}
use Rattle.com_body.specs.Operands.{new_cells}
use Rattle.com_model.specs.declared.deeds.Deed.{Deed}
use Rattle.com_model.specs.declared.deeds.Deed.TheVariants as deed
use Rattle.com_model.specs.declared.deeds.Entry.{Entry}
use Rattle.com_model.specs.declared.scenario.Scenario.{Scenario}
use Rattle.com_model.specs.declared.keeps.Issue.{Issue}
use Rattle.com_model.specs.declared.keeps.Making.{Making}
use Rattle.com_model.specs.Lists.{tabulated}
use Rattle.com_model.specs.Tables.{threads}
use Rattle.com_model.specs.Apartments.{ends_sta}
use Rattle.com_model.specs.Objects.{makes}
use Rattle.com_model.specs.Calls.{issues}
use Rattle.com_model.specs.Frames.{Scene, Actor, Body, Script, Nobody, Write, ToRegister, ToSlot, ToLink, ToBuffer, writes, written, with_frame, wants, acted, arrived, cut_links}
use Rattle.com_model.specs.State.{State, SceneTables, grown, issued_by, scene_tables, scene_next, scene_in, after, named_in}
use Rattle.com_model.proofs.Tabled.{length-grown, length-tabulated, tabulated-row}
use Rattle.com_state.specs.SceneParts.{with_rows, rows_acted, rows_arrived, rows_after, links_cut, destination_at}
use Rattle.com_state.specs.After.{parts_after, acting_in, step_in, actor_after, scene_rows}
use Rattle.com_state.proofs.Joined.{joined}
use Rattle.com_state.proofs.SceneRows.{table_of, grown-tabulated, acted-rows, arrived-rows, cut-rows}

-- ---- a Back finds the destinations as they were

written-keeps : (a : Actor) (w : Scene) (x : Write) → (written a w x).destinations ≡ w.destinations
written-keeps (Body k j) w (ToRegister r v) = refl
written-keeps (Body k j) w (ToSlot i held) = refl
written-keeps (Body k j) w (ToLink i held) = refl
written-keeps (Body k j) w (ToBuffer p bytes) = refl
written-keeps (Script k) w (ToRegister r v) = refl
written-keeps (Script k) w (ToSlot i held) = refl
written-keeps (Script k) w (ToLink i held) = refl
written-keeps (Script k) w (ToBuffer p bytes) = refl
written-keeps Nobody w x = refl

writes-keep : (a : Actor) (w : Scene) (xs : List Write) → (fold (written a) w xs).destinations ≡ w.destinations
writes-keep a w [] = refl
writes-keep a w (x ∷ xs) = writes-keep a (written a w x) xs ∙ written-keeps a w x

frame-keeps : (a : Actor) (r : Outcome) (w : Scene) → (with_frame a r w).destinations ≡ w.destinations
frame-keeps (Body k j) r w = refl
frame-keeps (Script k) r w = refl
frame-keeps Nobody r w = refl

back-wants : (x : Action) (k : ℕ) (hr : HResult) (v : Option Value) (w : Scene) → wants x (deed.Back k hr v) w ≡ w
back-wants (action.Call held i p args to) k hr v w = refl
back-wants _ k hr v w = refl

back-keeps : (a : Actor) (r : Option Outcome) (k : ℕ) (hr : HResult) (v : Option Value) (w : Scene) → (acted a r (deed.Back k hr v) w).destinations ≡ w.destinations
back-keeps a None k hr v w = refl
back-keeps a (Some r) k hr v w =
    ap (λ (x : Scene). x.destinations) (back-wants r.action k hr v (fold (written a) (with_frame a r w) (writes r.action (deed.Back k hr v))))
    ∙ writes-keep a (with_frame a r w) (writes r.action (deed.Back k hr v)) ∙ frame-keeps a r w

back-reads : (n c o m : ℕ) (a : Actor) (r : Option Outcome) (d : Deed) (w : Scene) → ((k : ℕ) → slice_index_or (tabulated c w.destinations) k destination.Nowhere ≡ w.destinations k) → (k : ℕ) (hr : HResult) (v : Option Value) → d ≡ deed.Back k hr v → destination_at (table_of n c o m (acted a r d w)) k ≡ (acted a r d w).destinations k
back-reads n c o m a r d w p k hr v e =
    let q : (acted a r d w).destinations ≡ w.destinations = ap (λ (x : Deed). (acted a r x w).destinations) e ∙ back-keeps a r k hr v w in
    ap (λ (f : ℕ → Destination). slice_index_or (tabulated c f) k destination.Nowhere) q ∙ p k ∙ sym (ap (λ (f : ℕ → Destination). f k) q)

-- ---- one entry, over variables

rows-next : (n c o m : ℕ) (named : ℕ → ℕ) (a : Actor) (r : Option Outcome) (b : Actor) (e : Entry) (w : Scene) (t : SceneTables) → with_rows e t ≡ table_of n c o m w → ((k : ℕ) → slice_index_or (tabulated c w.destinations) k destination.Nowhere ≡ w.destinations k) → table_of n c o m (cut_links named (ends_sta e.deed) (arrived b e.lane e.deed (acted a r e.deed w))) ≡ rows_after named a r b e t
rows-next n c o m named a r b e w t p q =
    sym (cut-rows n c o m named (ends_sta e.deed) (arrived b e.lane e.deed (acted a r e.deed w)))
    ∙ ap (links_cut named (ends_sta e.deed)) (sym (arrived-rows n c o m b e.lane e.deed (acted a r e.deed w) (back-reads n c o m a r e.deed w q)))
    ∙ ap (λ (x : SceneTables). links_cut named (ends_sta e.deed) (rows_arrived b e.lane e.deed x)) (sym (acted-rows n c o m a r e.deed w))
    ∙ ap (λ (x : SceneTables). links_cut named (ends_sta e.deed) (rows_arrived b e.lane e.deed (rows_acted a r e.deed x))) (sym p)

grown-rows : (n m : ℕ) (e : Entry) (w : Scene) (is : List (Option Issue)) (ms : List (Option Making)) → w.bodies (length is + 1) ≡ entered [] → w.destinations (length is + 1) ≡ destination.Nowhere → w.cells (length ms + 1) ≡ new_cells
    → with_rows e (table_of n (length is + 1) (length ms + 1) m w) ≡ table_of n (length (grown (issued_by e) (issues e.lane e.deed) is) + 1) (length (grown (is_some (makes e.deed)) (makes e.deed) ms) + 1) m w
grown-rows n m e w is ms p q r = λ i. record {
  scripts = tabulated n w.scripts;
  bodies = sym (grown-tabulated (issued_by e) (issues e.lane e.deed) is w.bodies (entered []) p) i;
  cells = sym (grown-tabulated (is_some (makes e.deed)) (makes e.deed) ms w.cells new_cells r) i;
  buffers = tabulated m w.buffers;
  destinations = sym (grown-tabulated (issued_by e) (issues e.lane e.deed) is w.destinations destination.Nowhere q) i;
}

past-rows : {X : Type 0} (xs : List X) (n : ℕ) (f : ℕ → X) (d : X) → tabulated (n + 1) f ≡ xs → (k : ℕ) → n + 1 ≤ k → slice_index_or xs k d ≡ d
past-rows xs n f d e k h = let z : length (tabulated (n + 1) f) ≡ n + 1 = length-tabulated (n + 1) f in let y : length (tabulated (n + 1) f) ≡ length xs = ap length e in get_or_past xs k d (omega (arith, z, y, h))

pub tables-next : (s : Scenario) (st : State) (e : Entry) → scene_tables s st (scene_in st) ≡ st.scene → scene_tables s (parts_after s st e) (scene_next s st (parts_after s st e) e) ≡ scene_rows s st e
tables-next s st e p =
    let n : ℕ = length st.issues in
    let c : ℕ = length (grown (issued_by e) (issues e.lane e.deed) st.issues) + 1 in
    let o : ℕ = length (grown (is_some (makes e.deed)) (makes e.deed) st.makings) + 1 in
    let w : Scene = scene_in st in
    let bodies : (k : ℕ) → n + 1 ≤ k → w.bodies k ≡ entered [] = past-rows st.scene.bodies n w.bodies (entered []) (ap (λ (t : SceneTables). t.bodies) p) in
    let wanted : (k : ℕ) → n + 1 ≤ k → w.destinations k ≡ destination.Nowhere = past-rows st.scene.destinations n w.destinations destination.Nowhere (ap (λ (t : SceneTables). t.destinations) p) in
    let cells : (k : ℕ) → length st.makings + 1 ≤ k → w.cells k ≡ new_cells = past-rows st.scene.cells (length st.makings) w.cells new_cells (ap (λ (t : SceneTables). t.cells) p) in
    let more : length (grown (issued_by e) (issues e.lane e.deed) st.issues) ≡ count_if (issued_by e) + n = length-grown (issued_by e) (issues e.lane e.deed) st.issues in
    rows-next (threads s + 1) c o 64 (named_in st) (acting_in s st e) (step_in s st e) (actor_after s st e) e w st.scene
    (ap (with_rows e) (sym p) ∙ grown-rows (threads s + 1) 64 e w st.issues st.makings (bodies (n + 1) (omega arith)) (wanted (n + 1) (omega arith)) (cells (length st.makings + 1) (omega arith)))
    (tabulated-row c w.destinations destination.Nowhere (λ k h. wanted k (omega (arith, h, more))))

pub scene-next : (s : Scenario) (st : State) (l : ℕ) (d : Deed) → scene_tables s st (scene_in st) ≡ st.scene → (after s st l d).scene ≡ scene_rows s st (record { lane = l; deed = d })
scene-next s st l d p = let e : Entry = record { lane = l; deed = d } in ap (λ (x : State). x.scene) (joined s st l d) ∙ tables-next s st e p
