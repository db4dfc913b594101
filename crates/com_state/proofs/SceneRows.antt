-- The tables of a scene after an entry: what is put into a table's function changes one row of the table.
use Rattle.std.proofs.Common.{◌≡◌, refl, sym, ◌∙◌, ap, ap₂, subst, arith, ℕ, zero, suc, ◌+◌, ◌<◌, ◌≤◌, Bool, true, false, cond, ◌==◌, nat_lt, if◌then◌else◌, List, [], ◌∷◌, ◌++◌, length, fold, slice_index_or, slice_set, eqb-true}
use Rattle.std.proofs.lemmas.Grind.{common_steps}
use Rattle.std.proofs.lemmas.Bool.{ltb-true, ltb-false}
use Rattle.std.proofs.lemmas.List.{get_or-set_same, get_or-set_other}
use Rattle.std.proofs.Math.ListN.{length-set}
use Rattle.std.specs.Prelude.{Option, Some, None, replicate}
use Rattle.com_base.specs.declared.hresult.HResult.{HResult}
use Rattle.com_base.specs.declared.value.Value.{Value}
use Rattle.com_body.specs.declared.actions.Action.{Action}
use Rattle.com_body.specs.declared.actions.Action.TheVariants as action
use Rattle.com_body.specs.declared.operands.Destination.{Destination}
use Rattle.com_body.specs.declared.frame.Cells.{Cells}
use Rattle.com_body.specs.declared.frame.Outcome.{Outcome}
use Rattle.com_body.specs.Frames.{FrameView, entered}
use Rattle.com_body.specs.Operands.{new_cells}
use Rattle.com_model.specs.declared.deeds.Deed.{Deed}
use Rattle.com_model.specs.declared.deeds.Deed.TheVariants as deed
use Rattle.com_model.specs.Answers.{S_OK}
use Rattle.com_model.specs.Lists.{put, each_from, tabulated}
use Rattle.com_model.specs.Frames.{Scene, Actor, Body, Script, Nobody, Write, ToRegister, ToSlot, ToLink, ToBuffer, writes, to_answer, to_destination, written, with_frame, wants, acted, arrived, cut_links}
use Rattle.com_model.specs.State.{SceneTables, grown}
use Rattle.com_model.proofs.Tabled.{length-tabulated, within-tabulated}
use Rattle.com_state.specs.SceneParts.{row_written, rows_framed, row_wanted, rows_acted, rows_arrived, links_cut, destination_at, without_links}

-- ---- tables of a function

same-rows : {X : Type 0} (xs ys : List X) (d : X) → length xs ≡ length ys → ((k : ℕ) → k < length xs → slice_index_or xs k d ≡ slice_index_or ys k d) → xs ≡ ys
same-rows [] [] d e p = refl
same-rows [] (y ∷ ys) d e p = absurd (omega (arith, e))
same-rows (x ∷ xs) [] d e p = absurd (omega (arith, e))
same-rows (x ∷ xs) (y ∷ ys) d e p = ap₂ (λ (z : _) (zs : List _). z ∷ zs) (p 0 (omega arith)) (same-rows xs ys d (omega (arith, e)) (λ k h. p (suc k) (omega (arith, h))))

-- A list is the table of a function that has its rows.
pub tabulated-list : {X : Type 0} (xs : List X) (n : ℕ) (f : ℕ → X) (d : X) → length xs ≡ n → ((k : ℕ) → k < n → f k ≡ slice_index_or xs k d) → tabulated n f ≡ xs
tabulated-list xs n f d e p = same-rows (tabulated n f) xs d (length-tabulated n f ∙ sym e) (λ k h. let z : k < n = subst (λ (m : ℕ). k < m) (length-tabulated n f) h in within-tabulated n f k d z ∙ p k z)

apart : (k c : ℕ) → k ≡ c → (k == c) ≡ false → ⊥
apart k c q e = let z : (k == k) ≡ true = grind (arith, common_steps) in let y : (k == k) ≡ false = ap (λ (j : ℕ). k == j) q ∙ e in cc

put-row : {X : Type 0} (n k : ℕ) (x : X) (f : ℕ → X) (j : ℕ) → j < n → put k x f j ≡ slice_index_or (slice_set (tabulated n f) k x) j x
put-row n k x f j h = by-test (j == k) refl
  where
    by-test : (t : Bool) → (j == k) ≡ t → put k x f j ≡ slice_index_or (slice_set (tabulated n f) k x) j x
    by-test true e =
        let q : j ≡ k = eqb-true j k e in
        let z : k < length (tabulated n f) = subst (λ (m : ℕ). k < m) (sym (length-tabulated n f)) (subst (λ (i : ℕ). i < n) q h) in
        ap (λ (b : Bool). cond b x (f j)) e ∙ sym (ap (λ (i : ℕ). slice_index_or (slice_set (tabulated n f) k x) i x) q ∙ get_or-set_same (tabulated n f) k x x z)
    by-test false e =
        ap (λ (b : Bool). cond b x (f j)) e ∙ sym (get_or-set_other (tabulated n f) k j x x (λ q. apart j k q e) ∙ within-tabulated n f j x h)

-- What is put into the function is a row that is set.
pub put-tabulated : {X : Type 0} (n k : ℕ) (x : X) (f : ℕ → X) → tabulated n (put k x f) ≡ slice_set (tabulated n f) k x
put-tabulated n k x f = tabulated-list (slice_set (tabulated n f) k x) n (put k x f) x (length-set (tabulated n f) k x ∙ length-tabulated n f) (put-row n k x f)

set-past : {X : Type 0} (xs : List X) (k : ℕ) (x : X) → length xs ≤ k → slice_set xs k x ≡ xs
set-past [] k x h = refl
set-past (y ∷ xs) zero x h = absurd (omega (arith, h))
set-past (y ∷ xs) (suc k) x h = ap (λ (zs : List _). y ∷ zs) (set-past xs k x (omega (arith, h)))

-- A row that is set, where the new row is made of the old one.
pub changed-row : {X : Type 0} (n k : ℕ) (g : X → X) (f : ℕ → X) (d : X) → slice_set (tabulated n f) k (g (slice_index_or (tabulated n f) k d)) ≡ tabulated n (put k (g (f k)) f)
changed-row n k g f d = by-size (nat_lt k n) refl ∙ sym (put-tabulated n k (g (f k)) f)
  where
    by-size : (t : Bool) → nat_lt k n ≡ t → slice_set (tabulated n f) k (g (slice_index_or (tabulated n f) k d)) ≡ slice_set (tabulated n f) k (g (f k))
    by-size true h = ap (λ (x : _). slice_set (tabulated n f) k (g x)) (within-tabulated n f k d (ltb-true k n h))
    by-size false h =
        let z : n ≤ k = ltb-false k n h in
        let m : length (tabulated n f) ≡ n = length-tabulated n f in
        let past : length (tabulated n f) ≤ k = omega (arith, z, m) in
        set-past (tabulated n f) k (g (slice_index_or (tabulated n f) k d)) past ∙ sym (set-past (tabulated n f) k (g (f k)) past)

each-append : {X : Type 0} (g : ℕ → X → X) (n : ℕ) (xs : List X) (y : X) → each_from g n (xs ++ y ∷ []) ≡ each_from g n xs ++ g (n + length xs) y ∷ []
each-append g n [] y = let e : n + 0 ≡ n = omega arith in ap (λ (k : ℕ). g k y ∷ []) (sym e)
each-append g n (x ∷ xs) y = let e : n + 1 + length xs ≡ n + suc (length xs) = omega arith in ap (λ (zs : List _). g n x ∷ zs) (each-append g (n + 1) xs y ∙ ap (λ (k : ℕ). each_from g (n + 1) xs ++ g k y ∷ []) e)

-- Each row of a table, changed.
pub each-tabulated : {X : Type 0} (g : ℕ → X → X) (n : ℕ) (f : ℕ → X) → each_from g 0 (tabulated n f) ≡ tabulated n (λ k. g k (f k))
each-tabulated g zero f = refl
each-tabulated g (suc n) f =
    let m : length (tabulated n f) ≡ n = length-tabulated n f in
    let e : 0 + length (tabulated n f) ≡ n = omega (arith, m) in
    each-append g 0 (tabulated n f) (f n) ∙ ap₂ (λ (xs : List _) (k : ℕ). xs ++ g k (f n) ∷ []) (each-tabulated g n f) e

-- A table that grows by the row that the function has past its end.
pub grown-tabulated : {X : Type 0} {Y : Type 0} (b : Bool) (y : Y) (ys : List Y) (f : ℕ → X) (d : X) → f (length ys + 1) ≡ d → tabulated (length (grown b y ys) + 1) f ≡ grown b d (tabulated (length ys + 1) f)
grown-tabulated false y ys f d e = refl
grown-tabulated true y ys f d e =
    let n : length (ys ++ y ∷ []) + 1 ≡ suc (length ys + 1) = grind (arith, common_steps) in
    ap (λ (k : ℕ). tabulated k f) n ∙ ap (λ (x : _). tabulated (length ys + 1) f ++ x ∷ []) e

-- ---- the tables of a scene, with as many rows as there are lanes, calls, objects and buffers

abbrev pub table_of : (lanes calls objects buffers : ℕ) → Scene → SceneTables
table_of n c o m w = record {
  scripts = tabulated n w.scripts;
  bodies = tabulated c w.bodies;
  cells = tabulated o w.cells;
  buffers = tabulated m w.buffers;
  destinations = tabulated c w.destinations;
}

with-bodies : (n c o m : ℕ) (w : Scene) (xs ys : List FrameView) → xs ≡ ys → record (table_of n c o m w) { bodies = xs } ≡ record (table_of n c o m w) { bodies = ys }
with-bodies n c o m w xs ys e = ap (λ (zs : List FrameView). record (table_of n c o m w) { bodies = zs }) e

with-scripts : (n c o m : ℕ) (w : Scene) (xs ys : List FrameView) → xs ≡ ys → record (table_of n c o m w) { scripts = xs } ≡ record (table_of n c o m w) { scripts = ys }
with-scripts n c o m w xs ys e = ap (λ (zs : List FrameView). record (table_of n c o m w) { scripts = zs }) e

with-cells : (n c o m : ℕ) (w : Scene) (xs ys : List Cells) → xs ≡ ys → record (table_of n c o m w) { cells = xs } ≡ record (table_of n c o m w) { cells = ys }
with-cells n c o m w xs ys e = ap (λ (zs : List Cells). record (table_of n c o m w) { cells = zs }) e

with-buffers : (n c o m : ℕ) (w : Scene) (xs ys : List (List ℕ)) → xs ≡ ys → record (table_of n c o m w) { buffers = xs } ≡ record (table_of n c o m w) { buffers = ys }
with-buffers n c o m w xs ys e = ap (λ (zs : List (List ℕ)). record (table_of n c o m w) { buffers = zs }) e

written-row : (n c o m : ℕ) (a : Actor) (w : Scene) (x : Write) → row_written a (table_of n c o m w) x ≡ table_of n c o m (written a w x)
written-row n c o m (Body k j) w (ToRegister r v) = with-bodies n c o m w _ _ (changed-row c k (λ (f : FrameView). record f { registers = slice_set f.registers r v }) w.bodies (entered []))
written-row n c o m (Body k j) w (ToSlot i held) = with-bodies n c o m w _ _ (changed-row c k (λ (f : FrameView). record f { slots = slice_set f.slots i held }) w.bodies (entered []))
written-row n c o m (Body k j) w (ToLink i held) = with-cells n c o m w _ _ (changed-row o j (λ (f : Cells). record f { links = slice_set f.links i held }) w.cells new_cells)
written-row n c o m (Body k j) w (ToBuffer p bytes) = with-buffers n c o m w _ _ (sym (put-tabulated m p bytes w.buffers))
written-row n c o m (Script k) w (ToRegister r v) = with-scripts n c o m w _ _ (changed-row n k (λ (f : FrameView). record f { registers = slice_set f.registers r v }) w.scripts (entered []))
written-row n c o m (Script k) w (ToSlot i held) = with-scripts n c o m w _ _ (changed-row n k (λ (f : FrameView). record f { slots = slice_set f.slots i held }) w.scripts (entered []))
written-row n c o m (Script k) w (ToLink i held) = refl
written-row n c o m (Script k) w (ToBuffer p bytes) = with-buffers n c o m w _ _ (sym (put-tabulated m p bytes w.buffers))
written-row n c o m Nobody w x = refl

pub written-rows : (n c o m : ℕ) (a : Actor) (w : Scene) (xs : List Write) → fold (row_written a) (table_of n c o m w) xs ≡ table_of n c o m (fold (written a) w xs)
written-rows n c o m a w [] = refl
written-rows n c o m a w (x ∷ xs) = ap (λ (t : SceneTables). fold (row_written a) t xs) (written-row n c o m a w x) ∙ written-rows n c o m a (written a w x) xs

framed-rows : (n c o m : ℕ) (a : Actor) (r : Outcome) (w : Scene) → rows_framed a r (table_of n c o m w) ≡ table_of n c o m (with_frame a r w)
framed-rows n c o m (Body k j) r w = ap₂ (λ (xs : List FrameView) (ys : List Cells). record (table_of n c o m w) { bodies = xs; cells = ys }) (sym (put-tabulated c k r.frame w.bodies)) (sym (put-tabulated o j r.cells w.cells))
framed-rows n c o m (Script k) r w = with-scripts n c o m w _ _ (sym (put-tabulated n k r.frame w.scripts))
framed-rows n c o m Nobody r w = refl

wanted-row : (n c o m : ℕ) (x : Action) (d : Deed) (w : Scene) → row_wanted x d (table_of n c o m w) ≡ table_of n c o m (wants x d w)
wanted-row n c o m (action.Call held i p args to) (deed.Out k j f g r y bytes) w = ap (λ (zs : List Destination). record (table_of n c o m w) { destinations = zs }) (sym (put-tabulated c k to w.destinations))
wanted-row n c o m (action.Call held i p args to) _ w = refl
wanted-row n c o m _ d w = refl

pub acted-rows : (n c o m : ℕ) (a : Actor) (r : Option Outcome) (d : Deed) (w : Scene) → rows_acted a r d (table_of n c o m w) ≡ table_of n c o m (acted a r d w)
acted-rows n c o m a None d w = refl
acted-rows n c o m a (Some r) d w =
    ap (λ (t : SceneTables). row_wanted r.action d (fold (row_written a) t (writes r.action d))) (framed-rows n c o m a r w)
    ∙ ap (row_wanted r.action d) (written-rows n c o m a (with_frame a r w) (writes r.action d))
    ∙ wanted-row n c o m r.action d (fold (written a) (with_frame a r w) (writes r.action d))

pub arrived-rows : (n c o m : ℕ) (b : Actor) (l : ℕ) (d : Deed) (w : Scene) → ((k : ℕ) (hr : HResult) (v : Option Value) → d ≡ deed.Back k hr v → destination_at (table_of n c o m w) k ≡ w.destinations k) → rows_arrived b l d (table_of n c o m w) ≡ table_of n c o m (arrived b l d w)
arrived-rows n c o m b l (deed.Leave k hr v bytes) w p = with-bodies n c o m w _ _ (sym (put-tabulated c k (entered []) w.bodies))
arrived-rows n c o m b l (deed.Enter k j a t vs) w p = with-bodies n c o m w _ _ (sym (put-tabulated c k (entered vs) w.bodies))
arrived-rows n c o m b l (deed.Back k hr v) w p =
    ap (λ (to : Destination). fold (row_written b) (table_of n c o m w) (to_answer hr ∷ to_destination to v)) (p k hr v refl)
    ∙ written-rows n c o m b w (to_answer hr ∷ to_destination (w.destinations k) v)
arrived-rows n c o m b l deed.EndPump w p = written-row n c o m b w (to_answer S_OK)
arrived-rows n c o m b l (deed.Uninit a zero) w p = with-scripts n c o m w _ _ (changed-row n l (λ (f : FrameView). record f { slots = replicate 8 None }) w.scripts (entered []))
arrived-rows n c o m b l (deed.Uninit a (suc k)) w p = refl
arrived-rows n c o m b l (deed.Final j) w p = with-cells n c o m w _ _ (changed-row o j without_links w.cells new_cells)
arrived-rows n c o m b l _ w p = refl

pub cut-rows : (n c o m : ℕ) (named : ℕ → ℕ) (x : Option ℕ) (w : Scene) → links_cut named x (table_of n c o m w) ≡ table_of n c o m (cut_links named x w)
cut-rows n c o m named None w = refl
cut-rows n c o m named (Some a) w = with-cells n c o m w _ _ (each-tabulated (λ (j : ℕ) (x : Cells). if named j == a then without_links x else x) o w.cells)
