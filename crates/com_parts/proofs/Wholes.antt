-- What holds of the parts holds of them before the first entry, with more room, and after each entry.
use Rattle.std.proofs.Common.{◌≡◌, ℕ, zero, suc, ◌+◌, ◌<◌, ◌≤◌, ◌^◌, Bool, true, false, List, [], ◌∷◌, ◌++◌, Option, None, is_some, length, length-append, refl, ◌∙◌, ap, subst, sym, arith, slice_index_or, option_map}
use Rattle.std.proofs.lemmas.List.{get_or_append_left}
use Rattle.com_calls.specs.Kept.{Kept, IsNamed, no_tables, with_room}
use Rattle.com_lanes.specs.First.{first_lanes}
use Rattle.com_model.specs.declared.deeds.Deed.{Deed}
use Rattle.com_model.specs.declared.deeds.Deed.TheVariants as deed
use Rattle.com_model.specs.declared.deeds.Entry.{Entry}
use Rattle.com_model.specs.declared.keeps.Issue.{Issue}
use Rattle.com_model.specs.declared.keeps.Making.{Making}
use Rattle.com_model.specs.Calls.{issues, object_of}
use Rattle.com_model.specs.Lists.{from_one, number_or_zero}
use Rattle.com_model.specs.Objects.{makes}
use Rattle.com_model.specs.State.{grown}
use Rattle.com_state.specs.Parts.{LaneTables, ObjectTables, CallTables, lanes_after, objects_after, named_at, issue_at}
use Rattle.com_parts.specs.Fits.{IsAimed, TakesBack}
use Rattle.com_parts.specs.Whole.{IsWhole}
use Rattle.com_parts.proofs.Counts.{counted_after, first_read, first_posted}

-- ---- before the first entry

none-named : (c : ℕ) → named_at (record { makings = []; finaled = [] }) (object_of (from_one [] c None)) ≡ from_one [] c 0
none-named zero = refl
none-named (suc c) = refl

none-targets : (c : ℕ) → object_of (from_one [] c None) ≤ 0
none-targets zero = omega arith
none-targets (suc c) = omega arith

pub whole_first : (b : Kept) (k : ℕ) → b.tables ≡ no_tables → b.apartments ≡ [] → IsWhole (first_lanes k) (record { makings = []; finaled = [] }) b 0
whole_first b k e f = record {
  few = omega arith;
  counted = record { served = first_read (k + 1); counts = first_read (k + 1); posted = first_posted (k + 1); stas = omega arith };
  made = omega arith;
  issued = subst (λ (t : CallTables). length t.issues ≤ 0) (sym e) (omega arith);
  named = record {
    named = λ c. subst (λ (t : CallTables). named_at (record { makings = []; finaled = [] }) (object_of (issue_at t c)) ≡ from_one b.apartments c 0) (sym e)
        (subst (λ (xs : List ℕ). named_at (record { makings = []; finaled = [] }) (object_of (from_one [] c None)) ≡ from_one xs c 0) (sym f) (none-named c));
  };
  targets = λ c. subst (λ (t : CallTables). object_of (issue_at t c) ≤ 0) (sym e) (none-targets c);
}

pub whole_new : (l : LaneTables) (o : ObjectTables) (b : Kept) (k : ℕ) → l ≡ first_lanes k → o ≡ record { makings = []; finaled = [] } → b.tables ≡ no_tables → b.apartments ≡ [] → IsWhole l o b 0
whole_new l o b k e f g h = subst (λ (x : LaneTables). IsWhole x o b 0) (sym e) (subst (λ (x : ObjectTables). IsWhole (first_lanes k) x b 0) (sym f) (whole_first b k g h))

-- ---- with more room

pub whole_room : (l : LaneTables) (o : ObjectTables) (b : Kept) (n r i : ℕ) → IsWhole l o b n → IsWhole l o (with_room b r i) n
whole_room l o b n r i w = record { few = w.few; counted = w.counted; made = w.made; issued = w.issued; named = record { named = w.named.named }; targets = w.targets }

pub named_room : (o : ObjectTables) (b b' : Kept) (r i : ℕ) → b' ≡ with_room b r i → IsNamed o b → IsNamed o b'
named_room o b b' r i e p = subst (λ (x : Kept). IsNamed o x) (sym e) (record { named = p.named })

pub with_rest : (l' : LaneTables) (o' : ObjectTables) (b : Kept) (l : LaneTables) (o : ObjectTables) (e : Entry) (n : ℕ) → l' ≡ lanes_after l e → o' ≡ objects_after o e → IsWhole (lanes_after l e) (objects_after o e) b n → IsWhole l' o' b n
with_rest l' o' b l o e n p q w = subst (λ (x : LaneTables). IsWhole x o' b n) (sym p) (subst (λ (x : ObjectTables). IsWhole (lanes_after l e) x b n) (sym q) w)

pub whole_roomy : (l : LaneTables) (o : ObjectTables) (b b' : Kept) (n r i : ℕ) → b' ≡ with_room b r i → IsWhole l o b n → IsWhole l o b' n
whole_roomy l o b b' n r i e w = subst (λ (x : Kept). IsWhole l o x n) (sym e) (whole_room l o b n r i w)

pub same_homes : (b b' : Kept) (r i : ℕ) → b' ≡ with_room b r i → length b.apartments ≡ length b.tables.issues → length b'.apartments ≡ length b'.tables.issues
same_homes b b' r i e h = subst (λ (x : Kept). length x.apartments ≡ length x.tables.issues) (sym e) h

-- ---- after an entry

grown-length : {X : Type 0} (b : Bool) (x : X) (xs : List X) (n : ℕ) → length xs ≤ n → length (grown b x xs) ≤ n + 1
grown-length false x xs n h = omega (arith, h)
grown-length true x xs n h = omega (arith, h, length-append xs (x ∷ []))

grown-more : {X : Type 0} (b : Bool) (x : X) (xs : List X) (k : ℕ) → k ≤ length xs → k ≤ length (grown b x xs)
grown-more false x xs k h = h
grown-more true x xs k h = omega (arith, h, length-append xs (x ∷ []))

grown-kept : (b : Bool) (x : Option Making) (xs : List (Option Making)) (k : ℕ) → k ≤ length xs → from_one (grown b x xs) k None ≡ from_one xs k None
grown-kept false x xs k h = refl
grown-kept true x xs zero h = refl
grown-kept true x xs (suc k) h = get_or_append_left xs (x ∷ []) None k (omega (arith, h))

named-kept : (o : ObjectTables) (l : ℕ) (d : Deed) (k : ℕ) → k ≤ length o.makings → named_at (objects_after o (record { lane = l; deed = d })) k ≡ named_at o k
named-kept o l d k h = ap (λ (m : Option Making). number_or_zero (option_map (λ (x : Making). x.apartment) m)) (grown-kept (is_some (makes d)) (makes d) o.makings k h)

-- What holds of each row and of a new one holds of all.
each-grown : (xs : List (Option Issue)) (y : Option Issue) (n k : ℕ) → object_of y ≤ n → ((j : ℕ) → object_of (slice_index_or xs j None) ≤ n) → object_of (slice_index_or (xs ++ y ∷ []) k None) ≤ n
each-grown [] y n zero h p = h
each-grown [] y n (suc k) h p = p k
each-grown (x ∷ xs) y n zero h p = p 0
each-grown (x ∷ xs) y n (suc k) h p = each-grown xs y n k h (λ j. p (suc j))

target-grown : (b : Bool) (y : Option Issue) (xs : List (Option Issue)) (n c : ℕ) → object_of y ≤ n → ((j : ℕ) → object_of (from_one xs j None) ≤ n) → object_of (from_one (grown b y xs) c None) ≤ n
target-grown false y xs n c h p = p c
target-grown true y xs n zero h p = p 0
target-grown true y xs n (suc c) h p = each-grown xs y n c h (λ j. p (suc j))

both-grown : (o : ObjectTables) (xs : List (Option Issue)) (as' : List ℕ) (y : Option Issue) (a k : ℕ) → length as' ≡ length xs → named_at o (object_of y) ≡ a → ((j : ℕ) → named_at o (object_of (slice_index_or xs j None)) ≡ slice_index_or as' j 0)
    → named_at o (object_of (slice_index_or (xs ++ y ∷ []) k None)) ≡ slice_index_or (as' ++ a ∷ []) k 0
both-grown o [] [] y a zero e q p = q
both-grown o [] [] y a (suc k) e q p = p k
both-grown o [] (z ∷ zs) y a k e q p = absurd (omega (arith, e))
both-grown o (z ∷ zs) [] y a k e q p = absurd (omega (arith, e))
both-grown o (z ∷ zs) (w ∷ ws) y a zero e q p = p 0
both-grown o (z ∷ zs) (w ∷ ws) y a (suc k) e q p = both-grown o zs ws y a k (omega (arith, e)) q (λ j. p (suc j))

named-grown : (o : ObjectTables) (b : Bool) (xs : List (Option Issue)) (as' : List ℕ) (y : Option Issue) (a c : ℕ) → length as' ≡ length xs → named_at o (object_of y) ≡ a → ((j : ℕ) → named_at o (object_of (from_one xs j None)) ≡ from_one as' j 0)
    → named_at o (object_of (from_one (grown b y xs) c None)) ≡ from_one (grown b a as') c 0
named-grown o false xs as' y a c e q p = p c
named-grown o true xs as' y a zero e q p = refl
named-grown o true xs as' y a (suc c) e q p = both-grown o xs as' y a c e q (λ j. p (suc j))

-- An Out's target was made, and there is none of any other entry.
target-made : (n l : ℕ) (d : Deed) → IsAimed n d → object_of (issues l d) ≤ n
target-made n l (deed.Out c x i m r y bytes) h = h
target-made n l _ h = omega arith

pub whole_after : (l : LaneTables) (o : ObjectTables) (b b' : Kept) (n lane a : ℕ) (d : Deed) → IsWhole l o b n → n < 2 ^ 28 → TakesBack l lane d → IsAimed (length o.makings) d
    → length b.apartments ≡ length b.tables.issues
    → a ≡ named_at o (object_of (issues lane d))
    → b'.tables.issues ≡ grown (is_some (issues lane d)) (issues lane d) b.tables.issues
    → b'.apartments ≡ grown (is_some (issues lane d)) a b.apartments
    → IsWhole (lanes_after l (record { lane = lane; deed = d })) (objects_after o (record { lane = lane; deed = d })) b' (n + 1)
whole_after l o b b' n lane a d w few back aimed same home rows homes =
    let is_out : Bool = is_some (issues lane d) in
    let o' : ObjectTables = objects_after o (record { lane = lane; deed = d }) in
    let xs : List (Option Issue) = grown is_out (issues lane d) b.tables.issues in
    let made : (c : ℕ) → object_of (from_one xs c None) ≤ length o.makings = λ c. target-grown is_out (issues lane d) b.tables.issues (length o.makings) c (target-made (length o.makings) lane d aimed) w.targets in
    record {
      few = omega (arith, few);
      counted = counted_after l lane d n w.counted back;
      made = grown-length (is_some (makes d)) (makes d) o.makings n w.made;
      issued = subst (λ (ys : List (Option Issue)). length ys ≤ n + 1) (sym rows) (grown-length is_out (issues lane d) b.tables.issues n w.issued);
      named = record {
        named = λ c. subst (λ (ys : List (Option Issue)). named_at o' (object_of (from_one ys c None)) ≡ from_one b'.apartments c 0) (sym rows)
            (subst (λ (zs : List ℕ). named_at o' (object_of (from_one xs c None)) ≡ from_one zs c 0) (sym homes)
            (named-kept o lane d (object_of (from_one xs c None)) (made c)
            ∙ named-grown o is_out b.tables.issues b.apartments (issues lane d) a c same (sym home) w.named.named));
      };
      targets = λ c. subst (λ (ys : List (Option Issue)). object_of (from_one ys c None) ≤ length o'.makings) (sym rows)
          (grown-more (is_some (makes d)) (makes d) o.makings (object_of (from_one xs c None)) (made c));
    }
