-- The built-in bodies, from each place at which they are stepped.
use Rattle.std.specs.Prelude.{ℤ, pos, ◌%◌, ◌^◌, if◌then◌else◌, slice_index_or, slice_set, unwrap_or, option_and_then}
use Rattle.std.specs.Option.{option_map}
use Rattle.std.specs.Int.{w64, int_wrapping_add, cast_unsigned}
use Rattle.std.specs.Ordering.{int_eq}
use Rattle.std.proofs.Common.{◌≡◌, ℕ, ◌+◌, Bool, true, false, List, [], ◌∷◌, drop, Option, Some, None, refl, ap, ◌∙◌, arith}
use Rattle.std.proofs.lemmas.Option.{none-some, same_Some}
use Rattle.com_base.specs.declared.value.Value.{Value}
use Rattle.com_base.specs.declared.value.Value.TheVariants as value
use Rattle.com_body.specs.declared.frame.Native.{Native}
use Rattle.com_body.specs.declared.frame.Native.TheVariants as native
use Rattle.com_body.specs.declared.frame.Cells.{Cells}
use Rattle.com_body.specs.declared.frame.Job.{Job}
use Rattle.com_body.specs.declared.frame.Outcome.{Outcome}
use Rattle.com_body.specs.declared.statements.Stmt.{Stmt}
use Rattle.com_body.specs.declared.actions.Action.{Action}
use Rattle.com_body.specs.declared.actions.Action.TheVariants as action
use Rattle.com_body.specs.declared.operands.Place.TheVariants as place
use Rattle.com_body.specs.declared.operands.Destination.TheVariants as destination
use Rattle.com_body.specs.Frames.{FrameView, with_register, moved}
use Rattle.com_body.specs.Operands.{number_in, register_of, slot_of}
use Rattle.com_body.specs.BodySteps.{walk, body_step, no_body}
use Rattle.com_classes.specs.declared.classes.Class.{Class}
use Rattle.com_classes.specs.declared.classes.MethodBody.{MethodBody}
use Rattle.com_classes.specs.Tables.{Tables}
use Rattle.com_classes.specs.Lookups.{class_at, class_body, kind_body, body_of}
use Rattle.com_servant.specs.Steps.{native_at, job_step}
use Rattle.com_servant.specs.BuiltIns.{counter_add, counter_get, relay_set, relay_forward, latch_set, latch_test}

-- a step from a place that is known
from_place : (ss : List Stmt) (f : FrameView) (c : Cells) (p : ℕ) → f.place ≡ p → body_step ss f c ≡ walk (drop p ss) 0 f c
from_place ss f c p e = ap (λ (q : ℕ). walk (drop q ss) 0 f c) e

abbrev pub leaves : Value → Action
leaves v = action.Leave (record { 0 = 0 }) (Some v)

abbrev pub leaves_nothing : Action
leaves_nothing = action.Leave (record { 0 = 0 }) None

-- ---- ICounter

abbrev pub loaded : FrameView → Cells → FrameView
loaded f c = with_register f 1 (value.Int (slice_index_or c.numbers 0 (pos 0)))

abbrev pub added : FrameView → Cells → FrameView
added f c = with_register (loaded f c) 1
    (value.Int (int_wrapping_add w64 (number_in (register_of (loaded f c) 1)) (number_in (register_of (loaded f c) 0))))

abbrev pub with_number : Cells → ℤ → Cells
with_number c n = record c { numbers = slice_set c.numbers 0 n }

pub counter_adds : (f : FrameView) (c : Cells) → f.place ≡ 0 → body_step counter_add f c
    ≡ record {
      frame = record (added f c) { place = 4 };
      cells = with_number c (number_in (register_of (added f c) 1));
      action = leaves (register_of (added f c) 1);
    }
counter_adds f c e =
    let there : f.place + 1 + 1 + 1 + 1 ≡ 4 = omega arith in
    let outcome : ℕ → Outcome = λ p. record {
      frame = record (added f c) { place = p };
      cells = with_number c (number_in (register_of (added f c) 1));
      action = leaves (register_of (added f c) 1);
    } in
    from_place counter_add f c 0 e ∙ ap outcome there

pub counter_gets : (f : FrameView) (c : Cells) → f.place ≡ 0 → body_step counter_get f c
    ≡ record { frame = record (loaded f c) { place = 2 }; cells = c; action = leaves (register_of (loaded f c) 1) }
counter_gets f c e =
    let there : f.place + 1 + 1 ≡ 2 = omega arith in
    let outcome : ℕ → Outcome = λ p. record {
      frame = record (loaded f c) { place = p };
      cells = c;
      action = leaves (register_of (loaded f c) 1);
    } in
    from_place counter_get f c 0 e ∙ ap outcome there

-- ---- IRelay

abbrev pub at_place : FrameView → Cells → Action → ℕ → Outcome
at_place f c a p = record { frame = record f { place = p }; cells = c; action = a }

pub relay_copies : (f : FrameView) (c : Cells) → f.place ≡ 0
    → body_step relay_set f c ≡ at_place f c (action.Copy (place.Link 0) (slot_of f 0)) 1
relay_copies f c e =
    let there : f.place + 1 ≡ 1 = omega arith in
    from_place relay_set f c 0 e ∙ ap (at_place f c (action.Copy (place.Link 0) (slot_of f 0))) there

pub relay_is_set : (f : FrameView) (c : Cells) → f.place ≡ 1 → body_step relay_set f c ≡ at_place f c leaves_nothing 2
relay_is_set f c e =
    let there : f.place + 1 ≡ 2 = omega arith in
    from_place relay_set f c 1 e ∙ ap (at_place f c leaves_nothing) there

abbrev pub takes_link : Cells → Action
takes_link c = action.Copy (place.Slot 0) (slice_index_or c.links 0 None)

pub relay_takes : (f : FrameView) (c : Cells) → f.place ≡ 0 → body_step relay_forward f c ≡ at_place f c (takes_link c) 1
relay_takes f c e =
    let there : f.place + 1 ≡ 1 = omega arith in
    from_place relay_forward f c 0 e ∙ ap (at_place f c (takes_link c)) there

abbrev pub calls_counter : FrameView → Action
calls_counter f = action.Call (slot_of f 0) 1 0 (register_of f 0 ∷ []) (destination.Register 1)

pub relay_calls : (f : FrameView) (c : Cells) → f.place ≡ 1 → body_step relay_forward f c ≡ at_place f c (calls_counter f) 2
relay_calls f c e =
    let there : f.place + 1 ≡ 2 = omega arith in
    from_place relay_forward f c 1 e ∙ ap (at_place f c (calls_counter f)) there

abbrev pub leaves_answer : FrameView → Action
leaves_answer f = action.Leave (record { 0 = cast_unsigned w64 (number_in (register_of f 15)) % 2 ^ 32 }) (Some (register_of f 1))

pub relay_leaves : (f : FrameView) (c : Cells) → f.place ≡ 2 → body_step relay_forward f c ≡ at_place f c (leaves_answer f) 3
relay_leaves f c e =
    let there : f.place + 1 ≡ 3 = omega arith in
    from_place relay_forward f c 2 e ∙ ap (at_place f c (leaves_answer f)) there

-- ---- ILatch

pub latch_sets : (f : FrameView) (c : Cells) → f.place ≡ 0
    → body_step latch_set f c ≡ at_place f (with_number c (pos 1)) leaves_nothing 2
latch_sets f c e =
    let there : f.place + 1 + 1 ≡ 2 = omega arith in
    from_place latch_set f c 0 e ∙ ap (at_place f (with_number c (pos 1)) leaves_nothing) there

abbrev pub cleared : FrameView → Cells → FrameView
cleared f c = with_register (loaded f c) 2 (value.Bool false)

abbrev pub flagged : FrameView → FrameView
flagged f = if int_eq (number_in (register_of f 1)) (pos 0) then f else with_register f 2 (value.Bool true)

abbrev pub tested : Bool → FrameView → FrameView
tested b f = if b then f else with_register f 2 (value.Bool true)

tests : (b : Bool) (f : FrameView) (p : ℕ) (c : Cells)
    → walk (drop 3 latch_test) (if b then 1 else 0) (moved (record f { place = p }) ((if b then 1 else 0) + 1)) c
    ≡ at_place (tested b f) c (leaves (register_of (tested b f) 2)) (p + 3)
tests true f p c =
    let there : p + 2 + 1 ≡ p + 3 = omega arith in
    ap (at_place f c (leaves (register_of f 2))) there
tests false f p c =
    let there : p + 1 + 1 + 1 ≡ p + 3 = omega arith in
    ap (at_place (tested false f) c (leaves (register_of (tested false f) 2))) there

pub latch_tests : (f : FrameView) (c : Cells) → f.place ≡ 0 → body_step latch_test f c
    ≡ at_place (flagged (cleared f c)) c (leaves (register_of (flagged (cleared f c)) 2)) 5
latch_tests f c e =
    let there : f.place + 1 + 1 + 3 ≡ 5 = omega arith in
    let g : FrameView = cleared f c in
    from_place latch_test f c 0 e ∙ tests (int_eq (number_in (register_of g 1)) (pos 0)) g (f.place + 1 + 1) c
    ∙ ap (at_place (flagged g) c (leaves (register_of (flagged g) 2))) there

-- ---- the bodies of a built-in class

abbrev pub built_in_body : Native → ℕ → ℕ → List Stmt
built_in_body n iface method = unwrap_or (kind_body n [] iface method) no_body

abbrev pub IsBuiltIn : Native → Type 0
IsBuiltIn native.Bodies = ⊥
IsBuiltIn native.Counter = Unit {0}
IsBuiltIn native.Relay = Unit {0}
IsBuiltIn native.Latch = Unit {0}

-- a built-in class has no bodies of its own
no_own_bodies : (n : Native) (bodies : List MethodBody) (iface method : ℕ) → IsBuiltIn n
    → unwrap_or (kind_body n bodies iface method) no_body ≡ built_in_body n iface method
no_own_bodies native.Bodies bodies iface method h = absurd h
no_own_bodies native.Counter bodies iface method h = refl
no_own_bodies native.Relay bodies iface method h = refl
no_own_bodies native.Latch bodies iface method h = refl

of_native : (k : Option Class) (n : Native) (iface method : ℕ) → IsBuiltIn n → option_map (λ (x : Class). x.native) k ≡ Some n
    → unwrap_or (option_and_then (λ (x : Class). class_body x iface method) k) no_body ≡ built_in_body n iface method
of_native None n iface method h e = absurd (none-some n e)
of_native (Some k) n iface method h e =
    let same : k.native ≡ n = same_Some k.native n e in
    ap (λ (m : Native). unwrap_or (kind_body m k.bodies iface method) no_body) same ∙ no_own_bodies n k.bodies iface method h

-- a job's step, where the method is known
pub job_is : (t : Tables) (job : Job) (n : Native) (iface method : ℕ) → IsBuiltIn n → native_at t job.class ≡ Some n
    → job.iface ≡ iface → job.method ≡ method → job_step t job ≡ body_step (built_in_body n iface method) job.frame job.cells
job_is t job n iface method h e here there =
    ap (λ (i : ℕ). body_step (body_of t job.class i job.method) job.frame job.cells) here
    ∙ ap (λ (m : ℕ). body_step (body_of t job.class iface m) job.frame job.cells) there
    ∙ ap (λ (ss : List Stmt). body_step ss job.frame job.cells) (of_native (class_at t job.class) n iface method h e)
