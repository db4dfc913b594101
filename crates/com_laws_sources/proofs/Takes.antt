-- `advise` by itself, where the cells are given one by one.
use Rattle.std.proofs.Common.{refl, ap, ◌∙◌}
use Rattle.std.specs.Prelude.{◌≡◌, ℕ, ◌+◌, ℤ, pos, Bool, true, false, cond, List, [], ◌∷◌, ◌++◌, slice_set, Option, Some, None}
use Rattle.std.specs.Int.{w64, int_wrapping_add}
use Rattle.std.specs.Ordering.{int_eq}
use Rattle.com_base.specs.declared.value.RefValue.{RefValue}
use Rattle.com_base.specs.declared.value.Value.{Value}
use Rattle.com_base.specs.declared.value.Value.TheVariants as value
use Rattle.com_body.specs.declared.statements.Stmt.{Stmt}
use Rattle.com_body.specs.declared.statements.Stmt.TheVariants as stmt
use Rattle.com_body.specs.declared.operands.Place.TheVariants as place
use Rattle.com_body.specs.declared.operands.Given.TheVariants as given
use Rattle.com_body.specs.declared.actions.Action.TheVariants as action
use Rattle.com_body.specs.declared.frame.Cells.{Cells}
use Rattle.com_body.specs.declared.frame.Outcome.{Outcome}
use Rattle.com_body.specs.Frames.{FrameView, no_number, entered, moved}
use Rattle.com_body.specs.BodySteps.{walk, body_step}
use Rattle.com_laws_sources.specs.Bodies.{advise_limit, register, leave_with, leave_register, take_place, advise_body}
use Rattle.com_laws_sources.specs.Alone.{goes_on, alone}
use Rattle.com_laws_sources.proofs.Walks.{at-cond, cond-both, kept, leaves}

-- Register 2 is the new cookie, and slot 0 the sink.
abbrev pub advising : ℕ → (v1 : Value) → (new : ℤ) → Option RefValue → FrameView
advising p v1 new held = record {
  place = p;
  registers = no_number ∷ v1 ∷ value.Int new ∷ no_number ∷ no_number ∷ no_number ∷ no_number ∷ no_number ∷ no_number ∷ no_number ∷ no_number ∷ no_number ∷ no_number ∷ no_number ∷ no_number ∷ no_number ∷ [];
  slots = held ∷ None ∷ None ∷ None ∷ None ∷ None ∷ None ∷ None ∷ [];
}

abbrev pub with_cookie : ℕ → ℤ → Cells → Cells
with_cookie i new c = record c { numbers = slice_set (slice_set c.numbers i new) 4 new }

abbrev pub taken : ℕ → ℤ → Option RefValue → ℕ → ℤ → Cells → Outcome
taken p a held i new c =
    record { frame = advising (p + 2 + 1 + 1 + 1) (value.Int a) new held; cells = with_cookie i new c; action = action.Copy (place.Link i) held }

takes : (p i : ℕ) (a new : ℤ) (held : Option RefValue) (c : Cells) (rest : List Stmt) (b : Bool)
    → walk (stmt.Skip 4 ∷ stmt.Store i (register 2) ∷ stmt.Store 4 (register 2) ∷ stmt.Copy (place.Link i) (place.Slot 0) ∷ leave_register 2 ∷ rest)
    (cond b 1 0) (moved (advising p (value.Int a) new held) (cond b 1 0 + 1)) c
    ≡ cond b (taken p a held i new c) (walk rest 0 (advising (p + 1 + 5) (value.Int a) new held) c)
takes p i a new held c rest true = refl
takes p i a new held c rest false = refl

abbrev full-rest : List Stmt
full-rest = leave_with advise_limit given.Nothing ∷ []

abbrev rest-2 : List Stmt
rest-2 = take_place 3 ++ full-rest

abbrev rest-1 : List Stmt
rest-1 = take_place 2 ++ rest-2

abbrev rest-0 : List Stmt
rest-0 = take_place 1 ++ rest-1

-- Where every place is taken.
abbrev full : ℤ → ℤ → Option RefValue → Cells → Outcome
full a new held c = record { frame = advising 34 (value.Int a) new held; cells = c; action = action.Leave advise_limit None }

pub advise-steps : (r : RefValue) (a0 a1 a2 a3 m : ℤ) (ns : List ℤ) (k0 k1 k2 k3 : Option RefValue)
    → body_step advise_body (entered (value.Ref (Some r) ∷ [])) (kept a0 a1 a2 a3 m ns k0 k1 k2 k3)
    ≡ cond (int_eq a0 (pos 0)) (taken 6 a0 (Some r) 0 (int_wrapping_add w64 m (pos 1)) (kept a0 a1 a2 a3 m ns k0 k1 k2 k3))
    (cond (int_eq a1 (pos 0)) (taken 13 a1 (Some r) 1 (int_wrapping_add w64 m (pos 1)) (kept a0 a1 a2 a3 m ns k0 k1 k2 k3))
    (cond (int_eq a2 (pos 0)) (taken 20 a2 (Some r) 2 (int_wrapping_add w64 m (pos 1)) (kept a0 a1 a2 a3 m ns k0 k1 k2 k3))
    (cond (int_eq a3 (pos 0)) (taken 27 a3 (Some r) 3 (int_wrapping_add w64 m (pos 1)) (kept a0 a1 a2 a3 m ns k0 k1 k2 k3))
    (full a3 (int_wrapping_add w64 m (pos 1)) (Some r) (kept a0 a1 a2 a3 m ns k0 k1 k2 k3)))))
advise-steps r a0 a1 a2 a3 m ns k0 k1 k2 k3 =
    let c : Cells = kept a0 a1 a2 a3 m ns k0 k1 k2 k3 in
    let new : ℤ = int_wrapping_add w64 m (pos 1) in
    let held : Option RefValue = Some r in
    takes 6 0 a0 new held c rest-0 (int_eq a0 (pos 0))
    ∙ ap (λ (o : Outcome). cond (int_eq a0 (pos 0)) (taken 6 a0 held 0 new c) o)
    (takes 13 1 a1 new held c rest-1 (int_eq a1 (pos 0))
    ∙ ap (λ (o : Outcome). cond (int_eq a1 (pos 0)) (taken 13 a1 held 1 new c) o)
    (takes 20 2 a2 new held c rest-2 (int_eq a2 (pos 0))
    ∙ ap (λ (o : Outcome). cond (int_eq a2 (pos 0)) (taken 20 a2 held 2 new c) o)
    (takes 27 3 a3 new held c full-rest (int_eq a3 (pos 0)))))

abbrev goes-alone : Outcome → Outcome
goes-alone r = goes_on (alone advise_body 0) r r.action

-- The sink stands in the place that was taken, and the body leaves with the new cookie.
abbrev pub advised : ℕ → ℕ → ℤ → Option RefValue → ℤ → Cells → Outcome
advised p i a held new c =
    leaves (advising (p + 1) (value.Int a) new held) (record (with_cookie i new c) { links = slice_set c.links i held }) (value.Int new)

pub advises : (r : RefValue) (a0 a1 a2 a3 m : ℤ) (ns : List ℤ) (k0 k1 k2 k3 : Option RefValue)
    → alone advise_body 1 (entered (value.Ref (Some r) ∷ [])) (kept a0 a1 a2 a3 m ns k0 k1 k2 k3)
    ≡ cond (int_eq a0 (pos 0)) (advised 11 0 a0 (Some r) (int_wrapping_add w64 m (pos 1)) (kept a0 a1 a2 a3 m ns k0 k1 k2 k3))
    (cond (int_eq a1 (pos 0)) (advised 18 1 a1 (Some r) (int_wrapping_add w64 m (pos 1)) (kept a0 a1 a2 a3 m ns k0 k1 k2 k3))
    (cond (int_eq a2 (pos 0)) (advised 25 2 a2 (Some r) (int_wrapping_add w64 m (pos 1)) (kept a0 a1 a2 a3 m ns k0 k1 k2 k3))
    (cond (int_eq a3 (pos 0)) (advised 32 3 a3 (Some r) (int_wrapping_add w64 m (pos 1)) (kept a0 a1 a2 a3 m ns k0 k1 k2 k3))
    (full a3 (int_wrapping_add w64 m (pos 1)) (Some r) (kept a0 a1 a2 a3 m ns k0 k1 k2 k3)))))
advises r a0 a1 a2 a3 m ns k0 k1 k2 k3 =
    let c : Cells = kept a0 a1 a2 a3 m ns k0 k1 k2 k3 in
    let new : ℤ = int_wrapping_add w64 m (pos 1) in
    let held : Option RefValue = Some r in
    let g : Outcome → Outcome = goes-alone in
    let b0 : Bool = int_eq a0 (pos 0) in
    let b1 : Bool = int_eq a1 (pos 0) in
    let b2 : Bool = int_eq a2 (pos 0) in
    let b3 : Bool = int_eq a3 (pos 0) in
    let none : Outcome = full a3 new held c in
    let y3 : Outcome = cond b3 (taken 27 a3 held 3 new c) none in
    let y2 : Outcome = cond b2 (taken 20 a2 held 2 new c) y3 in
    let y1 : Outcome = cond b1 (taken 13 a1 held 1 new c) y2 in
    let z3 : Outcome = cond b3 (advised 32 3 a3 held new c) none in
    let z2 : Outcome = cond b2 (advised 25 2 a2 held new c) z3 in
    let z1 : Outcome = cond b1 (advised 18 1 a1 held new c) z2 in
    let e3 : g y3 ≡ z3 = at-cond g b3 (taken 27 a3 held 3 new c) none in
    let e2 : g y2 ≡ z2 = at-cond g b2 (taken 20 a2 held 2 new c) y3 ∙ cond-both b2 _ (g y3) (advised 25 2 a2 held new c) z3 refl e3 in
    let e1 : g y1 ≡ z1 = at-cond g b1 (taken 13 a1 held 1 new c) y2 ∙ cond-both b1 _ (g y2) (advised 18 1 a1 held new c) z2 refl e2 in
    ap g (advise-steps r a0 a1 a2 a3 m ns k0 k1 k2 k3)
    ∙ at-cond g b0 (taken 6 a0 held 0 new c) y1 ∙ cond-both b0 _ (g y1) (advised 11 0 a0 held new c) z1 refl e1
