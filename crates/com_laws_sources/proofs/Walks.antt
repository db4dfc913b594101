-- What the body step does from one place of a source's body to the next, where the cells are given one by one.
use Rattle.std.proofs.Common.{refl, ap, ◌∙◌}
use Rattle.std.specs.Prelude.{◌≡◌, ℕ, ◌+◌, ℤ, pos, Bool, true, false, cond, List, [], ◌∷◌, ◌++◌, int_lt, slice_index_or, slice_set, Option, Some, None}
use Rattle.std.specs.Int.{w64, int_wrapping_add}
use Rattle.com_base.specs.declared.value.RefValue.{RefValue}
use Rattle.com_base.specs.declared.value.Value.{Value}
use Rattle.com_base.specs.declared.value.Value.TheVariants as value
use Rattle.com_body.specs.declared.statements.Stmt.{Stmt}
use Rattle.com_body.specs.declared.statements.Stmt.TheVariants as stmt
use Rattle.com_body.specs.declared.operands.Place.TheVariants as place
use Rattle.com_body.specs.declared.operands.Arg.TheVariants as arg
use Rattle.com_body.specs.declared.operands.Destination.TheVariants as destination
use Rattle.com_body.specs.declared.actions.Action.TheVariants as action
use Rattle.com_body.specs.declared.frame.Cells.{Cells}
use Rattle.com_body.specs.declared.frame.Outcome.{Outcome}
use Rattle.com_body.specs.Frames.{FrameView, no_number}
use Rattle.com_body.specs.Operands.{truth}
use Rattle.com_body.specs.BodySteps.{walk, body_step}
use Rattle.com_laws_sources.specs.Bodies.{ok, int, register, leave_register, look_at, send_event, event_round, fire_body}
use Rattle.com_laws_sources.specs.Alone.{goes_on, alone}

-- ---- choices

pub at-cond : {X Y : Type 0} (g : X → Y) (b : Bool) (x y : X) → g (cond b x y) ≡ cond b (g x) (g y)
at-cond g true x y = refl
at-cond g false x y = refl

pub cond-both : {X : Type 0} (b : Bool) (x y u v : X) → x ≡ u → y ≡ v → cond b x y ≡ cond b u v
cond-both true x y u v p q = p
cond-both false x y u v p q = q

-- ---- the cells of a source

abbrev pub kept : (a0 a1 a2 a3 last : ℤ) → List ℤ → (k0 k1 k2 k3 : Option RefValue) → Cells
kept a0 a1 a2 a3 last more k0 k1 k2 k3 = record { numbers = a0 ∷ a1 ∷ a2 ∷ a3 ∷ last ∷ more; links = k0 ∷ k1 ∷ k2 ∷ k3 ∷ [] }

abbrev pub leaves : FrameView → Cells → Value → Outcome
leaves f c v = record { frame = f; cells = c; action = action.Leave ok (Some v) }

-- ---- fire

-- The registers 4 to 6 are the last cookie, the one that was reached, and the number of events.
abbrev pub firing : ℕ → (v0 v1 v2 v3 : Value) → (last reached sent : ℤ) → List Value → List (Option RefValue) → FrameView
firing p v0 v1 v2 v3 last reached sent rest slots =
    record { place = p; registers = v0 ∷ v1 ∷ v2 ∷ v3 ∷ value.Int last ∷ value.Int reached ∷ value.Int sent ∷ rest; slots = slots }

looked : (p j i : ℕ) (v0 v1 v3 : Value) (l r n : ℤ) (w : List Value) (x : List (Option RefValue)) (c : Cells) (rest : List Stmt) (b : Bool)
    → walk (stmt.SkipZero 2 2 ∷ stmt.Copy (place.Slot 0) (place.Link i) ∷ stmt.Skip j ∷ rest) 0 (firing p v0 v1 (truth b) v3 l r n w x) c
    ≡ cond b
    (record { frame = firing (p + 1 + 1) v0 v1 (value.Int (pos 1)) v3 l r n w x; cells = c; action = action.Copy (place.Slot 0) (slice_index_or c.links i None) })
    (walk rest 0 (firing (p + 3) v0 v1 (value.Int (pos 0)) v3 l r n w x) c)
looked p j i v0 v1 v3 l r n w x c rest true = refl
looked p j i v0 v1 v3 l r n w x c rest false = refl

abbrev pub past : ℕ → ℕ
past p = p + 1 + 1 + 3

abbrev pub copied : ℕ → (v0 v3 : Value) (l r n : ℤ) (w : List Value) (x : List (Option RefValue)) → Cells → ℤ → Option RefValue → Outcome
copied p v0 v3 l r n w x c a k =
    record { frame = firing (p + 1 + 1 + 1 + 1) v0 (value.Int a) (value.Int (pos 1)) v3 l r n w x; cells = c; action = action.Copy (place.Slot 0) k }

abbrev rest-3 : List Stmt → List Stmt
rest-3 rest = leave_register 6 ∷ (send_event ++ rest)

abbrev rest-2 : List Stmt → List Stmt
rest-2 rest = look_at 3 ++ rest-3 rest

abbrev rest-1 : List Stmt → List Stmt
rest-1 rest = look_at 2 ++ rest-2 rest

abbrev rest-0 : List Stmt → List Stmt
rest-0 rest = look_at 1 ++ rest-1 rest

abbrev Looks : (i : ℕ) → (a : ℤ) → (k : Option RefValue) → Cells → Type 0
Looks i a k c = (p : ℕ) (v0 v1 v2 v3 : Value) (l r n : ℤ) (w : List Value) (x : List (Option RefValue)) (rest : List Stmt)
    → walk (look_at i ++ rest) 0 (firing p v0 v1 v2 v3 l r n w x) c
    ≡ cond (int_lt r a) (copied p v0 v3 l r n w x c a k) (walk rest 0 (firing (past p) v0 (value.Int a) (value.Int (pos 0)) v3 l r n w x) c)

look-0 : (a0 a1 a2 a3 m : ℤ) (ns : List ℤ) (k0 k1 k2 k3 : Option RefValue) → Looks 0 a0 k0 (kept a0 a1 a2 a3 m ns k0 k1 k2 k3)
look-0 a0 a1 a2 a3 m ns k0 k1 k2 k3 p v0 v1 v2 v3 l r n w x rest = looked (p + 1 + 1) 16 0 v0 (value.Int a0) v3 l r n w x (kept a0 a1 a2 a3 m ns k0 k1 k2 k3) rest (int_lt r a0)

look-1 : (a0 a1 a2 a3 m : ℤ) (ns : List ℤ) (k0 k1 k2 k3 : Option RefValue) → Looks 1 a1 k1 (kept a0 a1 a2 a3 m ns k0 k1 k2 k3)
look-1 a0 a1 a2 a3 m ns k0 k1 k2 k3 p v0 v1 v2 v3 l r n w x rest = looked (p + 1 + 1) 11 1 v0 (value.Int a1) v3 l r n w x (kept a0 a1 a2 a3 m ns k0 k1 k2 k3) rest (int_lt r a1)

look-2 : (a0 a1 a2 a3 m : ℤ) (ns : List ℤ) (k0 k1 k2 k3 : Option RefValue) → Looks 2 a2 k2 (kept a0 a1 a2 a3 m ns k0 k1 k2 k3)
look-2 a0 a1 a2 a3 m ns k0 k1 k2 k3 p v0 v1 v2 v3 l r n w x rest = looked (p + 1 + 1) 6 2 v0 (value.Int a2) v3 l r n w x (kept a0 a1 a2 a3 m ns k0 k1 k2 k3) rest (int_lt r a2)

look-3 : (a0 a1 a2 a3 m : ℤ) (ns : List ℤ) (k0 k1 k2 k3 : Option RefValue) → Looks 3 a3 k3 (kept a0 a1 a2 a3 m ns k0 k1 k2 k3)
look-3 a0 a1 a2 a3 m ns k0 k1 k2 k3 p v0 v1 v2 v3 l r n w x rest = looked (p + 1 + 1) 1 3 v0 (value.Int a3) v3 l r n w x (kept a0 a1 a2 a3 m ns k0 k1 k2 k3) rest (int_lt r a3)

pub rounds : (p : ℕ) (v0 v1 v2 v3 : Value) (l r n : ℤ) (w : List Value) (x : List (Option RefValue)) (a0 a1 a2 a3 m : ℤ) (ns : List ℤ) (k0 k1 k2 k3 : Option RefValue) (rest : List Stmt)
    → walk (event_round ++ rest) 0 (firing p v0 v1 v2 v3 l r n w x) (kept a0 a1 a2 a3 m ns k0 k1 k2 k3)
    ≡ cond (int_lt r a0) (copied p v0 v3 l r n w x (kept a0 a1 a2 a3 m ns k0 k1 k2 k3) a0 k0)
    (cond (int_lt r a1) (copied (past p) v0 v3 l r n w x (kept a0 a1 a2 a3 m ns k0 k1 k2 k3) a1 k1)
    (cond (int_lt r a2) (copied (past (past p)) v0 v3 l r n w x (kept a0 a1 a2 a3 m ns k0 k1 k2 k3) a2 k2)
    (cond (int_lt r a3) (copied (past (past (past p))) v0 v3 l r n w x (kept a0 a1 a2 a3 m ns k0 k1 k2 k3) a3 k3)
    (leaves (firing (past (past (past (past p))) + 1) v0 (value.Int a3) (value.Int (pos 0)) v3 l r n w x) (kept a0 a1 a2 a3 m ns k0 k1 k2 k3) (value.Int n)))))
rounds p v0 v1 v2 v3 l r n w x a0 a1 a2 a3 m ns k0 k1 k2 k3 rest =
    let c : Cells = kept a0 a1 a2 a3 m ns k0 k1 k2 k3 in
    let z : Value = value.Int (pos 0) in
    look-0 a0 a1 a2 a3 m ns k0 k1 k2 k3 p v0 v1 v2 v3 l r n w x (rest-0 rest)
    ∙ ap (λ (o : Outcome). cond (int_lt r a0) (copied p v0 v3 l r n w x c a0 k0) o)
    (look-1 a0 a1 a2 a3 m ns k0 k1 k2 k3 (past p) v0 (value.Int a0) z v3 l r n w x (rest-1 rest)
    ∙ ap (λ (o : Outcome). cond (int_lt r a1) (copied (past p) v0 v3 l r n w x c a1 k1) o)
    (look-2 a0 a1 a2 a3 m ns k0 k1 k2 k3 (past (past p)) v0 (value.Int a1) z v3 l r n w x (rest-2 rest)
    ∙ ap (λ (o : Outcome). cond (int_lt r a2) (copied (past (past p)) v0 v3 l r n w x c a2 k2) o)
    (look-3 a0 a1 a2 a3 m ns k0 k1 k2 k3 (past (past (past p))) v0 (value.Int a2) z v3 l r n w x (rest-3 rest))))

abbrev pub stopped : ℕ → (v0 v3 : Value) (l r n : ℤ) (w : List Value) (x : List (Option RefValue)) → Cells → ℤ → Outcome
stopped p v0 v3 l r n w x c a = leaves (firing (p + 1 + 1 + 1) v0 (value.Int a) (value.Int (pos 1)) v3 l r n w x) c (value.Int n)

abbrev pub called : ℕ → (v0 v3 : Value) (l n : ℤ) (w : List Value) (xs : List (Option RefValue)) → Cells → ℤ → Option RefValue → Outcome
called p v0 v3 l n w xs c a k = record {
  frame = firing (p + 1 + 2 + 1 + 1 + 1) v0 (value.Int a) (value.Int (pos 0)) v3 l a (int_wrapping_add w64 n (pos 1)) w (k ∷ xs);
  cells = c;
  action = action.Call k 1 0 (v0 ∷ []) (destination.Register 7);
}

sends : (p : ℕ) (v0 v3 : Value) (l r n : ℤ) (w : List Value) (k : Option RefValue) (xs : List (Option RefValue)) (c : Cells) (a : ℤ) (rest : List Stmt) (b : Bool)
    → walk (stmt.SkipZero 2 1 ∷ leave_register 6 ∷ stmt.Set 5 (register 1) ∷ stmt.Add 6 (int 1) ∷ stmt.Call 0 1 0 (arg.Op (register 0) ∷ []) (destination.Register 7) ∷ rest) 0
    (firing (p + 1) v0 (value.Int a) (truth b) v3 l r n w (k ∷ xs)) c
    ≡ cond b (stopped p v0 v3 l r n w (k ∷ xs) c a) (called p v0 v3 l n w xs c a k)
sends p v0 v3 l r n w k xs c a rest true = refl
sends p v0 v3 l r n w k xs c a rest false = refl

pub sent : (p : ℕ) (v0 v2 v3 : Value) (l r n : ℤ) (w : List Value) (k : Option RefValue) (xs : List (Option RefValue)) (c : Cells) (a : ℤ) (rest : List Stmt)
    → walk (send_event ++ rest) 0 (firing p v0 (value.Int a) v2 v3 l r n w (k ∷ xs)) c
    ≡ cond (int_lt l a) (stopped p v0 v3 l r n w (k ∷ xs) c a) (called p v0 v3 l n w xs c a k)
sent p v0 v2 v3 l r n w k xs c a rest = sends p v0 v3 l r n w k xs c a rest (int_lt l a)

-- A round begins at one place, and a sink that was found gets its event from another place on, wherever it was found.
abbrev pub GoesOn : ℕ → ℕ → List Stmt → Type 0
GoesOn q t rest = (v0 v1 v2 v3 : Value) (l r n : ℤ) (w : List Value) (x : List (Option RefValue)) (c : Cells)
    → body_step fire_body (firing q v0 v1 v2 v3 l r n w x) c ≡ walk (send_event ++ rest) 0 (firing t v0 v1 v2 v3 l r n w x) c

pub record Round (p t : ℕ) (rest : List Stmt) : Type 0 where
  pub begins : (v0 v1 v2 v3 : Value) (l r n : ℤ) (w : List Value) (x : List (Option RefValue)) (c : Cells)
      → body_step fire_body (firing p v0 v1 v2 v3 l r n w x) c ≡ walk (event_round ++ rest) 0 (firing p v0 v1 v2 v3 l r n w x) c
  pub at_0 : GoesOn (p + 1 + 1 + 1 + 1) t rest
  pub at_1 : GoesOn (past p + 1 + 1 + 1 + 1) t rest
  pub at_2 : GoesOn (past (past p) + 1 + 1 + 1 + 1) t rest
  pub at_3 : GoesOn (past (past (past p)) + 1 + 1 + 1 + 1) t rest

abbrev last-rest : List Stmt
last-rest = leave_register 6 ∷ []

pub round-0 : Round 3 24 (event_round ++ (event_round ++ (event_round ++ last-rest)))
round-0 = record {
  begins = λ v0 v1 v2 v3 l r n w x c. refl;
  at_0 = λ v0 v1 v2 v3 l r n w x c. refl;
  at_1 = λ v0 v1 v2 v3 l r n w x c. refl;
  at_2 = λ v0 v1 v2 v3 l r n w x c. refl;
  at_3 = λ v0 v1 v2 v3 l r n w x c. refl;
}

pub round-1 : Round 30 51 (event_round ++ (event_round ++ last-rest))
round-1 = record {
  begins = λ v0 v1 v2 v3 l r n w x c. refl;
  at_0 = λ v0 v1 v2 v3 l r n w x c. refl;
  at_1 = λ v0 v1 v2 v3 l r n w x c. refl;
  at_2 = λ v0 v1 v2 v3 l r n w x c. refl;
  at_3 = λ v0 v1 v2 v3 l r n w x c. refl;
}

pub round-2 : Round 57 78 (event_round ++ last-rest)
round-2 = record {
  begins = λ v0 v1 v2 v3 l r n w x c. refl;
  at_0 = λ v0 v1 v2 v3 l r n w x c. refl;
  at_1 = λ v0 v1 v2 v3 l r n w x c. refl;
  at_2 = λ v0 v1 v2 v3 l r n w x c. refl;
  at_3 = λ v0 v1 v2 v3 l r n w x c. refl;
}

pub round-3 : Round 84 105 last-rest
round-3 = record {
  begins = λ v0 v1 v2 v3 l r n w x c. refl;
  at_0 = λ v0 v1 v2 v3 l r n w x c. refl;
  at_1 = λ v0 v1 v2 v3 l r n w x c. refl;
  at_2 = λ v0 v1 v2 v3 l r n w x c. refl;
  at_3 = λ v0 v1 v2 v3 l r n w x c. refl;
}

-- What comes of a sink that was found: its cookie and reference.
abbrev pub found : ℕ → (v0 v3 : Value) (l r n : ℤ) (w : List Value) (xs : List (Option RefValue)) → Cells → ℤ → Option RefValue → Outcome
found t v0 v3 l r n w xs c a k =
    cond (int_lt l a) (stopped t v0 v3 l r n (slice_set w 8 no_number) (k ∷ xs) c a) (called t v0 v3 l n (slice_set w 8 no_number) xs c a k)

abbrev pub goes-alone : ℕ → Outcome → Outcome
goes-alone n r = goes_on (alone fire_body n) r r.action

one-found : (p q t : ℕ) (rest : List Stmt) (v0 v3 : Value) (l r n : ℤ) (w : List Value) (x : Option RefValue) (xs : List (Option RefValue)) (c : Cells) (a : ℤ) (k : Option RefValue)
    → GoesOn (q + 1 + 1 + 1 + 1) t rest → goes-alone 0 (copied q v0 v3 l r n w (x ∷ xs) c a k) ≡ found t v0 v3 l r n w xs c a k
one-found p q t rest v0 v3 l r n w x xs c a k g =
    g v0 (value.Int a) (value.Int (pos 1)) v3 l r n (slice_set w 8 no_number) (k ∷ xs) c
    ∙ sent t v0 (value.Int (pos 1)) v3 l r n (slice_set w 8 no_number) k xs c a rest

pub fires : (p t : ℕ) (rest : List Stmt) → Round p t rest → (v0 v1 v2 v3 : Value) (l r n : ℤ) (w : List Value) (x : Option RefValue) (xs : List (Option RefValue)) (a0 a1 a2 a3 m : ℤ) (ns : List ℤ) (k0 k1 k2 k3 : Option RefValue)
    → alone fire_body 1 (firing p v0 v1 v2 v3 l r n w (x ∷ xs)) (kept a0 a1 a2 a3 m ns k0 k1 k2 k3)
    ≡ cond (int_lt r a0) (found t v0 v3 l r n w xs (kept a0 a1 a2 a3 m ns k0 k1 k2 k3) a0 k0)
    (cond (int_lt r a1) (found t v0 v3 l r n w xs (kept a0 a1 a2 a3 m ns k0 k1 k2 k3) a1 k1)
    (cond (int_lt r a2) (found t v0 v3 l r n w xs (kept a0 a1 a2 a3 m ns k0 k1 k2 k3) a2 k2)
    (cond (int_lt r a3) (found t v0 v3 l r n w xs (kept a0 a1 a2 a3 m ns k0 k1 k2 k3) a3 k3)
    (leaves (firing (past (past (past (past p))) + 1) v0 (value.Int a3) (value.Int (pos 0)) v3 l r n w (x ∷ xs)) (kept a0 a1 a2 a3 m ns k0 k1 k2 k3) (value.Int n)))))
fires p t rest h v0 v1 v2 v3 l r n w x xs a0 a1 a2 a3 m ns k0 k1 k2 k3 =
    let c : Cells = kept a0 a1 a2 a3 m ns k0 k1 k2 k3 in
    let g : Outcome → Outcome = goes-alone 0 in
    let none : Outcome = leaves (firing (past (past (past (past p))) + 1) v0 (value.Int a3) (value.Int (pos 0)) v3 l r n w (x ∷ xs)) c (value.Int n) in
    let x0 : Outcome = copied p v0 v3 l r n w (x ∷ xs) c a0 k0 in
    let x1 : Outcome = copied (past p) v0 v3 l r n w (x ∷ xs) c a1 k1 in
    let x2 : Outcome = copied (past (past p)) v0 v3 l r n w (x ∷ xs) c a2 k2 in
    let x3 : Outcome = copied (past (past (past p))) v0 v3 l r n w (x ∷ xs) c a3 k3 in
    let y3 : Outcome = cond (int_lt r a3) x3 none in
    let y2 : Outcome = cond (int_lt r a2) x2 y3 in
    let y1 : Outcome = cond (int_lt r a1) x1 y2 in
    let z3 : Outcome = cond (int_lt r a3) (found t v0 v3 l r n w xs c a3 k3) none in
    let z2 : Outcome = cond (int_lt r a2) (found t v0 v3 l r n w xs c a2 k2) z3 in
    let z1 : Outcome = cond (int_lt r a1) (found t v0 v3 l r n w xs c a1 k1) z2 in
    let e3 : g y3 ≡ z3 = at-cond g (int_lt r a3) x3 none ∙ cond-both (int_lt r a3) (g x3) none (found t v0 v3 l r n w xs c a3 k3) none (one-found p (past (past (past p))) t rest v0 v3 l r n w x xs c a3 k3 h.at_3) refl in
    let e2 : g y2 ≡ z2 = at-cond g (int_lt r a2) x2 y3 ∙ cond-both (int_lt r a2) (g x2) (g y3) (found t v0 v3 l r n w xs c a2 k2) z3 (one-found p (past (past p)) t rest v0 v3 l r n w x xs c a2 k2 h.at_2) e3 in
    let e1 : g y1 ≡ z1 = at-cond g (int_lt r a1) x1 y2 ∙ cond-both (int_lt r a1) (g x1) (g y2) (found t v0 v3 l r n w xs c a1 k1) z2 (one-found p (past p) t rest v0 v3 l r n w x xs c a1 k1 h.at_1) e2 in
    ap g (h.begins v0 v1 v2 v3 l r n w (x ∷ xs) c ∙ rounds p v0 v1 v2 v3 l r n w (x ∷ xs) a0 a1 a2 a3 m ns k0 k1 k2 k3 rest)
    ∙ at-cond g (int_lt r a0) x0 y1 ∙ cond-both (int_lt r a0) (g x0) (g y1) (found t v0 v3 l r n w xs c a0 k0) z1 (one-found p p t rest v0 v3 l r n w x xs c a0 k0 h.at_0) e1

-- After four events nothing is looked at.
pub fires-no-more : (v0 v1 v2 v3 : Value) (l r n : ℤ) (w : List Value) (x : List (Option RefValue)) (c : Cells)
    → alone fire_body 1 (firing 111 v0 v1 v2 v3 l r n w x) c ≡ leaves (firing 112 v0 v1 v2 v3 l r n w x) c (value.Int n)
fires-no-more v0 v1 v2 v3 l r n w x c = refl
