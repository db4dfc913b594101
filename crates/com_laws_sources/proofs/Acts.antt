-- One entry by the body on top, where the body is one of a source.
use Rattle.std.proofs.Common.{refl, sym, ap, ap₂, subst, ◌∙◌, inl, inr, arith}
use Rattle.std.specs.Prelude.{◌≡◌, ℕ, zero, suc, ◌+◌, ◌≤◌, ◌<◌, ◌^◌, Bool, true, false, List, [], ◌∷◌, length, Option, Some, None}
use Rattle.com_base.specs.declared.hresult.HResult.{HResult}
use Rattle.com_base.specs.declared.value.RefValue.{RefValue}
use Rattle.com_base.specs.declared.value.Value.{Value}
use Rattle.com_body.specs.declared.statements.Stmt.{Stmt}
use Rattle.com_body.specs.declared.operands.Destination.{Destination}
use Rattle.com_body.specs.declared.operands.Destination.TheVariants as destination
use Rattle.com_body.specs.declared.actions.Action.{Action}
use Rattle.com_body.specs.declared.actions.Action.TheVariants as action
use Rattle.com_body.specs.declared.frame.Cells.{Cells}
use Rattle.com_body.specs.declared.frame.Outcome.{Outcome}
use Rattle.com_body.specs.Frames.{FrameView}
use Rattle.com_model.specs.declared.deeds.Deed.{Deed}
use Rattle.com_model.specs.declared.deeds.Deed.TheVariants as deed
use Rattle.com_model.specs.declared.deeds.Entry.{Entry}
use Rattle.com_model.specs.declared.deeds.Route.{Route}
use Rattle.com_model.specs.declared.scenario.Scenario.{Scenario}
use Rattle.com_model.specs.declared.keeps.Issue.{Issue}
use Rattle.com_model.specs.declared.keeps.Opener.{Opener}
use Rattle.com_model.specs.declared.keeps.Opener.TheVariants.{Enters}
use Rattle.com_model.specs.Answers.{is_S_OK}
use Rattle.com_model.specs.Openers.{openers}
use Rattle.com_model.specs.Objects.{class_of, named}
use Rattle.com_model.specs.Apartments.{ends_sta}
use Rattle.com_model.specs.Calls.{issue}
use Rattle.com_model.specs.Deeds.{object_in}
use Rattle.com_model.specs.Frames.{Scene, scene, actor_in, cut_links, is_leave}
use Rattle.com_model.specs.Formed.{Formed}
use Rattle.com_model.specs.Rules.{legal}
use Rattle.com_laws_balance.proofs.Bases.{top-among}
use Rattle.com_laws_balance.proofs.Counts.{Among}
use Rattle.com_laws_sources.specs.Alone.{alone}
use Rattle.com_laws_sources.specs.Bodies.{ok, fire_body}
use Rattle.com_laws_sources.specs.Histories.{is_on, Change, change, leaving, changed, sinks, one_taken, taken, last, reached, visited, next_sink}
use Rattle.com_laws_sources.specs.Kept.{Keeps}
use Rattle.com_laws_sources.specs.Rounds.{number, Leaves, AtRound, Sends, Fires}
use Rattle.com_laws_sources.specs.Runs.{began, Rest, Sits}
use Rattle.com_laws_sources.specs.Sinks.{Sink, first_between}
use Rattle.com_laws_sources.specs.Sources.{IsSource, fire}
use Rattle.com_laws_sources.specs.Steps.{step_of, body_for, left_alone, IsOut, IsLeave, result_of, StepsBy, GoesOn}
use Rattle.com_laws_sources.proofs.Around.{source-agile, open-sta, call-dest}
use Rattle.com_laws_sources.proofs.Between.{between, between-none}
use Rattle.com_laws_sources.proofs.Called.{Issued}
use Rattle.com_laws_sources.proofs.Fired.{one-round, four-rounds}
use Rattle.com_laws_sources.proofs.Framed.{goes-alone}
use Rattle.com_laws_sources.proofs.Runs.{IsPlain, alone-by, alone-is, plain-ends, GoesCase, top-case, not-true, legal-still}
use Rattle.com_laws_sources.proofs.Sitting.{ChangeBy, Comes, comes, open-counted, four-or-less}
use Rattle.com_laws_sources.proofs.Sourced.{sinks-after}
use Rattle.com_laws_sources.proofs.Stepped.{own-step, scene-is, after-body}
use Rattle.com_laws_sources.proofs.Told.{Firing, AtSeen, Due, keeps-same}

-- A copy and a release: they open and close nothing, and are neither an Out nor a Leave.
pub data Plain (d : Deed) : Type 0 where
  copies : (held : Option RefValue) → d ≡ deed.Copy held → Plain d
  releases : (held : Option RefValue) → d ≡ deed.Release held → Plain d

pub plain-is : (P : Deed → Type 0) (d : Deed) → Plain d → ((held : Option RefValue) → P (deed.Copy held)) → ((held : Option RefValue) → P (deed.Release held)) → P d
plain-is P d (copies held e) f g = subst P (sym e) (f held)
plain-is P d (releases held e) f g = subst P (sym e) (g held)

-- ---- a body that makes no call

pub record Left (d : Deed) (c : ℕ) (hr : HResult) (x : Option Value) : Type 0 where
  pub bytes : Option (List ℕ)
  pub is : d ≡ deed.Leave c hr x bytes

pub left-by : (d : Deed) (c : ℕ) (hr : HResult) (x : Option Value) → IsLeave d c hr x → Left d c hr x
left-by (deed.Leave k y v bytes) c hr x p = record {
  bytes = bytes;
  is = ap (λ (n : ℕ). deed.Leave n y v bytes) p.0 ∙ ap (λ (z : HResult). deed.Leave c z v bytes) p.1 ∙ ap (λ (z : Option Value). deed.Leave c hr z bytes) p.2;
}
left-by _ c hr x p = absurd p

-- What a Leave of the body leaves of the sinks.
pub record Ended (s : Scenario) (h : List Entry) (e : Entry) (o i c : ℕ) : Type 0 where
  pub hr : HResult
  pub value : Option Value
  pub left : Left e.deed c hr value
  pub keeps : Keeps ((scene s (e ∷ h)).cells o) (sinks (e ∷ h) o i) (taken (e ∷ h) o i)
  pub may : ChangeBy (change h o i e.deed) (taken h o i)

pub data SitCase (s : Scenario) (h : List Entry) (e : Entry) (o i c : ℕ) : Type 0 where
  sit_goes : Plain e.deed → SitCase s h e o i c
  sit_ends : Ended s h e o i c → SitCase s h e o i c

abbrev Sitting : Scenario → List Entry → Entry → (c o i : ℕ) → HResult → Option Value → List Sink → ℕ → Type 0
Sitting s h e c o i hr x after t =
    (d : ℕ) (y : HResult) (v : Option Value) (bytes : Option (List ℕ)) → e.deed ≡ deed.Leave d y v bytes → IsLeave e.deed c hr x × Keeps ((scene s (e ∷ h)).cells o) after t

sit-ended : (s : Scenario) (h : List Entry) (e : Entry) (o i c : ℕ) (y : Issue) (w : Comes s h c o i y) (k : ℕ) (g : HResult) (v : Option Value) (bytes : Option (List ℕ)) → e.deed ≡ deed.Leave k g v bytes
    → IsLeave e.deed c w.hr (result_of s h y w.hr w.given) × Keeps ((scene s (e ∷ h)).cells o) w.after w.last → Ended s h e o i c
sit-ended s h e o i c y w k g v bytes p z =
    let x : Option Value = result_of s h y w.hr w.given in
    let t : Left e.deed c w.hr x = left-by e.deed c w.hr x z.0 in
    let u : change h o i e.deed ≡ leaving h o i c (is_S_OK w.hr) x = ap (change h o i) t.is in record {
      hr = w.hr;
      value = x;
      left = t;
      keeps = keeps-same ((scene s (e ∷ h)).cells o) ((scene s (e ∷ h)).cells o) w.after (sinks (e ∷ h) o i) w.last (taken (e ∷ h) o i) refl
          (ap (λ (q : Change). changed q (sinks h o i)) u ∙ sym w.after_is) (ap (λ (q : Change). one_taken q (taken h o i)) u ∙ sym w.last_is) z.1;
      may = subst (λ (q : Change). ChangeBy q (taken h o i)) (sym u) w.may;
    }

sit-by : (s : Scenario) (h : List Entry) (e : Entry) (o i c n : ℕ) (y : Issue) (w : Comes s h c o i y) (z : Action) → GoesCase n z → StepsBy s h c o y (step_of s h c o y) e.deed (scene s (e ∷ h)) z
    → Sitting s h e c o i w.hr (result_of s h y w.hr w.given) w.after w.last → SitCase s h e o i c
sit-by s h e o i c n y w (action.Copy to held) g b f = sit_goes (copies held b.0)
sit-by s h e o i c n y w (action.Release from held) g b f = sit_goes (releases held b.0)
sit-by s h e o i c n y w (action.Leave hr x) g b f =
    let t : Left e.deed c hr (result_of s h y hr x) = left-by e.deed c hr (result_of s h y hr x) b.0 in
    sit_ends (sit-ended s h e o i c y w c hr (result_of s h y hr x) t.bytes t.is (f c hr (result_of s h y hr x) t.bytes t.is))
sit-by s h e o i c n y w _ g b f = absurd g

pub sit-case : (s : Scenario) (h : List Entry) (e : Entry) (o i c a : ℕ) (os : List Opener) → Formed s → legal s (e ∷ h) → length h < 2 ^ 63 → IsSource s (class_of h o) i → openers h e.lane ≡ Enters c o a ∷ os → Issued h c o → is_on (issue h c) o i fire ≡ false
    → Keeps (began s h c) (sinks h o i) (taken h o i) → SitCase s h e o i c
sit-case s h e o i c a os f q b p r y off k =
    let m : Among (Enters c o a) (openers h e.lane) = top-among c o a (openers h e.lane) os r in
    let count : taken h o i + 1 ≤ length h = open-counted h e.lane c o a i m in
    let w : Comes s h c o i y.of = comes s h e.lane c o a i y.of f q.0 p m y.is y.object off k (omega (arith, count, b)) in
    let t : Sits s h c o a y.of w.steps = record { sta = open-sta s h e.lane c o a i f q.0 p m; not_agile = source-agile s h o i p; issued = y.is; leaves = ap is_leave w.leaves.action } in
    let u : Rest s h c o y.of w.steps = legal-still s h f q.0 e.lane c o a os y.of w.steps r t in
    sit-by s h e o i c u.steps y.of w (step_of s h c o y.of).action (top-case s h c o a y.of w.steps t u) (own-step s h e q c o a os y.of r y.is)
    (λ d g v bytes z. sinks-after s h e f q c o a os y.of w.steps w.hr w.given w.after w.last r t w.leaves d g v bytes z)

-- ---- a body of `fire`

pub record OutParts (d : Deed) (held : Option RefValue) (i m : ℕ) : Type 0 where
  pub call : ℕ
  pub object : Option ℕ
  pub route : Route
  pub cause : ℕ
  pub bytes : Option (List ℕ)
  pub is : d ≡ deed.Out call object i m route cause bytes
  pub on : object ≡ object_in held

out-parts : (d : Deed) (held : Option RefValue) (i m : ℕ) → IsOut d held i m → OutParts d held i m
out-parts (deed.Out c x j n r k bytes) held i m p = record {
  call = c;
  object = x;
  route = r;
  cause = k;
  bytes = bytes;
  is = ap₂ (λ (j n : ℕ). deed.Out c x j n r k bytes) p.1 p.2;
  on = p.0;
}
out-parts _ held i m p = absurd p

-- The body calls the sink that is next, and waits at the round behind it.
pub record SentOut (s : Scenario) (h : List Entry) (e : Entry) (o i c : ℕ) : Type 0 where
  pub to : Sink
  pub next : next_sink h o i c ≡ Some to
  pub out : OutParts e.deed to.held 1 0
  pub keeps : Keeps ((scene s (e ∷ h)).cells o) (sinks h o i) (taken h o i)
  pub where_to : (scene s (e ∷ h)).destinations out.call ≡ destination.Register 7
  pub event : Value
  pub round : AtRound ((scene s (e ∷ h)).bodies c) (length (visited h o i c) + 1) event (last h o i c) to.cookie

pub record FireOver (s : Scenario) (h : List Entry) (e : Entry) (o i c : ℕ) (y : Issue) : Type 0 where
  pub none : next_sink h o i c ≡ None
  pub left : Left e.deed c ok (result_of s h y ok (Some (number (length (visited h o i c)))))
  pub keeps : Keeps ((scene s (e ∷ h)).cells o) (sinks h o i) (taken h o i)

-- The body goes on to its round, with the same of all that is said of it.
pub record FireGoes (s : Scenario) (h : List Entry) (e : Entry) (o i c : ℕ) : Type 0 where
  pub plain : Plain e.deed
  pub event : Value
  pub frame : FrameView
  pub cells : Cells
  pub steps : ℕ
  pub at : AtSeen frame event (last h o i c) (visited h o i c)
  pub keeps : Keeps cells (sinks h o i) (taken h o i)
  pub same : alone fire_body steps ((scene s (e ∷ h)).bodies c) ((scene s (e ∷ h)).cells o) ≡ alone fire_body 1 frame cells

pub data FireCase (s : Scenario) (h : List Entry) (e : Entry) (o i c : ℕ) (y : Issue) : Type 0 where
  fire_goes : FireGoes s h e o i c → FireCase s h e o i c y
  fire_sends : SentOut s h e o i c → FireCase s h e o i c y
  fire_ends : FireOver s h e o i c y → FireCase s h e o i c y

-- Which actions a body may come to that calls or leaves by itself.
abbrev is_end : Action → Bool
is_end (action.Call held i m args to) = true
is_end (action.Leave hr v) = true
is_end _ = false

abbrev EndCase : ℕ → Action → Type 0
EndCase m (action.Copy to held) = (k : ℕ) × (m ≡ suc k)
EndCase m (action.Release from held) = (k : ℕ) × (m ≡ suc k)
EndCase m (action.Call held i n args to) = Unit {0}
EndCase m (action.Leave hr v) = Unit {0}
EndCase m _ = ⊥

is-ending : (r : Outcome) (x : Action) → r.action ≡ x → is_end r.action ≡ true → is_end x ≡ true
is-ending r x e p = subst (λ (y : Action). is_end y ≡ true) e p

plain-end : (b : List Stmt) (m : ℕ) (r : Outcome) (x : Action) → IsPlain x → r.action ≡ x → is_end (alone-by b m r x).action ≡ true → is_end x ≡ true
plain-end b m r x k e p = is-ending r x e (subst (λ (y : Outcome). is_end y.action ≡ true) (plain-ends b m r x k) p)

end-case : (b : List Stmt) (m : ℕ) (r : Outcome) (x : Action) → r.action ≡ x → is_end (alone-by b m r x).action ≡ true → EndCase m x
end-case b zero r (action.Copy to held) e p = absurd (not-true (is-ending r (action.Copy to held) e p))
end-case b (suc k) r (action.Copy to held) e p = (k, refl)
end-case b zero r (action.Release from held) e p = absurd (not-true (is-ending r (action.Release from held) e p))
end-case b (suc k) r (action.Release from held) e p = (k, refl)
end-case b m r (action.Call held i n args to) e p = tt
end-case b m r (action.Leave hr v) e p = tt
end-case b m r x e p = absurd (not-true (plain-end b m r x tt e p))

fires-end : (r : Outcome) (n : ℕ) (event : Value) (l : ℕ) (xs : List Sink) (t : ℕ) (x : Option Sink) → Fires r n event l xs t x → is_end r.action ≡ true
fires-end r n event l xs t None w = ap is_end w.action
fires-end r n event l xs t (Some to) w = ap is_end w.action

-- After four events no sink is left.
fires-now : (n : ℕ) (event : Value) (l r t : ℕ) (f : FrameView) (d : Cells) (xs : List Sink) → n + between r l xs ≤ 4 → AtRound f n event l r → Keeps d xs t → Fires (alone fire_body 1 f d) n event l xs t (first_between r l xs)
fires-now n event l r t f d xs w at k =
    elim (four-or-less n (omega (arith, w))) as (λ _. Fires (alone fire_body 1 f d) n event l xs t (first_between r l xs)) [
      | inl z ↦ one-round n z event l r f d xs t at k
      | inr z ↦ subst (λ (x : Option Sink). Fires (alone fire_body 1 f d) n event l xs t x) (sym (between-none r l xs (omega (arith, w, z))))
          (subst (λ (m : ℕ). AtRound f m event l r → Leaves (alone fire_body 1 f d) ok (Some (number m)) xs t) (sym z) (λ a. four-rounds event l r f d xs t a k) at)
    ]

fire-goes : (s : Scenario) (h : List Entry) (e : Entry) (o i c k : ℕ) (y : Issue) (w : Firing s h o i c) → body_for s h o y ≡ fire_body → w.steps ≡ suc k → Plain e.deed
    → alone (body_for s h o y) k ((scene s (e ∷ h)).bodies c) ((scene s (e ∷ h)).cells o) ≡ left_alone s h c o y k → FireGoes s h e o i c
fire-goes s h e o i c k y w b n p g = record {
  plain = p;
  event = w.event;
  frame = w.frame;
  cells = w.cells;
  steps = k;
  at = w.at;
  keeps = w.keeps;
  same = ap (λ (z : List Stmt). alone z k ((scene s (e ∷ h)).bodies c) ((scene s (e ∷ h)).cells o)) (sym b) ∙ g
      ∙ ap (λ (z : List Stmt). alone z (suc k) ((scene s h).bodies c) ((scene s h).cells o)) b
      ∙ ap (λ (m : ℕ). alone fire_body m ((scene s h).bodies c) ((scene s h).cells o)) (sym n) ∙ w.same;
}

call-same : (held x : Option RefValue) (j m i n : ℕ) (args vs : List Value) (to z : Destination) → action.Call held j m args to ≡ action.Call x i n vs z → (held ≡ x) × ((j ≡ i) × ((m ≡ n) × (to ≡ z)))
call-same held x j m i n args vs to z e = (cc, (cc, (cc, cc)))

leave-same : (hr y : HResult) (x v : Option Value) → action.Leave hr x ≡ action.Leave y v → (hr ≡ y) × (x ≡ v)
leave-same hr y x v e = (cc, cc)

not-leave : (held : Option RefValue) (j m : ℕ) (args : List Value) (to : Destination) (hr : HResult) (x : Option Value) → action.Call held j m args to ≡ action.Leave hr x → ⊥
not-leave held j m args to hr x e = cc

sent-out : (s : Scenario) (h : List Entry) (e : Entry) (o i c a : ℕ) (os : List Opener) (y : Issue) (held : Option RefValue) (j m : ℕ) (args : List Value) (to : Destination) (x : Outcome) (event : Value) (t : Sink) → openers h e.lane ≡ Enters c o a ∷ os → issue h c ≡ Some y
    → next_sink h o i c ≡ Some t → (step_of s h c o y).action ≡ action.Call held j m args to → IsOut e.deed held j m → (scene s (e ∷ h)).bodies c ≡ (step_of s h c o y).frame → (scene s (e ∷ h)).cells o ≡ (step_of s h c o y).cells
    → step_of s h c o y ≡ x → Sends x (length (visited h o i c)) event (last h o i c) t (sinks h o i) (taken h o i) → SentOut s h e o i c
sent-out s h e o i c a os y held j m args to x event t r z n act out frame cells same w =
    let u : (held ≡ t.held) × ((j ≡ 1) × ((m ≡ 0) × (to ≡ destination.Register 7))) =
    call-same held t.held j m 1 0 args (event ∷ []) to (destination.Register 7) (sym act ∙ ap (λ (q : Outcome). q.action) same ∙ w.action) in
    let p : OutParts e.deed t.held 1 0 = out-parts e.deed t.held 1 0 (subst (λ (q : Option RefValue). IsOut e.deed q 1 0) u.0 (subst (λ (q : ℕ). IsOut e.deed held q 0) u.1.0 (subst (λ (q : ℕ). IsOut e.deed held j q) u.1.1.0 out))) in record {
      to = t;
      next = n;
      out = p;
      keeps = subst (λ (d : Cells). Keeps d (sinks h o i) (taken h o i)) (sym (cells ∙ ap (λ (q : Outcome). q.cells) same)) w.keeps;
      where_to = ap (λ (q : Scene). q.destinations p.call) (scene-is s h e c o a os y r z)
          ∙ subst (λ (d : Deed). (cut_links (named h) (ends_sta d) (after-body c o (step_of s h c o y) (actor_in s (e ∷ h) e.lane) e.lane d (scene s h))).destinations p.call ≡ to) (sym p.is)
          (call-dest c o (step_of s h c o y) (actor_in s (e ∷ h) e.lane) e.lane p.call p.object 1 0 p.route p.cause p.bytes (named h) (scene s h) held j m args to act)
          ∙ u.1.1.1;
      event = event;
      round = subst (λ (f : FrameView). AtRound f (length (visited h o i c) + 1) event (last h o i c) t.cookie) (sym (frame ∙ ap (λ (q : Outcome). q.frame) same)) w.next;
    }

fire-over : (s : Scenario) (h : List Entry) (e : Entry) (o i c : ℕ) (y : Issue) (hr : HResult) (v : Option Value) (x : Outcome) → next_sink h o i c ≡ None → (step_of s h c o y).action ≡ action.Leave hr v → IsLeave e.deed c hr (result_of s h y hr v)
    → (scene s (e ∷ h)).cells o ≡ (step_of s h c o y).cells → step_of s h c o y ≡ x → Leaves x ok (Some (number (length (visited h o i c)))) (sinks h o i) (taken h o i) → FireOver s h e o i c y
fire-over s h e o i c y hr v x n act out cells same w =
    let u : (hr ≡ ok) × (v ≡ Some (number (length (visited h o i c)))) = leave-same hr ok v (Some (number (length (visited h o i c)))) (sym act ∙ ap (λ (q : Outcome). q.action) same ∙ w.action) in record {
      none = n;
      left = left-by e.deed c ok (result_of s h y ok (Some (number (length (visited h o i c)))))
          (subst (λ (g : HResult). IsLeave e.deed c g (result_of s h y g (Some (number (length (visited h o i c)))))) u.0 (subst (λ (q : Option Value). IsLeave e.deed c hr (result_of s h y hr q)) u.1 out));
      keeps = subst (λ (d : Cells). Keeps d (sinks h o i) (taken h o i)) (sym (cells ∙ ap (λ (q : Outcome). q.cells) same)) w.keeps;
    }

abbrev NowFires : List Entry → (o i c : ℕ) → Value → Outcome → Option Sink → Type 0
NowFires h o i c event x n = Fires x (length (visited h o i c)) event (last h o i c) (sinks h o i) (taken h o i) n

fire-by : (s : Scenario) (h : List Entry) (e : Entry) (o i c a : ℕ) (os : List Opener) (y : Issue) (w : Firing s h o i c) (x : Outcome) (z : Action) (n : Option Sink) → openers h e.lane ≡ Enters c o a ∷ os → issue h c ≡ Some y → body_for s h o y ≡ fire_body
    → (step_of s h c o y).action ≡ z → EndCase w.steps z → StepsBy s h c o y (step_of s h c o y) e.deed (scene s (e ∷ h)) z → ((k : ℕ) → GoesOn s h e c o y k z) → (IsPlain z → step_of s h c o y ≡ x)
    → next_sink h o i c ≡ n → NowFires h o i c w.event x n → FireCase s h e o i c y
fire-by s h e o i c a os y w x (action.Copy to held) n r j b act g t f same m k = fire_goes (fire-goes s h e o i c g.0 y w b g.1 (copies held t.0) (f g.0))
fire-by s h e o i c a os y w x (action.Release from held) n r j b act g t f same m k = fire_goes (fire-goes s h e o i c g.0 y w b g.1 (releases held t.0) (f g.0))
fire-by s h e o i c a os y w x (action.Call held d v args to) (Some p) r j b act g t f same m k =
    fire_sends (sent-out s h e o i c a os y held d v args to x w.event p r j m act t.0 t.1 t.2 (same tt) k)
fire-by s h e o i c a os y w x (action.Call held d v args to) None r j b act g t f same m k =
    absurd (not-leave held d v args to ok (Some (number (length (visited h o i c)))) (sym act ∙ ap (λ (q : Outcome). q.action) (same tt) ∙ k.action))
fire-by s h e o i c a os y w x (action.Leave hr v) None r j b act g t f same m k =
    fire_ends (fire-over s h e o i c y hr v x m act t.0 t.1 (same tt) k)
fire-by s h e o i c a os y w x (action.Leave hr v) (Some p) r j b act g t f same m k =
    absurd (not-leave p.held 1 0 (w.event ∷ []) (destination.Register 7) hr v (sym k.action ∙ ap (λ (q : Outcome). q.action) (sym (same tt)) ∙ act))
fire-by s h e o i c a os y w x _ n r j b act g t f same m k = absurd g

pub fire-case : (s : Scenario) (h : List Entry) (e : Entry) (o i c a : ℕ) (os : List Opener) (y : Issue) → legal s (e ∷ h) → openers h e.lane ≡ Enters c o a ∷ os → issue h c ≡ Some y → body_for s h o y ≡ fire_body → Due h o i c → Firing s h o i c → FireCase s h e o i c y
fire-case s h e o i c a os y q r j b d w =
    let x : Outcome = alone fire_body 1 w.frame w.cells in
    let z : Action = (step_of s h c o y).action in
    let few : length (visited h o i c) + between (reached (visited h o i c)) (last h o i c) (sinks h o i) ≤ 4 = d.few in
    let k : NowFires h o i c w.event x (next_sink h o i c) = fires-now (length (visited h o i c)) w.event (last h o i c) (reached (visited h o i c)) (taken h o i) w.frame w.cells (sinks h o i) few w.at w.keeps in
    let same : alone-by (body_for s h o y) w.steps (step_of s h c o y) z ≡ x =
    sym (alone-is (body_for s h o y) w.steps ((scene s h).bodies c) ((scene s h).cells o)) ∙ ap (λ (u : List Stmt). alone u w.steps ((scene s h).bodies c) ((scene s h).cells o)) b ∙ w.same in
    let end : is_end (alone-by (body_for s h o y) w.steps (step_of s h c o y) z).action ≡ true =
    subst (λ (u : Outcome). is_end u.action ≡ true) (sym same) (fires-end x (length (visited h o i c)) w.event (last h o i c) (sinks h o i) (taken h o i) (next_sink h o i c) k) in
    fire-by s h e o i c a os y w x z (next_sink h o i c) r j b refl (end-case (body_for s h o y) w.steps (step_of s h c o y) z refl end) (own-step s h e q c o a os y r j)
    (λ m. goes-alone s h e q c o a os y m r j) (λ p. sym (plain-ends (body_for s h o y) w.steps (step_of s h c o y) z p) ∙ same) refl k
