-- A round of `fire`, where the cells keep sinks.
use Rattle.std.proofs.Common.{refl, sym, ap, subst, ◌∙◌, arith}
use Rattle.std.specs.Prelude.{◌≡◌, ℕ, zero, suc, ◌+◌, ◌*◌, ◌≤◌, ◌<◌, ℤ, pos, Bool, true, false, cond, nat_lt, List, [], ◌∷◌, length, slice_set, Option, Some, None}
use Rattle.std.specs.Int.{w64, int_wrapping_add}
use Rattle.com_base.specs.declared.value.RefValue.{RefValue}
use Rattle.com_base.specs.declared.value.Value.{Value}
use Rattle.com_base.specs.declared.value.Value.TheVariants as value
use Rattle.com_body.specs.declared.statements.Stmt.{Stmt}
use Rattle.com_body.specs.declared.frame.Cells.{Cells}
use Rattle.com_body.specs.declared.frame.Outcome.{Outcome}
use Rattle.com_body.specs.Frames.{FrameView, no_number, entered, with_register}
use Rattle.com_laws_sources.specs.Bodies.{ok, fire_body}
use Rattle.com_laws_sources.specs.Alone.{alone}
use Rattle.com_laws_sources.specs.Sinks.{Sink, above, first_between}
use Rattle.com_laws_sources.specs.Kept.{Keeps, cells_of}
use Rattle.com_laws_sources.specs.Rounds.{number, Leaves, AtRound, Begins, Fires}
use Rattle.com_laws_sources.proofs.Walks.{firing, past, leaves, stopped, called, found, Round, round-0, round-1, round-2, round-3, fires, fires-no-more}
use Rattle.com_laws_sources.proofs.Lists.{below-zero, next-cookie, at_most, between-above}

-- What a round gives, by the first sink above the cookie that was reached.
abbrev chosen : Outcome → (ℤ → Option RefValue → Outcome) → Option Sink → Outcome
chosen none some None = none
chosen none some (Some x) = some (pos x.cookie) x.held

-- So many places, looked at one after another.
abbrev looks : Outcome → (ℤ → Option RefValue → Outcome) → (reached : ℕ) → ℕ → List Sink → Outcome
looks none some r zero xs = none
looks none some r (suc n) [] = cond (nat_lt r 0) (some (pos 0) None) (looks none some r n [])
looks none some r (suc n) (x ∷ xs) = cond (nat_lt r x.cookie) (some (pos x.cookie) x.held) (looks none some r n xs)

looks-nothing : (none : Outcome) (some : ℤ → Option RefValue → Outcome) (r n : ℕ) → looks none some r n [] ≡ none
looks-nothing none some r zero = refl
looks-nothing none some r (suc n) = ap (λ (t : Bool). cond t (some (pos 0) None) (looks none some r n [])) (below-zero r) ∙ looks-nothing none some r n

choose-cond : (none : Outcome) (some : ℤ → Option RefValue → Outcome) (b : Bool) (x : Sink) (o : Option Sink) → cond b (some (pos x.cookie) x.held) (chosen none some o) ≡ chosen none some (cond b (Some x) o)
choose-cond none some true x o = refl
choose-cond none some false x o = refl

looks-above : (none : Outcome) (some : ℤ → Option RefValue → Outcome) (r n : ℕ) (xs : List Sink) → length xs ≤ n → looks none some r n xs ≡ chosen none some (above r xs)
looks-above none some r n [] h = looks-nothing none some r n
looks-above none some r zero (x ∷ xs) h = absurd (too-many h)
  where
    too-many : length (x ∷ xs) ≤ 0 → ⊥
    too-many h = omega (arith, h)
looks-above none some r (suc n) (x ∷ xs) h =
    ap (λ (o : Outcome). cond (nat_lt r x.cookie) (some (pos x.cookie) x.held) o) (looks-above none some r n xs (omega (arith, h)))
    ∙ choose-cond none some (nat_lt r x.cookie) x (above r xs)

-- The cells are those of the sinks.
abbrev FiresAt : (p t : ℕ) → (v0 v1 v2 v3 : Value) (l : ℤ) (r : ℕ) (n : ℤ) → List Value → Option RefValue → List (Option RefValue) → (m : ℕ) → List ℤ → List Sink → Type 0
FiresAt p t v0 v1 v2 v3 l r n w x xs m ns ps =
    (last : ℤ) × (alone fire_body 1 (firing p v0 v1 v2 v3 l (pos r) n w (x ∷ xs)) (cells_of ps m ns)
    ≡ chosen (leaves (firing (past (past (past (past p))) + 1) v0 (value.Int last) (value.Int (pos 0)) v3 l (pos r) n w (x ∷ xs)) (cells_of ps m ns) (value.Int n))
    (found t v0 v3 l (pos r) n w xs (cells_of ps m ns)) (above r ps))

fires-at : (p t : ℕ) (rest : List Stmt) → Round p t rest → (v0 v1 v2 v3 : Value) (l : ℤ) (r : ℕ) (n : ℤ) (w : List Value) (x : Option RefValue) (xs : List (Option RefValue)) (m : ℕ) (ns : List ℤ) (ps : List Sink) → length ps ≤ 4
    → FiresAt p t v0 v1 v2 v3 l r n w x xs m ns ps
fires-at p t rest h v0 v1 v2 v3 l r n w x xs m ns [] q =
    (pos 0, fires p t rest h v0 v1 v2 v3 l (pos r) n w x xs (pos 0) (pos 0) (pos 0) (pos 0) (pos m) ns None None None None ∙ looks-above _ (found t v0 v3 l (pos r) n w xs (cells_of [] m ns)) r 4 [] q)
fires-at p t rest h v0 v1 v2 v3 l r n w x xs m ns (a ∷ []) q =
    (pos 0, fires p t rest h v0 v1 v2 v3 l (pos r) n w x xs (pos a.cookie) (pos 0) (pos 0) (pos 0) (pos m) ns a.held None None None ∙ looks-above _ (found t v0 v3 l (pos r) n w xs (cells_of (a ∷ []) m ns)) r 4 (a ∷ []) q)
fires-at p t rest h v0 v1 v2 v3 l r n w x xs m ns (a ∷ b ∷ []) q =
    (pos 0, fires p t rest h v0 v1 v2 v3 l (pos r) n w x xs (pos a.cookie) (pos b.cookie) (pos 0) (pos 0) (pos m) ns a.held b.held None None ∙ looks-above _ (found t v0 v3 l (pos r) n w xs (cells_of (a ∷ b ∷ []) m ns)) r 4 (a ∷ b ∷ []) q)
fires-at p t rest h v0 v1 v2 v3 l r n w x xs m ns (a ∷ b ∷ c ∷ []) q =
    (pos 0, fires p t rest h v0 v1 v2 v3 l (pos r) n w x xs (pos a.cookie) (pos b.cookie) (pos c.cookie) (pos 0) (pos m) ns a.held b.held c.held None ∙ looks-above _ (found t v0 v3 l (pos r) n w xs (cells_of (a ∷ b ∷ c ∷ []) m ns)) r 4 (a ∷ b ∷ c ∷ []) q)
fires-at p t rest h v0 v1 v2 v3 l r n w x xs m ns (a ∷ b ∷ c ∷ d ∷ []) q =
    (pos d.cookie, fires p t rest h v0 v1 v2 v3 l (pos r) n w x xs (pos a.cookie) (pos b.cookie) (pos c.cookie) (pos d.cookie) (pos m) ns a.held b.held c.held d.held ∙ looks-above _ (found t v0 v3 l (pos r) n w xs (cells_of (a ∷ b ∷ c ∷ d ∷ []) m ns)) r 4 (a ∷ b ∷ c ∷ d ∷ []) q)
fires-at p t rest h v0 v1 v2 v3 l r n w x xs m ns (a ∷ b ∷ c ∷ d ∷ e ∷ ps) q = absurd (too-many q)
  where
    too-many : length (a ∷ b ∷ c ∷ d ∷ e ∷ ps) ≤ 4 → ⊥
    too-many q = omega (arith, q)

-- ---- the sentences

keeps-of : (ps : List Sink) (m : ℕ) (c : Cells) (k : Keeps c ps m) → Keeps (cells_of ps m k.rest) ps m
keeps-of ps m c k = record { rest = k.rest; cells = refl; few = k.few; rising = k.rising; fits = k.fits }

-- One of the four rounds, by its places.
abbrev RoundOf : (k : ℕ) → Type 0
RoundOf k = (event : Value) (last reached : ℕ) (f : FrameView) (c : Cells) (ps : List Sink) (m : ℕ) → AtRound f k event last reached → Keeps c ps m
    → Fires (alone fire_body 1 f c) k event last ps m (first_between reached last ps)

by-choice : (k p t : ℕ) (v0 v3 : Value) (last reached : ℕ) (w : List Value) (x : Option RefValue) (xs : List (Option RefValue)) (ps : List Sink) (m : ℕ) (c : Cells) (g : FrameView) → Keeps c ps m
    → int_wrapping_add w64 (pos k) (pos 1) ≡ pos (k + 1) → t + 1 + 2 + 1 + 1 + 1 ≡ 3 + 27 * (k + 1)
    → (o : Option Sink) → Fires (chosen (leaves g c (number k)) (found t v0 v3 (pos last) (pos reached) (pos k) w xs c) o) k v0 last ps m (at_most last o)
by-choice k p t v0 v3 last reached w x xs ps m c g h add place None = record { action = refl; keeps = h }
by-choice k p t v0 v3 last reached w x xs ps m c g h add place (Some y) =
    elim (nat_lt last y.cookie) as (λ b. Fires (cond b (stopped t v0 v3 (pos last) (pos reached) (pos k) (slice_set w 8 no_number) (y.held ∷ xs) c (pos y.cookie)) (called t v0 v3 (pos last) (pos k) (slice_set w 8 no_number) xs c (pos y.cookie) y.held)) k v0 last ps m (cond b None (Some y))) [
      | true ↦ record { action = refl; keeps = h }
      | false ↦ record {
        action = refl;
        keeps = h;
        next = record {
          first = number y.cookie;
          second = number 0;
          third = v3;
          others = slice_set w 8 no_number;
          slot = y.held;
          slots = xs;
          is = ap (λ (q : ℕ). firing q v0 (number y.cookie) (number 0) v3 (pos last) (pos y.cookie) (int_wrapping_add w64 (pos k) (pos 1)) (slice_set w 8 no_number) (y.held ∷ xs)) place
              ∙ ap (λ (z : ℤ). firing (3 + 27 * (k + 1)) v0 (number y.cookie) (number 0) v3 (pos last) (pos y.cookie) z (slice_set w 8 no_number) (y.held ∷ xs)) add;
        };
      }
    ]

round-of : (k p t : ℕ) (rest : List Stmt) → Round p t rest → 3 + 27 * k ≡ p → int_wrapping_add w64 (pos k) (pos 1) ≡ pos (k + 1) → t + 1 + 2 + 1 + 1 + 1 ≡ 3 + 27 * (k + 1) → RoundOf k
round-of k p t rest h start add place event last reached f c ps m at keep =
    let d : Cells = cells_of ps m keep.rest in
    let g : FrameView = firing p event at.first at.second at.third (pos last) (pos reached) (pos k) at.others (at.slot ∷ at.slots) in
    let same : f ≡ g = at.is ∙ ap (λ (q : ℕ). firing q event at.first at.second at.third (pos last) (pos reached) (pos k) at.others (at.slot ∷ at.slots)) start in
    let e : FiresAt p t event at.first at.second at.third (pos last) reached (pos k) at.others at.slot at.slots m keep.rest ps = fires-at p t rest h event at.first at.second at.third (pos last) reached (pos k) at.others at.slot at.slots m keep.rest ps keep.few in
    subst (λ (o : Option Sink). Fires (alone fire_body 1 f c) k event last ps m o) (sym (between-above reached last 0 m ps keep.rising))
    (subst (λ (f : FrameView). Fires (alone fire_body 1 f c) k event last ps m (at_most last (above reached ps))) (sym same)
    (subst (λ (c : Cells). Fires (alone fire_body 1 g c) k event last ps m (at_most last (above reached ps))) (sym keep.cells)
    (subst (λ (r : Outcome). Fires r k event last ps m (at_most last (above reached ps))) (sym e.1)
    (by-choice k p t event at.third last reached at.others at.slot at.slots ps m d _ (keeps-of ps m c keep) add place (above reached ps)))))

pub one-round : (k : ℕ) → k < 4 → RoundOf k
one-round zero h = round-of 0 3 24 _ round-0 refl (next-cookie 0 (omega arith)) refl
one-round (suc zero) h = round-of 1 30 51 _ round-1 refl (next-cookie 1 (omega arith)) refl
one-round (suc (suc zero)) h = round-of 2 57 78 _ round-2 refl (next-cookie 2 (omega arith)) refl
one-round (suc (suc (suc zero))) h = round-of 3 84 105 _ round-3 refl (next-cookie 3 (omega arith)) refl
one-round (suc (suc (suc (suc k)))) h = absurd (too-many k h)
  where
    too-many : (k : ℕ) → suc (suc (suc (suc k))) < 4 → ⊥
    too-many k h = omega (arith, h)

pub four-rounds : (event : Value) (last reached : ℕ) (f : FrameView) (c : Cells) (ps : List Sink) (m : ℕ) → AtRound f 4 event last reached → Keeps c ps m → Leaves (alone fire_body 1 f c) ok (Some (number 4)) ps m
four-rounds event last reached f c ps m at keep =
    subst (λ (f : FrameView). Leaves (alone fire_body 1 f c) ok (Some (number 4)) ps m) (sym at.is)
    (subst (λ (r : Outcome). Leaves r ok (Some (number 4)) ps m) (sym (fires-no-more event at.first at.second at.third (pos last) (pos reached) (pos 4) at.others (at.slot ∷ at.slots) c))
    (record { action = refl; keeps = keep }))

-- The body's first statements read the cookie that was given last.
abbrev first-frame : ℤ → ℕ → FrameView
first-frame n last = firing 3 (value.Int n) no_number no_number no_number (pos last) (pos 0) (pos 0) (no_number ∷ no_number ∷ no_number ∷ no_number ∷ no_number ∷ no_number ∷ no_number ∷ no_number ∷ no_number ∷ []) (None ∷ None ∷ None ∷ None ∷ None ∷ None ∷ None ∷ None ∷ [])

at-first : (n : ℤ) (last : ℕ) → AtRound (first-frame n last) 0 (value.Int n) last 0
at-first n last = record { first = no_number; second = no_number; third = no_number; others = no_number ∷ no_number ∷ no_number ∷ no_number ∷ no_number ∷ no_number ∷ no_number ∷ no_number ∷ no_number ∷ []; slot = None; slots = None ∷ None ∷ None ∷ None ∷ None ∷ None ∷ None ∷ []; is = refl }

same-first : (c : Cells) (ps : List Sink) (last : ℕ) (n : ℤ) (ns : List ℤ) → length ps ≤ 4 → alone fire_body 1 (entered (value.Int n ∷ [])) (cells_of ps last ns) ≡ alone fire_body 1 (first-frame n last) (cells_of ps last ns)
same-first z [] last n ns q = refl
same-first z (a ∷ []) last n ns q = refl
same-first z (a ∷ b ∷ []) last n ns q = refl
same-first z (a ∷ b ∷ c ∷ []) last n ns q = refl
same-first z (a ∷ b ∷ c ∷ d ∷ []) last n ns q = refl
same-first z (a ∷ b ∷ c ∷ d ∷ e ∷ ps) last n ns q = absurd (too-many q)
  where
    too-many : length (a ∷ b ∷ c ∷ d ∷ e ∷ ps) ≤ 4 → ⊥
    too-many q = omega (arith, q)

pub begins : (c : Cells) (ps : List Sink) (last : ℕ) (n : ℤ) → Keeps c ps last → Begins c n last
begins c ps last n k = record {
  frame = first-frame n last;
  at_round = at-first n last;
  same = subst (λ (c : Cells). alone fire_body 1 (entered (value.Int n ∷ [])) c ≡ alone fire_body 1 (first-frame n last) c) (sym k.cells) (same-first c ps last n k.rest k.few);
}

abbrev pub Stays : FrameView → (sent : ℕ) → Value → (last reached : ℕ) → (number : ℕ) → Value → Type 0
Stays f sent event last reached r v = AtRound (with_register f r v) sent event last reached

pub stays : (sent : ℕ) (event v : Value) (last reached : ℕ) (f : FrameView) → AtRound f sent event last reached → Stays f sent event last reached 7 v × Stays f sent event last reached 15 v
stays sent event v last reached f at = (
  record { first = at.first; second = at.second; third = at.third; others = slice_set at.others 0 v; slot = at.slot; slots = at.slots; is = ap (λ (f : FrameView). with_register f 7 v) at.is },
  record { first = at.first; second = at.second; third = at.third; others = slice_set at.others 8 v; slot = at.slot; slots = at.slots; is = ap (λ (f : FrameView). with_register f 15 v) at.is },
)
