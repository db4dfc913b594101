-- The rows of deeds whose operands are there, or are not.
use Rattle.std.proofs.Common.{◌≡◌, ℕ, Bool, cond, List, [], ◌∷◌, refl, sym, ap, subst, ◌∙◌}
use Rattle.std.proofs.lemmas.Bool.{ne_eqb}
use Rattle.std.specs.Prelude.{Option, Some, None}
use Rattle.com_base.specs.declared.hresult.HResult.{HResult}
use Rattle.com_base.specs.declared.value.RefValue.{RefValue}
use Rattle.com_base.specs.declared.value.MarshalMode.{MarshalMode}
use Rattle.com_body.specs.declared.actions.Action.{Action}
use Rattle.com_body.specs.declared.operands.Asked.{Asked}
use Rattle.com_body.specs.declared.operands.Asked.TheVariants as asked
use Rattle.com_refs_books.specs.Changes.{Books, Row, Asks, Marshals, Registers}
use Rattle.com_refs_holders.specs.Tables.{Tables}
use Rattle.com_model.specs.declared.deeds.Deed.TheVariants as deed
use Rattle.com_model.specs.declared.scenario.Scenario.{Scenario}
use Rattle.com_model.specs.Books.{rows}
use Rattle.com_reference_moves.specs.declared.moves.Move.{Move}
use Rattle.com_refs_rows.specs.Books.{Gained}
use Rattle.com_refs_rows.proofs.Cutting.{same_rows}
use Rattle.com_refs_rows.proofs.Gaining.{gained_none}

pub no_some : {A : Type 0} (o : Option A) → ((x : A) → o ≡ Some x → ⊥) → o ≡ None
no_some None p = refl
no_some (Some x) p = absurd (p x refl)

pub gained_as : (a : ℕ) (rs ss : List Row) (t u : Tables) (xs ys : List Move) → ss ≡ rs → Gained a rs t u xs ys → Gained a ss t u xs ys
gained_as a rs ss t u xs ys e f = subst (λ (l : List Row). Gained a l t u xs ys) (sym e) f

-- No row, and nothing happened.
pub gained_nil : (a : ℕ) (rs : List Row) (t : Tables) (xs : List Move) → rs ≡ [] → Gained a rs t t xs xs
gained_nil a rs t xs e = gained_as a [] rs t t xs xs e (gained_none a t xs (same_rows t t refl refl))

module _ (s : Scenario) (x : Option Action) (left : ℕ → Bool) (b : Books) (a : ℕ) where
  pub marshal_none : (p : Option ℕ) (m : MarshalMode) (held : Option RefValue) (n : ℕ) (hr : HResult) (bytes : Option (List ℕ)) → p ≡ None → rows s x left b a (deed.Marshal p m held n hr bytes) ≡ []
  marshal_none p m held n hr bytes e = ap (λ (q : Option ℕ). rows s x left b a (deed.Marshal q m held n hr bytes)) e

  pub marshal_unheld : (p : Option ℕ) (m : MarshalMode) (held : Option RefValue) (n : ℕ) (hr : HResult) (bytes : Option (List ℕ)) → held ≡ None → rows s x left b a (deed.Marshal p m held n hr bytes) ≡ []
  marshal_unheld p m held n hr bytes e = ap (λ (h : Option RefValue). rows s x left b a (deed.Marshal p m h n hr bytes)) e ∙ by-packet p
    where
      by-packet : (q : Option ℕ) → rows s x left b a (deed.Marshal q m None n hr bytes) ≡ []
      by-packet None = refl
      by-packet (Some k) = refl

  pub marshal_one : (p : Option ℕ) (m : MarshalMode) (held : Option RefValue) (n : ℕ) (hr : HResult) (bytes : Option (List ℕ)) (k : ℕ) (r : RefValue) → p ≡ Some k → held ≡ Some r → rows s x left b a (deed.Marshal p m held n hr bytes) ≡ Marshals a m r.object r.iface ∷ []
  marshal_one p m held n hr bytes k r e f = ap (λ (q : Option ℕ). rows s x left b a (deed.Marshal q m held n hr bytes)) e ∙ ap (λ (h : Option RefValue). rows s x left b a (deed.Marshal (Some k) m h n hr bytes)) f

  pub register_none : (p : Option ℕ) (held : Option RefValue) (hr : HResult) → p ≡ None → rows s x left b a (deed.Register p held hr) ≡ []
  register_none p held hr e = ap (λ (q : Option ℕ). rows s x left b a (deed.Register q held hr)) e

  pub register_unheld : (p : Option ℕ) (held : Option RefValue) (hr : HResult) → held ≡ None → rows s x left b a (deed.Register p held hr) ≡ []
  register_unheld p held hr e = ap (λ (h : Option RefValue). rows s x left b a (deed.Register p h hr)) e ∙ by-cookie p
    where
      by-cookie : (q : Option ℕ) → rows s x left b a (deed.Register q None hr) ≡ []
      by-cookie None = refl
      by-cookie (Some k) = refl

  pub register_one : (p : Option ℕ) (held : Option RefValue) (hr : HResult) (k : ℕ) (r : RefValue) → p ≡ Some k → held ≡ Some r → rows s x left b a (deed.Register p held hr) ≡ Registers r.object r.iface ∷ []
  register_one p held hr k r e f = ap (λ (q : Option ℕ). rows s x left b a (deed.Register q held hr)) e ∙ ap (λ (h : Option RefValue). rows s x left b a (deed.Register (Some k) h hr)) f

  pub query_none : (o : Option ℕ) (i : Asked) (hr : HResult) → o ≡ None → rows s x left b a (deed.Query o i hr) ≡ []
  query_none o i hr e = ap (λ (q : Option ℕ). rows s x left b a (deed.Query q i hr)) e

  pub query_other : (o : Option ℕ) (i : Asked) (hr : HResult) → ((n : ℕ) → i ≡ asked.Number n → ⊥) → rows s x left b a (deed.Query o i hr) ≡ []
  query_other None i hr h = refl
  query_other (Some o) (asked.Guid g) hr h = refl
  query_other (Some o) (asked.Number n) hr h = absurd (h n refl)

  pub query_failed : (o : Option ℕ) (i : Asked) (hr : HResult) → (hr.0 ≡ 0 → ⊥) → rows s x left b a (deed.Query o i hr) ≡ []
  query_failed None i hr h = refl
  query_failed (Some o) (asked.Guid g) hr h = refl
  query_failed (Some o) (asked.Number n) hr h = ap (λ (w : Bool). cond w (Asks a o n ∷ []) []) (ne_eqb hr.0 0 h)
