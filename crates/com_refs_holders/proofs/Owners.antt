-- All objects of an owner, one after another.
use Rattle.std.proofs.Common.{◌≡◌, ℕ, zero, suc, true, false, eqb, not, ◌&&◌, ◌+◌, ◌^◌, ◌<◌, ◌≤◌, List, length, refl, ap, ◌∙◌, arith, eqb-true}
use Rattle.std.proofs.lemmas.List.{length-map}
use Rattle.std.proofs.lemmas.Grind.{common_steps}
use Rattle.std.specs.Prelude.{slice_index, Option, Some, None}
use Rattle.com_keyed.specs.Indices.{IsLatest}
use Rattle.com_keyed.proofs.Walking.{Walks, walk_ends, walk_goes_on, walk_weaker, walk_inside, walk_at}
use Rattle.com_stub.specs.declared.StubRow.{StubRow}
use Rattle.com_stub.specs.StubRows.{is_connected, ended_rows}
use Rattle.com_refs_holders.specs.declared.TheConstants.{MOST_ISSUED}
use Rattle.com_refs_holders.specs.declared.ObjectRow.{ObjectRow}
use Rattle.com_refs_holders.specs.Stands.{IsHolders}
use Rattle.com_refs_holders.specs.Tables.{Tables, is_owned, owners_of}
use Rattle.com_refs_holders.proofs.Cuts.{ended_connected}

module _ (keys : List ℕ) (a : ℕ) where
  owned-here : (p : ℕ) → p < length keys → slice_index keys p ≡ a → is_owned keys a (p + 1) ≡ true
  owned-here p h k = let e : p + 1 ≡ suc p = omega arith in rw e (grind (arith, common_steps, h, k))

  still-off : (rs : List StubRow) (o x : ℕ) → is_connected rs x ≡ false → is_connected (ended_rows o rs) x ≡ false
  still-off rs o x h = ended_connected rs o x ∙ ap (λ b. b && not (eqb x o)) h

  pub owners_go_on : (rs : List StubRow) (at next : Option ℕ) (place : ℕ) → Walks keys a (λ p. is_connected rs (p + 1) ≡ false) at → at ≡ Some place → IsLatest keys (slice_index keys place) place next
      → Walks keys a (λ p. is_connected (ended_rows (place + 1) rs) (p + 1) ≡ false) next
  owners_go_on rs at next place w is l =
      walk_goes_on keys a (λ p. is_connected (ended_rows (place + 1) rs) (p + 1) ≡ false) at next place
      (walk_weaker keys a (λ p. is_connected rs (p + 1) ≡ false) at (λ p. is_connected (ended_rows (place + 1) rs) (p + 1) ≡ false) w (λ p. still-off rs (place + 1) (p + 1)))
      is (ended_connected rs (place + 1) (place + 1) ∙ grind (arith, common_steps)) l

  pub others_stay : (rs : List StubRow) (at : Option ℕ) (place x : ℕ) → Walks keys a (λ p. is_connected rs (p + 1) ≡ false) at → at ≡ Some place → is_owned keys a x ≡ false → is_connected (ended_rows (place + 1) rs) x ≡ is_connected rs x
  others_stay rs at place x w is h =
      let own : is_owned keys a (place + 1) ≡ true = owned-here place (walk_inside keys a _ at place w is) (walk_at keys a _ at place w is) in
      ended_connected rs (place + 1) x ∙ (elim (eqb x (place + 1)) as (λ t. eqb x (place + 1) ≡ t → is_connected rs x && not t ≡ is_connected rs x) [
        | true ↦ λ e. let same : x ≡ place + 1 = eqb-true x (place + 1) e in let yes : is_owned keys a x ≡ true = rw same own in absurd (cc)
        | false ↦ λ e. grind (arith, common_steps)
      ] refl)

  pub owners_end : (rs now : List StubRow) (at : Option ℕ) → Walks keys a (λ p. is_connected now (p + 1) ≡ false) at → at ≡ None → ((x : ℕ) → is_owned keys a x ≡ false → is_connected now x ≡ is_connected rs x)
      → (x : ℕ) → is_connected now x ≡ is_connected rs x && not (is_owned keys a x)
  owners_end rs now at w is others zero = others zero refl ∙ grind (arith, common_steps)
  owners_end rs now at w is others (suc p) = elim (is_owned keys a (suc p)) as (λ t. is_owned keys a (suc p) ≡ t → is_connected now (suc p) ≡ is_connected rs (suc p) && not t) [
    | true ↦ λ e.
        let inside : p < length keys = grind (arith, common_steps, e) in
        let keyed : slice_index keys p ≡ a = grind (arith, common_steps, e) in
        let off : is_connected now (p + 1) ≡ false = walk_ends keys a _ at w is p inside keyed in
        let next : p + 1 ≡ suc p = omega arith in
        rw next at off ∙ grind (arith, common_steps)
    | false ↦ λ e. others (suc p) e ∙ grind (arith, common_steps)
  ] refl

pub owners_length : (t : Tables) → IsHolders t → t.issued ≤ MOST_ISSUED → length (owners_of t.objects) < 2 ^ 32
owners_length t s few = omega (arith, few, s.bounded.objects, length-map t.objects (λ (r : ObjectRow). r.owner))
