-- What is held was made.
use Rattle.std.proofs.Common.{◌≡◌, ℕ, true, false, eqb, cond, ◌+◌, ◌<◌, ◌≤◌, ◌||◌, List, [], ◌∷◌, length, refl}
use Rattle.com_stub.specs.declared.StubRow.{StubRow}
use Rattle.com_stub.specs.StubRows.{is_connected, has_stub, stub_of}
use Rattle.com_refs_holders.specs.Tables.{Tables, books_of, direct_in}
use Rattle.com_refs_holders.specs.Stands.{Known}
use Rattle.com_refs_holders.proofs.Issues.{direct_made}
use Rattle.com_refs.specs.Counts.{holders_of, outside_of}

-- An object that is connected has a stub.
has-stub : (rs : List StubRow) (o : ℕ) → is_connected rs o ≡ true → has_stub rs o ≡ true
has-stub [] o h = absurd (let no : false ≡ true = h in cc)
has-stub (r ∷ rs) o h = elim (eqb r.object o) as (λ b. (cond b r (stub_of rs o)).is_connected ≡ true → (b || has_stub rs o) ≡ true) [
  | true ↦ λ h. refl
  | false ↦ λ h. has-stub rs o h
] h

pub held_made : (t : Tables) (o : ℕ) → Known t → 0 < holders_of t o → o ≤ length t.objects
unfolding books_of
held_made t o k h = elim (is_connected t.stubs o) as (λ b. is_connected t.stubs o ≡ b → 0 < (cond b (direct_in t o + outside_of t o) (direct_in t o)) → o ≤ length t.objects) [
  | true ↦ λ e h. k.stubs o (has-stub t.stubs o e)
  | false ↦ λ e h. (direct_made t.objects o h).1
] refl h
