-- What the rows of one object add to the sum of its public references.
use Rattle.std.proofs.Common.{◌≡◌, ℕ, ◌<◌, List, length, ◌∙◌, sym, ap, arith}
use Rattle.std.specs.Prelude.{slice_index}
use Rattle.std.proofs.lemmas.List.{length-map}
use Rattle.com_proxy.specs.declared.ProxyRow.{ProxyRow}
use Rattle.com_proxy.specs.Rows.{public_any, row_at, objects_of}
use Rattle.com_proxy.proofs.Rows.{key_at}

module _ (rs : List ProxyRow) (keys : List ℕ) where
  pub as_many : keys ≡ objects_of rs → length keys ≡ length rs
  as_many e = ap length e ∙ length-map rs (λ r. r.object)

  module _ (o : ℕ) where
    object_key : (p : ℕ) → keys ≡ objects_of rs → p < length rs → slice_index keys p ≡ (row_at rs p).object
    object_key p e h = ap (λ ks. slice_index ks p) e ∙ key_at (λ r. r.object) rs p h

    pub adds : (p : ℕ) → keys ≡ objects_of rs → p < length rs → slice_index keys p ≡ o → public_any o (row_at rs p) ≡ (row_at rs p).public
    adds p e h same = let is : (row_at rs p).object ≡ o = sym (object_key p e h) ∙ same in grind (arith, is)

    pub nothing_added : keys ≡ objects_of rs → (p : ℕ) → p < length rs → (slice_index keys p ≡ o → ⊥) → public_any o (row_at rs p) ≡ 0
    nothing_added e p h other = let is : (row_at rs p).object ≡ o → ⊥ = λ same. other (object_key p e h ∙ same) in grind (arith, is)
