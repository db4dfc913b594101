-- What the packets of one object add to the sum of normal packets.
use Rattle.std.proofs.Common.{◌≡◌, ℕ, suc, ◌+◌, ◌<◌, List, length, refl, ap, arith}
use Rattle.std.specs.Prelude.{Option, None, Some, IfSome, slice_index}
use Rattle.com_slots.specs.Table.{held_in}
use Rattle.com_packets.specs.declared.Packet.{Packet}
use Rattle.com_packets.specs.Sums.{normal_for, normal_of}
use Rattle.com_packets.specs.Table.{entry_at}

pub held_entry : (es : List (Option Packet)) (p : ℕ) → normal_of (held_in es (p + 1)) ≡ normal_of (entry_at es p)
held_entry es p = let next : p + 1 ≡ suc p = omega arith in ap (λ n. normal_of (held_in es n)) next

added : (e : Option Packet) (o k : ℕ) → IfSome e (λ packet. packet.object ≡ k) → k ≡ o → normal_for o e ≡ normal_of e
added None o k h same = refl
added (Some p) o k h same = grind (arith, h, same)

not_added : (e : Option Packet) (o k : ℕ) → IfSome e (λ packet. packet.object ≡ k) → (k ≡ o → ⊥) → normal_for o e ≡ 0
not_added None o k h other = refl
not_added (Some p) o k h other = grind (arith, h, other)

module _ (es : List (Option Packet)) (keys : List ℕ) (o : ℕ) where
  pub adds : (p : ℕ) → ((index : ℕ) → IfSome (entry_at es index) (λ packet. packet.object ≡ slice_index keys index)) → slice_index keys p ≡ o → normal_for o (entry_at es p) ≡ normal_of (entry_at es p)
  adds p keyed same = added (entry_at es p) o (slice_index keys p) (keyed p) same

  pub nothing_added : ((index : ℕ) → IfSome (entry_at es index) (λ packet. packet.object ≡ slice_index keys index)) → (p : ℕ) → p < length es → (slice_index keys p ≡ o → ⊥) → normal_for o (entry_at es p) ≡ 0
  nothing_added keyed p h other = not_added (entry_at es p) o (slice_index keys p) (keyed p) other
