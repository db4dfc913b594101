-- One more index is linked.
use Rattle.std.proofs.Common.{◌≡◌, ◌≢◌, ℕ, ◌+◌, ◌-◌, ◌%◌, ◌<◌, ◌≤◌, List, [], ◌∷◌, ◌++◌, length, sym, subst, arith, get_or-set_same, get_or-set_other, length-set, ap, ◌∙◌}
use Rattle.std.specs.Prelude.{slice_index, slice_set, Option}
use Rattle.std.proofs.lemmas.List.{get_or_append_left}
use Rattle.com_keyed.specs.Indices.{IsLatest, reach}
use Rattle.com_keyed.specs.Linked.{IsLinked, LeadsOn, bucket_at}

module _ (keys links heads : List ℕ) (buckets index : ℕ) where
  abbrev bucket : ℕ
  bucket = bucket_at keys buckets index

  abbrev links' : List ℕ
  links' = slice_set links index (slice_index heads bucket)

  abbrev heads' : List ℕ
  heads' = slice_set heads bucket (index + 1)

  module _ (room : index < length links) (inside : bucket < length heads) (l : IsLinked keys links heads buckets index) where
    head_at : slice_index heads' bucket ≡ index + 1
    head_at = get_or-set_same heads bucket (index + 1) 0 inside

    head_past : (b : ℕ) → b ≢ bucket → slice_index heads' b ≡ slice_index heads b
    head_past b apart = get_or-set_other heads bucket b (index + 1) 0 apart

    link_at : slice_index links' index ≡ slice_index heads bucket
    link_at = get_or-set_same links index (slice_index heads bucket) 0 room

    link_past : (p : ℕ) → p ≢ index → slice_index links' p ≡ slice_index links p
    link_past p apart = get_or-set_other links index p (slice_index heads bucket) 0 apart

    pub linked_more : IsLinked keys links' heads' buckets (index + 1)
    linked_more = record {
      head_covers = λ p h. grind (arith, head_at, head_past (bucket_at keys buckets p), l.head_covers p, h);
      head_within = λ b. grind (arith, head_at, head_past b, l.head_within b);
      head_keyed = λ b h. grind (arith, head_at, head_past b, l.head_keyed b, h);
      link_covers = λ p q h k e. grind (arith, link_at, link_past q, l.link_covers p q, l.head_covers p, h, k, e);
      link_within = λ p h. grind (arith, link_at, link_past p, l.link_within p, l.head_within bucket, h);
      link_keyed = λ p h k. grind (arith, link_at, link_past p, l.link_keyed p, l.head_keyed bucket, h, k);
    }

-- where there is a bucket for each key
pub linked_index : (keys links heads : List ℕ) (index : ℕ) → index < length links → 0 < length heads → IsLinked keys links heads (length heads) index
    → IsLinked keys (slice_set links index (slice_index heads (slice_index keys index % length heads)))
    (slice_set heads (slice_index keys index % length heads) (index + 1))
    (length (slice_set heads (slice_index keys index % length heads) (index + 1))) (index + 1)
linked_index keys links heads index room some l =
    let inside : slice_index keys index % length heads < length heads = omega arith in
    rw (length-set heads (slice_index keys index % length heads) (index + 1)) (linked_more keys links heads (length heads) index room inside l)

pub linked_none : (keys links heads : List ℕ) (buckets : ℕ) → ((bucket : ℕ) → slice_index heads bucket ≡ 0) → IsLinked keys links heads buckets 0
linked_none keys links heads buckets empty = record {
  head_covers = λ p h. absurd (omega arith);
  head_within = λ b. grind (arith, empty b);
  head_keyed = λ b h. absurd (grind (arith, empty b, h));
  link_covers = λ p q h k e. absurd (omega arith);
  link_within = λ p h. absurd (omega arith);
  link_keyed = λ p h k. absurd (omega arith);
}

-- the link of an index, and the head of a bucket
pub leads_from_index : (keys links heads : List ℕ) (buckets key end : ℕ) → IsLinked keys links heads buckets (length keys) → end < length keys → slice_index keys end ≡ key → LeadsOn keys buckets key end (slice_index links end)
leads_from_index keys links heads buckets key end l h e = record {
  within = l.link_within end h;
  keyed = λ k. grind (arith, l.link_keyed end h k, e);
  covers = λ p k b. grind (arith, l.link_covers p end h k, b, e);
}

pub leads_from_head : (keys links heads : List ℕ) (buckets key : ℕ) → IsLinked keys links heads buckets (length keys) → LeadsOn keys buckets key (length keys) (slice_index heads (key % buckets))
leads_from_head keys links heads buckets key l = record {
  within = l.head_within (key % buckets);
  keyed = λ k. l.head_keyed (key % buckets) k;
  covers = λ p k b. grind (arith, l.head_covers p k, b);
}

-- one link on, past an index that has another key
pub leads_on : (keys links heads : List ℕ) (buckets key end link : ℕ) → IsLinked keys links heads buckets (length keys) → LeadsOn keys buckets key end link → end ≤ length keys → 0 < link
    → LeadsOn keys buckets key (link - 1) (slice_index links (link - 1))
leads_on keys links heads buckets key end link l on e h = record {
  within = l.link_within (link - 1) (omega (arith, on.within));
  keyed = λ k. grind (arith, l.link_keyed (link - 1) (omega (arith, on.within)) k, on.keyed h);
  covers = λ p k b. grind (arith, l.link_covers p (link - 1) (omega (arith, on.within)) k, b, on.keyed h);
}

-- all indices of the key below `end` are before the link, which leads into their bucket
pub record Follows (keys : List ℕ) (buckets key end link : ℕ) : Type 0 where
  pub within : link ≤ end
  pub keyed : 0 < link → bucket_at keys buckets (link - 1) ≡ key % buckets
  pub covers : (index : ℕ) → index < end → slice_index keys index ≡ key → index < link

pub follows_on : (keys links heads : List ℕ) (buckets key end link : ℕ) → IsLinked keys links heads buckets (length keys) → end ≤ length keys → Follows keys buckets key end link → 0 < link
    → slice_index keys (link - 1) ≢ key → Follows keys buckets key end (slice_index links (link - 1))
follows_on keys links heads buckets key end link l e f h apart =
    let inside : link - 1 < length keys = omega (arith, f.within) in
    record {
      within = omega (arith, l.link_within (link - 1) inside, f.within);
      keyed = λ k. grind (arith, l.link_keyed (link - 1) inside k, f.keyed h);
      covers = λ p k b.
          let before : p < link = f.covers p k b in
          let other : p ≢ link - 1 = λ same. apart (subst (λ q. slice_index keys q ≡ key) same b) in
          l.link_covers p (link - 1) inside (omega arith) (ap (λ x. x % buckets) b ∙ sym (f.keyed h));
    }

-- an index more, which is not linked yet
pub linked_push : (keys links heads : List ℕ) (buckets key link : ℕ) → IsLinked keys links heads buckets (length keys) → length links ≡ length keys → IsLinked (keys ++ key ∷ []) (links ++ link ∷ []) heads buckets (length keys)
linked_push keys links heads buckets key link l e =
    let key_at : (p : ℕ) → p < length keys → slice_index (keys ++ key ∷ []) p ≡ slice_index keys p = λ p h. get_or_append_left keys (key ∷ []) 0 p h in
    let link_at : (p : ℕ) → p < length keys → slice_index (links ++ link ∷ []) p ≡ slice_index links p = λ p h. get_or_append_left links (link ∷ []) 0 p (omega arith) in
    record {
      head_covers = λ p h. grind (arith, key_at p h, l.head_covers p h);
      head_within = l.head_within;
      head_keyed = λ b h. grind (arith, key_at (slice_index heads b - 1), l.head_keyed b h, l.head_within b);
      link_covers = λ p q h k b. grind (arith, link_at q h, key_at q h, key_at p, l.link_covers p q h k, h, k, b);
      link_within = λ p h. grind (arith, link_at p h, l.link_within p h);
      link_keyed = λ p h k. grind (arith, link_at p h, key_at p h, key_at (slice_index links p - 1), l.link_within p h, l.link_keyed p h, h, k);
    }

pub latest_at : (keys : List ℕ) (key end link : ℕ) (found : Option ℕ) → reach found ≡ link → link ≤ end → (0 < link → slice_index keys (link - 1) ≡ key)
    → ((index : ℕ) → index < end → slice_index keys index ≡ key → index < link) → IsLatest keys key end found
latest_at keys key end link found is within keyed covers = record {
  within = rw is within;
  keyed = rw is keyed;
  covers = λ p h k. rw is (covers p h k);
}
