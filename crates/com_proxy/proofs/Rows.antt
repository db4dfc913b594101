-- What the definitions of rows read after a change, and where rows stand.
use Rattle.std.proofs.Common.{◌≡◌, ℕ, true, false, ◌+◌, ◌<◌, ◌≤◌, List, [], ◌∷◌, ◌++◌, length, refl, sym, ◌∙◌, ap, arith, eqb, cond, ◌&&◌, inl, inr, zero, suc}
use Rattle.std.proofs.lemmas.Bool.{cases_eq, cases_lt}
use Rattle.std.proofs.lemmas.List.{length-map, length-set, length-append, map-append, ext_get_or, get_or-set_same, get_or-set_other, get_or_append_left, get_or_at, get_or_read}
use Rattle.std.proofs.lemmas.Grind.{common_steps}
use Rattle.std.specs.Prelude.{map, slice_set, slice_index_or, slice_index}
use Rattle.com_proxy.specs.declared.ProxyRow.{ProxyRow}
use Rattle.com_proxy.specs.Rows.{is_for, no_row, row_of, row_at, local_of, public_of, index_of, changed_row, proxy_key_of, key_of, proxies_of, objects_of, EachFirst, IsFree, IsLowest, no_public, cut_row, cut_rows}
use Rattle.com_keyed.specs.Indices.{KeyList}
use Rattle.com_proxy.specs.Table.{IsTable}

-- a row that is there
pub index_row : (rs : List ProxyRow) (a o i : ℕ) (d : ProxyRow) → index_of rs a o i < length rs → slice_index_or rs (index_of rs a o i) d ≡ row_of rs a o i
index_row [] a o i d h = absurd (omega arith)
index_row (r ∷ rs) a o i d h =
    elim (is_for a o i r) as (λ b. cond b 0 (index_of rs a o i + 1) < length (r ∷ rs) → slice_index_or (r ∷ rs) (cond b 0 (index_of rs a o i + 1)) d ≡ cond b r (row_of rs a o i)) [
      | true ↦ λ h. refl
      | false ↦ λ h. grind (arith, common_steps, index_row rs a o i d (grind (arith, common_steps, h)))
    ] h

-- a row that is not there
pub no_index : (rs : List ProxyRow) (a o i : ℕ) → length rs ≤ index_of rs a o i → row_of rs a o i ≡ no_row a o i
no_index [] a o i h = refl
no_index (r ∷ rs) a o i h =
    elim (is_for a o i r) as (λ b. length (r ∷ rs) ≤ cond b 0 (index_of rs a o i + 1) → cond b r (row_of rs a o i) ≡ no_row a o i) [
      | true ↦ λ h. absurd (grind (arith, common_steps, h))
      | false ↦ λ h. no_index rs a o i (grind (arith, common_steps, h))
    ] h

pub held_index : (rs : List ProxyRow) (a o i : ℕ) → 0 < local_of rs a o i → index_of rs a o i < length rs
held_index rs a o i h = grind (arith, common_steps, no_index rs a o i, h)

pub public_index : (rs : List ProxyRow) (a o i : ℕ) → 0 < public_of rs a o i → index_of rs a o i < length rs
public_index rs a o i h = grind (arith, common_steps, no_index rs a o i, h)

pub changed_at : (rs : List ProxyRow) (f : ProxyRow → ProxyRow) (a o i : ℕ) → index_of rs a o i < length rs → changed_row f a o i rs ≡ slice_set rs (index_of rs a o i) (f (row_of rs a o i))
changed_at [] f a o i h = absurd (omega arith)
changed_at (r ∷ rs) f a o i h = grind (arith, common_steps, changed_at rs f a o i, h)

pub changed_new : (rs : List ProxyRow) (f : ProxyRow → ProxyRow) (a o i : ℕ) → length rs ≤ index_of rs a o i → changed_row f a o i rs ≡ rs ++ f (no_row a o i) ∷ []
changed_new [] f a o i h = refl
changed_new (r ∷ rs) f a o i h = grind (arith, common_steps, changed_new rs f a o i, h)

-- what the rows read after a change that keeps the row's apartment, object and interface
pub row_changed : (rs : List ProxyRow) (f : ProxyRow → ProxyRow) (a o i b p j : ℕ) → ((r : ProxyRow) → (f r).apartment ≡ r.apartment) → ((r : ProxyRow) → (f r).object ≡ r.object)
    → ((r : ProxyRow) → (f r).iface ≡ r.iface) → row_of (changed_row f a o i rs) b p j ≡ cond (eqb p o && (eqb b a && eqb j i)) (f (row_of rs b p j)) (row_of rs b p j)
row_changed [] f a o i b p j ka ko ki = grind (arith, common_steps, ka (no_row a o i), ko (no_row a o i), ki (no_row a o i))
row_changed (r ∷ rs) f a o i b p j ka ko ki = grind (arith, common_steps, row_changed rs f a o i b p j ka ko ki, ka r, ko r, ki r)

-- the rows of an object that was cut read no public references, and all else as before
pub row_cut : (rs : List ProxyRow) (o b p j : ℕ) → row_of (cut_rows o rs) b p j ≡ cut_row o (row_of rs b p j)
row_cut [] o b p j = grind (arith, common_steps)
row_cut (r ∷ rs) o b p j = grind (arith, common_steps, row_cut rs o b p j)

-- the keys of rows, index by index
pub key_at : (key : ProxyRow → ℕ) (rs : List ProxyRow) (p : ℕ) → p < length rs → slice_index (map key rs) p ≡ key (row_at rs p)
key_at key [] p h = absurd (omega arith)
key_at key (r ∷ rs) zero h = refl
key_at key (r ∷ rs) (suc p) h = key_at key rs p (omega arith)

-- where indices are under the rows' keys, what holds of each index of a key holds of each row that has it
module _ (key : ProxyRow → ℕ) (rs : List ProxyRow) (keys : List ℕ) (k : ℕ) (e : keys ≡ map key rs) where
  pub row_inside : (p : ℕ) → p < length keys → p < length rs
  row_inside p h = rw (← length-map rs key, ← e) h

  pub row_passed : (P : ℕ → Type 0) → ((p : ℕ) → p < length keys → slice_index keys p ≡ k → P p) → (p : ℕ) → p < length rs → key (row_at rs p) ≡ k → P p
  row_passed P passed p h same =
      let inside : p < length keys = rw (e, length-map rs key) h in
      passed p inside (ap (λ ks. slice_index ks p) e ∙ key_at key rs p h ∙ same)

-- the rows of an apartment and an object have the key of that proxy
pub proxy_passed : (rs : List ProxyRow) (keys : List ℕ) (a o : ℕ) (P : ℕ → Type 0) → keys ≡ proxies_of rs → ((p : ℕ) → p < length keys → slice_index keys p ≡ proxy_key_of a o → P p)
    → (p : ℕ) → p < length rs → (row_at rs p).object ≡ o → (row_at rs p).apartment ≡ a → P p
proxy_passed rs keys a o P e passed p h eo ea = row_passed key_of rs keys (proxy_key_of a o) e P passed p h (ap (λ b. proxy_key_of b (row_at rs p).object) ea ∙ ap (λ b. proxy_key_of a b) eo)

-- a row that no index has is not there
pub index_none : (rs : List ProxyRow) (a o i : ℕ) → ((p : ℕ) → p < length rs → is_for a o i (row_at rs p) ≡ false) → index_of rs a o i ≡ length rs
index_none [] a o i none = refl
index_none (r ∷ rs) a o i none =
    let rest : index_of rs a o i ≡ length rs = index_none rs a o i (λ p h. none (suc p) (omega arith)) in
    grind (arith, none 0 (omega arith), rest)

pub index_first : (rs : List ProxyRow) (a o i p : ℕ) → EachFirst rs → p < length rs → (row_at rs p).object ≡ o → (row_at rs p).apartment ≡ a → (row_at rs p).iface ≡ i → index_of rs a o i ≡ p
index_first rs a o i p each h eo ea ei = rw (← eo, ← ea, ← ei) (each p h)

-- where a walk over the proxy's indices found none
pub index_past : (rs : List ProxyRow) (keys : List ℕ) (a o i : ℕ) → keys ≡ proxies_of rs → ((p : ℕ) → p < length keys → slice_index keys p ≡ proxy_key_of a o → is_for a o i (row_at rs p) ≡ false)
    → length rs ≡ index_of rs a o i
index_past rs keys a o i e none = sym (index_none rs a o i one) where
  one : (p : ℕ) → p < length rs → is_for a o i (row_at rs p) ≡ false
  one p h = elim (cases_eq (row_at rs p).object o) [
    | inl eo ↦ elim (cases_eq (row_at rs p).apartment a) [
      | inl ea ↦ proxy_passed rs keys a o (λ q. is_for a o i (row_at rs q) ≡ false) e none p h eo ea
      | inr other ↦ grind (arith, other)
    ]
    | inr other ↦ grind (arith, other)
  ]

-- the row of an apartment, an object and an interface has them
pub row_keys : (rs : List ProxyRow) (a o i : ℕ) → ((row_of rs a o i).apartment ≡ a) × ((row_of rs a o i).object ≡ o) × ((row_of rs a o i).iface ≡ i)
row_keys [] a o i = (refl, refl, refl)
row_keys (r ∷ rs) a o i = (grind (arith, (row_keys rs a o i).0), grind (arith, (row_keys rs a o i).1), grind (arith, (row_keys rs a o i).2))

-- a row is that of its own apartment, object and interface
pub row_first : (rs : List ProxyRow) (a o i p : ℕ) → EachFirst rs → p < length rs → (row_at rs p).object ≡ o → (row_at rs p).apartment ≡ a → (row_at rs p).iface ≡ i → row_of rs a o i ≡ row_at rs p
row_first rs a o i p each h eo ea ei =
    let at : index_of rs a o i ≡ p = index_first rs a o i p each h eo ea ei in
    sym (index_row rs a o i (no_row 0 0 0) (rw at h)) ∙ ap (λ n. row_at rs n) at

-- a number that no row of an apartment and an object has, and that a row which is not there has not
pub none_held : (field : ProxyRow → ℕ) → ((a o i : ℕ) → field (no_row a o i) ≡ 0) → (rs : List ProxyRow) (a o : ℕ)
    → ((p : ℕ) → p < length rs → (row_at rs p).object ≡ o → (row_at rs p).apartment ≡ a → field (row_at rs p) ≡ 0) → (i : ℕ) → field (row_of rs a o i) ≡ 0
none_held field empty rs a o none i = elim (cases_lt (index_of rs a o i) (length rs)) [
  | inl there ↦
      let at : row_at rs (index_of rs a o i) ≡ row_of rs a o i = index_row rs a o i (no_row 0 0 0) there in
      let keys = row_keys rs a o i in
      ap field (sym at) ∙ none (index_of rs a o i) there (ap (λ r. r.object) at ∙ keys.1) (ap (λ r. r.apartment) at ∙ keys.0)
  | inr past ↦ ap field (no_index rs a o i past) ∙ empty a o i
]

-- the same of the rows that a walk passes
pub walk_free : (rs : List ProxyRow) (keys : List ℕ) (a o : ℕ) → keys ≡ proxies_of rs
    → ((p : ℕ) → p < length keys → slice_index keys p ≡ proxy_key_of a o → (row_at rs p).object ≡ o → (row_at rs p).apartment ≡ a → (row_at rs p).local ≡ 0) → IsFree rs a o
walk_free rs keys a o e none = record {
  none_held = none_held (λ r. r.local) (λ a o i. refl) rs a o
      (λ p h eo ea. proxy_passed rs keys a o (λ q. (row_at rs q).object ≡ o → (row_at rs q).apartment ≡ a → (row_at rs q).local ≡ 0) e none p h eo ea eo ea);
}

pub not_free : (rs : List ProxyRow) (keys : List ℕ) (a o p : ℕ) → keys ≡ proxies_of rs → EachFirst rs → p < length keys → (row_at rs p).object ≡ o → (row_at rs p).apartment ≡ a
    → 0 < (row_at rs p).local → IsFree rs a o → ⊥
not_free rs keys a o p e each h eo ea some free =
    let inside : p < length rs = row_inside key_of rs keys 0 e p h in
    let row : row_of rs a o (row_at rs p).iface ≡ row_at rs p = row_first rs a o (row_at rs p).iface p each inside eo ea refl in
    let held : (row_at rs p).local ≡ 0 = ap (λ r. r.local) (sym row) ∙ free.none_held (row_at rs p).iface in
    omega arith

-- a row with local references is that of its interface
pub held_row : (rs : List ProxyRow) (keys : List ℕ) (a o p : ℕ) → keys ≡ proxies_of rs → EachFirst rs → p < length keys → (row_at rs p).object ≡ o → (row_at rs p).apartment ≡ a
    → 0 < (row_at rs p).local → 0 < local_of rs a o (row_at rs p).iface
held_row rs keys a o p e each h eo ea some =
    let inside : p < length rs = row_inside key_of rs keys 0 e p h in
    let row : row_of rs a o (row_at rs p).iface ≡ row_at rs p = row_first rs a o (row_at rs p).iface p each inside eo ea refl in
    let same : local_of rs a o (row_at rs p).iface ≡ (row_at rs p).local = ap (λ r. r.local) row in
    omega (arith, same, some)

-- the lowest interface of which an apartment has public references
pub lowest_index : (rs : List ProxyRow) (a o p : ℕ) → EachFirst rs → IsLowest a o rs p → index_of rs a o (row_at rs p).iface ≡ p
lowest_index rs a o p each l = index_first rs a o (row_at rs p).iface p each l.inside l.of_object l.of_apartment refl

pub lowest_row : (rs : List ProxyRow) (a o p : ℕ) → EachFirst rs → IsLowest a o rs p → row_of rs a o (row_at rs p).iface ≡ row_at rs p
lowest_row rs a o p each l = row_first rs a o (row_at rs p).iface p each l.inside l.of_object l.of_apartment refl

pub lowest_least : (rs : List ProxyRow) (a o p i : ℕ) → IsLowest a o rs p → 0 < public_of rs a o i → (row_at rs p).iface ≤ i
lowest_least rs a o p i l some =
    let there : index_of rs a o i < length rs = public_index rs a o i some in
    let at : row_at rs (index_of rs a o i) ≡ row_of rs a o i = index_row rs a o i (no_row 0 0 0) there in
    let keys = row_keys rs a o i in
    let least : (row_at rs p).iface ≤ (row_at rs (index_of rs a o i)).iface =
    l.lowest (index_of rs a o i) there (ap (λ r. r.object) at ∙ keys.1) (ap (λ r. r.apartment) at ∙ keys.0) (rw at some) in
    rw (← keys.2, ← at) least

-- the rows of an object that was cut, index by index
pub cut_at : (rs : List ProxyRow) (o p : ℕ) → row_at (cut_rows o rs) p ≡ cut_row o (row_at rs p)
cut_at [] o p = grind arith
cut_at (r ∷ rs) o zero = refl
cut_at (r ∷ rs) o (suc p) = cut_at rs o p

pub cut_is : (rows rs : List ProxyRow) (keys : List ℕ) (o : ℕ) → length rows ≡ length rs → keys ≡ objects_of rs
    → ((p : ℕ) → p < length keys → slice_index keys p ≡ o → row_at rows p ≡ no_public (row_at rs p)) → ((p : ℕ) → ((row_at rs p).object ≡ o → ⊥) → row_at rows p ≡ row_at rs p)
    → rows ≡ cut_rows o rs
cut_is rows rs keys o len e passed others = ext_get_or (no_row 0 0 0) rows (cut_rows o rs) (len ∙ sym (length-map rs (cut_row o))) each where
  each : (p : ℕ) → p < length rows → row_at rows p ≡ row_at (cut_rows o rs) p
  each p h =
      let there : p < length rs = omega arith in
      elim (cases_eq (row_at rs p).object o) [
        | inl same ↦
            let is : row_at rows p ≡ no_public (row_at rs p) = row_passed (λ r. r.object) rs keys o e (λ q. row_at rows q ≡ no_public (row_at rs q)) passed p there same in
            is ∙ sym (grind (arith, cut_at rs o p, same))
        | inr other ↦ others p other ∙ sym (grind (arith, cut_at rs o p, other))
      ]

-- rows after a write that keeps the row's apartment, object and interface
pub index_set : (rs : List ProxyRow) (p : ℕ) (x : ProxyRow) (a o i : ℕ) → x.apartment ≡ (row_at rs p).apartment → x.object ≡ (row_at rs p).object → x.iface ≡ (row_at rs p).iface
    → index_of (slice_set rs p x) a o i ≡ index_of rs a o i
index_set [] p x a o i ea eo ei = refl
index_set (r ∷ rs) zero x a o i ea eo ei = grind (arith, ea, eo, ei)
index_set (r ∷ rs) (suc p) x a o i ea eo ei = grind (arith, index_set rs p x a o i ea eo ei)

pub keys_set : (key : ProxyRow → ℕ) (rs : List ProxyRow) (p : ℕ) (x : ProxyRow) → key x ≡ key (row_at rs p) → map key (slice_set rs p x) ≡ map key rs
keys_set key [] p x e = refl
keys_set key (r ∷ rs) zero x e = ap (λ k. k ∷ map key rs) e
keys_set key (r ∷ rs) (suc p) x e = ap (λ ks. key r ∷ ks) (keys_set key rs p x e)

pub table_set : (rs : List ProxyRow) (proxies objects : KeyList) (p : ℕ) (x : ProxyRow) → IsTable rs proxies objects → p < length rs → x.apartment ≡ (row_at rs p).apartment → x.object ≡ (row_at rs p).object
    → x.iface ≡ (row_at rs p).iface → IsTable (slice_set rs p x) proxies objects
table_set rs proxies objects p x t inside ea eo ei = record {
  by_proxy = t.by_proxy ∙ sym (keys_set key_of rs p x (ap (λ b. proxy_key_of b x.object) ea ∙ ap (λ b. proxy_key_of (row_at rs p).apartment b) eo));
  by_object = t.by_object ∙ sym (keys_set (λ r. r.object) rs p x eo);
  first = λ q h.
      let there : q < length rs = rw (← length-set rs p x) h in
      elim (cases_eq q p) [
        | inl same ↦
            let at : row_at (slice_set rs p x) q ≡ x = rw same (get_or-set_same rs p x (no_row 0 0 0) inside) in
            let first : index_of rs (row_at rs p).apartment (row_at rs p).object (row_at rs p).iface ≡ p = t.first p inside in
            rw (at, index_set rs p x x.apartment x.object x.iface ea eo ei, ea, eo, ei, same) first
        | inr other ↦
            let at : row_at (slice_set rs p x) q ≡ row_at rs q = get_or-set_other rs p q x (no_row 0 0 0) other in
            rw (at, index_set rs p x (row_at rs q).apartment (row_at rs q).object (row_at rs q).iface ea eo ei) (t.first q there)
      ];
}

-- rows after one more
pub index_append : (rs xs : List ProxyRow) (a o i : ℕ) → index_of rs a o i < length rs → index_of (rs ++ xs) a o i ≡ index_of rs a o i
index_append [] xs a o i h = absurd (omega arith)
index_append (r ∷ rs) xs a o i h = grind (arith, common_steps, index_append rs xs a o i, h)

pub index_push : (rs : List ProxyRow) (x : ProxyRow) (a o i : ℕ) → length rs ≤ index_of rs a o i → is_for a o i x ≡ true → index_of (rs ++ x ∷ []) a o i ≡ length rs
index_push [] x a o i h e = grind (arith, e)
index_push (r ∷ rs) x a o i h e = grind (arith, common_steps, index_push rs x a o i, h, e)

pub keys_push : (key : ProxyRow → ℕ) (rs : List ProxyRow) (x : ProxyRow) (keys more : List ℕ) → keys ≡ map key rs → more ≡ keys ++ key x ∷ [] → more ≡ map key (rs ++ x ∷ [])
keys_push key rs x keys more e is = is ∙ ap (λ ks. ks ++ key x ∷ []) e ∙ sym (map-append key rs (x ∷ []))

pub table_push : (rs : List ProxyRow) (proxies objects more_proxies more_objects : KeyList) (x : ProxyRow) → IsTable rs proxies objects → more_proxies.keys ≡ proxies.keys ++ key_of x ∷ []
    → more_objects.keys ≡ objects.keys ++ x.object ∷ [] → length rs ≤ index_of rs x.apartment x.object x.iface → IsTable (rs ++ x ∷ []) more_proxies more_objects
table_push rs proxies objects more_proxies more_objects x t by_proxy by_object new = record {
  by_proxy = keys_push key_of rs x proxies.keys more_proxies.keys t.by_proxy by_proxy;
  by_object = keys_push (λ r. r.object) rs x objects.keys more_objects.keys t.by_object by_object;
  first = λ q h.
      elim (cases_lt q (length rs)) [
        | inl there ↦
            let at : row_at (rs ++ x ∷ []) q ≡ row_at rs q = get_or_append_left rs (x ∷ []) (no_row 0 0 0) q there in
            let first : index_of rs (row_at rs q).apartment (row_at rs q).object (row_at rs q).iface ≡ q = t.first q there in
            let index = index_append rs (x ∷ []) (row_at rs q).apartment (row_at rs q).object (row_at rs q).iface (rw first there) in
            rw (at, index) first
        | inr past ↦
            let last : length rs ≡ q = omega (arith, length-append rs (x ∷ [])) in
            let at : row_at (rs ++ x ∷ []) q ≡ x = get_or_at rs x [] (no_row 0 0 0) q last in
            rw (at, index_push rs x x.apartment x.object x.iface new (grind arith)) last
      ];
}

-- the same, where the row was read
pub table_write : (rs : List ProxyRow) (proxies objects : KeyList) (p : ℕ) (old x : ProxyRow) → IsTable rs proxies objects → p < length rs → old ≡ slice_index_or rs p old → x.apartment ≡ old.apartment
    → x.object ≡ old.object → x.iface ≡ old.iface → IsTable (slice_set rs p x) proxies objects
table_write rs proxies objects p old x t inside is ea eo ei =
    let at : old ≡ row_at rs p = get_or_read rs p old inside is (no_row 0 0 0) in
    table_set rs proxies objects p x t inside (ea ∙ ap (λ r. r.apartment) at) (eo ∙ ap (λ r. r.object) at) (ei ∙ ap (λ r. r.iface) at)

pub table_cut : (rs : List ProxyRow) (proxies objects : KeyList) (o : ℕ) → IsTable rs proxies objects → IsTable (cut_rows o rs) proxies objects
table_cut rs proxies objects o t = record {
  by_proxy = t.by_proxy ∙ sym (keys_cut key_of (λ r. ap (λ b. proxy_key_of b (cut_row o r).object) (apartment_cut r) ∙ ap (λ b. proxy_key_of r.apartment b) (object_cut r)) rs);
  by_object = t.by_object ∙ sym (keys_cut (λ r. r.object) object_cut rs);
  first = λ q h.
      let there : q < length rs = rw (← length-map rs (cut_row o)) h in
      let row : row_at (cut_rows o rs) q ≡ cut_row o (row_at rs q) = cut_at rs o q in
      rw (row, index_cut rs, apartment_cut (row_at rs q), object_cut (row_at rs q), iface_cut (row_at rs q)) (t.first q there);
} where
  apartment_cut : (r : ProxyRow) → (cut_row o r).apartment ≡ r.apartment
  apartment_cut r = grind arith

  object_cut : (r : ProxyRow) → (cut_row o r).object ≡ r.object
  object_cut r = grind arith

  iface_cut : (r : ProxyRow) → (cut_row o r).iface ≡ r.iface
  iface_cut r = grind arith

  keys_cut : (key : ProxyRow → ℕ) → ((r : ProxyRow) → key (cut_row o r) ≡ key r) → (rs : List ProxyRow) → map key (cut_rows o rs) ≡ map key rs
  keys_cut key kept [] = refl
  keys_cut key kept (r ∷ rs) = ap (λ k. k ∷ map key (cut_rows o rs)) (kept r) ∙ ap (λ ks. key r ∷ ks) (keys_cut key kept rs)

  index_cut : (rs : List ProxyRow) (a p i : ℕ) → index_of (cut_rows o rs) a p i ≡ index_of rs a p i
  index_cut [] a p i = refl
  index_cut (r ∷ rs) a p i = grind (arith, index_cut rs a p i)

-- what is known where the public references of the lowest interface are taken
pub record Taking (rs : List ProxyRow) (proxies objects : KeyList) (a o p : ℕ) (old : ProxyRow) : Type 0 where
  pub table : IsTable (slice_set rs p (no_public old)) proxies objects
  pub held : old.public ≡ public_of rs a o old.iface
  pub least : (i : ℕ) → 0 < public_of rs a o i → old.iface ≤ i
  pub changes : slice_set rs p (no_public old) ≡ changed_row no_public a o old.iface rs

pub taking : (rs : List ProxyRow) (proxies objects : KeyList) (a o p : ℕ) (old : ProxyRow) → IsTable rs proxies objects → IsLowest a o rs p → old ≡ slice_index_or rs p old
    → Taking rs proxies objects a o p old
taking rs proxies objects a o p old t l is =
    let at : old ≡ row_at rs p = get_or_read rs p old l.inside is (no_row 0 0 0) in
    let row : row_of rs a o old.iface ≡ old = rw at (lowest_row rs a o p t.first l) in
    let index : index_of rs a o old.iface ≡ p = rw at (lowest_index rs a o p t.first l) in
    let inside : index_of rs a o old.iface < length rs = rw index l.inside in
    record {
      table = table_write rs proxies objects p old (no_public old) t l.inside is refl refl refl;
      held = ap (λ r. r.public) (sym row);
      least = λ i h. rw at (lowest_least rs a o p i l h);
      changes = sym (changed_at rs no_public a o old.iface inside ∙ ap (λ n. slice_set rs n (no_public (row_of rs a o old.iface))) index ∙ ap (λ r. slice_set rs p (no_public r)) row);
    }
