-- The books are even where each stub counts what proxies, packets and cookies hold. Each change keeps them so.
use Rattle.std.proofs.Common.{◌≡◌, ℕ, zero, suc, Bool, true, false, eqb, cond, ◌&&◌, ◌+◌, ◌-◌, ◌<◌, ◌≤◌, List, [], ◌∷◌, ◌++◌, length, refl, subst, ap, ◌∙◌, arith, eqb-true}
use Rattle.std.proofs.lemmas.Bool.{false_from_ne_true}
use Rattle.std.proofs.lemmas.Grind.{common_steps}
use Rattle.std.specs.Prelude.{slice_set, slice_index_or, map, sum_by}
use Rattle.com_base.specs.declared.value.MarshalMode.{MarshalMode}
use Rattle.com_base.specs.declared.value.MarshalMode.TheVariants as marshal
use Rattle.com_refs_books.specs.Counting.{sum_below}
use Rattle.com_refs_books.specs.Changes.{Books, no_packet, no_cookie, packet, Change, ToProxy, ToPacket, Split, Join, Return, ToCookie, Withdraw, Same, at3, new_packet, changed, given_back, cut_packet, cut_cookie, cut, packet_holds_of, cookie_holds_of}
use Rattle.com_refs_books.specs.declared.keeps.Packet.{Packet}
use Rattle.com_refs_books.specs.declared.keeps.Cookie.{Cookie}
use Rattle.com_refs_books.proofs.Sums.{sum-changed, sum-split, sum-cut, sum-more}
use Rattle.com_refs_books.specs.Evens.{Even, Fits, StaysEven}

-- ---- one change

-- The proxies' sum after a change at one of them.
proxy-sum : (n a o i x : ℕ) (f : ℕ → ℕ → ℕ → ℕ) (k j : ℕ) → a < n → sum_below n (λ c. at3 a o i x f c k j) + cond (eqb k o && eqb j i) (f a k j) 0 ≡ sum_below n (λ c. f c k j) + cond (eqb k o && eqb j i) x 0
proxy-sum n a o i x f k j h =
    let main : sum_below n (λ c. at3 a o i x f c k j) + f a k j ≡ sum_below n (λ c. f c k j) + at3 a o i x f a k j = sum-changed n a (λ c. f c k j) (λ c. at3 a o i x f c k j) h (λ c other. grind (arith, common_steps, other)) in
    grind (arith, common_steps, main)

proxy-past : (n a o i x : ℕ) (f : ℕ → ℕ → ℕ → ℕ) (c k j : ℕ) → a < n → n ≤ c → f c k j ≡ 0 → at3 a o i x f c k j ≡ 0
proxy-past n a o i x f c k j h q e = ap (λ (b : Bool). cond (b && (eqb k o && eqb j i)) x (f c k j)) (false_from_ne_true (eqb c a) (λ t. let same : c ≡ a = eqb-true c a t in omega (arith, h, q, same))) ∙ e

packet-sum-new : (o i k j n : ℕ) (m : MarshalMode) (ps : List Packet) → sum_by (packet_holds_of k j) (ps ++ new_packet m o i n ∷ []) ≡ sum_by (packet_holds_of k j) ps + cond (eqb k o && eqb j i) n 0
packet-sum-new o i k j n m ps = grind (arith, common_steps)

cookie-sum-new : (o i k j n : ℕ) (gs : List Cookie) → sum_by (cookie_holds_of k j) (gs ++ record { is_revoked = false; object = o; iface = i; refs = n } ∷ []) ≡ sum_by (cookie_holds_of k j) gs + cond (eqb k o && eqb j i) n 0
cookie-sum-new o i k j n gs = grind (arith, common_steps)

inside : (ps : List Packet) (p : ℕ) → (slice_index_or ps p no_packet).outstanding ≡ true → p < length ps
inside ps p h = grind (arith, common_steps)

packet-sum-end : (k j p : ℕ) (ps : List Packet) → (slice_index_or ps p no_packet).outstanding ≡ true → sum_by (packet_holds_of k j) (slice_set ps p no_packet) + cond (eqb k (slice_index_or ps p no_packet).object && eqb j (slice_index_or ps p no_packet).iface) (slice_index_or ps p no_packet).refs 0 ≡ sum_by (packet_holds_of k j) ps
packet-sum-end k j p ps h = grind (arith, common_steps, inside ps p h, h)

cookie-sum-end : (k j g : ℕ) (gs : List Cookie) → sum_by (cookie_holds_of k j) (slice_set gs g no_cookie) + cond (eqb k (slice_index_or gs g no_cookie).object && eqb j (slice_index_or gs g no_cookie).iface) (slice_index_or gs g no_cookie).refs 0 ≡ sum_by (cookie_holds_of k j) gs
cookie-sum-end k j g [] = grind (arith, common_steps)
cookie-sum-end k j zero (x ∷ gs) = grind (arith, common_steps)
cookie-sum-end k j (suc g) (x ∷ gs) = grind (arith, common_steps, cookie-sum-end k j g gs)

pub changed-even : (n : ℕ) (b : Books) (c : Change) → Fits n b c → Even n b → Even n (changed b c)
changed-even n b (ToProxy a o i m) f p = record {
  equal = λ k j. grind (arith, p.equal k j, proxy-sum n a o i (b.proxy a o i + m) b.proxy k j f);
  past = λ c k j h. proxy-past n a o i _ b.proxy c k j f h (p.past c k j h);
}
changed-even n b (ToPacket m o i r) f p = record {
  equal = λ k j. grind (arith, p.equal k j, packet-sum-new o i k j r m b.packets);
  past = p.past;
}
changed-even n b (Split a o i m) f p = record {
  equal = λ k j. grind (arith, p.equal k j, proxy-sum n a o i (b.proxy a o i - m) b.proxy k j f.0, packet-sum-new o i k j m marshal.Normal b.packets, f.1);
  past = λ c k j h. proxy-past n a o i _ b.proxy c k j f.0 h (p.past c k j h);
}
changed-even n b (Join a zero) f p = let no : false ≡ true = f.1 in cc
changed-even n b (Join a (suc q)) f p = record {
  equal = λ k j. grind (arith, p.equal k j, proxy-sum n a (packet b (suc q)).object (packet b (suc q)).iface (b.proxy a (packet b (suc q)).object (packet b (suc q)).iface + (packet b (suc q)).refs) b.proxy k j f.0, packet-sum-end k j q b.packets f.1);
  past = λ c k j h. proxy-past n a (packet b (suc q)).object (packet b (suc q)).iface _ b.proxy c k j f.0 h (p.past c k j h);
}
changed-even n b (Return zero) f p = let no : false ≡ true = f in cc
changed-even n b (Return (suc q)) f p = record {
  equal = λ k j. grind (arith, p.equal k j, packet-sum-end k j q b.packets f);
  past = p.past;
}
changed-even n b (ToCookie o i r) f p = record {
  equal = λ k j. grind (arith, p.equal k j, cookie-sum-new o i k j r b.cookies);
  past = p.past;
}
changed-even n b (Withdraw zero) f p = record {
  equal = λ k j. grind (arith, p.equal k j);
  past = p.past;
}
changed-even n b (Withdraw (suc g)) f p = record {
  equal = λ k j. grind (arith, p.equal k j, cookie-sum-end k j g b.cookies);
  past = p.past;
}
changed-even n b Same f p = p

-- ---- the end of an entry

none-given : (b : Bool) (x : ℕ) → x ≡ 0 → cond b 0 x ≡ 0
none-given true x e = refl
none-given false x e = e

none-cut : (b : Bool) (x : ℕ) → x ≡ 0 → cond b x 0 ≡ 0
none-cut true x e = e
none-cut false x e = refl

pub given-back-even : (n : ℕ) (places : ℕ → ℕ → ℕ) (b : Books) → Even n b → Even n (given_back n places b)
given-back-even n places b p = record {
  equal = λ o i. omega (arith, p.equal o i, sum-split n (λ a. eqb (places a o) 0) (λ a. b.proxy a o i));
  past = λ a o i h. none-given (eqb (places a o) 0) (b.proxy a o i) (p.past a o i h);
}

packets-cut : (live : ℕ → Bool) (o i : ℕ) (ps : List Packet) → sum_by (packet_holds_of o i) (map (cut_packet live) ps) ≡ cond (live o) (sum_by (packet_holds_of o i) ps) 0
packets-cut live o i [] = grind (arith, common_steps)
packets-cut live o i (p ∷ ps) = grind (arith, common_steps, packets-cut live o i ps)

cookies-cut : (live : ℕ → Bool) (o i : ℕ) (gs : List Cookie) → sum_by (cookie_holds_of o i) (map (cut_cookie live) gs) ≡ cond (live o) (sum_by (cookie_holds_of o i) gs) 0
cookies-cut live o i [] = grind (arith, common_steps)
cookies-cut live o i (g ∷ gs) = grind (arith, common_steps, cookies-cut live o i gs)

pub cut-even : (n : ℕ) (live : ℕ → Bool) (b : Books) → Even n b → Even n (cut live b)
cut-even n live b p = record {
  equal = λ o i. grind (arith, p.equal o i, sum-cut n (live o) (λ a. b.proxy a o i), packets-cut live o i b.packets, cookies-cut live o i b.cookies);
  past = λ a o i h. none-cut (live o) (b.proxy a o i) (p.past a o i h);
}

-- More apartments.
pub more-even : (n m : ℕ) (b : Books) → n ≤ m → Even n b → Even m b
more-even n m b h p = record {
  equal = λ o i. omega (arith, p.equal o i, subst (λ (k : ℕ). sum_below k (λ a. b.proxy a o i) ≡ sum_below n (λ a. b.proxy a o i)) (add-sub h) (sum-more n (m - n) (λ a. b.proxy a o i) (λ a q. p.past a o i q)));
  past = λ a o i q. p.past a o i (omega (arith, h, q));
}
  where
    add-sub : n ≤ m → n + (m - n) ≡ m
    add-sub h = omega arith

pub stays-even : StaysEven
stays-even = record { changed = changed-even; given_back = given-back-even; cut = cut-even; more = more-even }
