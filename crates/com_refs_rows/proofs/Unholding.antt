-- What the rows of an entry, and an entry as a whole, leave of the holders of each object.
use Rattle.std.proofs.Common.{◌≡◌, refl, sym, ap, subst, ◌∙◌, arith, eqb-true, ℕ, zero, suc, Bool, true, false, cond, not, eqb, ◌&&◌, ◌||◌, ◌+◌, ◌<◌, ◌≤◌, List, [], ◌∷◌, ◌++◌, length}
use Rattle.std.specs.Prelude.{Option, Some, None, IsSomeAnd}
use Rattle.com_base.specs.declared.value.RefValue.{RefValue}
use Rattle.com_refs_books.specs.Changes.{Books, Drops, Makes, Revokes, Same, ToProxy, change, changed, cut, held_outside}
use Rattle.com_refs_books.specs.Counting.{count_if, sum_below}
use Rattle.com_refs_books.specs.Ends.{ends}
use Rattle.com_refs_holders.specs.Places.{Counts, SamePlaces, locals_of}
use Rattle.com_refs_holders.specs.Stands.{Tells}
use Rattle.com_refs_holders.specs.Steps.{made_live}
use Rattle.com_refs_holders.specs.Tables.{Tables, books_of, direct_in, outstanding_in, owns_of}
use Rattle.com_model.specs.declared.deeds.Deed.{Deed}
use Rattle.com_model.specs.Lists.{is_member, is_number}
use Rattle.com_reference_moves.specs.declared.moves.Move.{Move}
use Rattle.com_reference_moves.specs.Steps.{movings_of}
use Rattle.com_packets.specs.declared.Packet as P
use Rattle.com_refs.specs.Counts.{holders_of, unheld}
use Rattle.com_refs.specs.Totals.{Totals}
use Rattle.com_refs.proofs.Ties.{counts_same}
use Rattle.com_slots.specs.Table.{held_in}
use Rattle.com_stub.specs.StubRows.{is_connected}
use Rattle.com_refs_rows.specs.declared.calls.CallPackets.{CallPackets}
use Rattle.com_refs_rows.specs.Books.{Exchanged, books_with, moved_to}
use Rattle.com_refs_rows.specs.Calls.{arguments_in, result_in}
use Rattle.com_refs_rows.specs.Entries.{Around, Carries, Closes, Given, Gives, KeepsHeldBy, Loses, ends_holder, entered, left_by, tally}
use Rattle.com_refs_rows.specs.Moving.{moves_at, plus, AllBelow, HoldsMore, Touches, TouchesCounted}
use Rattle.com_refs_rows.proofs.Changing.{same_moves}
use Rattle.com_refs_rows.proofs.Packed.{with_calls}
use Rattle.com_refs_rows.proofs.Placed.{same_counts}
use Rattle.com_refs_rows.proofs.Touched.{cut-touches, drop-touches, more-by, revoke-touches}
use Rattle.com_refs_rows.proofs.Unheld.{touches-more, touches-then}

-- ---- tables that are as they were

pub more-same : (t u : Tables) → u ≡ t → HoldsMore t u
more-same t u e o = let same : holders_of u o ≡ holders_of t o = ap (λ (v : Tables). holders_of v o) e in omega (arith, same)

pub touches-same : (t u : Tables) (xs : List ℕ) → u ≡ t → Touches t u xs xs
touches-same t u xs e = touches-more t u xs (more-same t u e)

-- Where places and books stay, holders stay.
more-kept : (t u : Tables) → SamePlaces t u → books_of u ≡ books_of t → HoldsMore t u
more-kept t u same books x =
    let outside : held_outside (books_of u) x ≡ held_outside (books_of t) x = ap (λ (b : Books). held_outside b x) books in
    more-by t u x (ap (λ (b : Books). b.live x) books) (omega (arith, same.direct x)) (omega (arith, same.direct x, same.all_elsewhere x, outside))

-- ---- a packet or a cookie that ends

pub drop-touched : (t u : Tables) (number : ℕ) (lost : Option ℕ) (xs ys : List ℕ)
    → ((n : ℕ) (places : ℕ → ℕ → ℕ) → Counts n places t → Tells n places t) → ((n : ℕ) (places : ℕ → ℕ → ℕ) → Counts n places t → Totals n places t)
    → ((n : ℕ) (places : ℕ → ℕ → ℕ) → Tells n places t → Totals n places t → ends n places (books_of t) ≡ books_of t)
    → ((n : ℕ) (places : ℕ → ℕ → ℕ) → Counts n places u → Tells n places u) → ((n : ℕ) (places : ℕ → ℕ → ℕ) → Counts n places u → Totals n places u)
    → SamePlaces t u → IsSomeAnd (outstanding_in (is_connected t.stubs) t.packets number) (λ (p : P.Packet). lost ≡ unheld u p.object)
    → ((n : ℕ) (places : ℕ → ℕ → ℕ) → Tells n places u → Totals n places u → books_of u ≡ ends n places (changed (books_of t) (change (owns_of t.objects) (books_of t) (Drops number))))
    → ((x : ℕ) → is_member x ys ≡ (is_member x xs || is_number x lost)) → TouchesCounted t u xs ys
drop-touched t u number lost xs ys tells totals rests tells-now totals-now same found books members n places counts =
    by-packet (outstanding_in (is_connected t.stubs) t.packets number) refl found
  where
    now : Counts n places u
    now = counts_same n places places t u counts same

    by-packet : (q : Option P.Packet) → outstanding_in (is_connected t.stubs) t.packets number ≡ q → IsSomeAnd q (λ (p : P.Packet). lost ≡ unheld u p.object) → Touches t u xs ys
    by-packet None e f = absurd f
    by-packet (Some p) e f =
        drop-touches n places places t u number p lost xs ys (totals n places counts) (totals-now n places now) (rests n places (tells n places counts) (totals n places counts)) same e
        (books n places (tells-now n places now) (totals-now n places now)) f members

pub revoke-touched : (t u : Tables) (number : ℕ) (lost : Option ℕ) (xs ys : List ℕ)
    → ((n : ℕ) (places : ℕ → ℕ → ℕ) → Counts n places t → Tells n places t) → ((n : ℕ) (places : ℕ → ℕ → ℕ) → Counts n places t → Totals n places t)
    → ((n : ℕ) (places : ℕ → ℕ → ℕ) → Tells n places t → Totals n places t → ends n places (books_of t) ≡ books_of t)
    → ((n : ℕ) (places : ℕ → ℕ → ℕ) → Counts n places u → Tells n places u) → ((n : ℕ) (places : ℕ → ℕ → ℕ) → Counts n places u → Totals n places u)
    → SamePlaces t u → IsSomeAnd (held_in t.cookies number) (λ (r : RefValue). lost ≡ unheld u r.object)
    → ((n : ℕ) (places : ℕ → ℕ → ℕ) → Tells n places u → Totals n places u → books_of u ≡ ends n places (changed (books_of t) (change (owns_of t.objects) (books_of t) (Revokes number))))
    → ((x : ℕ) → is_member x ys ≡ (is_member x xs || is_number x lost)) → TouchesCounted t u xs ys
revoke-touched t u number lost xs ys tells totals rests tells-now totals-now same found books members n places counts =
    by-cookie (held_in t.cookies number) refl found
  where
    now : Counts n places u
    now = counts_same n places places t u counts same

    by-cookie : (q : Option RefValue) → held_in t.cookies number ≡ q → IsSomeAnd q (λ (r : RefValue). lost ≡ unheld u r.object) → Touches t u xs ys
    by-cookie None e f = absurd f
    by-cookie (Some r) e f =
        revoke-touches n places places t u number r lost xs ys (totals n places counts) (totals-now n places now) (rests n places (tells n places counts) (totals n places counts)) same e
        (books n places (tells-now n places now) (totals-now n places now)) f members

-- ---- an object that is disconnected

or-true : (b : Bool) → (b || true) ≡ true
or-true true = refl
or-true false = refl

pub cut-direct : (t u : Tables) (o : ℕ) (xs : List ℕ) → books_of u ≡ cut (λ x. (books_of t).live x && not (eqb x o)) (books_of t) → u.objects ≡ t.objects → u.proxies ≡ t.proxies
    → 0 < direct_in u o → Touches t u xs xs
cut-direct t u o xs books objects proxies some = cut-touches t u (λ x. eqb x o) books objects proxies xs xs (λ x m. m)
    (λ x g l none.
    let same : x ≡ o = eqb-true x o g in
    let now : direct_in u o ≡ direct_in t o = ap (λ os. direct_in (record t { objects = os }) o) objects in
    let here : direct_in t x ≡ direct_in t o = ap (λ (k : ℕ). direct_in t k) same in
    absurd (omega (arith, some, now, here, none)))

pub cut-written : (t u : Tables) (o : ℕ) (xs ys : List ℕ) → books_of u ≡ cut (λ x. (books_of t).live x && not (eqb x o)) (books_of t) → u.objects ≡ t.objects → u.proxies ≡ t.proxies
    → ((x : ℕ) → is_member x ys ≡ (is_member x xs || eqb x o)) → Touches t u xs ys
cut-written t u o xs ys books objects proxies members = cut-touches t u (λ x. eqb x o) books objects proxies xs ys
    (λ x m. members x ∙ ap (λ (b : Bool). b || eqb x o) m)
    (λ x g l none. members x ∙ ap (λ (b : Bool). is_member x xs || b) g ∙ or-true (is_member x xs))

-- ---- an object that is made

made-outside : (b : Books) (w : Bool) (a o i x : ℕ) → held_outside (changed (made_live o b) (cond w Same (ToProxy a o i 5))) x ≡ held_outside b x
made-outside b true a o i x = refl
made-outside b false a o i x = refl

made-lives : (b : Books) (w : Bool) (a o i x : ℕ) → (changed (made_live o b) (cond w Same (ToProxy a o i 5))).live x ≡ (eqb x o || b.live x)
made-lives b true a o i x = refl
made-lives b false a o i x = refl

sum-above : (n : ℕ) (f g : ℕ → ℕ) → ((k : ℕ) → f k ≤ g k) → sum_below n f ≤ sum_below n g
sum-above zero f g h = omega arith
sum-above (suc n) f g h = omega (arith, sum-above n f g h, h n)

pub made-more : (t u : Tables) (a : ℕ) (r : RefValue) (w : Bool) (n : ℕ) (places : ℕ → ℕ → ℕ)
    → books_of u ≡ changed (made_live r.object (books_of t)) (change (owns_of u.objects) (made_live r.object (books_of t)) (Makes a r.object r.iface))
    → ((x : ℕ) → direct_in u x ≡ direct_in t x + count_if (w && eqb x r.object)) → Totals n places t → Totals n (plus places (moved_to a r ∷ [])) u → HoldsMore t u
made-more t u a r w n places row direct was now x =
    by-live ((books_of t).live x) ((books_of u).live x) live _ _ _ _ (omega (arith, sums, was.total x, now.total x, outside)) (omega (arith, direct x)) (omega (arith, direct x, some-less))
  where
    outside : held_outside (books_of u) x ≡ held_outside (books_of t) x
    outside = ap (λ (b : Books). held_outside b x) row ∙ made-outside (books_of t) (owns_of u.objects r.object a) a r.object r.iface x

    live : (books_of u).live x ≡ (eqb x r.object || (books_of t).live x)
    live = ap (λ (b : Books). b.live x) row ∙ made-lives (books_of t) (owns_of u.objects r.object a) a r.object r.iface x

    sums : sum_below n (λ c. places c x) ≤ sum_below n (λ c. plus places (moved_to a r ∷ []) c x)
    sums = sum-above n (λ c. places c x) (λ c. plus places (moved_to a r ∷ []) c x) (λ c. omega arith)

    some-less : direct_in u x ≤ direct_in u x + (locals_of x u.proxies + held_outside (books_of u) x)
    some-less = omega arith

    clash : false ≡ true → ⊥
    clash e = cc

    by-live : (b c : Bool) → c ≡ (eqb x r.object || b) → (p q k s : ℕ) → q ≤ s → p ≤ k → p ≤ s → cond b q p ≤ cond c s k
    by-live true true e p q k s l m o = l
    by-live true false e p q k s l m o = absurd (clash (e ∙ or-true (eqb x r.object)))
    by-live false true e p q k s l m o = o
    by-live false false e p q k s l m o = m

-- ---- an entry as a whole

module _ (g : Around) (d : Deed) (t t1 t2 t3 t4 t5 : Tables) (calls calls1 calls2 calls5 : List CallPackets) (before ys brought gains losses gained lost : List Move) (ws vs us zs : List ℕ)
    (same : SamePlaces t t1) (books : books_of t1 ≡ books_of t) (same-calls : calls1 ≡ calls) (none : before ≡ []) (nothing : ws ≡ [])
    (gives : Gives g d (tally t1 calls1) before (tally t2 calls2) ys) (value : brought ≡ ys) (keeps : KeepsHeldBy g.apartment d t1 t2)
    (exchanged : Exchanged brought gains t2 t3)
    (taken : (n : ℕ) (places : ℕ → ℕ → ℕ) → AllBelow n brought → AllBelow n gains → Counts n (plus places brought) t2 → Touches t2 t3 ws vs)
    (closes : Closes g d (tally t3 calls2) (tally t4 calls2)) (ended : TouchesCounted t3 t4 vs us)
    (left : (n : ℕ) (later : ℕ → ℕ → ℕ) → AllBelow n losses → Counts n (plus later losses) t4 → Touches t4 t5 us zs)
    (eg : movings_of gained ≡ movings_of gains) (el : movings_of lost ≡ movings_of losses) where
  pub loses_whole : Loses g d gained lost (tally t calls) (tally t5 calls5) zs
  loses_whole s x carries n places later low gs ls made counts both =
      touches-then t t1 t5 [] [] zs (touches-more t t1 [] (more-kept t t1 same books))
      (touches-then t1 t2 t5 [] [] zs (touches-more t1 t2 [] (keeps n places low made1 counts1))
      (touches-then t2 t3 t5 [] vs zs (subst (λ (l : List ℕ). Touches t2 t3 l vs) nothing (taken n places all-brought all-gained counts2))
      (touches-then t3 t4 t5 vs us zs (ended n (plus places gains) counts3) (left n later all-lost counts4))))
    where
      is-gained : gains ≡ gained
      is-gained = sym (same_moves gained gains eg)

      is-lost : losses ≡ lost
      is-lost = sym (same_moves lost losses el)

      all-gained : AllBelow n gains
      all-gained = subst (λ (l : List Move). AllBelow n l) (sym is-gained) gs

      all-lost : AllBelow n losses
      all-lost = subst (λ (l : List Move). AllBelow n l) (sym is-lost) ls

      same-books : books_with t1 calls1 ≡ books_with t calls
      same-books = ap (λ (b : Books). with_calls b (arguments_in calls1) (result_in calls1)) books ∙ ap (λ (c : List CallPackets). books_with t c) same-calls

      given : Given g (λ owned. cond (ends_holder (left_by g.calls) d) (books_with t1 calls1) (entered s x g owned d (books_with t1 calls1))) d (tally t1 calls1) before (tally t2 calls2) ys
      given = gives s x (subst (λ (b : Books). Carries s x b d g.carried) (sym same-books) carries)

      is-brought : brought ≡ given.moves
      is-brought = value ∙ given.written ∙ ap (λ (l : List Move). l ++ given.moves) none

      all-brought : AllBelow n brought
      all-brought = subst (λ (l : List Move). AllBelow n l) (sym is-brought) (given.below n low)

      made1 : (c y : ℕ) → length t1.objects < y → places c y ≡ 0
      made1 c y h = made c y (omega (arith, h, same.made))

      counts1 : Counts n places t1
      counts1 = counts_same n places places t t1 counts same

      counts2 : Counts n (plus places brought) t2
      counts2 = subst (λ (l : List Move). Counts n (plus places l) t2) (sym is-brought) (given.counts n places (given.below n low) made1 counts1)

      counts3 : Counts n (plus places gains) t3
      counts3 = exchanged.counts n places all-brought all-gained counts2

      counts4 : Counts n (plus later losses) t4
      counts4 = same_counts n (plus places gains) (plus later losses) t4
          (λ c y. omega (arith, both c y, ap (λ (l : List Move). moves_at l c y) is-gained, ap (λ (l : List Move). moves_at l c y) is-lost))
          (counts_same n (plus places gains) (plus places gains) t3 t4 counts3 (closes s x (λ o c. false)).places)
