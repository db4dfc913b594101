-- Each step keeps the rule.
use Rattle.std.proofs.Common.{◌≡◌, ◌≢◌, ℕ, zero, suc, eqb, ◌+◌, ◌%◌, ◌^◌, ◌<◌, ◌≤◌, Bool, true, false, true≢false, List, [], ◌∷◌, ◌++◌, length, get_or, set, refl, sym, ap, ◌∙◌, subst, ⊎_elim, arith, append_assoc, length-append, length-set, get_or-set_other, get_or-set_same, mod-eq_of_lt}
use Rattle.std.proofs.lemmas.List.{append-nil, append_cancel_left}
use Rattle.std.proofs.lemmas.List.Elements.{filter-append}
use Rattle.std.specs.Prelude.{Option, Some, None}
use mathlib.Core.Option.{none, some, some-ne-none, some-injective}
use mathlib.Core.Option as maybe
use mathlib.Core.List.{IsPrefix}
use lib.ListN.{get_elem?}
use prog.Atomic.{either}
use mathlib.Core.Logic.{dite}
use native.Mathlib.Decide.{ℕ_discrete}
use Rattle.atomic_table.specs.Table.{State, step, Act, keeps, takes, gives, Valid, stepped, carried_after, Allows, Splits, opening}
use Rattle.atomic_table.proofs.Lists.{set_here, set_else, set_again, at_longer, exchanged}
use Rattle.com_turnstile.specs.declared.view.View.{View}
use Rattle.com_turnstile.specs.Entries.{of_lane, AreOf}
use Rattle.com_turnstile.specs.Turns.{ticket_count, tickets_out, IsSeen, first_view, Fits, NoTurn, InTurn}
use Rattle.com_turnstile.specs.Steps.{Holder, with_ticket, in_turn, with_more, at_rest, no_splitter, next_view, drew, served, published, advanced}
use Rattle.com_turnstile.proofs.Lists.{Before, before, set_at, at_end, prefix_more, prefix_all, comparable, none_of_another}

set_found : (ws : List ℕ) (i : ℕ) → set ws i (get_or ws i 0) ≡ ws
set_found [] i = refl
set_found (x ∷ xs) zero = refl
set_found (x ∷ xs) (suc i) = ap (λ w. x ∷ w) (set_found xs i)

not_true : (b : Bool) → (b ≡ true → ⊥) → b ≡ false
not_true true n = absurd (n refl)
not_true false n = refl

same_ticket : (a b : ℕ) → Some a ≡ Some b → a ≡ b
same_ticket a b e = cc

no_ticket_is : (a : ℕ) → None ≡ Some a → ⊥
no_ticket_is a e = cc

abbrev top : {S : Type 0} → S → List (ℕ × S) → S
top d [] = d
top d (y ∷ ys) = y.1

module _ {T E : Type 0} (list : T → List E) (lane : E → ℕ) (first : List E) where
  abbrev St : Type 0
  St = State (Option T) (View E)

  abbrev Rule : St → Type 0
  Rule s = InTurn list lane first s

  abbrev At : List (View E) → ℕ → View E → Type 0
  At views j v = get_elem? views j ≡ some v

  -- what a step has to give at one table
  abbrev Goes : St → ℕ → ℕ → Holder T E → (ℕ → Holder T E → Type 0) → ℕ → Type 0
  Goes s i id me then new = (w : View E) × (a : Act (Option T)) × Valid s.homes me.1 a × Rule (stepped s i new id me.1 w a) × then (get_or s.words i 0) (w, carried_after me.1 a)

  same_number : (views : List (View E)) (id : ℕ) (v w : View E) (j : ℕ) (y : View E) → w.number ≡ v.number → (b : Before views id v w j y) → y.number ≡ b.was.number
  same_number views id v w j y e b = ⊎_elim (λ t. ap (λ (u : View E). u.number) t.1 ∙ e ∙ sym (ap (λ (u : View E). u.number) t.2)) (λ t. ap (λ (u : View E). u.number) t.1) b.case

  -- how many have a ticket, after a change of one
  out_set : (views : List (View E)) (id : ℕ) (v w : View E) → At views id v → tickets_out (set views id w) + ticket_count v.ticket ≡ tickets_out views + ticket_count w.ticket
  out_set [] id v w e = absurd (some-ne-none v (sym e))
  out_set (x ∷ xs) zero v w e = let is : ticket_count x.ticket ≡ ticket_count v.ticket = ap (λ (u : View E). ticket_count u.ticket) (some-injective x v e) in omega arith
  out_set (x ∷ xs) (suc id) v w e = let rest_is = out_set xs id v w e in omega arith

  out_same : (views : List (View E)) (id : ℕ) (v w : View E) → At views id v → w.ticket ≡ v.ticket → tickets_out (set views id w) ≡ tickets_out views
  out_same views id v w e same = let h = out_set views id v w e in let q : ticket_count w.ticket ≡ ticket_count v.ticket = ap ticket_count same in omega arith

  out_longer : (views : List (View E)) (w : View E) → tickets_out (views ++ w ∷ []) ≡ tickets_out views + ticket_count w.ticket
  out_longer [] w = omega arith
  out_longer (x ∷ xs) w = let h = out_longer xs w in omega arith

  below_total : (s : St) (r : Rule s) → get_or s.words 1 0 ≤ get_or s.words 0 0
  below_total s r = let t = r.tally in omega arith

  -- who has seen it all, after a change of one that leaves what was seen
  longest_same : (views : List (View E)) (id : ℕ) (v w : View E) (es : List E) → At views id v → w.seen ≡ v.seen → IsSeen views es → IsSeen (set views id w) es
  longest_same views id v w es at same l = dite (ℕ_discrete l.0 id)
      (λ is. (id, (w, set_at views id v w at, same ∙ (ap (λ (u : View E). u.seen) (some-injective v l.1.0 (sym at ∙ (ap (λ (k : ℕ). get_elem? views k) (sym is) ∙ l.1.1))) ∙ l.1.2))))
      (λ ne. (l.0, (l.1.0, set_else views id l.0 w ne ∙ l.1.1, l.1.2)))

  -- where no view has its turn after a change of one that leaves the turn, none had it before
  no_turn_before : (views : List (View E)) (id : ℕ) (v w : View E) → At views id v → w.turn ≡ v.turn → NoTurn (set views id w) → NoTurn views
  no_turn_before views id v w at same free j u h = dite (ℕ_discrete j id)
      (λ is. ap (λ (z : View E). z.turn) (some-injective u v (sym h ∙ (ap (λ (k : ℕ). get_elem? views k) is ∙ at))) ∙ (sym same ∙ free id w (set_at views id v w at)))
      (λ ne. free j u (set_else views id j w ne ∙ h))

  -- where a view has its turn after such a change, the slot was out before
  out_before : (s : St) (r : Rule s) (id : ℕ) (v w : View E) → At s.views id v → w.turn ≡ v.turn → (j : ℕ) (u : View E) → At (set s.views id w) j u → u.turn ≡ true → get_elem? s.homes 0 ≡ some none
  out_before s r id v w at same j u h e = let b = before s.views id v w j u at h in
      r.out j b.was b.at (⊎_elim (λ t. ap (λ (z : View E). z.turn) t.2 ∙ (sym same ∙ (sym (ap (λ (z : View E). z.turn) t.1) ∙ e))) (λ t. sym (ap (λ (z : View E). z.turn) t.1) ∙ e) b.case)

  -- The view with the index id becomes w, which keeps its number: the rule holds of the new state if w fits, the other views fit, no other has the ticket of w, and what the rule says of the words and the slot holds
  moved : (s : St) (r : Rule s) (id : ℕ) (v w : View E) (words : List ℕ) (homes : List (maybe.Option (Option T))) (later : List E) → At s.views id v → w.number ≡ v.number → (w.splits ≡ true → v.splits ≡ true)
      → ((j : ℕ) (u : View E) → j ≢ id → At s.views j u → (t : ℕ) → w.ticket ≡ Some t → u.ticket ≢ Some t)
      → length words ≡ 3 → length homes ≡ 1 → get_or words 0 0 < 18446744073709551616 → get_or words 1 0 + tickets_out (set s.views id w) ≡ get_or words 0 0 → IsSeen (set s.views id w) (first ++ later) → get_or words 2 0 ≡ length (first ++ later)
      → Fits lane first later (get_or words 0 0) (get_or words 1 0) w
      → ((j : ℕ) (u : View E) → j ≢ id → At s.views j u → Fits lane first later (get_or words 0 0) (get_or words 1 0) u)
      → ((n : ℕ) → 0 < n → ((j : ℕ) (u : View E) → At s.views j u → u.number ≢ n) → of_lane lane n later ≡ [])
      → (NoTurn (set s.views id w) → (x : T) × (get_elem? homes 0 ≡ some (some (Some x))) × (list x ≡ first ++ later))
      → ((j : ℕ) (u : View E) → At (set s.views id w) j u → u.turn ≡ true → get_elem? homes 0 ≡ some none)
      → Rule record { words = words; homes = homes; views = set s.views id w }
  moved s r id v w words homes later at number splits fresh three one small tally longest counted mine others absent home out = let b = λ (j : ℕ) (y : View E) (h : At (set s.views id w) j y). before s.views id v w j y at h in
      let num = λ (j : ℕ) (y : View E) (h : At (set s.views id w) j y). same_number s.views id v w j y number (b j y h) in
      let fit = λ (j : ℕ) (y : View E) (h : At (set s.views id w) j y). ⊎_elim (λ t. subst (Fits lane first later (get_or words 0 0) (get_or words 1 0)) (sym t.1) mine) (λ t. subst (Fits lane first later (get_or words 0 0) (get_or words 1 0)) (sym t.1) (others j (b j y h).was t.0 (b j y h).at)) (b j y h).case in
      record {
        later = later;
        three_words = three;
        one_slot = one;
        each = fit;
        apart = λ i j y z hy hz e. r.apart i j (b i y hy).was (b j z hz).was (b i y hy).at (b j z hz).at (sym (num i y hy) ∙ e ∙ num j z hz);
        greatest = λ i j y z hy hz e.
            let le : (b j z hz).was.number ≤ (b i y hy).was.number = r.greatest i j (b i y hy).was (b j z hz).was (b i y hy).at (b j z hz).at (⊎_elim (λ t. ap (λ (u : View E). u.splits) t.2 ∙ splits (sym (ap (λ (u : View E). u.splits) t.1) ∙ e)) (λ t. sym (ap (λ (u : View E). u.splits) t.1) ∙ e) (b i y hy).case) in
            let p = num i y hy in let q = num j z hz in omega arith;
        absent = λ n pos none_has. absent n pos (λ j u h e. dite (ℕ_discrete j id)
            (λ is. none_has id w (set_at s.views id v w at) (number ∙ ap (λ (z : View E). z.number) (some-injective v u (sym at ∙ (ap (λ (k : ℕ). get_elem? s.views k) (sym is) ∙ h))) ∙ e))
            (λ ne. none_has j u (set_else s.views id j w ne ∙ h) e));
        tally = tally;
        fits_word = small;
        tickets = λ i j y z hy hz k ey ez. ⊎_elim
            (λ t. ⊎_elim (λ t'. t.0 ∙ sym t'.0)
            (λ t'. absurd (fresh j (b j z hz).was t'.0 (b j z hz).at k (sym (ap (λ (u : View E). u.ticket) t.1) ∙ ey) (sym (ap (λ (u : View E). u.ticket) t'.1) ∙ ez))) (b j z hz).case)
            (λ t. ⊎_elim
            (λ t'. absurd (fresh i (b i y hy).was t.0 (b i y hy).at k (sym (ap (λ (u : View E). u.ticket) t'.1) ∙ ez) (sym (ap (λ (u : View E). u.ticket) t.1) ∙ ey)))
            (λ t'. r.tickets i j (b i y hy).was (b j z hz).was (b i y hy).at (b j z hz).at k (sym (ap (λ (u : View E). u.ticket) t.1) ∙ ey) (sym (ap (λ (u : View E). u.ticket) t'.1) ∙ ez)) (b j z hz).case)
            (b i y hy).case;
        nested = λ i j y z hy hz. comparable y.seen z.seen (first ++ later) (fit i y hy).saw (fit j z hz).saw;
        longest = longest;
        counted = counted;
        home = home;
        out = out;
      }

  -- the table stays as it is
  unmoved : (s : St) (r : Rule s) (i id : ℕ) (v : View E) → At s.views id v → Rule record { words = set s.words i (get_or s.words i 0); homes = s.homes; views = set s.views id v }
  unmoved s r i id v at = subst (λ (z : List ℕ × List (View E)). Rule record { words = z.0; homes = s.homes; views = z.1 }) (λ k. (sym (set_found s.words i) k, sym (set_again s.views id v at) k)) r

  stays : (s : St) (r : Rule s) (i id : ℕ) (me : Holder T E) (then : ℕ → Holder T E → Type 0) → At s.views id me.0 → then (get_or s.words i 0) me → Goes s i id me then (get_or s.words i 0)
  stays s r i id me then at told = (me.0, keeps, tt, unmoved s r i id me.0 at, told)

  pub draws : (n id : ℕ) (me : Holder T E) (t : ℕ) → me.0.ticket ≡ None → me.0.turn ≡ false → t + 1 < 18446744073709551616
      → Allows Rule n id me 0 (λ y. either (eqb y t) (t + 1) y) (drew (step n 0 t (t + 1) none) me)
  draws n id me t no_ticket no_turn small s r deep at _ = let y : ℕ = get_or s.words 0 0 in let told = drew (step n 0 t (t + 1) none) me in
      exchanged y t (t + 1) (Goes s 0 id me told)
      (λ hit.
      let w = with_ticket me.0 t in
      let v : View E = me.0 in
      let three : length s.words ≡ 3 = r.three_words in
      let here : get_or (set s.words 0 (t + 1)) 0 0 ≡ t + 1 = get_or-set_same s.words 0 (t + 1) 0 (omega arith) in
      let s1 : get_or (set s.words 0 (t + 1)) 1 0 ≡ get_or s.words 1 0 = get_or-set_other s.words 0 1 (t + 1) 0 (λ e. omega arith) in
      let s2 : get_or (set s.words 0 (t + 1)) 2 0 ≡ get_or s.words 2 0 = get_or-set_other s.words 0 2 (t + 1) 0 (λ e. omega arith) in
      let order : get_or s.words 1 0 ≤ get_or s.words 0 0 = below_total s r in
      let tally : get_or s.words 1 0 + tickets_out s.views ≡ get_or s.words 0 0 = r.tally in
      let hs : tickets_out (set s.views id w) + ticket_count v.ticket ≡ tickets_out s.views + 1 = out_set s.views id v w at in
      let none_before : ticket_count v.ticket ≡ 0 = ap ticket_count no_ticket in
      let mine = r.each id v at in (
        w,
        keeps,
        tt,
        moved s r id v w (set s.words 0 (t + 1)) s.homes r.later at refl (λ e. e)
            (λ j u ne h k is e. let same : t ≡ k = same_ticket t k is in let q = (r.each j u h).waits k e in let q1 : k < get_or s.words 0 0 = q.1 in omega arith)
            (length-set s.words 0 (t + 1) ∙ three) r.one_slot (omega arith) (omega arith) (longest_same s.views id v w (first ++ r.later) at refl r.longest) (s2 ∙ r.counted)
            record { numbered = mine.numbered; opens = mine.opens; saw = mine.saw; own = mine.own; waits = λ k is. (let same : t ≡ k = same_ticket t k is in (omega arith, omega arith)); turns = λ e. absurd (true≢false (sym e ∙ no_turn)) }
            (λ j u ne h. let f = r.each j u h in record {
              numbered = f.numbered;
              opens = f.opens;
              saw = f.saw;
              own = f.own;
              waits = λ k is. (let q = f.waits k is in let q0 : get_or s.words 1 0 ≤ k = q.0 in let q1 : k < get_or s.words 0 0 = q.1 in (omega arith, omega arith));
              turns = λ e. ((f.turns e).0 ∙ ap (λ (k : ℕ). Some k) (sym s1), (f.turns e).1);
            })
            r.absent
            (λ free. r.home (no_turn_before s.views id v w at refl free))
            (λ j u h e. out_before s r id v w at refl j u h e),
        ((λ _. refl), λ miss. absurd (miss hit)),
      ))
      (λ miss. stays s r 0 id me told at ((λ hit. absurd (miss hit)), λ _. refl))

  -- no other view has the ticket of one that is served
  alone : (s : St) (r : Rule s) (id : ℕ) (v : View E) → At s.views id v → v.ticket ≡ Some (get_or s.words 1 0) → (j : ℕ) (u : View E) → j ≢ id → At s.views j u → u.ticket ≢ Some (get_or s.words 1 0)
  alone s r id v at is j u ne h e = ne (r.tickets j id u v h at (get_or s.words 1 0) e is)

  -- the same of any number that its ticket is
  fresh_still : (s : St) (r : Rule s) (id : ℕ) (v : View E) → At s.views id v → v.ticket ≡ Some (get_or s.words 1 0) → (j : ℕ) (u : View E) → j ≢ id → At s.views j u → (k : ℕ) → v.ticket ≡ Some k → u.ticket ≢ Some k
  fresh_still s r id v at is j u ne h k vk e = ne (r.tickets j id u v h at k e vk)

  -- so nobody has a turn, where this one has none
  nobody : (s : St) (r : Rule s) (id : ℕ) (v : View E) → At s.views id v → v.ticket ≡ Some (get_or s.words 1 0) → v.turn ≡ false → NoTurn s.views
  nobody s r id v at is none_yet j u h = not_true u.turn (λ e. let q = (r.each j u h).turns e in
      let ji = r.tickets j id u v h at (get_or s.words 1 0) q.0 is in
      let uv : u ≡ v = some-injective u v (sym h ∙ (ap (λ (k : ℕ). get_elem? s.views k) ji ∙ at)) in
      true≢false (sym e ∙ (ap (λ (z : View E). z.turn) uv ∙ none_yet)))

  pub serves : (n id : ℕ) (me : Holder T E) (t : ℕ) → me.0.ticket ≡ Some t → me.0.turn ≡ false → Allows Rule n id me 1 (λ y. y) (served list lane (step n 1 0 0 none) me)
  serves n id me t has_ticket no_turn s r deep at _ = let y : ℕ = get_or s.words 1 0 in let told = served list lane (step n 1 0 0 none) me in let v : View E = me.0 in
      dite (ℕ_discrete t y)
      (λ same.
      let hit : v.ticket ≡ Some y = has_ticket ∙ ap (λ (k : ℕ). Some k) same in
      let free = nobody s r id v at hit no_turn in
      let h = r.home free in
      let x : T = h.0 in
      let e : list x ≡ first ++ r.later = h.2 in
      let mine = r.each id v at in
      let w = in_turn v (list x) in (
        w,
        takes 0 (Some x),
        h.1,
        subst (λ (ws : List ℕ). Rule record { words = ws; homes = set s.homes 0 none; views = set s.views id w }) (sym (set_found s.words 1))
            (moved s r id v w s.words (set s.homes 0 none) r.later at refl (λ q. q)
            (λ j u ne hu. fresh_still s r id v at hit j u ne hu)
            r.three_words (length-set s.homes 0 none ∙ r.one_slot) r.fits_word (ap (λ (k : ℕ). get_or s.words 1 0 + k) (out_same s.views id v w at refl) ∙ r.tally) (id, (w, set_at s.views id v w at, e)) r.counted
            record { numbered = mine.numbered; opens = mine.opens; saw = subst (λ (z : List E). IsPrefix z (first ++ r.later)) (sym e) (prefix_all (first ++ r.later)); own = mine.own; waits = mine.waits; turns = λ _. (hit, e) }
            (λ j u ne hu. r.each j u hu)
            r.absent
            (λ nobody_now. absurd (true≢false (nobody_now id w (set_at s.views id v w at))))
            (λ j u hu q. set_here s.homes 0 none (let d : length s.homes ≡ 1 = r.one_slot in omega arith))),
        ((λ _. record { value = x; later = r.later; listed = e ∙ ap (λ (z : List E). z ++ r.later) (sym mine.opens); begins = subst (IsPrefix v.seen) (sym e) mine.saw; own = sym mine.own; now = refl }), λ miss. absurd (miss hit)),
      ))
      (λ miss. stays s r 1 id me told at ((λ hit. absurd (miss (same_ticket t y (sym has_ticket ∙ hit)))), λ _. refl))

  pub publishes : (n id : ℕ) (me : Holder T E) (x : T) (more : List E) (k : ℕ) → me.0.turn ≡ true → me.1 ≡ (0, Some x) ∷ [] → list x ≡ me.0.seen ++ more → k ≡ length more → length (list x) < 18446744073709551616 → AreOf lane me.0.number more
      → Allows Rule n id me 2 (λ y. (y + k) % 2 ^ 64) (published list lane (step n 2 k 0 none) me)
  publishes n id me x more k turn has listed long small are s r deep at _ = let y : ℕ = get_or s.words 2 0 in let v : View E = me.0 in let mine = r.each id v at in let tu = mine.turns turn in let w = with_more lane v more in
      let three : length s.words ≡ 3 = r.three_words in
      let all : first ++ (r.later ++ more) ≡ list x = sym (append_assoc first r.later more) ∙ (ap (λ (z : List E). z ++ more) (sym tu.1) ∙ sym listed) in
      let sum : y + k ≡ length (first ++ (r.later ++ more)) = ap (λ (z : ℕ). y + z) long ∙ (ap (λ (z : ℕ). z + length more) r.counted ∙ (sym (length-append (first ++ r.later) more) ∙ ap length (append_assoc first r.later more))) in
      let less : y + k < 18446744073709551616 = subst (λ (z : ℕ). z < 18446744073709551616) (sym (sum ∙ ap length all)) small in
      let new : ℕ = (y + k) % 2 ^ 64 in
      let new_is : new ≡ length (first ++ (r.later ++ more)) = mod-eq_of_lt less ∙ sum in
      let w0 : get_or (set s.words 2 new) 0 0 ≡ get_or s.words 0 0 = get_or-set_other s.words 2 0 new 0 (λ e. omega arith) in
      let w1 : get_or (set s.words 2 new) 1 0 ≡ get_or s.words 1 0 = get_or-set_other s.words 2 1 new 0 (λ e. omega arith) in
      let at_fits = λ (u : View E) (f : Fits lane first (r.later ++ more) (get_or s.words 0 0) (get_or s.words 1 0) u). subst (λ (z : ℕ × ℕ). Fits lane first (r.later ++ more) z.0 z.1 u) (λ i. (sym w0 i, sym w1 i)) f in
      let split_own = λ (m : ℕ). filter-append (λ (e : E). eqb (lane e) m) r.later more in
      let no_other = λ (m : ℕ) (ne : m ≢ v.number) (pos : 0 < m). none_of_another lane v.number m ne pos more are in (
        w,
        keeps,
        tt,
        moved s r id v w (set s.words 2 new) s.homes (r.later ++ more) at refl (λ q. q)
            (λ j u ne hu. fresh_still s r id v at tu.0 j u ne hu)
            (length-set s.words 2 new ∙ three) r.one_slot (subst (λ (z : ℕ). z < 18446744073709551616) (sym w0) r.fits_word) (let tl = r.tally in let hs = out_same s.views id v w at refl in omega arith) (id, (w, set_at s.views id v w at, sym listed ∙ sym all))
            (get_or-set_same s.words 2 new 0 (omega arith) ∙ new_is)
            (at_fits w record {
              numbered = mine.numbered;
              opens = mine.opens;
              saw = subst (λ (z : List E). IsPrefix z (first ++ (r.later ++ more))) (all ∙ listed) (prefix_all (first ++ (r.later ++ more)));
              own = ap (λ (z : List E). z ++ of_lane lane v.number more) mine.own ∙ sym (split_own v.number);
              waits = mine.waits;
              turns = λ _. (tu.0, sym listed ∙ sym all);
            })
            (λ j u ne hu. let f = r.each j u hu in at_fits u record {
              numbered = f.numbered;
              opens = f.opens;
              saw = subst (IsPrefix u.seen) (append_assoc first r.later more) (prefix_more u.seen (first ++ r.later) more f.saw);
              own = f.own ∙ (sym (append-nil (of_lane lane u.number r.later)) ∙ (ap (λ (z : List E). of_lane lane u.number r.later ++ z) (sym (no_other u.number (λ e. ne (r.apart j id u v hu at e)) f.numbered)) ∙ sym (split_own u.number)));
              waits = f.waits;
              turns = λ e. absurd (alone s r id v at tu.0 j u ne hu (f.turns e).0);
            })
            (λ m pos free. split_own m ∙ (ap (λ (z : List E). z ++ of_lane lane m more) (r.absent m pos free) ∙ no_other m (λ e. free id v at (sym e)) pos))
            (λ nobody_now. absurd (true≢false (sym turn ∙ nobody_now id w (set_at s.views id v w at))))
            (λ j u hu e. out_before s r id v w at refl j u hu e),
        (λ x' more' has' listed'.
            let both : Some x ≡ Some x' = ap (top None) (sym has ∙ has') in let same : x ≡ x' = cc both in
            let rest_is : more ≡ more' = append_cancel_left v.seen more more' (sym listed ∙ (ap list same ∙ listed')) in
            ap (λ (z : List E). (with_more lane v z, me.1)) rest_is),
      )

  -- the value comes home
  gives_home : (n id : ℕ) (v : View E) (c : List (ℕ × Option T)) (x : T) → v.turn ≡ true → c ≡ (0, Some x) ∷ [] → list x ≡ v.seen → (s : St) (r : Rule s) → At s.views id v
      → Goes s 1 id (v, c) (advanced (step n 1 1 0 none) (v, c)) ((get_or s.words 1 0 + 1) % 2 ^ 64)
  gives_home n id v c x turn has listed s r at = let y : ℕ = get_or s.words 1 0 in let mine = r.each id v at in let tu = mine.turns turn in let w = at_rest v in
      let three : length s.words ≡ 3 = r.three_words in
      let is : v.ticket ≡ Some y = tu.0 in
      let drawn : y < get_or s.words 0 0 = (mine.waits y is).1 in
      let top_word : get_or s.words 0 0 < 18446744073709551616 = r.fits_word in
      let new : ℕ = (y + 1) % 2 ^ 64 in
      let less : y + 1 < 18446744073709551616 = omega arith in
      let new_is : new ≡ y + 1 = mod-eq_of_lt less in
      let w0 : get_or (set s.words 1 new) 0 0 ≡ get_or s.words 0 0 = get_or-set_other s.words 1 0 new 0 (λ e. omega arith) in
      let w1 : get_or (set s.words 1 new) 1 0 ≡ new = get_or-set_same s.words 1 new 0 (omega arith) in
      let w2 : get_or (set s.words 1 new) 2 0 ≡ get_or s.words 2 0 = get_or-set_other s.words 1 2 new 0 (λ e. omega arith) in
      let tl : y + tickets_out s.views ≡ get_or s.words 0 0 = r.tally in
      let hs : tickets_out (set s.views id w) + ticket_count v.ticket ≡ tickets_out s.views + 0 = out_set s.views id v w at in
      let one : ticket_count v.ticket ≡ 1 = ap ticket_count is in
      let no_other = λ (j : ℕ) (u : View E) (ne : j ≢ id) (h : At s.views j u) (e : u.turn ≡ true). alone s r id v at is j u ne h ((r.each j u h).turns e).0 in
      subst (λ (d : List (ℕ × Option T)). Goes s 1 id (v, d) (advanced (step n 1 1 0 none) (v, d)) new) (sym has) (
        w,
        gives,
        tt,
        moved s r id v w (set s.words 1 new) (set s.homes 0 (some (Some x))) r.later at refl (λ q. q)
            (λ j u ne hu k e _. no_ticket_is k e)
            (length-set s.words 1 new ∙ three) (length-set s.homes 0 (some (Some x)) ∙ r.one_slot) (omega arith) (omega arith) (longest_same s.views id v w (first ++ r.later) at refl r.longest) (w2 ∙ r.counted)
            record { numbered = mine.numbered; opens = mine.opens; saw = mine.saw; own = mine.own; waits = λ k e. absurd (no_ticket_is k e); turns = λ e. absurd (true≢false (sym e)) }
            (λ j u ne hu. let f = r.each j u hu in record {
              numbered = f.numbered;
              opens = f.opens;
              saw = f.saw;
              own = f.own;
              waits = λ k e. (let q = f.waits k e in let q0 : y ≤ k = q.0 in let q1 : k < get_or s.words 0 0 = q.1 in
                  let apart_from : k ≢ y = λ same. alone s r id v at is j u ne hu (e ∙ ap (λ (z : ℕ). Some z) same) in (omega arith, omega arith));
              turns = λ e. absurd (no_other j u ne hu e);
            })
            r.absent
            (λ _. (x, set_here s.homes 0 (some (Some x)) (let d : length s.homes ≡ 1 = r.one_slot in omega arith), listed ∙ tu.1))
            (λ j u hu e. let b = before s.views id v w j u at hu in
            absurd (⊎_elim (λ t. true≢false (sym e ∙ ap (λ (z : View E). z.turn) t.1)) (λ t. no_other j b.was t.0 b.at (sym (ap (λ (z : View E). z.turn) t.1) ∙ e)) b.case)),
        refl,
      )

  pub advances : (n id : ℕ) (me : Holder T E) (x : T) → me.0.turn ≡ true → me.1 ≡ (0, Some x) ∷ [] → list x ≡ me.0.seen → Allows Rule n id me 1 (λ y. (y + 1) % 2 ^ 64) (advanced (step n 1 1 0 none) me)
  advances n id me x turn has listed s r deep at _ = gives_home n id me.0 me.1 x turn has listed s r at

  -- a new view that has a number of its own, and no ticket
  joins : (s : St) (r : Rule s) (w : View E) → Fits lane first r.later (get_or s.words 0 0) (get_or s.words 1 0) w → w.ticket ≡ None → w.turn ≡ false
      → ((j : ℕ) (u : View E) → At s.views j u → (u.number < w.number) × (u.splits ≡ false)) → Rule record { words = s.words; homes = s.homes; views = s.views ++ w ∷ [] }
  joins s r w fits no_ticket no_turn below = let l : List (View E) = s.views in
      let fit = λ (j : ℕ) (u : View E) (h : At (l ++ w ∷ []) j u). ⊎_elim (λ t. r.each j u t.1) (λ t. subst (Fits lane first r.later (get_or s.words 0 0) (get_or s.words 1 0)) t.1 fits) (at_end l w u j h) in
      record {
        later = r.later;
        three_words = r.three_words;
        one_slot = r.one_slot;
        each = fit;
        apart = λ i j u z hu hz e. ⊎_elim
            (λ t. ⊎_elim (λ t'. r.apart i j u z t.1 t'.1 e) (λ t'. absurd (let q : u.number < w.number = (below i u t.1).0 in let q' : w.number ≡ z.number = ap (λ (a : View E). a.number) t'.1 in omega arith)) (at_end l w z j hz))
            (λ t. ⊎_elim (λ t'. absurd (let q : z.number < w.number = (below j z t'.1).0 in let q' : w.number ≡ u.number = ap (λ (a : View E). a.number) t.1 in omega arith)) (λ t'. t.0 ∙ sym t'.0) (at_end l w z j hz))
            (at_end l w u i hu);
        greatest = λ i j u z hu hz e. ⊎_elim
            (λ t. absurd (true≢false (sym e ∙ (below i u t.1).1)))
            (λ t. let q : w.number ≡ u.number = ap (λ (a : View E). a.number) t.1 in ⊎_elim (λ t'. (let q' : z.number < w.number = (below j z t'.1).0 in omega arith)) (λ t'. (let q' : w.number ≡ z.number = ap (λ (a : View E). a.number) t'.1 in omega arith)) (at_end l w z j hz))
            (at_end l w u i hu);
        absent = λ n pos free. r.absent n pos (λ j u h. free j u (at_longer l (w ∷ []) j u h));
        tally = (let tl = r.tally in let hs = out_longer l w in let q : ticket_count w.ticket ≡ 0 = ap ticket_count no_ticket in omega arith);
        fits_word = r.fits_word;
        tickets = λ i j u z hu hz k eu ez. ⊎_elim
            (λ t. ⊎_elim (λ t'. r.tickets i j u z t.1 t'.1 k eu ez) (λ t'. absurd (no_ticket_is k (sym no_ticket ∙ (ap (λ (a : View E). a.ticket) t'.1 ∙ ez)))) (at_end l w z j hz))
            (λ t. absurd (no_ticket_is k (sym no_ticket ∙ (ap (λ (a : View E). a.ticket) t.1 ∙ eu))))
            (at_end l w u i hu);
        nested = λ i j u z hu hz. comparable u.seen z.seen (first ++ r.later) (fit i u hu).saw (fit j z hz).saw;
        longest = (r.longest.0, (r.longest.1.0, at_longer l (w ∷ []) r.longest.0 r.longest.1.0 r.longest.1.1, r.longest.1.2));
        counted = r.counted;
        home = λ free. r.home (λ j u h. free j u (at_longer l (w ∷ []) j u h));
        out = λ j u h e. ⊎_elim (λ t. r.out j u t.1 e) (λ t. absurd (true≢false (sym e ∙ (ap (λ (a : View E). a.turn) (sym t.1) ∙ no_turn)))) (at_end l w u j h);
      }

  pub splits : (id : ℕ) (v : View E) → v.splits ≡ true → Splits Rule id v (no_splitter v) (next_view v)
  unfolding moved
  splits id v can s r at = let mine = r.each id v at in let left = no_splitter v in
      let s' : St = record { words = s.words; homes = s.homes; views = set s.views id left } in
      let r' : Rule s' = moved s r id v left s.words s.homes r.later at refl (λ q. absurd (true≢false (sym q)))
      (λ j u ne h k e is. ne (r.tickets j id u v h at k is e))
      r.three_words r.one_slot r.fits_word (ap (λ (k : ℕ). get_or s.words 1 0 + k) (out_same s.views id v left at refl) ∙ r.tally) (longest_same s.views id v left (first ++ r.later) at refl r.longest) r.counted
      record { numbered = mine.numbered; opens = mine.opens; saw = mine.saw; own = mine.own; waits = mine.waits; turns = mine.turns }
      (λ j u ne h. r.each j u h) r.absent
      (λ free. r.home (no_turn_before s.views id v left at refl free))
      (λ j u h e. out_before s r id v left at refl j u h e) in
      joins s' r' (next_view v)
      record {
        numbered = omega arith;
        opens = mine.opens;
        saw = (r.later, ap (λ (z : List E). z ++ r.later) mine.opens);
        own = sym (r.absent (v.number + 1) (omega arith) (λ j u h e. let q : u.number ≤ v.number = r.greatest id j v u at h can in omega arith));
        waits = λ k e. absurd (no_ticket_is k e);
        turns = λ e. absurd (true≢false (sym e));
      }
      refl refl
      (λ j u h. let b = before s.views id v left j u at h in let q : b.was.number ≤ v.number = r.greatest id j v b.was at b.at can in let q' : u.number ≡ b.was.number = same_number s.views id v left j u refl b in (
        omega arith,
        ⊎_elim (λ t. ap (λ (z : View E). z.splits) t.1)
            (λ t. ap (λ (z : View E). z.splits) t.1 ∙ not_true b.was.splits (λ e. let back : v.number ≤ b.was.number = r.greatest j id b.was v b.at at e in t.0 (r.apart j id b.was v b.at at (omega arith))))
            b.case,
      ))

  only : (v u : View E) (j : ℕ) → get_elem? (v ∷ []) j ≡ some u → (j ≡ 0) × (v ≡ u)
  only v u zero e = (refl, some-injective v u e)
  only v u (suc j) e = absurd (some-ne-none u (sym e))

  pub starts : (x : T) (n : ℕ) → list x ≡ first → n ≡ length first → Rule (opening (0 ∷ 0 ∷ n ∷ []) (Some x ∷ []) (first_view first))
  starts x n listed long = let v = first_view first in let all : first ++ [] ≡ first = append-nil first in
      let fit = λ (j : ℕ) (u : View E) (h : At (v ∷ []) j u). subst (Fits lane first [] 0 0) (only v u j h).1 record { numbered = omega arith; opens = refl; saw = ([], refl); own = refl; waits = λ k e. absurd (no_ticket_is k e); turns = λ e. absurd (true≢false (sym e)) } in
      record {
        later = [];
        three_words = refl;
        one_slot = refl;
        each = fit;
        apart = λ i j u z hu hz e. (only v u i hu).0 ∙ sym (only v z j hz).0;
        greatest = λ i j u z hu hz e. (let q : u.number ≡ z.number = ap (λ (a : View E). a.number) (sym (only v u i hu).1 ∙ (only v z j hz).1) in omega arith);
        absent = λ n pos free. refl;
        tally = omega arith;
        fits_word = omega arith;
        tickets = λ i j u z hu hz k eu ez. (only v u i hu).0 ∙ sym (only v z j hz).0;
        nested = λ i j u z hu hz. comparable u.seen z.seen (first ++ []) (fit i u hu).saw (fit j z hz).saw;
        longest = (0, (v, refl, sym all));
        counted = long ∙ ap length (sym all);
        home = λ free. (x, refl, listed ∙ sym all);
        out = λ j u h e. absurd (true≢false (sym e ∙ ap (λ (a : View E). a.turn) (sym (only v u j h).1)));
      }
