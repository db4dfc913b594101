-- What is written of a legal history fixes it: each line names its lane, and the rules give a lane's entry.
use Rattle.std.proofs.Common.{subst, sym, ap, ap₂, ◌∙◌, append_assoc, arith}
use Rattle.std.proofs.lemmas.Fmt.{decimal_by_steps, decimal_injective}
use Rattle.std.proofs.lemmas.List.{append-nil}
use Rattle.std.specs.Prelude.{◌≡◌, refl, ℕ, ◌+◌, ◌%◌, ◌^◌, ◌≤◌, ◌<◌, List, [], ◌∷◌, ◌++◌, length, Some, codes, decimal}
use Rattle.com_model.specs.declared.deeds.Deed.{Deed}
use Rattle.com_model.specs.declared.deeds.Deed.TheVariants as deed
use Rattle.com_model.specs.declared.deeds.Entry.{Entry}
use Rattle.com_model.specs.declared.scenario.Scenario.{Scenario}
use Rattle.com_model.specs.Lists.{without_first}
use Rattle.com_model.specs.Tables.{lanes}
use Rattle.com_model.specs.Text.{deed_line, line_text, history_text}
use Rattle.com_model.specs.Ends.{text}
use Rattle.com_model.specs.Rules.{next, legal}
use Rattle.com_model.specs.Formed.{Formed}
use Rattle.com_model.proofs.Lanes.{lane-within}

-- ---- a number ends at a space

abbrev NoSpace : List ℕ → Type 0
NoSpace [] = Unit {0}
NoSpace (c ∷ cs) = (c ≡ 32 → ⊥) × NoSpace cs

append-no-space : (xs ys : List ℕ) → NoSpace xs → NoSpace ys → NoSpace (xs ++ ys)
append-no-space [] ys p q = q
append-no-space (x ∷ xs) ys p q = (p.0, append-no-space xs ys p.1 q)

digit-no-space : (d : ℕ) → NoSpace ((48 + d) ∷ [])
digit-no-space d = (λ e. omega (arith, e), tt)

decimal-no-space : (n : ℕ) → n < 2 ^ 64 → NoSpace (decimal n)
decimal-no-space = decimal_by_steps (λ n ds. NoSpace ds) (λ n h. digit-no-space n) (λ n ds h p. append-no-space ds ((48 + n % 10) ∷ []) p (digit-no-space (n % 10)))

head-same : (x y : ℕ) (xs ys : List ℕ) → x ∷ xs ≡ y ∷ ys → x ≡ y
head-same x y xs ys e = cc

tail-same : (x y : ℕ) (xs ys : List ℕ) → x ∷ xs ≡ y ∷ ys → xs ≡ ys
tail-same x y xs ys e = cc

cut-space : (xs ys a b : List ℕ) → NoSpace xs → NoSpace ys → xs ++ 32 ∷ a ≡ ys ++ 32 ∷ b → xs ≡ ys
cut-space [] [] a b p q e = refl
cut-space [] (y ∷ ys) a b p q e = absurd (q.0 (sym (head-same 32 y a (ys ++ 32 ∷ b) e)))
cut-space (x ∷ xs) [] a b p q e = absurd (p.0 (head-same x 32 (xs ++ 32 ∷ a) b e))
cut-space (x ∷ xs) (y ∷ ys) a b p q e =
    ap₂ (λ (z : ℕ) (zs : List ℕ). z ∷ zs) (head-same x y (xs ++ 32 ∷ a) (ys ++ 32 ∷ b) e) (cut-space xs ys a b p.1 q.1 (tail-same x y (xs ++ 32 ∷ a) (ys ++ 32 ∷ b) e))

cut-front : (xs a b : List ℕ) → xs ++ a ≡ xs ++ b → a ≡ b
cut-front [] a b e = e
cut-front (x ∷ xs) a b e = cut-front xs a b (tail-same x x (xs ++ a) (xs ++ b) e)

-- ---- a line names its lane

fronted : (v : ℕ) (front : List ℕ) (d : Deed) → deed_line v front d ≡ front ++ deed_line v [] d
fronted v front deed.End = refl
fronted v front deed.EndPump = refl
fronted v front _ = simp append_assoc

spaced : (v : ℕ) (d : Deed) → deed_line v [] d ≡ 32 ∷ without_first (deed_line v [] d)
spaced v deed.End = refl
spaced v _ = refl

regroup : (a b c r n x : List ℕ) → ((((a ++ b) ++ c) ++ (32 ∷ r)) ++ n) ++ x ≡ a ++ (b ++ (c ++ (32 ∷ (r ++ (n ++ x)))))
regroup a b c r n x = simp append_assoc

line-is : (v k : ℕ) (e : Entry) (x : List ℕ) → line_text v k e ++ x ≡ decimal k ++ (codes " L" ++ (decimal e.lane ++ (32 ∷ (without_first (deed_line v [] e.deed) ++ (codes "\n" ++ x)))))
line-is v k e x =
    let front : List ℕ = (decimal k ++ codes " L") ++ decimal e.lane in
    ap (λ (y : List ℕ). (y ++ codes "\n") ++ x) (fronted v front e.deed ∙ ap (λ (y : List ℕ). front ++ y) (spaced v e.deed))
    ∙ regroup (decimal k) (codes " L") (decimal e.lane) (without_first (deed_line v [] e.deed)) (codes "\n") x

lane-fixed : (v k : ℕ) (e f : Entry) (x y : List ℕ) → e.lane < 2 ^ 64 → f.lane < 2 ^ 64 → line_text v k e ++ x ≡ line_text v k f ++ y → e.lane ≡ f.lane
lane-fixed v k e f x y p q z =
    let a : List ℕ = without_first (deed_line v [] e.deed) ++ (codes "\n" ++ x) in
    let b : List ℕ = without_first (deed_line v [] f.deed) ++ (codes "\n" ++ y) in
    let w : decimal k ++ (codes " L" ++ (decimal e.lane ++ 32 ∷ a)) ≡ decimal k ++ (codes " L" ++ (decimal f.lane ++ 32 ∷ b)) = sym (line-is v k e x) ∙ z ∙ line-is v k f y in
    decimal_injective e.lane f.lane p q
    (cut-space (decimal e.lane) (decimal f.lane) a b (decimal-no-space e.lane p) (decimal-no-space f.lane q)
    (cut-front (codes " L") (decimal e.lane ++ 32 ∷ a) (decimal f.lane ++ 32 ∷ b) (cut-front (decimal k) _ _ w)))

not-nothing : (a b c r : List ℕ) → a ++ (b ++ (c ++ 32 ∷ r)) ≡ [] → ⊥
not-nothing [] [] [] r e = cc
not-nothing [] [] (x ∷ c) r e = cc
not-nothing [] (x ∷ b) c r e = cc
not-nothing (x ∷ a) b c r e = cc

line-some : (v k : ℕ) (e : Entry) (x : List ℕ) → line_text v k e ++ x ≡ [] → ⊥
line-some v k e x z = not-nothing (decimal k) (codes " L") (decimal e.lane) _ (sym (line-is v k e x) ∙ z)

-- ---- the text of a longer history

record Behind (v : ℕ) (xs h : List Entry) : Type 0 where
  rest : List ℕ
  is : history_text v (xs ++ h) ≡ history_text v h ++ rest

behind : (v : ℕ) (xs h : List Entry) → Behind v xs h
behind v [] h = record { rest = []; is = sym (append-nil (history_text v h)) }
behind v (x ∷ xs) h =
    let r : Behind v xs h = behind v xs h in
    record {
      rest = r.rest ++ line_text v (length (xs ++ h) + 1) x;
      is = ap (λ (y : List ℕ). y ++ line_text v (length (xs ++ h) + 1) x) r.is ∙ append_assoc (history_text v h) r.rest (line_text v (length (xs ++ h) + 1) x);
    }

data LastOf (xs : List Entry) : Type 0 where
  none : xs ≡ [] → LastOf xs
  some : (zs : List Entry) (f : Entry) → xs ≡ zs ++ f ∷ [] → LastOf xs

last-of : (xs : List Entry) → LastOf xs
last-of [] = none refl
last-of (x ∷ xs) =
    elim (last-of xs) as (λ _. LastOf (x ∷ xs)) [
      | none e ↦ some [] x (ap (λ (ys : List Entry). x ∷ ys) e)
      | some zs f e ↦ some (x ∷ zs) f (ap (λ (ys : List Entry). x ∷ ys) e)
    ]

legal-older : (s : Scenario) (xs h : List Entry) → legal s (xs ++ h) → legal s h
legal-older s [] h q = q
legal-older s (x ∷ xs) h q = legal-older s xs h q.0

-- ---- one of two legal histories goes on where the other ends

data Along (g h : List Entry) : Type 0 where
  goes_on : (xs : List Entry) → h ≡ xs ++ g → Along g h
  went_on : (xs : List Entry) → g ≡ xs ++ h → Along g h

same-deed : (s : Scenario) (h : List Entry) (e f : Entry) → next s h e.lane ≡ Some e.deed → next s h f.lane ≡ Some f.deed → e.lane ≡ f.lane → e ≡ f
same-deed s h e f p q z = ap₂ (λ (l : ℕ) (d : Deed). record { lane = l; deed = d }) z (some-same e.deed f.deed (sym p ∙ ap (next s h) z ∙ q))
  where
    some-same : (c d : Deed) → Some c ≡ Some d → c ≡ d
    some-same c d u = cc

low-lane : (s : Scenario) (h : List Entry) (e : Entry) → Formed s → legal s (e ∷ h) → e.lane < 2 ^ 64
low-lane s h e f q = few (lanes s) e.lane (lane-within s h e.lane e.deed q.1) (few-lanes s.pool (length s.threads) f.pool.1 f.threads.1)
  where
    few-lanes : (p t : ℕ) → p ≤ 8 → t ≤ 16 → t + 1 + p ≤ 25
    few-lanes p t a b = omega (arith, a, b)

    few : (n l : ℕ) → l ≤ n → n ≤ 25 → l < 2 ^ 64
    few n l a b = omega (arith, a, b)

-- The next entries after a common prefix are one.
next-same : (s : Scenario) (h : List Entry) (e f : Entry) (x y : List ℕ) → Formed s → legal s (e ∷ h) → legal s (f ∷ h) → line_text s.version (length h + 1) e ++ x ≡ line_text s.version (length h + 1) f ++ y → e ≡ f
next-same s h e f x y w p q z = same-deed s h e f p.1 q.1 (lane-fixed s.version (length h + 1) e f x y (low-lane s h e w p) (low-lane s h f w q) z)

after-both : (a b r x y : List ℕ) (t u : List ℕ) → t ++ (a ++ x) ≡ u ++ y → u ≡ (t ++ b) ++ r → a ++ x ≡ b ++ (r ++ y)
after-both a b r x y t u p q = cut-front t (a ++ x) (b ++ (r ++ y)) (p ∙ ap (λ (k : List ℕ). k ++ y) q ∙ simp append_assoc)

goes-further : (s : Scenario) (e : Entry) (g zs h : List Entry) (f : Entry) (x y : List ℕ) → Formed s → legal s (e ∷ g) → legal s h → h ≡ zs ++ f ∷ g → text s g ++ (line_text s.version (length g + 1) e ++ x) ≡ text s h ++ y → Along (e ∷ g) h
goes-further s e g zs h f x y w p q z u =
    let r : Behind s.version zs (f ∷ g) = behind s.version zs (f ∷ g) in
    let same : e ≡ f = next-same s g e f x (r.rest ++ y) w p (legal-older s zs (f ∷ g) (subst (λ (k : List Entry). legal s k) z q))
    (after-both (line_text s.version (length g + 1) e) (line_text s.version (length g + 1) f) r.rest x y (text s g) (text s h) u (ap (text s) z ∙ r.is)) in
    goes_on zs (z ∙ ap (λ (k : Entry). zs ++ k ∷ g) (sym same))

along : (s : Scenario) (g h : List Entry) (x y : List ℕ) → Formed s → legal s g → legal s h → text s g ++ x ≡ text s h ++ y → Along g h
along s [] h x y w p q z = goes_on h (sym (append-nil h))
along s (e ∷ g) h x y w p q z =
    let line : List ℕ = line_text s.version (length g + 1) e in
    let u : text s g ++ (line ++ x) ≡ text s h ++ y = sym (append_assoc (text s g) line x) ∙ z in
    elim (along s g h (line ++ x) y w p.0 q u) as (λ _. Along (e ∷ g) h) [
      | went_on xs k ↦ went_on (e ∷ xs) (ap (λ (ys : List Entry). e ∷ ys) k)
      | goes_on xs k ↦ elim (last-of xs) as (λ _. Along (e ∷ g) h) [
        | none n ↦ went_on (e ∷ []) (ap (λ (ys : List Entry). e ∷ ys) (sym (k ∙ ap (λ (ys : List Entry). ys ++ g) n)))
        | some zs f n ↦ goes-further s e g zs h f x y w p q (k ∙ ap (λ (ys : List Entry). ys ++ g) n ∙ append_assoc zs (f ∷ []) g) u
      ]
    ]

-- ---- the law

no-more : (s : Scenario) (g h xs : List Entry) → h ≡ xs ++ g → text s g ≡ text s h → g ≡ h
no-more s g h xs z u =
    elim (last-of xs) as (λ _. g ≡ h) [
      | none n ↦ sym (z ∙ ap (λ (ys : List Entry). ys ++ g) n)
      | some zs f n ↦
          let w : h ≡ zs ++ f ∷ g = z ∙ ap (λ (ys : List Entry). ys ++ g) n ∙ append_assoc zs (f ∷ []) g in
          let r : Behind s.version zs (f ∷ g) = behind s.version zs (f ∷ g) in
          absurd (line-some s.version (length g + 1) f r.rest (sym (nothing-more (text s g) (line_text s.version (length g + 1) f) r.rest (u ∙ ap (text s) w ∙ r.is))))
    ]
  where
    nothing-more : (t a b : List ℕ) → t ≡ (t ++ a) ++ b → [] ≡ a ++ b
    nothing-more t a b e = cut-front t [] (a ++ b) (append-nil t ∙ e ∙ append_assoc t a b)

pub legal-fixed : (s : Scenario) (g h : List Entry) → Formed s → legal s g → legal s h → text s g ≡ text s h → g ≡ h
legal-fixed s g h w p q z =
    elim (along s g h [] [] w p q (ap (λ (k : List ℕ). k ++ []) z)) as (λ _. g ≡ h) [
      | goes_on xs k ↦ no-more s g h xs k z
      | went_on xs k ↦ sym (no-more s h g xs k (sym z))
    ]
