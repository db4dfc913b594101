-- What is kept of heads and nodes stands for the lists, and goes on to do so after each change.
use Rattle.std.proofs.Common.{◌≡◌, ◌≢◌, ℕ, ◌+◌, ◌<◌, ◌≤◌, List, [], ◌∷◌, ◌++◌, length, map, Option, None, Some, Bool, true, false, cond, eqb, zero, suc, get_or, set, refl, sym, ap, subst, zero-add, replicate, ◌∙◌, ⊎_elim, arith, slice_get, IsSome, IfSome, take, Result, Ok, Err, is_ok, OnOk}
use Rattle.std.proofs.lemmas.Bool.{cases_eq, cases_lt, ne_eqb}
use Rattle.std.proofs.lemmas.Bool.Decides.{nat_tests}
use Rattle.std.proofs.lemmas.List.{get_or-set_same, get_or-set_other, get_or_past, get_or_read, length-map, append-nil, length-set, get_or-map}
use Rattle.std.proofs.lemmas.Grind.{get_or-set_at}
use Rattle.com_lists.specs.declared.Node.{Node}
use Rattle.com_lists.specs.declared.Head.{Head}
use Rattle.com_lists.specs.Linked.{Linked, IsApart, times, times_in_all, holder_from, next_in, next_in_all, without}
use Rattle.com_lists.specs.Chain.{free_node, empty_head, node_at, walk, lists_of, previous_in, previous_in_all, last_or, head_of, StandsFor, with_after, with_before, with_first, with_last_node}
use Rattle.com_lists.proofs.ListLemmas.{names, if_none, length-le_from_once, without_absent, first-without, last_or-without, first-push, last_or-push, names-last}
use Rattle.com_lists.proofs.AllLemmas.{holder_absent, next_absent, previous_absent, absent_from_holder, holder-within, names-next_in_all, names-previous_in_all, without_absent_in_all, times_in_all-without_same, times_in_all-without_other, holder-without_other, next-without, previous-without, times-le_in_all, times_in_all-push_same, times_in_all-push_other, holder-push_same, holder-push_other, next-push_same, next-push_other, previous-push_same, previous-push_other}

-- the walk from a head gives its list

-- each node of a list leads to the next
abbrev Follows : List Node → List ℕ → Type 0
Follows nodes [] = Unit {0}
Follows nodes (x ∷ xs) = ((node_at nodes x).after ≡ slice_get xs 0) × Follows nodes xs

walk_following : (most : ℕ) (nodes : List Node) (xs : List ℕ) → Follows nodes xs → length xs ≤ most → walk most nodes (slice_get xs 0) ≡ xs
walk_following zero nodes [] f le = refl
walk_following (suc most) nodes [] f le = refl
walk_following zero nodes (x ∷ xs) f le = absurd (omega arith)
walk_following (suc most) nodes (x ∷ xs) f le =
    ap (λ (ys : List ℕ). x ∷ ys) (ap (walk most nodes) f.0 ∙ walk_following most nodes xs f.1 (omega arith))

follows_next : (nodes : List Node) (xs : List ℕ) → ((y : ℕ) → 0 < times y xs → (node_at nodes y).after ≡ next_in y xs) → ((y : ℕ) → times y xs ≤ 1) → Follows nodes xs
follows_next nodes [] after once = tt
follows_next nodes (x ∷ xs) after once = (
  grind (arith, nat_tests, after x),
  follows_next nodes xs (λ y here. grind (arith, nat_tests, after y, once y)) (λ y. grind (arith, nat_tests, once y)),
)

walk_all : (n : ℕ) (nodes : List Node) (xss : List (List ℕ)) → ((y : ℕ) → 0 < times_in_all y xss → (node_at nodes y).after ≡ next_in_all y xss)
    → ((y : ℕ) → times_in_all y xss ≤ 1) → ((y : ℕ) → n ≤ y → times_in_all y xss ≡ 0) → map (λ (h : Head). walk n nodes h.first) (map head_of xss) ≡ xss
walk_all n nodes [] after once within = refl
walk_all n nodes (xs ∷ xss) after once within =
    let follows = follows_next nodes xs (λ y here. grind (arith, nat_tests, after y)) (λ y. omega (arith, once y)) in
    let short = length-le_from_once n xs (λ y. omega (arith, once y)) (λ y le. omega (arith, within y le)) in
    let one = walk_following n nodes xs follows short in
    let rest = walk_all n nodes xss (λ y here. grind (arith, nat_tests, after y, once y)) (λ y. omega (arith, once y)) (λ y le. omega (arith, within y le)) in
    cc

-- a node past the end stands in no list
pub stands_within : (heads : List Head) (nodes : List Node) (xss : List (List ℕ)) → StandsFor heads nodes xss → (y : ℕ) → length nodes ≤ y → times_in_all y xss ≡ 0
stands_within heads nodes xss s y le =
    absent_from_holder 0 y xss (sym (s.holder_is y) ∙ ap (λ (n : Node). n.holder) (get_or_past nodes y free_node le))

-- a node that a list has is one of the nodes
pub stands_in : (heads : List Head) (nodes : List Node) (xss : List (List ℕ)) → StandsFor heads nodes xss → (y k : ℕ) → holder_from 0 y xss ≡ Some k → y < length nodes
stands_in heads nodes xss s y k held =
    ⊎_elim (λ lt. lt) (λ le. let none = holder_absent 0 y xss (stands_within heads nodes xss s y le) in absurd cc) (cases_lt y (length nodes))

pub lists_of_stands : (heads : List Head) (nodes : List Node) (xss : List (List ℕ)) → StandsFor heads nodes xss → lists_of heads nodes ≡ xss
lists_of_stands heads nodes xss s =
    ap (map (λ (h : Head). walk (length nodes) nodes h.first)) s.heads_are ∙ walk_all (length nodes) nodes xss (λ y here. s.after_is y) s.once (stands_within heads nodes xss s)

-- what a write to a node leaves

same_when : {X : Type 0} (z y : ℕ) (f : ℕ → X) (w : X) → cond (eqb z y) (f z) w ≡ cond (eqb z y) (f y) w
same_when z y f w = ⊎_elim (λ e. ap (λ k. cond (eqb z y) (f k) w) e) (λ ne. rw (ne_eqb z y ne) refl) (cases_eq z y)

node_at-set : (nodes : List Node) (z : ℕ) (v : Node) (y : ℕ) → z < length nodes → node_at (set nodes z v) y ≡ cond (eqb z y) v (node_at nodes y)
node_at-set nodes z v y lt = grind (arith, nat_tests, get_or-set_at nodes z y v free_node, get_or-set_other nodes z y v free_node)

length-with_after : (b a : Option ℕ) (nodes : List Node) → length (with_after b a nodes) ≡ length nodes
length-with_after None a nodes = refl
length-with_after (Some z) a nodes = length-set nodes z _

length-with_before : (a b : Option ℕ) (nodes : List Node) → length (with_before a b nodes) ≡ length nodes
length-with_before None b nodes = refl
length-with_before (Some z) b nodes = length-set nodes z _

node_at-with_after : (b a : Option ℕ) (nodes : List Node) (y : ℕ) → ((z : ℕ) → b ≡ Some z → z < length nodes)
    → node_at (with_after b a nodes) y ≡ cond (names b y) (record (node_at nodes y) { after = a }) (node_at nodes y)
node_at-with_after None a nodes y within = refl
node_at-with_after (Some z) a nodes y within =
    node_at-set nodes z _ y (within z refl) ∙ same_when z y (λ k. record (node_at nodes k) { after = a }) (node_at nodes y)

node_at-with_before : (a b : Option ℕ) (nodes : List Node) (y : ℕ) → ((z : ℕ) → a ≡ Some z → z < length nodes)
    → node_at (with_before a b nodes) y ≡ cond (names a y) (record (node_at nodes y) { before = b }) (node_at nodes y)
node_at-with_before None b nodes y within = refl
node_at-with_before (Some z) b nodes y within =
    node_at-set nodes z _ y (within z refl) ∙ same_when z y (λ k. record (node_at nodes k) { before = b }) (node_at nodes y)

-- what is kept of the heads

with_first-here : (b a : Option ℕ) (h : Head) (hs : List Head) → with_first 0 b a (h ∷ hs) ≡ record { first = if_none b a h.first; last = h.last } ∷ hs
with_first-here None a h hs = refl
with_first-here (Some z) a h hs = refl

with_first-there : (k : ℕ) (b a : Option ℕ) (h : Head) (hs : List Head) → with_first (suc k) b a (h ∷ hs) ≡ h ∷ with_first k b a hs
with_first-there k None a h hs = refl
with_first-there k (Some z) a h hs = refl

with_last_node-here : (a b : Option ℕ) (h : Head) (hs : List Head) → with_last_node 0 a b (h ∷ hs) ≡ record { first = h.first; last = if_none a b h.last } ∷ hs
with_last_node-here None b h hs = refl
with_last_node-here (Some z) b h hs = refl

with_last_node-there : (k : ℕ) (a b : Option ℕ) (h : Head) (hs : List Head) → with_last_node (suc k) a b (h ∷ hs) ≡ h ∷ with_last_node k a b hs
with_last_node-there k None b h hs = refl
with_last_node-there k (Some z) b h hs = refl

heads-push : (k x : ℕ) (xss : List (List ℕ)) → k < length xss
    → with_last_node k None (Some x) (with_first k (last_or None (get_or xss k [])) (Some x) (map head_of xss)) ≡ map head_of (set xss k (get_or xss k [] ++ x ∷ []))
heads-push k x [] h = absurd (omega arith)
heads-push zero x (xs ∷ xss) h =
    rw with_first-here (rw (first-push x xs, last_or-push x None xs) refl)
heads-push (suc k) x (xs ∷ xss) h =
    rw with_first-there (ap (λ (hs : List Head). head_of xs ∷ hs) (heads-push k x xss (omega arith)))

next-here : (x : ℕ) (xs : List ℕ) (xss : List (List ℕ)) → 0 < times x xs → next_in_all x (xs ∷ xss) ≡ next_in x xs
next-here x xs xss h = grind (arith, nat_tests)

next-there : (x : ℕ) (xs : List ℕ) (xss : List (List ℕ)) → times x xs ≡ 0 → next_in_all x (xs ∷ xss) ≡ next_in_all x xss
next-there x xs xss h = grind (arith, nat_tests)

previous-here : (x : ℕ) (xs : List ℕ) (xss : List (List ℕ)) → 0 < times x xs → previous_in_all x (xs ∷ xss) ≡ previous_in None x xs
previous-here x xs xss h = grind (arith, nat_tests)

previous-there : (x : ℕ) (xs : List ℕ) (xss : List (List ℕ)) → times x xs ≡ 0 → previous_in_all x (xs ∷ xss) ≡ previous_in_all x xss
previous-there x xs xss h = grind (arith, nat_tests)

heads-unlink : (h k x : ℕ) (xss : List (List ℕ)) → holder_from h x xss ≡ Some (h + k) → times_in_all x xss ≤ 1
    → with_last_node k (next_in_all x xss) (previous_in_all x xss) (with_first k (previous_in_all x xss) (next_in_all x xss) (map head_of xss)) ≡ map head_of (map (without x) xss)
heads-unlink h k x [] e once = cc
heads-unlink h zero x (xs ∷ xss) e once =
    let here : 0 < times x xs = grind (arith, nat_tests, holder-within (h + 1) h x xss) in
    let others = without_absent_in_all x xss (omega (arith, once)) in
    rw (next-here x xs xss here, previous-here x xs xss here, with_first-here, with_last_node-here, first-without x xs here (omega arith), last_or-without x None xs here (omega arith), others) refl
heads-unlink h (suc k) x (xs ∷ xss) e once =
    let there : times x xs ≡ 0 = grind (arith, nat_tests) in
    let later : holder_from (h + 1) x xss ≡ Some (h + 1 + k) = grind (arith, nat_tests) in
    let same = without_absent x xs there in
    rw (next-there x xs xss there, previous-there x xs xss there, with_first-there, with_last_node-there, same)
    (ap (λ (hs : List Head). head_of xs ∷ hs) (heads-unlink (h + 1) k x xss later (omega arith)))

-- a node that a neighbour names is one of the nodes

pub within_from_names : (n : ℕ) (o : Option ℕ) → ((y : ℕ) → n ≤ y → names o y ≡ false) → (z : ℕ) → o ≡ Some z → z < n
within_from_names n o out z e = grind (arith, nat_tests, out z)

-- each change

unlinked : List Node → ℕ → Option ℕ → Option ℕ → List Node
unlinked nodes x before after = set (with_before after before (with_after before after nodes)) x free_node

node_at-unlinked : (nodes : List Node) (x : ℕ) (before after : Option ℕ) (y : ℕ) → x < length nodes
    → ((z : ℕ) → before ≡ Some z → z < length nodes) → ((z : ℕ) → after ≡ Some z → z < length nodes) → y ≢ x
    → node_at (unlinked nodes x before after) y
    ≡ cond (names after y) (record (cond (names before y) (record (node_at nodes y) { after = after }) (node_at nodes y)) { before = before }) (cond (names before y) (record (node_at nodes y) { after = after }) (node_at nodes y))
unfolding unlinked
node_at-unlinked nodes x before after y lt b_in a_in ne =
    get_or-set_other (with_before after before (with_after before after nodes)) x y free_node free_node ne
    ∙ node_at-with_before after before (with_after before after nodes) y (λ z e. rw (length-with_after before after nodes) (a_in z e))
    ∙ ap (λ (n : Node). cond (names after y) (record n { before = before }) n) (node_at-with_after before after nodes y b_in)

node_at-unlinked_same : (nodes : List Node) (x : ℕ) (before after : Option ℕ) → x < length nodes → node_at (unlinked nodes x before after) x ≡ free_node
unfolding unlinked
node_at-unlinked_same nodes x before after lt =
    get_or-set_same (with_before after before (with_after before after nodes)) x free_node free_node (rw (length-with_before after before (with_after before after nodes), length-with_after before after nodes) lt)

holder-chosen : (t u : Bool) (n : Node) (before after : Option ℕ)
    → (cond t (record (cond u (record n { after = after }) n) { before = before }) (cond u (record n { after = after }) n)).holder ≡ n.holder
holder-chosen true true n before after = refl
holder-chosen true false n before after = refl
holder-chosen false true n before after = refl
holder-chosen false false n before after = refl

before-chosen : (t u : Bool) (n : Node) (before after : Option ℕ)
    → (cond t (record (cond u (record n { after = after }) n) { before = before }) (cond u (record n { after = after }) n)).before ≡ cond t before n.before
before-chosen true true n before after = refl
before-chosen true false n before after = refl
before-chosen false true n before after = refl
before-chosen false false n before after = refl

after-chosen : (t u : Bool) (n : Node) (before after : Option ℕ)
    → (cond t (record (cond u (record n { after = after }) n) { before = before }) (cond u (record n { after = after }) n)).after ≡ cond u after n.after
after-chosen true true n before after = refl
after-chosen true false n before after = refl
after-chosen false true n before after = refl
after-chosen false false n before after = refl

-- a node is taken out of the list of this head
pub stands-unlink : (heads : List Head) (nodes : List Node) (xss : List (List ℕ)) (k x : ℕ) (before after : Option ℕ) → StandsFor heads nodes xss
    → holder_from 0 x xss ≡ Some k → before ≡ previous_in_all x xss → after ≡ next_in_all x xss
    → StandsFor (with_last_node k after before (with_first k before after heads)) (set (with_before after before (with_after before after nodes)) x free_node) (map (without x) xss)
unfolding unlinked
stands-unlink heads nodes xss k x before after s held b a =
    let once = s.once in
    let within = stands_within heads nodes xss s in
    let lt : x < length nodes = stands_in heads nodes xss s x k held in
    let b_in : (z : ℕ) → before ≡ Some z → z < length nodes = within_from_names (length nodes) before (λ y le. rw b (names-previous_in_all x y xss (within y le))) in
    let a_in : (z : ℕ) → after ≡ Some z → z < length nodes = within_from_names (length nodes) after (λ y le. rw a (names-next_in_all x y xss (within y le))) in
    let same = node_at-unlinked_same nodes x before after lt in
    let gone = times_in_all-without_same x xss in
    record {
      heads_are = rw (s.heads_are, b, a) (heads-unlink 0 k x xss (held ∙ ap Some (sym (zero-add k))) (once x));
      holder_is = λ n. ⊎_elim
          (λ e. rw e (ap (λ (m : Node). m.holder) same ∙ sym (holder_absent 0 x (map (without x) xss) gone)))
          (λ ne. ap (λ (m : Node). m.holder) (node_at-unlinked nodes x before after n lt b_in a_in ne)
          ∙ holder-chosen (names after n) (names before n) (node_at nodes n) before after
          ∙ s.holder_is n ∙ sym (holder-without_other 0 x n xss ne))
          (cases_eq n x);
      before_is = λ n. ⊎_elim
          (λ e. rw e (ap (λ (m : Node). m.before) same ∙ sym (previous_absent x (map (without x) xss) gone)))
          (λ ne. ap (λ (m : Node). m.before) (node_at-unlinked nodes x before after n lt b_in a_in ne)
          ∙ before-chosen (names after n) (names before n) (node_at nodes n) before after
          ∙ rw (s.before_is n, b, a) (sym (previous-without x n xss ne (once x) (once n))))
          (cases_eq n x);
      after_is = λ n. ⊎_elim
          (λ e. rw e (ap (λ (m : Node). m.after) same ∙ sym (next_absent x (map (without x) xss) gone)))
          (λ ne. ap (λ (m : Node). m.after) (node_at-unlinked nodes x before after n lt b_in a_in ne)
          ∙ after-chosen (names after n) (names before n) (node_at nodes n) before after
          ∙ rw (s.after_is n, b, a) (sym (next-without x n xss ne (once x) (once n))))
          (cases_eq n x);
      once = λ n. ⊎_elim
          (λ e. rw e (omega (arith, gone)))
          (λ ne. omega (arith, times_in_all-without_other x n xss ne, once n))
          (cases_eq n x);
    }

linked : List Node → ℕ → ℕ → Option ℕ → List Node
linked nodes k x last = set (with_after last (Some x) nodes) x (record { holder = Some k; before = last; after = None })

node_at-linked : (nodes : List Node) (k x : ℕ) (last : Option ℕ) (y : ℕ) → ((z : ℕ) → last ≡ Some z → z < length nodes) → y ≢ x
    → node_at (linked nodes k x last) y ≡ cond (names last y) (record (node_at nodes y) { after = Some x }) (node_at nodes y)
unfolding linked
node_at-linked nodes k x last y l_in ne =
    get_or-set_other (with_after last (Some x) nodes) x y (record { holder = Some k; before = last; after = None }) free_node ne
    ∙ node_at-with_after last (Some x) nodes y l_in

node_at-linked_same : (nodes : List Node) (k x : ℕ) (last : Option ℕ) → x < length nodes → node_at (linked nodes k x last) x ≡ record { holder = Some k; before = last; after = None }
unfolding linked
node_at-linked_same nodes k x last lt =
    get_or-set_same (with_after last (Some x) nodes) x (record { holder = Some k; before = last; after = None }) free_node (rw (length-with_after last (Some x) nodes) lt)

holder-changed : (t : Bool) (n : Node) (after : Option ℕ) → (cond t (record n { after = after }) n).holder ≡ n.holder
holder-changed true n after = refl
holder-changed false n after = refl

before-changed : (t : Bool) (n : Node) (after : Option ℕ) → (cond t (record n { after = after }) n).before ≡ n.before
before-changed true n after = refl
before-changed false n after = refl

after-changed : (t : Bool) (n : Node) (after : Option ℕ) → (cond t (record n { after = after }) n).after ≡ cond t after n.after
after-changed true n after = refl
after-changed false n after = refl

pub length_after_set : (nodes nodes₁ : List Node) (z : ℕ) (v : Node) → nodes₁ ≡ set nodes z v → length nodes₁ ≡ length nodes
length_after_set nodes nodes₁ z v e = rw e (length-set nodes z v)

-- the last node of a list is one of the nodes
pub last_within : (heads : List Head) (nodes : List Node) (xss : List (List ℕ)) (k : ℕ) → StandsFor heads nodes xss → (z : ℕ) → last_or None (get_or xss k []) ≡ Some z → z < length nodes
last_within heads nodes xss k s =
    within_from_names (length nodes) (last_or None (get_or xss k []))
    (λ y le. names-last y None (get_or xss k []) refl (omega (arith, stands_within heads nodes xss s y le, times-le_in_all y k xss)))

-- a node in no list is put at the end of the list of this head
pub stands-push : (heads : List Head) (nodes : List Node) (xss : List (List ℕ)) (k x : ℕ) (last : Option ℕ) → StandsFor heads nodes xss
    → k < length xss → x < length nodes → holder_from 0 x xss ≡ None → last ≡ last_or None (get_or xss k [])
    → StandsFor (with_last_node k None (Some x) (with_first k last (Some x) heads)) (set (with_after last (Some x) nodes) x (record { holder = Some k; before = last; after = None })) (set xss k (get_or xss k [] ++ x ∷ []))
unfolding linked
stands-push heads nodes xss k x last s k_in lt free l =
    let absent = absent_from_holder 0 x xss free in
    let l_in : (z : ℕ) → last ≡ Some z → z < length nodes = rw l (last_within heads nodes xss k s) in
    let same = node_at-linked_same nodes k x last lt in
    let once = s.once in
    record {
      heads_are = rw (s.heads_are, l) (heads-push k x xss k_in);
      holder_is = λ n. ⊎_elim
          (λ e. rw e (ap (λ (m : Node). m.holder) same ∙ ap Some (sym (zero-add k)) ∙ sym (holder-push_same 0 x k xss k_in absent)))
          (λ ne. ap (λ (m : Node). m.holder) (node_at-linked nodes k x last n l_in ne)
          ∙ holder-changed (names last n) (node_at nodes n) (Some x) ∙ s.holder_is n ∙ sym (holder-push_other 0 x n k xss ne))
          (cases_eq n x);
      before_is = λ n. ⊎_elim
          (λ e. rw e (ap (λ (m : Node). m.before) same ∙ l ∙ sym (previous-push_same x k xss k_in absent)))
          (λ ne. ap (λ (m : Node). m.before) (node_at-linked nodes k x last n l_in ne)
          ∙ before-changed (names last n) (node_at nodes n) (Some x) ∙ s.before_is n ∙ sym (previous-push_other x n k xss ne))
          (cases_eq n x);
      after_is = λ n. ⊎_elim
          (λ e. rw e (ap (λ (m : Node). m.after) same ∙ sym (next-push_same x k xss absent)))
          (λ ne. ap (λ (m : Node). m.after) (node_at-linked nodes k x last n l_in ne)
          ∙ after-changed (names last n) (node_at nodes n) (Some x)
          ∙ rw (s.after_is n, l) (sym (next-push_other x n k xss ne (once n))))
          (cases_eq n x);
      once = λ n. ⊎_elim
          (λ e. rw e (omega (arith, times_in_all-push_same x k xss k_in)))
          (λ ne. omega (arith, times_in_all-push_other x n k xss ne, once n))
          (cases_eq n x);
    }

-- more heads with empty lists, and more nodes in no list

get_or-replicate : {X : Type 0} (d : X) (j i : ℕ) → get_or (replicate j d) i d ≡ d
get_or-replicate d zero i = refl
get_or-replicate d (suc j) zero = refl
get_or-replicate d (suc j) (suc i) = get_or-replicate d j i

pub get_or-filled : {X : Type 0} (d : X) (xs : List X) (j i : ℕ) → get_or (xs ++ replicate j d) i d ≡ get_or xs i d
get_or-filled d [] j i = get_or-replicate d j i
get_or-filled d (x ∷ xs) j zero = refl
get_or-filled d (x ∷ xs) j (suc i) = get_or-filled d xs j i

-- a node that is in a list is written
pub written_when_held : (xs now : List Node) (j k : ℕ) → xs ++ replicate j free_node ≡ now → IsSome (node_at now k).holder → k < length xs
written_when_held xs now j k seen held = ⊎_elim (λ lt. lt) (λ le.
    let e : node_at now k ≡ free_node = ap (λ (ns : List Node). node_at ns k) (sym seen) ∙ get_or-filled free_node xs j k ∙ get_or_past xs k free_node le in
    let none : IsSome free_node.holder = subst (λ (n : Node). IsSome n.holder) e held in
    absurd cc) (cases_lt k (length xs))

map_head-filled : (xss : List (List ℕ)) (j : ℕ) → map head_of (xss ++ replicate j []) ≡ map head_of xss ++ replicate j empty_head
map_head-filled [] zero = refl
map_head-filled [] (suc j) = ap (λ (hs : List Head). empty_head ∷ hs) (map_head-filled [] j)
map_head-filled (xs ∷ xss) j = ap (λ (hs : List Head). head_of xs ∷ hs) (map_head-filled xss j)

times-filled : (y : ℕ) (xss : List (List ℕ)) (j : ℕ) → times_in_all y (xss ++ replicate j []) ≡ times_in_all y xss
times-filled y [] zero = refl
times-filled y [] (suc j) = omega (arith, times-filled y [] j)
times-filled y (xs ∷ xss) j = omega (arith, times-filled y xss j)

holder-filled : (h y : ℕ) (xss : List (List ℕ)) (j : ℕ) → holder_from h y (xss ++ replicate j []) ≡ holder_from h y xss
holder-filled h y [] zero = refl
holder-filled h y [] (suc j) = holder-filled (h + 1) y [] j
holder-filled h y (xs ∷ xss) j = grind (arith, nat_tests, holder-filled (h + 1) y xss j)

next-filled : (y : ℕ) (xss : List (List ℕ)) (j : ℕ) → next_in_all y (xss ++ replicate j []) ≡ next_in_all y xss
next-filled y [] zero = refl
next-filled y [] (suc j) = next-filled y [] j
next-filled y (xs ∷ xss) j = grind (arith, nat_tests, next-filled y xss j)

previous-filled : (y : ℕ) (xss : List (List ℕ)) (j : ℕ) → previous_in_all y (xss ++ replicate j []) ≡ previous_in_all y xss
previous-filled y [] zero = refl
previous-filled y [] (suc j) = previous-filled y [] j
previous-filled y (xs ∷ xss) j = grind (arith, nat_tests, previous-filled y xss j)

pub stands-filled : (heads : List Head) (nodes : List Node) (xss : List (List ℕ)) (i j : ℕ) → StandsFor heads nodes xss
    → StandsFor (heads ++ replicate i empty_head) (nodes ++ replicate j free_node) (xss ++ replicate i [])
stands-filled heads nodes xss i j s = record {
  heads_are = rw s.heads_are (sym (map_head-filled xss i));
  holder_is = λ n. ap (λ (m : Node). m.holder) (get_or-filled free_node nodes j n) ∙ s.holder_is n ∙ sym (holder-filled 0 n xss i);
  before_is = λ n. ap (λ (m : Node). m.before) (get_or-filled free_node nodes j n) ∙ s.before_is n ∙ sym (previous-filled n xss i);
  after_is = λ n. ap (λ (m : Node). m.after) (get_or-filled free_node nodes j n) ∙ s.after_is n ∙ sym (next-filled n xss i);
  once = λ n. rw times-filled (s.once n);
}

-- what a function reads and writes

-- what is kept of a node that the list of this head has
pub record ReadsNode (heads : List Head) (nodes : List Node) (xss : List (List ℕ)) (x k : ℕ) (r : Node) : Type 0 where
  pub holder : holder_from 0 x xss ≡ Some k
  pub before : r.before ≡ previous_in_all x xss
  pub after : r.after ≡ next_in_all x xss
  pub node_in : x < length nodes
  pub head_in : k < length heads
  pub before_in : (z : ℕ) → r.before ≡ Some z → z < length nodes
  pub after_in : (z : ℕ) → r.after ≡ Some z → z < length nodes
  pub before_held : (z : ℕ) → r.before ≡ Some z → IsSome (node_at nodes z).holder
  pub after_held : (z : ℕ) → r.after ≡ Some z → IsSome (node_at nodes z).holder

-- a node that a neighbour names is in a list
some_when : (o : Option ℕ) → (o ≡ None → ⊥) → IsSome o
some_when None f = absurd (f refl)
some_when (Some x) f = refl

held_named : (heads : List Head) (nodes : List Node) (xss : List (List ℕ)) → StandsFor heads nodes xss → (o : Option ℕ) → ((y : ℕ) → times_in_all y xss ≡ 0 → names o y ≡ false) → (z : ℕ) → o ≡ Some z → IsSome (node_at nodes z).holder
held_named heads nodes xss s o out z e = some_when (node_at nodes z).holder (λ none.
    let absent : times_in_all z xss ≡ 0 = absent_from_holder 0 z xss (sym (s.holder_is z) ∙ none) in
    grind (arith, nat_tests, out z))

pub node_held : (heads : List Head) (nodes : List Node) (xss : List (List ℕ)) → StandsFor heads nodes xss → (x : ℕ) → IsSome (holder_from 0 x xss) → IsSome (node_at nodes x).holder
node_held heads nodes xss s x h = rw (s.holder_is x) h

-- what a neighbour's change leaves of the bounds
pub after_still_in : (nodes nodes₁ : List Node) (a : Option ℕ) → length nodes₁ ≡ length nodes → ((z : ℕ) → a ≡ Some z → z < length nodes) → (z : ℕ) → a ≡ Some z → z < length nodes₁
after_still_in nodes nodes₁ a same within z e = let low : z < length nodes = within z e in omega (arith, low, same)

-- the neighbours' changes keep the holders
pub held_after_next : (nodes nodes₁ : List Node) (b a : Option ℕ) → nodes₁ ≡ with_after b a nodes → ((z : ℕ) → b ≡ Some z → z < length nodes) → (y : ℕ) → IsSome (node_at nodes y).holder → IsSome (node_at nodes₁ y).holder
held_after_next nodes nodes₁ b a e within y h = rw (e, ap (λ (m : Node). m.holder) (node_at-with_after b a nodes y within) ∙ holder-changed (names b y) (node_at nodes y) a) h

pub held_after_previous : (nodes nodes₁ : List Node) (a b : Option ℕ) → nodes₁ ≡ with_before a b nodes → ((z : ℕ) → a ≡ Some z → z < length nodes) → (y : ℕ) → IsSome (node_at nodes y).holder → IsSome (node_at nodes₁ y).holder
held_after_previous nodes nodes₁ a b e within y h = rw (e, ap (λ (m : Node). m.holder) (node_at-with_before a b nodes y within) ∙ held (names a y) (node_at nodes y)) h
  where
    held : (t : Bool) (n : Node) → (cond t (record n { before = b }) n).holder ≡ n.holder
    held true n = refl
    held false n = refl

pub held_within : (heads : List Head) (nodes : List Node) (xss : List (List ℕ)) → StandsFor heads nodes xss → (x : ℕ) → IsSome (holder_from 0 x xss) → x < length nodes
held_within heads nodes xss s x h =
    ⊎_elim (λ lt. lt) (λ le. let none = holder_absent 0 x xss (stands_within heads nodes xss s x le) in absurd cc) (cases_lt x (length nodes))

length-heads : (heads : List Head) (nodes : List Node) (xss : List (List ℕ)) → StandsFor heads nodes xss → length heads ≡ length xss
length-heads heads nodes xss s = ap length s.heads_are ∙ simp length-map

pub reads_node : (heads : List Head) (nodes : List Node) (xss : List (List ℕ)) → StandsFor heads nodes xss → (x k : ℕ) (r : Node)
    → IsSome (holder_from 0 x xss) → r ≡ node_at nodes x → r.holder ≡ Some k → ReadsNode heads nodes xss x k r
reads_node heads nodes xss s x k r some is h =
    let node_in = held_within heads nodes xss s x some in
    let held : holder_from 0 x xss ≡ Some k = sym (s.holder_is x) ∙ ap (λ (n : Node). n.holder) (sym is) ∙ h in
    let b : r.before ≡ previous_in_all x xss = ap (λ (n : Node). n.before) is ∙ s.before_is x in
    let a : r.after ≡ next_in_all x xss = ap (λ (n : Node). n.after) is ∙ s.after_is x in
    record {
      holder = held;
      before = b;
      after = a;
      node_in = node_in;
      head_in = omega (arith, holder-within 0 k x xss held, length-heads heads nodes xss s);
      before_in = within_from_names (length nodes) r.before (λ y le. rw b (names-previous_in_all x y xss (stands_within heads nodes xss s y le)));
      after_in = within_from_names (length nodes) r.after (λ y le. rw a (names-next_in_all x y xss (stands_within heads nodes xss s y le)));
      before_held = held_named heads nodes xss s r.before (λ y none. rw b (names-previous_in_all x y xss none));
      after_held = held_named heads nodes xss s r.after (λ y none. rw a (names-next_in_all x y xss none));
    }

pub stands_for_itself : (heads : List Head) (nodes : List Node) (xss : List (List ℕ)) → StandsFor heads nodes xss → StandsFor heads nodes (lists_of heads nodes)
stands_for_itself heads nodes xss s = rw (lists_of_stands heads nodes xss s) s

pub stands_after_unlink : (heads : List Head) (nodes : List Node) (xss : List (List ℕ)) (x k : ℕ) (r : Node) (heads₁ heads₂ : List Head) (nodes₁ nodes₂ nodes₃ : List Node) → StandsFor heads nodes xss
    → ReadsNode heads nodes xss x k r → heads₁ ≡ with_first k r.before r.after heads → nodes₁ ≡ with_after r.before r.after nodes
    → heads₂ ≡ with_last_node k r.after r.before heads₁ → nodes₂ ≡ with_before r.after r.before nodes₁
    → nodes₃ ≡ set nodes₂ x free_node → StandsFor heads₂ nodes₃ (map (without x) xss)
stands_after_unlink heads nodes xss x k r heads₁ heads₂ nodes₁ nodes₂ nodes₃ s read h₁ n₁ h₂ n₂ n₃ =
    rw (n₃, h₂, n₂, h₁, n₁) (stands-unlink heads nodes xss k x r.before r.after s read.holder read.before read.after)

pub same_linked : (a b : List (List ℕ)) (m n : ℕ) → a ≡ b → m ≡ n → ◌≡◌ {A = Linked} (record { lists = a; nodes = m }) (record { lists = b; nodes = n })
same_linked a b m n e f =
    ap (λ (ls : List (List ℕ)). let t : Linked = record { lists = ls; nodes = m } in t) e ∙ ap (λ (k : ℕ). let t : Linked = record { lists = b; nodes = k } in t) f

-- what is kept of a head
pub reads_head : (heads : List Head) (nodes : List Node) (xss : List (List ℕ)) → StandsFor heads nodes xss → (k : ℕ) (r : Head) → k < length xss → r ≡ get_or heads k r → r ≡ head_of (get_or xss k [])
reads_head heads nodes xss s k r lt e =
    get_or_read heads k r (omega (arith, length-heads heads nodes xss s)) e empty_head ∙ ap (λ (hs : List Head). get_or hs k empty_head) s.heads_are ∙ get_or-map head_of xss k [] empty_head lt

pub reads_last_within : (heads : List Head) (nodes : List Node) (xss : List (List ℕ)) → StandsFor heads nodes xss → (k : ℕ) (r : Head) → k < length xss → r ≡ get_or heads k r → (z : ℕ) → r.last ≡ Some z → z < length nodes
reads_last_within heads nodes xss s k r lt e z last =
    last_within heads nodes xss k s z (ap (λ (h : Head). h.last) (sym (reads_head heads nodes xss s k r lt e)) ∙ last)

pub reads_last_held : (heads : List Head) (nodes : List Node) (xss : List (List ℕ)) → StandsFor heads nodes xss → (k : ℕ) (r : Head) → k < length xss → r ≡ get_or heads k r → (z : ℕ) → r.last ≡ Some z → IsSome (node_at nodes z).holder
reads_last_held heads nodes xss s k r lt e z last =
    held_named heads nodes xss s (last_or None (get_or xss k []))
    (λ y none. names-last y None (get_or xss k []) refl (omega (arith, none, times-le_in_all y k xss)))
    z (ap (λ (h : Head). h.last) (sym (reads_head heads nodes xss s k r lt e)) ∙ last)

pub stands_after_push : (heads : List Head) (nodes : List Node) (xss : List (List ℕ)) (x k : ℕ) (r : Head) (heads₁ heads₂ : List Head) (nodes₁ nodes₂ nodes₃ : List Node) → StandsFor heads nodes xss
    → k < length xss → x < length nodes → holder_from 0 x xss ≡ None → r ≡ get_or heads k r
    → heads₁ ≡ with_first k r.last (Some x) heads → nodes₁ ≡ with_after r.last (Some x) nodes
    → heads₂ ≡ with_last_node k None (Some x) heads₁ → nodes₂ ≡ nodes₁
    → nodes₃ ≡ set nodes₂ x (record { holder = Some k; before = r.last; after = None }) → StandsFor heads₂ nodes₃ (set xss k (get_or xss k [] ++ x ∷ []))
stands_after_push heads nodes xss x k r heads₁ heads₂ nodes₁ nodes₂ nodes₃ s k_in x_in free e h₁ n₁ h₂ n₂ n₃ =
    let last = ap (λ (h : Head). h.last) (reads_head heads nodes xss s k r k_in e) in
    rw (n₃, h₂, n₂, h₁, n₁) (stands-push heads nodes xss k x r.last s k_in x_in free last)

pub is_apart : (heads : List Head) (nodes : List Node) (xss : List (List ℕ)) (n : ℕ) → StandsFor heads nodes xss → n ≡ length nodes → IsApart (record { lists = xss; nodes = n })
is_apart heads nodes xss n s e = record { once = s.once; within = λ y le. stands_within heads nodes xss s y (omega arith) }

-- the first node of a list is in no other
pub holder_first : (h k : ℕ) (xss : List (List ℕ)) (x : ℕ) → slice_get (get_or xss k []) 0 ≡ Some x → IsSome (holder_from h x xss)
holder_first h k [] x e = cc
holder_first h zero ([] ∷ xss) x e = cc
holder_first h zero ((y ∷ ys) ∷ xss) x e = grind (arith, nat_tests)
holder_first h (suc k) (xs ∷ xss) x e = grind (arith, nat_tests, holder_first (h + 1) k xss x e)

take_all : {X : Type 0} (n : ℕ) (xs : List X) → length xs ≤ n → take n xs ≡ xs
take_all zero [] le = refl
take_all zero (x ∷ xs) le = absurd (omega arith)
take_all (suc n) [] le = refl
take_all {X} (suc n) (x ∷ xs) le = ap (λ (ys : List X). x ∷ ys) (take_all n xs (omega arith))

-- heads and nodes filled up, or nodes alone
pub stands_grown : (heads heads₁ heads₂ : List Head) (nodes nodes₁ : List Node) (xss : List (List ℕ)) (ok : Bool) (m i j : ℕ) → StandsFor heads nodes xss
    → length heads ≤ m → heads₁ ≡ heads → heads₂ ≡ cond ok (take m heads₁ ++ replicate i empty_head) heads₁ → nodes₁ ≡ nodes ++ replicate j free_node
    → StandsFor heads₂ nodes₁ (xss ++ replicate (cond ok i 0) [])
stands_grown heads heads₁ heads₂ nodes nodes₁ xss true m i j s hle h₁ h₂ n₁ =
    rw (h₂, n₁, h₁, take_all m heads hle) (stands-filled heads nodes xss i j s)
stands_grown heads heads₁ heads₂ nodes nodes₁ xss false m i j s hle h₁ h₂ n₁ =
    rw (h₂, n₁, h₁) (rw (append-nil heads) at (stands-filled heads nodes xss 0 j s))

pub length-lists_of : (heads : List Head) (nodes : List Node) → length (lists_of heads nodes) ≡ length heads
length-lists_of heads nodes = simp length-map

pub lists_of_grown : (heads : List Head) (nodes : List Node) (xss : List (List ℕ)) (ok : Bool) (i k : ℕ) → StandsFor heads nodes (xss ++ replicate (cond ok i 0) []) → ok ≡ true → i ≡ k → lists_of heads nodes ≡ xss ++ replicate k []
lists_of_grown heads nodes xss ok i k s o e =
    lists_of_stands heads nodes _ s ∙ ap (λ (n : ℕ). xss ++ replicate n []) (ap (λ (b : Bool). cond b i 0) o ∙ e)

pub OnOk_from : {T E : Type 0} (r : Result T E) (P : Type 0) → (is_ok r ≡ true → P) → OnOk r P
OnOk_from (Ok x) P h = h refl
OnOk_from (Err e) P h = tt

-- the first node of a list is one of the nodes
pub first_within : (heads : List Head) (nodes : List Node) (xss : List (List ℕ)) → StandsFor heads nodes xss → (k : ℕ) (o : Option ℕ) → o ≡ slice_get (get_or xss k []) 0 → (n : ℕ) → n ≡ length nodes → IfSome o (λ x. x < n)
first_within heads nodes xss s k None e n same = tt
first_within heads nodes xss s k (Some x) e n same = rw same (held_within heads nodes xss s x (holder_first 0 k xss x (sym e)))
