-- The queues are the lists with 1 added to each node, and go on to be after each change.
use Rattle.std.proofs.Common.{◌≡◌, ℕ, ◌+◌, ◌-◌, ◌≤◌, List, [], ◌∷◌, ◌++◌, length, map, Option, None, Some, true, false, zero, suc, get_or, set, refl, sym, ap, ◌∙◌, arith, slice_get, replicate, IsSome, IsTrue, is_some}
use Rattle.std.proofs.lemmas.Bool.Decides.{nat_tests}
use Rattle.std.proofs.lemmas.List.{map-set, map-append, length-map}
use Rattle.std.proofs.lemmas.Bool.{false≢true}
use Rattle.com_lists.specs.Linked.{Linked, IsApart, times, times_in_all, holder_from, without, without_node, with_last as with_last_node}
use Rattle.com_inbox.specs.Queues.{Queues, numbered, queues_of, queue_of, with_last, without_number}

-- the numbers of a list of nodes
abbrev pub up : List ℕ → List ℕ
up nodes = map (λ node. node + 1) nodes

pub times-up : (n : ℕ) (xs : List ℕ) → times (n + 1) (up xs) ≡ times n xs
times-up n [] = refl
times-up n (x ∷ xs) = grind (arith, nat_tests, times-up n xs)

pub times-up_zero : (xs : List ℕ) → times 0 (up xs) ≡ 0
times-up_zero [] = refl
times-up_zero (x ∷ xs) = grind (arith, nat_tests, times-up_zero xs)

pub holder-numbered : (h n : ℕ) (xss : List (List ℕ)) → holder_from h (n + 1) (numbered xss) ≡ holder_from h n xss
holder-numbered h n [] = refl
holder-numbered h n (xs ∷ xss) = rw (times-up n xs, holder-numbered (h + 1) n xss) refl

pub holder-numbered_zero : (h : ℕ) (xss : List (List ℕ)) → holder_from h 0 (numbered xss) ≡ None
holder-numbered_zero h [] = refl
holder-numbered_zero h (xs ∷ xss) = rw (times-up_zero xs, holder-numbered_zero (h + 1) xss) refl

up-without : (n : ℕ) (xs : List ℕ) → up (without n xs) ≡ without (n + 1) (up xs)
up-without n [] = refl
up-without n (x ∷ xs) = grind (arith, nat_tests, up-without n xs)

pub numbered-without : (n : ℕ) (xss : List (List ℕ)) → numbered (map (without n) xss) ≡ map (without (n + 1)) (numbered xss)
numbered-without n [] = refl
numbered-without n (xs ∷ xss) = grind (arith, up-without n xs, numbered-without n xss)

pub numbered-at : (k : ℕ) (xss : List (List ℕ)) → get_or (numbered xss) k [] ≡ up (get_or xss k [])
numbered-at k [] = refl
numbered-at zero (xs ∷ xss) = refl
numbered-at (suc k) (xs ∷ xss) = numbered-at k xss

pub numbered-push : (k n : ℕ) (xss : List (List ℕ)) → numbered (set xss k (get_or xss k [] ++ n ∷ [])) ≡ set (numbered xss) k (get_or (numbered xss) k [] ++ (n + 1) ∷ [])
numbered-push k n xss =
    map-set up xss k (get_or xss k [] ++ n ∷ []) ∙ ap (λ (ys : List ℕ). set (numbered xss) k ys) (map-append (λ node. node + 1) (get_or xss k []) (n ∷ []) ∙ ap (λ (ys : List ℕ). ys ++ (n + 1) ∷ []) (sym (numbered-at k xss)))

pub numbered-filled : (xss : List (List ℕ)) (j : ℕ) → numbered (xss ++ replicate j []) ≡ numbered xss ++ replicate j []
numbered-filled [] zero = refl
numbered-filled [] (suc j) = ap (λ (ys : List (List ℕ)). [] ∷ ys) (numbered-filled [] j)
numbered-filled (xs ∷ xss) j = ap (λ (ys : List (List ℕ)). up xs ∷ ys) (numbered-filled xss j)

pub numbered-empty : (j : ℕ) → numbered (replicate j []) ≡ replicate j []
numbered-empty j = numbered-filled [] j

pub first-numbered : (k : ℕ) (xss : List (List ℕ)) (n : ℕ) → slice_get (get_or xss k []) 0 ≡ Some n → slice_get (get_or (numbered xss) k []) 0 ≡ Some (n + 1)
first-numbered k [] n e = cc
first-numbered zero ([] ∷ xss) n e = cc
first-numbered zero ((x ∷ xs) ∷ xss) n e = grind arith
first-numbered (suc k) (xs ∷ xss) n e = first-numbered k xss n e

pub first-numbered_none : (k : ℕ) (xss : List (List ℕ)) → slice_get (get_or xss k []) 0 ≡ None → slice_get (get_or (numbered xss) k []) 0 ≡ None
first-numbered_none k [] e = refl
first-numbered_none zero ([] ∷ xss) e = refl
first-numbered_none zero ((x ∷ xs) ∷ xss) e = cc
first-numbered_none (suc k) (xs ∷ xss) e = first-numbered_none k xss e

pub numbered_past : (k : ℕ) (xss : List (List ℕ)) → length xss ≤ k → slice_get (get_or (numbered xss) k []) 0 ≡ None
numbered_past k [] le = refl
numbered_past zero (xs ∷ xss) le = absurd (omega arith)
numbered_past (suc k) (xs ∷ xss) le = numbered_past k xss (omega arith)

-- a number that waits nowhere is nowhere to be taken from

times-from_holder : (h x : ℕ) (xss : List (List ℕ)) → holder_from h x xss ≡ None → times_in_all x xss ≡ 0
times-from_holder h x [] e = refl
times-from_holder h x (xs ∷ xss) e = grind (arith, nat_tests, times-from_holder (h + 1) x xss)

without_none : (x : ℕ) (xs : List ℕ) → times x xs ≡ 0 → without x xs ≡ xs
without_none x [] e = refl
without_none x (y ∷ ys) e = grind (arith, nat_tests, without_none x ys)

without_none_in_all : (x : ℕ) (xss : List (List ℕ)) → times_in_all x xss ≡ 0 → map (without x) xss ≡ xss
without_none_in_all x [] e = refl
without_none_in_all x (xs ∷ xss) e = grind (arith, nat_tests, without_none x xs, without_none_in_all x xss)

pub without_unheld : (h x : ℕ) (xss : List (List ℕ)) → holder_from h x xss ≡ None → map (without x) xss ≡ xss
without_unheld h x xss e = without_none_in_all x xss (times-from_holder h x xss e)

-- what each call does

pub queue_of-from_one : (t : Linked) (number : ℕ) → 1 ≤ number → queue_of (queues_of t) number ≡ holder_from 0 (number - 1) t.lists
queue_of-from_one t number h =
    let e : number ≡ number - 1 + 1 = omega arith in
    ap (λ (n : ℕ). holder_from 0 n (numbered t.lists)) e ∙ holder-numbered 0 (number - 1) t.lists

holder_absent : (h x : ℕ) (xss : List (List ℕ)) → times_in_all x xss ≡ 0 → holder_from h x xss ≡ None
holder_absent h x [] e = refl
holder_absent h x (xs ∷ xss) e = grind (arith, nat_tests, holder_absent (h + 1) x xss)

pub queue_of_past : (t : Linked) (number : ℕ) → IsApart t → 1 ≤ number → t.nodes ≤ number - 1 → queue_of (queues_of t) number ≡ None
queue_of_past t number apart h le = queue_of-from_one t number h ∙ holder_absent 0 (number - 1) t.lists (apart.within (number - 1) le)

pub queue_of_zero : (t : Linked) (number : ℕ) → number ≡ 0 → queue_of (queues_of t) number ≡ None
queue_of_zero t number e = ap (λ (n : ℕ). holder_from 0 n (numbered t.lists)) e ∙ holder-numbered_zero 0 t.lists

pub waits_not : (o : Option ℕ) → o ≡ None → (IsTrue false → IsSome o) × (IsSome o → IsTrue false)
waits_not None e = (λ f. absurd (false≢true f), λ s. s)
waits_not (Some x) e = absurd cc

pub without_number_none : (t : Queues) (number : ℕ) → queue_of t number ≡ None → t ≡ without_number t number
without_number_none t number e =
    ap (λ (qs : List (List ℕ)). let u : Queues = record { queues = qs; numbers = t.numbers } in u) (sym (without_unheld 0 number t.queues e))

pub queues_of-unlink : (t : Linked) (number : ℕ) → 1 ≤ number → queues_of (without_node t (number - 1)) ≡ without_number (queues_of t) number
queues_of-unlink t number h =
    let e : number - 1 + 1 ≡ number = omega arith in
    ap (λ (qs : List (List ℕ)). let u : Queues = record { queues = qs; numbers = t.nodes } in u)
    (numbered-without (number - 1) t.lists ∙ ap (λ (n : ℕ). map (without n) (numbered t.lists)) e)

pub queues_of-push : (t : Linked) (queue number : ℕ) → 1 ≤ number → queues_of (with_last_node t queue (number - 1)) ≡ with_last (queues_of t) queue number
queues_of-push t queue number h =
    let e : number - 1 + 1 ≡ number = omega arith in
    ap (λ (qs : List (List ℕ)). let u : Queues = record { queues = qs; numbers = t.nodes } in u)
    (numbered-push queue (number - 1) t.lists ∙ ap (λ (n : ℕ). set (numbered t.lists) queue (get_or (numbered t.lists) queue [] ++ n ∷ [])) e)

pub numbered-grown : (xss grown : List (List ℕ)) (i j : ℕ) → grown ≡ xss ++ replicate i [] → i ≡ j → numbered grown ≡ numbered xss ++ replicate j []
numbered-grown xss grown i j g e = ap numbered g ∙ numbered-filled xss i ∙ ap (λ (n : ℕ). numbered xss ++ replicate n []) e

pub length-numbered : (xss : List (List ℕ)) → length (numbered xss) ≡ length xss
length-numbered xss = simp length-map

pub waits : (o p : Option ℕ) → o ≡ p → is_some p ≡ true → (IsTrue true → IsSome o) × (IsSome o → IsTrue true)
waits None None e s = absurd (false≢true s)
waits None (Some y) e s = absurd cc
waits (Some x) p e s = (λ _. refl, λ _. refl)

pub none_from : (o : Option ℕ) → is_some o ≡ false → o ≡ None
none_from None e = refl
none_from (Some x) e = absurd cc
