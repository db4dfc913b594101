-- What a line's first words say goes on to be said of the whole line.
use Rattle.std.proofs.Common.{◌≡◌, ◌⊎◌, inl, inr, Bool, true, false, cond, Result, Ok, Err, refl, sym, ap, subst}
use Rattle.com_read_operands.specs.declared.faults.Fault.{Fault}
use Rattle.com_read_operands.specs.Reading.{◌>>=◌}

-- a word that is needed is missing
abbrev pub IsMissed : {A : Type 0} → Result A Fault → Type 0
IsMissed (Ok x) = ⊥
IsMissed (Err f) = f.number ≡ 4

-- no fault, or that one
abbrev pub IsMild : {A : Type 0} → Result A Fault → Type 0
IsMild (Ok x) = Unit {0}
IsMild (Err f) = f.number ≡ 4

-- A word that is needed: the first words give what the whole line gives, or lack it.
pub record Sure {A : Type 0} (short long : Result A Fault) : Type 0 where
  pub is : (long ≡ short) ⊎ IsMissed short

-- The first words give what the whole line gives, or nothing but that a word is missing is at fault in them.
pub record Goes {A : Type 0} (short long : Result A Fault) : Type 0 where
  pub is : (long ≡ short) ⊎ IsMild short

pub still : {A : Type 0} (r : Result A Fault) → Sure r r
still r = record { is = inl refl }

pub stays : {A : Type 0} (r : Result A Fault) → Goes r r
stays r = record { is = inl refl }

pub fine : {A : Type 0} (x : A) (s : Result A Fault) → Goes (Ok x) s
fine x s = record { is = inr tt }

pub goes : {A : Type 0} (r s : Result A Fault) → Sure r s → Goes r s
goes (Ok x) s h = elim h.is [ inl e ↦ record { is = inl e } | inr m ↦ absurd m ]
goes (Err f) s h = record { is = h.is }

pub bind : {A B : Type 0} (r s : Result A Fault) (f g : A → Result B Fault) → Sure r s → ((x : A) → Goes (f x) (g x)) → Goes (r >>= f) (s >>= g)
bind (Ok x) s f g h k = elim h.is [
  | inl e ↦ subst (λ (t : Result _ Fault). Goes (f x) (t >>= g)) (sym e) (k x)
  | inr m ↦ absurd m
]
bind (Err x) s f g h k = elim h.is [
  | inl e ↦ record { is = inl (ap (λ (t : Result _ Fault). t >>= g) e) }
  | inr m ↦ record { is = inr m }
]

pub surely : {A B : Type 0} (r s : Result A Fault) (f g : A → Result B Fault) → Sure r s → ((x : A) → Sure (f x) (g x)) → Sure (r >>= f) (s >>= g)
surely (Ok x) s f g h k = elim h.is [
  | inl e ↦ subst (λ (t : Result _ Fault). Sure (f x) (t >>= g)) (sym e) (k x)
  | inr m ↦ absurd m
]
surely (Err x) s f g h k = elim h.is [
  | inl e ↦ record { is = inl (ap (λ (t : Result _ Fault). t >>= g) e) }
  | inr m ↦ record { is = inr m }
]

-- what is made of a word alone
pub by_word : {A B : Type 0} (r s : Result A Fault) (f : A → Result B Fault) → Sure r s → Sure (r >>= f) (s >>= f)
by_word r s f h = surely r s f f h (λ x. still (f x))

pub map : {A B : Type 0} (r s : Result A Fault) (f g : A → B) → Goes r s → Goes (r >>= λ x. Ok (f x)) (s >>= λ x. Ok (g x))
map (Ok x) s f g h = fine (f x) (s >>= λ x. Ok (g x))
map (Err x) s f g h = elim h.is [
  | inl e ↦ record { is = inl (ap (λ (t : Result _ Fault). t >>= λ x. Ok (g x)) e) }
  | inr m ↦ record { is = inr m }
]

-- a word that may be lacking
pub optional : {A : Type 0} (r s : Result Bool Fault) (f g : Bool → Result A Fault) → (s ≡ r) ⊎ (r ≡ Ok false) → IsMild (f false) → ((b : Bool) → Goes (f b) (g b)) → Goes (r >>= f) (s >>= g)
optional (Ok b) s f g (inl e) m k = subst (λ (t : Result _ Fault). Goes (f b) (t >>= g)) (sym e) (k b)
optional (Err x) s f g (inl e) m k = record { is = inl (ap (λ (t : Result _ Fault). t >>= g) e) }
optional r s f g (inr e) m k = subst (λ (t : Result _ Fault). Goes (t >>= f) (s >>= g)) (sym e) (record { is = inr m })

pub either : {A : Type 0} (b : Bool) (r s t u : Result A Fault) → (b ≡ true → Goes r t) → (b ≡ false → Goes s u) → Goes (cond b r s) (cond b t u)
either true r s t u h k = h refl
either false r s t u h k = k refl

pub surely_either : {A : Type 0} (b : Bool) (r s t u : Result A Fault) → (b ≡ true → Sure r t) → (b ≡ false → Sure s u) → Sure (cond b r s) (cond b t u)
surely_either true r s t u h k = h refl
surely_either false r s t u h k = k refl

-- what is read behind what is read
pub inside : {A B C : Type 0} (r s : Result A Fault) (f f' : A → Result B Fault) (g g' : B → Result C Fault) → Sure r s → ((x : A) → Goes (f x >>= g) (f' x >>= g')) → Goes ((r >>= f) >>= g) ((s >>= f') >>= g')
inside (Ok x) s f f' g g' h k = elim h.is [
  | inl e ↦ subst (λ (t : Result _ Fault). Goes (f x >>= g) ((t >>= f') >>= g')) (sym e) (k x)
  | inr m ↦ absurd m
]
inside (Err x) s f f' g g' h k = elim h.is [
  | inl e ↦ record { is = inl (ap (λ (t : Result _ Fault). (t >>= f') >>= g') e) }
  | inr m ↦ record { is = inr m }
]

pub ended_then : {A B C : Type 0} (r s : Result A Fault) (x : B) (g g' : B → Result C Fault) → Goes r s → IsMild (g x) → Goes ((r >>= λ done. Ok x) >>= g) ((s >>= λ done. Ok x) >>= g')
ended_then (Ok y) s x g g' h m = record { is = inr m }
ended_then (Err y) s x g g' h m = elim h.is [
  | inl e ↦ record { is = inl (ap (λ (t : Result _ Fault). (t >>= λ done. Ok x) >>= g') e) }
  | inr n ↦ record { is = inr n }
]

pub either_then : {A B : Type 0} (b : Bool) (r s t u : Result A Fault) (g g' : A → Result B Fault) → (b ≡ true → Goes (r >>= g) (t >>= g')) → (b ≡ false → Goes (s >>= g) (u >>= g')) → Goes (cond b r s >>= g) (cond b t u >>= g')
either_then true r s t u g g' h k = h refl
either_then false r s t u g g' h k = k refl
