-- What is declared is new where it is declared.
use Rattle.std.proofs.Common.{◌≡◌, ℕ, ◌+◌, ◌||◌, List, [], ◌∷◌, ◌++◌, map, Option, Some, None, is_some, Bool, true, false, if◌then◌else◌, refl, ap, ◌∙◌, All, option_map, bytes_eq}
use Rattle.std.proofs.lemmas.List.Elements.{All-head, All-tail}
use Rattle.com_base.specs.declared.guid.Guid.{Guid}
use Rattle.com_classes.specs.declared.interfaces.Method.{Method}
use Rattle.com_classes.specs.declared.classes.MethodBody.{MethodBody}
use Rattle.com_classes.specs.Lookups.{same_guid}
use Rattle.com_model.specs.Formed.{Distinct, same_body, same_method}
use Rattle.com_read_operands.specs.Naming.{position_of}
use Rattle.com_read_statements.specs.Calls.{method_position}
use Rattle.com_read_lines.specs.Tables.{guid_eq, has_guid}
use Rattle.com_read_sections.specs.Opened.{has_body}

-- ---- one of a list against those before it

-- No one before is the same by the test.
abbrev pub IsNew : {X : Type 0} → (X → X → Bool) → List X → X → Type 0
IsNew same [] x = Unit {0}
IsNew same (d ∷ ds) x = (same d x ≡ false) × IsNew same ds x

all_at : {X : Type 0} (P : X → Type 0) (ds : List X) (x : X) (xs : List X) → All P (ds ++ x ∷ xs) → P x
all_at P [] x xs h = All-head P x xs h
all_at P (d ∷ ds) x xs h = all_at P ds x xs (All-tail P d (ds ++ x ∷ xs) h)

pub new_of : {X : Type 0} (same : X → X → Bool) (ds : List X) (x : X) (xs : List X) → Distinct same (ds ++ x ∷ xs) → IsNew same ds x
new_of same [] x xs h = tt
new_of same (d ∷ ds) x xs h = (all_at (λ y. same d y ≡ false) ds x xs h.0, new_of same ds x xs h.1)

-- a weaker test
pub new_by : {X : Type 0} (same other : X → X → Bool) (ds : List X) (x : X) → ((d : X) → same d x ≡ false → other d x ≡ false) → IsNew same ds x → IsNew other ds x
new_by same other [] x f h = tt
new_by same other (d ∷ ds) x f h = (f d h.0, new_by same other ds x f h.1)

pub either_left : (a b : Bool) → (a || b) ≡ false → a ≡ false
either_left true b h = absurd cc
either_left false b h = refl

pub either_right : (a b : Bool) → (a || b) ≡ false → b ≡ false
either_right true b h = absurd cc
either_right false b h = h

-- ---- the tests of the language and of the tables

pub same_guids : (g k : Guid) → guid_eq g k ≡ same_guid g k
same_guids g k = refl

-- ---- lists of names, GUIDs, methods and bodies

no_more : (o : Option ℕ) → is_some (option_map (λ k. k + 1) o) ≡ is_some o
no_more None = refl
no_more (Some k) = refl

pub no_position : (names : List (List ℕ)) (name : List ℕ) → IsNew bytes_eq names name → is_some (position_of names name) ≡ false
no_position [] name h = refl
no_position (n ∷ ns) name h =
    ap (λ (b : Bool). is_some (if b then Some 0 else option_map (λ k. k + 1) (position_of ns name))) h.0
    ∙ no_more (position_of ns name) ∙ no_position ns name h.1

pub no_guid : (guids : List Guid) (g : Guid) → IsNew guid_eq guids g → has_guid guids g ≡ false
no_guid [] g h = refl
no_guid (d ∷ ds) g h = ap (λ (b : Bool). if b then true else has_guid ds g) h.0 ∙ no_guid ds g h.1

pub no_method : (methods : List Method) (m : Method) → IsNew same_method methods m → is_some (method_position methods m.name) ≡ false
no_method [] m h = refl
no_method (d ∷ ds) m h =
    ap (λ (b : Bool). is_some (if b then Some 0 else option_map (λ k. k + 1) (method_position ds m.name))) h.0
    ∙ no_more (method_position ds m.name) ∙ no_method ds m h.1

pub no_body : (bodies : List MethodBody) (b : MethodBody) → IsNew same_body bodies b → has_body bodies (record { iface = b.iface; method = b.method }) ≡ false
no_body [] b h = refl
no_body (d ∷ ds) b h = ap (λ (x : Bool). if x then true else has_body ds (record { iface = b.iface; method = b.method })) h.0 ∙ no_body ds b h.1

-- a list's images are new where its elements are
pub new_map : {X Y : Type 0} (f : X → Y) (same : X → X → Bool) (other : Y → Y → Bool) (ds : List X) (x : X)
    → ((d : X) → same d x ≡ false → other (f d) (f x) ≡ false) → IsNew same ds x → IsNew other (map f ds) (f x)
new_map f same other [] x t h = tt
new_map f same other (d ∷ ds) x t h = (t d h.0, new_map f same other ds x t h.1)

pub new_append : {X : Type 0} (same : X → X → Bool) (ds es : List X) (x : X) → IsNew same ds x → IsNew same es x → IsNew same (ds ++ es) x
new_append same [] es x h k = k
new_append same (d ∷ ds) es x h k = (h.0, new_append same ds es x h.1 k)
