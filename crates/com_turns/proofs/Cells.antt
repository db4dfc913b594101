-- What a test tells that compares cells number by number and link by link.
use Rattle.std.proofs.Common.{ap, refl, ◌∙◌, int_eq}
use Rattle.std.proofs.lemmas.Bool.Decides.{Decides-and, Decides-eqb, Decides-int_eq, Decides-like}
use Rattle.std.specs.Bool.{Decides}
use Rattle.std.specs.Cmp.Lexicographic.{pointwise, pointwise_decides}
use Rattle.std.specs.Option.{option_eq}
use Rattle.std.specs.Prelude.{◌≡◌, ℕ, ℤ, Bool, ◌==◌, ◌&&◌, List, Option, Some, None}
use Rattle.com_base.specs.declared.value.RefValue.{RefValue}
use Rattle.com_body.specs.declared.frame.Cells.{Cells}

abbrev same_reference : RefValue → RefValue → Bool
same_reference x y = x.object == y.object && x.iface == y.iface

reference-of : (x y : RefValue) → (x.object ≡ y.object) × (x.iface ≡ y.iface) → x ≡ y
reference-of x y p = ap (λ (n : ℕ). record x { object = n }) p.0 ∙ ap (λ (n : ℕ). record y { iface = n }) p.1

reference_decided : (x y : RefValue) → Decides (same_reference x y) (x ≡ y)
reference_decided x y =
    Decides-like (same_reference x y) (reference-of x y) (λ e. (ap (λ (v : RefValue). v.object) e, ap (λ (v : RefValue). v.iface) e))
    (Decides-and (x.object == y.object) (x.iface == y.iface) (Decides-eqb x.object y.object) (Decides-eqb x.iface y.iface))

own : (x y : RefValue) → Some x ≡ Some y → x ≡ y
own x y e = cc

link_decided : (a b : Option RefValue) → Decides (option_eq same_reference a b) (a ≡ b)
link_decided None None = (λ t. refl, λ e. refl)
link_decided None (Some y) = (λ t. absurd cc, λ e. absurd cc)
link_decided (Some x) None = (λ t. absurd cc, λ e. absurd cc)
link_decided (Some x) (Some y) = (λ t. ap (λ (v : RefValue). Some v) ((reference_decided x y).0 t), λ e. (reference_decided x y).1 (own x y e))

cells-of : (c d : Cells) → (c.numbers ≡ d.numbers) × (c.links ≡ d.links) → c ≡ d
cells-of c d p =
    ap (λ (xs : List ℤ). record c { numbers = xs }) p.0 ∙ ap (λ (xs : List (Option RefValue)). record d { links = xs }) p.1

pub cells_decided : (c d : Cells) → Decides (pointwise int_eq c.numbers d.numbers && pointwise (option_eq same_reference) c.links d.links) (c ≡ d)
cells_decided c d =
    Decides-like (pointwise int_eq c.numbers d.numbers && pointwise (option_eq same_reference) c.links d.links) (cells-of c d) (λ e. (ap (λ (k : Cells). k.numbers) e, ap (λ (k : Cells). k.links) e))
    (Decides-and (pointwise int_eq c.numbers d.numbers) (pointwise (option_eq same_reference) c.links d.links)
    (pointwise_decides Decides-int_eq c.numbers d.numbers) (pointwise_decides link_decided c.links d.links))
