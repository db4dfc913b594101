-- Books that read alike are equal.
use mathlib.Core.Path.{fun_ext}
use Rattle.std.proofs.Common.{◌≡◌, ℕ, Bool, ap, ◌∙◌}
use Rattle.com_refs_books.specs.Changes.{Books}

pub record SameBooks (b c : Books) : Type 0 where
  pub stub : (o i : ℕ) → b.stub o i ≡ c.stub o i
  pub proxy : (a o i : ℕ) → b.proxy a o i ≡ c.proxy a o i
  pub packets : b.packets ≡ c.packets
  pub cookies : b.cookies ≡ c.cookies
  pub live : (o : ℕ) → b.live o ≡ c.live o
  pub arguments : b.arguments ≡ c.arguments
  pub result : b.result ≡ c.result

fun2 : (f g : ℕ → ℕ → ℕ) → ((x y : ℕ) → f x y ≡ g x y) → f ≡ g
fun2 f g h = fun_ext (λ x. fun_ext (h x))

fun3 : (f g : ℕ → ℕ → ℕ → ℕ) → ((x y z : ℕ) → f x y z ≡ g x y z) → f ≡ g
fun3 f g h = fun_ext (λ x. fun2 (f x) (g x) (h x))

pub same_books : (b c : Books) → SameBooks b c → b ≡ c
same_books b c s =
    ap (λ (x : ℕ → ℕ → ℕ). record b { stub = x }) (fun2 b.stub c.stub s.stub)
    ∙ ap (λ (x : ℕ → ℕ → ℕ → ℕ). record b { stub = c.stub; proxy = x }) (fun3 b.proxy c.proxy s.proxy)
    ∙ ap (λ x. record b { stub = c.stub; proxy = c.proxy; packets = x }) s.packets
    ∙ ap (λ x. record c { cookies = x; live = b.live; arguments = b.arguments; result = b.result }) s.cookies
    ∙ ap (λ (x : ℕ → Bool). record c { live = x; arguments = b.arguments; result = b.result }) (fun_ext s.live)
    ∙ ap (λ x. record c { arguments = x; result = b.result }) s.arguments
    ∙ ap (λ x. record c { result = x }) s.result
