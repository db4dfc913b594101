-- Whether the first of two answers, or the second, is one.
use Rattle.std.proofs.Common.{◌≡◌, Bool, true, false, Option, Some, None, is_some, refl}
use Rattle.com_model.specs.Lists.{or_else}
use Rattle.com_view.specs.declared.next.Next.TheVariants as next
use Rattle.com_view.specs.Nexts.{kind_of}

pub some_here : {X : Type 0} (a b : Option X) → is_some a ≡ true → is_some (or_else a b) ≡ true
some_here (Some x) b e = refl
some_here None b e = cc

pub some_later : {X : Type 0} (a b : Option X) → is_some a ≡ false → is_some (or_else a b) ≡ is_some b
some_later None b e = refl
some_later (Some x) b e = cc

pub kind_own : (body own over : Bool) → body ≡ false → own ≡ true → next.Own ≡ kind_of body own over
kind_own body own over p q = rw (p, q) refl

pub kind_over : (body own over : Bool) → body ≡ false → own ≡ false → over ≡ true → next.Over ≡ kind_of body own over
kind_over body own over p q r = rw (p, q, r) refl

pub kind_wait : (body own over : Bool) → body ≡ false → own ≡ false → over ≡ false → next.Wait ≡ kind_of body own over
kind_wait body own over p q r = rw (p, q, r) refl
