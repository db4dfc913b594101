-- What is read is spelled so, and what is spelled so is read, whatever stands behind it.
use Rattle.std.proofs.Common.{◌≡◌, ℕ, ◌^◌, ◌<◌, cond, eqb, List, [], ◌++◌, length, drop, Option, Some, None, Result, Ok, Err, refl, sym, ap, ◌∙◌, append_assoc, arith}
use Rattle.std.specs.Prelude.{IfOk, OnOk}
use Rattle.std.specs.Int.{w16, w32}
use Rattle.std.proofs.lemmas.Bool.{eqb-true}
use Rattle.std.proofs.lemmas.List.{append-nil, length-append}
use Rattle.com_base.specs.declared.guid.Guid.{Guid}
use Rattle.com_wire.specs.Fields.{IsBytes, number, guid, IsGuid, number_at, guid_at}
use Rattle.com_wire.specs.Steps.{◌>>=◌}
use Rattle.com_wire.proofs.Chosen.{bind_ok, guard_then, ok_is}
use Rattle.com_wire.proofs.Fields.{Stands-then, wide16, wide32, number_takes, guid_takes, field_again, guid_field_again, length-number, length-guid}
use Rattle.orpc.specs.declared.OrpcFault.{OrpcFault}
use Rattle.orpc.specs.Headers.{This, IsThis, this_text, this_of, that_text, fault, whole, request_of, reply_of}

whole_is : {A : Type 0} (bytes : List ℕ) (o : Option A) (x : A) → whole bytes o ≡ Ok x → o ≡ Some x
whole_is bytes None x e = absurd cc
whole_is bytes (Some y) x e = cc

-- ---- ORPCTHIS

-- the bytes begin with the header
pub record Begins (bytes : List ℕ) (h : This) : Type 0 where
  pub rest : List ℕ
  pub fits : IsThis h
  pub parts : bytes ≡ this_text h ++ rest

made : ℕ → ℕ → ℕ → Guid → This
made minor flags reserved cause = record { minor = minor; flags = flags; reserved = reserved; cause = cause }

-- what is read is spelled so
pub request_takes : (bytes : List ℕ) (cause : Guid) → IsBytes bytes → request_of bytes ≡ Ok cause → (h : This) × (rest : List ℕ) × IsThis h × (h.cause ≡ cause) × (bytes ≡ this_text h ++ rest)
unfolding request_of this_text
request_takes bytes cause fits e =
    let a = bind_ok (whole bytes (number_at w16 bytes 0)) (λ major. cond (eqb major 5) (whole bytes (number_at w16 bytes 2) >>= λ minor. whole bytes (number_at w32 bytes 4) >>= λ flags. whole bytes (number_at w32 bytes 8) >>= λ reserved. whole bytes (guid_at bytes 12) >>= λ g. whole bytes (number_at w32 bytes 28) >>= λ extensions. cond (eqb extensions 0) (Ok g) (Err (fault 3 28))) (Err (fault 2 0))) cause e in
    let t = guard_then (eqb a.0 5) (whole bytes (number_at w16 bytes 2) >>= λ minor. whole bytes (number_at w32 bytes 4) >>= λ flags. whole bytes (number_at w32 bytes 8) >>= λ reserved. whole bytes (guid_at bytes 12) >>= λ g. whole bytes (number_at w32 bytes 28) >>= λ extensions. cond (eqb extensions 0) (Ok g) (Err (fault 3 28))) (fault 2 0) cause a.2 in
    let b = bind_ok (whole bytes (number_at w16 bytes 2)) (λ minor. whole bytes (number_at w32 bytes 4) >>= λ flags. whole bytes (number_at w32 bytes 8) >>= λ reserved. whole bytes (guid_at bytes 12) >>= λ g. whole bytes (number_at w32 bytes 28) >>= λ extensions. cond (eqb extensions 0) (Ok g) (Err (fault 3 28))) cause t.1 in
    let c = bind_ok (whole bytes (number_at w32 bytes 4)) (λ flags. whole bytes (number_at w32 bytes 8) >>= λ reserved. whole bytes (guid_at bytes 12) >>= λ g. whole bytes (number_at w32 bytes 28) >>= λ extensions. cond (eqb extensions 0) (Ok g) (Err (fault 3 28))) cause b.2 in
    let d = bind_ok (whole bytes (number_at w32 bytes 8)) (λ reserved. whole bytes (guid_at bytes 12) >>= λ g. whole bytes (number_at w32 bytes 28) >>= λ extensions. cond (eqb extensions 0) (Ok g) (Err (fault 3 28))) cause c.2 in
    let g = bind_ok (whole bytes (guid_at bytes 12)) (λ g. whole bytes (number_at w32 bytes 28) >>= λ extensions. cond (eqb extensions 0) (Ok g) (Err (fault 3 28))) cause d.2 in
    let x = bind_ok (whole bytes (number_at w32 bytes 28)) (λ extensions. cond (eqb extensions 0) (Ok g.0) (Err (fault 3 28))) cause g.2 in
    let u = guard_then (eqb x.0 0) (Ok g.0) (fault 3 28) cause x.2 in
    let five : number_at w16 bytes 0 ≡ Some 5 = whole_is bytes (number_at w16 bytes 0) a.0 a.1 ∙ ap (λ (n : ℕ). Some n) (eqb-true _ _ t.0) in
    let none : number_at w32 bytes 28 ≡ Some 0 = whole_is bytes (number_at w32 bytes 28) x.0 x.1 ∙ ap (λ (n : ℕ). Some n) (eqb-true _ _ u.0) in
    let ta = number_takes w16 (2 ^ 16) wide16 bytes 0 5 fits five in
    let tb = number_takes w16 (2 ^ 16) wide16 bytes 2 b.0 fits (whole_is bytes (number_at w16 bytes 2) b.0 b.1) in
    let tc = number_takes w32 (2 ^ 32) wide32 bytes 4 c.0 fits (whole_is bytes (number_at w32 bytes 4) c.0 c.1) in
    let td = number_takes w32 (2 ^ 32) wide32 bytes 8 d.0 fits (whole_is bytes (number_at w32 bytes 8) d.0 d.1) in
    let tg = guid_takes bytes 12 g.0 fits (whole_is bytes (guid_at bytes 12) g.0 g.1) in
    let tx = number_takes w32 (2 ^ 32) wide32 bytes 28 0 fits none in
    let all = Stands-then bytes 0 2 32 _ _ ta.0 (Stands-then bytes 2 4 32 _ _ tb.0 (Stands-then bytes 4 8 32 _ _ tc.0 (Stands-then bytes 8 12 32 _ _ td.0 (Stands-then bytes 12 28 32 _ _ tg.0 tx.0)))) in
    (record { minor = b.0; flags = c.0; reserved = d.0; cause = g.0 }, drop 32 bytes, record { minor = tb.1; flags = tc.1; reserved = td.1; cause = tg.1 }, ok_is g.0 cause u.1, all.parts)

-- what each field reads as
record Fields (bytes : List ℕ) (h : This) (rest : List ℕ) : Type 0 where
  major : number_at w16 bytes 0 ≡ Some 5
  minor : number_at w16 bytes 2 ≡ Some h.minor
  flags : number_at w32 bytes 4 ≡ Some h.flags
  reserved : number_at w32 bytes 8 ≡ Some h.reserved
  cause : guid_at bytes 12 ≡ Some h.cause
  extensions : number_at w32 bytes 28 ≡ Some 0
  behind : drop 32 bytes ≡ rest

fields_again : (bytes : List ℕ) (h : This) (rest : List ℕ) → IsThis h → bytes ≡ this_text h ++ rest → Fields bytes h rest
unfolding this_text
fields_again bytes h rest fits e =
    let regrouped : bytes ≡ number w16 5 ++ (number w16 h.minor ++ (number w32 h.flags ++ (number w32 h.reserved ++ (guid h.cause ++ (number w32 0 ++ rest))))) = e ∙ simp append_assoc in
    let a = field_again w16 (2 ^ 16) wide16 bytes 0 5 (number w16 h.minor ++ (number w32 h.flags ++ (number w32 h.reserved ++ (guid h.cause ++ (number w32 0 ++ rest))))) (omega arith) (omega arith) regrouped in
    let b = field_again w16 (2 ^ 16) wide16 bytes 2 h.minor (number w32 h.flags ++ (number w32 h.reserved ++ (guid h.cause ++ (number w32 0 ++ rest)))) (omega arith) fits.minor a.1 in
    let c = field_again w32 (2 ^ 32) wide32 bytes 4 h.flags (number w32 h.reserved ++ (guid h.cause ++ (number w32 0 ++ rest))) (omega arith) fits.flags b.1 in
    let d = field_again w32 (2 ^ 32) wide32 bytes 8 h.reserved (guid h.cause ++ (number w32 0 ++ rest)) (omega arith) fits.reserved c.1 in
    let g = guid_field_again bytes 12 h.cause (number w32 0 ++ rest) fits.cause d.1 in
    let x = field_again w32 (2 ^ 32) wide32 bytes 28 0 rest (omega arith) (omega arith) g.1 in
    record { major = a.0; minor = b.0; flags = c.0; reserved = d.0; cause = g.0; extensions = x.0; behind = x.1 }

-- what is spelled so is read
pub request_again : (bytes : List ℕ) (h : This) (rest : List ℕ) → IsThis h → bytes ≡ this_text h ++ rest → request_of bytes ≡ Ok h.cause
unfolding request_of
request_again bytes h rest fits e =
    let f = fields_again bytes h rest fits e in
    rw (f.major, f.minor, f.flags, f.reserved, f.cause, f.extensions) refl

some_same : {A : Type 0} (o : Option A) (x y : A) → o ≡ Some x → o ≡ Some y → x ≡ y
some_same o x y p q = cc

pub request_ends : (front whole : This) (more : List ℕ) → IsThis front → IsThis whole → this_text front ++ more ≡ this_text whole → (front ≡ whole) × (more ≡ [])
unfolding made
request_ends front whole more front_fits whole_fits e =
    let bytes = this_text whole in
    let f = fields_again bytes front more front_fits (sym e) in
    let w = fields_again bytes whole [] whole_fits (sym (append-nil bytes)) in
    let minor = some_same (number_at w16 bytes 2) front.minor whole.minor f.minor w.minor in
    let flags = some_same (number_at w32 bytes 4) front.flags whole.flags f.flags w.flags in
    let reserved = some_same (number_at w32 bytes 8) front.reserved whole.reserved f.reserved w.reserved in
    let cause = some_same (guid_at bytes 12) front.cause whole.cause f.cause w.cause in
    let same : front ≡ whole =
    ap (λ (n : ℕ). made n front.flags front.reserved front.cause) minor
    ∙ ap (λ (n : ℕ). made whole.minor n front.reserved front.cause) flags
    ∙ ap (λ (n : ℕ). made whole.minor whole.flags n front.cause) reserved
    ∙ ap (λ (g : Guid). made whole.minor whole.flags whole.reserved g) cause in
    (same, sym f.behind ∙ w.behind)

pub length-this : (h : This) → IsThis h → length (this_text h) ≡ 32
unfolding this_text
length-this h fits =
    omega (arith, length-append {A = ℕ}, length-guid h.cause fits.cause, length-number w16 (2 ^ 16) wide16 5, length-number w16 (2 ^ 16) wide16 h.minor, length-number w32 (2 ^ 32) wide32 h.flags, length-number w32 (2 ^ 32) wide32 h.reserved, length-number w32 (2 ^ 32) wide32 0)

pub this_fits : (cause : Guid) → IsGuid cause → IsThis (this_of cause)
this_fits cause fits = record { minor = omega arith; flags = omega arith; reserved = omega arith; cause = fits }

pub is_request : (bytes : List ℕ) (r : Result Guid OrpcFault) → IsBytes bytes → r ≡ request_of bytes → IfOk r (λ cause. (h : This) × (rest : List ℕ) × IsThis h × (h.cause ≡ cause) × (bytes ≡ this_text h ++ rest))
is_request bytes (Ok cause) fits e = request_takes bytes cause fits (sym e)
is_request bytes (Err d) fits e = tt

-- ---- ORPCTHAT

pub reply_takes : (bytes : List ℕ) → IsBytes bytes → reply_of bytes ≡ Ok tt → (flags : ℕ) × (rest : List ℕ) × (flags < 2 ^ 32) × (bytes ≡ that_text flags ++ rest)
unfolding reply_of that_text
reply_takes bytes fits e =
    let a = bind_ok (whole bytes (number_at w32 bytes 0)) (λ flags. whole bytes (number_at w32 bytes 4) >>= λ extensions. cond (eqb extensions 0) (Ok tt) (Err (fault 3 4))) tt e in
    let x = bind_ok (whole bytes (number_at w32 bytes 4)) (λ extensions. cond (eqb extensions 0) (Ok tt) (Err (fault 3 4))) tt a.2 in
    let u = guard_then (eqb x.0 0) (Ok tt) (fault 3 4) tt x.2 in
    let none : number_at w32 bytes 4 ≡ Some 0 = whole_is bytes (number_at w32 bytes 4) x.0 x.1 ∙ ap (λ (n : ℕ). Some n) (eqb-true _ _ u.0) in
    let ta = number_takes w32 (2 ^ 32) wide32 bytes 0 a.0 fits (whole_is bytes (number_at w32 bytes 0) a.0 a.1) in
    let tx = number_takes w32 (2 ^ 32) wide32 bytes 4 0 fits none in
    (a.0, drop 8 bytes, ta.1, (Stands-then bytes 0 4 8 _ _ ta.0 tx.0).parts)

that_again : (bytes : List ℕ) (flags : ℕ) (rest : List ℕ) → flags < 2 ^ 32 → bytes ≡ that_text flags ++ rest → (number_at w32 bytes 0 ≡ Some flags) × (number_at w32 bytes 4 ≡ Some 0) × (drop 8 bytes ≡ rest)
unfolding that_text
that_again bytes flags rest lt e =
    let regrouped : bytes ≡ number w32 flags ++ (number w32 0 ++ rest) = e ∙ simp append_assoc in
    let a = field_again w32 (2 ^ 32) wide32 bytes 0 flags (number w32 0 ++ rest) (omega arith) lt regrouped in
    let x = field_again w32 (2 ^ 32) wide32 bytes 4 0 rest (omega arith) (omega arith) a.1 in
    (a.0, x.0, x.1)

pub reply_again : (bytes : List ℕ) (flags : ℕ) (rest : List ℕ) → flags < 2 ^ 32 → bytes ≡ that_text flags ++ rest → reply_of bytes ≡ Ok tt
unfolding reply_of
reply_again bytes flags rest lt e =
    let t = that_again bytes flags rest lt e in
    rw (t.0, t.1) refl

pub reply_ends : (front whole : ℕ) (more : List ℕ) → front < 2 ^ 32 → whole < 2 ^ 32 → that_text front ++ more ≡ that_text whole → (front ≡ whole) × (more ≡ [])
reply_ends front whole more front_lt whole_lt e =
    let bytes = that_text whole in
    let f = that_again bytes front more front_lt (sym e) in
    let w = that_again bytes whole [] whole_lt (sym (append-nil bytes)) in
    (some_same (number_at w32 bytes 0) front whole f.0 w.0, sym f.2 ∙ w.2)

pub length-that : length (that_text 0) ≡ 8
unfolding that_text
length-that = omega (arith, length-append (number w32 0) (number w32 0), length-number w32 (2 ^ 32) wide32 0)

pub is_reply : (bytes : List ℕ) (r : Result (Unit {0}) OrpcFault) → IsBytes bytes → r ≡ reply_of bytes → OnOk r ((flags : ℕ) × (rest : List ℕ) × (flags < 2 ^ 32) × (bytes ≡ that_text flags ++ rest))
is_reply bytes (Ok x) fits e = reply_takes bytes fits (sym e)
is_reply bytes (Err d) fits e = tt
