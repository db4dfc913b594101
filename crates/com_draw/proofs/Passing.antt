-- A page that is written in one pass, from the first entry on.
use Rattle.std.proofs.Common.{◌≡◌, ℕ, List, [], ◌∷◌, ◌++◌, ◌+◌, suc, length, reverse, refl, ap, sym, ◌∙◌, append_assoc, append-nil, arith}
use Rattle.std.proofs.lemmas.List.{reverse-append}
use Rattle.com_model.specs.declared.deeds.Entry.{Entry}
use Rattle.com_model.specs.declared.scenario.Scenario.{Scenario}
use Rattle.com_draw.specs.declared.beside.Beside.{Beside}
use Rattle.com_draw.specs.Ends.{end_text}
use Rattle.com_draw.specs.Entries.{after, drawn, entry_text}
use Rattle.com_draw.specs.Pages.{page, written}
use Rattle.com_draw.specs.Pictures.{Picture}
use Rattle.com_draw.proofs.Counted.{one_more}

-- the picture after entries in the order of their making, and what is written of them
abbrev pub goes_on : Scenario → List Entry → Picture → Picture
goes_on s [] p = p
goes_on s (e ∷ es) p = goes_on s es (after s p e)

abbrev pub text_of : Scenario → List Entry → Picture → List ℕ
text_of s [] p = []
text_of s (e ∷ es) p = entry_text s p e ++ text_of s es (after s p e)

moved : (e : Entry) (es h : List Entry) → reverse (e ∷ es) ++ h ≡ reverse es ++ (e ∷ h)
moved e es h = ap (λ (us : List Entry). us ++ h) (reverse-append (e ∷ []) es) ∙ append_assoc (reverse es) (e ∷ []) h

goes-on : (s : Scenario) (es h : List Entry) → goes_on s es (drawn s h) ≡ drawn s (reverse es ++ h)
goes-on s [] h = refl
goes-on s (e ∷ es) h = goes-on s es (e ∷ h) ∙ ap (drawn s) (sym (moved e es h))

writes : (s : Scenario) (es h : List Entry) → written s h ++ text_of s es (drawn s h) ≡ written s (reverse es ++ h)
writes s [] h = append-nil (written s h)
writes s (e ∷ es) h =
    sym (append_assoc (written s h) (entry_text s (drawn s h) e) (text_of s es (after s (drawn s h) e)))
    ∙ writes s es (e ∷ h) ∙ ap (written s) (sym (moved e es h))

pub passed : (s : Scenario) (es : List Entry) → goes_on s es (drawn s []) ≡ drawn s (reverse es)
passed s es = goes-on s es [] ∙ ap (drawn s) (append-nil (reverse es))

pub wrote : (s : Scenario) (es : List Entry) → written s [] ++ text_of s es (drawn s []) ≡ written s (reverse es)
wrote s es = writes s es [] ∙ ap (written s) (append-nil (reverse es))

-- the front, the entries and the end together are the page
pub page_of : (s : Scenario) (es : List Entry) (x : Beside) (before begun now last : List ℕ) (p : Picture)
    → begun ≡ before ++ written s [] → p ≡ goes_on s es (drawn s []) → now ≡ begun ++ text_of s es (drawn s [])
    → last ≡ now ++ end_text p x → last ≡ before ++ page s (reverse es) x
page_of s es x before begun now last p eb ep en el =
    el ∙ ap (λ (t : List ℕ). t ++ end_text p x) (en ∙ ap (λ (t : List ℕ). t ++ text_of s es (drawn s [])) eb
    ∙ append_assoc before (written s []) (text_of s es (drawn s [])) ∙ ap (λ (t : List ℕ). before ++ t) (wrote s es))
    ∙ append_assoc before (written s (reverse es)) (end_text p x)
    ∙ ap (λ (q : Picture). before ++ (written s (reverse es) ++ end_text q x)) (ep ∙ passed s es)

-- the same where the entries that are left are none
pub page_ends : (s : Scenario) (es rest : List Entry) (x : Beside) (before begun now last : List ℕ) (p : Picture)
    → begun ≡ before ++ written s [] → length rest ≡ 0 → goes_on s rest p ≡ goes_on s es (drawn s [])
    → now ++ text_of s rest p ≡ begun ++ text_of s es (drawn s []) → last ≡ now ++ end_text p x
    → last ≡ before ++ page s (reverse es) x
page_ends s es [] x before begun now last p eb er ep en el =
    page_of s es x before begun now last p eb ep (sym (append-nil now) ∙ en) el
page_ends s es (e ∷ rest) x before begun now last p eb er ep en el = absurd (omega (arith, er))

-- one entry more in the pass
pub next_picture : (s : Scenario) (rest others : List Entry) (e : Entry) (p q end : Picture) → rest ≡ e ∷ others → q ≡ after s p e
    → goes_on s rest p ≡ end → goes_on s others q ≡ end
next_picture s rest others e p q end er eq h =
    ap (λ (x : Picture). goes_on s others x) eq ∙ ap (λ (r : List Entry). goes_on s r p) (sym er) ∙ h

pub next_text : (s : Scenario) (rest others : List Entry) (e : Entry) (p q : Picture) (now longer whole : List ℕ) → rest ≡ e ∷ others → q ≡ after s p e
    → longer ≡ now ++ entry_text s p e → now ++ text_of s rest p ≡ whole → longer ++ text_of s others q ≡ whole
next_text s rest others e p q now longer whole er eq el h =
    ap (λ (t : List ℕ). t ++ text_of s others q) el
    ∙ ap (λ (x : Picture). (now ++ entry_text s p e) ++ text_of s others x) eq
    ∙ append_assoc now (entry_text s p e) (text_of s others (after s p e))
    ∙ ap (λ (r : List Entry). now ++ text_of s r p) (sym er) ∙ h

pub next_count : (s : Scenario) (rest others : List Entry) (e : Entry) (p q : Picture) (n : ℕ) → rest ≡ e ∷ others → q ≡ after s p e
    → p.entries + length rest ≡ n → q.entries + length others ≡ n
next_count s rest others e p q n er eq h =
    let more : q.entries ≡ p.entries + 1 = ap (λ (x : Picture). x.entries) eq ∙ one_more s p e in
    let long : length rest ≡ suc (length others) = ap (λ (r : List Entry). length r) er in
    omega (arith, more, long, h)
