-- Texts of words in parts.
use Rattle.std.proofs.Common.{◌≡◌, ℕ, List, [], ◌∷◌, ◌++◌, map, All, refl, ap, sym, ◌∙◌, append_assoc, Result, Ok, Err, OnOk}
use Rattle.std.proofs.lemmas.List.Elements.{All-cons}
use Rattle.com_body.specs.declared.operands.Arg.{Arg}
use Rattle.com_print.specs.Spelled.{Spelled, more_text, words_text}
use Rattle.com_print.specs.Words.{arg_word}
use Rattle.com_print.specs.Ranges.{FitsArg}

-- words and more words behind them
pub both_texts : (a b : List Spelled) → more_text (a ++ b) ≡ more_text a ++ more_text b
both_texts [] b = refl
both_texts (w ∷ a) b =
    ap (λ (t : List ℕ). 32 ∷ (w.bytes ++ t)) (both_texts a b)
    ∙ ap (λ (t : List ℕ). 32 ∷ t) (sym (append_assoc w.bytes (more_text a) (more_text b)))

-- a line's words behind a text, and more words behind them
pub words_behind : (text longer : List ℕ) (w : Spelled) (ws more : List Spelled) → longer ≡ text ++ words_text (w ∷ ws)
    → longer ++ more_text more ≡ text ++ words_text (w ∷ (ws ++ more))
words_behind text longer w ws more h =
    ap (λ (t : List ℕ). t ++ more_text more) h
    ∙ append_assoc text (words_text (w ∷ ws)) (more_text more)
    ∙ ap (λ (t : List ℕ). text ++ t) (append_assoc w.bytes (more_text ws) (more_text more))
    ∙ ap (λ (t : List ℕ). text ++ (w.bytes ++ t)) (sym (both_texts ws more))

-- the line of a call, piece by piece
pub call_behind : (text first second third : List ℕ) (w slot target : Spelled) (given to : List Spelled) → first ≡ text ++ words_text (w ∷ slot ∷ [])
    → second ≡ first ++ more_text (target ∷ []) → third ≡ second ++ more_text given
    → third ++ more_text to ≡ text ++ words_text (w ∷ slot ∷ target ∷ (given ++ to))
call_behind text first second third w slot target given to a b c =
    words_behind text third w (slot ∷ target ∷ given) to (c ∙ words_behind text second w (slot ∷ target ∷ []) given (b ∙ words_behind text first w (slot ∷ []) (target ∷ []) a))

pub on_ok : {A E : Type 0} (r : Result A E) (P Q : Type 0) → OnOk r P → (P → Q) → OnOk r Q
on_ok (Ok x) P Q h f = f h
on_ok (Err e) P Q h f = tt

-- the first argument, and then the rest
pub args_in_two : (text longer : List ℕ) (a : Arg) (rest : List Arg) → longer ≡ text ++ more_text (arg_word a ∷ [])
    → longer ++ more_text (map arg_word rest) ≡ text ++ more_text (map arg_word (a ∷ rest))
args_in_two text longer a rest h =
    ap (λ (t : List ℕ). t ++ more_text (map arg_word rest)) h
    ∙ append_assoc text (more_text (arg_word a ∷ [])) (more_text (map arg_word rest))
    ∙ ap (λ (t : List ℕ). text ++ t) (sym (both_texts (arg_word a ∷ []) (map arg_word rest)))

pub fits_more : (a : Arg) (rest whole : List Arg) → (All FitsArg (a ∷ rest) → All FitsArg whole) → FitsArg a → All FitsArg rest → All FitsArg whole
fits_more a rest whole f one all = f (All-cons FitsArg a rest one all)
