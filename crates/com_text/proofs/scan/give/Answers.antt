use Rattle.std.proofs.Common.{◌+◌, List, ◌++◌, ◌∷◌, [], refl, ap, ◌∙◌, sym}
use Rattle.std.specs.Prelude.{slice_index}
use Rattle.com_text.specs.declared.word.Sort.TheVariants as sorts
use Rattle.com_text.specs.declared.word.Kind.{Kind}
use Rattle.com_text.specs.declared.word.Kind.TheVariants as kinds
use Rattle.com_text.specs.declared.scan.Class.{Class}
use Rattle.com_text.specs.declared.scan.Within.{Within}
use Rattle.com_text.specs.declared.scan.Within.TheVariants as within
use Rattle.com_text.specs.Words.{WordAt}
use Rattle.com_text.specs.Scanning.{seen, gave_by}
use Rattle.com_text.specs.Kept.{word_to}
use Rattle.com_text.proofs.Keeps.{literal_kept}
use Rattle.com_text.proofs.scan.give.Goals as goal

pub returns-in_ok-push-in-Text : goal.returns-in_ok-push-in-Text
returns-in_ok-push-in-Text c =
    let text = c.args.text.now in
    let s = c.args.s.now in
    let b = slice_index text c.args.at in
    let word = c.word_to.ensures ∙ ap (λ (k : Kind). word_to text s (c.args.at + 1) k) c.kind_of.ensures ∙ literal_kept text c.args.at s c.args.class kinds.Text sorts.Text c.requires.kept c.requires.at c.requires.class c.requires.inner refl in
    let given = ap (λ (w : Within). gave_by (seen text c.args.at s) b w c.args.class) c.in-Text.is ∙ ap (λ (x : Class). gave_by (seen text c.args.at s) b within.Text x) c.in-Quote.is in
    c.in_ok-push-in-Text.ensures.items ∙ ap (λ (w : WordAt). c.args.out.now.items ++ w ∷ []) word ∙ sym (ap (λ (ws : List WordAt). c.args.out.now.items ++ ws) given)

pub returns-in_ok-push-in-Bytes : goal.returns-in_ok-push-in-Bytes
returns-in_ok-push-in-Bytes c =
    let text = c.args.text.now in
    let s = c.args.s.now in
    let b = slice_index text c.args.at in
    let word = c.word_to-in-Bytes.ensures ∙ ap (λ (k : Kind). word_to text s (c.args.at + 1) k) c.kind_of-in-Bytes.ensures ∙ literal_kept text c.args.at s c.args.class kinds.Bytes sorts.Bytes c.requires.kept c.requires.at c.requires.class c.requires.inner refl in
    let given = ap (λ (w : Within). gave_by (seen text c.args.at s) b w c.args.class) c.in-Bytes.is ∙ ap (λ (x : Class). gave_by (seen text c.args.at s) b within.Bytes x) c.in-Quote.is in
    c.in_ok-push-in-Bytes.ensures.items ∙ ap (λ (w : WordAt). c.args.out.now.items ++ w ∷ []) word ∙ sym (ap (λ (ws : List WordAt). c.args.out.now.items ++ ws) given)
