use Rattle.std.proofs.Common.{◌≡◌, ℕ, ◌+◌, true, [], ◌∷◌, ◌++◌, length, slice_index_or, vec_len, refl, ap, sym, subst, ◌<◌, ◌^◌, ◌∙◌, arith}
use Rattle.com_base.specs.declared.standard.StdFields.{StdFields}
use Rattle.com_base.specs.declared.value.MarshalMode.TheVariants as marshal
use Rattle.com_refs_books.specs.Changes.{new_packet, no_books}
use Rattle.com_model.specs.Deeds.{packet_fields}
use Rattle.com_view.specs.Seen.{bare}
use Rattle.com_rules.proofs.making.append_field.Goals as goal

pub returns : goal.returns
returns c =
    let w = c.args.view.now in
    let x = c.args.row.now in
    let fs = c.args.fields.now.items in
    let rs = c.args.refs.now in
    let connected : x.is_connected ≡ true = grind (arith, c.if-not-row.false) in
    let size : vec_len c.args.fields.now ≡ length fs = omega (arith, c.args.fields.now.ok.0) in
    let refs : c.refs_at-refs.result ≡ slice_index_or rs (length fs) 0 = c.refs_at-refs.ensures ∙ ap (λ (k : ℕ). slice_index_or rs k 0) (c.len-2.ensures ∙ size) in
    let number : c.number_after-number.result ≡ c.args.made + 1 + length fs = c.number_after-number.ensures ∙ ap (λ (k : ℕ). c.args.made + 1 + k) (c.len.ensures ∙ size) in
    let one : c.fields_as.result ≡ packet_fields w.scenario (bare w) (new_packet marshal.Normal x.object x.iface (slice_index_or rs (length fs) 0)) (c.args.made + 1 + length fs) =
    c.fields_as.ensures no_books
    ∙ ap (λ (k : ℕ). packet_fields w.scenario (bare w) (new_packet marshal.Normal x.object x.iface k) c.number_after-number.result) refs
    ∙ ap (λ (n : ℕ). packet_fields w.scenario (bare w) (new_packet marshal.Normal x.object x.iface (slice_index_or rs (length fs) 0)) n) number in
    let items : c.push.new.self.items ≡ fs ++ c.fields_as.result ∷ [] = c.in_ok-push.ensures.items in
    items ∙ ap (λ (f : StdFields). fs ++ f ∷ []) one ∙ (rw connected refl)

pub number_after-number-requires : goal.number_after-number-requires
number_after-number-requires c =
    let size : vec_len c.args.fields.now ≡ length c.args.fields.now.items = omega (arith, c.args.fields.now.ok.0) in
    subst (λ (k : ℕ). c.args.made + 1 + k < 2 ^ 32) (sym (c.len.ensures ∙ size)) c.requires
