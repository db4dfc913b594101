use Rattle.std.proofs.Common.{◌≡◌, ℕ, Option, Some, None, sym, ap, ◌∙◌}
use Rattle.com_base.specs.declared.hresult.HResult.{HResult}
use Rattle.com_base.specs.declared.value.RefValue.{RefValue}
use Rattle.com_model.specs.Deeds.{hold_refusal, marshalled}
use Rattle.com_view.specs.Seen.{sight_by, home_seen}
use Rattle.com_rules.proofs.Says.{says_all}
use Rattle.com_rules.proofs.Chains.{live_held}
use Rattle.com_rules.proofs.making.marshalled_packet.Goals as goal

pub returns-in-Some : goal.returns-in-Some
returns-in-Some g c = λ buffer.
    let b = g.B.References.books c.args.books.now in
    let w = c.args.view.now in
    let v = sight_by w b in
    let x = c.is_connected-is_live.result in
    let refused : c.hold_refusal.result ≡ hold_refusal v c.home.result c.args.held = c.hold_refusal.ensures v (λ r e. says_all b c.args.held x c.is_connected-is_live.ensures r e) in
    let so : hold_refusal v (home_seen w c.args.lane) c.args.held ≡ Some c.in-Some.hr =
    let is = c.in-Some.is in
    sym (ap (λ (h : Option ℕ). hold_refusal v h c.args.held) c.home.ensures) ∙ sym refused ∙ is in
    c.refused_marshal_deed.ensures w.scenario v c.args.lane
    ∙ ap (λ (r : Option HResult). marshalled w.scenario v c.args.lane c.args.mode c.args.held r) (sym so)

pub marshalled_now-requires-clause-live : goal.marshalled_now-requires-clause-live
marshalled_now-requires-clause-live g c =
    let b = g.B.References.books c.args.books.now in
    let v = sight_by c.args.view.now b in
    let x = c.is_connected-is_live.result in
    let refused : c.hold_refusal.result ≡ hold_refusal v c.home.result c.args.held = c.hold_refusal.ensures v (λ r e. says_all b c.args.held x c.is_connected-is_live.ensures r e) in
    let so : hold_refusal v c.home.result (Some c.in-Some-held.held) ≡ None =
    sym (refused ∙ ap (λ (r : Option RefValue). hold_refusal v c.home.result r) c.in-Some-held.is) ∙ c.in_default.is in
    live_held v c.home.result c.in-Some-held.held so
