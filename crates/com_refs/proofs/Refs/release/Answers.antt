use mathlib.Core.Path.{fun_ext}
use Rattle.std.proofs.Common.{◌≡◌, not, refl, ap, ◌∙◌, arith, take, drop, length, ◌++◌}
use Rattle.std.proofs.lemmas.Grind.{common_steps}
use Rattle.com_refs_holders.specs.Tables.{owns_of}
use Rattle.com_refs.specs.Counts.{hold_of, hold_less}
use Rattle.com_refs.proofs.Counteds.{settled_ends, settled_stands, less_length}
use Rattle.com_refs.proofs.Losses.{settled_lost}
use Rattle.com_refs.proofs.Moved.{tells_same, less_same}
use Rattle.com_refs.proofs.Steps.{released}
use Rattle.com_refs.proofs.Refs.release.Goals as goal

pub invariant_of-self : goal.invariant_of-self
invariant_of-self c =
    let o = c.args.held.object in
    let a = c.args.apartment in
    let t = c.self.inside.holders in
    let w = owns_of t.objects o a in
    let e : c.lose_hold.new.holds ≡ hold_less o (not w) c.self.inside.holds.items = rw (c.owns-is_owned.ensures, c.deref_mut.ensures.value) at c.lose_hold.ensures in
    let len : length c.lose_hold.new.holds ≡ length c.self.inside.holds.items = ap (λ xs. length xs) e ∙ less_length o (not w) c.self.inside.holds.items in
    let whole : take c.self.inside.holds.len (c.lose_hold.new.holds ++ drop (length c.lose_hold.new.holds) c.self.inside.holds.items) ≡ c.lose_hold.new.holds = grind (arith, common_steps, len) in
    let left : c.hold_at-left.result ≡ hold_of (hold_less o (not w) c.self.inside.holds.items) o = c.hold_at-left.ensures ∙ ap (λ xs. hold_of xs o) (c.deref.ensures.value ∙ whole ∙ e) in
    let but = released t c.release.new.self c.self.inside.holds.items a o w c.self.invariant.counts c.release.ensures.places (fun_ext c.release.ensures.connected) c.release.ensures.packets c.release.ensures.cookies c.release.ensures.issued in
    let books = rw left at c.settle.ensures.books in
    record {
      counts = rw (whole, e) (settled_stands c.release.new.self o (hold_less o (not w) c.self.inside.holds.items) but c.settle.new.holders _ c.settle.ensures.objects c.settle.ensures.proxies c.settle.ensures.issued refl books);
      room = omega (arith, c.self.invariant.room, c.settle.ensures.spare, c.release.ensures.spare);
    }

pub returns-clause-books : goal.returns-clause-books
returns-clause-books c =
    let o = c.args.held.object in
    let a = c.args.apartment in
    let t = c.self.inside.holders in
    let w = owns_of t.objects o a in
    let e : c.lose_hold.new.holds ≡ hold_less o (not w) c.self.inside.holds.items = rw (c.owns-is_owned.ensures, c.deref_mut.ensures.value) at c.lose_hold.ensures in
    let len : length c.lose_hold.new.holds ≡ length c.self.inside.holds.items = ap (λ xs. length xs) e ∙ less_length o (not w) c.self.inside.holds.items in
    let whole : take c.self.inside.holds.len (c.lose_hold.new.holds ++ drop (length c.lose_hold.new.holds) c.self.inside.holds.items) ≡ c.lose_hold.new.holds = grind (arith, common_steps, len) in
    let left : c.hold_at-left.result ≡ hold_of (hold_less o (not w) c.self.inside.holds.items) o = c.hold_at-left.ensures ∙ ap (λ xs. hold_of xs o) (c.deref.ensures.value ∙ whole ∙ e) in
    let but = released t c.release.new.self c.self.inside.holds.items a o w c.self.invariant.counts c.release.ensures.places (fun_ext c.release.ensures.connected) c.release.ensures.packets c.release.ensures.cookies c.release.ensures.issued in
    let books = rw left at c.settle.ensures.books in
    λ n places h tells totals. rw (← c.self.view_is)
    (settled_ends c.release.new.self o (hold_less o (not w) c.self.inside.holds.items) but c.settle.new.holders n places _ c.settle.ensures.objects c.settle.ensures.proxies
    (c.release.ensures.given n places h (tells_same n places c.settle.new.holders c.release.new.self c.settle.ensures.objects c.settle.ensures.proxies tells)) totals books)

pub returns-clause-places : goal.returns-clause-places
returns-clause-places c = rw (← c.self.view_is) (less_same _ _ _ c.args.apartment c.args.held.object _ c.settle.ensures.objects c.settle.ensures.proxies c.release.ensures.places)

pub returns-clause-lost : goal.returns-clause-lost
returns-clause-lost c =
    let o = c.args.held.object in
    let a = c.args.apartment in
    let t = c.self.inside.holders in
    let w = owns_of t.objects o a in
    let e : c.lose_hold.new.holds ≡ hold_less o (not w) c.self.inside.holds.items = rw (c.owns-is_owned.ensures, c.deref_mut.ensures.value) at c.lose_hold.ensures in
    let len : length c.lose_hold.new.holds ≡ length c.self.inside.holds.items = ap (λ xs. length xs) e ∙ less_length o (not w) c.self.inside.holds.items in
    let whole : take c.self.inside.holds.len (c.lose_hold.new.holds ++ drop (length c.lose_hold.new.holds) c.self.inside.holds.items) ≡ c.lose_hold.new.holds = grind (arith, common_steps, len) in
    let left : c.hold_at-left.result ≡ hold_of (hold_less o (not w) c.self.inside.holds.items) o = c.hold_at-left.ensures ∙ ap (λ xs. hold_of xs o) (c.deref.ensures.value ∙ whole ∙ e) in
    let but = released t c.release.new.self c.self.inside.holds.items a o w c.self.invariant.counts c.release.ensures.places (fun_ext c.release.ensures.connected) c.release.ensures.packets c.release.ensures.cookies c.release.ensures.issued in
    settled_lost c.release.new.self c.settle.new.holders o (hold_less o (not w) c.self.inside.holds.items) but c.settle.ensures.objects c.settle.ensures.proxies _ (rw left at c.settle.ensures.books) (rw left at c.settle.ensures.lost)
