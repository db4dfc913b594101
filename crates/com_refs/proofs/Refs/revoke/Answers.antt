use Rattle.std.proofs.Common.{◌≡◌, Bool, cond, true, refl, sym, ap, ◌∙◌, arith, take, drop, length, ◌++◌}
use Rattle.std.proofs.lemmas.Grind.{common_steps}
use Rattle.com_refs_books.specs.Changes.{Books}
use Rattle.com_refs_books.specs.Ends.{ends}
use Rattle.com_refs_holders.specs.Tables.{books_of}
use Rattle.std.specs.Prelude.{Some, None}
use Rattle.com_refs.specs.Counts.{hold_of, hold_less, unheld}
use Rattle.com_refs.proofs.Counteds.{settled_ends, settled_stands, less_length}
use Rattle.com_refs.proofs.Losses.{settled_unheld}
use Rattle.com_refs.proofs.Moved.{tells_same}
use Rattle.com_refs.proofs.Steps.{revoked, revoke_row}
use Rattle.com_refs.proofs.Refs.revoke.Goals as goal

pub invariant_of-self-2 : goal.invariant_of-self-2
invariant_of-self-2 c =
    let t = c.self.inside.holders in
    let o = c.in-Ok.held.object in
    let e : c.lose_hold.new.holds ≡ hold_less o (true) c.self.inside.holds.items = rw c.deref_mut.ensures.value at c.lose_hold.ensures in
    let len : length c.lose_hold.new.holds ≡ length c.self.inside.holds.items = ap (λ xs. length xs) e ∙ less_length o (true) c.self.inside.holds.items in
    let whole : take c.self.inside.holds.len (c.lose_hold.new.holds ++ drop (length c.lose_hold.new.holds) c.self.inside.holds.items) ≡ c.lose_hold.new.holds = grind (arith, common_steps, len) in
    let left : c.hold_at-left.result ≡ hold_of (hold_less o (true) c.self.inside.holds.items) o = c.hold_at-left.ensures ∙ ap (λ xs. hold_of xs o) (c.deref.ensures.value ∙ whole ∙ e) in
    let but = revoked t c.revoke.new.self c.self.inside.holds.items c.args.cookie c.in-Ok.held c.self.invariant.counts c.in-Ok.ensures.held c.in-Ok.ensures.books c.in-Ok.ensures.places c.revoke.ensures.issued in
    let books = rw left at c.settle-is_lost.ensures.books in
    record {
      counts = rw (whole, e) (settled_stands c.revoke.new.self o (hold_less o (true) c.self.inside.holds.items) but c.settle-is_lost.new.holders _ c.settle-is_lost.ensures.objects c.settle-is_lost.ensures.proxies c.settle-is_lost.ensures.issued refl books);
      room = omega (arith, c.self.invariant.room, c.settle-is_lost.ensures.spare, c.revoke.ensures.spare);
    }

pub returns-clause-books : goal.returns-clause-books
returns-clause-books c =
    let t = c.self.inside.holders in
    let o = c.in-Ok.held.object in
    let e : c.lose_hold.new.holds ≡ hold_less o (true) c.self.inside.holds.items = rw c.deref_mut.ensures.value at c.lose_hold.ensures in
    let len : length c.lose_hold.new.holds ≡ length c.self.inside.holds.items = ap (λ xs. length xs) e ∙ less_length o (true) c.self.inside.holds.items in
    let whole : take c.self.inside.holds.len (c.lose_hold.new.holds ++ drop (length c.lose_hold.new.holds) c.self.inside.holds.items) ≡ c.lose_hold.new.holds = grind (arith, common_steps, len) in
    let left : c.hold_at-left.result ≡ hold_of (hold_less o (true) c.self.inside.holds.items) o = c.hold_at-left.ensures ∙ ap (λ xs. hold_of xs o) (c.deref.ensures.value ∙ whole ∙ e) in
    let but = revoked t c.revoke.new.self c.self.inside.holds.items c.args.cookie c.in-Ok.held c.self.invariant.counts c.in-Ok.ensures.held c.in-Ok.ensures.books c.in-Ok.ensures.places c.revoke.ensures.issued in
    let books = rw left at c.settle-is_lost.ensures.books in
    λ n places tells totals. rw (← c.self.view_is)
    (settled_ends c.revoke.new.self o (hold_less o (true) c.self.inside.holds.items) but c.settle-is_lost.new.holders n places (books_of c.revoke.new.self) c.settle-is_lost.ensures.objects c.settle-is_lost.ensures.proxies
    (sym (c.gives_nothing.ensures n places (tells_same n places c.settle-is_lost.new.holders c.revoke.new.self c.settle-is_lost.ensures.objects c.settle-is_lost.ensures.proxies tells))) totals books
    ∙ ap (λ (b : Books). ends n places b) (c.in-Ok.ensures.books ∙ sym (revoke_row t c.args.cookie)))

pub returns-clause-lost : goal.returns-clause-lost
returns-clause-lost c =
    let t = c.self.inside.holders in
    let o = c.in-Ok.held.object in
    let e : c.lose_hold.new.holds ≡ hold_less o (true) c.self.inside.holds.items = rw c.deref_mut.ensures.value at c.lose_hold.ensures in
    let len : length c.lose_hold.new.holds ≡ length c.self.inside.holds.items = ap (λ xs. length xs) e ∙ less_length o (true) c.self.inside.holds.items in
    let whole : take c.self.inside.holds.len (c.lose_hold.new.holds ++ drop (length c.lose_hold.new.holds) c.self.inside.holds.items) ≡ c.lose_hold.new.holds = grind (arith, common_steps, len) in
    let left : c.hold_at-left.result ≡ hold_of (hold_less o (true) c.self.inside.holds.items) o = c.hold_at-left.ensures ∙ ap (λ xs. hold_of xs o) (c.deref.ensures.value ∙ whole ∙ e) in
    let but = revoked t c.revoke.new.self c.self.inside.holds.items c.args.cookie c.in-Ok.held c.self.invariant.counts c.in-Ok.ensures.held c.in-Ok.ensures.books c.in-Ok.ensures.places c.revoke.ensures.issued in
    let flag = settled_unheld c.revoke.new.self c.settle-is_lost.new.holders o (hold_less o (true) c.self.inside.holds.items) but c.settle-is_lost.ensures.objects c.settle-is_lost.ensures.proxies _ (rw left at c.settle-is_lost.ensures.books) (rw left at c.settle-is_lost.ensures.lost) in
    let answer : c.if_lost.result ≡ unheld c.settle-is_lost.new.holders o = c.if_lost.ensures ∙ ap (λ (b : Bool). cond b (Some o) None) flag in
    rw (← c.self.view_is, c.in-Ok.ensures.held) answer
