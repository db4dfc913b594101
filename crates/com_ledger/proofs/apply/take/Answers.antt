use Rattle.std.proofs.Common.{◌≡◌, true, false, length, take, drop, ◌-◌, ◌++◌, List, refl, sym, ap, ◌∙◌, arith, length-drop}
use Rattle.std.proofs.lemmas.List.{take-append-drop}
use Rattle.com_reference_moves.specs.declared.moves.Move.{Move}
use Rattle.com_ledger.proofs.Exchanging.{whole_taken, exchanged_kept, exchanged_again}
use Rattle.com_refs_rows.specs.Moving.{plus}
use Rattle.com_ledger.proofs.Offered.{offered_rest}
use Rattle.com_refs_rows.proofs.Placed.{same_counts}
use Rattle.com_refs_rows.proofs.Unheld.{touches-more, touches-then}
use Rattle.com_ledger.proofs.apply.take.Goals as goal

pub gain_all-requires-clause-known : goal.gain_all-requires-clause-known
gain_all-requires-clause-known c =
    let brought = c.args.brought.now in
    let gained = c.args.gained.now in
    let behind = drop (length brought) gained in
    let rest = take (length gained - length brought) behind in
    let all : rest ≡ behind = whole_taken behind (length gained - length brought) (omega (arith, length-drop (length brought) gained)) in
    let whole : brought ++ rest ≡ gained =
    ap (λ (l : List Move). brought ++ l) all ∙ ap (λ (l : List Move). l ++ behind) (sym (c.if-stands_first.ensures.first refl)) ∙ take-append-drop (length brought) gained in
    offered_rest c.args.refs.now brought rest gained whole c.requires.known

pub returns-then-stands_first-clause-exchanged : goal.returns-then-stands_first-clause-exchanged
returns-then-stands_first-clause-exchanged c =
    let brought = c.args.brought.now in
    let gained = c.args.gained.now in
    let behind = drop (length brought) gained in
    let rest = take (length gained - length brought) behind in
    let all : rest ≡ behind = whole_taken behind (length gained - length brought) (omega (arith, length-drop (length brought) gained)) in
    let whole : brought ++ rest ≡ gained =
    ap (λ (l : List Move). brought ++ l) all ∙ ap (λ (l : List Move). l ++ behind) (sym (c.if-stands_first.ensures.first refl)) ∙ take-append-drop (length brought) gained in
    exchanged_kept brought rest gained c.args.refs.now c.gain_all.new.refs whole c.gain_all.ensures.objects c.gain_all.ensures.books c.gain_all.ensures.places

pub returns-clause-exchanged : goal.returns-clause-exchanged
returns-clause-exchanged c =
    exchanged_again c.args.brought.now c.args.gained.now c.args.refs.now c.gain_all-2.new.refs c.lose_all.new.refs
    (λ e. let no : false ≡ true = c.if-stands_first.ensures.none e in cc)
    c.gain_all-2.ensures.objects c.lose_all.ensures.objects c.gain_all-2.ensures.books c.gain_all-2.ensures.places c.lose_all.ensures.ended

pub returns-then-stands_first-clause-touched : goal.returns-then-stands_first-clause-touched
returns-then-stands_first-clause-touched c = λ n places bs gs counts. touches-more c.args.refs.now c.gain_all.new.refs c.args.touched.now.items c.gain_all.ensures.more

pub returns-clause-touched : goal.returns-clause-touched
returns-clause-touched c = λ n places bs gs counts.
    let t = c.args.refs.now in
    let v = c.gain_all-2.new.refs in
    let xs = c.args.touched.now.items in
    let brought = c.args.brought.now in
    let gained = c.args.gained.now in
    touches-then t v c.lose_all.new.refs xs xs c.lose_all.new.touched.items (touches-more t v xs c.gain_all-2.ensures.more)
    (c.lose_all.ensures.touched n (plus places gained) bs
    (same_counts n (plus (plus places brought) gained) (plus (plus places gained) brought) v (λ y x. omega arith) (c.gain_all-2.ensures.places n (plus places brought) gs counts)))

pub returns-clause-offers : goal.returns-clause-offers
returns-clause-offers c = λ x j. c.lose_all.ensures.offers x j ∙ c.gain_all-2.ensures.offers x j
