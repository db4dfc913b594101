use Rattle.std.proofs.Common.{length}
use Rattle.std.proofs.lemmas.Result.{on_ok_weaker}
use Rattle.com_refs_rows.proofs.Fitting.{class_making, iface_making, made_next, offers_none, offers_one, owned_making, small_interface}
use Rattle.com_refs_rows.proofs.entries.enter_made.Goals as goal

pub unreachable-requires : goal.unreachable-requires
unreachable-requires c = owned_making c.args.classes.now (length c.args.refs.now.objects) c.args.activation.now.object c.args.activation.now.owner c.args.activation.now.class c.args.activation.now.iface _ c.in-Some.is c.in_default-owner.not-Some c.requires.making

pub unreachable-requires-in_default-class : goal.unreachable-requires-in_default-class
unreachable-requires-in_default-class c = class_making c.args.classes.now (length c.args.refs.now.objects) c.args.activation.now.object c.args.activation.now.owner c.args.activation.now.class c.args.activation.now.iface _ c.in-Some.is c.in_default-class.not-Number c.requires.making

pub unreachable-requires-in_default-iface : goal.unreachable-requires-in_default-iface
unreachable-requires-in_default-iface c = iface_making c.args.classes.now (length c.args.refs.now.objects) c.args.activation.now.object c.args.activation.now.owner c.args.activation.now.class c.args.activation.now.iface _ c.in-Some.is c.in_default-iface.not-Number c.requires.making

pub reference-held-requires : goal.reference-held-requires
reference-held-requires c = small_interface c.args.activation.now.object c.args.activation.now.iface _ _ c.in-Some.is c.in-Number-iface.is c.requires.iface

pub make-requires-clause-made : goal.make-requires-clause-made
make-requires-clause-made c =
    made_next c.args.classes.now (length c.args.refs.now.objects) c.args.activation.now.object c.args.activation.now.owner c.args.activation.now.class c.args.activation.now.iface _ _ _ _ _ c.in-Some.is c.in-Some-owner.is c.in-Number.is c.in-Number-iface.is c.requires.making c.reference-held.ensures

pub returns-in_default-clause-offers : goal.returns-in_default-clause-offers
returns-in_default-clause-offers c = λ hr. offers_none c.args.classes.now c.args.activation.now.object c.args.activation.now.owner c.args.activation.now.class c.args.activation.now.iface hr c.args.refs.now c.in_default.not-Some

pub returns-clause-offers : goal.returns-clause-offers
returns-clause-offers c = on_ok_weaker c.make.result (λ m. λ hr.
    offers_one c.args.classes.now c.args.activation.now.object c.args.activation.now.owner c.args.activation.now.class c.args.activation.now.iface hr _ _ _ _ c.reference-held.result c.args.refs.now c.make.new.refs c.in-Some.is c.in-Some-owner.is c.in-Number.is c.in-Number-iface.is c.reference-held.ensures m)
    c.make.ensures.offers
