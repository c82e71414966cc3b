use Rattle.std.proofs.Common.{◌≡◌, Some, slice_get, refl}
use Rattle.std.proofs.lemmas.Option.{slice_get_read}
use Rattle.sig_x509.proofs.NamedAnchors.{index_begun, index_more}
use Rattle.sig_x509.proofs.trust_anchors.index_of.Goals as goal

pub anchors-init : goal.anchors-init
anchors-init c = index_begun c.args.anchors.now c.new-by_name.result c.new-by_name.ensures.empty

pub anchors-preserved : goal.anchors-preserved
anchors-preserved c =
    let there : slice_get c.args.anchors.now c.anchors.place ≡ Some c.index-anchors-place.result =
    slice_get_read c.args.anchors.now _ c.anchors.place c.index-anchors-place.result refl c.anchors-test.true
    c.index-anchors-place.is in
    index_more c.args.anchors.now c.anchors.place c.anchors.by_name c.add_place.new.by_name c.index-anchors-place.result
    c.subject.result.now there c.subject.ensures c.anchors.invariant c.in_ok-add_place.ensures
