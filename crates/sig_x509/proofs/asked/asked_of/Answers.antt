use Rattle.std.proofs.Common.{◌≡◌, Some, slice_get, refl, sym, ◌∙◌}
use Rattle.std.proofs.lemmas.Bool.{not-true, not-false}
use Rattle.std.proofs.lemmas.Option.{slice_get_read}
use Rattle.sig_x509.proofs.AskedAnchors.{none_so_far, all_asked, one_more_asked, no_more_asked}
use Rattle.sig_x509.proofs.asked.asked_of.Goals as goal
use Rattle.sig_x509.proofs.asked.asked_of.Goals.{then-branch+in_ok-push, else-branch}

pub anchors-init : goal.anchors-init
anchors-init c = none_so_far c.args.anchors.now _ _ c.new-seen.ensures.empty c.new-asked.ensures.items

pub anchors-preserved : goal.anchors-preserved
anchors-preserved c =
    let there : slice_get c.args.anchors.now c.anchors.index ≡ Some c.index-anchors-index.result =
    slice_get_read c.args.anchors.now _ c.anchors.index c.index-anchors-index.result refl c.anchors-test.true
    c.index-anchors-index.is in
    elim c.if-branch.branch [
      | then-branch+in_ok-push w ↦
          one_more_asked c.args.anchors.now c.anchors.index c.index-anchors-index.result there
          (c.subject.result, c.spki.result) c.subject.ensures c.spki.ensures c.anchors.seen c.anchors.asked.items
          c.anchors.invariant c.insert.new.self c.in_ok-insert.ensures.updates c.if-branch.asked.items
          (rw w.asked-is w.in_ok-push.ensures.items)
          (not-true _ (sym c.in_ok-insert.ensures.added ∙ w.if-branch.true))
      | else-branch w ↦
          rw w.asked-is
          (no_more_asked c.args.anchors.now c.anchors.index c.index-anchors-index.result there
          (c.subject.result, c.spki.result) c.subject.ensures c.spki.ensures c.anchors.seen c.anchors.asked.items
          c.anchors.invariant c.insert.new.self c.in_ok-insert.ensures.updates
          (not-false _ (sym c.in_ok-insert.ensures.added ∙ w.if-branch.false)))
    ]

pub returns : goal.returns
returns c = all_asked c.args.anchors.now c.anchors.index c.anchors.seen _ c.anchors-test.false c.anchors.invariant
