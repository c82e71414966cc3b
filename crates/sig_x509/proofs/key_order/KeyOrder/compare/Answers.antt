-- Rank and copy compare as the trust anchor does.
use Rattle.std.proofs.Common.{◌≡◌, ℕ, List, Some, slice_get, refl, ap, ◌∙◌, arith}
use Rattle.std.specs.List.{slice_range}
use Rattle.std.specs.Ordering.{nat_cmp, ordering_then}
use Rattle.std.proofs.lemmas.List.{length-map}
use Rattle.std.proofs.lemmas.Option.{slice_get_read}
use Rattle.sig_x509.specs.KeyOrder.{key_order, subject_in, wanted_signer}
use Rattle.sig_x509.specs.declared.key_order.KeyPlace.{KeyPlace}
use Rattle.sig_x509.proofs.KeyCopies.{copy_compares}
use Rattle.sig_x509.proofs.key_order.KeyOrder.compare.Goals as goal

pub returns : goal.returns
returns c =
    let held : KeyPlace = c.index-held.result.now in
    let size = length-map c.args.self.now.places.items (λ (place : KeyPlace). place.index) in
    let there : slice_get c.args.self.now.places.items c.args.place ≡ Some held =
    slice_get_read c.args.self.now.places.items _ c.args.place held refl (omega (arith, size, c.requires.within))
    c.index-held.ensures in
    c.compare_place.ensures
    ∙ ap (λ (bytes : List ℕ). ordering_then (nat_cmp held.rank c.args.wanted.now.rank) (key_order (
      subject_in (slice_get c.args.anchors.now held.index),
      slice_range bytes held.start held.end,
    ) (wanted_signer c.args.wanted.now))) c.deref.ensures.value
    ∙ copy_compares c.args.self.now c.args.place held there c.args.anchors.now c.requires.holds c.args.wanted.now
    c.requires.ranked
