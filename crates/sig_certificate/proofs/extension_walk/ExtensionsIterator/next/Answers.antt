-- The ranges of the extensions that are left are in the bytes.
use Rattle.std.proofs.Common.{length, List, subst}
use Rattle.std.specs.List.{All}
use Rattle.std.proofs.lemmas.List.Elements.{All-tail}
use Rattle.sig_certificate.specs.Places.{AreSpans}
use Rattle.sig_certificate.specs.declared.extensions.ExtensionPlaces.{ExtensionPlaces}
use Rattle.sig_certificate.proofs.extension_walk.ExtensionsIterator.next.Goals as goal

pub invariant_of-self : goal.invariant_of-self
invariant_of-self c =
    let end = length c.args.self.now.bytes.now in
    record {
      within = All-tail (AreSpans end) c.in_ok-first.first.now c.in_ok-first.rest.now
          (subst (λ (l : List ExtensionPlaces). All (AreSpans end) l) c.in_ok-first.ensures.cases.0
          c.args.self.now.within);
    }
