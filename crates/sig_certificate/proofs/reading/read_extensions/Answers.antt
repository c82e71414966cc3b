use Rattle.std.proofs.Common.{inr, Option, ◌≡◌, ℕ, ◌<◌, ◌∷◌, [], List, length, map, sym, ap, subst, ◌∙◌, arith}
use Rattle.std.proofs.lemmas.Bool.{eqb-true, eqb-false}
use Rattle.std.proofs.lemmas.List.{nil_from_length, map-append}
use Rattle.std.proofs.lemmas.List.Elements.{All-push}
use Rattle.std.proofs.lemmas.List.Quantifiers.{all_pairs_push}
use Rattle.sig_base.proofs.OptionSteps.{some}
use Rattle.sig_der.specs.Readers.{left}
use Rattle.sig_der.proofs.ElementLists.{goes_on, ends_list, fails_list}
use Rattle.sig_certificate.specs.declared.extensions.ExtensionPlaces.{ExtensionPlaces}
use Rattle.sig_certificate.specs.Answers.{or_der}
use Rattle.sig_certificate.specs.Certificate.{Extension}
use Rattle.sig_certificate.specs.Cutting.{extension_at}
use Rattle.sig_certificate.specs.Places.{extension_of, extension_read, AreSpans}
use Rattle.sig_certificate.proofs.ExtensionLaws.{extension_at_shrinks}
use Rattle.sig_certificate.proofs.reading.read_extensions.Goals as goal

pub returns-in-None-clause-exact : goal.returns-in-None-clause-exact
returns-in-None-clause-exact c =
    let rest = left c.loop-rest.rest in
    let more = eqb-false (length rest) 0 (sym c.is_done.ensures ∙ c.loop-rest-test.true) in
    inr (ap (λ (o : Option (List Extension)). or_der o)
    (fails_list extension_at _ rest _
    (λ none. more (ap (λ (w : List ℕ). length w) none)) c.in-None.ensures.cut c.loop-rest.invariant.all))

pub loop-rest-preserved : goal.loop-rest-preserved
loop-rest-preserved c =
    let bytes = c.args.reader.bytes.now in
    let rest = c.loop-rest.rest in
    let e = c.in-Some.extension in
    let after = c.in-Some.after in
    let found = c.loop-rest.found.items in
    let starts : e.whole.start ≡ rest.at = c.in-Some.ensures.starts in
    let later : rest.at < e.whole.end = c.in-Some.ensures.after in
    let next : after.at ≡ e.whole.end = c.in-Some.ensures.next.starts in
    record {
      buffer = c.in-Some.ensures.next.buffer ∙ c.loop-rest.invariant.buffer;
      ends = c.in-Some.ensures.next.ends ∙ c.loop-rest.invariant.ends;
      all = rw (c.in_ok-push-in-Some.ensures.items, map-append (extension_of bytes) found (e ∷ []))
          (goes_on extension_at extension_at_shrinks (map (extension_of bytes) found) (left rest)
          (extension_read bytes (e, after))
          (subst (λ (w : List ℕ). extension_at (left rest) ≡ some (extension_read w (e, after)))
          c.loop-rest.invariant.buffer c.in-Some.ensures.cut)
          ∙ c.loop-rest.invariant.all);
      within = rw c.in_ok-push-in-Some.ensures.items
          (All-push (AreSpans c.args.reader.end) found e c.loop-rest.invariant.within
          (subst (λ (n : ℕ). AreSpans n e) c.loop-rest.invariant.ends c.in-Some.ensures.within));
      before = rw c.in_ok-push-in-Some.ensures.items
          (All-push (λ (f : ExtensionPlaces). f.whole.start < after.at) found e
          (λ k d below. omega (arith, c.loop-rest.invariant.before k d below, later, next))
          (omega (arith, starts, later, next)));
      ascend = rw c.in_ok-push-in-Some.ensures.items
          (all_pairs_push (λ (d f : ExtensionPlaces). d.whole.start < f.whole.start) found e
          c.loop-rest.invariant.ascend
          (λ k d below. omega (arith, c.loop-rest.invariant.before k d below, starts)));
    }

pub returns-clause-exact : goal.returns-clause-exact
returns-clause-exact c =
    let rest = left c.loop-rest.rest in
    ap (λ (o : Option (List Extension)). or_der o)
    (ends_list extension_at (map (extension_of c.args.reader.bytes.now) c.loop-rest.found.items) rest _
    (nil_from_length rest (eqb-true (length rest) 0 (sym c.is_done.ensures ∙ c.loop-rest-test.false)))
    c.loop-rest.invariant.all)
