-- What is known of an equal certificate holds of this one; else the first trust anchor that signed it is sought.
use Rattle.std.proofs.Common.{ℕ, Option, refl, sym, ap, ◌∙◌}
use Rattle.std.specs.Prelude.{is_some}
use Rattle.std.proofs.lemmas.Option.{slice_get_read}
use Rattle.sig_x509.specs.Candidates.{all_seen}
use Rattle.sig_x509.specs.Issuance.{is_signed_by}
use Rattle.sig_x509.proofs.Elements.{some_position}
use Rattle.sig_x509.proofs.RootedLaws.{asked_alike}
use Rattle.sig_x509.proofs.links.is_rooted.Goals as goal

pub returns-then-asks_alike-clause-rooted : goal.returns-then-asks_alike-clause-rooted
returns-then-asks_alike-clause-rooted g c =
    asked_alike (g.C.SignatureChecker.cert_accepts c.args.checker.now) c.args.pool.now (all_seen c.args.listed.now)
    c.args.links.now c.requires.known c.in-Some.place c.in-Some-Some.other.now c.args.certificate.now
    c.in-Some-Some.link.now (sym c.in-Some-Some.ensures)
    (let got = c.in-Some-Some.ensures'.lookup in
    slice_get_read c.args.links.now _ c.in-Some.place c.in-Some-Some.link.now refl got.3.0 got.1)
    (c.asks_alike.ensures c.if-asks_alike.true)

pub returns-clause-rooted : goal.returns-clause-rooted
returns-clause-rooted g c =
    c.is_some.ensures
    ∙ ap (λ (o : Option ℕ). is_some o) c.first_anchor.ensures.found
    ∙ some_position (is_signed_by (g.C.SignatureChecker.cert_accepts c.args.checker.now) c.args.certificate.now)
    c.args.pool.now.anchors
