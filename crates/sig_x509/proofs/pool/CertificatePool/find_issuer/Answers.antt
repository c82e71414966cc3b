-- What is found is what the definition says.
use Rattle.std.proofs.Common.{ℤ, None, Some, inr, refl, sym, ap, ◌∙◌}
use Rattle.std.proofs.Math.Facts.{to_z-of_z}
use Rattle.std.specs.Prelude.{position}
use Rattle.sig_x509.specs.Issuance.{signs_code_at}
use Rattle.sig_x509.specs.PathSearch.{leads_from}
use Rattle.sig_x509.specs.Pool.{with_further}
use Rattle.sig_x509.proofs.FirstIntermediates.{found, unsigned, unsigned_by_all}
use Rattle.sig_x509.proofs.pool.CertificatePool.find_issuer.Goals as goal

pub returns-then-not-signs_code_at-clause-exact : goal.returns-then-not-signs_code_at-clause-exact
returns-then-not-signs_code_at-clause-exact g c =
    inr (unsigned (g.C.SignatureChecker.cert_accepts c.args.checker.now)
    (with_further c.args.self.now c.args.further.now) c.args.leaf.now c.args.time (sym c.if-not-is_profiled.ensures)
    (sym (c.if-not-signs_code_at.ensures ∙ ap (signs_code_at c.args.leaf.now) (to_z-of_z c.ranges.time))))

pub returns-then-not-may_be_signed-clause-exact : goal.returns-then-not-may_be_signed-clause-exact
returns-then-not-may_be_signed-clause-exact g c =
    inr (unsigned_by_all (g.C.SignatureChecker.cert_accepts c.args.checker.now)
    (with_further c.args.self.now c.args.further.now) c.args.leaf.now c.args.time (sym c.if-not-is_profiled.ensures)
    (c.if-not-may_be_signed.ensures refl))

pub returns-in-Some-clause-exact : goal.returns-in-Some-clause-exact
returns-in-Some-clause-exact g c =
    found (g.C.SignatureChecker.cert_accepts c.args.checker.now)
    (with_further c.args.self.now c.args.further.now) c.args.leaf.now c.args.time (sym c.if-not-is_profiled.ensures)
    (Some c.in-Some.index) None
    (sym (c.if-not-signs_code_at.ensures ∙ ap (signs_code_at c.args.leaf.now) (to_z-of_z c.ranges.time)))
    (sym c.in-Some.is ∙ c.first_anchor.ensures.found) (λ e. absurd cc)

pub returns-in-Some-2-clause-exact : goal.returns-in-Some-2-clause-exact
returns-in-Some-2-clause-exact g c =
    found (g.C.SignatureChecker.cert_accepts c.args.checker.now)
    (with_further c.args.self.now c.args.further.now) c.args.leaf.now c.args.time (sym c.if-not-is_profiled.ensures)
    None (Some c.in-Some-2.index)
    (sym (c.if-not-signs_code_at.ensures ∙ ap (signs_code_at c.args.leaf.now) (to_z-of_z c.ranges.time)))
    (sym c.in_default.is ∙ c.first_anchor.ensures.found) (λ e. sym c.in-Some-2.is ∙ c.in_ok-index.ensures.found
    ∙ ap (λ (s : ℤ). position (leads_from (g.C.SignatureChecker.cert_accepts c.args.checker.now)
    (with_further c.args.self.now c.args.further.now) c.args.leaf.now s)
    (with_further c.args.self.now c.args.further.now).intermediates) (to_z-of_z c.ranges.time))

pub returns-in-None-clause-exact : goal.returns-in-None-clause-exact
returns-in-None-clause-exact g c =
    inr (found (g.C.SignatureChecker.cert_accepts c.args.checker.now)
    (with_further c.args.self.now c.args.further.now) c.args.leaf.now c.args.time (sym c.if-not-is_profiled.ensures)
    None None
    (sym (c.if-not-signs_code_at.ensures ∙ ap (signs_code_at c.args.leaf.now) (to_z-of_z c.ranges.time)))
    (sym c.in_default.is ∙ c.first_anchor.ensures.found) (λ e. sym c.in-None.is ∙ c.in_ok-index.ensures.found
    ∙ ap (λ (s : ℤ). position (leads_from (g.C.SignatureChecker.cert_accepts c.args.checker.now)
    (with_further c.args.self.now c.args.further.now) c.args.leaf.now s)
    (with_further c.args.self.now c.args.further.now).intermediates) (to_z-of_z c.ranges.time)))
