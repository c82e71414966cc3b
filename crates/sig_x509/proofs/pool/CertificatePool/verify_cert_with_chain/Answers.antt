-- The clauses follow from the equation.
use Rattle.std.proofs.Common.{ℤ, subst}
use Rattle.std.proofs.Math.Facts.{to_z-of_z}
use Rattle.sig_x509.specs.PathSearch.{path_issuer}
use Rattle.sig_x509.specs.PathText.{Meant}
use Rattle.sig_x509.specs.Pool.{with_further}
use Rattle.sig_x509.proofs.PathClauses.{says_asked, says_issued, says_malformed, says_none}
use Rattle.sig_x509.proofs.pool.CertificatePool.verify_cert_with_chain.Goals as goal

pub returns-clause-issued : goal.returns-clause-issued
returns-clause-issued g c =
    let accepts = g.C.SignatureChecker.cert_accepts c.args.checker.now in
    says_issued accepts (with_further c.args.self.now c.args.further.now) c.args.leaf.now c.args.verification_time c.find_issuer.result
    (subst (λ (s : ℤ). Meant c.find_issuer.result (path_issuer accepts (with_further c.args.self.now c.args.further.now) c.args.leaf.now s))
    (to_z-of_z c.ranges.verification_time) c.find_issuer.ensures.exact)

pub returns-clause-malformed : goal.returns-clause-malformed
returns-clause-malformed g c =
    let accepts = g.C.SignatureChecker.cert_accepts c.args.checker.now in
    says_malformed accepts (with_further c.args.self.now c.args.further.now) c.args.leaf.now c.args.verification_time c.find_issuer.result
    (subst (λ (s : ℤ). Meant c.find_issuer.result (path_issuer accepts (with_further c.args.self.now c.args.further.now) c.args.leaf.now s))
    (to_z-of_z c.ranges.verification_time) c.find_issuer.ensures.exact)

pub returns-clause-none : goal.returns-clause-none
returns-clause-none g c =
    let accepts = g.C.SignatureChecker.cert_accepts c.args.checker.now in
    says_none accepts (with_further c.args.self.now c.args.further.now) c.args.leaf.now c.args.verification_time c.find_issuer.result
    (subst (λ (s : ℤ). Meant c.find_issuer.result (path_issuer accepts (with_further c.args.self.now c.args.further.now) c.args.leaf.now s))
    (to_z-of_z c.ranges.verification_time) c.find_issuer.ensures.exact)

pub returns-clause-asked : goal.returns-clause-asked
returns-clause-asked g c =
    let accepts = g.C.SignatureChecker.cert_accepts c.args.checker.now in
    says_asked accepts (with_further c.args.self.now c.args.further.now) c.args.leaf.now c.args.verification_time c.find_issuer.result
    (subst (λ (s : ℤ). Meant c.find_issuer.result (path_issuer accepts (with_further c.args.self.now c.args.further.now) c.args.leaf.now s))
    (to_z-of_z c.ranges.verification_time) c.find_issuer.ensures.exact)

pub returns-clause-exact : goal.returns-clause-exact
returns-clause-exact g c =
    let accepts = g.C.SignatureChecker.cert_accepts c.args.checker.now in
    subst (λ (s : ℤ). Meant c.find_issuer.result (path_issuer accepts (with_further c.args.self.now c.args.further.now) c.args.leaf.now s))
    (to_z-of_z c.ranges.verification_time) c.find_issuer.ensures.exact
