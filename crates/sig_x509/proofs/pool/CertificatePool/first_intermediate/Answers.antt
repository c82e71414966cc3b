-- The table's first intermediate is that of the definition.
use Rattle.std.proofs.Common.{ℤ, ◌≡◌, subst}
use Rattle.std.proofs.Math.Facts.{to_z-of_z}
use Rattle.sig_x509.specs.Candidates.{all_seen, candidates_of}
use Rattle.sig_x509.specs.Pool.{with_further}
use Rattle.sig_x509.proofs.FirstIntermediates.{intermediate_found}
use Rattle.sig_x509.proofs.pool.CertificatePool.first_intermediate.Goals as goal

pub returns-clause-found : goal.returns-clause-found
returns-clause-found g c =
    intermediate_found (g.C.SignatureChecker.cert_accepts c.args.checker.now)
    (with_further c.args.self.now c.args.further.now) c.args.leaf.now c.args.time
    c.in_ok-listed.listed.items c.deref-2.result.now c.deref-4.result.now c.in_ok-links.links.items
    c.deref-3.result.now c.in_ok-row.row.items c.deref-5.result.now c.first_leading.result
    (subst (λ (s : ℤ). all_seen c.in_ok-listed.listed.items
    ≡ candidates_of (with_further c.args.self.now c.args.further.now) s) (to_z-of_z c.ranges.time) c.in_ok-listed.ensures)
    c.deref-2.ensures.value c.deref-4.ensures.value c.in_ok-links.ensures.links c.deref-3.ensures.value c.in_ok-row.ensures c.deref-5.ensures.value
    c.requires.signs c.first_leading.ensures.first
