-- The first cause is what is refused, and no other.
use Rattle.sig_x509.proofs.AnchorLaws.{first_refused, too_many}
use Rattle.sig_x509.proofs.pool.CertificatePool.from_certificates.Goals as goal

pub returns-clause-too_many : goal.returns-clause-too_many
returns-clause-too_many c =
    λ count. too_many c.args.trusted_roots.now c.args.untrusted_intermediates.now c.read.result c.read.ensures.few
    c.read.ensures.err count

pub returns-clause-anchor : goal.returns-clause-anchor
returns-clause-anchor c =
    λ index. first_refused c.args.trusted_roots.now c.args.untrusted_intermediates.now c.read.result
    c.read.ensures.anchors c.read.ensures.err index
