-- What is returned is a TBSCertificate of the same parts.
use Rattle.sig_timestamp.proofs.PrecertLaws.{keeps_of}
use Rattle.sig_timestamp.proofs.KeptLaws.{kept_of_result, only_of_result}
use Rattle.sig_timestamp.proofs.precert.precert_tbs_der.Goals as goal

pub returns-clause-keeps : goal.returns-clause-keeps
returns-clause-keeps c =
    keeps_of c.args.leaf.now c.is_certificate.ensures.tbs c.precertificate.result c.precertificate.ensures

pub returns-clause-kept : goal.returns-clause-kept
returns-clause-kept c =
    kept_of_result c.args.leaf.now c.is_certificate.ensures.tbs c.precertificate.result c.precertificate.ensures

pub returns-clause-only : goal.returns-clause-only
returns-clause-only c =
    only_of_result c.args.leaf.now c.is_certificate.ensures.tbs c.precertificate.result c.precertificate.ensures
