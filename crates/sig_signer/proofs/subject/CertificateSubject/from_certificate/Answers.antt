use Rattle.sig_signer.proofs.Subjects.{comes_found, comes_incomplete, comes_malformed}
use Rattle.sig_signer.proofs.subject.CertificateSubject.from_certificate.Goals as goal

pub returns-clause-found : goal.returns-clause-found
returns-clause-found c = comes_found c.args.certificate.now c.subject_of.result c.subject_of.ensures

pub returns-clause-malformed : goal.returns-clause-malformed
returns-clause-malformed c = comes_malformed c.args.certificate.now c.subject_of.result c.subject_of.ensures

pub returns-clause-incomplete : goal.returns-clause-incomplete
returns-clause-incomplete c = comes_incomplete c.args.certificate.now c.subject_of.result c.subject_of.ensures
