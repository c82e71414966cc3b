use Rattle.sig_constraint.proofs.SubjectLaws.{email_law, url_law}
use Rattle.sig_constraint.proofs.laws.subject_laws.Goals as goal

pub returns-clause-email : goal.returns-clause-email
returns-clause-email c = email_law

pub returns-clause-url : goal.returns-clause-url
returns-clause-url c = url_law
