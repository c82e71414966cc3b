use Rattle.sig_constraint.proofs.MarkedLaws.{given_law, others_law, satisfied_law, texts_law}
use Rattle.sig_constraint.proofs.laws.marker_laws.Goals as goal

pub returns-clause-given : goal.returns-clause-given
returns-clause-given c = given_law

pub returns-clause-texts : goal.returns-clause-texts
returns-clause-texts c = texts_law

pub returns-clause-others : goal.returns-clause-others
returns-clause-others c = others_law

pub returns-clause-satisfied : goal.returns-clause-satisfied
returns-clause-satisfied c = satisfied_law
