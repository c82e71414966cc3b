-- The statement that a value of the code is.
use Rattle.std.specs.Prelude.{map, option_map}
use Rattle.sig_json.specs.Tree.{document_tree}
use Rattle.sig_dsse.specs.Statement.{Subject, Statement}
use Rattle.sig_dsse.specs.declared.statement.Subject.{Subject as HeldSubject}
use Rattle.sig_dsse.specs.declared.statement.InTotoStatementV1.{InTotoStatementV1}

abbrev pub seen_subject : HeldSubject → Subject
seen_subject subject = record {
  name = subject.name;
  digest = subject.digest;
  annotations = option_map document_tree subject.annotations;
}

abbrev pub seen : InTotoStatementV1 → Statement
seen statement = record {
  statement_type = statement.statement_type;
  subject = map seen_subject statement.subject;
  predicate_type = statement.predicate_type;
  predicate = option_map document_tree statement.predicate;
}
