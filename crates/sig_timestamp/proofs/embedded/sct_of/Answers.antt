-- The look-up's answer is that of the list of its extensions.
use Rattle.std.proofs.Common.{◌∙◌}
use Rattle.sig_timestamp.proofs.EmbeddedLaws.{read_absent, read_several, read_one}
use Rattle.sig_timestamp.proofs.embedded.sct_of.Goals as goal

pub returns-in-Absent-clause-read : goal.returns-in-Absent-clause-read
returns-in-Absent-clause-read c = read_absent c.args.leaf.now c.in-Absent.ensures

pub returns-in-Several-clause-read : goal.returns-in-Several-clause-read
returns-in-Several-clause-read c = read_several c.args.leaf.now c.in-Several.ensures

pub returns-in-One-clause-read : goal.returns-in-One-clause-read
returns-in-One-clause-read c = c.sct_of_value.ensures.read ∙ read_one c.args.leaf.now _ c.in-One.ensures
