use Rattle.sig_manifest.proofs.Refusals.{named-answer}
use Rattle.sig_manifest.proofs.reading.read_manifest.Goals as goal

pub returns-clause-named : goal.returns-clause-named
returns-clause-named c = named-answer c.args.text.now c.read.result c.read.ensures
