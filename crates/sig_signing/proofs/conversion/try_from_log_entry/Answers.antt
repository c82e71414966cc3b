use Rattle.sig_rekor_models.specs.LogEntry.{seen_entry}
use Rattle.sig_signing.proofs.Conversions.{clause-found, clause-only, clause-refused}
use Rattle.sig_signing.proofs.conversion.try_from_log_entry.Goals as goal

pub returns-clause-found : goal.returns-clause-found
returns-clause-found c = clause-found (seen_entry c.args.value.now) c.convert.result c.convert.ensures

pub returns-clause-only : goal.returns-clause-only
returns-clause-only c = clause-only (seen_entry c.args.value.now) c.convert.result c.convert.ensures

pub returns-clause-refused : goal.returns-clause-refused
returns-clause-refused c = clause-refused (seen_entry c.args.value.now) c.convert.result c.convert.ensures
