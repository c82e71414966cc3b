use Rattle.sig_root.proofs.ClientConfigs.{clause-found, clause-missing, clause-only, clause-unreadable}
use Rattle.sig_root.proofs.sigstore.SigstoreTrustRoot.from_client_trust_config.Goals as goal

pub returns-clause-found : goal.returns-clause-found
returns-clause-found c = clause-found c.args.json.now c.read_config.result c.read_config.ensures

pub returns-clause-only : goal.returns-clause-only
returns-clause-only c = clause-only c.args.json.now c.read_config.result c.read_config.ensures

pub returns-clause-missing : goal.returns-clause-missing
returns-clause-missing c = clause-missing c.args.json.now c.read_config.result c.read_config.ensures

pub returns-clause-unreadable : goal.returns-clause-unreadable
returns-clause-unreadable c = clause-unreadable c.args.json.now c.read_config.result c.read_config.ensures
