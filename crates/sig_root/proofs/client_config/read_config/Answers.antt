use Rattle.std.proofs.Common.{subst}
use Rattle.sig_base.specs.Answers.{Answers}
use Rattle.sig_json.specs.declared.error.JsonError.TheVariants.{OutOfMemory}
use Rattle.sig_root.proofs.ClientConfigs.{config-listed}
use Rattle.sig_root.proofs.client_config.read_config.Goals as goal

pub returns : goal.returns
returns c =
    subst (Answers OutOfMemory (λ root. root) c.read_record_with.result) (config-listed c.args.text.now)
    c.read_record_with.ensures
