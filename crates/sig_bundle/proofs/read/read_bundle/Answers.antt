use Rattle.std.proofs.Common.{subst}
use Rattle.sig_base.specs.Answers.{Answers}
use Rattle.sig_json.specs.declared.error.JsonError.TheVariants.{OutOfMemory}
use Rattle.sig_bundle.proofs.BundleMembers.{bundle-listed}
use Rattle.sig_bundle.proofs.read.read_bundle.Goals as goal

pub returns : goal.returns
returns c =
    subst (Answers OutOfMemory (λ bundle. bundle) c.read_record_with.result) (bundle-listed c.args.text.now)
    c.read_record_with.ensures
