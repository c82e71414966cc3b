use Rattle.std.proofs.Common.{subst}
use Rattle.sig_base.specs.Answers.{Answers}
use Rattle.sig_json.specs.declared.error.JsonError.TheVariants.{OutOfMemory}
use Rattle.sig_attestation.proofs.StatementParts.{record-listed}
use Rattle.sig_attestation.proofs.stated.read_stated_record.Goals as goal

pub returns : goal.returns
returns c =
    subst (Answers OutOfMemory (λ said. said) c.read_record_with.result) (record-listed c.args.payload.now)
    c.read_record_with.ensures
