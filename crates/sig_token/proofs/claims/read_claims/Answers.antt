use Rattle.std.proofs.Common.{subst}
use Rattle.sig_base.specs.Answers.{Answers}
use Rattle.sig_json.specs.declared.error.JsonError.TheVariants.{OutOfMemory}
use Rattle.sig_token.proofs.ClaimReadings.{claims-listed}
use Rattle.sig_token.proofs.claims.read_claims.Goals as goal

pub returns : goal.returns
returns c =
    subst (Answers OutOfMemory (λ claims. claims) c.read_record_with.result) (claims-listed c.args.text.now)
    c.read_record_with.ensures
