-- What the parts of a text mean.
use Rattle.std.proofs.Common.{arith}
use Rattle.std.proofs.lemmas.Grind.{common_steps}
use Rattle.sig_json.specs.Only.{names_of}
use Rattle.sig_request.proofs.RequestTexts.{parts-meant}
use Rattle.sig_witness_command.specs.Request.{witness_members}
use Rattle.sig_witness_command.proofs.request.read_parts.Goals as goal

pub returns-in_err-members : goal.returns-in_err-members
returns-in_err-members c =
    let same = parts-meant witness_members (names_of c.args.names.now) c.requires c.args.text.now in
    grind (arith, common_steps)

pub returns : goal.returns
returns c =
    let same = parts-meant witness_members (names_of c.args.names.now) c.requires c.args.text.now in
    grind (arith, common_steps)
