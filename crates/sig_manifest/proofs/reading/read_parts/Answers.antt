-- Members of other names are not asked for, and the parts mean what the whole does.
use Rattle.std.proofs.Common.{arith}
use Rattle.std.proofs.lemmas.Grind.{common_steps}
use Rattle.sig_json.specs.Only.{names_of}
use Rattle.sig_manifest.proofs.Parts.{parts-read}
use Rattle.sig_manifest.proofs.reading.read_parts.Goals as goal

pub returns : goal.returns
returns c = let same = parts-read c.args.text.now in grind (arith, common_steps)

pub returns-in_err-members : goal.returns-in_err-members
returns-in_err-members c = let same = parts-read c.args.text.now in grind (arith, common_steps)
