-- A fault of the document; and members of other names are not asked for.
use Rattle.std.proofs.Common.{rules}
use Rattle.sig_json.proofs.NamedMembers.{member_of-only}
use Rattle.sig_json.specs.Member.{required, optional_or}
use Rattle.sig_request.proofs.RequestTexts.{unread-record}
use Rattle.sig_witness_command.specs.Request.{witness_members, witness_request}
use Rattle.sig_witness_command.proofs.request.WitnessRequest.read.Goals as goal

pub read_parts-requires : goal.read_parts-requires
unfolding witness_members required optional_or
read_parts-requires c accepted tree = simp member_of-only

pub returns-in-Err-NotJson : goal.returns-in-Err-NotJson
returns-in-Err-NotJson c = unread-record witness_request c.args.text.now c.in-Err-NotJson.field-0 (search rules)
