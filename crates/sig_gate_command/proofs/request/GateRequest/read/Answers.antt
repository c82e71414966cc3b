-- The text is not a manifest.
use Rattle.std.proofs.Common.{rules}
use Rattle.sig_gate_command.proofs.Requests.{unread-error}
use Rattle.sig_gate_command.proofs.request.GateRequest.read.Goals as goal

pub returns-in-Err-NotJson : goal.returns-in-Err-NotJson
returns-in-Err-NotJson c = unread-error c.args.text.now c.in-Err-NotJson.field-0 (search rules)
