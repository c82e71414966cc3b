use Rattle.std.proofs.Common.{rules}
use Rattle.sig_request.proofs.RequestTexts.{unread-record}
use Rattle.sig_request.specs.Accepted.{with_rows}
use Rattle.sig_request.proofs.request_text.request_from_text.Goals as goal

pub returns-in-Err-NotJson : goal.returns-in-Err-NotJson
returns-in-Err-NotJson g c =
    unread-record (with_rows g.T.RequestReader.meaning) c.args.text.now c.in-Err-NotJson.field-0 (search rules)
