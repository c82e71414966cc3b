-- The list of the one row is read back.
use Rattle.std.proofs.Common.{[]}
use Rattle.sig_json.proofs.WrittenLists.{list_back-append, list_back-none}
use Rattle.sig_request.specs.Row.{row_of}
use Rattle.sig_demo.proofs.RequestReadings.{always}
use Rattle.sig_demo.specs.Request.{row_over, row_tree}
use Rattle.sig_demo.proofs.request.with_row.Goals as goal

pub returns-clause-back : goal.returns-clause-back
returns-clause-back c =
    always c.with.result _ (list_back-append row_of row_tree [] (row_over c.args.message.now)
    (list_back-none row_of row_tree) c.in_ok-row_document.ensures.back)
