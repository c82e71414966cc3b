-- What was written so far is the front of the list.
use Rattle.std.proofs.Common.{◌≡◌, take}
use Rattle.sig_json.specs.Writing.{list_tree}
use Rattle.sig_json.specs.Tree.{document_tree}
use Rattle.sig_evidence.specs.Logs.{log_tree}
use Rattle.sig_evidence.proofs.logs.list_of.Given as goal

abbrev pub invariant-logs : goal.invariant-logs
invariant-logs l = document_tree l.list ≡ list_tree (log_tree l.now) (take l.log-index l.logs)
