-- What was written so far is the front of the list.
use Rattle.std.proofs.Common.{◌≡◌, take}
use Rattle.sig_json.specs.Writing.{list_tree}
use Rattle.sig_json.specs.Tree.{document_tree}
use Rattle.sig_verified.specs.Statement.{named_digest_tree}
use Rattle.sig_verified.proofs.statement.named_digests_document.Given as goal

abbrev pub invariant-digests : goal.invariant-digests
invariant-digests l = document_tree l.list ≡ list_tree named_digest_tree (take l.place l.digests)
