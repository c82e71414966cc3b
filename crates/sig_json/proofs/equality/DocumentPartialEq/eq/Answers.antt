use Rattle.sig_json.proofs.SameDocuments.{answer_is_same}
use Rattle.sig_json.specs.Tree.{document_tree, tree}
use Rattle.sig_json.proofs.equality.DocumentPartialEq.eq.Goals as goal

pub returns-clause-value : goal.returns-clause-value
returns-clause-value c =
    answer_is_same c.equals.result (document_tree c.args.self.now) (document_tree c.args.other.now)
    (tree c.view.result) (tree c.view-2.result)
    c.view.ensures c.view-2.ensures c.view.result.without_float c.equals.ensures
