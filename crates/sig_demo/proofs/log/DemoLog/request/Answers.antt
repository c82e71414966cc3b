-- The log's checkpoint is read back, and so is the document.
use Rattle.std.proofs.Common.{◌∙◌, sym, subst}
use Rattle.sig_json.specs.Tree.{document_tree, tree}
use Rattle.sig_rekor.specs.ReadBack.{ReadsBack}
use Rattle.sig_demo.proofs.Checkpoints.{demo-reads_back}
use Rattle.sig_demo.proofs.Depths.{read_copied, read_shown}
use Rattle.sig_demo.proofs.Sizes.{short_copied}
use Rattle.sig_demo.proofs.log.DemoLog.request.Goals as goal

pub encode-requires : goal.encode-requires
encode-requires c = subst ReadsBack (sym c.in_ok-checkpoint.ensures) (demo-reads_back c.args.self.now)

pub returns-clause-document : goal.returns-clause-document
returns-clause-document c =
    read_copied c.args.self.now c.in_ok-text.field-0 c.copy_of.result
    (rw (c.as_bytes.ensures.value ∙ c.as_str-2.ensures) at c.copy_of.ensures)
    (read_shown c.args.self.now c.in_ok-text.field-0 (document_tree c.in_ok-document.document) (tree c.view.result)
    c.in_ok-document.ensures.tree c.view.ensures c.in_ok-text.ensures.text c.in_ok-text.ensures.reads_back).1

pub returns-clause-short : goal.returns-clause-short
returns-clause-short c =
    short_copied c.args.self.now c.in_ok-text.field-0 c.copy_of.result
    (rw (c.as_bytes.ensures.value ∙ c.as_str-2.ensures) at c.copy_of.ensures)
    (read_shown c.args.self.now c.in_ok-text.field-0 (document_tree c.in_ok-document.document) (tree c.view.result)
    c.in_ok-document.ensures.tree c.view.ensures c.in_ok-text.ensures.text c.in_ok-text.ensures.reads_back).0
    c.requires
