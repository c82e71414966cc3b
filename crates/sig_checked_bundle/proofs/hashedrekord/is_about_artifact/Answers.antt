use Rattle.std.proofs.Common.{Ok, sym, ap, ◌∙◌}
use Rattle.sig_certificate.specs.Pem.{pem_of}
use Rattle.sig_json.specs.Document.{document_of}
use Rattle.sig_json.specs.Tree.{tree}
use Rattle.sig_checked_bundle.specs.Hashedrekord.{hashedrekord_tree}
use Rattle.sig_checked_bundle.proofs.Hashedrekords.{tree-compared}
use Rattle.sig_checked_bundle.proofs.hashedrekord.is_about_artifact.Goals as goal

pub returns-in-Ok : goal.returns-in-Ok
returns-in-Ok c =
    tree-compared (document_of c.args.body.now) (tree c.view-read.result) (tree c.view-wanted.result)
    (hashedrekord_tree c.args.digest.now c.args.signature.now (pem_of c.args.certificate.now)) c.equals.result
    (c.in-Ok.ensures.value ∙ ap Ok (sym c.view-read.ensures)) c.equals.ensures
    (c.view-wanted.ensures ∙ c.in_ok-entry-in-Ok.ensures)
