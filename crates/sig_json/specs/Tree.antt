-- The tree that a document holds, a borrowed one too, and that a view shows.
use Rattle.serde_json.specs.Data.{Data}
use Rattle.sig_json.specs.View.{view}
use Rattle.sig_json.specs.declared.borrowed_document.BorrowedDocument.{BorrowedDocument}
use Rattle.sig_json.specs.declared.document.Document.{Document}
use Rattle.sig_json.specs.declared.view.Json.{Json}

abbrev pub document_tree : Document → Data
document_tree document = view document.value

abbrev pub borrowed_tree : BorrowedDocument → Data
borrowed_tree document = view document.value

abbrev pub tree : Json → Data
tree json = view json.value.now
