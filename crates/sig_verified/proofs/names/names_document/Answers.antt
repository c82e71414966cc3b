-- The names of the front are written, and the others are left.
use Rattle.sig_certificate.specs.BorrowedNames.{borrowed_name, names_left}
use Rattle.sig_json.specs.Tree.{document_tree}
use Rattle.sig_verified.proofs.ShownNames.{written_all, written_full, written_more, written_none}
use Rattle.sig_verified.proofs.names.names_document.Goals as goal

pub names-init : goal.names-init
names-init c = (tt, tt, rw c.into_iter-name-iterator.ensures.into_iter_gives (written_none _ _ c.list-list.ensures))

pub names-preserved : goal.names-preserved
names-preserved c = (
  tt,
  tt,
  written_more _ (names_left c.names.name-iterator) (names_left c.next.new.self) (borrowed_name c.in-Some.name)
      (document_tree c.names.list) (document_tree c.in_ok-name_document.field-0) (document_tree c.push.new.self)
      c.names.shown c.names.invariant.2 c.in-Some.ensures.steps c.in_ok-name_document.ensures c.in_ok-push.ensures.ok
      c.if-shown-eq-MOST_NAMES.false,
)

pub returns-then-shown-eq-MOST_NAMES : goal.returns-then-shown-eq-MOST_NAMES
returns-then-shown-eq-MOST_NAMES c =
    written_full _ (names_left c.names.name-iterator) (document_tree c.names.list) c.names.shown c.names.invariant.2
    c.if-shown-eq-MOST_NAMES.true

pub returns : goal.returns
returns c =
    written_all _ (names_left c.names.name-iterator) (document_tree c.names.list) c.names.shown c.names.invariant.2
    c.in-None.ensures.steps.0
