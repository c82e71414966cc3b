-- The list has the signatures of the updates so far.
use Rattle.sig_witness_command.proofs.Listings.{IsNotesSoFar}
use Rattle.sig_witness_command.proofs.rows.notes_document.Given as goal

abbrev pub invariant-texts : goal.invariant-texts
invariant-texts l = IsNotesSoFar l.witness l.most l.fn.texts l.place l.rows
