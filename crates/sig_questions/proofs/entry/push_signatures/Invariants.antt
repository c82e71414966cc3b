use Rattle.std.proofs.Common.{take, Ok}
use Rattle.std.specs.List.{flat_map}
use Rattle.sig_questions.specs.Lists.{note_question}
use Rattle.sig_questions.specs.Written.{AddsRows}
use Rattle.sig_questions.proofs.entry.push_signatures.Given as goal

-- the rows of the signatures so far are written
abbrev pub invariant-signatures : goal.invariant-signatures
invariant-signatures l =
    AddsRows l.fn.rows (flat_map (note_question l.key.scheme l.key.spki.now l.message)
    (take l.signature-index l.signatures)) (Ok tt) l.rows
