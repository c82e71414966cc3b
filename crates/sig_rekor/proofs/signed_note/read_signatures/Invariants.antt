use denote.Shadow.{shadow}
use denote.Text.{Utf8}
use Rattle.std.proofs.Common.{◌≡◌, length}
use Rattle.sig_rekor.specs.TextCuts.{parts_between}
use Rattle.sig_rekor.specs.CheckpointText.{empty_line, signatures_by, signatures_on}
use Rattle.sig_rekor.proofs.signed_note.read_signatures.Given as goal

-- the signatures so far and those of what is left are those of the text
abbrev pub invariant-pieces : goal.invariant-pieces
invariant-pieces l =
    (signatures_on l.signatures (parts_between empty_line l.rest) ≡ signatures_by (parts_between empty_line l.text))
    × shadow (Utf8 l.rest)

abbrev pub decreases-pieces : goal.decreases-pieces
decreases-pieces l = length l.rest
