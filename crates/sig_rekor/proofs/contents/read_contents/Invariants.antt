use denote.Shadow.{shadow}
use denote.Text.{Utf8}
use Rattle.std.proofs.Common.{◌≡◌, ◌++◌, length}
use Rattle.sig_rekor.specs.TextCuts.{parts_between}
use Rattle.sig_rekor.specs.NoteText.{newline, contents_of}
use Rattle.sig_rekor.proofs.contents.read_contents.Given as goal

-- the contents so far and those of what is left are those of the text
abbrev pub invariant-lines : goal.invariant-lines
invariant-lines l =
    (l.contents ++ contents_of (parts_between newline l.rest) ≡ contents_of (parts_between newline l.text)) × shadow
    (Utf8 l.rest)

abbrev pub decreases-lines : goal.decreases-lines
decreases-lines l = length l.rest
