use Rattle.std.proofs.Common.{◌≡◌, ◌++◌, take, string_bytes}
use Rattle.std.specs.List.{flat_map}
use Rattle.sig_rekor.specs.NoteText.{content_line}
use Rattle.sig_rekor.proofs.contents.push_contents.Given as goal

-- the contents so far are written
abbrev pub invariant-loop-content : goal.invariant-loop-content
invariant-loop-content l =
    string_bytes l.text ≡ string_bytes l.fn.text ++ flat_map content_line (take l.content-index l.contents)
