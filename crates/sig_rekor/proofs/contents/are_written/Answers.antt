-- No newline at the ends, and no empty line between.
use Rattle.std.proofs.Common.{◌≤◌, length, ap, not, ◌∙◌, arith}
use Rattle.sig_rekor.specs.TextCuts.{trimmed}
use Rattle.sig_rekor.specs.NoteText.{line_feed}
use Rattle.sig_rekor.proofs.WrittenLines.{are_written-found, no_cut, not_empty}
use Rattle.sig_rekor.proofs.contents.are_written.Goals as goal

pub returns : goal.returns
returns c =
    let long : length c.args.lines.now ≤ length (trimmed line_feed c.args.lines.now) =
    omega (arith, ap length c.trimmed.ensures) in
    λ none. are_written-found c.args.lines.now (not_empty _ _ c.is_empty.ensures c.if-is_empty.false) long
    (no_cut _ c.cut.result _ c.cut.ensures.cut (c.is_none.ensures ∙ ap not none))
