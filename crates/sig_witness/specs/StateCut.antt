-- The first five lines of a text, for private clauses.
use Rattle.std.specs.Prelude.{ℕ, List, Option, Some}
use Rattle.sig_base.specs.OptionSteps.{◌>>=◌}
use Rattle.sig_rekor.specs.TextCuts.{cut_at}
use Rattle.sig_rekor.specs.NoteText.{newline}
use Rattle.sig_witness.specs.StateText.{LogLines}
use Rattle.sig_witness.specs.declared.state_lines.Cut.{Cut}

-- the first five lines, and what is after the fifth newline
abbrev pub lines_cut : List ℕ → Option (LogLines × List ℕ)
lines_cut text = do
  origin ← cut_at newline text
  scheme ← cut_at newline origin.1
  key ← cut_at newline scheme.1
  size ← cut_at newline key.1
  hash ← cut_at newline size.1
  Some (record { origin = origin.0; scheme = scheme.0; key = key.0; size = size.0; hash = hash.0 }, hash.1)

-- five lines that are cut
abbrev pub lines_in : Cut → LogLines
lines_in cut =
    record {
      origin = cut.origin.now;
      scheme = cut.scheme.now;
      key = cut.key.now;
      size = cut.size.now;
      hash = cut.hash.now;
    }
