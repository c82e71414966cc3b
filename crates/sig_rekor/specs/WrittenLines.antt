-- Lines that are written as they were read.
use Rattle.std.specs.Prelude.{◌≢◌, ℕ, List, [], ◌∷◌, ◌++◌}
use Rattle.sig_rekor.specs.TextCuts.{Lacks}
use Rattle.sig_rekor.specs.NoteText.{line_feed}
use Rattle.sig_rekor.specs.CheckpointText.{empty_line}

-- a text of lines that are not empty
pub record AreWritten (text : List ℕ) : Type 0 where
  pub some : text ≢ []
  pub front : (rest : List ℕ) → text ≢ line_feed ∷ rest
  pub back : (rest : List ℕ) → text ≢ rest ++ line_feed ∷ []
  pub apart : Lacks empty_line text
