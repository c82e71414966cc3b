-- The words of `explain`: before those of a command whose reply is explained.
use Rattle.std.specs.Prelude.{◌≡◌, ℕ, List, ◌∷◌, codes}
use Rattle.sig_program.specs.Command.{words_of}
use Rattle.sig_program.specs.declared.command.Command.{Command}
use Rattle.sig_program.specs.declared.command.Command.TheVariants as command
use Rattle.sig_program.specs.declared.explained.Explained.{Explained}
use Rattle.sig_program.specs.declared.explained.Explained.TheVariants.{Log, Verify, Consistency, Audit, Witness, Gate}

-- the command whose reply is explained
abbrev pub explained_command : Explained → Command
explained_command Log = command.Log
explained_command Verify = command.Verify
explained_command Consistency = command.Consistency
explained_command Audit = command.Audit
explained_command Witness = command.Witness
explained_command Gate = command.Gate

-- the words are `explain` and the command's own
abbrev pub NamesExplained : List (List ℕ) → Explained → Type 0
NamesExplained words what = words ≡ codes "explain" ∷ words_of (explained_command what)

abbrev pub IsExplain : List (List ℕ) → Type 0
IsExplain words = (what : Explained) × NamesExplained words what
