-- The commands and their explanations by their numbers.
use Rattle.std.specs.Prelude.{◌≡◌, ◌⊎◌, ◌+◌, ℕ}
use Rattle.sig_program.specs.ExplainWords.{explained_command}
use Rattle.sig_program.specs.declared.command.Command.{Command}
use Rattle.sig_program.specs.declared.command.Command.TheVariants as command
use Rattle.sig_program.specs.declared.explained.Explained.{Explained}
use Rattle.sigverify_c.specs.declared.numbered.Numbered.{Numbered}
use Rattle.sigverify_c.specs.declared.numbered.Numbered.TheVariants.{Command as Replying, Explanation}

-- the number that C has for a command: that of its questions is 256 more
abbrev pub number_of : Command → ℕ
number_of command.Log = 1
number_of command.Verify = 2
number_of command.Consistency = 3
number_of command.Audit = 4
number_of command.Witness = 5
number_of command.Gate = 6
number_of command.LogQuestions = 257
number_of command.VerifyQuestions = 258
number_of command.ConsistencyQuestions = 259
number_of command.AuditQuestions = 260
number_of command.WitnessQuestions = 261
number_of command.GateQuestions = 262

-- that of its explanation is 512 more
abbrev pub explanation_number : Explained → ℕ
explanation_number what = 512 + number_of (explained_command what)

-- a command has the number, or an explanation
abbrev pub IsNumber : ℕ → Type 0
IsNumber number =
    ((command : Command) × (number ≡ number_of command))
    ⊎ ((what : Explained) × (number ≡ explanation_number what))

-- for private clauses: this has the number
abbrev pub HasNumber : ℕ → Numbered → Type 0
HasNumber number (Replying command) = number ≡ number_of command
HasNumber number (Explanation what) = number ≡ explanation_number what
