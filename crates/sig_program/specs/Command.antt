-- The commands, by their words.
use Rattle.std.specs.Prelude.{◌≡◌, ℕ, List, [], ◌∷◌, codes}
use Rattle.sig_program.specs.declared.command.Command.{Command}
use Rattle.sig_program.specs.declared.command.Command.TheVariants.{Log, Verify, Consistency, Audit, Witness, Gate}
use Rattle.sig_program.specs.declared.command.Command.TheVariants.{LogQuestions, VerifyQuestions, ConsistencyQuestions}
use Rattle.sig_program.specs.declared.command.Command.TheVariants.{AuditQuestions, WitnessQuestions, GateQuestions}

abbrev pub words_of : Command → List (List ℕ)
words_of Log = codes "log" ∷ []
words_of Verify = codes "verify" ∷ []
words_of Consistency = codes "consistency" ∷ []
words_of Audit = codes "audit" ∷ []
words_of Witness = codes "witness" ∷ []
words_of Gate = codes "gate" ∷ []
words_of LogQuestions = codes "questions" ∷ codes "log" ∷ []
words_of VerifyQuestions = codes "questions" ∷ codes "verify" ∷ []
words_of ConsistencyQuestions = codes "questions" ∷ codes "consistency" ∷ []
words_of AuditQuestions = codes "questions" ∷ codes "audit" ∷ []
words_of WitnessQuestions = codes "questions" ∷ codes "witness" ∷ []
words_of GateQuestions = codes "questions" ∷ codes "gate" ∷ []

-- the words are the command's own
abbrev pub Names : List (List ℕ) → Command → Type 0
Names words command = words ≡ words_of command

abbrev pub IsCommand : List (List ℕ) → Type 0
IsCommand words = (command : Command) × Names words command
