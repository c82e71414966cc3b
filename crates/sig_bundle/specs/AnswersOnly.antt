-- A result is one of those that are meant, unless memory ran out.
use Rattle.std.specs.Prelude.{◌≡◌, Result}
use Rattle.sig_base.specs.Answers.{UnlessMemory}

-- A relation of results in place of one: what comes meets it, and what meets it comes, unless memory ran out.
abbrev pub AnswersOnly : {X E : Type 0} → E → (Result X E → Type 0) → Result X E → Type 0
AnswersOnly {X} {E} memory Means result =
    UnlessMemory memory result (Means result)
    × ((meant : Result X E) → Means meant → UnlessMemory memory result (result ≡ meant))
