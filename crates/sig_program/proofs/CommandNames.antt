-- Which words name a command.
use Rattle.std.proofs.Common.{◌≡◌, ◌<◌, ◌≤◌, ℕ, List, [], ◌∷◌, length, ap, sym, arith, get_or, lit≤}
use Rattle.sig_program.specs.Command.{IsCommand, words_of}
use Rattle.sig_program.specs.declared.command.Command.{Command}
use Rattle.sig_program.specs.declared.command.Command.TheVariants.{Log, Verify, Consistency, Audit, Witness, Gate}
use Rattle.sig_program.specs.declared.command.Command.TheVariants.{LogQuestions}
use Rattle.sig_program.specs.declared.command.Command.TheVariants.{VerifyQuestions, ConsistencyQuestions}
use Rattle.sig_program.specs.declared.command.Command.TheVariants.{AuditQuestions, WitnessQuestions, GateQuestions}

-- a command has one word or two
named-short : (command : Command) → (1 ≤ length (words_of command)) × (length (words_of command) ≤ 2)
named-short Log = (lit≤ tt, lit≤ tt)
named-short Verify = (lit≤ tt, lit≤ tt)
named-short Consistency = (lit≤ tt, lit≤ tt)
named-short Audit = (lit≤ tt, lit≤ tt)
named-short Witness = (lit≤ tt, lit≤ tt)
named-short Gate = (lit≤ tt, lit≤ tt)
named-short LogQuestions = (lit≤ tt, lit≤ tt)
named-short VerifyQuestions = (lit≤ tt, lit≤ tt)
named-short ConsistencyQuestions = (lit≤ tt, lit≤ tt)
named-short AuditQuestions = (lit≤ tt, lit≤ tt)
named-short WitnessQuestions = (lit≤ tt, lit≤ tt)
named-short GateQuestions = (lit≤ tt, lit≤ tt)

pub IsCommand-many : (words : List (List ℕ)) → 3 ≤ length words → ¬ IsCommand words
IsCommand-many words many (command, named) = omega (arith, many, ap length named, (named-short command).1)

pub IsCommand-none : (words : List (List ℕ)) → length words < 1 → ¬ IsCommand words
IsCommand-none words few (command, named) = omega (arith, few, ap length named, (named-short command).0)

-- one word, and the test whether it is a name
pub is_one_word : (words : List (List ℕ)) (word : List ℕ) → word ≡ get_or words 0 word → 1 ≤ length words
    → length words < 2 → words ≡ word ∷ []
is_one_word [] word is some few = absurd (omega arith)
is_one_word (first ∷ []) word is some few = ap (λ w. w ∷ []) (sym is)
is_one_word (first ∷ second ∷ rest) word is some few = absurd (omega arith)

-- two words, and the test whether they are names
pub are_two_words : (words : List (List ℕ)) (first second : List ℕ) → first ≡ get_or words 0 first
    → second ≡ get_or words 1 second → 2 ≤ length words → length words < 3 → words ≡ first ∷ second ∷ []
are_two_words [] first second is then some few = absurd (omega arith)
are_two_words (one ∷ []) first second is then some few = absurd (omega arith)
are_two_words (one ∷ two ∷ []) first second is then some few = cc
are_two_words (one ∷ two ∷ three ∷ rest) first second is then some few = absurd (omega arith)

pub ruleset naming = (IsCommand-many, IsCommand-none, is_one_word, are_two_words)
