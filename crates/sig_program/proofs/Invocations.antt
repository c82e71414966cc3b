-- The words `demo N`.
use Rattle.std.proofs.Common.{◌≡◌, ◌≢◌, ℕ, ◌<◌, ◌≤◌, ◌^◌, List, [], ◌∷◌, length, codes, get_or, inl, inr, Option, Some, None, MatchOption}
use Rattle.std.proofs.Common.{Result, Ok, Err, refl, sym, ap, ◌∙◌, arith}
use Rattle.std.proofs.lemmas.Fmt.{decimal_injective, parse-decimal}
use Rattle.std.specs.Fmt.{decimal}
use Rattle.std.specs.Str.Parse.{ParsesUnsigned}
use Rattle.sig_program.specs.Command.{IsCommand, Names, words_of}
use Rattle.sig_program.specs.ExplainWords.{IsExplain, NamesExplained, explained_command}
use Rattle.sig_program.specs.Invocation.{IsCountWord, IsDemo, IsDemoCount, IsInvocation, IsNeither, Invokes}
use Rattle.sig_program.specs.declared.explained.Explained.{Explained}
use Rattle.sig_program.specs.declared.explained.Explained.TheVariants as explained
use Rattle.sig_program.specs.declared.command.Command.{Command}
use Rattle.sig_program.specs.declared.command.Command.TheVariants.{Log}
use Rattle.sig_program.specs.declared.invocation.Invocation.{Invocation}
use Rattle.sig_program.specs.declared.invocation.Invocation.TheVariants.{Reply, Explanation, Demo}

-- no command is one of `demo`
not-demo : (command : Command) (count : ℕ) → words_of command ≢ codes "demo" ∷ decimal count ∷ []
not-demo Log count e = absurd cc
not-demo other count e = absurd cc

-- no explanation is one of `demo`
not-demo-but : (what : Explained) (count : ℕ)
    → codes "explain" ∷ words_of (explained_command what) ≢ codes "demo" ∷ decimal count ∷ []
not-demo-but what count e = absurd cc

-- the words of `demo` name one number
pub demo-same : (words : List (List ℕ)) (one other : ℕ) → IsDemo words one → IsDemo words other → one ≡ other
demo-same words one other first second =
    let same : decimal one ≡ decimal other = let e = sym first.are ∙ second.are in cc in
    decimal_injective one other (let most = first.within.most in omega (arith, most))
    (let most = second.within.most in omega (arith, most)) same

-- what is asked for by the words of `demo`
pub demo-asked : (words : List (List ℕ)) (asked : Invocation) (count : ℕ) → Invokes words asked → IsDemo words count
    → asked ≡ Demo count
demo-asked words (Reply command) count named is = absurd (not-demo command count (sym named ∙ is.are))
demo-asked words (Explanation what) count named is = absurd (not-demo-but what count (sym named ∙ is.are))
demo-asked words (Demo other) count named is = ap (λ n. Demo n) (demo-same words other count named is)

pub none-asked : (words : List (List ℕ)) → ¬ IsCommand words → IsNeither words → ¬ IsInvocation words
none-asked words none other (Reply command, named) = none (command, named)
none-asked words none other (Explanation what, named) = other.0 (what, named)
none-asked words none other (Demo count, is) = other.1 count is

-- two words, the first of which is `demo`
pub demo-words : (words : List (List ℕ)) (second : List ℕ) (count : ℕ) → words ≡ codes "demo" ∷ second ∷ []
    → IsCountWord second count → IsDemo words count
demo-words words second count are is =
    record { are = are ∙ ap (λ w. codes "demo" ∷ w ∷ []) is.0; within = is.1 }

pub second-word : (words : List (List ℕ)) (first second : List ℕ) (count : ℕ) → words ≡ first ∷ second ∷ []
    → IsDemo words count → IsCountWord second count
second-word words first second count are is =
    let e : first ∷ second ∷ [] ≡ codes "demo" ∷ decimal count ∷ [] = sym are ∙ is.are in (cc, is.within)

pub first-word : (words : List (List ℕ)) (first second : List ℕ) (count : ℕ) → words ≡ first ∷ second ∷ []
    → IsDemo words count → first ≡ codes "demo"
first-word words first second count are is =
    let e : first ∷ second ∷ [] ≡ codes "demo" ∷ decimal count ∷ [] = sym are ∙ is.are in cc

-- the number of the second word
pub counted : (words : List (List ℕ)) (second : List ℕ) (r : Option ℕ) → words ≡ codes "demo" ∷ second ∷ []
    → MatchOption r ((count : ℕ) → ¬ IsCountWord second count) (IsCountWord second)
    → MatchOption r ((count : ℕ) → ¬ IsDemo words count) (IsDemo words)
counted words second None are none = λ count is. none count (second-word words (codes "demo") second count are is)
counted words second (Some n) are is = demo-words words second n are is

pub other-word : (words : List (List ℕ)) (first second : List ℕ) → words ≡ first ∷ second ∷ []
    → first ≢ codes "demo" → (count : ℕ) → ¬ IsDemo words count
other-word words first second are other count is = other (first-word words first second count are is)

pub few-words : (words : List (List ℕ)) → length words < 2 → (count : ℕ) → ¬ IsDemo words count
few-words words few count is = omega (arith, few, ap length is.are)

pub many-words : (words : List (List ℕ)) → 3 ≤ length words → (count : ℕ) → ¬ IsDemo words count
many-words words many count is = omega (arith, many, ap length is.are)

-- an explanation has two words, the first of which is `explain`
explain-two : (what : Explained) → length (codes "explain" ∷ words_of (explained_command what)) ≡ 2
explain-two explained.Log = refl
explain-two other = refl

pub explain-few : (words : List (List ℕ)) → length words < 2 → ¬ IsExplain words
explain-few words few (what, named) = omega (arith, few, ap length named ∙ explain-two what)

pub explain-many : (words : List (List ℕ)) → 3 ≤ length words → ¬ IsExplain words
explain-many words many (what, named) = omega (arith, many, ap length named ∙ explain-two what)

pub ruleset invocations = (none-asked, counted, other-word, few-words, many-words)

-- which words ask for an explanation
pub ruleset explaining = (explain-few, explain-many)
