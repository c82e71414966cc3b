-- What the words of the command line ask for.
use Rattle.std.specs.Prelude.{◌≡◌, ℕ, ◌≤◌, List, [], ◌∷◌, codes, decimal, ⊤}
use Rattle.sig_program.specs.declared.invocation.Invocation.{Invocation}
use Rattle.sig_program.specs.declared.invocation.Invocation.TheVariants.{Reply, Explanation, Demo}
use Rattle.sig_program.specs.Command.{Names}
use Rattle.sig_program.specs.ExplainWords.{IsExplain, NamesExplained}

-- from 1 to 4096
pub record IsDemoCount (count : ℕ) : Type 0 where
  pub some : 1 ≤ count
  pub most : count ≤ 4096

-- the word is such a number in decimal digits, without a sign and without leading zeros
abbrev pub IsCountWord : List ℕ → ℕ → Type 0
IsCountWord word count = (word ≡ decimal count) × IsDemoCount count

-- the words are `demo` and a number of entries
pub record IsDemo (words : List (List ℕ)) (count : ℕ) : Type 0 where
  pub are : words ≡ codes "demo" ∷ decimal count ∷ []
  pub within : IsDemoCount count

-- the words ask for this
abbrev pub Invokes : List (List ℕ) → Invocation → Type 0
Invokes words (Reply command) = Names words command
Invokes words (Explanation what) = NamesExplained words what
Invokes words (Demo count) = IsDemo words count

abbrev pub IsInvocation : List (List ℕ) → Type 0
IsInvocation words = (invocation : Invocation) × Invokes words invocation

-- for private clauses: the words are not those of an explanation, and not those of `demo`
abbrev pub IsNeither : List (List ℕ) → Type 0
IsNeither words = (¬ IsExplain words) × ((count : ℕ) → ¬ IsDemo words count)

-- for private clauses: the number of entries is one that `demo` takes
abbrev pub HasCount : Invocation → Type 0
HasCount (Reply command) = ⊤
HasCount (Explanation what) = ⊤
HasCount (Demo count) = IsDemoCount count
