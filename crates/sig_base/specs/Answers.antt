-- What out of memory leaves open: every contract of a call that can run out of memory says it by these words.
use Rattle.std.specs.Prelude.{◌≡◌, ◌⊎◌, Result, Ok, Err}

-- P holds, or x is the value for out of memory: an error, or a result.
abbrev pub OrMemory : {X : Type 0} → X → X → Type 0 → Type 0
OrMemory memory x P = (x ≡ memory) ⊎ P

-- P holds, or the result is the call's own error for out of memory.
abbrev pub UnlessMemory : {X E : Type 0} → E → Result X E → Type 0 → Type 0
UnlessMemory memory result P = OrMemory (Err memory) result P

-- A result is `meant`, which a definition gives, unless memory ran out: `memory` is the call's own error for that, and
-- `view` takes a value of the code to the definition's value.
abbrev pub Answers : {X Y E : Type 0} → E → (X → Y) → Result X E → Result Y E → Type 0
Answers memory view (Ok x) meant = meant ≡ Ok (view x)
Answers memory view (Err e) meant = OrMemory memory e (meant ≡ Err e)

-- A result comes only where P holds, and where P holds no other comes, unless memory ran out.
abbrev pub ComesWhere : {X E : Type 0} → E → Result X E → Result X E → Type 0 → Type 0
ComesWhere memory result answer P = (result ≡ answer → P) × (P → UnlessMemory memory result (result ≡ answer))
