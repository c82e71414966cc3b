-- What the second lines of `consistency` mean, without proofs: laws above `IsFrontLineOf`.
use Rattle.std.specs.Prelude.{◌≡◌, ◌≤◌, ◌⊎◌, ℕ, List, length, take}
use Rattle.sig_merkle.specs.Root.{root}
use Rattle.sig_program.specs.ConsistencyLink.{IsGrown}
use Rattle.sig_program.specs.SecondLine.{AreOfNow, IsFrontLineOf, prefix_line}
use Rattle.sig_reply.specs.SecondLine.{ShowsCollision}
use Rattle.sig_request.specs.declared.consistency_request.ConsistencyRequest.{ConsistencyRequest}

-- a tree of equal size, or of size 0, is a front of the list: nothing can collide
abbrev pub TrivialFronts : Type 0
TrivialFronts =
    (request : ConsistencyRequest) (entries : List (List ℕ)) (line : List ℕ)
    → IsGrown request → AreOfNow entries request → IsFrontLineOf entries request line
    → (request.old_size ≡ request.tree_size) ⊎ (request.old_size ≡ 0)
    → line ≡ prefix_line request.old_size

-- the root is that of a list of this size, and the older root is that of its first entries
abbrev pub IsFrontOfFront : ConsistencyRequest → ConsistencyRequest → Type 0
IsFrontOfFront older later =
    (entries : List (List ℕ)) × (length entries ≡ later.old_size) × (later.old_root ≡ root entries)
    × (older.old_root ≡ root (take older.old_size entries))

-- Two older trees of one new tree, beside one list of it: one is a front of the other, or a line shows a collision.
abbrev pub FrontsAgree : Type 0
FrontsAgree =
    (older later : ConsistencyRequest) (entries : List (List ℕ)) (older_line later_line : List ℕ)
    → IsGrown later → older.old_size ≤ later.old_size
    → AreOfNow entries older → IsFrontLineOf entries older older_line
    → AreOfNow entries later → IsFrontLineOf entries later later_line
    → IsFrontOfFront older later ⊎ ShowsCollision older_line ⊎ ShowsCollision later_line
