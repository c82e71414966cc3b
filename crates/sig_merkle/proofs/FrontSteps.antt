-- The trees of a list and of its front, from the halves to the whole.
use Rattle.std.proofs.Common.{◌≡◌, ℕ, ◌+◌, ◌-◌, ◌<◌, ◌≤◌, Bool, false, List, [], length, take, sym, ◌∙◌, arith}
use Rattle.sig_base.specs.Sha256.{sha256}
use Rattle.sig_merkle.specs.AuditPath.{AreHalves}
use Rattle.sig_merkle.specs.Consistency.{roots_len}
use Rattle.sig_merkle.specs.Root.{node_of, root}
use Rattle.sig_merkle.proofs.ConsistencyLens.{roots_len-left, roots_len-right}
use Rattle.sig_merkle.proofs.HalfSteps.{halves-length}
use Rattle.sig_merkle.proofs.RootLaws.{root-none}
use Rattle.sig_merkle.proofs.AcceptedSubproofs.{root-older}

-- the front has no entry
pub front-none : (count : ℕ) (entries : List (List ℕ)) (node : List ℕ) → count ≡ 0 → node ≡ sha256 []
    → node ≡ root (take count entries)
front-none count entries node none is = is ∙ rw none (sym root-none)

-- the front has entries in the right half
pub front-over : (count : ℕ) (entries left right : List (List ℕ)) (one other node : List ℕ)
    → AreHalves entries left right → length left < count → count ≤ length entries → one ≡ root left
    → other ≡ root (take (count - length left) right) → node ≡ node_of one other → node ≡ root (take count entries)
front-over count entries left right one other node h past within is other_is hashed =
    hashed ∙ rw (is, other_is) (sym (rw (← h.front, ← h.back) at (root-older count (length left) entries h.split past
    within)))

-- how many nodes are hashed, where the front is within the left half
pub front_steps-left : (count before first rest after : ℕ) (known : Bool) (entries left right : List (List ℕ))
    → AreHalves entries left right → count ≤ length left
    → first ≤ before + (length left - 1) + roots_len count (length left) known
    → rest ≤ first + (length right - 1) → after ≡ rest + 1
    → after ≤ before + (length entries - 1) + roots_len count (length entries) known
front_steps-left count before first rest after known entries left right h within first_is rest_is after_is =
    let lengths = halves-length entries left right h in
    let some = lengths.some in
    let below = lengths.below in
    let whole = lengths.whole in
    omega (arith, roots_len-left count (length entries) (length left) known h.split within)

-- and where it has entries in the right half
pub front_steps-right : (count before first rest between after : ℕ) (known : Bool)
    (entries left right : List (List ℕ)) → AreHalves entries left right → length left < count
    → count < length entries → first ≤ before + (length left - 1)
    → rest ≤ first + (length right - 1) + roots_len (count - length left) (length right) false
    → between ≡ rest + 1 → after ≡ between + 1
    → after ≤ before + (length entries - 1) + roots_len count (length entries) known
front_steps-right count before first rest between after known entries left right h past older first_is rest_is
    between_is after_is =
    let lengths = halves-length entries left right h in
    let some = lengths.some in
    let below = lengths.below in
    let whole = lengths.whole in
    let fits : length right ≡ length entries - length left = omega arith in
    let bound : rest ≤ first + (length right - 1)
    + roots_len (count - length left) (length entries - length left) false = rw (← fits) rest_is in
    omega (arith, bound, fits, roots_len-right count (length entries) (length left) known h.split past older)
