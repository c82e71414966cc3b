-- The law of consistency proofs as a function that cuts its entries in two takes it.
use Rattle.std.proofs.Common.{◌≡◌, ℕ, ◌-◌, ◌<◌, ◌≤◌, Bool, false, List, [], ◌∷◌, ◌++◌, length, sym, append_assoc}
use Rattle.sig_merkle.specs.Root.{root}
use Rattle.sig_merkle.specs.AuditPath.{AreHalves}
use Rattle.sig_merkle.specs.ConsistencyProof.{shared_proof, subproof}
use Rattle.sig_merkle.proofs.SubproofLaws.{subproof-shared, subproof-left, subproof-right}

pub proof-shared : (old_size : ℕ) (entries : List (List ℕ)) (known : Bool) → old_size ≡ length entries
    → subproof old_size entries known ≡ shared_proof known entries
proof-shared old_size entries known same = rw same (subproof-shared entries known)

pub proof-in_left : (old_size : ℕ) (entries left right : List (List ℕ)) (known : Bool) → AreHalves entries left right
    → old_size ≤ length left → subproof old_size entries known ≡ subproof old_size left known ++ root right ∷ []
proof-in_left old_size entries left right known h within =
    rw (← h.front, ← h.back) at (subproof-left old_size (length left) entries known h.split within)

pub proof-in_right : (old_size : ℕ) (entries left right : List (List ℕ)) (known : Bool) → AreHalves entries left right
    → length left < old_size → old_size < length entries → subproof old_size entries known
    ≡ subproof (old_size - length left) right false ++ root left ∷ []
proof-in_right old_size entries left right known h past older =
    rw (← h.front, ← h.back) at (subproof-right old_size (length left) entries known h.split past older)

-- what pushing the hashes of a proof cites
pub ruleset pushes_proof = (proof-shared, proof-in_left, proof-in_right, append_assoc)
