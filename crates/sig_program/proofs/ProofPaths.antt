-- The path of a proof.
use Rattle.std.proofs.Common.{◌≡◌, ◌↔◌, List, ℕ, pos, negsuc, subst}
use Rattle.sig_merkle.specs.Inclusion.{IsIncluded}
use Rattle.sig_merkle.specs.Root.{leaf_of}
use Rattle.sig_rekor.specs.declared.inclusion_proof.InclusionProof.{InclusionProof}
use Rattle.sig_verify.proofs.EntryPaths.{pos_same}
use Rattle.sig_program.specs.ProofOf.{IsProofOf}

-- the path is that of the index, where that is not negative
pub included-at : (body : List ℕ) (proof : InclusionProof) (index : ℕ) → proof.log_index ≡ pos index
    → IsProofOf body proof → IsIncluded index (leaf_of body) proof.tree_size proof.hashes proof.root_hash
included-at body proof index place is =
    let same : is.index ≡ index = pos_same is.index index (let e = is.place in cc) in
    let P : ℕ → Type 0 = λ i. IsIncluded i (leaf_of body) proof.tree_size proof.hashes proof.root_hash in
    subst P same is.included

pub logged-at : (body : List ℕ) (proof : InclusionProof) (index : ℕ) → proof.log_index ≡ pos index
    → IsIncluded index (leaf_of body) proof.tree_size proof.hashes proof.root_hash ↔ IsProofOf body proof
logged-at body proof index place = (
  λ included. record { index = index; place = place; included = included },
  included-at body proof index place,
)

-- no leaf has a negative index
pub logged-negative : (body : List ℕ) (proof : InclusionProof) (index : ℕ) → proof.log_index ≡ negsuc index
    → ¬ IsProofOf body proof
logged-negative body proof index below is = let e = is.place in cc

pub ruleset logged = (logged-at, logged-negative)
