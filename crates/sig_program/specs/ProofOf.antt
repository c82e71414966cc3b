-- What an inclusion proof shows (RFC 6962 section 2.1.1).
use Rattle.std.specs.Prelude.{◌≡◌, ℕ, pos, List}
use Rattle.sig_merkle.specs.Inclusion.{IsIncluded}
use Rattle.sig_merkle.specs.Root.{leaf_of}
use Rattle.sig_rekor.specs.declared.inclusion_proof.InclusionProof.{InclusionProof}

-- the hashes lead from the leaf of the body at the index to the root of a tree of the size; no leaf has a negative
-- index
pub record IsProofOf (body : List ℕ) (proof : InclusionProof) : Type 0 where
  pub index : ℕ
  pub place : proof.log_index ≡ pos index
  pub included : IsIncluded index (leaf_of body) proof.tree_size proof.hashes proof.root_hash
