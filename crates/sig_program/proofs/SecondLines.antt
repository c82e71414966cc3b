-- The second line, from what the entries are.
use Rattle.std.proofs.Common.{◌≡◌, ◌↔◌, ℕ, pos, inl, inr, List, length, take, slice_get, Option, Some}
use Rattle.std.specs.Prelude.{IfSome, IsNone}
use Rattle.std.proofs.Common.{Result, IfOk, ap, subst, sym}
use Rattle.std.proofs.lemmas.Bool.{false≢true}
use Rattle.std.proofs.Math.Seq.{take-length}
use Rattle.std.proofs.lemmas.Result.{IfOk-weaker}
use Rattle.sig_base.specs.Collision.{IsCollision}
use Rattle.sig_base.specs.declared.collision.Collision.{Collision}
use Rattle.sig_base.specs.declared.memory.OutOfMemory.{OutOfMemory}
use Rattle.sig_merkle.specs.HashedText.{AreHashedTexts}
use Rattle.sig_merkle.specs.Inclusion.{IsIncluded}
use Rattle.sig_merkle.specs.Root.{leaf_of, root}
use Rattle.sig_rekor.specs.declared.inclusion_proof.InclusionProof.{InclusionProof}
use Rattle.sig_verify.proofs.EntryPaths.{pos_same}
use Rattle.sig_program.proofs.ProofPaths.{included-at, logged-negative}
use Rattle.sig_program.specs.ProofOf.{IsProofOf}
use Rattle.sig_program.specs.SecondLine.{AreOfProof, IsEntryAt, IsLineOf, entry_line}
use Rattle.sig_reply.specs.SecondLine.{collision_line, other_line}

-- the root of as many entries as there are
pub whole_list : (entries : List (List ℕ)) (count : ℕ) → count ≡ length entries
    → root (take count entries) ≡ root entries
whole_list entries count all = ap (λ list. root list) (rw all (take-length entries))

-- the proof is accepted for the list's size and root
pub included-in : (entries : List (List ℕ)) (body : List ℕ) (proof : InclusionProof) (index : ℕ)
    → IsProofOf body proof → AreOfProof entries proof → proof.log_index ≡ pos index
    → IsIncluded index (leaf_of body) (length entries) proof.hashes (root entries)
included-in entries body proof index is tree place = rw (tree.0, tree.1) (included-at body proof index place is)

pub other-line : (entries : List (List ℕ)) (body : List ℕ) (proof : InclusionProof) (r : Result (List ℕ) OutOfMemory)
    → ¬ AreOfProof entries proof → IfOk r (λ line. line ≡ other_line) → IfOk r (IsLineOf entries body proof)
other-line entries body proof r other is =
    IfOk-weaker r (λ line. line ≡ other_line) (IsLineOf entries body proof) (λ line same. inl (other, same)) is

pub entry-line : (entries : List (List ℕ)) (body : List ℕ) (proof : InclusionProof) (index : ℕ)
    (r : Result (List ℕ) OutOfMemory) → AreOfProof entries proof → proof.log_index ≡ pos index
    → slice_get entries index ≡ Some body → IfOk r (λ line. line ≡ entry_line proof.log_index)
    → IfOk r (IsLineOf entries body proof)
entry-line entries body proof index r tree place at is =
    IfOk-weaker r (λ line. line ≡ entry_line proof.log_index) (IsLineOf entries body proof)
    (λ line same. inr (inl (tree, (index, place, at), same))) is

-- the body is not the entry at the one index
not-at : (entries : List (List ℕ)) (body : List ℕ) (proof : InclusionProof) (index : ℕ) → proof.log_index ≡ pos index
    → ¬ (slice_get entries index ≡ Some body) → ¬ IsEntryAt entries proof body
not-at entries body proof index place other (found, found_place, at) =
    let same : found ≡ index = pos_same found index cc in
    other (subst (λ (i : ℕ). slice_get entries i ≡ Some body) same at)

collision-line : (entries : List (List ℕ)) (body : List ℕ) (proof : InclusionProof) (index : ℕ)
    (left right : List ℕ) (r : Result (List ℕ) OutOfMemory) → AreOfProof entries proof → proof.log_index ≡ pos index
    → ¬ (slice_get entries index ≡ Some body) → IsCollision left right → AreHashedTexts left right
    → IfOk r (λ line. line ≡ collision_line left right) → IfOk r (IsLineOf entries body proof)
collision-line entries body proof index left right r tree place other collides hashed is =
    IfOk-weaker r (λ line. line ≡ collision_line left right) (IsLineOf entries body proof)
    (λ line same. inr (inr (
      tree,
      not-at entries body proof index place other,
      record { left = left; right = right; collides = collides; hashed = hashed; shown = same },
    ))) is

-- the same of what the extractor found
pub found-line : (entries : List (List ℕ)) (body : List ℕ) (proof : InclusionProof) (index : ℕ)
    (found : Option Collision) (shown : Collision) (r : Result (List ℕ) OutOfMemory)
    → AreOfProof entries proof → proof.log_index ≡ pos index → found ≡ Some shown
    → (IsNone found ↔ (slice_get entries index ≡ Some body)) → IfSome found (λ c. IsCollision c.left c.right)
    → IfSome found (λ c. AreHashedTexts c.left c.right)
    → IfOk r (λ line. line ≡ collision_line shown.left shown.right) → IfOk r (IsLineOf entries body proof)
found-line entries body proof index found shown r tree place which none collides hashed is =
    let C : Collision → Type 0 = λ c. IsCollision c.left c.right in
    let H : Collision → Type 0 = λ c. AreHashedTexts c.left c.right in
    let both : IsCollision shown.left shown.right =
    subst (λ (o : Option Collision). IfSome o C) which collides in
    let texts : AreHashedTexts shown.left shown.right =
    subst (λ (o : Option Collision). IfSome o H) which hashed in
    let other : ¬ (slice_get entries index ≡ Some body) = λ at.
    false≢true (sym (subst (λ (o : Option Collision). IsNone o) which (none.1 at))) in
    collision-line entries body proof index shown.left shown.right r tree place other both texts is

pub ruleset second_lines = (included-in, other-line, entry-line, found-line, logged-negative)
