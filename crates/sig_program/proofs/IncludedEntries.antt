-- Where the link `inclusion` of `verify` holds, the proof of the bundle's log entry is one of its body.
use Rattle.std.proofs.Common.{◌≡◌, ◌<◌, ℕ, List, [], ◌∷◌, Ok, subst}
use Rattle.std.specs.List.{AllByRecursion}
use Rattle.sig_bundle.specs.BundleRecord.{bundle_in}
use Rattle.sig_checked_bundle.specs.Checked.{Checked}
use Rattle.sig_checked_bundle.specs.Passed.{IsPassed}
use Rattle.sig_bundle.specs.Proof.{IsProof}
use Rattle.sig_bundle.specs.declared.bundle.Bundle.{Bundle}
use Rattle.sig_bundle.specs.declared.material.ProofFields.{ProofFields}
use Rattle.sig_bundle.specs.declared.material.TransparencyLogEntry.{TransparencyLogEntry}
use Rattle.sig_rekor.specs.declared.inclusion_proof.InclusionProof.{InclusionProof}
use Rattle.sig_verify.specs.EntryLinks.{IsLed, IsPlaced, OfProof}
use Rattle.sig_verify.specs.LinkLaws.{IsKept}
use Rattle.sig_verify.specs.Links.{HoldsOf, Inputs, OfPassed, Outside, chain_links}
use Rattle.sig_verify.specs.declared.link.Link.{Link}
use Rattle.sig_verify.specs.declared.link.Link.TheVariants.{Inclusion, RootJson}
use Rattle.sig_verify.specs.declared.logged_entry.LoggedEntry.{LoggedEntry}
use Rattle.sig_verify.proofs.EntryPaths.{pos_same}
use Rattle.sig_program.specs.ProofOf.{IsProofOf}

-- a proof with these members, by which the body's leaf is placed and led to the root
proof_by_members : (body : List ℕ) (e : TransparencyLogEntry) (p : ProofFields) (proof : InclusionProof)
    → body ≡ e.canonicalized_body → IsProof p proof → IsPlaced p → IsLed e p → IsProofOf body proof
proof_by_members body e p proof same is (index, size, at, of, within) (index2, size2, at2, of2, path) =
    let fits = is.size in
    let root = is.root.0 in
    let hashes = is.hashes.0 in
    let place = is.index in
    let count : size ≡ proof.tree_size = pos_same size proof.tree_size cc in
    let count2 : size2 ≡ proof.tree_size = pos_same size2 proof.tree_size cc in
    let at_same : index2 ≡ index = pos_same index2 index cc in
    record { index = index; place = cc; included = (subst (λ (n : ℕ). index < n) count within, cc) }

-- an entry has one proof
one_proof : (body : List ℕ) (e : TransparencyLogEntry) (proof : InclusionProof) → body ≡ e.canonicalized_body
    → OfProof e (λ p. IsProof p proof) → OfProof e IsPlaced → OfProof e (IsLed e) → IsProofOf body proof
one_proof body e proof same (p, there, is) (q, there2, placed) (r, there3, led) =
    let same_q : q ≡ p = cc in
    let same_r : r ≡ p = cc in
    proof_by_members body e p proof same is (subst IsPlaced same_q placed) (subst (IsLed e) same_r led)

-- and a bundle's text one log entry
one_entry : (text : List ℕ) (b d : Bundle) (c k : Checked) → bundle_in text ≡ Ok b → bundle_in text ≡ Ok d
    → IsPassed b c → IsPassed d k → c.entry ≡ k.entry
one_entry text b d c k is other passed passed_too =
    let brought = passed.brought in
    let brought_too = passed_too.brought in
    let logged = passed.logged in
    let logged_too = passed_too.logged in
    cc

-- what holds of the one entry, of the entry that is kept
of_kept : (i : Inputs) (c : Checked) (b : Bundle) (P : TransparencyLogEntry → Type 0) → bundle_in i.bundle ≡ Ok b
    → IsPassed b c → OfPassed i (λ k. P k.entry) → P c.entry
of_kept i c b P is passed (d, other, (k, passed_too, holds)) =
    subst P (one_entry i.bundle d b k c other is passed_too passed) holds

pub proof_in : (o : Outside) (i : Inputs) (offline : LoggedEntry) → HoldsOf o i Inclusion
    → OfPassed i (λ c. IsKept c.entry offline) → IsProofOf offline.body offline.proof
proof_in o i offline ((root, root_is, placed), (root2, root_is2, led)) (b, is, (c, passed, kept)) =
    one_proof offline.body c.entry offline.proof kept.body kept.proof
    (of_kept i c b (λ e. OfProof e IsPlaced) is passed placed)
    (of_kept i c b (λ e. OfProof e (IsLed e)) is passed led)

-- the last of the links holds
abbrev last_of : Link → List Link → Link
last_of link [] = link
last_of link (next ∷ rest) = last_of next rest

abbrev after : List Link → List Link
after [] = []
after (link ∷ rest) = rest

holds-last : (P : Link → Type 0) (link : Link) (rest : List Link) → AllByRecursion P (link ∷ rest)
    → P (last_of link rest)
holds-last P link [] every = every.0
holds-last P link (next ∷ rest) every = holds-last P next rest every.1

pub every-included : (o : Outside) (i : Inputs) (offline : LoggedEntry) → AllByRecursion (HoldsOf o i) chain_links
    → OfPassed i (λ c. IsKept c.entry offline) → IsProofOf offline.body offline.proof
every-included o i offline every kept =
    proof_in o i offline (holds-last (HoldsOf o i) RootJson (after chain_links) every) kept
