-- The links `note-key`, `note-match` and `inclusion`.
use Rattle.std.proofs.Common.{◌≡◌, ℕ, ◌<◌, ℤ, pos, negsuc, Bool, true, false, cond, nat_lt, List, [], ◌∷◌, Some}
use Rattle.std.proofs.Common.{Result, Ok, Err, inl, inr, refl, sym, ap, subst, arith, ◌∙◌}
use Rattle.std.proofs.lemmas.Bool.{ltb-false, le-ltb}
use Rattle.std.specs.Cmp.Lexicographic.{bytes_decides}
use Rattle.std.specs.Prelude.{Option}
use Rattle.std.specs.Str.{bytes_eq}
use Rattle.sig_base.specs.declared.error.SigstoreError.{SigstoreError}
use Rattle.sig_base.specs.declared.error.SigstoreError.TheVariants.{CheckpointSignatureVerificationError}
use Rattle.sig_base.specs.declared.error.SigstoreError.TheVariants.{ConsistencyProofError}
use Rattle.sig_base.specs.declared.merkle_error.MerkleProofError.{MerkleProofError}
use Rattle.sig_base.specs.declared.merkle_error.MerkleProofError.TheVariants.{NewTreeSmaller, UnexpectedEmptyProof}
use Rattle.sig_base.specs.declared.merkle_error.MerkleProofError.TheVariants.{MismatchedRoot}
use Rattle.sig_base.specs.declared.scheme.VerifyScheme.{VerifyScheme}
use Rattle.sig_bundle.specs.Proof.{IsProof}
use Rattle.sig_bundle.specs.declared.material.ProofFields.{ProofFields}
use Rattle.sig_bundle.specs.declared.material.TransparencyLogEntry.{TransparencyLogEntry}
use Rattle.sig_merkle.proofs.InclusionLaws.{inclusion_answers}
use Rattle.sig_merkle.specs.Inclusion.{IsIncluded, inclusion_answer}
use Rattle.sig_merkle.specs.Path.{path_root}
use Rattle.sig_merkle.specs.Root.{leaf_of}
use Rattle.sig_rekor.specs.Verify.{and_then, as_inclusion, checkpoint_answer, inclusion_at, has_accepted_signature}
use Rattle.sig_rekor.specs.Verify.{proof_answer}
use Rattle.sig_rekor.specs.Verify.{signed_answer, tree_answer}
use Rattle.sig_rekor.specs.declared.checkpoint.SignedCheckpoint.{SignedCheckpoint}
use Rattle.sig_rekor.specs.declared.inclusion_proof.InclusionProof.{InclusionProof}
use Rattle.sig_verify.proofs.EntryKeys.{one_key}
use Rattle.sig_verify.proofs.EntryProofs.{at_checkpoint, at_proof}
use Rattle.sig_verify.specs.ContentCheck.{AcceptsSpki}
use Rattle.sig_verify.specs.EntryLinks.{HasLogKey, HoldsOfEntry, IsLed, IsNoteOf, IsNoteSigned, IsOfBytes, IsPlaced}
use Rattle.sig_verify.specs.EntryLinks.{LogKeys}
use Rattle.sig_verify.specs.EntryLinks.{OfCheckpoint, OfPlace}
use Rattle.sig_verify.specs.Judged.{Judged}
use Rattle.sig_verify.specs.LogEntry.{from_proof}
use Rattle.sig_verify.specs.OfflineErrors.{link_of, of_proof}
use Rattle.sig_verify.specs.declared.link.Link.{Link}
use Rattle.sig_verify.specs.declared.link.Link.TheVariants.{NoteKey, NoteMatch, Inclusion}

-- one check says whether one link holds
abbrev Says : (Link → Type 0) → Link → Result (Unit {0}) SigstoreError → Type 0
Says Holds link (Ok _) = Holds link
Says Holds link (Err error) = ¬ Holds link × (link_of (of_proof error) ≡ Some link)

judged_three : (Holds : Link → Type 0) (s t i : Result (Unit {0}) SigstoreError) → Says Holds NoteKey s
    → Says Holds NoteMatch t
    → Says Holds Inclusion i
    → Judged Holds (NoteKey ∷ NoteMatch ∷ Inclusion ∷ []) (from_proof (and_then (and_then s t) i))
judged_three Holds (Err error) t i one two three = (NoteKey, one.1, inl (one.0, refl))
judged_three Holds (Ok _) (Err error) i one two three = (NoteMatch, two.1, inr (one, inl (two.0, refl)))
judged_three Holds (Ok _) (Ok _) (Err error) one two three =
    (Inclusion, three.1, inr (one, inr (two, inl (three.0, refl))))
judged_three Holds (Ok _) (Ok _) (Ok _) one two three = (one, (two, (three, tt)))

pub pos_same : (m n : ℕ) → pos m ≡ pos n → m ≡ n
pos_same m n e = cc

-- of one index and one size
at_place : (p : ProofFields) (index size : ℕ) (P : ℕ → ℕ → Type 0) → p.log_index ≡ pos index → p.tree_size ≡ pos size
    → OfPlace p P → P index size
at_place p index size P place leaves holds =
    subst (λ (n : ℕ). P index n) (pos_same holds.1 size (sym holds.3 ∙ leaves))
    (subst (λ (m : ℕ). P m holds.1) (pos_same holds.0 index (sym holds.2 ∙ place)) holds.4)

module _ (spki : AcceptsSpki) (keys : LogKeys) (e : TransparencyLogEntry) (bytes : IsOfBytes keys e)
    (key : VerifyScheme × List ℕ) (has : HasLogKey keys e key) (p : ProofFields) (is : e.inclusion_proof ≡ Some p)
    (proof : InclusionProof) (of : IsProof p proof) where
  -- what holds of the checkpoint
  note_of : (P : ProofFields → SignedCheckpoint → Type 0) → OfCheckpoint e P → P p of.checkpoint
  note_of P holds = at_checkpoint e p of.checkpoint P is of.decoded holds

  -- ---- the signature

  says_signed : (b : Bool) → has_accepted_signature (spki key.0 key.1) of.checkpoint ≡ b
      → Says (HoldsOfEntry spki keys e) NoteKey (cond b (Ok tt) (Err CheckpointSignatureVerificationError))
  says_signed true said = (key, has, (p, is, (of.checkpoint, of.decoded, said)))
  says_signed false said = (
    (λ holds.
        let same : holds.0 ≡ key = one_key keys e bytes key holds.0 has holds.1 in
        let other : has_accepted_signature (spki holds.0.0 holds.0.1) of.checkpoint ≡ true =
        note_of (λ q n. IsNoteSigned (spki holds.0.0 holds.0.1) n) holds.2 in
        let signed : has_accepted_signature (spki key.0 key.1) of.checkpoint ≡ true =
        subst (λ (k : VerifyScheme × List ℕ). has_accepted_signature (spki k.0 k.1) of.checkpoint ≡ true) same other in
        let wrong : true ≡ false = sym signed ∙ said in absurd cc),
    refl,
  )

  -- ---- the tree

  -- the note's size is the proof's
  sized : OfCheckpoint e IsNoteOf → of.checkpoint.note.size ≡ proof.tree_size
  sized holds = pos_same of.checkpoint.note.size proof.tree_size (sym (note_of IsNoteOf holds).0 ∙ of.size)

  says_tree : (a b c : Bool) → nat_lt proof.tree_size of.checkpoint.note.size ≡ a
      → nat_lt of.checkpoint.note.size proof.tree_size ≡ b
      → bytes_eq of.checkpoint.note.hash proof.root_hash ≡ c
      → Says (HoldsOfEntry spki keys e) NoteMatch
      (cond a (Err (ConsistencyProofError (NewTreeSmaller proof.tree_size of.checkpoint.note.size)))
      (cond b (Err (ConsistencyProofError UnexpectedEmptyProof))
      (cond c (Ok tt) (Err (ConsistencyProofError (MismatchedRoot (record {
        root =
            of.checkpoint.note.hash;
      }) (record { root = proof.root_hash })))))))
  says_tree true b c larger smaller equal = (
    (λ holds.
        let fits : nat_lt proof.tree_size of.checkpoint.note.size ≡ false =
        le-ltb proof.tree_size of.checkpoint.note.size (omega (arith, sized holds)) in
        let wrong : true ≡ false = sym larger ∙ fits in absurd cc),
    refl,
  )
  says_tree false true c larger smaller equal = (
    (λ holds.
        let fits : nat_lt of.checkpoint.note.size proof.tree_size ≡ false =
        le-ltb of.checkpoint.note.size proof.tree_size (omega (arith, sized holds)) in
        let wrong : true ≡ false = sym smaller ∙ fits in absurd cc),
    refl,
  )
  says_tree false false true larger smaller equal =
      let size : proof.tree_size ≡ of.checkpoint.note.size =
      omega (
        arith,
        ltb-false proof.tree_size of.checkpoint.note.size larger,
        ltb-false of.checkpoint.note.size
            proof.tree_size smaller,
      ) in
      let hash : of.checkpoint.note.hash ≡ proof.root_hash =
      (bytes_decides of.checkpoint.note.hash proof.root_hash).0 equal in
      (p, is, (of.checkpoint, of.decoded, (of.size ∙ ap (λ (n : ℕ). pos n) size, hash ∙ of.root.0)))
  says_tree false false false larger smaller equal = (
    (λ holds.
        let hash : of.checkpoint.note.hash ≡ proof.root_hash = (note_of IsNoteOf holds).1 ∙ sym of.root.0 in
        let same : bytes_eq of.checkpoint.note.hash proof.root_hash ≡ true =
        (bytes_decides of.checkpoint.note.hash proof.root_hash).1 hash in
        let wrong : true ≡ false = sym same ∙ equal in absurd cc),
    refl,
  )

  -- ---- the path

  -- by the names of the proof that was read, and by those of the members
  led : (index : ℕ)
      → path_root index (leaf_of e.canonicalized_body) proof.tree_size proof.hashes ≡ Some proof.root_hash
      → path_root index (leaf_of e.canonicalized_body) proof.tree_size p.hashes ≡ Some p.root_hash
  led index path =
      ap (λ (hs : List (List ℕ)). path_root index (leaf_of e.canonicalized_body) proof.tree_size hs) (sym of.hashes.0)
      ∙ path ∙ ap (λ (r : List ℕ). Some r) of.root.0

  led_back : (index : ℕ) → path_root index (leaf_of e.canonicalized_body) proof.tree_size p.hashes ≡ Some p.root_hash
      → path_root index (leaf_of e.canonicalized_body) proof.tree_size proof.hashes ≡ Some proof.root_hash
  led_back index path =
      ap (λ (hs : List (List ℕ)). path_root index (leaf_of e.canonicalized_body) proof.tree_size hs) of.hashes.0
      ∙ path ∙ ap (λ (r : List ℕ). Some r) (sym of.root.0)

  says_result : (index : ℕ) → p.log_index ≡ pos index → (r : Result (Unit {0}) MerkleProofError)
      → inclusion_answer index (leaf_of e.canonicalized_body) proof.tree_size proof.hashes proof.root_hash ≡ r
      → Says (HoldsOfEntry spki keys e) Inclusion (as_inclusion r)
  says_result index place (Ok done) said =
      let included : IsIncluded index (leaf_of e.canonicalized_body) proof.tree_size proof.hashes proof.root_hash =
      (inclusion_answers index proof.tree_size (leaf_of e.canonicalized_body) proof.root_hash proof.hashes
      (Ok done)).0 said in (
        (p, is, (index, proof.tree_size, place, of.size, included.0)),
        (p, is, (index, proof.tree_size, place, of.size, led index included.1)),
      )
  says_result index place (Err refusal) said = (
    (λ holds.
        let within : index < proof.tree_size =
        at_place p index proof.tree_size (λ m n. m < n) place of.size (at_proof e p IsPlaced is holds.0) in
        let path : path_root index (leaf_of e.canonicalized_body) proof.tree_size p.hashes ≡ Some p.root_hash =
        at_place p index proof.tree_size (λ m n. path_root m (leaf_of e.canonicalized_body) n p.hashes ≡ Some
        p.root_hash) place of.size
        (at_proof e p (IsLed e) is holds.1) in
        let both : ◌≡◌ {A = Result (Unit {0}) MerkleProofError} (Ok tt) (Err refusal) =
        sym ((inclusion_answers index proof.tree_size (leaf_of e.canonicalized_body) proof.root_hash proof.hashes
        (Ok tt)).1
        (within, led_back index path)) ∙ said in absurd cc),
    refl,
  )

  says_path : (z : ℤ) → proof.log_index ≡ z
      → Says (HoldsOfEntry spki keys e) Inclusion (inclusion_at z e.canonicalized_body proof)
  says_path (pos index) said =
      says_result index (sym of.index ∙ said)
      (inclusion_answer index (leaf_of e.canonicalized_body) proof.tree_size proof.hashes proof.root_hash) refl
  says_path (negsuc n) said = (
    (λ holds.
        let there : OfPlace p (λ m n. m < n) = at_proof e p IsPlaced is holds.0 in
        let both : pos there.0 ≡ negsuc n = sym there.2 ∙ sym of.index ∙ said in absurd cc),
    refl,
  )

  -- ---- all three

  pub judged_path : Judged (HoldsOfEntry spki keys e) (NoteKey ∷ NoteMatch ∷ Inclusion ∷ [])
      (from_proof (proof_answer (spki key.0 key.1) e.canonicalized_body proof))
  unfolding proof_answer
  judged_path =
      subst (λ (o : Option SignedCheckpoint). Judged (HoldsOfEntry spki keys e) (NoteKey ∷ NoteMatch ∷ Inclusion ∷ [])
      (from_proof (and_then (checkpoint_answer (spki key.0 key.1) proof o)
      (inclusion_at proof.log_index e.canonicalized_body proof))))
      (sym of.carried)
      (judged_three (HoldsOfEntry spki keys e)
      (signed_answer (spki key.0 key.1) of.checkpoint) (tree_answer of.checkpoint proof.root_hash proof.tree_size)
      (inclusion_at proof.log_index e.canonicalized_body proof)
      (says_signed (has_accepted_signature (spki key.0 key.1) of.checkpoint) refl)
      (says_tree (nat_lt proof.tree_size of.checkpoint.note.size) (nat_lt of.checkpoint.note.size proof.tree_size)
      (bytes_eq of.checkpoint.note.hash proof.root_hash) refl refl refl)
      (says_path proof.log_index refl))
