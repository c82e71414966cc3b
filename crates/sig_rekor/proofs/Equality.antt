-- The derived `==` of checkpoints, notes and proofs is equality of all parts.
-- An equality is a path from one side to the other; the path of a record is the record of the paths of its parts.
use Rattle.std.proofs.Common.{◌≡◌, refl, ap}
use Rattle.std.proofs.lemmas.Bool.Decides.{Decides-and, Decides-int_eq}
use Rattle.std.proofs.lemmas.Slice.Eq.{slice_eq-Decides}
use Rattle.std.specs.Bool.{Decides}
use Rattle.std.specs.Cmp.{unsigned_Decides}
use Rattle.sig_base.proofs.PartEquality.{decides_option, decides_texts}
use Rattle.sig_base.proofs.Decisions.{decides_same, decides_bytes}
use Rattle.sig_rekor.specs.contracts.checkpoint.CheckpointPartialEq.TheImpl as note_eq
use Rattle.sig_rekor.specs.contracts.checkpoint.CheckpointSignaturePartialEq.TheImpl as signature_eq
use Rattle.sig_rekor.specs.contracts.checkpoint.OtherContentPartialEq.TheImpl as content_eq
use Rattle.sig_rekor.specs.contracts.checkpoint.SignedCheckpointPartialEq.TheImpl as checkpoint_eq
use Rattle.sig_rekor.specs.contracts.inclusion_proof.InclusionProofPartialEq.TheImpl as proof_eq
use Rattle.sig_rekor.specs.contracts.rekor_proof.RekorInclusionProofPartialEq.TheImpl as api_proof_eq
use Rattle.sig_rekor.specs.declared.checkpoint.Checkpoint.{Checkpoint}
use Rattle.sig_rekor.specs.declared.checkpoint.CheckpointSignature.{CheckpointSignature}
use Rattle.sig_rekor.specs.declared.checkpoint.OtherContent.{OtherContent}
use Rattle.sig_rekor.specs.declared.checkpoint.OtherContent.TheVariants.{KeyValue, Value}
use Rattle.sig_rekor.specs.declared.checkpoint.SignedCheckpoint.{SignedCheckpoint}
use Rattle.sig_rekor.specs.declared.inclusion_proof.InclusionProof.{InclusionProof}
use Rattle.sig_rekor.specs.declared.rekor_proof.RekorInclusionProof.{RekorInclusionProof}

-- ---- notes

content_eq-tells : (a b : OtherContent) → Decides ((content_eq.ghosts).eq a b) (a ≡ b)
content_eq-tells (KeyValue k v) (KeyValue l w) =
    decides_same _ (λ e. rw (e.0, e.1) refl) (λ e. (cc, cc)) (Decides-and _ _ (decides_bytes k l) (decides_bytes v w))
content_eq-tells (KeyValue k v) (Value w) = (λ e. absurd cc, λ e. absurd cc)
content_eq-tells (Value v) (KeyValue l w) = (λ e. absurd cc, λ e. absurd cc)
content_eq-tells (Value v) (Value w) = decides_same _ (λ e. ap Value e) (λ e. cc) (decides_bytes v w)

pub note_eq-tells : (a b : Checkpoint) → Decides ((note_eq.ghosts).eq a b) (a ≡ b)
note_eq-tells a b =
    decides_same _ (λ e i. record { origin = e.0 i; size = e.1.0 i; hash = e.1.1.0 i; other_content = e.1.1.1 i })
    (λ e. rw e (refl, (refl, (refl, refl))))
    (Decides-and _ _ (decides_bytes a.origin b.origin) (Decides-and _ _ (unsigned_Decides a.size b.size)
    (Decides-and _ _ (decides_bytes a.hash b.hash)
    (slice_eq-Decides content_eq-tells a.other_content b.other_content _ refl))))

-- ---- checkpoints

signature_eq-tells : (a b : CheckpointSignature) → Decides ((signature_eq.ghosts).eq a b) (a ≡ b)
signature_eq-tells a b =
    decides_same _ (λ e i. record { key_fingerprint = e.0 i; raw = e.1.0 i; name = e.1.1 i })
    (λ e. rw e (refl, (refl, refl)))
    (Decides-and _ _ (decides_bytes a.key_fingerprint b.key_fingerprint) (Decides-and _ _ (decides_bytes a.raw b.raw)
    (decides_bytes a.name b.name)))

pub checkpoint_eq-tells : (a b : SignedCheckpoint) → Decides ((checkpoint_eq.ghosts).eq a b) (a ≡ b)
checkpoint_eq-tells a b =
    decides_same _ (λ e i. record { note = e.0 i; signatures = e.1 i }) (λ e. rw e (refl, refl))
    (Decides-and _ _ (note_eq-tells a.note b.note)
    (slice_eq-Decides signature_eq-tells a.signatures b.signatures _ refl))

-- ---- proofs

pub proof_eq-tells : (a b : InclusionProof) → Decides ((proof_eq.ghosts).eq a b) (a ≡ b)
proof_eq-tells a b =
    decides_same _ (λ e i. record {
      log_index = e.0 i;
      root_hash = e.1.0 i;
      tree_size = e.1.1.0 i;
      hashes = e.1.1.1.0 i;
      checkpoint = e.1.1.1.1 i;
    }) (λ e. rw e (refl, (refl, (refl, (refl, refl)))))
    (Decides-and _ _ (Decides-int_eq a.log_index b.log_index) (Decides-and _ _ (decides_bytes a.root_hash b.root_hash)
    (Decides-and _ _ (unsigned_Decides a.tree_size b.tree_size) (Decides-and _ _ (decides_texts a.hashes b.hashes)
    (decides_option _ checkpoint_eq-tells a.checkpoint b.checkpoint)))))

pub api_proof_eq-tells : (a b : RekorInclusionProof) → Decides ((api_proof_eq.ghosts).eq a b) (a ≡ b)
api_proof_eq-tells a b =
    decides_same _ (λ e i. record {
      hashes = e.0 i;
      log_index = e.1.0 i;
      root_hash = e.1.1.0 i;
      tree_size = e.1.1.1.0 i;
      checkpoint = e.1.1.1.1 i;
    }) (λ e. rw e (refl, (refl, (refl, (refl, refl)))))
    (Decides-and _ _ (decides_texts a.hashes b.hashes) (Decides-and _ _ (Decides-int_eq a.log_index b.log_index)
    (Decides-and _ _ (decides_bytes a.root_hash b.root_hash)
    (Decides-and _ _ (unsigned_Decides a.tree_size b.tree_size) (decides_bytes a.checkpoint b.checkpoint)))))
