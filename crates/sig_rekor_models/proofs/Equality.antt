-- The derived `==` of proofs and heads is equality of all parts.
-- An equality is a path from one side to the other; the path of a record is the record of the paths of its parts.
use Rattle.std.proofs.Common.{◌≡◌, List, Bool, refl}
use Rattle.std.proofs.lemmas.Bool.Decides.{Decides-and}
use Rattle.std.proofs.lemmas.Slice.Eq.{slice_eq-Decides}
use Rattle.std.specs.Bool.{Decides}
use Rattle.std.specs.Cmp.{unsigned_Decides}
use Rattle.std.specs.Cmp.Lexicographic.{pointwise}
use Rattle.sig_base.proofs.PartEquality.{decides_option, decides_texts}
use Rattle.sig_base.proofs.Decisions.{decides_bytes, decides_result, decides_same}
use Rattle.sig_rekor.proofs.Equality.{checkpoint_eq-tells}
use Rattle.sig_rekor_models.specs.contracts.consistency_proof.ConsistencyProofPartialEq.TheImpl as proof_eq
use Rattle.sig_rekor_models.specs.contracts.consistency_proof.RekorConsistencyProofPartialEq.TheImpl as api_proof_eq
use Rattle.sig_rekor_models.specs.contracts.log_info.InactiveShardLogInfoPartialEq.TheImpl as shard_eq
use Rattle.sig_rekor_models.specs.contracts.log_info.LogInfoPartialEq.TheImpl as head_eq
use Rattle.sig_rekor_models.specs.contracts.log_info.RekorLogInfoPartialEq.TheImpl as api_head_eq
use Rattle.sig_rekor_models.specs.declared.consistency_proof.ConsistencyProof.{ConsistencyProof}
use Rattle.sig_rekor_models.specs.declared.consistency_proof.RekorConsistencyProof.{RekorConsistencyProof}
use Rattle.sig_rekor_models.specs.declared.log_info.InactiveShardLogInfo.{InactiveShardLogInfo}
use Rattle.sig_rekor_models.specs.declared.log_info.LogInfo.{LogInfo}
use Rattle.sig_rekor_models.specs.declared.log_info.RekorLogInfo.{RekorLogInfo}

-- ---- consistency proofs

proof_eq-tells : (a b : ConsistencyProof) → Decides ((proof_eq.ghosts).eq a b) (a ≡ b)
proof_eq-tells a b =
    decides_same _ (λ e i. record { root_hash = e.0 i; hashes = e.1 i }) (λ e. rw e (refl, refl))
    (Decides-and _ _ (decides_bytes a.root_hash b.root_hash) (decides_texts a.hashes b.hashes))

api_proof_eq-tells : (a b : RekorConsistencyProof) → Decides ((api_proof_eq.ghosts).eq a b) (a ≡ b)
api_proof_eq-tells a b =
    decides_same _ (λ e i. record { root_hash = e.0 i; hashes = e.1 i }) (λ e. rw e (refl, refl))
    (Decides-and _ _ (decides_bytes a.root_hash b.root_hash) (decides_texts a.hashes b.hashes))

pub proof_law : (a b : ConsistencyProof) (r : Bool) → r ≡ (proof_eq.ghosts).eq a b → Decides r (a ≡ b)
proof_law a b r is = decides_result r _ is (proof_eq-tells a b)

pub api_proof_law : (a b : RekorConsistencyProof) (r : Bool) → r ≡ (api_proof_eq.ghosts).eq a b → Decides r (a ≡ b)
api_proof_law a b r is = decides_result r _ is (api_proof_eq-tells a b)

-- ---- heads

shard_eq-tells : (a b : InactiveShardLogInfo) → Decides ((shard_eq.ghosts).eq a b) (a ≡ b)
shard_eq-tells a b =
    decides_same _ (λ e i. record {
      root_hash = e.0 i;
      signed_tree_head = e.1.0 i;
      tree_id = e.1.1.0 i;
      tree_size = e.1.1.1 i;
    }) (λ e. rw e (refl, (refl, (refl, refl))))
    (Decides-and _ _ (decides_bytes a.root_hash b.root_hash)
    (Decides-and _ _ (decides_bytes a.signed_tree_head b.signed_tree_head)
    (Decides-and _ _ (decides_bytes a.tree_id b.tree_id) (unsigned_Decides a.tree_size b.tree_size))))

shards_eq-tells : (a b : List InactiveShardLogInfo) → Decides (pointwise ((shard_eq.ghosts).eq) a b) (a ≡ b)
shards_eq-tells a b = slice_eq-Decides shard_eq-tells a b _ refl

head_eq-tells : (a b : LogInfo) → Decides ((head_eq.ghosts).eq a b) (a ≡ b)
head_eq-tells a b =
    decides_same _ (λ e i. record {
      root_hash = e.0 i;
      tree_size = e.1.0 i;
      signed_tree_head = e.1.1.0 i;
      tree_id = e.1.1.1.0 i;
      inactive_shards = e.1.1.1.1 i;
    }) (λ e. rw e (refl, (refl, (refl, (refl, refl)))))
    (Decides-and _ _ (decides_bytes a.root_hash b.root_hash)
    (Decides-and _ _ (unsigned_Decides a.tree_size b.tree_size)
    (Decides-and _ _ (checkpoint_eq-tells a.signed_tree_head b.signed_tree_head)
    (Decides-and _ _ (decides_option _ decides_bytes a.tree_id b.tree_id)
    (decides_option _ shards_eq-tells a.inactive_shards b.inactive_shards)))))

api_head_eq-tells : (a b : RekorLogInfo) → Decides ((api_head_eq.ghosts).eq a b) (a ≡ b)
api_head_eq-tells a b =
    decides_same _ (λ e i. record {
      root_hash = e.0 i;
      tree_size = e.1.0 i;
      signed_tree_head = e.1.1.0 i;
      tree_id = e.1.1.1.0 i;
      inactive_shards = e.1.1.1.1 i;
    }) (λ e. rw e (refl, (refl, (refl, (refl, refl)))))
    (Decides-and _ _ (decides_bytes a.root_hash b.root_hash)
    (Decides-and _ _ (unsigned_Decides a.tree_size b.tree_size)
    (Decides-and _ _ (checkpoint_eq-tells a.signed_tree_head b.signed_tree_head)
    (Decides-and _ _ (decides_option _ decides_bytes a.tree_id b.tree_id)
    (decides_option _ shards_eq-tells a.inactive_shards b.inactive_shards)))))

pub shard_law : (a b : InactiveShardLogInfo) (r : Bool) → r ≡ (shard_eq.ghosts).eq a b → Decides r (a ≡ b)
shard_law a b r is = decides_result r _ is (shard_eq-tells a b)

pub head_law : (a b : LogInfo) (r : Bool) → r ≡ (head_eq.ghosts).eq a b → Decides r (a ≡ b)
head_law a b r is = decides_result r _ is (head_eq-tells a b)

pub api_head_law : (a b : RekorLogInfo) (r : Bool) → r ≡ (api_head_eq.ghosts).eq a b → Decides r (a ≡ b)
api_head_law a b r is = decides_result r _ is (api_head_eq-tells a b)

pub ruleset equal_heads = (proof_law, api_proof_law, shard_law)
