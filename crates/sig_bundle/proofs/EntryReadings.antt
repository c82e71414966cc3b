-- Log entries are read back, record by record.
use Rattle.std.proofs.Common.{ℕ, pos, List, [], refl}
use Rattle.std.specs.Prelude.{codes}
use Rattle.sig_json.specs.Data.{string}
use Rattle.sig_json.specs.CommonRecord.{log_id_of}
use Rattle.sig_bundle.specs.BundleRecord.{checkpoint_envelope_of, entry_of, kind_version_of, promise_of}
use Rattle.sig_bundle.specs.BundleRecord.{proof_of}
use Rattle.sig_bundle.specs.BundleTree.{checkpoint_members, checkpoint_tree, entry_members, entry_tree}
use Rattle.sig_bundle.specs.BundleTree.{kind_version_members}
use Rattle.sig_bundle.specs.BundleTree.{kind_version_tree, log_id_members, log_id_tree, promise_members}
use Rattle.sig_bundle.specs.BundleTree.{promise_record_tree}
use Rattle.sig_bundle.specs.BundleTree.{proof_members, proof_tree}
use Rattle.sig_json.specs.Writing.{integer_tree, bytes_tree, list_tree, IsReadAs, OptionIsRead}
use Rattle.sig_bundle.specs.declared.material.KindVersion.{KindVersion}
use Rattle.sig_bundle.specs.declared.material.ProofFields.{ProofFields}
use Rattle.sig_bundle.specs.declared.material.TransparencyLogEntry.{TransparencyLogEntry}
use Rattle.sig_bundle.proofs.FoundMembers.{found, found_option}
use Rattle.sig_json.specs.Kinds.{bytes_of, i64_of, text_of}
use Rattle.sig_json.specs.Member.{list_each}

pub text_back : (text : List ℕ) → IsReadAs text_of (string text) text
unfolding text_of
text_back text = (refl, refl)

pub log_id_back : (id : List ℕ) → IsReadAs bytes_of (bytes_tree id) id → IsReadAs log_id_of (log_id_tree id) id
unfolding log_id_tree
log_id_back id back = (found [] bytes_of (codes "keyId") (log_id_members id) (bytes_tree id) id refl back, refl)

pub promise_back : (signature : List ℕ) → IsReadAs bytes_of (bytes_tree signature) signature
    → IsReadAs promise_of (promise_record_tree signature) signature
unfolding promise_record_tree
promise_back signature back = (
  found [] bytes_of (codes "signedEntryTimestamp") (promise_members signature) (bytes_tree signature) signature refl
      back,
  refl,
)

pub checkpoint_back : (text : List ℕ) → IsReadAs checkpoint_envelope_of (checkpoint_tree text) text
unfolding checkpoint_tree
checkpoint_back text =
    (found [] text_of (codes "envelope") (checkpoint_members text) (string text) text refl (text_back text), refl)

pub kind_version_back : (k : KindVersion) → IsReadAs kind_version_of (kind_version_tree k) k
unfolding kind_version_tree kind_version_of
kind_version_back k = (
  rw (
    found [] text_of (codes "kind") (kind_version_members k) (string k.kind) k.kind refl (text_back k.kind),
    found [] text_of (codes "version") (kind_version_members k) (string k.version) k.version refl
        (text_back k.version),
  ) refl,
  refl,
)

pub proof_back : (p : ProofFields) → IsReadAs i64_of (integer_tree p.log_index) p.log_index
    → IsReadAs bytes_of (bytes_tree p.root_hash) p.root_hash
    → IsReadAs i64_of (integer_tree p.tree_size) p.tree_size
    → IsReadAs (list_each bytes_of) (list_tree bytes_tree p.hashes) p.hashes
    → OptionIsRead checkpoint_envelope_of checkpoint_tree p.checkpoint → IsReadAs proof_of (proof_tree p) p
unfolding proof_tree proof_of
proof_back p index root size hashes checkpoint = (
  rw (
    found (pos 0) i64_of (codes "logIndex") (proof_members p) _ p.log_index refl index,
    found [] bytes_of (codes "rootHash") (proof_members p) _ p.root_hash refl root,
    found (pos 0) i64_of (codes "treeSize") (proof_members p) _ p.tree_size refl size,
    found [] (list_each bytes_of) (codes "hashes") (proof_members p) _ p.hashes refl hashes,
    found_option checkpoint_envelope_of checkpoint_tree (codes "checkpoint")
        (proof_members p) p.checkpoint refl checkpoint,
  ) refl,
  refl,
)

pub entry_back : (e : TransparencyLogEntry) → IsReadAs i64_of (integer_tree e.log_index) e.log_index
    → OptionIsRead log_id_of log_id_tree e.log_id
    → OptionIsRead kind_version_of kind_version_tree e.kind_version
    → IsReadAs i64_of (integer_tree e.integrated_time) e.integrated_time
    → OptionIsRead promise_of promise_record_tree e.inclusion_promise
    → OptionIsRead proof_of proof_tree e.inclusion_proof
    → IsReadAs bytes_of (bytes_tree e.canonicalized_body) e.canonicalized_body → IsReadAs entry_of (entry_tree e) e
unfolding entry_tree entry_of
entry_back e index id kind time promise proof body = (
  rw (
    found (pos 0) i64_of (codes "logIndex") (entry_members e) _ e.log_index refl index,
    found_option log_id_of log_id_tree (codes "logId") (entry_members e) e.log_id refl id,
    found_option kind_version_of kind_version_tree (codes "kindVersion") (entry_members e) e.kind_version refl kind,
    found (pos 0) i64_of (codes "integratedTime") (entry_members e) _ e.integrated_time refl time,
    found_option promise_of promise_record_tree (codes "inclusionPromise")
        (entry_members e) e.inclusion_promise refl promise,
    found_option proof_of proof_tree (codes "inclusionProof") (entry_members e) e.inclusion_proof refl proof,
    found [] bytes_of (codes "canonicalizedBody") (entry_members e) _ e.canonicalized_body refl body,
  ) refl,
  refl,
)

pub ruleset back = (log_id_back, promise_back, checkpoint_back, kind_version_back, proof_back, entry_back)
