-- What the writers of a proof and of an entry make, member by member.
use Rattle.std.proofs.Common.{◌≡◌, option_map, refl}
use Rattle.std.specs.Prelude.{codes}
use Rattle.sig_json.specs.Data.{Data, object, Members, no_members, put}
use Rattle.sig_bundle.specs.BundleTree.{checkpoint_tree, entry_tree, kind_version_tree, log_id_tree}
use Rattle.sig_bundle.specs.BundleTree.{promise_record_tree}
use Rattle.sig_bundle.specs.BundleTree.{proof_tree}
use Rattle.sig_json.specs.Writing.{put_some, integer_tree, bytes_tree, list_tree}
use Rattle.sig_bundle.specs.declared.material.ProofFields.{ProofFields}
use Rattle.sig_bundle.specs.declared.material.TransparencyLogEntry.{TransparencyLogEntry}

pub proof_written : (p : ProofFields) (document : Data) (a b c d e f : Members)
    → a ≡ no_members → b ≡ put (codes "logIndex") (integer_tree p.log_index) a
    → c ≡ put (codes "rootHash") (bytes_tree p.root_hash) b
    → d ≡ put (codes "treeSize") (integer_tree p.tree_size) c
    → e ≡ put (codes "hashes") (list_tree bytes_tree p.hashes) d
    → f ≡ put_some (codes "checkpoint") (option_map checkpoint_tree p.checkpoint) e → document ≡ object f
    → document ≡ proof_tree p
unfolding proof_tree
proof_written p document a b c d e f first second third fourth fifth sixth whole =
    rw (whole, sixth, fifth, fourth, third, second, first) refl

pub entry_written : (p : TransparencyLogEntry) (document : Data) (a b c d e f g h : Members)
    → a ≡ no_members → b ≡ put (codes "logIndex") (integer_tree p.log_index) a
    → c ≡ put_some (codes "logId") (option_map log_id_tree p.log_id) b
    → d ≡ put_some (codes "kindVersion") (option_map kind_version_tree p.kind_version) c
    → e ≡ put (codes "integratedTime") (integer_tree p.integrated_time) d
    → f ≡ put_some (codes "inclusionPromise") (option_map promise_record_tree p.inclusion_promise) e
    → g ≡ put_some (codes "inclusionProof") (option_map proof_tree p.inclusion_proof) f
    → h ≡ put (codes "canonicalizedBody") (bytes_tree p.canonicalized_body) g → document ≡ object h
    → document ≡ entry_tree p
unfolding entry_tree
entry_written p document a b c d e f g h first second third fourth fifth sixth seventh eighth whole =
    rw (whole, eighth, seventh, sixth, fifth, fourth, third, second, first) refl
