-- The demonstration's log of a number of entries, and the signed checkpoint of its tree.
use Rattle.std.specs.Prelude.{ℕ, zero, suc, ◌+◌, ◌/◌, List, [], ◌∷◌, ◌++◌, codes, decimal}
use Rattle.sig_merkle.specs.AuditPath.{audit_path}
use Rattle.sig_merkle.specs.Root.{root}
use Rattle.sig_rekor.specs.declared.checkpoint.CheckpointSignature.{CheckpointSignature}
use Rattle.sig_rekor.specs.declared.checkpoint.SignedCheckpoint.{SignedCheckpoint}
use Rattle.sig_demo.specs.declared.log.DemoLog.{DemoLog}

-- the entry at an index: `L`, and the decimal of 123456 and the index
abbrev pub demo_entry : ℕ → List ℕ
demo_entry index = codes "L" ++ decimal (123456 + index)

-- the entries before an index
unfoldable pub demo_entries : ℕ → List (List ℕ)
demo_entries zero = []
demo_entries (suc index) = demo_entries index ++ demo_entry index ∷ []

-- the index of the entry that is asked for, which is the middle one
abbrev pub demo_index : ℕ → ℕ
demo_index count = count / 2

-- the log of this number of entries: the root of their tree, and the audit path of the entry that is asked for (RFC
-- 6962 sections 2.1 and 2.1.1)
unfoldable pub demo_log : ℕ → DemoLog
demo_log count = record {
  count = count;
  entries = demo_entries count;
  root = root (demo_entries count);
  path = audit_path (demo_index count) (demo_entries count);
}

-- the signature of the log's checkpoint: `sig`, of the key `demo` with the fingerprint 1
abbrev pub demo_signature : CheckpointSignature
demo_signature = record { key_fingerprint = 0 ∷ 0 ∷ 0 ∷ 1 ∷ []; raw = codes "sig"; name = codes "demo" }

-- the log's signed checkpoint, of origin `demo`
abbrev pub demo_checkpoint : DemoLog → SignedCheckpoint
demo_checkpoint log = record {
  note = record { origin = codes "demo"; size = log.count; hash = log.root; other_content = [] };
  signatures = demo_signature ∷ [];
}
