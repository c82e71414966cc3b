-- The request of `log` for an entry of the demonstration's log: as the document that it is, and as what that means.
use Rattle.std.specs.Prelude.{◌≡◌, ℕ, pos, List, [], ◌∷◌, codes, Some, None}
use Rattle.hex.specs.Hex.{encode_lower}
use Rattle.sig_base.specs.declared.checker.AcceptedRow.{AcceptedRow}
use Rattle.sig_base.specs.declared.checker.Operation.TheVariants.{Message}
use Rattle.sig_base.specs.declared.scheme.SigningScheme.TheVariants.{ECDSA_P256_SHA256_ASN1}
use Rattle.sig_json.specs.Writing.{bytes_tree, list_tree, object_of}
use Rattle.sig_json.specs.Data.{Data, number, string}
use Rattle.sig_json.specs.Find.{of_integer}
use Rattle.sig_rekor.specs.CheckpointText.{checkpoint_text}
use Rattle.sig_rekor.specs.NoteText.{note_text}
use Rattle.sig_request.specs.declared.request.LogRequest.{LogRequest}
use Rattle.sig_demo.specs.Log.{demo_checkpoint, demo_entry, demo_index}
use Rattle.sig_demo.specs.declared.log.DemoLog.{DemoLog}

-- the name of the scheme under which the log signs
abbrev pub demo_scheme : List ℕ
demo_scheme = codes "ECDSA_P256_SHA256_ASN1"

-- the made-up key of the log
abbrev pub demo_key : List ℕ
demo_key = codes "key"

-- the row that says that the log's key signed this note text
abbrev pub row_over : List ℕ → AcceptedRow
row_over message = record {
  operation = Message;
  scheme = demo_scheme;
  key = demo_key;
  message = message;
  signature = codes "sig";
}

-- the row of the note of the log's checkpoint
abbrev pub demo_row : DemoLog → AcceptedRow
demo_row log = row_over (note_text (demo_checkpoint log).note)

-- a hash as 64 hexadecimal digits in lower case
abbrev pub hash_tree : List ℕ → Data
hash_tree hash = string (encode_lower hash)

-- an accepted signature over a message (RFC 8259): its texts in base64, except for the scheme's name
unfoldable pub row_tree : AcceptedRow → Data
row_tree row =
    object_of (
    (codes "operation", Some (string (codes "message")))
    ∷ (codes "scheme", Some (string row.scheme))
    ∷ (codes "key", Some (bytes_tree row.key))
    ∷ (codes "message", Some (bytes_tree row.message))
    ∷ (codes "signature", Some (bytes_tree row.signature))
    ∷ []
    )

-- the request as a document: the entry and its proof, the log's signed checkpoint with the scheme and the key under
-- which it is checked, the one accepted signature, and all entries
unfoldable pub request_tree : DemoLog → Data
request_tree log =
    object_of (
    (codes "entry", Some (bytes_tree (demo_entry (demo_index log.count))))
    ∷ (codes "logIndex", Some (number (of_integer (pos (demo_index log.count)))))
    ∷ (codes "treeSize", Some (number (of_integer (pos log.count))))
    ∷ (codes "rootHash", Some (hash_tree log.root))
    ∷ (codes "hashes", Some (list_tree hash_tree log.path))
    ∷ (codes "checkpoint", Some (string (checkpoint_text (demo_checkpoint log))))
    ∷ (codes "scheme", Some (string demo_scheme))
    ∷ (codes "key", Some (bytes_tree demo_key))
    ∷ (codes "accepted", Some (list_tree row_tree (demo_row log ∷ [])))
    ∷ (codes "entries", Some (list_tree bytes_tree log.entries))
    ∷ []
    )

-- what the request means
unfoldable pub request_of : DemoLog → LogRequest
request_of log = record {
  entry = demo_entry (demo_index log.count);
  proof = record {
    log_index = pos (demo_index log.count);
    root_hash = log.root;
    tree_size = log.count;
    hashes = log.path;
    checkpoint = None;
  };
  head = record {
    checkpoint = checkpoint_text (demo_checkpoint log);
    scheme = ECDSA_P256_SHA256_ASN1;
    key = demo_key;
    accepted = demo_row log ∷ [];
  };
  entries = Some log.entries;
}
