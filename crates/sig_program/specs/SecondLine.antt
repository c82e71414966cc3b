-- The second line of a reply of status 0, where the request gives the log's entries: what they say of the entry that
-- the inclusion proof is of, and of the old root that the consistency proof is from (RFC 6962 section 2.1).
use Rattle.std.specs.Prelude.{◌≡◌, ℕ, ℤ, pos, ◌⊎◌, List, [], ◌++◌, length, take, slice_get, codes, decimal}
use Rattle.std.specs.Prelude.{Option, Some, None}
use Rattle.std.specs.Fmt.{signed_decimal}
use Rattle.sig_merkle.specs.Root.{root}
use Rattle.sig_rekor.specs.declared.inclusion_proof.InclusionProof.{InclusionProof}
use Rattle.sig_reply.specs.SecondLine.{ShowsCollision, other_line}
use Rattle.sig_request.specs.declared.consistency_request.ConsistencyRequest.{ConsistencyRequest}

-- the entries have this size and this root
abbrev pub AreOfTree : List (List ℕ) → ℕ → List ℕ → Type 0
AreOfTree entries size root_hash = (length entries ≡ size) × (root entries ≡ root_hash)

-- the entries are those of the proof's tree
abbrev pub AreOfProof : List (List ℕ) → InclusionProof → Type 0
AreOfProof entries proof = AreOfTree entries proof.tree_size proof.root_hash

-- the body is the entry at the proof's index
abbrev pub IsEntryAt : List (List ℕ) → InclusionProof → List ℕ → Type 0
IsEntryAt entries proof body =
    (index : ℕ) × (proof.log_index ≡ pos index) × (slice_get entries index ≡ Some body)

abbrev pub entry_line : ℤ → List ℕ
entry_line index = codes "entry " ++ (signed_decimal index ++ codes "\n")

-- the line for this number of first entries
abbrev pub prefix_line : ℕ → List ℕ
prefix_line count = codes "prefix " ++ (decimal count ++ codes "\n")

-- The line of a list: it is not that of the proof's tree; or it is, and the logged body is the entry at the index; or
-- it is, the body is not, and two different byte strings of equal SHA-256 are shown.
abbrev pub IsLineOf : List (List ℕ) → List ℕ → InclusionProof → List ℕ → Type 0
IsLineOf entries body proof line =
    (¬ AreOfProof entries proof × (line ≡ other_line))
    ⊎ (AreOfProof entries proof × IsEntryAt entries proof body × (line ≡ entry_line proof.log_index))
    ⊎ (AreOfProof entries proof × ¬ IsEntryAt entries proof body × ShowsCollision line)

-- the second line of `log` and of `verify`: no line without entries
abbrev pub IsSecondLine : Option (List (List ℕ)) → List ℕ → InclusionProof → List ℕ → Type 0
IsSecondLine None body proof line = line ≡ []
IsSecondLine (Some entries) body proof line = IsLineOf entries body proof line

-- the entries are those of the new tree
abbrev pub AreOfNow : List (List ℕ) → ConsistencyRequest → Type 0
AreOfNow entries request = AreOfTree entries request.tree_size request.root_hash

-- the old root is that of the first entries, whose number is the old size
abbrev pub IsFront : List (List ℕ) → ConsistencyRequest → Type 0
IsFront entries request = request.old_root ≡ root (take request.old_size entries)

-- The line of a list beside a consistency proof: it is not that of the new tree; or it is, and the old root is that
-- of its first entries; or it is, the old root is not, and two different byte strings of equal SHA-256 are shown.
abbrev pub IsFrontLineOf : List (List ℕ) → ConsistencyRequest → List ℕ → Type 0
IsFrontLineOf entries request line =
    (¬ AreOfNow entries request × (line ≡ other_line))
    ⊎ (AreOfNow entries request × IsFront entries request × (line ≡ prefix_line request.old_size))
    ⊎ (AreOfNow entries request × ¬ IsFront entries request × ShowsCollision line)

-- the second line of `consistency`: no line without entries
abbrev pub IsFrontLine : Option (List (List ℕ)) → ConsistencyRequest → List ℕ → Type 0
IsFrontLine None request line = line ≡ []
IsFrontLine (Some entries) request line = IsFrontLineOf entries request line
