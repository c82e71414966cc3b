-- What holds of the logs in every witness.
use Rattle.std.specs.Prelude.{◌≡◌, ◌≢◌, ℕ, ◌-◌, ◌≤◌, List, [], ◌∷◌, length, slice_get, Option, Some, None}
use Rattle.std.specs.List.{AllByRecursion}
use Rattle.sig_base.specs.ByText.{text_lookup, KeysAscend}
use Rattle.sig_base.specs.Sha256.{sha256}
use Rattle.sig_key.specs.declared.verification_key.CosignVerificationKey.{CosignVerificationKey}
use Rattle.sig_audit.specs.Chained.{AreChained}
use Rattle.sig_audit.specs.declared.chain.ChainHead.{ChainHead}
use Rattle.sig_witness.specs.declared.kept_log.KeptLog.{KeptLog}
use Rattle.sig_witness.specs.Updates.{most_heads}

-- U+000A, which ends a line
abbrev pub line_feed : ℕ
line_feed = 10

-- an origin is a line that is not empty
pub record IsOriginText (origin : List ℕ) : Type 0 where
  pub written : origin ≢ []
  pub line : AllByRecursion (λ b. b ≢ line_feed) origin

-- a head of no leaves has the root of no entries (RFC 6962 section 2.1)
abbrev pub IsHead : ChainHead → Type 0
IsHead head = head.size ≡ 0 → head.hash ≡ sha256 []

-- the heads that are kept of a log: chained, and not too many
pub record IsKeptChain (chain : List ChainHead) : Type 0 where
  pub chained : AreChained chain
  pub heads : AllByRecursion IsHead chain
  pub room : length chain ≤ most_heads

abbrev pub IsKeptLog : List ℕ × KeptLog → Type 0
IsKeptLog entry = IsOriginText entry.0 × IsKeptChain entry.1.chain

-- *Kept logs*: origins in byte order, each once, with the chained heads of each
pub record AreKept (logs : List (List ℕ × KeptLog)) : Type 0 where
  pub ordered : KeysAscend logs
  pub kept : AllByRecursion IsKeptLog logs

-- an origin's first head, of the tree without leaves, and its log
abbrev pub first_head : ChainHead
first_head = record { size = 0; hash = sha256 []; hashes = [] }

abbrev pub new_log : CosignVerificationKey → KeptLog
new_log key = record { key = key; chain = first_head ∷ [] }

abbrev pub log_key : KeptLog → CosignVerificationKey
log_key log = log.key

-- the heads of a log that may be there
abbrev pub chain_of : Option KeptLog → List ChainHead
chain_of None = []
chain_of (Some log) = log.chain

-- the heads that are kept of an origin
abbrev pub chain_at : List ℕ → List (List ℕ × KeptLog) → List ChainHead
chain_at origin logs = chain_of (text_lookup origin logs)

-- the last of these, if there is one
abbrev pub last_of : {X : Type 0} → List X → Option X
last_of elements = slice_get elements (length elements - 1)

-- what a head says: its size and its root
abbrev pub size_and_root : ChainHead → ℕ × List ℕ
size_and_root head = (head.size, head.hash)
