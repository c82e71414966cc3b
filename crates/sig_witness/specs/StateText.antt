-- *Witness state text*: for each origin in byte order five lines, each ended by a newline: the origin, the name of the
-- key's scheme, the key in base64, the size of the kept head in decimal and its root hash in base64.
use Rattle.std.specs.Prelude.{◌≡◌, ℕ, ◌<◌, ◌^◌, List, [], ◌∷◌, ◌++◌, length, map, decimal, Option, Some, None, unwrap_or}
use Rattle.std.specs.List.{AllByRecursion}
use Rattle.base64.specs.GeneralPurpose.{IsBytes}
use Rattle.sig_base.specs.Base64.{base64_text}
use Rattle.sig_base.specs.ByText.{KeysAscend}
use Rattle.sig_base.specs.Scheme.{name_of}
use Rattle.sig_key.specs.Key.{key_scheme, key_info}
use Rattle.sig_audit.specs.declared.chain.ChainHead.{ChainHead}
use Rattle.sig_witness.specs.declared.kept_log.KeptLog.{KeptLog}
use Rattle.sig_witness.specs.KeptLogs.{IsHead, IsOriginText, first_head, last_of, line_feed}

-- the five lines of an origin
pub record LogLines : Type 0 where
  pub origin : List ℕ
  pub scheme : List ℕ
  pub key : List ℕ
  pub size : List ℕ
  pub hash : List ℕ

-- the five lines before a text, each ended by a newline
abbrev pub lines_before : LogLines → List ℕ → List ℕ
lines_before lines rest =
    lines.origin ++ line_feed ∷ (lines.scheme ++ line_feed ∷ (lines.key ++ line_feed ∷ (lines.size ++ line_feed ∷
    (lines.hash ++ line_feed ∷ rest))))

-- the lines of each origin before a text
abbrev pub all_before : List LogLines → List ℕ → List ℕ
all_before [] rest = rest
all_before (lines ∷ later) rest = lines_before lines (all_before later rest)

-- the kept head of a log; no chain is empty
abbrev pub kept_head : KeptLog → ChainHead
kept_head log = unwrap_or (last_of log.chain) first_head

-- the lines of an origin and its log
abbrev pub lines_of : List ℕ × KeptLog → LogLines
lines_of entry =
    let head = kept_head entry.1 in
    record {
      origin = entry.0;
      scheme = name_of (key_scheme entry.1.key);
      key = base64_text (key_info entry.1.key);
      size = decimal head.size;
      hash = base64_text head.hash;
    }

abbrev pub state_text : List (List ℕ × KeptLog) → List ℕ
state_text logs = all_before (map lines_of logs) []

-- ---- what is read back

-- a chain cut to its last head, without that head's hashes
abbrev pub cut_chain : Option ChainHead → List ChainHead
cut_chain None = []
cut_chain (Some last) = record { size = last.size; hash = last.hash; hashes = [] } ∷ []

abbrev pub cut_entry : List ℕ × KeptLog → List ℕ × KeptLog
cut_entry entry = (entry.0, record { key = entry.1.key; chain = cut_chain (last_of entry.1.chain) })

-- each chain is cut to its last head
abbrev pub cut_logs : List (List ℕ × KeptLog) → List (List ℕ × KeptLog)
cut_logs logs = map cut_entry logs

-- what the types say of a head: a number below 2^64, an array of 32 bytes
pub record IsHeadValue (head : ChainHead) : Type 0 where
  pub size : head.size < 2 ^ 64
  pub sized : length head.hash ≡ 32
  pub bytes : IsBytes head.hash

-- a log of one head, that has no hashes
pub record IsCutLog (log : KeptLog) : Type 0 where
  pub key : IsBytes (key_info log.key)
  pub head : ChainHead
  pub only : log.chain ≡ head ∷ []
  pub hashes : head.hashes ≡ []
  pub sound : IsHead head
  pub value : IsHeadValue head

-- an origin with such a log
abbrev pub IsCutEntry : List ℕ × KeptLog → Type 0
IsCutEntry entry = IsOriginText entry.0 × IsCutLog entry.1

-- the text is that of these logs, each of which has one head
pub record IsStateOf (text : List ℕ) (logs : List (List ℕ × KeptLog)) : Type 0 where
  pub written : text ≡ state_text logs
  pub ordered : KeysAscend logs
  pub cut : AllByRecursion IsCutEntry logs
