-- What is read of the lines of an origin, for private clauses.
use Rattle.std.specs.Prelude.{◌≡◌, ◌≢◌, ℕ, ◌<◌, ◌^◌, List, [], ◌∷◌, length, map, decimal, Some}
use Rattle.std.specs.List.{AllByRecursion}
use Rattle.base64.specs.GeneralPurpose.{IsBytes}
use Rattle.sig_base.specs.Base64.{base64_bytes, base64_text}
use Rattle.sig_base.specs.ByText.{KeysAscend}
use Rattle.sig_base.specs.Scheme.{name_of}
use Rattle.sig_key.specs.Key.{key_scheme, key_info}
use Rattle.sig_key.specs.declared.verification_key.CosignVerificationKey.{CosignVerificationKey}
use Rattle.sig_audit.specs.declared.chain.ChainHead.{ChainHead}
use Rattle.sig_witness.specs.declared.kept_log.KeptLog.{KeptLog}
use Rattle.sig_witness.specs.declared.state_error.StateError.{StateError}
use Rattle.sig_witness.specs.declared.state_error.StateError.TheVariants.{Scheme, Key, Size, Hash, Root}
use Rattle.sig_witness.specs.KeptLogs.{IsHead}
use Rattle.sig_witness.specs.StateText.{LogLines, lines_of, IsCutLog}
use Rattle.sig_witness.specs.StateCauses.{HasScheme, HasKey, HasSize, HasHash, HasRoot, AreSound, Unless}

-- bytes whose base64 a line is
pub record IsBase64Of (line bytes : List ℕ) : Type 0 where
  pub read : base64_bytes line ≡ Some bytes
  pub written : base64_text bytes ≡ line
  pub are_bytes : IsBytes bytes

-- the key that the second and the third line say
pub record IsKeyOf (lines : LogLines) (key : CosignVerificationKey) : Type 0 where
  pub scheme : name_of (key_scheme key) ≡ lines.scheme
  pub info : IsBase64Of lines.key (key_info key)

abbrev pub IsKeyFault : LogLines → StateError → Type 0
IsKeyFault lines = Unless (HasScheme lines) Scheme (Unless (HasKey lines) Key (λ _. ⊥))

-- the head that the fourth and the fifth line say
pub record IsHeadOf (lines : LogLines) (head : ChainHead) : Type 0 where
  pub size : lines.size ≡ decimal head.size
  pub hash : IsBase64Of lines.hash head.hash
  pub hashes : head.hashes ≡ []
  pub sound : IsHead head
  pub small : head.size < 2 ^ 64
  pub sized : length head.hash ≡ 32

abbrev pub IsHeadFault : LogLines → StateError → Type 0
IsHeadFault lines =
    Unless (HasSize lines) Size (Unless (HasHash lines) Hash (Unless (HasRoot lines) Root (λ _. ⊥)))

-- the log that lines say, after those of another origin
pub record IsLogOf (before : List ℕ) (lines : LogLines) (log : KeptLog) : Type 0 where
  pub sound : AreSound before lines
  pub cut : IsCutLog log
  pub same : lines_of (lines.origin, log) ≡ lines

-- the origin that the last of these has, or else the one before them
abbrev pub last_origin : List ℕ → List (List ℕ × KeptLog) → List ℕ
last_origin before [] = before
last_origin before (entry ∷ later) = last_origin entry.0 later

-- an origin that is not empty, with a log of one head
abbrev pub IsReadEntry : List ℕ × KeptLog → Type 0
IsReadEntry entry = (entry.0 ≢ []) × IsCutLog entry.1

-- the logs that all lines say
pub record AreLogsOf (all : List LogLines) (logs : List (List ℕ × KeptLog)) : Type 0 where
  pub lines : map lines_of logs ≡ all
  pub ordered : KeysAscend logs
  pub read : AllByRecursion IsReadEntry logs
