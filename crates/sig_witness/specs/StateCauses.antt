-- *Causes of a state's errors*: each by the first condition of the origins, in order, that does not hold.
use Rattle.std.specs.Prelude.{◌≡◌, ◌≢◌, ◌⊎◌, ℕ, ◌<◌, ◌^◌, List, [], ◌∷◌, length, decimal, Some, Result, Ok, Err}
use Rattle.std.specs.Cmp.Lexicographic.{slice_cmp}
use Rattle.std.specs.List.{AllByRecursion}
use Rattle.std.specs.Ordering.{nat_cmp}
use Rattle.std.specs.declared.cmp.Ordering.TheVariants.{Less}
use Rattle.sig_base.specs.Base64.{base64_bytes}
use Rattle.sig_base.specs.Scheme.{name_of}
use Rattle.sig_base.specs.Sha256.{sha256}
use Rattle.sig_base.specs.declared.scheme.VerifyScheme.{VerifyScheme}
use Rattle.sig_witness.specs.declared.kept_log.KeptLog.{KeptLog}
use Rattle.sig_witness.specs.declared.state_error.StateError.{StateError}
use Rattle.sig_witness.specs.declared.state_error.StateError.TheVariants.{Lines, Origin, Scheme, Key, Size, Hash, Root}
use Rattle.sig_witness.specs.KeptLogs.{line_feed}
use Rattle.sig_witness.specs.StateText.{LogLines, all_before, IsStateOf}

-- no newline is in a line
abbrev pub IsLine : List ℕ → Type 0
IsLine line = AllByRecursion (λ b. b ≢ line_feed) line

pub record AreLines (lines : LogLines) : Type 0 where
  pub origin : IsLine lines.origin
  pub scheme : IsLine lines.scheme
  pub key : IsLine lines.key
  pub size : IsLine lines.size
  pub hash : IsLine lines.hash

-- the text is lines in fives, each line ended by a newline
pub record AreLinesOf (text : List ℕ) (all : List LogLines) : Type 0 where
  pub whole : text ≡ all_before all []
  pub lines : AllByRecursion AreLines all

-- ---- the conditions on the lines of an origin, after those of another origin

-- the origin is above the other in byte order, so not empty
abbrev pub IsAbove : List ℕ → LogLines → Type 0
IsAbove before lines = slice_cmp nat_cmp before lines.origin ≡ Less

-- the second line is the name of a scheme
abbrev pub HasScheme : LogLines → Type 0
HasScheme lines = (scheme : VerifyScheme) × (name_of scheme ≡ lines.scheme)

-- the third is base64
abbrev pub HasKey : LogLines → Type 0
HasKey lines = (key : List ℕ) × (base64_bytes lines.key ≡ Some key)

-- the fourth is a number below 2^64 in decimal, without leading zeros
abbrev pub HasSize : LogLines → Type 0
HasSize lines = (size : ℕ) × (size < 2 ^ 64) × (lines.size ≡ decimal size)

-- the fifth is 32 bytes in base64
abbrev pub IsHashLine : List ℕ → Type 0
IsHashLine line = (hash : List ℕ) × (base64_bytes line ≡ Some hash) × (length hash ≡ 32)

abbrev pub HasHash : LogLines → Type 0
HasHash lines = IsHashLine lines.hash

-- if the size is 0, they are the root of no entries
abbrev pub HasRoot : LogLines → Type 0
HasRoot lines = lines.size ≡ decimal 0 → base64_bytes lines.hash ≡ Some (sha256 [])

-- all of them hold
pub record AreSound (before : List ℕ) (lines : LogLines) : Type 0 where
  pub above : IsAbove before lines
  pub scheme : HasScheme lines
  pub key : HasKey lines
  pub size : HasSize lines
  pub hash : HasHash lines
  pub root : HasRoot lines

-- the first condition fails with its error, or it holds and the others have the fault
abbrev pub Unless : Type 0 → StateError → (StateError → Type 0) → StateError → Type 0
Unless Condition cause others e = (¬ Condition × (e ≡ cause)) ⊎ (Condition × others e)

-- the first condition that does not hold
abbrev pub IsLinesFault : List ℕ → LogLines → StateError → Type 0
IsLinesFault before lines =
    Unless (IsAbove before lines) Origin (Unless (HasScheme lines) Scheme (Unless (HasKey lines) Key
    (Unless (HasSize lines) Size (Unless (HasHash lines) Hash (Unless (HasRoot lines) Root (λ _. ⊥))))))

-- the fault of the first origin whose lines have one
abbrev pub IsFirstFault : List ℕ → List LogLines → StateError → Type 0
IsFirstFault before [] e = ⊥
IsFirstFault before (lines ∷ later) e =
    IsLinesFault before lines e ⊎ (AreSound before lines × IsFirstFault lines.origin later e)

-- *Fault of a state*: the text is not a list of five lines each; or the first fault of its lines
abbrev pub IsStateFault : List ℕ → StateError → Type 0
IsStateFault text e =
    (((all : List LogLines) → ¬ AreLinesOf text all) × (e ≡ Lines))
    ⊎ ((all : List LogLines) × AreLinesOf text all × IsFirstFault [] all e)

-- the result of reading a state: the logs whose text it is, or its first fault
abbrev pub IsStateAnswer : List ℕ → Result (List (List ℕ × KeptLog)) StateError → Type 0
IsStateAnswer text (Ok logs) = IsStateOf text logs
IsStateAnswer text (Err e) = IsStateFault text e
