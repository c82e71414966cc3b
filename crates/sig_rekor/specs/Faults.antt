-- Where each fault comes: the rules of the checkpoint format in their order, each stated of a text in the format's own
-- words. A fault has the name of the rule that a text breaks first.
use Rattle.std.specs.Prelude.{◌≡◌, ℕ, ◌≤◌, ◌⊎◌, false, List, [], ◌∷◌, ◌++◌, length, filter, Some, ⊤}
use Rattle.std.specs.List.{AllByRecursion}
use Rattle.std.specs.Str.{trim_end}
use Rattle.sig_base.specs.Base64.{base64_bytes}
use Rattle.sig_base.specs.declared.fault.CheckpointFault.{CheckpointFault}
use Rattle.sig_base.specs.declared.fault.CheckpointFault.TheVariants.{Format, NoDash, SignatureFormat, SignatureBase64}
use Rattle.sig_base.specs.declared.fault.CheckpointFault.TheVariants.{SignatureLength, NoteFormat, EmptyOrigin, Size}
use Rattle.sig_base.specs.declared.fault.CheckpointFault.TheVariants.{HashBase64, HashLength}
use Rattle.sig_rekor.specs.declared.checkpoint.CheckpointSignature.{CheckpointSignature}
use Rattle.sig_rekor.specs.TextCuts.{IsTrimmed, IsCut, IsParts, Lacks}
use Rattle.sig_base.specs.Rules.{FailsFirst}
use Rattle.sig_rekor.specs.NoteText.{line_feed, newline, hash_len, is_blank, IsSize}
use Rattle.sig_rekor.specs.SignatureText.{em_dash, space, fingerprint_len, IsSignature}
use Rattle.sig_rekor.specs.CheckpointText.{quotation_mark, empty_line, is_written}

-- the text is at least three lines, and this holds of the first three
abbrev pub OfLines : List ℕ → (List ℕ → List ℕ → List ℕ → Type 0) → Type 0
OfLines text P =
    (origin size hash : List ℕ) × (others : List (List ℕ)) × IsParts newline text (origin ∷ size ∷ hash ∷ others)
    × P origin size hash

-- the text is base64, and this holds of its bytes
abbrev pub OfBytes : List ℕ → (List ℕ → Type 0) → Type 0
OfBytes text P = (bytes : List ℕ) × (base64_bytes text ≡ Some bytes) × P bytes

-- what a rule asks of a note: three lines, an origin that is not only white space, a size, a hash in base64, and of
-- 32 bytes
abbrev pub NoteKeeps : List ℕ → CheckpointFault → Type 0
NoteKeeps text NoteFormat = OfLines text (λ origin size hash. ⊤)
NoteKeeps text EmptyOrigin = OfLines text (λ origin size hash. is_blank origin ≡ false)
NoteKeeps text Size = OfLines text (λ origin size hash. (n : ℕ) × IsSize size n)
NoteKeeps text HashBase64 = OfLines text (λ origin size hash. OfBytes hash (λ bytes. ⊤))
NoteKeeps text HashLength = OfLines text (λ origin size hash. OfBytes hash (λ bytes. length bytes ≡ hash_len))
NoteKeeps text _ = ⊤

abbrev pub note_rules : List CheckpointFault
note_rules = NoteFormat ∷ EmptyOrigin ∷ Size ∷ HashBase64 ∷ HashLength ∷ []

-- *Fault of a note*: the first of its rules that the text breaks
abbrev pub IsNoteFault : List ℕ → CheckpointFault → Type 0
IsNoteFault text fault = FailsFirst (NoteKeeps text) note_rules fault

-- with newlines trimmed, the text has three parts between single spaces, and this holds of the third
abbrev pub OfThird : List ℕ → (List ℕ → Type 0) → Type 0
OfThird text P =
    (line first name coded : List ℕ) × IsTrimmed line_feed text line × IsParts space line (first ∷ name ∷ coded ∷ [])
    × P coded

-- what a rule asks of a signature: an em dash, three parts, the third in base64, and of at least four bytes
abbrev pub SignatureKeeps : List ℕ → CheckpointFault → Type 0
SignatureKeeps text NoDash = (line after : List ℕ) × IsTrimmed line_feed text line × (line ≡ em_dash ++ after)
SignatureKeeps text SignatureFormat = OfThird text (λ coded. ⊤)
SignatureKeeps text SignatureBase64 = OfThird text (λ coded. OfBytes (trim_end coded) (λ bytes. ⊤))
SignatureKeeps text SignatureLength =
    OfThird text (λ coded. OfBytes (trim_end coded) (λ bytes. fingerprint_len ≤ length bytes))
SignatureKeeps text _ = ⊤

abbrev pub signature_rules : List CheckpointFault
signature_rules = NoDash ∷ SignatureFormat ∷ SignatureBase64 ∷ SignatureLength ∷ []

-- *Fault of a signature*: the first of its rules that the text breaks
abbrev pub IsSignatureFault : List ℕ → CheckpointFault → Type 0
IsSignatureFault text fault = FailsFirst (SignatureKeeps text) signature_rules fault

abbrev pub StandsForSignature : List ℕ → Type 0
StandsForSignature text = (signature : CheckpointSignature) × IsSignature text signature

-- the fault of the first piece, from the left, that is not a signature
abbrev pub IsPieceFault : List (List ℕ) → CheckpointFault → Type 0
IsPieceFault [] fault = ⊥
IsPieceFault (piece ∷ pieces) fault =
    IsSignatureFault piece fault ⊎ (StandsForSignature piece × IsPieceFault pieces fault)

-- with quotation marks trimmed, no empty line is in the text
abbrev pub LacksEmptyLine : List ℕ → Type 0
LacksEmptyLine text = (body : List ℕ) × IsTrimmed quotation_mark text body × Lacks empty_line body

-- with quotation marks trimmed, the text is a note's and these pieces, which are not only white space, after the
-- first empty line
pub record HasPieces (text note_part : List ℕ) (written : List (List ℕ)) : Type 0 where
  pub body : List ℕ
  pub rest : List ℕ
  pub pieces : List (List ℕ)
  pub quotes : IsTrimmed quotation_mark text body
  pub split : IsCut empty_line body note_part rest
  pub between : IsParts empty_line rest pieces
  pub kept : written ≡ filter is_written pieces

-- *Fault of a checkpoint*: `Format` if there is no empty line; else the fault of the first piece that is not a
-- signature; where all are, the note's
abbrev pub IsCheckpointFault : List ℕ → CheckpointFault → Type 0
IsCheckpointFault text fault =
    (LacksEmptyLine text × (fault ≡ Format))
    ⊎ ((note_part : List ℕ) × (written : List (List ℕ)) × HasPieces text note_part written
    × (IsPieceFault written fault ⊎ (AllByRecursion StandsForSignature written × IsNoteFault note_part fault)))
