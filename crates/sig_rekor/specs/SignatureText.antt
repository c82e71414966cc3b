-- A signature line of a checkpoint, both ways: an em dash, the name of the key, and in base64 the key's fingerprint
-- and the signature (the checkpoint format of transparency-dev, "Signed Envelope"; Go's sumdb/note).
use Rattle.std.specs.Prelude.{◌≡◌, ℕ, nat_lt, nat_eq, if◌then◌else◌, List, [], ◌∷◌, ◌++◌, length, take, drop, Some}
use Rattle.std.specs.Prelude.{Result, Ok, Err}
use Rattle.std.specs.List.{starts_with}
use Rattle.std.specs.Str.{trim_end}
use Rattle.sig_base.specs.ResultSteps.{◌>>=◌}
use Rattle.sig_base.specs.declared.fault.CheckpointFault.{CheckpointFault}
use Rattle.sig_base.specs.declared.fault.CheckpointFault.TheVariants.{NoDash, SignatureFormat, SignatureBase64}
use Rattle.sig_base.specs.declared.fault.CheckpointFault.TheVariants.{SignatureLength}
use Rattle.sig_rekor.specs.declared.checkpoint.CheckpointSignature.{CheckpointSignature}
use Rattle.sig_rekor.specs.TextCuts.{IsTrimmed, IsParts, trimmed, parts_between}
use Rattle.sig_base.specs.Base64.{base64_bytes, base64_text}
use Rattle.sig_rekor.specs.Reading.{base64_of}
use Rattle.sig_rekor.specs.NoteText.{line_feed, newline}

-- U+2014 EM DASH in UTF-8
abbrev pub em_dash : List ℕ
em_dash = 0xE2 ∷ 0x80 ∷ 0x94 ∷ []

abbrev pub space : List ℕ
space = 32 ∷ []

-- the bytes of a fingerprint, a key's hash in 32 bits
abbrev pub fingerprint_len : ℕ
fingerprint_len = 4

-- the fingerprint's four bytes and the signature's, in one
abbrev pub fingerprint_and_raw : CheckpointSignature → List ℕ
fingerprint_and_raw signature = signature.key_fingerprint ++ signature.raw

-- *Signature*: with newlines trimmed, the text starts with an em dash and has three parts between single spaces. The
-- second is the name, and the third, white space at its end dropped, the base64 of the fingerprint's four bytes and the
-- signature
pub record IsSignature (text : List ℕ) (signature : CheckpointSignature) : Type 0 where
  pub line : List ℕ
  pub after_dash : List ℕ
  pub first : List ℕ
  pub coded : List ℕ
  pub newlines : IsTrimmed line_feed text line
  pub dash : line ≡ em_dash ++ after_dash
  pub parts : IsParts space line (first ∷ signature.name ∷ coded ∷ [])
  pub bytes : base64_bytes (trim_end coded) ≡ Some (fingerprint_and_raw signature)
  pub fingerprint : length signature.key_fingerprint ≡ fingerprint_len

-- the line, where it starts with the dash
unfoldable pub line_of : List ℕ → Result (List ℕ) CheckpointFault
line_of text = if starts_with nat_eq (trimmed line_feed text) em_dash then Ok (trimmed line_feed text) else Err NoDash

-- the second and the third of three parts
abbrev pub name_and_bytes : List (List ℕ) → Result (List ℕ × List ℕ) CheckpointFault
name_and_bytes (first ∷ name ∷ coded ∷ []) = Ok (name, coded)
name_and_bytes _ = Err SignatureFormat

-- the signature of a name and of the decoded bytes, at least four
abbrev pub signature_by : List ℕ → List ℕ → Result CheckpointSignature CheckpointFault
signature_by name bytes = if nat_lt (length bytes) fingerprint_len then Err SignatureLength
    else Ok (record { key_fingerprint = take fingerprint_len bytes; raw = drop fingerprint_len bytes; name = name })

-- the signature that a text means, or the first rule that is broken
unfoldable pub signature_of : List ℕ → Result CheckpointSignature CheckpointFault
signature_of text = do
  line ← line_of text
  named ← name_and_bytes (parts_between space line)
  bytes ← base64_of SignatureBase64 (trim_end named.1)
  signature_by named.0 bytes

-- how a signature is written: em dash, space, name, space, base64, newline
unfoldable pub signature_text : CheckpointSignature → List ℕ
signature_text signature =
    em_dash ++ (space ++ (signature.name ++ (space ++ (base64_text (fingerprint_and_raw signature) ++ newline))))
