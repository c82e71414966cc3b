-- The signatures of a checkpoint: the pieces between empty lines, one by one.
use Rattle.std.proofs.Common.{◌≡◌, ℕ, true, false, List, [], ◌∷◌, ◌++◌, Some, None, Result, Ok, Err, refl, sym, ◌∙◌}
use Rattle.std.proofs.Common.{ap, arith, append_assoc, append-nil, ◌⊎◌, inl, inr}
use Rattle.std.proofs.lemmas.Bool.{cases_Bool}
use Rattle.sig_base.specs.ResultSteps.{◌>>=◌}
use Rattle.sig_base.specs.declared.fault.CheckpointFault.{CheckpointFault}
use Rattle.sig_base.specs.declared.fault.CheckpointFault.TheVariants.{SignatureFormat}
use Rattle.sig_rekor.specs.declared.checkpoint.CheckpointSignature.{CheckpointSignature}
use Rattle.sig_rekor.specs.TextCuts.{cut_at, parts_between}
use Rattle.sig_rekor.specs.declared.fault.ParseCheckpointError.{ParseCheckpointError}
use Rattle.sig_rekor.specs.declared.fault.ParseCheckpointError.TheVariants.{OutOfMemory}
use Rattle.sig_rekor.specs.Reading.{as_error}
use Rattle.sig_rekor.specs.NoteText.{is_blank}
use Rattle.sig_rekor.specs.SignatureText.{space, name_and_bytes, signature_of}
use Rattle.sig_rekor.specs.CheckpointText.{empty_line, signatures_by, signatures_on}
use Rattle.sig_rekor.proofs.CutLaws.{parts_between-whole, parts_between-cut, parts_between-first}

-- a piece of white space alone gives none, and any other one
pub signatures_by-blank : (piece : List ℕ) (pieces : List (List ℕ)) → is_blank piece ≡ true
    → signatures_by (piece ∷ pieces) ≡ signatures_by pieces
unfolding signatures_by
signatures_by-blank piece pieces blank = rw blank refl

pub signatures_by-written : (piece : List ℕ) (pieces : List (List ℕ)) → is_blank piece ≡ false
    → signatures_by (piece ∷ pieces) ≡ (signature_of piece >>= λ first. signatures_by pieces >>= λ others. Ok
    (first ∷ others))
unfolding signatures_by
signatures_by-written piece pieces written = rw written refl

pub signatures_by-none : signatures_by [] ≡ Ok []
unfolding signatures_by
signatures_by-none = refl

-- one piece after those that were read before
pub signatures_on-blank : (before : List CheckpointSignature) (piece : List ℕ) → is_blank piece ≡ true
    → signatures_on before (piece ∷ []) ≡ Ok before
signatures_on-blank before piece blank =
    rw (signatures_by-blank piece [] blank, signatures_by-none, append-nil before) refl

pub signatures_on-read : (before : List CheckpointSignature) (piece : List ℕ) (s : CheckpointSignature)
    → is_blank piece ≡ false → signature_of piece ≡ Ok s → signatures_on before (piece ∷ []) ≡ Ok (before ++ s ∷ [])
signatures_on-read before piece s written e = rw (signatures_by-written piece [] written, e, signatures_by-none) refl

pub signatures_on-refused : (before : List CheckpointSignature) (piece : List ℕ) (fault : CheckpointFault)
    → is_blank piece ≡ false → signature_of piece ≡ Err fault → signatures_on before (piece ∷ []) ≡ Err fault
signatures_on-refused before piece fault written e = rw (signatures_by-written piece [] written, e) refl

-- one piece, and then the others
put_before : (a b : List CheckpointSignature) (r : Result (List CheckpointSignature) CheckpointFault)
    → ((r >>= λ xs. Ok (b ++ xs)) >>= λ xs. Ok (a ++ xs)) ≡ (r >>= λ xs. Ok ((a ++ b) ++ xs))
put_before a b (Ok xs) = ap Ok (sym (append_assoc a b xs))
put_before a b (Err fault) = refl

pub signatures_on-more : (before after : List CheckpointSignature) (piece : List ℕ) (pieces : List (List ℕ))
    → signatures_on before (piece ∷ []) ≡ Ok after → signatures_on before (piece ∷ pieces) ≡ signatures_on after pieces
signatures_on-more before after piece pieces e = elim (cases_Bool (is_blank piece)) [
  | inl blank ↦ let same : before ≡ after = (let f = signatures_on-blank before piece blank in cc) in
      rw (signatures_by-blank piece pieces blank, same) refl
  | inr written ↦ read _ refl written
] where
  read : (r : Result CheckpointSignature CheckpointFault) → signature_of piece ≡ r → is_blank piece ≡ false
      → signatures_on before (piece ∷ pieces) ≡ signatures_on after pieces
  read (Ok s) is written =
      let same : before ++ s ∷ [] ≡ after = (let f = signatures_on-read before piece s written is in cc) in
      rw (signatures_by-written piece pieces written, is, ← same) (put_before before (s ∷ []) (signatures_by pieces))
  read (Err fault) is written = let f = signatures_on-refused before piece fault written is in cc

pub signatures_on-stops : (before : List CheckpointSignature) (piece : List ℕ) (pieces : List (List ℕ))
    (fault : CheckpointFault) → signatures_on before (piece ∷ []) ≡ Err fault
    → signatures_on before (piece ∷ pieces) ≡ Err fault
signatures_on-stops before piece pieces fault e = elim (cases_Bool (is_blank piece)) [
  | inl blank ↦ let f = signatures_on-blank before piece blank in cc
  | inr written ↦ read _ refl written
] where
  read : (r : Result CheckpointSignature CheckpointFault) → signature_of piece ≡ r → is_blank piece ≡ false
      → signatures_on before (piece ∷ pieces) ≡ Err fault
  read (Ok s) is written = let f = signatures_on-read before piece s written is in cc
  read (Err other) is written =
      let f = signatures_on-refused before piece other written is in
      let same : other ≡ fault = cc in
      rw (signatures_by-written piece pieces written, is, same) refl

-- the pieces of what is left, at a cut and at the end
pub signatures_on-cut : (before after : List CheckpointSignature) (text piece rest : List ℕ)
    → Some (piece, rest) ≡ cut_at empty_line text → signatures_on before (piece ∷ []) ≡ Ok after
    → signatures_on before (parts_between empty_line text) ≡ signatures_on after (parts_between empty_line rest)
signatures_on-cut before after text piece rest e f =
    ap (signatures_on before) (parts_between-cut empty_line text piece rest (omega arith) (sym e))
    ∙ signatures_on-more before after piece (parts_between empty_line rest) f

pub signatures_on-cut_refused : (before : List CheckpointSignature) (text piece rest : List ℕ)
    (fault : CheckpointFault) → Some (piece, rest) ≡ cut_at empty_line text
    → signatures_on before (piece ∷ []) ≡ Err fault → signatures_on before (parts_between empty_line text) ≡ Err fault
signatures_on-cut_refused before text piece rest fault e f =
    ap (signatures_on before) (parts_between-cut empty_line text piece rest (omega arith) (sym e))
    ∙ signatures_on-stops before piece (parts_between empty_line rest) fault f

pub signatures_on-end : (before : List CheckpointSignature) (text : List ℕ) → None ≡ cut_at empty_line text
    → signatures_on before (parts_between empty_line text) ≡ signatures_on before (text ∷ [])
signatures_on-end before text e = ap (signatures_on before) (parts_between-whole empty_line text (sym e))

pub signatures_on-nothing : (pieces : List (List ℕ)) → signatures_on [] pieces ≡ signatures_by pieces
signatures_on-nothing pieces = same (signatures_by pieces) where
  same : (r : Result (List CheckpointSignature) CheckpointFault) → (r >>= λ xs. Ok ([] ++ xs)) ≡ r
  same (Ok xs) = refl
  same (Err fault) = refl

-- ---- the three parts of a signature

pub no_part : (line : List ℕ) → None ≡ cut_at space line → name_and_bytes (parts_between space line)
    ≡ Err SignatureFormat
no_part line e = rw (parts_between-whole space line (sym e)) refl

pub two_parts : (line first after : List ℕ) → Some (first, after) ≡ cut_at space line → None ≡ cut_at space after
    → name_and_bytes (parts_between space line) ≡ Err SignatureFormat
two_parts line first after e f =
    rw (parts_between-cut space line first after (omega arith) (sym e), parts_between-whole space after (sym f)) refl

pub just_three : (line first after name coded : List ℕ) → Some (first, after) ≡ cut_at space line
    → Some (name, coded) ≡ cut_at space after → None ≡ cut_at space coded
    → name_and_bytes (parts_between space line) ≡ Ok (name, coded)
just_three line first after name coded e f g =
    rw (
      parts_between-cut space line first after (omega arith) (sym e),
      parts_between-cut space after name coded (omega arith)
          (sym f),
      parts_between-whole space coded (sym g),
    ) refl

pub more_parts : (line first after name coded more last : List ℕ) → Some (first, after) ≡ cut_at space line
    → Some (name, coded) ≡ cut_at space after → Some (more, last) ≡ cut_at space coded
    → name_and_bytes (parts_between space line) ≡ Err SignatureFormat
more_parts line first after name coded more last e f g =
    let p = parts_between-first space last in
    rw (
      parts_between-cut space line first after (omega arith) (sym e),
      parts_between-cut space after name coded (omega arith)
          (sym f),
      parts_between-cut space coded more last (omega arith) (sym g),
      p.2,
    ) refl

pub ruleset three_parts = (no_part, two_parts, just_three, more_parts)

pub ruleset one_signature = (signatures_on-blank, signatures_on-read, signatures_on-refused)

-- what fails at a cut fails for the whole
failed_at_cut : (before : List CheckpointSignature) (text piece rest : List ℕ) (error : ParseCheckpointError)
    → Some (piece, rest) ≡ cut_at empty_line text → as_error (signatures_on before (piece ∷ [])) ≡ Err error
    → as_error (signatures_on before (parts_between empty_line text)) ≡ Err error
failed_at_cut before text piece rest error cut is = by (signatures_on before (piece ∷ [])) refl is where
  by : (r : Result (List CheckpointSignature) CheckpointFault) → signatures_on before (piece ∷ []) ≡ r
      → as_error r ≡ Err error → as_error (signatures_on before (parts_between empty_line text)) ≡ Err error
  by (Ok after) same failed = absurd cc
  by (Err fault) same failed = rw (signatures_on-cut_refused before text piece rest fault cut same) failed

-- so does what ends at a cut where memory runs out
pub ends_at_cut : (before : List CheckpointSignature) (text piece rest : List ℕ) (error : ParseCheckpointError)
    (whole : Result (List CheckpointSignature) CheckpointFault)
    → signatures_on before (parts_between empty_line text) ≡ whole → Some (piece, rest) ≡ cut_at empty_line text
    → (error ≡ OutOfMemory) ⊎ (as_error (signatures_on before (piece ∷ [])) ≡ Err error)
    → (error ≡ OutOfMemory) ⊎ (as_error whole ≡ Err error)
ends_at_cut before text piece rest error whole same cut (inl memory) = inl memory
ends_at_cut before text piece rest error whole same cut (inr failed) =
    inr (ap as_error (sym same) ∙ failed_at_cut before text piece rest error cut failed)

pub ruleset all_signatures = (signatures_on-cut, signatures_on-end, signatures_on-nothing)
