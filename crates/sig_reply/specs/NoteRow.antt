-- The row of a signature over a note (signed note format of transparency-dev).
use Rattle.std.specs.Prelude.{ℕ, List}
use Rattle.sig_base.specs.Scheme.{name_of}
use Rattle.sig_base.specs.declared.checker.AcceptedRow.{AcceptedRow}
use Rattle.sig_base.specs.declared.checker.Operation.TheVariants.{Message}
use Rattle.sig_base.specs.declared.scheme.VerifyScheme.{VerifyScheme}

-- the row that says that this key (DER) signed the note of this text under a scheme
abbrev pub note_row : VerifyScheme → List ℕ → List ℕ → List ℕ → AcceptedRow
note_row scheme key note signature = record {
  operation = Message;
  scheme = name_of scheme;
  key = key;
  message = note;
  signature = signature;
}
