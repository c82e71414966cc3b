-- What contracts see of borrowed parts of SCTs.
use Rattle.std.specs.Prelude.{ℕ, List, Result, Ok, Err}
use Rattle.std.specs.Borrow.{Bor}
use Rattle.sig_timestamp.specs.declared.sct_error.CertificateErrorKind.{CertificateErrorKind}
use Rattle.sig_timestamp.specs.declared.sct_list.BorrowedSct.{BorrowedSct}
use Rattle.sig_timestamp.specs.SctList.{Sct}

-- two parts
abbrev pub both_now : Bor (List ℕ) × Bor (List ℕ) → List ℕ × List ℕ
both_now x = (x.0.now, x.1.now)

abbrev pub sct_now : BorrowedSct → Sct
sct_now s =
    record {
      log_id = s.log_id.now;
      timestamp = s.timestamp;
      extensions = s.extensions.now;
      signature = s.signature.now;
    }

-- a part, or why it is not there
abbrev pub part_now : Result (Bor (List ℕ)) CertificateErrorKind → Result (List ℕ) CertificateErrorKind
part_now (Ok x) = Ok x.now
part_now (Err e) = Err e

-- an SCT, or why it is not there
abbrev pub sct_result : Result BorrowedSct CertificateErrorKind → Result Sct CertificateErrorKind
sct_result (Ok s) = Ok (sct_now s)
sct_result (Err e) = Err e
