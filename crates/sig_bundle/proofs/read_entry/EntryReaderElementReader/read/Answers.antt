use Rattle.std.proofs.Common.{◌≡◌, Err, arith, refl, rules, FitsSigned, w64}
use Rattle.std.proofs.lemmas.Int.{ints}
use Rattle.std.proofs.Math.Facts.{to_z-of_z}
use Rattle.sig_json.proofs.ReaderResults.{is_read, first_refused}
use Rattle.sig_bundle.specs.BundleRecord.{entry_of}
use Rattle.sig_bundle.proofs.read_entry.EntryReaderElementReader.read.Goals as goal

pub returns-in_err-read_bytes : goal.returns-in_err-read_bytes
unfolding entry_of
returns-in_err-read_bytes c =
    let refused : c.from_residual-in_err-read_bytes.result ≡ Err c.in_err-read_bytes.field-0.0 = search rules in
    rw (
      refused,
      is_read c.in_ok-read_i64.ensures.value,
      is_read c.in_ok-optional.ensures,
      is_read c.in_ok-optional-2.ensures,
      is_read c.in_ok-read_i64-2.ensures.value,
      is_read c.in_ok-optional-3.ensures,
      is_read c.in_ok-optional-4.ensures,
    ) (first_refused _ _ _ c.in_err-read_bytes.ensures)

pub returns : goal.returns
unfolding entry_of
returns c =
    let index_range = (rw c.in_ok-read_i64.is at c.branch-read_i64.type_inv).1.1.1.1.0.1 in
    let time_range = (rw c.in_ok-read_i64-2.is at c.branch-read_i64-2.type_inv).1.1.1.1.0.1 in
    let index : FitsSigned w64 c.in_ok-read_i64.field-0 = omega (arith, ints, index_range) in
    let time : FitsSigned w64 c.in_ok-read_i64-2.field-0 = omega (arith, ints, time_range) in
    rw (
      to_z-of_z index,
      to_z-of_z time,
      is_read c.in_ok-read_i64.ensures.value,
      is_read c.in_ok-optional.ensures,
      is_read c.in_ok-optional-2.ensures,
      is_read c.in_ok-read_i64-2.ensures.value,
      is_read c.in_ok-optional-3.ensures,
      is_read c.in_ok-optional-4.ensures,
      is_read c.in_ok-read_bytes.ensures,
    ) refl
