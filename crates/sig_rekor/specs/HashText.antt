-- A hash in Rekor's API: 64 hexadecimal digits in either case (RFC 4648 section 8), and the error of a text that is
-- none.
use Rattle.std.specs.Prelude.{ℕ, ◌%◌, ◌==◌, ◌&&◌, Bool, if◌then◌else◌, List, length, Result, Err}
use Rattle.std.specs.Char.{is_ascii_hexdigit}
use Rattle.std.specs.List.{list_all}
use Rattle.std.specs.Option.{ok_or}
use Rattle.std.specs.Result.{result_ok}
use Rattle.hex.specs.Hex.{decode_sized}
use Rattle.sig_base.specs.ResultSteps.{each_from}
use Rattle.sig_base.specs.declared.error.SigstoreError.{SigstoreError}
use Rattle.sig_base.specs.declared.error.SigstoreError.TheVariants.{HexDecodeError, UnexpectedError}
use Rattle.sig_base.specs.declared.unexpected.UnexpectedKind.{UnexpectedKind}
use Rattle.sig_base.specs.declared.unexpected.UnexpectedKind.TheVariants.{HashLength}
use Rattle.sig_rekor.specs.NoteText.{hash_len}

-- the digits of whole bytes
abbrev pub is_hex : List ℕ → Bool
is_hex text = (length text % 2 == 0) && list_all is_ascii_hexdigit text

-- the hash that a text is; `other_length` says what is wrong with whole bytes that are not 32
unfoldable pub hash_in : UnexpectedKind → List ℕ → Result (List ℕ) SigstoreError
hash_in other_length text =
    if is_hex text then ok_or (result_ok (decode_sized text hash_len)) (UnexpectedError other_length)
    else Err HexDecodeError

-- the hash that the text at this index is
abbrev pub hash_at : ℕ → List ℕ → Result (List ℕ) SigstoreError
hash_at index = hash_in (HashLength index)

-- the hashes that texts are, or the error of the first text that is not a hash; the texts are counted from this index
-- on
abbrev pub hashes_from : ℕ → List (List ℕ) → Result (List (List ℕ)) SigstoreError
hashes_from = each_from hash_at
