-- The characters that the format names, by their code points in hexadecimal as Unicode lists them, and how long its
-- fixed parts are.
use Rattle.std.specs.Prelude.{◌≡◌, ℕ, ◌*◌, Bool, List, [], ◌∷◌, ◌++◌}
use Rattle.std.specs.Char.{encode_utf8, char_set_contains}
use Rattle.sig_rekor.specs.NoteText.{line_feed, newline, colon, hash_len}
use Rattle.sig_rekor.specs.SignatureText.{em_dash, space, fingerprint_len}
use Rattle.sig_rekor.specs.CheckpointText.{quotation_mark, empty_line}

-- each mark is the UTF-8 of its code point (RFC 3629 section 3): LINE FEED, COLON, SPACE, QUOTATION MARK, EM DASH
pub record MarksAreUnicode : Type 0 where
  pub line : newline ≡ encode_utf8 0x000A
  pub trimmed_line : line_feed ∷ [] ≡ newline
  pub empty : empty_line ≡ newline ++ newline
  pub between : colon ≡ encode_utf8 0x003A ++ encode_utf8 0x0020
  pub word : space ≡ encode_utf8 0x0020
  pub quote : quotation_mark ∷ [] ≡ encode_utf8 0x0022
  pub dash : em_dash ≡ encode_utf8 0x2014
  pub dash_bytes : em_dash ≡ 0xE2 ∷ 0x80 ∷ 0x94 ∷ []

-- a root hash has the 256 bits of a SHA-256 (RFC 6962 section 2.1), a fingerprint the 32 bits of Go's sumdb/note
pub record LengthsAreStandard : Type 0 where
  pub hash : 8 * hash_len ≡ 256
  pub fingerprint : 8 * fingerprint_len ≡ 32

-- Unicode's property White_Space (PropList.txt), all 25 characters
abbrev pub white_space : List ℕ
white_space =
    0x0009 ∷ 0x000A ∷ 0x000B ∷ 0x000C ∷ 0x000D ∷ 0x0020 ∷ 0x0085 ∷ 0x00A0 ∷ 0x1680
    ∷ 0x2000 ∷ 0x2001 ∷ 0x2002 ∷ 0x2003 ∷ 0x2004 ∷ 0x2005 ∷ 0x2006 ∷ 0x2007 ∷ 0x2008 ∷ 0x2009 ∷ 0x200A
    ∷ 0x2028 ∷ 0x2029 ∷ 0x202F ∷ 0x205F ∷ 0x3000 ∷ []

abbrev pub is_white_space : ℕ → Bool
is_white_space c = char_set_contains white_space c
