-- Values as they are shown: numbers as decimal texts, bytes as hexadecimal, times in two forms, long texts cut.
use Rattle.std.specs.Prelude.{ℕ, ℤ, List, [], ◌∷◌, codes, length, take, nat_le, Option, Some, None, option_map, if◌then◌else◌}
use Rattle.std.specs.Fmt.{decimal}
use Rattle.std.specs.Fmt.Cut.{floor_char_boundary}
use Rattle.hex.specs.Hex.{encode_lower}
use Rattle.sig_base.specs.Sha256.{sha256}
use Rattle.sig_json.specs.Writing.{TreeMember, integer_tree, list_tree, object_of}
use Rattle.sig_dsse.specs.Digest.{digest_algorithm, digest_bytes}
use Rattle.sig_dsse.specs.declared.artifact_digest.ArtifactDigest.{ArtifactDigest}
use Rattle.sig_json.specs.Data.{Data, string}
use Rattle.sig_shown.specs.UtcText.{utc_text}

-- the greatest number of bytes of a text that are shown
abbrev pub most_shown : ℕ
most_shown = 1024

-- the text, or as many of its first characters as have at most this many bytes
unfoldable pub shown : List ℕ → List ℕ
shown text = if nat_le (length text) most_shown then text else take (floor_char_boundary text most_shown) text

-- a number that is not negative
unfoldable pub count_tree : ℕ → Data
count_tree n = string (decimal n)

-- how many bytes a text has, if it is cut
unfoldable pub cut_length : List ℕ → Option Data
cut_length text = if nat_le (length text) most_shown then None else Some (count_tree (length text))

-- a text under a name, and, if it is cut, the number of its bytes under another
abbrev pub shown_rows : List ℕ → List ℕ → List ℕ → List TreeMember
shown_rows name length_name text = (name, Some (string (shown text))) ∷ (length_name, cut_length text) ∷ []

-- a text, if there is one
abbrev pub some_rows : List ℕ → List ℕ → Option (List ℕ) → List TreeMember
some_rows name length_name None = []
some_rows name length_name (Some text) = shown_rows name length_name text

abbrev pub texts_tree : List (List ℕ) → Data
texts_tree texts = list_tree string texts

-- the SHA-256 of bytes, in hexadecimal
unfoldable pub sha256_tree : List ℕ → Data
sha256_tree bytes = string (encode_lower (sha256 bytes))

-- rows of an object

abbrev pub count_row : List ℕ → ℕ → TreeMember
count_row name n = (name, Some (count_tree n))

abbrev pub text_row : List ℕ → List ℕ → TreeMember
text_row name text = (name, Some (string text))

abbrev pub texts_row : List ℕ → List (List ℕ) → TreeMember
texts_row name texts = (name, Some (texts_tree texts))

-- a second since 1970, and the same as a text of RFC 3339 if its year is one of 1 to 9999
unfoldable pub time_tree : ℤ → Data
time_tree second =
    object_of
    ((codes "seconds", Some (integer_tree second)) ∷ (codes "utc", option_map string (utc_text second)) ∷ [])

abbrev pub time_row : List ℕ → ℤ → TreeMember
time_row name second = (name, Some (time_tree second))

-- a digest of an artifact, in hexadecimal under the name of its algorithm
unfoldable pub digest_tree : ArtifactDigest → Data
digest_tree digest = object_of (text_row (digest_algorithm digest) (encode_lower (digest_bytes digest)) ∷ [])
