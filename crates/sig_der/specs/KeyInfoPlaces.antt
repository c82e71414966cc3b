-- AlgorithmIdentifier and SubjectPublicKeyInfo by their offsets in one buffer, and what is at the offsets.
use Rattle.std.specs.Prelude.{ℕ, ◌≤◌, List, Option, Some, None, slice_range, option_map}
use Rattle.sig_der.specs.declared.place.Place.{Place}
use Rattle.sig_der.specs.declared.key_info.AlgorithmPlaces.{AlgorithmPlaces}
use Rattle.sig_der.specs.declared.key_info.KeyInfoPlaces.{KeyInfoPlaces}
use Rattle.sig_der.specs.Reading.{Piece}
use Rattle.sig_der.specs.declared.reader.Reader.{Reader}
use Rattle.sig_der.specs.Places.{piece_at, IsWithin}
use Rattle.sig_der.specs.Readers.{left, GoesOn}
use Rattle.sig_der.specs.KeyInfo.{Algorithm, KeyInfo}

abbrev pub placed_option : List ℕ → Option Place → Option Piece
placed_option bytes p = option_map (piece_at bytes) p

-- the algorithm at the offsets
abbrev pub algorithm_of : List ℕ → AlgorithmPlaces → Algorithm
algorithm_of bytes a =
    record {
      whole = slice_range bytes a.whole.start a.whole.end;
      oid = slice_range bytes a.oid.content a.oid.end;
      parameters = placed_option bytes a.parameters;
    }

-- the algorithm that was read, and the bytes that are left after it
abbrev pub algorithm_read : List ℕ → AlgorithmPlaces × Reader → Algorithm × List ℕ
algorithm_read bytes x = (algorithm_of bytes x.0, left x.1)

-- the bytes of the buffer from the second offset up to the first
abbrev pub part_from : List ℕ → ℕ → ℕ → List ℕ
part_from bytes end n = slice_range bytes n end

-- the SubjectPublicKeyInfo at the offsets
abbrev pub key_info_of : List ℕ → KeyInfoPlaces → KeyInfo
key_info_of bytes k =
    record {
      whole = slice_range bytes k.whole.start k.whole.end;
      algorithm = algorithm_of bytes k.algorithm;
      bits = slice_range bytes k.bits k.whole.end;
    }

-- the SubjectPublicKeyInfo that was read, and the bytes that are left after it
abbrev pub key_info_read : List ℕ → KeyInfoPlaces × Reader → KeyInfo × List ℕ
key_info_read bytes x = (key_info_of bytes x.0, left x.1)

-- the element, if there is one, lies between the two offsets
abbrev pub IsOneWithin : ℕ → ℕ → Option Place → Type 0
IsOneWithin at end None = Unit {0}
IsOneWithin at end (Some p) = IsWithin at end p

-- the algorithm begins at the first number and ends at the second or before it, and its parts lie within
pub record IsAlgorithmWithin (at end : ℕ) (a : AlgorithmPlaces) : Type 0 where
  pub whole : IsWithin at end a.whole
  pub oid : IsWithin a.whole.content a.whole.end a.oid
  pub parameters : IsOneWithin a.oid.end a.whole.end a.parameters

pub record IsKeyInfoWithin (at end : ℕ) (k : KeyInfoPlaces) : Type 0 where
  pub whole : IsWithin at end k.whole
  pub algorithm : IsAlgorithmWithin k.whole.content k.whole.end k.algorithm
  pub after : k.algorithm.whole.end ≤ k.bits
  pub before : k.bits ≤ k.whole.end

-- what was read lies in what was left to the reader, and the second reader goes on after it
abbrev pub IsAlgorithmRead : Reader → AlgorithmPlaces × Reader → Type 0
IsAlgorithmRead r x = IsAlgorithmWithin r.at r.end x.0 × GoesOn r x.0.whole.end x.1

abbrev pub IsKeyInfoRead : Reader → KeyInfoPlaces × Reader → Type 0
IsKeyInfoRead r x = IsKeyInfoWithin r.at r.end x.0 × GoesOn r x.0.whole.end x.1
