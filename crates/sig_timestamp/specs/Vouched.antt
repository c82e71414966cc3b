-- Whether a keyring vouches for an SCT, in the words of RFC 6962 section 3.2: each result, and when it comes.
use Rattle.std.specs.Prelude.{◌≡◌, ℕ, Bool, List, Some, None}
use Rattle.sig_timestamp.specs.declared.signed.DigitallySigned.{DigitallySigned}
use Rattle.sig_timestamp.specs.RingKey.{RingKey, point_at}
use Rattle.sig_timestamp.specs.Vectors.{IsShort, IsLong}
use Rattle.sig_timestamp.specs.SctBytes.{signed_bytes}

-- the signatures over messages that a checker accepts under a point of P-256
abbrev pub AcceptsPoint : Type 0
AcceptsPoint = List ℕ → List ℕ → List ℕ → Bool

abbrev pub Ring : Type 0
Ring = List (List ℕ × RingKey)

-- ---- a message under the key of an id

-- The ring has a key of the id, and its point accepts, or rejects, the signature over the message.
pub record IsSignedUnder (accepts : AcceptsPoint) (ring : Ring) (id message signature : List ℕ)
    (accepted : Bool) : Type 0 where
  pub point : List ℕ
  pub has : point_at ring id ≡ Some point
  pub said : accepts point message signature ≡ accepted

-- ---- an SCT

-- What it signs has bytes: TBSCertificate<1..2^24-1> and CtExtensions<0..2^16-1>.
pub record HasBytes (d : DigitallySigned) : Type 0 where
  pub body : IsLong d.tbs_certificate
  pub extensions : IsShort d.extensions

-- It has bytes, and the key of its log's id accepts, or rejects, its signature over them.
pub record IsSignedByLog (accepts : AcceptsPoint) (d : DigitallySigned) (ring : Ring) (accepted : Bool) : Type 0 where
  pub bytes : HasBytes d
  pub signed : IsSignedUnder accepts ring d.log_id (signed_bytes d) d.signature accepted

-- It has bytes, and the ring has no key of its log's id.
pub record IsOfUnknownLog (d : DigitallySigned) (ring : Ring) : Type 0 where
  pub bytes : HasBytes d
  pub unknown : point_at ring d.log_id ≡ None
