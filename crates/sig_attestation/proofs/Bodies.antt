-- The bodies of log entries: a list of one, and what was read, compared part by part.
use Rattle.std.proofs.Common.{◌≡◌, ℕ, List, codes, Bool, Some, None, Result, Ok, Err, refl}
use Rattle.std.proofs.Common.{ap}
use Rattle.std.proofs.lemmas.Bool.Decides.{Decides-and}
use Rattle.std.proofs.lemmas.Slice.Eq.{bytes_eq-Decides}
use Rattle.std.specs.Bool.{Decides, one_answer}
use Rattle.std.specs.Prelude.{◌↔◌, IsTrue, IfOk, bytes_eq}
use Rattle.sig_base.proofs.Decisions.{decides_same}
use Rattle.sig_base.proofs.ResultSteps.{ok_is}
use Rattle.sig_base.specs.Sha256.{sha256}
use Rattle.sig_base.specs.declared.memory.OutOfMemory.{OutOfMemory}
use Rattle.sig_certificate.specs.Pem.{pem_of}
use Rattle.sig_checked_bundle.specs.DsseBody.{body_about, dsse_body_of}
use Rattle.sig_json.specs.Find.{at}
use Rattle.sig_json.specs.Data.{Data, null, boolean, number, string, array, object, no_items, item}
use Rattle.sig_json.specs.declared.error.JsonError.{JsonError}
use Rattle.sig_attestation.specs.Body.{is_about, is_hash_of, one_of, ReadBy, says_of}

-- ---- a list of one

pub one-there : (d only : Data) → Some only ≡ at 0 d → None ≡ at 1 d → one_of d ≡ Some tt
unfolding one_of
one-there null only here next = absurd cc
one-there (boolean b) only here next = absurd cc
one-there (number n) only here next = absurd cc
one-there (string s) only here next = absurd cc
one-there (array no_items) only here next = absurd cc
one-there (array (item d no_items)) only here next = refl
one-there (array (item d (item e es))) only here next = absurd cc
one-there (object ms) only here next = absurd cc

pub one-absent : (d : Data) → None ≡ at 0 d → one_of d ≡ None
unfolding one_of
one-absent null here = refl
one-absent (boolean b) here = refl
one-absent (number n) here = refl
one-absent (string s) here = refl
one-absent (array no_items) here = refl
one-absent (array (item d ds)) here = absurd cc
one-absent (object ms) here = refl

pub one-more : (d next : Data) → Some next ≡ at 1 d → one_of d ≡ None
unfolding one_of
one-more null next here = absurd cc
one-more (boolean b) next here = absurd cc
one-more (number n) next here = absurd cc
one-more (string s) next here = absurd cc
one-more (array no_items) next here = absurd cc
one-more (array (item d no_items)) next here = absurd cc
one-more (array (item d (item e es))) next here = refl
one-more (object ms) next here = absurd cc

pub ruleset ones = (one-there, one-absent, one-more)

-- ---- what was read, compared

abbrev Read : Type 0
Read = ReadBy dsse_body_of

hash_decides : (bytes algorithm value : List ℕ)
    → Decides (is_hash_of bytes algorithm value) ((algorithm ≡ codes "sha256") × (value ≡ sha256 bytes))
hash_decides bytes algorithm value =
    Decides-and (bytes_eq algorithm (codes "sha256")) (bytes_eq value (sha256 bytes))
    (bytes_eq-Decides algorithm (codes "sha256")) (bytes_eq-Decides value (sha256 bytes))

module _ (envelope payload signature pem : List ℕ) where
  abbrev about : Read
  about = body_about envelope payload signature pem

  abbrev made : (kind version e f p q s v : List ℕ) → Read
  made kind version e f p q s v = record {
    kind = kind;
    api_version = version;
    spec = record {
      envelope_hash = record { algorithm = e; value = f };
      payload_hash = record { algorithm = p; value = q };
      signature = record { signature = s; verifier = v };
    };
  }

  same : (k l v w e f g h p q r t s u x y : List ℕ) → k ≡ l → v ≡ w → e ≡ f → g ≡ h → p ≡ q → r ≡ t → s ≡ u → x ≡ y
      → made k v e g p r s x ≡ made l w f h q t u y
  same k l v w e f g h p q r t s u x y a b c d i j m n = rw (a, b, c, d, i, j, m, n) refl

  body_decides : (b : Read) → Decides (says_of envelope payload signature pem b) (b ≡ about)
  body_decides b =
      decides_same (says_of envelope payload signature pem b)
      (λ all. same b.kind (codes "dsse") b.api_version (codes "0.0.1") b.spec.envelope_hash.algorithm (codes "sha256")
      b.spec.envelope_hash.value (sha256 envelope) b.spec.payload_hash.algorithm (codes "sha256")
      b.spec.payload_hash.value (sha256 payload) b.spec.signature.signature signature b.spec.signature.verifier pem
      all.0 all.1.0 all.1.1.0.0 all.1.1.0.1 all.1.1.1.0.0 all.1.1.1.0.1 all.1.1.1.1.0 all.1.1.1.1.1)
      (λ is. (
        ap (λ (z : Read). z.kind) is,
        (
          ap (λ (z : Read). z.api_version) is,
          (
            (ap (λ (z : Read). z.spec.envelope_hash.algorithm) is, ap (λ (z : Read). z.spec.envelope_hash.value) is),
            (
              (ap (λ (z : Read). z.spec.payload_hash.algorithm) is, ap (λ (z : Read). z.spec.payload_hash.value) is),
              (ap (λ (z : Read). z.spec.signature.signature) is, ap (λ (z : Read). z.spec.signature.verifier) is),
            ),
          ),
        ),
      ))
      (Decides-and (bytes_eq b.kind (codes "dsse")) _ (bytes_eq-Decides b.kind (codes "dsse"))
      (Decides-and (bytes_eq b.api_version (codes "0.0.1")) _ (bytes_eq-Decides b.api_version (codes "0.0.1"))
      (Decides-and _ _
      (hash_decides envelope b.spec.envelope_hash.algorithm b.spec.envelope_hash.value)
      (Decides-and _ _
      (hash_decides payload b.spec.payload_hash.algorithm b.spec.payload_hash.value)
      (Decides-and (bytes_eq b.spec.signature.signature signature) (bytes_eq b.spec.signature.verifier pem)
      (bytes_eq-Decides b.spec.signature.signature signature) (bytes_eq-Decides b.spec.signature.verifier pem))))))

pub about_decides : (envelope payload signature certificate : List ℕ) (r : Result Read JsonError)
    → Decides (is_about envelope payload signature certificate r)
    (r ≡ Ok (body_about envelope payload signature (pem_of certificate)))
about_decides envelope payload signature certificate (Ok b) =
    decides_same (says_of envelope payload signature (pem_of certificate) b)
    (λ same. ap (λ (x : Read). Ok x) same)
    (λ same. ok_is b (body_about envelope payload signature (pem_of certificate)) same)
    (body_decides envelope payload signature (pem_of certificate) b)
about_decides envelope payload signature certificate (Err e) = ((λ t. absurd cc), (λ same. absurd cc))

-- the answer of `sig_checked_bundle`, by computation
pub about_told : (envelope payload signature certificate : List ℕ) (read : Result Read JsonError)
    (r : Result Bool OutOfMemory)
    → IfOk r (λ b. IsTrue b ↔ (read ≡ Ok (body_about envelope payload signature (pem_of certificate))))
    → IfOk r (λ b. b ≡ is_about envelope payload signature certificate read)
about_told envelope payload signature certificate read (Ok b) is =
    one_answer b (is_about envelope payload signature certificate read) is
    (about_decides envelope payload signature certificate read)
about_told envelope payload signature certificate read (Err e) is = tt
