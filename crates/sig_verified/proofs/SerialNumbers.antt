-- The serial number that is shown is the certificate's.
use Rattle.std.proofs.Common.{◌≡◌, ℕ, List, ◌++◌, false, eqb, Some, None, refl, ap, inl, inr, ◌∙◌}
use Rattle.std.proofs.lemmas.Bool.{cond-false}
use Rattle.sig_base.proofs.OptionSteps.{bind_of_some}
use Rattle.sig_certificate.specs.Certificate.{Cert, IsCertificate, IsVersion}
use Rattle.sig_der.specs.Element.{IsElement}
use Rattle.sig_der.specs.Tag.{INTEGER, VERSION}
use Rattle.sig_der.specs.FrontReaders.{take_any, take_tag}
use Rattle.sig_der.proofs.Takings.{take_any_again, take_tag_again}
use Rattle.sig_verified.specs.Certificate.{ShowsSerial, after_version, serial_in}

-- an element of another tag is not taken
take_tag_other : (text : List ℕ) (tag other : ℕ) (content rest bytes : List ℕ) → IsElement text tag content
    → bytes ≡ text ++ rest → eqb tag other ≡ false → take_tag other bytes ≡ None
unfolding take_tag
take_tag_other text tag other content rest bytes is parts apart =
    bind_of_some (take_any bytes) _ _ (take_any_again text tag content rest bytes is parts)
    ∙ cond-false (eqb tag other) _ _ apart

serial_after : (front unversioned serial content after : List ℕ) → after_version front (take_tag VERSION front) ≡ unversioned
    → IsElement serial INTEGER content → unversioned ≡ serial ++ after → serial_in front ≡ Some content
unfolding serial_in
serial_after front unversioned serial content after skipped is parts =
    bind_of_some (take_tag INTEGER (after_version front (take_tag VERSION front))) _ _
    (take_tag_again serial INTEGER content after (after_version front (take_tag VERSION front)) is (skipped ∙ parts))

shown : (front version serial content after : List ℕ) (number : ℕ) → front ≡ version ++ (serial ++ after)
    → IsVersion version number → IsElement serial INTEGER content → serial_in front ≡ Some content
shown front version serial content after number parts (inl absent) is =
    let whole : front ≡ serial ++ after = parts ∙ ap (λ text. text ++ (serial ++ after)) absent.0 in
    let none = take_tag_other serial INTEGER VERSION content after front is whole refl in
    serial_after front front serial content after (ap (after_version front) none) is whole
shown front version serial content after number parts (inr explicit) is =
    let taken = take_tag_again version VERSION explicit.inner (serial ++ after) front explicit.outer parts in
    serial_after front (serial ++ after) serial content after (ap (after_version front) taken) is refl

pub shows_serial : (text : List ℕ) (c : Cert) → IsCertificate text c → ShowsSerial c
shows_serial text c is =
    let tbs = is.tbs in
    let after : List ℕ =
    c.inner_algorithm
    ++ (c.issuer
    ++ (tbs.validity_text ++ (c.subject ++ (c.spki ++ (tbs.issuer_id_text ++ tbs.subject_id_text))))) in (
      tbs.serial.content,
      (
        record {
          version = tbs.version_text;
          serial = tbs.serial_text;
          after = after;
          front = tbs.front;
          versioned = tbs.version;
          is = tbs.serial.is;
        },
        shown c.front tbs.version_text tbs.serial_text tbs.serial.content after c.version tbs.front tbs.version
            tbs.serial.is,
      ),
    )
