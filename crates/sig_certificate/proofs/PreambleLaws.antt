-- The TBSCertificate up to the issuer: what the reader takes is what the relations build, and what these build is
-- taken.
use Rattle.std.proofs.Common.{◌≡◌, ℕ, ◌+◌, ◌<◌, false, eqb, ltb, List, [], ◌∷◌, ◌++◌, length, Option, Some, None, refl}
use Rattle.std.proofs.Common.{sym, ap, subst, ◌∙◌, inl, inr}
use Rattle.std.proofs.lemmas.Bool.{ltb-true, lt-ltb, cond-true, cond-false}
use Rattle.sig_base.specs.OptionSteps.{◌>>=◌}
use Rattle.sig_base.proofs.OptionSteps.{bind_is, bind_of_some, when_is, unless_is, some, some_is}
use Rattle.sig_der.specs.Element.{IsElement}
use Rattle.sig_der.specs.Reading.{Piece}
use Rattle.sig_der.specs.FrontReaders.{take_tag, take_whole, take_optional, begins_with}
use Rattle.sig_der.specs.KeyInfo.{Algorithm, algorithm_at}
use Rattle.sig_der.proofs.Bytes.{IsBytes, IsBytes-left, IsBytes-right}
use Rattle.sig_der.proofs.Takings.{take_tag_takes, take_tag_again, take_whole_takes, take_whole_again}
use Rattle.sig_der.proofs.Takings.{take_optional_takes, take_optional_here, take_optional_absent, IsOptional}
use Rattle.sig_der.proofs.KeyInfos.{content_fits, rest_fits, some_left, left_some, algorithm_at_takes}
use Rattle.sig_der.proofs.KeyInfos.{algorithm_at_again}
use Rattle.sig_certificate.specs.Certificate.{IsVersion, IsSerial, IsAlgorithmText, IsSequence}
use Rattle.sig_certificate.specs.Cutting.{Preamble, version_number, explicit_version, certificate_version_of, version_at}
use Rattle.sig_certificate.specs.Cutting.{preamble_at}
use Rattle.sig_der.specs.Tag.{INTEGER, SEQUENCE, VERSION}

pub after_fits : (text rest bytes : List ℕ) → bytes ≡ text ++ rest → IsBytes bytes → IsBytes rest
after_fits text rest bytes parts fits = IsBytes-right text rest (subst (λ (w : List ℕ). IsBytes w) parts fits)

pub before_fits : (text rest bytes : List ℕ) → bytes ≡ text ++ rest → IsBytes bytes → IsBytes text
before_fits text rest bytes parts fits = IsBytes-left text rest (subst (λ (w : List ℕ). IsBytes w) parts fits)

-- ---- algorithms by their texts

pub algorithm_text_again : (text rest bytes : List ℕ) → IsAlgorithmText text → bytes ≡ text ++ rest
    → (a : Algorithm) × (algorithm_at bytes ≡ Some (a, rest)) × (a.whole ≡ text)
algorithm_text_again text rest bytes is parts =
    (is.0, algorithm_at_again is.0 rest bytes is.1.0 (parts ∙ ap (λ (w : List ℕ). w ++ rest) is.1.1), sym is.1.1)

-- ---- the version

pub record IsNumber (content : List ℕ) (version : ℕ) : Type 0 where
  pub number : ℕ
  pub spelled : content ≡ number ∷ []
  pub known : number < 3
  pub is : version ≡ number + 1

version_number_takes : (content : List ℕ) (version : ℕ) → version_number content ≡ Some version
    → IsNumber content version
unfolding version_number
version_number_takes [] version e = absurd cc
version_number_takes (n ∷ []) version e =
    let w = when_is (ltb n 3) (Some (n + 1)) version e in
    record { number = n; spelled = refl; known = ltb-true n 3 w.0; is = sym (some_is (n + 1) version w.1) }
version_number_takes (n ∷ m ∷ bytes) version e = absurd cc

version_number_again : (n : ℕ) → n < 3 → version_number (n ∷ []) ≡ Some (n + 1)
unfolding version_number
version_number_again n lt = cond-true (ltb n 3) _ _ (lt-ltb n 3 lt)

version_is : (text : List ℕ) (o : Option Piece) (version : ℕ) → IsBytes text → IsOptional 160 text o
    → certificate_version_of o ≡ Some version → IsVersion text version
unfolding explicit_version
version_is text None version fits is e = inl (is, sym (some_is 1 version e))
version_is text (Some p) version fits is e =
    let q = bind_is (take_whole INTEGER p.content) _ version e in
    let t = take_whole_takes INTEGER p.content (content_fits text VERSION p.content is.0 fits) q.0 q.1 in
    let n = version_number_takes q.0.content version q.2 in
    inr (record {
      number = n.number;
      inner = p.content;
      outer = is.0;
      integer = subst (λ (w : List ℕ). IsElement p.content INTEGER w) n.spelled t.0;
      known = n.known;
      is = n.is;
    })

pub record TakesVersion (bytes : List ℕ) (y : ℕ × List ℕ) : Type 0 where
  pub text : List ℕ
  pub is : IsVersion text y.0
  pub parts : bytes ≡ text ++ y.1

version_at_takes : (bytes : List ℕ) → IsBytes bytes → (y : ℕ × List ℕ) → version_at bytes ≡ Some y
    → TakesVersion bytes y
unfolding version_at
version_at_takes bytes fits y e =
    let o = bind_is (take_optional VERSION bytes) _ y e in
    let n = bind_is (certificate_version_of o.0.0) _ y o.2 in
    let t = take_optional_takes VERSION bytes fits o.0 o.1 in
    subst (λ (w : ℕ × List ℕ). TakesVersion bytes w) (some_is _ y n.2) (record {
      text = t.text;
      is = version_is t.text o.0.0 n.0 (before_fits t.text o.0.1 bytes t.parts fits) t.is n.1;
      parts = t.parts;
    })

version_at_again : (text : List ℕ) (version : ℕ) (rest bytes : List ℕ) → IsVersion text version
    → begins_with VERSION rest ≡ false → bytes ≡ text ++ rest
    → version_at bytes ≡ Some (version, rest)
unfolding version_at explicit_version
version_at_again text version rest bytes (inl none) other parts =
    let same : bytes ≡ rest = parts ∙ ap (λ (w : List ℕ). w ++ rest) none.0 in
    rw (same, none.1) (bind_of_some (take_optional VERSION rest) _ _ (take_optional_absent VERSION rest other))
version_at_again text version rest bytes (inr is) other parts =
    bind_of_some (take_optional VERSION bytes) _ _ (take_optional_here text VERSION is.inner rest bytes is.outer parts)
    ∙ bind_of_some (take_whole INTEGER is.inner >>= λ n. version_number n.content) _ version
    (bind_of_some (take_whole INTEGER is.inner) _ _ (take_whole_again is.inner INTEGER (is.number ∷ []) is.integer)
    ∙ version_number_again is.number is.known ∙ ap (λ (n : ℕ). some n) (sym is.is))

-- ---- the preamble

pub record TakesPreamble (bytes : List ℕ) (y : Preamble × List ℕ) : Type 0 where
  pub version_text : List ℕ
  pub serial_text : List ℕ
  pub version : IsVersion version_text y.0.version
  pub serial : IsSerial serial_text
  pub algorithm : IsAlgorithmText y.0.algorithm
  pub issuer : IsSequence y.0.issuer
  pub parts : bytes ≡ version_text ++ (serial_text ++ (y.0.algorithm ++ (y.0.issuer ++ y.1)))

four : (a b c d r w x y : List ℕ) → w ≡ a ++ x → x ≡ b ++ y → y ≡ c ++ (d ++ r) → w ≡ a ++ (b ++ (c ++ (d ++ r)))
four a b c d r w x y e f g = e ∙ ap (λ (t : List ℕ). a ++ t) (f ∙ ap (λ (t : List ℕ). b ++ t) g)

pub preamble_at_takes : (bytes : List ℕ) → IsBytes bytes → (y : Preamble × List ℕ) → preamble_at bytes ≡ Some y → TakesPreamble bytes y
unfolding preamble_at
preamble_at_takes bytes fits y e =
    let v = bind_is (version_at bytes) _ y e in
    let n = bind_is (take_tag INTEGER v.0.1) _ y v.2 in
    let a = bind_is (algorithm_at n.0.1) _ y n.2 in
    let i = bind_is (take_tag SEQUENCE a.0.1) _ y a.2 in
    let g = unless_is (eqb (length n.0.0.content) 0) _ y i.2 in
    let tv = version_at_takes bytes fits v.0 v.1 in
    let fits_v = after_fits tv.text v.0.1 bytes tv.parts fits in
    let tn = (take_tag_takes INTEGER v.0.1 fits_v n.0 n.1).0 in
    let fits_n = rest_fits _ _ _ _ v.0.1 tn fits_v in
    let ta = algorithm_at_takes n.0.1 fits_n a.0 a.1 in
    let fits_a = after_fits a.0.0.whole a.0.1 n.0.1 ta.1 fits_n in
    let ti = (take_tag_takes SEQUENCE a.0.1 fits_a i.0 i.1).0 in
    subst (λ (w : Preamble × List ℕ). TakesPreamble bytes w) (some_is _ y g.1) (record {
      version_text = tv.text;
      serial_text = n.0.0.whole;
      version = tv.is;
      serial = record { content = n.0.0.content; is = tn.is; some = some_left n.0.0.content g.0 };
      algorithm = (a.0.0, (ta.0, refl));
      issuer = (i.0.0.content, ti.is);
      parts = four tv.text n.0.0.whole a.0.0.whole i.0.0.whole i.0.1 bytes v.0.1 n.0.1 tv.parts tn.parts
          (ta.1 ∙ ap (λ (w : List ℕ). a.0.0.whole ++ w) ti.parts);
    })

abbrev some_preamble : ℕ → List ℕ → List ℕ → List ℕ → Option (Preamble × List ℕ)
some_preamble version algorithm issuer rest =
    Some (record { version = version; algorithm = algorithm; issuer = issuer }, rest)

pub preamble_at_again : (bytes : List ℕ) (y : Preamble × List ℕ) → TakesPreamble bytes y → preamble_at bytes ≡ Some y
unfolding preamble_at
preamble_at_again bytes y t =
    let h = y.0 in
    let after_issuer = h.issuer ++ y.1 in
    let after_algorithm = h.algorithm ++ after_issuer in
    let after_version = t.serial_text ++ after_algorithm in
    let other : begins_with VERSION after_version ≡ false = rw t.serial.is.spelled refl in
    let a = algorithm_text_again h.algorithm after_issuer after_algorithm t.algorithm refl in
    bind_of_some (version_at bytes) _ (h.version, after_version)
    (version_at_again t.version_text h.version after_version bytes t.version other t.parts)
    ∙ bind_of_some (take_tag INTEGER after_version) _ _
    (take_tag_again t.serial_text INTEGER t.serial.content after_algorithm after_version t.serial.is refl)
    ∙ bind_of_some (algorithm_at after_algorithm) _ (a.0, after_issuer) a.1
    ∙ bind_of_some (take_tag SEQUENCE after_issuer) _ _
    (take_tag_again h.issuer SEQUENCE t.issuer.0 y.1 after_issuer t.issuer.1 refl)
    ∙ cond-false (eqb (length t.serial.content) 0) _ _ (left_some t.serial.content t.serial.some)
    ∙ ap (λ (w : List ℕ). some_preamble h.version w h.issuer y.1) a.2
