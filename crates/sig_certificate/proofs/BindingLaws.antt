-- The TBSCertificate from the validity to the extensions: what the readers take is what the relations build, and what
-- these build is taken.
use Rattle.std.proofs.Common.{◌≡◌, ℕ, Bool, true, false, eqb, List, [], ◌++◌, length, Option, Some, None, refl, sym}
use Rattle.std.proofs.Common.{ap, subst, ◌∙◌, inl, inr}
use Rattle.std.proofs.lemmas.List.{append-nil}
use Rattle.sig_base.proofs.OptionSteps.{bind_is, bind_of_some, when_is, some_is}
use Rattle.sig_der.specs.Element.{IsElement}
use Rattle.sig_der.specs.Reading.{Piece}
use Rattle.sig_der.specs.FrontReaders.{take_any, take_tag, take_whole, take_optional, begins_with}
use Rattle.sig_der.specs.KeyInfo.{key_info_at}
use Rattle.sig_der.proofs.Bytes.{IsBytes}
use Rattle.sig_der.proofs.Takings.{take_any_takes, take_any_again, take_tag_takes, take_tag_again, take_whole_takes}
use Rattle.sig_der.proofs.Takings.{take_whole_again, take_optional_takes, take_optional_here, take_optional_absent}
use Rattle.sig_der.proofs.Takings.{IsOptional}
use Rattle.sig_der.proofs.KeyInfos.{content_fits, first_fits, rest_fits, none_left, key_info_at_takes}
use Rattle.sig_der.proofs.KeyInfos.{key_info_at_again}
use Rattle.sig_certificate.specs.Certificate.{IsOptionalElement, IsKeyInfoText, IsSequence}
use Rattle.sig_certificate.specs.Cutting.{Binding, validity_at, binding_at, after_ids, extension_list_of, list_at}
use Rattle.sig_certificate.proofs.PreambleLaws.{after_fits, before_fits}
use Rattle.sig_der.specs.Tag.{EXTENSIONS, ISSUER_UNIQUE_ID, SEQUENCE, SUBJECT_UNIQUE_ID}

-- ---- the validity

pub record TakesValidity (bytes : List ℕ) (y : (Piece × Piece) × List ℕ) : Type 0 where
  pub text : List ℕ
  pub is : IsElement text SEQUENCE (y.0.0.whole ++ y.0.1.whole)
  pub first : IsElement y.0.0.whole y.0.0.tag y.0.0.content
  pub second : IsElement y.0.1.whole y.0.1.tag y.0.1.content
  pub parts : bytes ≡ text ++ y.1

validity_at_takes : (bytes : List ℕ) → IsBytes bytes → (y : (Piece × Piece) × List ℕ) → validity_at bytes ≡ Some y
    → TakesValidity bytes y
unfolding validity_at
validity_at_takes bytes fits y e =
    let x = bind_is (take_tag SEQUENCE bytes) _ y e in
    let b = bind_is (take_any x.0.0.content) _ y x.2 in
    let a = bind_is (take_any b.0.1) _ y b.2 in
    let w = when_is (eqb (length a.0.1) 0) _ y a.2 in
    let tx = (take_tag_takes SEQUENCE bytes fits x.0 x.1).0 in
    let inner = first_fits _ _ _ _ bytes tx fits in
    let tb = take_any_takes x.0.0.content inner b.0 b.1 in
    let ta = take_any_takes b.0.1 (rest_fits _ _ _ _ x.0.0.content tb inner) a.0 a.1 in
    let last : b.0.1 ≡ a.0.0.whole =
    ta.parts ∙ ap (λ (u : List ℕ). a.0.0.whole ++ u) (none_left a.0.1 w.0) ∙ append-nil a.0.0.whole in
    let spelled : x.0.0.content ≡ b.0.0.whole ++ a.0.0.whole = tb.parts ∙ ap (λ (u : List ℕ). b.0.0.whole ++ u) last in
    subst (λ (u : (Piece × Piece) × List ℕ). TakesValidity bytes u) (some_is _ y w.1) (record {
      text = x.0.0.whole;
      is = subst (λ (u : List ℕ). IsElement x.0.0.whole SEQUENCE u) spelled tx.is;
      first = tb.is;
      second = ta.is;
      parts = tx.parts;
    })

validity_at_again : (bytes : List ℕ) (y : (Piece × Piece) × List ℕ) → TakesValidity bytes y
    → validity_at bytes ≡ Some y
unfolding validity_at
validity_at_again bytes y t =
    let first = y.0.0 in
    let second = y.0.1 in
    let content = first.whole ++ second.whole in
    bind_of_some (take_tag SEQUENCE bytes) _ _ (take_tag_again t.text SEQUENCE content y.1 bytes t.is t.parts)
    ∙ bind_of_some (take_any content) _ _
    (take_any_again first.whole first.tag first.content second.whole content t.first refl)
    ∙ bind_of_some (take_any second.whole) _ _
    (take_any_again second.whole second.tag second.content [] second.whole t.second
    (sym (append-nil second.whole)))

-- ---- validity, subject and key

pub record TakesBinding (bytes : List ℕ) (y : Binding × List ℕ) : Type 0 where
  pub validity_text : List ℕ
  pub validity : IsElement validity_text SEQUENCE (y.0.first.whole ++ y.0.second.whole)
  pub first : IsElement y.0.first.whole y.0.first.tag y.0.first.content
  pub second : IsElement y.0.second.whole y.0.second.tag y.0.second.content
  pub subject : IsSequence y.0.subject
  pub key : IsKeyInfoText y.0.spki
  pub parts : bytes ≡ validity_text ++ (y.0.subject ++ (y.0.spki ++ y.1))

pub binding_at_takes : (bytes : List ℕ) → IsBytes bytes → (y : Binding × List ℕ) → binding_at bytes ≡ Some y
    → TakesBinding bytes y
unfolding binding_at
binding_at_takes bytes fits y e =
    let v = bind_is (validity_at bytes) _ y e in
    let s = bind_is (take_tag SEQUENCE v.0.1) _ y v.2 in
    let k = bind_is (key_info_at s.0.1) _ y s.2 in
    let tv = validity_at_takes bytes fits v.0 v.1 in
    let fits_v = after_fits tv.text v.0.1 bytes tv.parts fits in
    let ts = (take_tag_takes SEQUENCE v.0.1 fits_v s.0 s.1).0 in
    let tk = key_info_at_takes s.0.1 (rest_fits _ _ _ _ v.0.1 ts fits_v) k.0 k.1 in
    subst (λ (u : Binding × List ℕ). TakesBinding bytes u) (some_is _ y k.2) (record {
      validity_text = tv.text;
      validity = tv.is;
      first = tv.first;
      second = tv.second;
      subject = (s.0.0.content, ts.is);
      key = (k.0.0, (tk.0, refl));
      parts = tv.parts ∙ ap (λ (u : List ℕ). tv.text ++ u) (ts.parts ∙ ap (λ (u : List ℕ). s.0.0.whole ++ u) tk.1);
    })

abbrev some_binding : Piece → Piece → List ℕ → List ℕ → List ℕ → Option (Binding × List ℕ)
some_binding first second subject spki rest =
    Some (record { first = first; second = second; subject = subject; spki = spki }, rest)

pub binding_at_again : (bytes : List ℕ) (y : Binding × List ℕ) → TakesBinding bytes y → binding_at bytes ≡ Some y
unfolding binding_at
binding_at_again bytes y t =
    let b = y.0 in
    let after_subject = b.spki ++ y.1 in
    let after_validity = b.subject ++ after_subject in
    let k = t.key in
    bind_of_some (validity_at bytes) _ ((b.first, b.second), after_validity)
    (validity_at_again bytes ((b.first, b.second), after_validity)
    (record { text = t.validity_text; is = t.validity; first = t.first; second = t.second; parts = t.parts }))
    ∙ bind_of_some (take_tag SEQUENCE after_validity) _ _
    (take_tag_again b.subject SEQUENCE t.subject.0 after_subject after_validity t.subject.1 refl)
    ∙ bind_of_some (key_info_at after_subject) _ (k.0, y.1)
    (key_info_at_again k.0 y.1 after_subject k.1.0 (ap (λ (u : List ℕ). u ++ y.1) k.1.1))
    ∙ ap (λ (u : List ℕ). some_binding b.first b.second b.subject u y.1) (sym k.1.1)

-- ---- the unique identifiers

optional_is : (tag : ℕ) (text : List ℕ) (o : Option Piece) → IsOptional tag text o → IsOptionalElement tag text
optional_is tag text None is = inl is
optional_is tag text (Some p) is = inr (p.content, is.0)

pub record TakesIds (bytes rest : List ℕ) : Type 0 where
  pub issuer_id_text : List ℕ
  pub subject_id_text : List ℕ
  pub issuer_id : IsOptionalElement ISSUER_UNIQUE_ID issuer_id_text
  pub subject_id : IsOptionalElement SUBJECT_UNIQUE_ID subject_id_text
  pub parts : bytes ≡ issuer_id_text ++ (subject_id_text ++ rest)

pub after_ids_takes : (bytes : List ℕ) → IsBytes bytes → (rest : List ℕ) → after_ids bytes ≡ Some rest
    → TakesIds bytes rest
unfolding after_ids
after_ids_takes bytes fits rest e =
    let a = bind_is (take_optional ISSUER_UNIQUE_ID bytes) _ rest e in
    let b = bind_is (take_optional SUBJECT_UNIQUE_ID a.0.1) _ rest a.2 in
    let ta = take_optional_takes ISSUER_UNIQUE_ID bytes fits a.0 a.1 in
    let tb = take_optional_takes SUBJECT_UNIQUE_ID a.0.1 (after_fits ta.text a.0.1 bytes ta.parts fits) b.0 b.1 in
    subst (λ (u : List ℕ). TakesIds bytes u) (some_is _ rest b.2) (record {
      issuer_id_text = ta.text;
      subject_id_text = tb.text;
      issuer_id = optional_is 129 ta.text a.0.0 ta.is;
      subject_id = optional_is 130 tb.text b.0.0 tb.is;
      parts = ta.parts ∙ ap (λ (u : List ℕ). ta.text ++ u) tb.parts;
    })

-- an optional element is passed
passes : (tag : ℕ) (text rest bytes : List ℕ) → IsOptionalElement tag text → begins_with tag rest ≡ false
    → bytes ≡ text ++ rest
    → (o : Option Piece) × (take_optional tag bytes ≡ Some (o, rest))
passes tag text rest bytes (inl none) other parts =
    let same : bytes ≡ rest = parts ∙ ap (λ (w : List ℕ). w ++ rest) none in
    (None, rw same (take_optional_absent tag rest other))
passes tag text rest bytes (inr is) other parts =
    (Some (record { tag = tag; whole = text; content = is.0 }), take_optional_here text tag is.0 rest bytes is.1 parts)

-- an optional element of another tag, and then a text, do not begin with a tag with which that text does not begin
skips : (tag other : ℕ) (text rest : List ℕ) → IsOptionalElement other text → eqb other tag ≡ false
    → begins_with tag rest ≡ false
    → begins_with tag (text ++ rest) ≡ false
skips tag other text rest (inl none) differs not = rw none not
skips tag other text rest (inr is) differs not = rw is.1.spelled differs

pub after_ids_again : (bytes rest : List ℕ) → TakesIds bytes rest → begins_with ISSUER_UNIQUE_ID rest ≡ false
    → begins_with SUBJECT_UNIQUE_ID rest ≡ false
    → after_ids bytes ≡ Some rest
unfolding after_ids
after_ids_again bytes rest t not129 not130 =
    let after_issuer = t.subject_id_text ++ rest in
    let a =
    passes 129 t.issuer_id_text after_issuer bytes t.issuer_id
    (skips 129 130 t.subject_id_text rest t.subject_id refl not129) t.parts in
    let b = passes 130 t.subject_id_text rest after_issuer t.subject_id not130 refl in
    bind_of_some (take_optional ISSUER_UNIQUE_ID bytes) _ (a.0, after_issuer) a.1
    ∙ bind_of_some (take_optional SUBJECT_UNIQUE_ID after_issuer) _ (b.0, rest) b.1

-- ---- the element of the extensions

pub record IsListText (text list : List ℕ) : Type 0 where
  pub sequence : List ℕ
  pub outer : IsElement text EXTENSIONS sequence
  pub inner : IsElement sequence SEQUENCE list

abbrev pub IsListed : List ℕ → Bool × List ℕ → Type 0
IsListed text (true, list) = IsListText text list
IsListed text (false, list) = (text ≡ []) × (list ≡ [])

list_is : (text : List ℕ) (o : Option Piece) (l : Bool × List ℕ) → IsBytes text → IsOptional 163 text o
    → extension_list_of o ≡ Some l → IsListed text l
list_is text None l fits is e = subst (λ (w : Bool × List ℕ). IsListed text w) (some_is (false, []) l e) (is, refl)
list_is text (Some p) l fits is e =
    let s = bind_is (take_whole SEQUENCE p.content) _ l e in
    let t = take_whole_takes SEQUENCE p.content (content_fits text EXTENSIONS p.content is.0 fits) s.0 s.1 in
    subst (λ (w : Bool × List ℕ). IsListed text w) (some_is (true, s.0.content) l s.2)
    (record { sequence = p.content; outer = is.0; inner = t.0 })

pub list_at_takes : (bytes : List ℕ) → IsBytes bytes → (l : Bool × List ℕ) → list_at bytes ≡ Some l → IsListed bytes l
unfolding list_at
list_at_takes bytes fits l e =
    let x = bind_is (take_optional EXTENSIONS bytes) _ l e in
    let w = when_is (eqb (length x.0.1) 0) (extension_list_of x.0.0) l x.2 in
    let t = take_optional_takes EXTENSIONS bytes fits x.0 x.1 in
    let all : t.text ≡ bytes =
    sym (t.parts ∙ ap (λ (u : List ℕ). t.text ++ u) (none_left x.0.1 w.0) ∙ append-nil t.text) in
    subst (λ (u : List ℕ). IsListed u l) all
    (list_is t.text x.0.0 l (before_fits t.text x.0.1 bytes t.parts fits) t.is w.1)

pub list_at_again : (bytes : List ℕ) (listed : Bool) (list : List ℕ) → IsListed bytes (listed, list)
    → list_at bytes ≡ Some (listed, list)
unfolding list_at
list_at_again bytes false list is =
    rw (is.0, is.1) (bind_of_some (take_optional EXTENSIONS []) _ (None, []) (take_optional_absent EXTENSIONS [] refl))
list_at_again bytes true list is =
    bind_of_some (take_optional EXTENSIONS bytes) _ _
    (take_optional_here bytes EXTENSIONS is.sequence [] bytes is.outer (sym (append-nil bytes)))
    ∙ bind_of_some (take_whole SEQUENCE is.sequence) _ _ (take_whole_again is.sequence SEQUENCE list is.inner)
