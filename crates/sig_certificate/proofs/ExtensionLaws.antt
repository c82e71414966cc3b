-- Extensions: what the reader takes is what the relation builds, and what the relation builds is taken.
use Rattle.std.proofs.Common.{◌≡◌, ℕ, ◌<◌, Bool, true, false, cond, eqb, List, [], ◌∷◌, ◌++◌, length, Option, Some}
use Rattle.std.proofs.Common.{None, refl, sym, ap, subst, ◌∙◌, inl, inr}
use Rattle.std.proofs.lemmas.Bool.{cases_Bool, eqb-true, cond-true, cond-false}
use Rattle.sig_base.proofs.OptionSteps.{bind_is, bind_of_some, when_is, unless_is, some_is}
use Rattle.sig_der.specs.Element.{IsElement}
use Rattle.sig_der.specs.Reading.{Piece}
use Rattle.sig_der.specs.FrontReaders.{take_tag, take_whole, take_optional, begins_with}
use Rattle.sig_der.proofs.Bytes.{IsBytes, IsBytes-right}
use Rattle.sig_der.proofs.Takings.{take_tag_takes, take_tag_again, take_tag_shrinks, take_whole_takes}
use Rattle.sig_der.proofs.Takings.{take_whole_again, take_optional_takes, take_optional_here, take_optional_absent}
use Rattle.sig_der.proofs.Takings.{IsOptional}
use Rattle.sig_der.proofs.ElementLists.{IsReader}
use Rattle.sig_der.proofs.KeyInfos.{first_fits, rest_fits, some_left, left_some}
use Rattle.sig_certificate.specs.Certificate.{Extension, IsFlag, IsExtension}
use Rattle.sig_certificate.specs.Cutting.{boolean_of, flag_of, flag_at, extension_at}
use Rattle.sig_der.specs.Tag.{BOOLEAN, OBJECT_IDENTIFIER, OCTET_STRING, SEQUENCE}

-- ---- a BOOLEAN DEFAULT FALSE

abbrev octet : Bool → List ℕ
octet flag = cond flag 255 0 ∷ []

boolean_takes : (content : List ℕ) (flag : Bool) → boolean_of content ≡ Some flag → content ≡ octet flag
unfolding boolean_of
boolean_takes [] flag e = absurd cc
boolean_takes (b ∷ []) flag e =
    elim (cases_Bool (eqb b 0)) [
      | inl zero ↦
          let is : false ≡ flag = some_is false flag (sym (cond-true (eqb b 0) (Some false) _ zero) ∙ e) in
          rw (eqb-true b 0 zero, ← is) refl
      | inr other ↦
          let w = when_is (eqb b 255) (Some true) flag (sym (cond-false (eqb b 0) (Some false) _ other) ∙ e) in
          let is : true ≡ flag = some_is true flag w.1 in
          rw (eqb-true b 255 w.0, ← is) refl
    ]
boolean_takes (b ∷ c ∷ bytes) flag e = absurd cc

boolean_again : (flag : Bool) → boolean_of (octet flag) ≡ Some flag
unfolding boolean_of
boolean_again true = refl
boolean_again false = refl

-- what was read is a flag, and what follows it
pub record TakesFlag (bytes : List ℕ) (y : Bool × List ℕ) : Type 0 where
  pub text : List ℕ
  pub is : IsFlag text y.0
  pub parts : bytes ≡ text ++ y.1

flag_is : (text : List ℕ) (o : Option Piece) (flag : Bool) → IsOptional 1 text o → flag_of o ≡ Some flag
    → IsFlag text flag
flag_is text None flag is e = inl (is, sym (some_is false flag e))
flag_is text (Some p) flag is e =
    inr (subst (λ (w : List ℕ). IsElement text BOOLEAN w) (boolean_takes p.content flag e) is.0)

pub flag_at_takes : (bytes : List ℕ) → IsBytes bytes → (y : Bool × List ℕ) → flag_at bytes ≡ Some y → TakesFlag bytes y
unfolding flag_at
flag_at_takes bytes fits y e =
    let f = bind_is (take_optional BOOLEAN bytes) _ y e in
    let b = bind_is (flag_of f.0.0) _ y f.2 in
    let t = take_optional_takes BOOLEAN bytes fits f.0 f.1 in
    subst (λ (w : Bool × List ℕ). TakesFlag bytes w) (some_is _ y b.2) (record {
      text = t.text;
      is = flag_is t.text f.0.0 b.0 t.is b.1;
      parts = t.parts;
    })

pub flag_at_again : (text : List ℕ) (flag : Bool) (rest bytes : List ℕ) → IsFlag text flag
    → begins_with BOOLEAN rest ≡ false → bytes ≡ text ++ rest
    → flag_at bytes ≡ Some (flag, rest)
unfolding flag_at
flag_at_again text flag rest bytes (inl none) other parts =
    let same : bytes ≡ rest = parts ∙ ap (λ (w : List ℕ). w ++ rest) none.0 in
    rw (same, none.1) (bind_of_some (take_optional BOOLEAN rest) _ _ (take_optional_absent BOOLEAN rest other))
flag_at_again text flag rest bytes (inr is) other parts =
    bind_of_some (take_optional BOOLEAN bytes) _ _ (take_optional_here text BOOLEAN (octet flag) rest bytes is parts)
    ∙ bind_of_some (boolean_of (octet flag)) _ flag (boolean_again flag)

-- ---- extensions

abbrev pub TakesExtension : List ℕ → Extension × List ℕ → Type 0
TakesExtension bytes y = IsExtension y.0 × (bytes ≡ y.0.whole ++ y.1)

pub extension_at_takes : (bytes : List ℕ) → IsBytes bytes → (y : Extension × List ℕ) → extension_at bytes ≡ Some y
    → TakesExtension bytes y
unfolding extension_at
extension_at_takes bytes fits y e =
    let x = bind_is (take_tag SEQUENCE bytes) _ y e in
    let o = bind_is (take_tag OBJECT_IDENTIFIER x.0.0.content) _ y x.2 in
    let f = bind_is (flag_at o.0.1) _ y o.2 in
    let v = bind_is (take_whole OCTET_STRING f.0.1) _ y f.2 in
    let g = unless_is (eqb (length o.0.0.content) 0) _ y v.2 in
    let tx = (take_tag_takes SEQUENCE bytes fits x.0 x.1).0 in
    let inner = first_fits _ _ _ _ bytes tx fits in
    let to = (take_tag_takes OBJECT_IDENTIFIER x.0.0.content inner o.0 o.1).0 in
    let after = rest_fits _ _ _ _ x.0.0.content to inner in
    let tf = flag_at_takes o.0.1 after f.0 f.1 in
    let last = IsBytes-right tf.text f.0.1 (subst (λ (w : List ℕ). IsBytes w) tf.parts after) in
    let tv = take_whole_takes OCTET_STRING f.0.1 last v.0 v.1 in
    let spelled : x.0.0.content ≡ o.0.0.whole ++ (tf.text ++ f.0.1) =
    to.parts ∙ ap (λ (w : List ℕ). o.0.0.whole ++ w) tf.parts in
    subst (λ (w : Extension × List ℕ). TakesExtension bytes w) (some_is _ y g.1) (
      record {
        oid_text = o.0.0.whole;
        flag_text = tf.text;
        value_text = f.0.1;
        whole = subst (λ (w : List ℕ). IsElement x.0.0.whole SEQUENCE w) spelled tx.is;
        oid = to.is;
        named = some_left o.0.0.content g.0;
        flag = tf.is;
        value = tv.0;
      },
      tx.parts,
    )

pub extension_at_again : (e : Extension) (rest bytes : List ℕ) → IsExtension e → bytes ≡ e.whole ++ rest
    → extension_at bytes ≡ Some (e, rest)
unfolding extension_at
extension_at_again e rest bytes is parts =
    let content = is.oid_text ++ (is.flag_text ++ is.value_text) in
    let other : begins_with BOOLEAN is.value_text ≡ false = rw is.value.spelled refl in
    bind_of_some (take_tag SEQUENCE bytes) _ _ (take_tag_again e.whole SEQUENCE content rest bytes is.whole parts)
    ∙ bind_of_some (take_tag OBJECT_IDENTIFIER content) _ _
    (take_tag_again is.oid_text OBJECT_IDENTIFIER e.oid (is.flag_text ++ is.value_text) content is.oid refl)
    ∙ bind_of_some (flag_at (is.flag_text ++ is.value_text)) _ (e.critical, is.value_text)
    (flag_at_again is.flag_text e.critical is.value_text (is.flag_text ++ is.value_text) is.flag other refl)
    ∙ bind_of_some (take_whole OCTET_STRING is.value_text) _ _
    (take_whole_again is.value_text OCTET_STRING e.value is.value)
    ∙ cond-false (eqb (length e.oid) 0) _ _ (left_some e.oid is.named)

pub extension_at_shrinks : (bytes : List ℕ) (y : Extension × List ℕ) → extension_at bytes ≡ Some y
    → length y.1 < length bytes
unfolding extension_at
extension_at_shrinks bytes y e =
    let x = bind_is (take_tag SEQUENCE bytes) _ y e in
    let o = bind_is (take_tag OBJECT_IDENTIFIER x.0.0.content) _ y x.2 in
    let f = bind_is (flag_at o.0.1) _ y o.2 in
    let v = bind_is (take_whole OCTET_STRING f.0.1) _ y f.2 in
    let g = unless_is (eqb (length o.0.0.content) 0) _ y v.2 in
    subst (λ (w : Extension × List ℕ). length w.1 < length bytes) (some_is _ y g.1)
    (take_tag_shrinks SEQUENCE bytes x.0 x.1)

pub extension_reader : IsReader extension_at IsExtension (λ (e : Extension). e.whole)
extension_reader =
    record {
      takes = extension_at_takes;
      again = λ e rest is. extension_at_again e rest (e.whole ++ rest) is refl;
      shrinks = extension_at_shrinks;
    }
