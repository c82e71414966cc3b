-- Values of extensions: what the readers take is what the relations build, and what the relations build is taken.
use Rattle.std.proofs.Common.{◌≡◌, ℕ, false, eqb, List, [], ◌++◌, length, Bool, Option, Some, None, refl, sym, ap}
use Rattle.std.proofs.Common.{subst, ◌∙◌}
use Rattle.std.specs.Prelude.{option_map}
use Rattle.std.proofs.lemmas.Bool.{cond-true, cond-false}
use Rattle.std.proofs.lemmas.List.{append-nil}
use Rattle.sig_base.proofs.OptionSteps.{bind_is, bind_of_some, when_is, unless_is, some, some_is}
use Rattle.sig_der.specs.Element.{IsElement}
use Rattle.sig_der.specs.Reading.{Piece}
use Rattle.sig_der.specs.FrontReaders.{take_tag, take_whole, take_optional, begins_with}
use Rattle.sig_der.specs.Tag.{BIT_STRING, BOOLEAN, INTEGER, OBJECT_IDENTIFIER, SEQUENCE}
use Rattle.sig_der.proofs.Bytes.{IsBytes, IsBytes-right}
use Rattle.sig_der.proofs.Takings.{take_tag_takes, take_tag_again, take_whole_takes, take_whole_again}
use Rattle.sig_der.proofs.Takings.{take_optional_here, take_optional_absent, take_optional_takes, IsOptional}
use Rattle.sig_der.proofs.ElementLists.{IsReader, many_at_takes, many_at_again}
use Rattle.sig_der.proofs.KeyInfos.{content_fits, some_left, left_some, none_left}
use Rattle.sig_certificate.specs.declared.values.KeyUsage.{KeyUsage}
use Rattle.sig_certificate.specs.declared.values.BasicConstraints.{BasicConstraints}
use Rattle.sig_certificate.specs.Cutting.{flag_at}
use Rattle.sig_certificate.specs.Values.{key_usage_of, oid_at, purposes_of, natural_of, path_len_of, constraints_in}
use Rattle.sig_certificate.specs.Values.{basic_constraints_of}
use Rattle.sig_certificate.specs.ExtensionValues.{IsKeyUsageValue, purpose_text, IsPurpose, ArePurposes, IsPathLen}
use Rattle.sig_certificate.specs.ExtensionValues.{AreBasicConstraints}
use Rattle.sig_certificate.proofs.BitLaws.{usage_takes, usage_again, number_takes, number_again}
use Rattle.sig_certificate.proofs.ExtensionLaws.{flag_at_takes, flag_at_again}
use Rattle.sig_certificate.proofs.WalkLaws.{oid_at_shrinks}

-- ---- key usage

pub key_usage_takes : (value : List ℕ) → IsBytes value → (k : KeyUsage) → key_usage_of value ≡ Some k
    → IsKeyUsageValue value k
unfolding key_usage_of
key_usage_takes value fits k e =
    let s = bind_is (take_whole BIT_STRING value) _ k e in
    let t = take_whole_takes BIT_STRING value fits s.0 s.1 in
    record { content = s.0.content; is = t.0; says = usage_takes s.0.content k s.2 }

pub key_usage_again : (value : List ℕ) (k : KeyUsage) → IsKeyUsageValue value k → key_usage_of value ≡ Some k
unfolding key_usage_of
key_usage_again value k is =
    bind_of_some (take_whole BIT_STRING value) _ _ (take_whole_again value BIT_STRING is.content is.is)
    ∙ usage_again is.content k is.says

-- ---- extended key usage

abbrev TakesPurpose : List ℕ → List ℕ × List ℕ → Type 0
TakesPurpose bytes y = IsPurpose y.0 × (bytes ≡ purpose_text y.0 ++ y.1)

purpose_takes : (bytes : List ℕ) → IsBytes bytes → (y : List ℕ × List ℕ) → oid_at bytes ≡ Some y → TakesPurpose bytes y
unfolding oid_at
purpose_takes bytes fits y e =
    let x = bind_is (take_tag OBJECT_IDENTIFIER bytes) _ y e in
    let g = unless_is (eqb (length x.0.0.content) 0) _ y x.2 in
    let t = (take_tag_takes OBJECT_IDENTIFIER bytes fits x.0 x.1).0 in
    let is = subst (λ (w : List ℕ). IsElement w OBJECT_IDENTIFIER x.0.0.content) t.is.spelled t.is in
    subst (λ (w : List ℕ × List ℕ). TakesPurpose bytes w) (some_is _ y g.1)
    (record { is = is; named = some_left x.0.0.content g.0 }, t.parts ∙ ap (λ (w : List ℕ). w ++ x.0.1) t.is.spelled)

purpose_again : (purpose rest : List ℕ) → IsPurpose purpose
    → oid_at (purpose_text purpose ++ rest) ≡ Some (purpose, rest)
unfolding oid_at
purpose_again purpose rest is =
    bind_of_some (take_tag OBJECT_IDENTIFIER (purpose_text purpose ++ rest)) _ _
    (take_tag_again (purpose_text purpose) OBJECT_IDENTIFIER purpose rest (purpose_text purpose ++ rest) is.is refl)
    ∙ cond-false (eqb (length purpose) 0) _ _ (left_some purpose is.named)

purpose_reader : IsReader oid_at IsPurpose purpose_text
purpose_reader = record { takes = purpose_takes; again = purpose_again; shrinks = oid_at_shrinks }

pub purposes_takes : (value : List ℕ) → IsBytes value → (ps : List (List ℕ)) → purposes_of value ≡ Some ps
    → ArePurposes value ps
unfolding purposes_of
purposes_takes value fits ps e =
    let s = bind_is (take_whole SEQUENCE value) _ ps e in
    let t = take_whole_takes SEQUENCE value fits s.0 s.1 in
    record {
      inner = s.0.content;
      is = t.0;
      joined =
          many_at_takes oid_at IsPurpose purpose_text purpose_reader s.0.content
          (content_fits value SEQUENCE s.0.content t.0 fits) ps s.2;
    }

pub purposes_again : (value : List ℕ) (ps : List (List ℕ)) → ArePurposes value ps → purposes_of value ≡ Some ps
unfolding purposes_of
purposes_again value ps are =
    bind_of_some (take_whole SEQUENCE value) _ _ (take_whole_again value SEQUENCE are.inner are.is)
    ∙ many_at_again oid_at IsPurpose purpose_text purpose_reader are.inner ps are.joined

-- ---- basic constraints

path_len_is : (text : List ℕ) (o : Option Piece) (n : Option ℕ) → IsOptional INTEGER text o → path_len_of o ≡ Some n
    → IsPathLen text n
path_len_is text None n is e = subst (λ (w : Option ℕ). IsPathLen text w) (some_is _ n e) is
path_len_is text (Some p) n is e = by (natural_of p.content) refl e
  where
    by : (o : Option ℕ) → natural_of p.content ≡ o → option_map (λ k. some k) o ≡ Some n → IsPathLen text n
    by None a r = absurd cc
    by (Some k) a r =
        subst (λ (w : Option ℕ). IsPathLen text w) (some_is _ n r) (p.content, (is.0, number_takes p.content k a))

constraints_take : (value content : List ℕ) → IsElement value SEQUENCE content → IsBytes content
    → (b : BasicConstraints)
    → constraints_in content ≡ Some b → AreBasicConstraints value b
unfolding constraints_in
constraints_take value content whole fits b e =
    let f = bind_is (flag_at content) _ b e in
    let i = bind_is (take_optional INTEGER f.0.1) _ b f.2 in
    let n = bind_is (path_len_of i.0.0) _ b i.2 in
    let w = when_is (eqb (length i.0.1) 0) _ b n.2 in
    let tf = flag_at_takes content fits f.0 f.1 in
    let ti =
    take_optional_takes INTEGER f.0.1
    (IsBytes-right tf.text f.0.1 (subst (λ (u : List ℕ). IsBytes u) tf.parts fits)) i.0 i.1 in
    let rest = ti.parts ∙ ap (λ (u : List ℕ). ti.text ++ u) (none_left i.0.1 w.0) ∙ append-nil ti.text in
    let parts = tf.parts ∙ ap (λ (u : List ℕ). tf.text ++ u) rest in
    subst (λ (u : BasicConstraints). AreBasicConstraints value u) (some_is _ b w.1) (record {
      ca_text = tf.text;
      path_len_text = ti.text;
      is = subst (λ (u : List ℕ). IsElement value SEQUENCE u) parts whole;
      ca = tf.is;
      path_len = path_len_is ti.text i.0.0 n.0 ti.is n.1;
    })

pub constraints_takes : (value : List ℕ) → IsBytes value → (b : BasicConstraints) → basic_constraints_of value ≡ Some b
    → AreBasicConstraints value b
unfolding basic_constraints_of
constraints_takes value fits b e =
    let s = bind_is (take_whole SEQUENCE value) _ b e in
    let t = take_whole_takes SEQUENCE value fits s.0 s.1 in
    constraints_take value s.0.content t.0 (content_fits value SEQUENCE s.0.content t.0 fits) b s.2

no_boolean : (text : List ℕ) (n : Option ℕ) → IsPathLen text n → begins_with BOOLEAN text ≡ false
no_boolean text None is = rw is refl
no_boolean text (Some n) is = rw is.1.0.spelled refl

abbrev constraints_with : Bool → Option ℕ → Option BasicConstraints
constraints_with ca n = Some (record { ca = ca; path_len = n })

after_flag : (text : List ℕ) (ca : Bool) (n : Option ℕ) → IsPathLen text n
    → (content : List ℕ) → flag_at content ≡ Some (ca, text) → constraints_in content ≡ constraints_with ca n
unfolding constraints_in
after_flag text ca None is content f =
    bind_of_some (flag_at content) _ _ f
    ∙ bind_of_some (take_optional INTEGER text) _ (None, text) (take_optional_absent INTEGER text (rw is refl))
    ∙ cond-true (eqb (length text) 0) (constraints_with ca None) None (rw is refl)
after_flag text ca (Some n) is content f =
    bind_of_some (flag_at content) _ _ f
    ∙ bind_of_some (take_optional INTEGER text) _ _
    (take_optional_here text INTEGER is.0 [] text is.1.0 (sym (append-nil text)))
    ∙ bind_of_some (option_map (λ k. some k) (natural_of is.0)) _ (Some n)
    (ap (λ (o : Option ℕ). option_map (λ k. some k) o) (number_again is.0 n is.1.1))

pub constraints_again : (value : List ℕ) (b : BasicConstraints) → AreBasicConstraints value b
    → basic_constraints_of value ≡ Some b
unfolding basic_constraints_of
constraints_again value b are =
    let content = are.ca_text ++ are.path_len_text in
    bind_of_some (take_whole SEQUENCE value) _ _ (take_whole_again value SEQUENCE content are.is)
    ∙ after_flag are.path_len_text b.ca b.path_len are.path_len content
    (flag_at_again are.ca_text b.ca are.path_len_text content are.ca
    (no_boolean are.path_len_text b.path_len are.path_len) refl)
