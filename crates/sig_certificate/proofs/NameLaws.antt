-- Names: what the reader takes is what the relation builds, and what the relation builds is taken.
use Rattle.std.proofs.Common.{◌≡◌, ℕ, zero, suc, ◌+◌, ◌-◌, ◌<◌, Bool, true, false, ◌&&◌, ◌||◌, ltb, cond, eqb, List}
use Rattle.std.proofs.Common.{[], ◌∷◌, ◌++◌, length, Some, None, refl, sym, ap, subst, ◌∙◌, arith, inl, inr}
use Rattle.std.specs.Str.{IsAscii}
use Rattle.std.proofs.Math.Bool.{or-true}
use Rattle.std.proofs.lemmas.Bool.{cases_Bool, eqb-true, eqb-false, lt-ltb, le-ltb, ltb-true, cond-true, cond-false}
use Rattle.std.proofs.lemmas.Bool.{ne_eqb, and_parts}
use Rattle.std.proofs.lemmas.List.{append-nil}
use Rattle.sig_base.specs.OptionSteps.{◌>>=◌}
use Rattle.sig_base.proofs.OptionSteps.{bind_is, bind_of_some, when_is, unless_is, some_is}
use Rattle.sig_der.specs.Element.{IsElement}
use Rattle.sig_der.specs.FrontReaders.{take_any, take_tag, take_whole, many_within, many_at}
use Rattle.sig_der.proofs.Bytes.{IsBytes, IsBytes-right}
use Rattle.sig_der.proofs.Takings.{take_any_takes, take_any_again, take_tag_takes, take_tag_again, take_whole_takes}
use Rattle.sig_der.proofs.Takings.{take_whole_again}
use Rattle.sig_der.proofs.ElementLists.{many_at_none, many_at_more}
use Rattle.sig_der.proofs.KeyInfos.{content_fits, first_fits, rest_fits, some_left, left_some, none_left}
use Rattle.sig_certificate.specs.Names.{Name, Email, Uri, Other, Unread, is_context, is_ascii_text, other_value}
use Rattle.sig_certificate.specs.Names.{other_name, general_name_of, name_at, general_names_of}
use Rattle.sig_certificate.specs.AlternativeNames.{IsOtherName, IsContext, IsName, IsGeneralName, AreJoinedNames}
use Rattle.sig_certificate.specs.AlternativeNames.{AreNames}
use Rattle.sig_certificate.proofs.WalkLaws.{name_at_shrinks}
use Rattle.sig_der.specs.Tag.{OBJECT_IDENTIFIER, OTHER_NAME, OTHER_NAME_VALUE, RFC822_NAME, SEQUENCE}
use Rattle.sig_der.specs.Tag.{UNIFORM_RESOURCE_IDENTIFIER}

-- ---- ASCII

ascii_takes : (bytes : List ℕ) → is_ascii_text bytes ≡ true → IsAscii bytes
ascii_takes [] e i = omega arith
ascii_takes (b ∷ bytes) e zero = ltb-true b 128 (and_parts (ltb b 128) (is_ascii_text bytes) e).0
ascii_takes (b ∷ bytes) e (suc i) = ascii_takes bytes (and_parts (ltb b 128) (is_ascii_text bytes) e).1 i

ascii_again : (bytes : List ℕ) → IsAscii bytes → is_ascii_text bytes ≡ true
ascii_again [] is = refl
ascii_again (b ∷ bytes) is = rw (lt-ltb b 128 (is 0)) (ascii_again bytes (λ i. is (suc i)))

-- ---- other names

pub record TakesOther (content : List ℕ) (x : List ℕ × List ℕ) : Type 0 where
  pub is : IsOtherName content x.0 x.1

other_takes : (content : List ℕ) → IsBytes content → (x : List ℕ × List ℕ) → other_name content ≡ Some x
    → TakesOther content x
unfolding other_name other_value
other_takes content fits x e =
    let o = bind_is (take_tag OBJECT_IDENTIFIER content) _ x e in
    let v = bind_is (other_value o.0.1) _ x o.2 in
    let g = unless_is (eqb (length o.0.0.content) 0) _ x v.2 in
    let explicit = bind_is (take_whole OTHER_NAME_VALUE o.0.1) _ v.0 v.1 in
    let inside = bind_is (take_any explicit.0.content) _ v.0 explicit.2 in
    let h = when_is (eqb (length inside.0.1) 0) (Some inside.0.0.content) v.0 inside.2 in
    let to = (take_tag_takes OBJECT_IDENTIFIER content fits o.0 o.1).0 in
    let after = rest_fits _ _ _ _ content to fits in
    let tx = (take_whole_takes OTHER_NAME_VALUE o.0.1 after explicit.0 explicit.1).0 in
    let tv =
    take_any_takes explicit.0.content
    (content_fits o.0.1 OTHER_NAME_VALUE explicit.0.content tx after) inside.0 inside.1 in
    let all : inside.0.0.whole ≡ explicit.0.content =
    sym (tv.parts ∙ ap (λ (w : List ℕ). inside.0.0.whole ++ w) (none_left inside.0.1 h.0)
    ∙ append-nil inside.0.0.whole) in
    let value : IsElement explicit.0.content inside.0.0.tag v.0 =
    subst (λ (w : List ℕ). IsElement explicit.0.content inside.0.0.tag w) (some_is _ v.0 h.1)
    (subst (λ (w : List ℕ). IsElement w inside.0.0.tag inside.0.0.content) all tv.is) in
    subst (λ (w : List ℕ × List ℕ). TakesOther content w) (some_is _ x g.1) (record {
      is = record {
        kind_text = o.0.0.whole;
        explicit_text = o.0.1;
        value_text = explicit.0.content;
        tag = inside.0.0.tag;
        parts = to.parts;
        identifies = to.is;
        named = some_left o.0.0.content g.0;
        explicit = tx;
        says = value;
      };
    })

value_again : (content kind value : List ℕ) (is : IsOtherName content kind value)
    → other_value is.explicit_text ≡ Some value
unfolding other_value
value_again content kind value is =
    bind_of_some (take_whole OTHER_NAME_VALUE is.explicit_text) _ _
    (take_whole_again is.explicit_text OTHER_NAME_VALUE is.value_text is.explicit)
    ∙ bind_of_some (take_any is.value_text) _ _
    (take_any_again is.value_text is.tag value [] is.value_text is.says (sym (append-nil is.value_text)))

other_again : (content kind value : List ℕ) → IsOtherName content kind value → other_name content ≡ Some (kind, value)
unfolding other_name
other_again content kind value is =
    bind_of_some (take_tag OBJECT_IDENTIFIER content) _ _
    (take_tag_again is.kind_text OBJECT_IDENTIFIER kind is.explicit_text content is.identifies is.parts)
    ∙ bind_of_some (other_value is.explicit_text) _ value (value_again content kind value is)
    ∙ cond-false (eqb (length kind) 0) _ _ (left_some kind is.named)

-- ---- names by their tags

primitive_again : (n : ℕ) → n < 9 → is_context (128 + n) ≡ true
primitive_again n low = rw (lt-ltb 127 (128 + n) (omega arith), lt-ltb (128 + n) 137 (omega arith)) refl

constructed_again : (n : ℕ) → n < 9 → is_context (160 + n) ≡ true
constructed_again n low =
    rw (le-ltb (160 + n) 137 (omega arith), lt-ltb 159 (160 + n) (omega arith), lt-ltb (160 + n) 169 (omega arith))
    (or-true (ltb 127 (160 + n) && false))

context_again : (tag : ℕ) → IsContext tag → is_context tag ≡ true
context_again tag is =
    elim is.is [
      | inl primitive ↦ ap is_context primitive ∙ primitive_again is.number is.known
      | inr constructed ↦ ap is_context constructed ∙ constructed_again is.number is.known
    ]

context_takes : (tag : ℕ) → is_context tag ≡ true → IsContext tag
context_takes tag e =
    elim (cases_Bool (ltb 127 tag && ltb tag 137)) [
      | inl here ↦
          let w = and_parts (ltb 127 tag) (ltb tag 137) here in
          let low = ltb-true 127 tag w.0 in
          let high = ltb-true tag 137 w.1 in
          record { number = tag - 128; known = omega (arith, low, high); is = inl (omega (arith, low, high)) }
      | inr not ↦
          let w =
          and_parts (ltb 159 tag) (ltb tag 169) (sym (ap (λ (b : Bool). b || (ltb 159 tag && ltb tag 169)) not) ∙ e) in
          let low = ltb-true 159 tag w.0 in
          let high = ltb-true tag 169 w.1 in
          record { number = tag - 160; known = omega (arith, low, high); is = inr (omega (arith, low, high)) }
    ]

email_takes : (tag : ℕ) (content : List ℕ) (n : Name) → tag ≡ RFC822_NAME
    → cond (is_ascii_text content) (Some (Email content)) None ≡ Some n → IsName tag content n
email_takes tag content n is e =
    let w = when_is (is_ascii_text content) (Some (Email content)) n e in
    subst (λ (m : Name). IsName tag content m) (some_is _ n w.1) (is, refl, ascii_takes content w.0)

uri_takes : (tag : ℕ) (content : List ℕ) (n : Name) → tag ≡ UNIFORM_RESOURCE_IDENTIFIER
    → cond (is_ascii_text content) (Some (Uri content)) None ≡ Some n → IsName tag content n
uri_takes tag content n is e =
    let w = when_is (is_ascii_text content) (Some (Uri content)) n e in
    subst (λ (m : Name). IsName tag content m) (some_is _ n w.1) (is, refl, ascii_takes content w.0)

kind_takes : (tag : ℕ) (content : List ℕ) → IsBytes content → (n : Name) → tag ≡ OTHER_NAME
    → (other_name content >>= λ x. Some (Other x.0 x.1)) ≡ Some n → IsName tag content n
kind_takes tag content fits n is e =
    let x = bind_is (other_name content) _ n e in
    subst (λ (m : Name). IsName tag content m) (some_is _ n x.2) (is, (other_takes content fits x.0 x.1).is)

unread_takes : (tag : ℕ) (content : List ℕ) (n : Name) → eqb tag RFC822_NAME ≡ false
    → eqb tag UNIFORM_RESOURCE_IDENTIFIER ≡ false → eqb tag OTHER_NAME ≡ false
    → cond (is_context tag) (Some Unread) None ≡ Some n → IsName tag content n
unread_takes tag content n no_email no_uri no_other e =
    let w = when_is (is_context tag) (Some Unread) n e in
    subst (λ (m : Name). IsName tag content m) (some_is _ n w.1) (
      eqb-false tag RFC822_NAME no_email,
      eqb-false tag UNIFORM_RESOURCE_IDENTIFIER no_uri,
      eqb-false tag OTHER_NAME no_other,
      context_takes tag w.0,
    )

name_takes : (tag : ℕ) (content : List ℕ) → IsBytes content → (n : Name) → general_name_of tag content ≡ Some n
    → IsName tag content n
unfolding general_name_of
name_takes tag content fits n e =
    elim (cases_Bool (eqb tag RFC822_NAME)) [
      | inl here ↦
          email_takes tag content n (eqb-true tag RFC822_NAME here)
          (sym (cond-true (eqb tag RFC822_NAME) _ _ here) ∙ e)
      | inr no_email ↦
          let e1 = sym (cond-false (eqb tag RFC822_NAME) _ _ no_email) ∙ e in
          elim (cases_Bool (eqb tag UNIFORM_RESOURCE_IDENTIFIER)) [
            | inl here ↦
                uri_takes tag content n (eqb-true tag UNIFORM_RESOURCE_IDENTIFIER here)
                (sym (cond-true (eqb tag UNIFORM_RESOURCE_IDENTIFIER) _ _ here) ∙ e1)
            | inr no_uri ↦
                let e2 = sym (cond-false (eqb tag UNIFORM_RESOURCE_IDENTIFIER) _ _ no_uri) ∙ e1 in
                elim (cases_Bool (eqb tag OTHER_NAME)) [
                  | inl here ↦
                      kind_takes tag content fits n (eqb-true tag OTHER_NAME here)
                      (sym (cond-true (eqb tag OTHER_NAME) _ _ here) ∙ e2)
                  | inr no_other ↦
                      unread_takes tag content n no_email no_uri no_other
                      (sym (cond-false (eqb tag OTHER_NAME) _ _ no_other) ∙ e2)
                ]
          ]
    ]

name_again : (tag : ℕ) (content : List ℕ) (n : Name) → IsName tag content n → general_name_of tag content ≡ Some n
unfolding general_name_of
name_again tag content (Email text) is =
    rw (is.0, is.1) (cond-true (is_ascii_text content) _ _ (ascii_again content is.2))
name_again tag content (Uri text) is =
    rw (is.0, is.1) (cond-true (is_ascii_text content) _ _ (ascii_again content is.2))
name_again tag content (Other kind value) is =
    rw is.0 (bind_of_some (other_name content) _ (kind, value) (other_again content kind value is.1))
name_again tag content Unread is =
    cond-false (eqb tag RFC822_NAME) _ _ (ne_eqb tag RFC822_NAME is.0)
    ∙ cond-false (eqb tag UNIFORM_RESOURCE_IDENTIFIER) _ _ (ne_eqb tag UNIFORM_RESOURCE_IDENTIFIER is.1)
    ∙ cond-false (eqb tag OTHER_NAME) _ _ (ne_eqb tag OTHER_NAME is.2)
    ∙ cond-true (is_context tag) _ _ (context_again tag is.3)

-- ---- a name and its text

pub record TakesName (bytes : List ℕ) (y : Name × List ℕ) : Type 0 where
  pub whole : List ℕ
  pub is : IsGeneralName whole y.0
  pub parts : bytes ≡ whole ++ y.1

name_at_takes : (bytes : List ℕ) → IsBytes bytes → (y : Name × List ℕ) → name_at bytes ≡ Some y → TakesName bytes y
unfolding name_at
name_at_takes bytes fits y e =
    let x = bind_is (take_any bytes) _ y e in
    let n = bind_is (general_name_of x.0.0.tag x.0.0.content) _ y x.2 in
    let t = take_any_takes bytes fits x.0 x.1 in
    let inner = first_fits _ _ _ _ bytes t fits in
    subst (λ (w : Name × List ℕ). TakesName bytes w) (some_is _ y n.2) (record {
      whole = x.0.0.whole;
      is = record {
        tag = x.0.0.tag;
        content = x.0.0.content;
        is = t.is;
        says = name_takes x.0.0.tag x.0.0.content inner n.0 n.1;
      };
      parts = t.parts;
    })

name_at_again : (whole : List ℕ) (n : Name) (rest bytes : List ℕ) → IsGeneralName whole n → bytes ≡ whole ++ rest
    → name_at bytes ≡ Some (n, rest)
unfolding name_at
name_at_again whole n rest bytes is parts =
    bind_of_some (take_any bytes) _ _ (take_any_again whole is.tag is.content rest bytes is.is parts)
    ∙ bind_of_some (general_name_of is.tag is.content) _ n (name_again is.tag is.content n is.says)

-- ---- names one after another

within_takes : (n : ℕ) (bytes : List ℕ) → IsBytes bytes → (ns : List Name) → many_within name_at n bytes ≡ Some ns
    → AreJoinedNames bytes ns
unfolding many_within
within_takes n [] fits ns e = subst (λ (w : List Name). AreJoinedNames [] w) (some_is [] ns e) refl
within_takes zero (b ∷ bytes) fits ns e = absurd cc
within_takes (suc n) (b ∷ bytes) fits ns e =
    let first = bind_is (name_at (b ∷ bytes)) _ ns e in
    let others = bind_is (many_within name_at n first.0.1) _ ns first.2 in
    let t = name_at_takes (b ∷ bytes) fits first.0 first.1 in
    let rest_fit = IsBytes-right t.whole first.0.1 (subst (λ (w : List ℕ). IsBytes w) t.parts fits) in
    subst (λ (w : List Name). AreJoinedNames (b ∷ bytes) w) (some_is _ ns others.2)
    (t.whole, (first.0.1, (t.is, (t.parts, within_takes n first.0.1 rest_fit others.0 others.1))))

many_again : (bytes : List ℕ) (ns : List Name) → AreJoinedNames bytes ns → many_at name_at bytes ≡ Some ns
many_again bytes [] is = ap (λ (w : List ℕ). many_at name_at w) is ∙ many_at_none name_at
many_again bytes (n ∷ ns) is =
    let rest = is.1.0 in
    many_at_more name_at name_at_shrinks bytes (n, rest) (name_at_again is.0 n rest bytes is.1.1.0 is.1.1.1.0)
    ∙ bind_of_some (many_at name_at rest) _ ns (many_again rest ns is.1.1.1.1)

-- ---- the whole value

pub names_takes : (value : List ℕ) → IsBytes value → (ns : List Name) → general_names_of value ≡ Some ns
    → AreNames value ns
unfolding general_names_of many_at
names_takes value fits ns e =
    let s = bind_is (take_whole SEQUENCE value) _ ns e in
    let t = take_whole_takes SEQUENCE value fits s.0 s.1 in
    record {
      inner = s.0.content;
      is = t.0;
      joined = within_takes (length s.0.content) s.0.content (content_fits value SEQUENCE s.0.content t.0 fits) ns s.2;
    }

pub names_again : (value : List ℕ) (ns : List Name) → AreNames value ns → general_names_of value ≡ Some ns
unfolding general_names_of
names_again value ns are =
    bind_of_some (take_whole SEQUENCE value) _ _ (take_whole_again value SEQUENCE are.inner are.is)
    ∙ many_again are.inner ns are.joined
