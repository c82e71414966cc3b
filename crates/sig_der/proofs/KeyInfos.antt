-- Algorithms and SPKIs: what the readers take is what the relations build, and what the relations build is taken.
use Rattle.std.proofs.Common.{◌≡◌, ◌≢◌, ℕ, ◌<◌, false, true, eqb, List, [], ◌∷◌, ◌++◌, length, Option, Some, None}
use Rattle.std.proofs.Common.{refl, sym, ap, subst, ◌∙◌, arith, ◌↔◌}
use Rattle.std.specs.Prelude.{option_map, IfSome}
use Rattle.std.proofs.lemmas.Bool.{eqb-true, eqb-false, ne_eqb, cond-false}
use Rattle.std.proofs.lemmas.List.{nil_from_length, append-nil}
use Rattle.sig_base.proofs.OptionSteps.{bind_is, bind_of_some, when_is, unless_is, some_is}
use Rattle.sig_der.specs.Element.{IsElement, StandsFirst, spelled_length}
use Rattle.sig_der.specs.Reading.{Piece}
use Rattle.sig_der.specs.FrontReaders.{take_any, take_tag, take_whole}
use Rattle.sig_der.specs.KeyInfo.{Algorithm, IsAtMostOne, IsAlgorithm, KeyInfo, IsKeyInfo, at_most_one, algorithm_at}
use Rattle.sig_der.specs.KeyInfo.{after_zero, bits_of, key_info_at, is_empty, whole_key_info, IsFirstAlgorithm}
use Rattle.sig_der.specs.KeyInfo.{IsFirstKeyInfo, IsWholeKeyInfo}
use Rattle.sig_der.specs.KeyInfoPlaces.{algorithm_of, algorithm_read, key_info_of, key_info_read}
use Rattle.sig_der.specs.Readers.{left}
use Rattle.sig_der.specs.declared.key_info.AlgorithmPlaces.{AlgorithmPlaces}
use Rattle.sig_der.specs.declared.key_info.KeyInfoPlaces.{KeyInfoPlaces}
use Rattle.sig_der.specs.declared.reader.Reader.{Reader}
use Rattle.sig_der.proofs.Bytes.{IsBytes, IsBytes-left, IsBytes-right}
use Rattle.sig_der.proofs.Takings.{take_any_takes, take_any_again, take_tag_takes, take_tag_again, take_whole_takes}
use Rattle.sig_der.proofs.Takings.{take_whole_again}
use Rattle.sig_der.specs.Tag.{BIT_STRING, OBJECT_IDENTIFIER, SEQUENCE}

-- ---- bytes of parts

pub content_fits : (text : List ℕ) (tag : ℕ) (content : List ℕ) → IsElement text tag content → IsBytes text
    → IsBytes content
content_fits text tag content is fits =
    IsBytes-right (tag ∷ spelled_length (length content)) content (subst (λ (w : List ℕ). IsBytes w) is.spelled fits)

pub first_fits : (whole : List ℕ) (tag : ℕ) (content rest bytes : List ℕ) → StandsFirst whole tag content rest bytes
    → IsBytes bytes → IsBytes content
first_fits whole tag content rest bytes first fits =
    content_fits whole tag content first.is
    (IsBytes-left whole rest (subst (λ (w : List ℕ). IsBytes w) first.parts fits))

pub rest_fits : (whole : List ℕ) (tag : ℕ) (content rest bytes : List ℕ) → StandsFirst whole tag content rest bytes
    → IsBytes bytes → IsBytes rest
rest_fits whole tag content rest bytes first fits =
    IsBytes-right whole rest (subst (λ (w : List ℕ). IsBytes w) first.parts fits)

-- ---- whether a list is empty

pub some_left : (bytes : List ℕ) → eqb (length bytes) 0 ≡ false → 0 < length bytes
some_left bytes e = let ne : length bytes ≢ 0 = eqb-false (length bytes) 0 e in omega arith

pub left_some : (bytes : List ℕ) → 0 < length bytes → eqb (length bytes) 0 ≡ false
left_some bytes lt = let ne : length bytes ≢ 0 = omega arith in ne_eqb (length bytes) 0 ne

pub none_left : (bytes : List ℕ) → eqb (length bytes) 0 ≡ true → bytes ≡ []
none_left bytes e = nil_from_length bytes (eqb-true (length bytes) 0 e)

-- ---- at most one element

one_takes : (bytes : List ℕ) → IsBytes bytes → (p : Option Piece) → at_most_one bytes ≡ Some p → IsAtMostOne bytes p
unfolding at_most_one
one_takes [] fits p e = subst (λ (w : Option Piece). IsAtMostOne [] w) (some_is None p e) refl
one_takes (b ∷ bytes) fits p e =
    let x = bind_is (take_any (b ∷ bytes)) _ p e in
    let w = when_is (eqb (length x.0.1) 0) _ p x.2 in
    let t = take_any_takes (b ∷ bytes) fits x.0 x.1 in
    let all : x.0.0.whole ≡ b ∷ bytes =
    sym (t.parts ∙ ap (λ (u : List ℕ). x.0.0.whole ++ u) (none_left x.0.1 w.0) ∙ append-nil x.0.0.whole) in
    subst (λ (q : Option Piece). IsAtMostOne (b ∷ bytes) q) (some_is _ p w.1)
    (subst (λ (u : List ℕ). IsElement u x.0.0.tag x.0.0.content) all t.is, all)

abbrev some_piece : ℕ → List ℕ → List ℕ → Option (Option Piece)
some_piece tag whole content = Some (Some (record { tag = tag; whole = whole; content = content }))

one_again : (bytes : List ℕ) (p : Option Piece) → IsAtMostOne bytes p → at_most_one bytes ≡ Some p
unfolding at_most_one
one_again bytes None is = rw is refl
one_again [] (Some p) is = absurd (let e = is.0.spelled in cc)
one_again (b ∷ bytes) (Some p) is =
    bind_of_some (take_any (b ∷ bytes)) _ _
    (take_any_again (b ∷ bytes) p.tag p.content [] (b ∷ bytes) is.0 (sym (append-nil (b ∷ bytes))))
    ∙ ap (λ (w : List ℕ). some_piece p.tag w p.content) (sym is.1)

-- ---- algorithms

abbrev pub TakesAlgorithm : List ℕ → Algorithm × List ℕ → Type 0
TakesAlgorithm bytes y = IsAlgorithm y.0 × (bytes ≡ y.0.whole ++ y.1)

pub algorithm_at_takes : (bytes : List ℕ) → IsBytes bytes → (y : Algorithm × List ℕ) → algorithm_at bytes ≡ Some y
    → TakesAlgorithm bytes y
unfolding algorithm_at
algorithm_at_takes bytes fits y e =
    let x = bind_is (take_tag SEQUENCE bytes) _ y e in
    let o = bind_is (take_tag OBJECT_IDENTIFIER x.0.0.content) _ y x.2 in
    let p = bind_is (at_most_one o.0.1) _ y o.2 in
    let g = unless_is (eqb (length o.0.0.content) 0) _ y p.2 in
    let tx = (take_tag_takes SEQUENCE bytes fits x.0 x.1).0 in
    let inner = first_fits _ _ _ _ bytes tx fits in
    let to = (take_tag_takes OBJECT_IDENTIFIER x.0.0.content inner o.0 o.1).0 in
    let tp = one_takes o.0.1 (rest_fits _ _ _ _ x.0.0.content to inner) p.0 p.1 in
    subst (λ (w : Algorithm × List ℕ). TakesAlgorithm bytes w) (some_is _ y g.1) (
      record {
        oid_text = o.0.0.whole;
        parameters_text = o.0.1;
        whole = subst (λ (w : List ℕ). IsElement x.0.0.whole SEQUENCE w) to.parts tx.is;
        oid = to.is;
        named = some_left o.0.0.content g.0;
        parameters = tp;
      },
      tx.parts,
    )

pub algorithm_at_again : (a : Algorithm) (rest bytes : List ℕ) → IsAlgorithm a → bytes ≡ a.whole ++ rest
    → algorithm_at bytes ≡ Some (a, rest)
unfolding algorithm_at
algorithm_at_again a rest bytes is parts =
    bind_of_some (take_tag SEQUENCE bytes) _ _
    (take_tag_again a.whole SEQUENCE (is.oid_text ++ is.parameters_text) rest bytes is.whole parts)
    ∙ bind_of_some (take_tag OBJECT_IDENTIFIER (is.oid_text ++ is.parameters_text)) _ _
    (take_tag_again is.oid_text OBJECT_IDENTIFIER a.oid is.parameters_text
    (is.oid_text ++ is.parameters_text) is.oid refl)
    ∙ bind_of_some (at_most_one is.parameters_text) _ a.parameters
    (one_again is.parameters_text a.parameters is.parameters)
    ∙ cond-false (eqb (length a.oid) 0) _ _ (left_some a.oid is.named)

-- ---- the bits of a BIT STRING

after_zero_takes : (content bits : List ℕ) → after_zero content ≡ Some bits → content ≡ 0 ∷ bits
unfolding after_zero
after_zero_takes [] bits e = absurd cc
after_zero_takes (n ∷ rest) bits e =
    let w = when_is (eqb n 0) (Some rest) bits e in
    let zero : n ≡ 0 = eqb-true n 0 w.0 in
    let same : rest ≡ bits = some_is rest bits w.1 in
    rw (zero, same) refl

pub bits_of_takes : (bytes : List ℕ) → IsBytes bytes → (bits : List ℕ) → bits_of bytes ≡ Some bits
    → IsElement bytes BIT_STRING (0 ∷ bits)
unfolding bits_of
bits_of_takes bytes fits bits e =
    let s = bind_is (take_whole BIT_STRING bytes) _ bits e in
    let t = take_whole_takes BIT_STRING bytes fits s.0 s.1 in
    subst (λ (w : List ℕ). IsElement bytes BIT_STRING w) (after_zero_takes s.0.content bits s.2) t.0

pub bits_of_again : (bytes bits : List ℕ) → IsElement bytes BIT_STRING (0 ∷ bits) → bits_of bytes ≡ Some bits
unfolding bits_of after_zero
bits_of_again bytes bits is =
    bind_of_some (take_whole BIT_STRING bytes) _ _ (take_whole_again bytes BIT_STRING (0 ∷ bits) is)

-- ---- SPKIs

abbrev pub TakesKeyInfo : List ℕ → KeyInfo × List ℕ → Type 0
TakesKeyInfo bytes y = IsKeyInfo y.0 × (bytes ≡ y.0.whole ++ y.1)

pub key_info_at_takes : (bytes : List ℕ) → IsBytes bytes → (y : KeyInfo × List ℕ) → key_info_at bytes ≡ Some y
    → TakesKeyInfo bytes y
unfolding key_info_at
key_info_at_takes bytes fits y e =
    let x = bind_is (take_tag SEQUENCE bytes) _ y e in
    let a = bind_is (algorithm_at x.0.0.content) _ y x.2 in
    let b = bind_is (bits_of a.0.1) _ y a.2 in
    let tx = (take_tag_takes SEQUENCE bytes fits x.0 x.1).0 in
    let inner = first_fits _ _ _ _ bytes tx fits in
    let ta = algorithm_at_takes x.0.0.content inner a.0 a.1 in
    let bits_fit = IsBytes-right a.0.0.whole a.0.1 (subst (λ (w : List ℕ). IsBytes w) ta.1 inner) in
    subst (λ (w : KeyInfo × List ℕ). TakesKeyInfo bytes w) (some_is _ y b.2) (
      record {
        bits_text = a.0.1;
        whole = subst (λ (w : List ℕ). IsElement x.0.0.whole SEQUENCE w) ta.1 tx.is;
        algorithm = ta.0;
        bits = bits_of_takes a.0.1 bits_fit b.0 b.1;
      },
      tx.parts,
    )

pub key_info_at_again : (k : KeyInfo) (rest bytes : List ℕ) → IsKeyInfo k → bytes ≡ k.whole ++ rest
    → key_info_at bytes ≡ Some (k, rest)
unfolding key_info_at
key_info_at_again k rest bytes is parts =
    let content = k.algorithm.whole ++ is.bits_text in
    bind_of_some (take_tag SEQUENCE bytes) _ _ (take_tag_again k.whole SEQUENCE content rest bytes is.whole parts)
    ∙ bind_of_some (algorithm_at content) _ (k.algorithm, is.bits_text)
    (algorithm_at_again k.algorithm is.bits_text content is.algorithm refl)
    ∙ bind_of_some (bits_of is.bits_text) _ k.bits (bits_of_again is.bits_text k.bits is.bits)

-- ---- all of the text as an SPKI

pub whole_key_info_takes : (bytes : List ℕ) → IsBytes bytes → (k : KeyInfo) → whole_key_info bytes ≡ Some k
    → IsKeyInfo k × (k.whole ≡ bytes)
unfolding whole_key_info
whole_key_info_takes bytes fits k e =
    let b = bind_is (key_info_at bytes) _ k e in
    let w = when_is (is_empty b.0.1) (Some b.0.0) k b.2 in
    let t = key_info_at_takes bytes fits b.0 b.1 in
    let all : b.0.0.whole ≡ bytes =
    sym (t.1 ∙ ap (λ (u : List ℕ). b.0.0.whole ++ u) (none_left b.0.1 w.0) ∙ append-nil b.0.0.whole) in
    subst (λ (q : KeyInfo). IsKeyInfo q × (q.whole ≡ bytes)) (some_is b.0.0 k w.1) (t.0, all)

pub whole_key_info_again : (bytes : List ℕ) (k : KeyInfo) → IsKeyInfo k → k.whole ≡ bytes
    → whole_key_info bytes ≡ Some k
unfolding whole_key_info
whole_key_info_again bytes k is text =
    bind_of_some (key_info_at bytes) _ (k, []) (key_info_at_again k [] bytes is (sym text ∙ sym (append-nil k.whole)))

-- ---- what the calls return, in the words of the relations

pub found_algorithm : (bytes text : List ℕ) → IsBytes text → (r : Option (AlgorithmPlaces × Reader))
    → algorithm_at text ≡ option_map (algorithm_read bytes) r
    → IfSome r (λ x. IsFirstAlgorithm (algorithm_of bytes x.0) (left x.1) text)
found_algorithm bytes text fits None e = tt
found_algorithm bytes text fits (Some x) e =
    let t = algorithm_at_takes text fits (algorithm_read bytes x) e in record { is = t.0; parts = t.1 }

pub found_key_info : (bytes text : List ℕ) → IsBytes text → (r : Option (KeyInfoPlaces × Reader))
    → key_info_at text ≡ option_map (key_info_read bytes) r
    → IfSome r (λ x. IsFirstKeyInfo (key_info_of bytes x.0) (left x.1) text)
found_key_info bytes text fits None e = tt
found_key_info bytes text fits (Some x) e =
    let t = key_info_at_takes text fits (key_info_read bytes x) e in record { is = t.0; parts = t.1 }

pub found_whole : (text : List ℕ) → IsBytes text → (r : Option KeyInfoPlaces)
    → whole_key_info text ≡ option_map (key_info_of text) r → IfSome r (λ k. IsWholeKeyInfo (key_info_of text k) text)
found_whole text fits None e = tt
found_whole text fits (Some k) e =
    let t = whole_key_info_takes text fits (key_info_of text k) e in record { is = t.0; whole = t.1 }

-- nothing is returned if and only if there is nothing
pub none_first : {X A : Type 0} (view : X → A × List ℕ) (Is : A → List ℕ → Type 0) (r : Option X)
    → IfSome r (λ x. Is (view x).0 (view x).1)
    → ((a : A) (rest : List ℕ) → Is a rest → option_map view r ≡ Some (a, rest))
    → (r ≡ None) ↔ ((a : A) (rest : List ℕ) → ¬ Is a rest)
none_first view Is None found only = (λ e a rest is. let no = only a rest is in cc, λ no. refl)
none_first view Is (Some x) found only = (λ e. absurd cc, λ no. absurd (no (view x).0 (view x).1 found))

pub none_whole : {X A : Type 0} (view : X → A) (Is : A → Type 0) (r : Option X) → IfSome r (λ x. Is (view x))
    → ((a : A) → Is a → option_map view r ≡ Some a) → (r ≡ None) ↔ ((a : A) → ¬ Is a)
none_whole view Is None found only = (λ e a is. let no = only a is in cc, λ no. refl)
none_whole view Is (Some x) found only = (λ e. absurd cc, λ no. absurd (no (view x) found))
