-- The SCT of a certificate: each answer has its cause, and each cause its answer.
use Rattle.std.proofs.Common.{◌≡◌, ◌≢◌, ◌⊎◌, ℕ, ◌≤◌, false, List, [], ◌∷◌, length, Option, Some, None, Result, Ok, Err}
use Rattle.std.proofs.Common.{refl, sym, ap, subst, ◌∙◌, inl, inr, arith}
use Rattle.std.proofs.lemmas.List.{append-nil}
use Rattle.std.specs.Prelude.{◌↔◌, IsSome}
use Rattle.sig_base.specs.Answers.{Answers, ComesWhere}
use Rattle.sig_base.specs.Sha256.{sha256}
use Rattle.sig_base.proofs.OptionSteps.{some_is}
use Rattle.sig_der.proofs.Bytes.{IsBytes, IsBytes-right}
use Rattle.sig_der.proofs.KeyInfos.{content_fits}
use Rattle.sig_timestamp.specs.declared.signed.DigitallySigned.{DigitallySigned}
use Rattle.sig_timestamp.specs.declared.sct_error.CertificateErrorKind.{CertificateErrorKind}
use Rattle.sig_timestamp.specs.declared.sct_error.CertificateErrorKind.TheVariants.{LeafSCTMissing, IssuerMissing}
use Rattle.sig_timestamp.specs.declared.sct_error.CertificateErrorKind.TheVariants.{LeafSCTMalformed}
use Rattle.sig_timestamp.specs.declared.sct_error.SCTError.{SCTError}
use Rattle.sig_timestamp.specs.declared.sct_error.SCTError.TheVariants.{Parsing, OutOfMemory}
use Rattle.sig_certificate.specs.Certificate.{Extension, Cert}
use Rattle.sig_timestamp.specs.Vectors.{vector, uint16_bytes}
use Rattle.sig_timestamp.specs.SctList.{Sct, IsSct, IsSctList, sct_at, sct_list_at}
use Rattle.sig_timestamp.specs.Timestamps.{HasSct, LacksSct, HasBadSct, IsNoList, ListsNoSct, sct_extensions, only_one}
use Rattle.sig_timestamp.specs.Timestamps.{sct_or_not, sct_in, sct_of_value, sct_of_list, sct_of}
use Rattle.sig_timestamp.specs.Embedded.{signs_by, ready_with, HasSctCause, IsEmbeddedUnder, IsEmbeddedWith, IsSaidOf}
use Rattle.sig_timestamp.specs.Embedded.{IsSaidOfValue}
use Rattle.sig_timestamp.proofs.SctLaws.{sct_list_at_takes, sct_list_at_again, sct_at_takes, sct_at_again}

abbrev pub Texts : Type 0
Texts = List (List ℕ)

-- ---- an extension's value

-- the only text of a list is bytes where the value is
only_fits : (value text : List ℕ) → IsSctList value (text ∷ []) → IsBytes value → IsBytes text
only_fits value text is fits =
    let content = content_fits value 4 (vector is.list) is.is fits in
    let list = IsBytes-right (uint16_bytes (length is.list)) is.list content in
    let one = subst (λ (w : List ℕ). IsBytes w) (is.joined.parts ∙ append-nil (vector text)) list in
    IsBytes-right (uint16_bytes (length text)) text one

of_text : (v text : List ℕ) → IsBytes v → IsSctList v (text ∷ []) → (o : Option Sct) → sct_at text ≡ o
    → IsSaidOfValue v (sct_or_not o)
of_text v text fits lists None e =
    inr (record {
      text = text;
      lists = lists;
      none = λ s is. let again = sct_at_again text s is in let no = sym e
          ∙ again in cc;
    })
of_text v text fits lists (Some s) e = (text, (lists, sct_at_takes text (only_fits v text lists fits) s e))

pub value_said : (v : List ℕ) → IsBytes v → IsSaidOfValue v (sct_of_value v)
unfolding sct_of_value
value_said v fits = of_list (sct_list_at v) refl
  where
    of_list : (o : Option (List (List ℕ))) → sct_list_at v ≡ o → IsSaidOfValue v (sct_in (only_one o))
    of_list None e = inl (λ texts is. let again = sct_list_at_again v texts is in let no = sym e ∙ again in cc)
    of_list (Some []) e = ([], (sct_list_at_takes v fits [] e, λ n. omega arith))
    of_list (Some (text ∷ [])) e = of_text v text fits (sct_list_at_takes v fits (text ∷ []) e) (sct_at text) refl
    of_list (Some (text ∷ other ∷ texts)) e =
        (text ∷ other ∷ texts, (sct_list_at_takes v fits (text ∷ other ∷ texts) e, λ n. omega arith))

-- ---- a certificate

pub read_absent : (c : Cert) → sct_extensions c ≡ [] → Err LeafSCTMissing ≡ sct_of c
unfolding sct_of
read_absent c is = ap (λ (es : List Extension). sct_of_list es) (sym is)

pub read_one : (c : Cert) (e : Extension) → sct_extensions c ≡ e ∷ [] → sct_of_value e.value ≡ sct_of c
unfolding sct_of
read_one c e is = ap (λ (es : List Extension). sct_of_list es) (sym is)

not_one : (es : List Extension) → length es ≢ 1 → Err LeafSCTMissing ≡ sct_of_list es
not_one [] n = refl
not_one (e ∷ []) n = absurd (n refl)
not_one (e ∷ f ∷ es) n = refl

pub read_several : (c : Cert) → 2 ≤ length (sct_extensions c) → Err LeafSCTMissing ≡ sct_of c
unfolding sct_of
read_several c le = not_one (sct_extensions c) (λ n. omega arith)

-- ---- causes have their answers

has_reads : (c : Cert) (s : Sct) → HasSct c s → sct_of c ≡ Ok s
unfolding sct_of_value
has_reads c s h =
    sym (read_one c h.extension h.one)
    ∙ ap (λ (o : Option (List (List ℕ))). sct_in (only_one o))
    (sct_list_at_again h.extension.value (h.text ∷ []) h.lists)
    ∙ ap (λ (o : Option Sct). sct_or_not o) (sct_at_again h.text s h.is)

other_texts : (texts : List (List ℕ)) → length texts ≢ 1 → sct_in (only_one (Some texts)) ≡ Err LeafSCTMissing
other_texts [] n = refl
other_texts (t ∷ []) n = absurd (n refl)
other_texts (t ∷ u ∷ texts) n = refl

lacks_reads : (c : Cert) → LacksSct c → sct_of c ≡ Err LeafSCTMissing
unfolding sct_of sct_of_value
lacks_reads c (inl n) = sym (not_one (sct_extensions c) n)
lacks_reads c (inr h) =
    sym (read_one c h.extension h.one)
    ∙ ap (λ (o : Option (List (List ℕ))). sct_in (only_one o)) (sct_list_at_again h.extension.value h.texts h.lists)
    ∙ other_texts h.texts h.others

-- a list is read in one way, and so is not both malformed and well formed
same_list : (v : List ℕ) (a b : Texts) → IsSctList v a → IsSctList v b → a ≡ b
same_list v a b is other = some_is a b (sym (sct_list_at_again v a is) ∙ sct_list_at_again v b other)

same_extension : (c : Cert) (e f : Extension) → sct_extensions c ≡ e ∷ [] → sct_extensions c ≡ f ∷ [] → e ≡ f
same_extension c e f is other = let both : e ∷ [] ≡ f ∷ [] = sym is ∙ other in cc

bad_list : (v : List ℕ) (texts : Texts) → IsSctList v texts → IsNoList v ⊎ ListsNoSct v
    → (text : List ℕ) × (texts ≡ text ∷ []) × ((s : Sct) → ¬ IsSct text s)
bad_list v texts is (inl none) = absurd (none texts is)
bad_list v texts is (inr l) = (l.text, same_list v texts (l.text ∷ []) is l.lists, l.none)

bad_text : (c : Cert) (e : Extension) (texts : Texts) → sct_extensions c ≡ e ∷ [] → IsSctList e.value texts
    → HasBadSct c
    → (text : List ℕ) × (texts ≡ text ∷ []) × ((s : Sct) → ¬ IsSct text s)
bad_text c e texts one is b =
    bad_list e.value texts is
    (subst (λ (f : Extension). IsNoList f.value ⊎ ListsNoSct f.value) (same_extension c b.extension e b.one one) b.bad)

has_none_bad : (c : Cert) (s : Sct) → HasSct c s → HasBadSct c → ⊥
has_none_bad c s h b =
    let bad = bad_text c h.extension (h.text ∷ []) h.one h.lists b in
    let same : h.text ≡ bad.0 = let both = bad.1 in cc in
    bad.2 s (subst (λ (t : List ℕ). IsSct t s) same h.is)

lacks_none_bad : (c : Cert) → LacksSct c → HasBadSct c → ⊥
lacks_none_bad c (inl n) b = n (ap (λ (es : List Extension). length es) b.one)
lacks_none_bad c (inr o) b =
    let bad = bad_text c o.extension o.texts o.one o.lists b in
    o.others (ap (λ (ts : Texts). length ts) bad.1)

bad_reads : (c : Cert) (r : Result Sct CertificateErrorKind) → IsSaidOf c r → HasBadSct c → r ≡ Err LeafSCTMalformed
bad_reads c (Ok s) said b = absurd (has_none_bad c s said b)
bad_reads c (Err LeafSCTMissing) said b = absurd (lacks_none_bad c said b)
bad_reads c (Err LeafSCTMalformed) said b = refl
bad_reads c (Err IssuerMissing) said b = absurd said

abbrev Answer : Type 0
Answer = Result DigitallySigned SCTError

caused : (c : Cert) (hash : List ℕ) (r : Result Sct CertificateErrorKind) → IsSaidOf c r → (a : Answer)
    → Answers OutOfMemory (λ (d : DigitallySigned). d) a (ready_with c hash r) → HasSctCause c hash a
caused c hash (Ok s) said (Ok d) e = record { sct = s; has = said; is = let is = e in cc }
caused c hash (Ok s) said (Err f) (inl memory) = rw memory tt
caused c hash (Ok s) said (Err f) (inr e) = absurd cc
caused c hash (Err k) said (Ok d) e = absurd cc
caused c hash (Err k) said (Err f) (inl memory) = rw memory tt
caused c hash (Err k) said (Err f) (inr e) = let same : f ≡ Parsing k = cc in rw same (of_kind k said)
  where
    of_kind : (k : CertificateErrorKind) → IsSaidOf c (Err k) → HasSctCause c hash (Err (Parsing k))
    of_kind LeafSCTMissing h = h
    of_kind LeafSCTMalformed h = h
    of_kind IssuerMissing h = h

pub embedded : (c : Cert) (hash : List ℕ) (a : Answer)
    → Answers OutOfMemory (λ (d : DigitallySigned). d) a (ready_with c hash (sct_of c)) → IsSaidOf c (sct_of c)
    → IsEmbeddedWith c hash a
embedded c hash a e said =
    record {
      cause = caused c hash (sct_of c) said a e;
      has = λ s h. subst (λ (w : Answer). Answers OutOfMemory (λ (d : DigitallySigned). d) a w)
          (ap (λ (r : Result Sct CertificateErrorKind). ready_with c hash r) (has_reads c s h)) e;
      lacks = λ h. subst (λ (w : Answer). Answers OutOfMemory (λ (d : DigitallySigned). d) a w)
          (ap (λ (r : Result Sct CertificateErrorKind). ready_with c hash r) (lacks_reads c h)) e;
      bad = λ h. subst (λ (w : Answer). Answers OutOfMemory (λ (d : DigitallySigned). d) a w)
          (ap (λ (r : Result Sct CertificateErrorKind). ready_with c hash r) (bad_reads c (sct_of c) said h)) e;
      read = e;
    }

-- ---- each refusal, exactly

comes : (a m : Answer) → Answers OutOfMemory (λ (d : DigitallySigned). d) a m → (a ≡ Err OutOfMemory) ⊎ (a ≡ m)
comes (Ok d) m e = inr (sym e)
comes (Err f) m (inl e) = inl (ap (λ (x : SCTError). Err x) e)
comes (Err f) m (inr e) = inr (sym e)

pub missing : (c : Cert) (hash : List ℕ) (a : Answer) → IsEmbeddedWith c hash a
    → ComesWhere OutOfMemory a (Err (Parsing LeafSCTMissing)) (LacksSct c)
missing c hash a is = (
  (λ e. subst (λ (w : Answer). HasSctCause c hash w) e is.cause),
  (λ h. comes a (Err (Parsing LeafSCTMissing)) (is.lacks h)),
)

pub malformed : (c : Cert) (hash : List ℕ) (a : Answer) → IsEmbeddedWith c hash a
    → ComesWhere OutOfMemory a (Err (Parsing LeafSCTMalformed)) (HasBadSct c)
malformed c hash a is = (
  (λ e. subst (λ (w : Answer). HasSctCause c hash w) e is.cause),
  (λ h. comes a (Err (Parsing LeafSCTMalformed)) (is.bad h)),
)

pub under_issuer : (c : Cert) (o : Option Cert) (a : Answer) → IsEmbeddedUnder c o a
    → (a ≡ Err (Parsing IssuerMissing)) ↔ (o ≡ None)
under_issuer c None a is = ((λ e. refl), (λ e. is))
under_issuer c (Some x) a is =
    ((λ e. absurd (subst (λ (w : Answer). HasSctCause c (sha256 x.spki) w) e is.cause)), (λ e. absurd cc))

pub under_missing : (c : Cert) (o : Option Cert) (a : Answer) → IsEmbeddedUnder c o a
    → ComesWhere OutOfMemory a (Err (Parsing LeafSCTMissing)) (IsSome o × LacksSct c)
under_missing c None a is = ((λ e. let no = sym is ∙ e in absurd cc), (λ h. let no = h.0 in absurd cc))
under_missing c (Some x) a is = let both = missing c (sha256 x.spki) a is in ((λ e. (refl, both.0 e)), (λ h. both.1 h.1))

pub under_malformed : (c : Cert) (o : Option Cert) (a : Answer) → IsEmbeddedUnder c o a
    → ComesWhere OutOfMemory a (Err (Parsing LeafSCTMalformed)) (IsSome o × HasBadSct c)
under_malformed c None a is = ((λ e. let no = sym is ∙ e in absurd cc), (λ h. let no = h.0 in absurd cc))
under_malformed c (Some x) a is = let both = malformed c (sha256 x.spki) a is in ((λ e. (refl, both.0 e)), (λ h. both.1 h.1))

-- ---- the purposes of a certificate

pub signs_several : (es : List Extension) → 2 ≤ length es → signs_by es ≡ false
signs_several [] le = refl
signs_several (e ∷ []) le = absurd (omega arith)
signs_several (e ∷ f ∷ es) le = refl
