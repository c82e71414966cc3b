-- Whom a certificate names: what is computed, and its words.
use Rattle.std.proofs.Common.{◌≡◌, ◌≢◌, ◌⊎◌, ℕ, List, [], ◌∷◌, ◌++◌, Option, Some, None, Result, Ok, Err}
use Rattle.std.proofs.Common.{refl, sym, ap, subst, ◌∙◌, inl, inr, option_map}
use Rattle.std.specs.List.{AllByRecursion}
use Rattle.std.specs.Option.{ok_or}
use Rattle.std.specs.Str.{IsUtf8}
use Rattle.sig_base.proofs.ResultRuleLaws.{comes_where}
use Rattle.sig_base.specs.Answers.{Answers, ComesWhere}
use Rattle.sig_base.specs.OptionSteps.{or_else}
use Rattle.sig_base.specs.declared.error.SigstoreError.{SigstoreError}
use Rattle.sig_base.specs.declared.error.SigstoreError.TheVariants.{CertificateParsingError, OutOfMemory}
use Rattle.sig_base.specs.declared.error.SigstoreError.TheVariants.{CertificateWithIncompleteSubjectAlternativeName}
use Rattle.sig_certificate.specs.Certificate.{Extension, Cert}
use Rattle.sig_certificate.specs.Lookups.{with_oid}
use Rattle.sig_certificate.specs.Names.{Name, Email, Uri, Other, Unread, general_names_of}
use Rattle.sig_der.specs.ObjectIdentifiers.{subject_alternative_name}
use Rattle.sig_policy.proofs.SingleLaws.{utf8_is}
use Rattle.sig_policy.proofs.Utf8Laws.{utf8_some}
use Rattle.sig_policy.specs.Texts.{utf8_text}
use Rattle.sig_signer.specs.NamedSubject.{HasNames, HasNoNames, HasSubject, IsFirstSubject, IsNobody, IsSubject}
use Rattle.sig_signer.specs.NamedSubject.{NamesNobody}
use Rattle.sig_signer.specs.Subject.{first_subject, names_in, only_names, subject_answer, subject_in, subject_of_names}
use Rattle.sig_signer.specs.declared.subject.CertificateSubject.{CertificateSubject}
use Rattle.sig_signer.specs.declared.subject.CertificateSubject.TheVariants.{Email as ByEmail, Uri as ByUri}

-- ---- the extension

only_takes : (es : List Extension) (names : List Name) → only_names es ≡ Some names
    → (e : Extension) × (es ≡ e ∷ []) × (general_names_of e.value ≡ Some names)
only_takes [] names is = absurd cc
only_takes (e ∷ []) names is = (e, refl, is)
only_takes (e ∷ f ∷ es) names is = absurd cc

names_take : (c : Cert) (names : List Name) → names_in c ≡ Some names → HasNames c names
names_take c names is =
    let found = only_takes (with_oid subject_alternative_name c.extensions) names is in
    record { extension = found.0; one = found.1; are = found.2 }

names_again : (c : Cert) (names : List Name) → HasNames c names → names_in c ≡ Some names
names_again c names has = ap (λ (es : List Extension). only_names es) has.one ∙ has.are

-- ---- one name

by_email : (text : List ℕ) (o : Option (List ℕ)) (s : CertificateSubject) → utf8_text text ≡ o
    → option_map (λ (t : List ℕ). ByEmail t) o ≡ Some s → (s ≡ ByEmail text) × IsUtf8 text
by_email text None s found is = absurd cc
by_email text (Some t) s found is =
    let utf8 = utf8_is text t found in
    let same : ByEmail t ≡ s = cc in
    (sym same ∙ ap (λ (w : List ℕ). ByEmail w) (sym utf8.0), subst (λ (w : List ℕ). IsUtf8 w) (sym utf8.0) utf8.1)

by_uri : (text : List ℕ) (o : Option (List ℕ)) (s : CertificateSubject) → utf8_text text ≡ o
    → option_map (λ (t : List ℕ). ByUri t) o ≡ Some s → (s ≡ ByUri text) × IsUtf8 text
by_uri text None s found is = absurd cc
by_uri text (Some t) s found is =
    let utf8 = utf8_is text t found in
    let same : ByUri t ≡ s = cc in
    (sym same ∙ ap (λ (w : List ℕ). ByUri w) (sym utf8.0), subst (λ (w : List ℕ). IsUtf8 w) (sym utf8.0) utf8.1)

name_takes : (n : Name) (s : CertificateSubject) → subject_in n ≡ Some s → IsSubject n s
name_takes (Email text) s is = by_email text (utf8_text text) s refl is
name_takes (Uri text) s is = by_uri text (utf8_text text) s refl is
name_takes (Other oid value) s is = absurd cc
name_takes Unread s is = absurd cc

name_again : (n : Name) (s : CertificateSubject) → IsSubject n s → subject_in n ≡ Some s
name_again (Email text) s is = rw (is.0, utf8_some text is.1) refl
name_again (Uri text) s is = rw (is.0, utf8_some text is.1) refl
name_again (Other oid value) s is = absurd is
name_again Unread s is = absurd is

nobody_from : (n : Name) → subject_in n ≡ None → IsNobody n
nobody_from (Email text) is = λ utf8. let wrong = sym is ∙ name_again (Email text) (ByEmail text) (refl, utf8) in cc
nobody_from (Uri text) is = λ utf8. let wrong = sym is ∙ name_again (Uri text) (ByUri text) (refl, utf8) in cc
nobody_from (Other oid value) is = tt
nobody_from Unread is = tt

nobody_is : (n : Name) (o : Option CertificateSubject) → subject_in n ≡ o → IsNobody n → o ≡ None
nobody_is n None is nobody = refl
nobody_is (Email text) (Some s) is nobody = absurd (nobody (name_takes (Email text) s is).1)
nobody_is (Uri text) (Some s) is nobody = absurd (nobody (name_takes (Uri text) s is).1)
nobody_is (Other oid value) (Some s) is nobody = absurd cc
nobody_is Unread (Some s) is nobody = absurd cc

nobody : (n : Name) → IsNobody n → subject_in n ≡ None
nobody n is = nobody_is n (subject_in n) refl is

-- ---- the first of the names

first_step : (n : Name) (ns : List Name) (o : Option CertificateSubject) (s : CertificateSubject)
    → subject_in n ≡ o → (first_subject ns ≡ Some s → IsFirstSubject ns s)
    → or_else o (first_subject ns) ≡ Some s → IsFirstSubject (n ∷ ns) s
first_step n ns (Some x) s is rest found =
    let same : x ≡ s = cc in
    record {
      before = [];
      name = n;
      after = ns;
      split = refl;
      others = tt;
      is = name_takes n s (is ∙ ap (λ (y : CertificateSubject). Some y) same);
    }
first_step n ns None s is rest found =
    let later = rest found in
    record {
      before = n ∷ later.before;
      name = later.name;
      after = later.after;
      split = ap (λ (l : List Name). n ∷ l) later.split;
      others = (nobody_from n is, later.others);
      is = later.is;
    }

first_takes : (ns : List Name) (s : CertificateSubject) → first_subject ns ≡ Some s → IsFirstSubject ns s
first_takes [] s is = absurd cc
first_takes (n ∷ ns) s is = first_step n ns (subject_in n) s refl (first_takes ns s) is

first_at : (before : List Name) (n : Name) (after : List Name) (s : CertificateSubject) → AllByRecursion IsNobody before
    → IsSubject n s → first_subject (before ++ n ∷ after) ≡ Some s
first_at [] n after s others is = rw (name_again n s is) refl
first_at (b ∷ before) n after s others is = rw (nobody b others.0) (first_at before n after s others.1 is)

first_again : (ns : List Name) (s : CertificateSubject) → IsFirstSubject ns s → first_subject ns ≡ Some s
first_again ns s has =
    ap (λ (l : List Name). first_subject l) has.split ∙ first_at has.before has.name has.after s has.others has.is

none_step : (n : Name) (ns : List Name) (o : Option CertificateSubject) → subject_in n ≡ o
    → (first_subject ns ≡ None → AllByRecursion IsNobody ns) → or_else o (first_subject ns) ≡ None
    → IsNobody n × AllByRecursion IsNobody ns
none_step n ns (Some x) named rest found = absurd cc
none_step n ns None named rest found = (nobody_from n named, rest found)

none_takes : (ns : List Name) → first_subject ns ≡ None → AllByRecursion IsNobody ns
none_takes [] is = tt
none_takes (n ∷ ns) is = none_step n ns (subject_in n) refl (none_takes ns) is

none_again : (ns : List Name) → AllByRecursion IsNobody ns → first_subject ns ≡ None
none_again [] all = refl
none_again (n ∷ ns) all = rw (nobody n all.0) (none_again ns all.1)

-- ---- the result

answer_of : (c : Cert) (names : List Name) → HasNames c names
    → subject_answer c ≡ ok_or (first_subject names) CertificateWithIncompleteSubjectAlternativeName
answer_of c names has = ap (λ (o : Option (List Name)). subject_of_names o) (names_again c names has)

found_from : (c : Cert) (o : Option (List Name)) (s : CertificateSubject) → names_in c ≡ o → subject_of_names o ≡ Ok s
    → HasSubject c s
found_from c None s is e = absurd cc
found_from c (Some names) s is e = by (first_subject names) refl e
  where
    by : (p : Option CertificateSubject) → first_subject names ≡ p
        → ok_or p CertificateWithIncompleteSubjectAlternativeName ≡ Ok s → HasSubject c s
    by None first e = absurd cc
    by (Some t) first e =
        let same : t ≡ s = cc in
        (names, names_take c names is, first_takes names s (first ∙ ap (λ (y : CertificateSubject). Some y) same))

found_is : (c : Cert) (s : CertificateSubject) → HasSubject c s → subject_answer c ≡ Ok s
found_is c s has = rw (answer_of c has.0 has.1, first_again has.0 s has.2) refl

malformed_from : (c : Cert) (o : Option (List Name)) → names_in c ≡ o → subject_of_names o ≡ Err CertificateParsingError
    → HasNoNames c
malformed_from c None is e = λ names has. let wrong = sym is ∙ names_again c names has in cc
malformed_from c (Some names) is e = by (first_subject names) e
  where
    by : (p : Option CertificateSubject)
        → ok_or p CertificateWithIncompleteSubjectAlternativeName ≡ Err CertificateParsingError → HasNoNames c
    by None e = absurd cc
    by (Some t) e = absurd cc

malformed_is : (c : Cert) (o : Option (List Name)) → names_in c ≡ o → HasNoNames c
    → subject_of_names o ≡ Err CertificateParsingError
malformed_is c None is none = refl
malformed_is c (Some names) is none = absurd (none names (names_take c names is))

incomplete_from : (c : Cert) (o : Option (List Name)) → names_in c ≡ o
    → subject_of_names o ≡ Err CertificateWithIncompleteSubjectAlternativeName → NamesNobody c
incomplete_from c None is e = absurd cc
incomplete_from c (Some names) is e = by (first_subject names) refl e
  where
    by : (p : Option CertificateSubject) → first_subject names ≡ p
        → ok_or p CertificateWithIncompleteSubjectAlternativeName ≡ Err CertificateWithIncompleteSubjectAlternativeName
        → NamesNobody c
    by None first e = (names, names_take c names is, none_takes names first)
    by (Some t) first e = absurd cc

incomplete_is : (c : Cert) → NamesNobody c → subject_answer c ≡ Err CertificateWithIncompleteSubjectAlternativeName
incomplete_is c has = rw (answer_of c has.0 has.1, none_again has.0 has.2) refl

-- ---- the clauses

module _ (c : Cert) (r : Result CertificateSubject SigstoreError)
    (is : Answers OutOfMemory (λ s. s) r (subject_answer c)) where
  pub comes_found : (s : CertificateSubject) → ComesWhere OutOfMemory r (Ok s) (HasSubject c s)
  comes_found s =
      comes_where OutOfMemory r (subject_answer c) (Ok s) (HasSubject c s) is (λ e. cc)
      (found_from c (names_in c) s refl) (found_is c s)

  pub comes_malformed : ComesWhere OutOfMemory r (Err CertificateParsingError) (HasNoNames c)
  comes_malformed =
      comes_where OutOfMemory r (subject_answer c) (Err CertificateParsingError) (HasNoNames c) is (λ e. cc)
      (malformed_from c (names_in c) refl) (malformed_is c (names_in c) refl)

  pub comes_incomplete : ComesWhere OutOfMemory r (Err CertificateWithIncompleteSubjectAlternativeName) (NamesNobody c)
  comes_incomplete =
      comes_where OutOfMemory r (subject_answer c) (Err CertificateWithIncompleteSubjectAlternativeName) (NamesNobody c)
      is (λ e. cc) (incomplete_from c (names_in c) refl) (incomplete_is c)
