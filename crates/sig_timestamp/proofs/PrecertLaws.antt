-- The TBSCertificate of the precertificate: it is one of the same parts, no longer than the certificate's.
use Rattle.std.proofs.Common.{◌≡◌, ℕ, ◌/◌, ◌%◌, ◌≤◌, Bool, true, false, not, cond, ltb, List, [], ◌∷◌, ◌++◌}
use Rattle.std.proofs.Common.{length, refl, sym, ap, subst, ◌∙◌, append_assoc, arith, inl, inr}
use Rattle.std.specs.Prelude.{Result, Ok, Err, IfOk}
use Rattle.sig_base.specs.declared.memory.OutOfMemory.{OutOfMemory}
use Rattle.std.specs.Str.{bytes_eq}
use Rattle.std.specs.List.{AllByRecursion}
use Rattle.std.proofs.lemmas.Bool.{cases_Bool, cond-true, cond-false}
use Rattle.std.proofs.lemmas.List.{length-append, append-nil}
use Rattle.std.proofs.lemmas.Bool.Decides.{nat_tests}
use Rattle.sig_der.specs.Element.{IsElement, element, spelled_length}
use Rattle.sig_der.specs.ObjectIdentifiers.{sct_list}
use Rattle.sig_certificate.specs.Certificate.{Extension, Cert, IsExtension, IsList, AreExtensions, IsTbsCertificate}
use Rattle.sig_timestamp.specs.Precert.{without_oid, kept_extensions, kept_of, ders_of, extensions_element}
use Rattle.sig_timestamp.specs.Precert.{precertificate, HaveSpelling, IsWithoutScts}

-- ---- what is kept

kept_texts_cond : (b : Bool) (e : Extension) (es : List Extension)
    → ders_of (cond (not b) (e ∷ es) es) ≡ cond b [] e.whole ++ ders_of es
kept_texts_cond true e es = refl
kept_texts_cond false e es = refl

-- one turn of the walk over the extensions: an extension and the rest are left
pub kept_passes : (whole before after : List ℕ) (left rest : List Extension) (e : Extension)
    → before ++ ders_of (without_oid sct_list left) ≡ whole → left ≡ e ∷ rest → after ≡ before ++ kept_of e
    → after ++ ders_of (without_oid sct_list rest) ≡ whole
kept_passes whole before after left rest e is first more =
    ap (λ (w : List ℕ). w ++ ders_of (without_oid sct_list rest)) more
    ∙ append_assoc before (kept_of e) (ders_of (without_oid sct_list rest))
    ∙ ap (λ (w : List ℕ). before ++ w)
    (sym (kept_texts_cond (bytes_eq e.oid sct_list) e (without_oid sct_list rest)))
    ∙ sym (ap (λ (es : List Extension). before ++ ders_of (without_oid sct_list es)) first) ∙ is

pub kept_ends : (whole before : List ℕ) (left : List Extension)
    → before ++ ders_of (without_oid sct_list left) ≡ whole → left ≡ [] → before ≡ whole
kept_ends whole before left is none =
    sym (append-nil before) ∙ sym (ap (λ (es : List Extension). before ++ ders_of (without_oid sct_list es)) none) ∙ is

kept_each : (es : List Extension) → AllByRecursion IsExtension es
    → AllByRecursion IsExtension (without_oid sct_list es)
kept_each [] h = tt
kept_each (e ∷ es) h = by_test (not (bytes_eq e.oid sct_list)) (kept_each es h.1)
  where
    by_test : (b : Bool) → AllByRecursion IsExtension (without_oid sct_list es)
        → AllByRecursion IsExtension (cond b (e ∷ without_oid sct_list es) (without_oid sct_list es))
    by_test true rest = (h.0, rest)
    by_test false rest = rest

-- ---- lengths

kept_shorter : (es : List Extension) → length (ders_of (without_oid sct_list es)) ≤ length (ders_of es)
kept_shorter [] = omega arith
kept_shorter (e ∷ es) =
    let rest = kept_shorter es in
    let more = length-append e.whole (ders_of es) in
    elim (cases_Bool (bytes_eq e.oid sct_list)) [
      | inl out ↦
          let is = ap (λ (w : List ℕ). length w) (kept_texts_cond (bytes_eq e.oid sct_list) e (without_oid sct_list es)
          ∙ ap (λ (w : List ℕ). w ++ ders_of (without_oid sct_list es))
          (cond-true (bytes_eq e.oid sct_list) [] e.whole out)) in
          omega arith
      | inr in_it ↦
          let is = ap (λ (w : List ℕ). length w) (kept_texts_cond (bytes_eq e.oid sct_list) e (without_oid sct_list es)
          ∙ ap (λ (w : List ℕ). w ++ ders_of (without_oid sct_list es))
          (cond-false (bytes_eq e.oid sct_list) [] e.whole in_it)) in
          omega (arith, length-append e.whole (ders_of (without_oid sct_list es)))
    ]

octets_of : ℕ → ℕ
octets_of n = cond (ltb n 128) 1 (cond (ltb n 256) 2 (cond (ltb n 65536) 3 (cond (ltb n 16777216) 4 5)))

length-spelled : (n : ℕ) → length (spelled_length n) ≡ octets_of n
unfolding octets_of
length-spelled n = by_tests (ltb n 128) (ltb n 256) (ltb n 65536) (ltb n 16777216)
  where
    by_tests : (a b c d : Bool)
        → length (cond a (n ∷ [])
        (cond b (129 ∷ n ∷ [])
        (cond c (130 ∷ (n / 256) ∷ (n % 256) ∷ []) (cond d (131 ∷ (n / 65536) ∷ (n / 256 % 256) ∷ (n % 256) ∷ [])
        (132 ∷ (n / 16777216) ∷ (n / 65536 % 256) ∷ (n / 256 % 256) ∷ (n % 256) ∷ [])))))
        ≡ cond a 1 (cond b 2 (cond c 3 (cond d 4 5)))
    by_tests true b c d = refl
    by_tests false true c d = refl
    by_tests false false true d = refl
    by_tests false false false true = refl
    by_tests false false false false = refl

octets_grow : (m n : ℕ) → m ≤ n → octets_of m ≤ octets_of n
unfolding octets_of
octets_grow m n le = grind (arith, nat_tests)

element_shorter : (tag : ℕ) (a b : List ℕ) → length a ≤ length b → length (element tag a) ≤ length (element tag b)
element_shorter tag a b le =
    let grows = octets_grow (length a) (length b) le in
    let la = length-append (spelled_length (length a)) a in
    let lb = length-append (spelled_length (length b)) b in
    let sa = length-spelled (length a) in
    let sb = length-spelled (length b) in
    omega arith

-- ---- the TBSCertificate

list_of : (c : Cert) (is : IsTbsCertificate c) → c.listed ≡ true → IsList is.extensions_text c.extensions
list_of c is listed = subst (λ (b : Bool). AreExtensions is.extensions_text b c.extensions) listed is.extensions

pub have_spelling : (c : Cert) → IsTbsCertificate c → c.listed ≡ true → HaveSpelling c
have_spelling c is listed =
    let l = list_of c is listed in
    let kept = ders_of (kept_extensions c) in
    let inner : length kept ≤ length l.inner =
    subst (λ (w : List ℕ). length kept ≤ length w) (sym l.joined.parts) (kept_shorter c.extensions) in
    let list : length (element 48 kept) ≤ length l.sequence =
    subst (λ (w : List ℕ). length (element 48 kept) ≤ length w) (sym l.list.spelled)
    (element_shorter 48 kept l.inner inner) in
    let outer : length (extensions_element (kept_extensions c)) ≤ length is.extensions_text =
    subst (λ (w : List ℕ). length (extensions_element (kept_extensions c)) ≤ length w) (sym l.outer.spelled)
    (element_shorter 163 (element 48 kept) l.sequence list) in
    record {
      kept = omega (arith, l.list.short);
      list = omega (arith, l.outer.short);
      body = omega (
        arith,
        is.tbs.short,
        length-append c.front is.extensions_text,
        length-append c.front (extensions_element (kept_extensions c)),
      );
    }

tbs_certificate_of : (c : Cert) (is : IsTbsCertificate c) (text extensions_text : List ℕ)
    → IsElement text 48 (c.front ++ extensions_text)
    → AreExtensions extensions_text c.listed (kept_extensions c) → IsWithoutScts c text
tbs_certificate_of c is text extensions_text tbs extensions =
    record {
      version_text = is.version_text;
      serial_text = is.serial_text;
      validity_text = is.validity_text;
      issuer_id_text = is.issuer_id_text;
      subject_id_text = is.subject_id_text;
      extensions_text = extensions_text;
      tbs = tbs;
      front = is.front;
      version = is.version;
      serial = is.serial;
      algorithm = is.algorithm;
      issuer = is.issuer;
      validity = is.validity;
      subject = is.subject;
      key = is.key;
      issuer_id = is.issuer_id;
      subject_id = is.subject_id;
      extensions = extensions;
    }

pub without_scts : (c : Cert) → IsTbsCertificate c → IsWithoutScts c (precertificate c)
without_scts c is =
    elim (cases_Bool c.listed) [
      | inl listed ↦
          let l = list_of c is listed in
          let s = have_spelling c is listed in
          let kept = ders_of (kept_extensions c) in
          subst (λ (w : List ℕ). IsWithoutScts c w) (sym (cond-true c.listed _ _ listed))
          (tbs_certificate_of c is (element 48 (c.front ++ extensions_element (kept_extensions c)))
          (extensions_element (kept_extensions c))
          (record { tagged = is.tbs.tagged; short = s.body; spelled = refl })
          (subst (λ (b : Bool). AreExtensions (extensions_element (kept_extensions c)) b (kept_extensions c))
          (sym listed) (record {
            sequence = element 48 kept;
            inner = kept;
            outer = record { tagged = l.outer.tagged; short = s.list; spelled = refl };
            list = record { tagged = l.list.tagged; short = s.kept; spelled = refl };
            joined = record { each = kept_each c.extensions l.joined.each; parts = refl };
          })))
      | inr absent ↦
          let none = subst (λ (b : Bool). AreExtensions is.extensions_text b c.extensions) absent is.extensions in
          subst (λ (w : List ℕ). IsWithoutScts c w) (sym (cond-false c.listed _ _ absent))
          (tbs_certificate_of c is c.tbs is.extensions_text is.tbs
          (subst (λ (b : Bool). AreExtensions is.extensions_text b (kept_extensions c)) (sym absent)
          (none.0, ap (λ (es : List Extension). without_oid sct_list es) none.1)))
    ]

pub keeps_of : (c : Cert) → IsTbsCertificate c → (r : Result (List ℕ) OutOfMemory) → IfOk r (λ t. t ≡ precertificate c)
    → IfOk r (IsWithoutScts c)
keeps_of c is (Ok t) e = subst (λ (w : List ℕ). IsWithoutScts c w) (sym e) (without_scts c is)
keeps_of c is (Err d) e = tt
