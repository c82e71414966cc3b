-- The extensions that the precertificate keeps: the walk leaves out the lists of SCTs, and nothing else.
use Rattle.std.proofs.Common.{◌≡◌, ◌≢◌, ℕ, Bool, true, false, not, cond, List, [], ◌∷◌, ◌++◌, refl, sym, ap, subst}
use Rattle.std.proofs.Common.{◌∙◌, inl, inr}
use Rattle.std.specs.Prelude.{Result, Ok, Err, IfOk}
use Rattle.std.specs.Str.{bytes_eq}
use Rattle.std.specs.List.{AllByRecursion}
use Rattle.std.proofs.lemmas.Bool.{cases_Bool, cond-true, cond-false, false_from_ne_true}
use Rattle.std.proofs.lemmas.Bool.Decides.{not_from_Decides}
use Rattle.std.proofs.lemmas.Slice.Eq.{bytes_eq-Decides}
use Rattle.sig_base.specs.declared.memory.OutOfMemory.{OutOfMemory}
use Rattle.sig_der.specs.Element.{element}
use Rattle.sig_der.specs.ObjectIdentifiers.{sct_list}
use Rattle.sig_certificate.specs.Certificate.{Extension, Cert, IsList, AreExtensions, IsTbsCertificate}
use Rattle.sig_timestamp.specs.KeptExtensions.{AreMerged, AreKept, IsPrecertificate}
use Rattle.sig_timestamp.specs.Precert.{without_oid, kept_extensions, extensions_element, tbs_with}
use Rattle.sig_timestamp.specs.Precert.{precertificate}
use Rattle.sig_timestamp.proofs.PrecertLaws.{without_scts}

-- ---- what the walk keeps is kept

are_kept : (es : List Extension) → AreKept es (without_oid sct_list es)
are_kept [] = record { lists = []; merged = (refl, refl); others = tt; scts = tt }
are_kept (e ∷ es) = by (bytes_eq e.oid sct_list) refl (are_kept es)
  where
    by : (b : Bool) → bytes_eq e.oid sct_list ≡ b → AreKept es (without_oid sct_list es)
        → AreKept (e ∷ es) (cond (not b) (e ∷ without_oid sct_list es) (without_oid sct_list es))
    by true is rest = record {
      lists = e ∷ rest.lists;
      merged = inr (rest.lists, (refl, rest.merged));
      others = rest.others;
      scts = ((bytes_eq-Decides e.oid sct_list).0 is, rest.scts);
    }
    by false is rest = record {
      lists = rest.lists;
      merged = inl (without_oid sct_list es, (refl, rest.merged));
      others = (not_from_Decides (bytes_eq e.oid sct_list) (bytes_eq-Decides e.oid sct_list) is, rest.others);
      scts = rest.scts;
    }

-- ---- what is kept is what the walk keeps

abbrev AreOthers : List Extension → Type 0
AreOthers es = AllByRecursion (λ (e : Extension). e.oid ≢ sct_list) es

abbrev AreLists : List Extension → Type 0
AreLists es = AllByRecursion (λ (e : Extension). e.oid ≡ sct_list) es

abbrev kept_if : Bool → Extension → List Extension → List Extension
kept_if is e es = cond (not is) (e ∷ es) es

walked : (es kept lists : List Extension) → AreMerged kept lists es → AreOthers kept → AreLists lists
    → kept ≡ without_oid sct_list es
walked [] kept lists merged others scts = merged.0
walked (e ∷ es) kept lists (inl (rest, (is, merged))) others scts =
    let both : AreOthers (e ∷ rest) = subst (λ (w : List Extension). AreOthers w) is others in
    let other : bytes_eq e.oid sct_list ≡ false =
    false_from_ne_true (bytes_eq e.oid sct_list) (λ same. both.0 ((bytes_eq-Decides e.oid sct_list).0 same)) in
    is ∙ ap (λ (w : List Extension). e ∷ w) (walked es rest lists merged both.1 scts)
    ∙ sym (ap (λ (b : Bool). kept_if b e (without_oid sct_list es)) other)
walked (e ∷ es) kept lists (inr (rest, (is, merged))) others scts =
    let both : AreLists (e ∷ rest) = subst (λ (w : List Extension). AreLists w) is scts in
    walked es kept rest merged others both.1
    ∙ sym (ap (λ (b : Bool). kept_if b e (without_oid sct_list es)) ((bytes_eq-Decides e.oid sct_list).1 both.0))

-- ---- the TBSCertificate

pub is_precertificate : (c : Cert) → IsTbsCertificate c → IsPrecertificate c (precertificate c)
is_precertificate c is =
    record { extensions = kept_extensions c; kept = are_kept c.extensions; is = without_scts c is }

-- the certificate with these bytes and these extensions
abbrev with_parts : Cert → List ℕ → List Extension → Cert
with_parts c tbs es = record c { tbs = tbs; extensions = es }

list_text : (text : List ℕ) (es : List Extension) → IsList text es → text ≡ extensions_element es
list_text text es l =
    l.outer.spelled
    ∙ ap (λ (w : List ℕ). element 163 w) (l.list.spelled ∙ ap (λ (w : List ℕ). element 48 w) l.joined.parts)

pub precertificate_is : (c : Cert) → IsTbsCertificate c → (tbs : List ℕ) → IsPrecertificate c tbs
    → tbs ≡ precertificate c
precertificate_is c is tbs p =
    let same : p.extensions ≡ kept_extensions c =
    walked c.extensions p.extensions p.kept.lists p.kept.merged p.kept.others p.kept.scts in
    by (subst (λ (w : List Extension). IsTbsCertificate (with_parts c tbs w)) same p.is)
  where
    by : IsTbsCertificate (with_parts c tbs (kept_extensions c)) → tbs ≡ precertificate c
    by t = elim (cases_Bool c.listed) [
      | inl listed ↦
          let l =
          subst (λ (b : Bool). AreExtensions t.extensions_text b (kept_extensions c)) listed t.extensions in
          t.tbs.spelled
          ∙ ap (λ (w : List ℕ). element 48 (c.front ++ w)) (list_text t.extensions_text (kept_extensions c) l)
          ∙ sym (cond-true c.listed (tbs_with c (kept_extensions c)) c.tbs listed)
      | inr absent ↦
          let none =
          subst (λ (b : Bool). AreExtensions t.extensions_text b (kept_extensions c)) absent t.extensions in
          let before = subst (λ (b : Bool). AreExtensions is.extensions_text b c.extensions) absent is.extensions in
          t.tbs.spelled ∙ ap (λ (w : List ℕ). element 48 (c.front ++ w)) (none.0 ∙ sym before.0) ∙ sym is.tbs.spelled
          ∙ sym (cond-false c.listed (tbs_with c (kept_extensions c)) c.tbs absent)
    ]

-- ---- of what is returned

pub kept_of_result : (c : Cert) → IsTbsCertificate c → (r : Result (List ℕ) OutOfMemory)
    → IfOk r (λ t. t ≡ precertificate c) → IfOk r (IsPrecertificate c)
kept_of_result c is (Ok t) e = subst (λ (w : List ℕ). IsPrecertificate c w) (sym e) (is_precertificate c is)
kept_of_result c is (Err d) e = tt

pub only_of_result : (c : Cert) → IsTbsCertificate c → (r : Result (List ℕ) OutOfMemory)
    → IfOk r (λ t. t ≡ precertificate c)
    → (tbs : List ℕ) → IsPrecertificate c tbs → IfOk r (λ t. t ≡ tbs)
only_of_result c is (Ok t) e tbs p = e ∙ sym (precertificate_is c is tbs p)
only_of_result c is (Err d) e tbs p = tt
