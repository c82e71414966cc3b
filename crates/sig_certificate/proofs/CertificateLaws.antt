-- *Certificate* and its plain reader: what is cut and read is a certificate, and a certificate is cut and read.
use Rattle.std.proofs.Common.{◌≡◌, ℕ, ◌-◌, ℤ, Bool, true, false, List, [], ◌∷◌, ◌++◌, length, Option, Some, refl, sym}
use Rattle.std.proofs.Common.{ap, subst, ◌∙◌, append_assoc, arith}
use Rattle.std.proofs.lemmas.List.{take_at, length-append}
use Rattle.sig_base.proofs.OptionSteps.{bind_is, bind_of_some, some, some_is}
use Rattle.sig_der.specs.Element.{IsElement}
use Rattle.sig_der.specs.Reading.{Piece}
use Rattle.sig_der.specs.FrontReaders.{take_tag, take_whole, begins_with, many_at}
use Rattle.sig_der.specs.KeyInfo.{algorithm_at, bits_of}
use Rattle.sig_der.proofs.Bytes.{IsBytes}
use Rattle.sig_der.proofs.Takings.{take_tag_takes, take_tag_again, take_whole_takes, take_whole_again}
use Rattle.sig_der.proofs.KeyInfos.{content_fits, first_fits, rest_fits, algorithm_at_takes, bits_of_takes}
use Rattle.sig_der.proofs.KeyInfos.{bits_of_again}
use Rattle.sig_der.proofs.ElementLists.{many_at_takes, many_at_again, many_at_none}
use Rattle.sig_certificate.specs.Certificate.{Extension, Cert, IsCertificate, IsExtension, AreExtensions}
use Rattle.sig_certificate.specs.Certificate.{IsAlgorithmText}
use Rattle.sig_certificate.specs.Cutting.{Preamble, Binding, Outer, Parts, before, outer_at, preamble_at, binding_at, after_ids}
use Rattle.sig_certificate.specs.Cutting.{list_at, parts_at, extension_at, certificate_from_parts, HasCertificateParts}
use Rattle.sig_certificate.proofs.ExtensionLaws.{extension_reader}
use Rattle.sig_certificate.proofs.PreambleLaws.{after_fits, algorithm_text_again, TakesPreamble, preamble_at_takes, preamble_at_again}
use Rattle.sig_certificate.proofs.BindingLaws.{TakesBinding, binding_at_takes, binding_at_again, TakesIds}
use Rattle.sig_certificate.proofs.BindingLaws.{after_ids_takes, after_ids_again, IsListed, list_at_takes, list_at_again}
use Rattle.sig_der.specs.Tag.{BIT_STRING, EXTENSIONS, ISSUER_UNIQUE_ID, SEQUENCE, SUBJECT_UNIQUE_ID}

-- ---- the three parts

pub record TakesOuter (text : List ℕ) (o : Outer) : Type 0 where
  pub signature_text : List ℕ
  pub whole : IsElement text SEQUENCE (o.tbs.whole ++ (o.algorithm ++ signature_text))
  pub tag : o.tbs.tag ≡ SEQUENCE
  pub tbs : IsElement o.tbs.whole SEQUENCE o.tbs.content
  pub algorithm : IsAlgorithmText o.algorithm
  pub signature : IsElement signature_text BIT_STRING (0 ∷ o.signature)
  pub fits : IsBytes o.tbs.content

outer_at_takes : (text : List ℕ) → IsBytes text → (o : Outer) → outer_at text ≡ Some o → TakesOuter text o
unfolding outer_at
outer_at_takes text fits o e =
    let x = bind_is (take_whole SEQUENCE text) _ o e in
    let t = bind_is (take_tag SEQUENCE x.0.content) _ o x.2 in
    let a = bind_is (algorithm_at t.0.1) _ o t.2 in
    let s = bind_is (bits_of a.0.1) _ o a.2 in
    let tx = take_whole_takes SEQUENCE text fits x.0 x.1 in
    let inner = content_fits text SEQUENCE x.0.content tx.0 fits in
    let tagged = take_tag_takes SEQUENCE x.0.content inner t.0 t.1 in
    let fits_t = rest_fits _ _ _ _ x.0.content tagged.0 inner in
    let ta = algorithm_at_takes t.0.1 fits_t a.0 a.1 in
    let spelled : x.0.content ≡ t.0.0.whole ++ (a.0.0.whole ++ a.0.1) =
    tagged.0.parts ∙ ap (λ (w : List ℕ). t.0.0.whole ++ w) ta.1 in
    subst (λ (w : Outer). TakesOuter text w) (some_is _ o s.2) (record {
      signature_text = a.0.1;
      whole = subst (λ (w : List ℕ). IsElement text SEQUENCE w) spelled tx.0;
      tag = tagged.1;
      tbs = tagged.0.is;
      algorithm = (a.0.0, (ta.0, refl));
      signature = bits_of_takes a.0.1 (after_fits a.0.0.whole a.0.1 t.0.1 ta.1 fits_t) s.0 s.1;
      fits = first_fits _ _ _ _ x.0.content tagged.0 inner;
    })

abbrev some_outer : Piece → List ℕ → List ℕ → Option Outer
some_outer tbs algorithm signature = Some (record { tbs = tbs; algorithm = algorithm; signature = signature })

outer_at_again : (text tbs content algorithm signature signature_text : List ℕ)
    → IsElement text SEQUENCE (tbs ++ (algorithm ++ signature_text)) → IsElement tbs SEQUENCE content
    → IsAlgorithmText algorithm → IsElement signature_text BIT_STRING (0 ∷ signature)
    → outer_at text ≡ some_outer (record { tag = 48; whole = tbs; content = content }) algorithm signature
unfolding outer_at
outer_at_again text tbs content algorithm signature signature_text whole is named bits =
    let after = algorithm ++ signature_text in
    let all = tbs ++ after in
    let a = algorithm_text_again algorithm signature_text after named refl in
    bind_of_some (take_whole SEQUENCE text) _ _ (take_whole_again text SEQUENCE all whole)
    ∙ bind_of_some (take_tag SEQUENCE all) _ _ (take_tag_again tbs SEQUENCE content after all is refl)
    ∙ bind_of_some (algorithm_at after) _ (a.0, signature_text) a.1
    ∙ bind_of_some (bits_of signature_text) _ signature (bits_of_again signature_text signature bits)
    ∙ ap (λ (w : List ℕ). some_outer (record { tag = 48; whole = tbs; content = content }) w signature) a.2

-- ---- the elements before the extensions

-- nine texts and what follows them
abbrev nine : List ℕ → List ℕ → List ℕ → List ℕ → List ℕ → List ℕ → List ℕ → List ℕ → List ℕ → List ℕ
nine a b c d e f g h i = a ++ (b ++ (c ++ (d ++ (e ++ (f ++ (g ++ (h ++ i)))))))

nine_then : (a b c d e f g h i rest : List ℕ)
    → nine a b c d e f g h i ++ rest ≡ a ++ (b ++ (c ++ (d ++ (e ++ (f ++ (g ++ (h ++ (i ++ rest))))))))
nine_then a b c d e f g h i rest =
    append_assoc a _ rest ∙ ap (λ (w : List ℕ). a ++ w)
    (append_assoc b _ rest ∙ ap (λ (w : List ℕ). b ++ w)
    (append_assoc c _ rest ∙ ap (λ (w : List ℕ). c ++ w)
    (append_assoc d _ rest ∙ ap (λ (w : List ℕ). d ++ w)
    (append_assoc e _ rest ∙ ap (λ (w : List ℕ). e ++ w)
    (append_assoc f _ rest ∙ ap (λ (w : List ℕ). f ++ w)
    (append_assoc g _ rest ∙ ap (λ (w : List ℕ). g ++ w)
    (append_assoc h i rest)))))))

before_is : (front rest text : List ℕ) → text ≡ front ++ rest → before text rest ≡ front
before_is front rest text is =
    rw is (take_at front rest (length (front ++ rest) - length rest) (omega (arith, length-append front rest)))

gather : (a b c d e f g h i rest bytes after_d after_g : List ℕ) → bytes ≡ a ++ (b ++ (c ++ (d ++ after_d)))
    → after_d ≡ e ++ (f ++ (g ++ after_g))
    → after_g ≡ h ++ (i ++ rest) → bytes ≡ nine a b c d e f g h i ++ rest
gather a b c d e f g h i rest bytes after_d after_g x y z =
    x ∙ ap (λ (w : List ℕ). a ++ (b ++ (c ++ (d ++ w)))) (y ∙ ap (λ (w : List ℕ). e ++ (f ++ (g ++ w))) z)
    ∙ sym (nine_then a b c d e f g h i rest)

-- ---- what is cut is a certificate

-- the list of the extensions, and what it reads as
are_extensions : (text : List ℕ) (listed : Bool) (list : List ℕ) (es : List Extension) → IsBytes text
    → IsListed text (listed, list)
    → many_at extension_at list ≡ Some es → AreExtensions text listed es
are_extensions text false list es fits is read = (
  is.0,
  sym (some_is [] es
      (sym (many_at_none extension_at) ∙ ap (λ (w : List ℕ). many_at extension_at w) (sym is.1) ∙ read)),
)
are_extensions text true list es fits is read =
    let inner =
    content_fits is.sequence SEQUENCE list is.inner (content_fits text EXTENSIONS is.sequence is.outer fits) in
    record {
      sequence = is.sequence;
      inner = list;
      outer = is.outer;
      list = is.inner;
      joined = many_at_takes extension_at IsExtension (λ (e : Extension). e.whole) extension_reader list inner es read;
    }

-- every step of the cutting
pub record TakesParts (text : List ℕ) (p : Parts) : Type 0 where
  pub after_preamble : List ℕ
  pub after_binding : List ℕ
  pub rest : List ℕ
  pub outer : TakesOuter text p.outer
  pub preamble : TakesPreamble p.outer.tbs.content (p.preamble, after_preamble)
  pub binding : TakesBinding after_preamble (p.binding, after_binding)
  pub ids : TakesIds after_binding rest
  pub listed : IsListed rest (p.listed, p.list)
  pub front : p.front ≡ before p.outer.tbs.content rest
  pub fits : IsBytes rest

after_four : (a b c d r bytes : List ℕ) → bytes ≡ a ++ (b ++ (c ++ (d ++ r))) → IsBytes bytes → IsBytes r
after_four a b c d r bytes parts fits =
    after_fits d r _ refl (after_fits c _ _ refl (after_fits b _ _ refl (after_fits a _ bytes parts fits)))

parts_takes : (text : List ℕ) → IsBytes text → (p : Parts) → parts_at text ≡ Some p → TakesParts text p
unfolding parts_at
parts_takes text fits p e =
    let o = bind_is (outer_at text) _ p e in
    let h = bind_is (preamble_at o.0.tbs.content) _ p o.2 in
    let b = bind_is (binding_at h.0.1) _ p h.2 in
    let r = bind_is (after_ids b.0.1) _ p b.2 in
    let l = bind_is (list_at r.0) _ p r.2 in
    let outer = outer_at_takes text fits o.0 o.1 in
    let preamble = preamble_at_takes o.0.tbs.content outer.fits h.0 h.1 in
    let fits_h =
    after_four preamble.version_text preamble.serial_text h.0.0.algorithm h.0.0.issuer h.0.1 o.0.tbs.content preamble.parts
    outer.fits in
    let binding = binding_at_takes h.0.1 fits_h b.0 b.1 in
    let fits_b = after_four [] binding.validity_text b.0.0.subject b.0.0.spki b.0.1 h.0.1 binding.parts fits_h in
    let ids = after_ids_takes b.0.1 fits_b r.0 r.1 in
    let fits_r = after_four [] [] ids.issuer_id_text ids.subject_id_text r.0 b.0.1 ids.parts fits_b in
    subst (λ (w : Parts). TakesParts text w) (some_is _ p l.2) (record {
      after_preamble = h.0.1;
      after_binding = b.0.1;
      rest = r.0;
      outer = outer;
      preamble = preamble;
      binding = binding;
      ids = ids;
      listed = list_at_takes r.0 fits_r l.0 l.1;
      front = refl;
      fits = fits_r;
    })

pub certificate_takes : (text : List ℕ) (p : Parts) (not_before not_after : ℤ) (es : List Extension) → IsBytes text
    → HasCertificateParts text p not_before not_after
    → many_at extension_at p.list ≡ Some es → IsCertificate text
    (certificate_from_parts text p not_before not_after es)
certificate_takes text p not_before not_after es fits is read =
    let t = parts_takes text fits p is.cut in
    let content = p.outer.tbs.content in
    let all =
    gather t.preamble.version_text t.preamble.serial_text p.preamble.algorithm p.preamble.issuer t.binding.validity_text
    p.binding.subject p.binding.spki
    t.ids.issuer_id_text t.ids.subject_id_text t.rest content t.after_preamble t.after_binding t.preamble.parts t.binding.parts
    t.ids.parts in
    let front = t.front ∙ before_is _ t.rest content all in
    record {
      signature_text = t.outer.signature_text;
      same = refl;
      whole = t.outer.whole;
      tbs = record {
        version_text = t.preamble.version_text;
        serial_text = t.preamble.serial_text;
        validity_text = t.binding.validity_text;
        issuer_id_text = t.ids.issuer_id_text;
        subject_id_text = t.ids.subject_id_text;
        extensions_text = t.rest;
        tbs =
            subst (λ (w : List ℕ). IsElement p.outer.tbs.whole SEQUENCE w)
            (all ∙ ap (λ (w : List ℕ). w ++ t.rest) (sym front)) t.outer.tbs;
        front = front;
        version = t.preamble.version;
        serial = t.preamble.serial;
        algorithm = t.preamble.algorithm;
        issuer = t.preamble.issuer;
        validity = record {
          first = p.binding.first.whole;
          second = p.binding.second.whole;
          is = t.binding.validity;
          begins =
              record {
                tag = p.binding.first.tag;
                content = p.binding.first.content;
                is = t.binding.first;
                time = is.begins;
              };
          ends =
              record {
                tag = p.binding.second.tag;
                content = p.binding.second.content;
                is = t.binding.second;
                time = is.ends;
              };
        };
        subject = t.binding.subject;
        key = t.binding.key;
        issuer_id = t.ids.issuer_id;
        subject_id = t.ids.subject_id;
        extensions = are_extensions t.rest p.listed p.list es t.fits t.listed read;
      };
      algorithm = t.outer.algorithm;
      signature = t.outer.signature;
    }

-- ---- a certificate is cut

-- the list that the extensions stand in
pub record HasList (text : List ℕ) (listed : Bool) (es : List Extension) : Type 0 where
  pub list : List ℕ
  pub is : IsListed text (listed, list)
  pub read : many_at extension_at list ≡ Some es
  pub no_issuer_id : begins_with ISSUER_UNIQUE_ID text ≡ false
  pub no_subject_id : begins_with SUBJECT_UNIQUE_ID text ≡ false

has_list : (text : List ℕ) (listed : Bool) (es : List Extension) → AreExtensions text listed es
    → HasList text listed es
has_list text false es is =
    record {
      list = [];
      is = (is.0, refl);
      read = many_at_none extension_at ∙ ap (λ (w : List Extension). some w) (sym is.1);
      no_issuer_id = rw is.0 refl;
      no_subject_id = rw is.0 refl;
    }
has_list text true es is =
    record {
      list = is.inner;
      is = record { sequence = is.sequence; outer = is.outer; inner = is.list };
      read =
          many_at_again extension_at IsExtension (λ (e : Extension). e.whole) extension_reader is.inner es is.joined;
      no_issuer_id = rw is.outer.spelled refl;
      no_subject_id = rw is.outer.spelled refl;
    }

pub record IsCertificateOf (text : List ℕ) (c : Cert) : Type 0 where
  pub parts : Parts
  pub cut : HasCertificateParts text parts c.not_before c.not_after
  pub list : many_at extension_at parts.list ≡ Some c.extensions
  pub is : certificate_from_parts text parts c.not_before c.not_after c.extensions ≡ c

abbrev with_whole : Cert → List ℕ → Cert
with_whole c w =
    record {
      whole = w;
      tbs = c.tbs;
      front = c.front;
      version = c.version;
      inner_algorithm = c.inner_algorithm;
      issuer = c.issuer;
      not_before = c.not_before;
      not_after = c.not_after;
      subject = c.subject;
      spki = c.spki;
      listed = c.listed;
      extensions = c.extensions;
      algorithm = c.algorithm;
      signature = c.signature;
    }

abbrev some_parts : Outer → Preamble → Binding → Bool → List ℕ → List ℕ → Option Parts
some_parts outer preamble binding listed list front =
    Some (record { outer = outer; front = front; preamble = preamble; binding = binding; listed = listed; list = list })

pub certificate_again : (text : List ℕ) (c : Cert) → IsCertificate text c → IsCertificateOf text c
unfolding parts_at
certificate_again text c is =
    let s = is.tbs in
    let has = has_list s.extensions_text c.listed c.extensions s.extensions in
    let content = c.front ++ s.extensions_text in
    let first : Piece =
    record { tag = s.validity.begins.tag; whole = s.validity.first; content = s.validity.begins.content } in
    let second : Piece =
    record { tag = s.validity.ends.tag; whole = s.validity.second; content = s.validity.ends.content } in
    let outer : Outer =
    record {
      tbs = record { tag = 48; whole = c.tbs; content = content };
      algorithm = c.algorithm;
      signature = c.signature;
    } in
    let preamble : Preamble = record { version = c.version; algorithm = c.inner_algorithm; issuer = c.issuer } in
    let binding : Binding = record { first = first; second = second; subject = c.subject; spki = c.spki } in
    let after_binding = s.issuer_id_text ++ (s.subject_id_text ++ s.extensions_text) in
    let after_preamble = s.validity_text ++ (c.subject ++ (c.spki ++ after_binding)) in
    let spelled = ap (λ (w : List ℕ). w ++ s.extensions_text) s.front
    ∙ nine_then s.version_text s.serial_text c.inner_algorithm c.issuer s.validity_text c.subject c.spki
    s.issuer_id_text s.subject_id_text s.extensions_text in
    record {
      parts =
          record { outer = outer; front = c.front; preamble = preamble; binding = binding; listed = c.listed; list = has.list };
      cut = record {
        cut = bind_of_some (outer_at text) _ outer
            (outer_at_again text c.tbs content c.algorithm c.signature is.signature_text is.whole s.tbs is.algorithm
            is.signature)
            ∙ bind_of_some (preamble_at content) _ (preamble, after_preamble) (preamble_at_again content (preamble, after_preamble) (record {
              version_text = s.version_text;
              serial_text = s.serial_text;
              version = s.version;
              serial = s.serial;
              algorithm = s.algorithm;
              issuer = s.issuer;
              parts = spelled;
            }))
            ∙ bind_of_some (binding_at after_preamble) _ (binding, after_binding)
            (binding_at_again after_preamble (binding, after_binding) (record {
              validity_text = s.validity_text;
              validity = s.validity.is;
              first = s.validity.begins.is;
              second = s.validity.ends.is;
              subject = s.subject;
              key = s.key;
              parts = refl;
            }))
            ∙ bind_of_some (after_ids after_binding) _ s.extensions_text
            (after_ids_again after_binding s.extensions_text (record {
              issuer_id_text = s.issuer_id_text;
              subject_id_text = s.subject_id_text;
              issuer_id = s.issuer_id;
              subject_id = s.subject_id;
              parts = refl;
            }) has.no_issuer_id has.no_subject_id)
            ∙ bind_of_some (list_at s.extensions_text) _ (c.listed, has.list)
            (list_at_again s.extensions_text c.listed has.list has.is)
            ∙ ap (λ (w : List ℕ). some_parts outer preamble binding c.listed has.list w)
            (before_is c.front s.extensions_text content refl);
        begins = s.validity.begins.time;
        ends = s.validity.ends.time;
      };
      list = has.read;
      is = ap (λ (w : List ℕ). with_whole c w) (sym is.same);
    }
