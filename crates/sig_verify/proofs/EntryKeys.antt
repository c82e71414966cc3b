-- The link `log-key`: a key is returned if and only if it is that of the entry's log.
use Rattle.std.proofs.Common.{◌≡◌, ℕ, List, [], ◌∷◌, Option, Some, None, Result, Ok, Err, IfErr, refl, sym, ap, subst}
use Rattle.std.proofs.Common.{◌∙◌}
use Rattle.hex.specs.Hex.{encode_lower}
use Rattle.sig_base.proofs.ByteLists.{byte_at}
use Rattle.sig_base.proofs.ResultSteps.{ok_is}
use Rattle.sig_base.specs.ByText.{text_lookup}
use Rattle.sig_base.specs.declared.scheme.VerifyScheme.{VerifyScheme}
use Rattle.sig_bundle.specs.declared.material.TransparencyLogEntry.{TransparencyLogEntry}
use Rattle.sig_key.proofs.KeyKinds.{key_kind_is, key_kind_only}
use Rattle.sig_key.specs.Kind.{IsKind, key_kind, kind_answer}
use Rattle.sig_key.specs.declared.kind.KeyKind.{KeyKind}
use Rattle.sig_key.specs.declared.kind.KeyKind.TheVariants.{NoKeyInfo, Unsupported, Scheme}
use Rattle.sig_verify.proofs.JudgedLaws.{judged_one}
use Rattle.sig_verify.specs.EntryLinks.{HasLogKey, HoldsOfEntry, IsOfBytes, LogKeys}
use Rattle.sig_verify.specs.ContentCheck.{AcceptsSpki}
use Rattle.sig_verify.specs.Judged.{Judged}
use Rattle.sig_verify.specs.LogEntry.{from_kind, log_key_answer, read_found}
use Rattle.sig_verify.specs.OfflineErrors.{link_of}
use Rattle.sig_verify.specs.declared.link.Link.TheVariants.{LogKey}
use Rattle.sig_verify.specs.declared.offline_error.OfflineError.{OfflineError}

-- ---- what is returned is the key

by_kind : (keys : LogKeys) (e : TransparencyLogEntry) (id der : List ℕ) (key : VerifyScheme × List ℕ) (kind : KeyKind)
    → e.log_id ≡ Some id → text_lookup (encode_lower id) keys ≡ Some der → IsKind der kind
    → from_kind (kind_answer der kind) ≡ Ok key → HasLogKey keys e key
by_kind keys e id der key NoKeyInfo named found is answer = absurd cc
by_kind keys e id der key Unsupported named found is answer = absurd cc
by_kind keys e id der key (Scheme s) named found is answer =
    let same : (s, der) ≡ key = ok_is (s, der) key answer in
    subst (λ (k : VerifyScheme × List ℕ). HasLogKey keys e k) same (record {
      id =
          id;
      named = named;
      found = found;
      kind = is;
    })

by_der : (keys : LogKeys) (e : TransparencyLogEntry) → IsOfBytes keys e → (id : List ℕ) (key : VerifyScheme × List ℕ)
    (found : Option (List ℕ)) → e.log_id ≡ Some id → text_lookup (encode_lower id) keys ≡ found
    → read_found (encode_lower id) found ≡ Ok key → HasLogKey keys e key
by_der keys e bytes id key None named is answer = absurd cc
by_der keys e bytes id key (Some der) named is answer =
    by_kind keys e id der key (key_kind der) named is (key_kind_is der (byte_at der (bytes.key id der named is)))
    answer

by_id : (keys : LogKeys) (e : TransparencyLogEntry) → IsOfBytes keys e → (key : VerifyScheme × List ℕ)
    (id : Option (List ℕ)) → e.log_id ≡ id → log_key_answer keys id ≡ Ok key → HasLogKey keys e key
by_id keys e bytes key None named answer = absurd cc
by_id keys e bytes key (Some id) named answer =
    by_der keys e bytes id key (text_lookup (encode_lower id) keys) named refl answer

pub key_has : (keys : LogKeys) (e : TransparencyLogEntry) → IsOfBytes keys e → (key : VerifyScheme × List ℕ)
    → log_key_answer keys e.log_id ≡ Ok key → HasLogKey keys e key
key_has keys e bytes key answer = by_id keys e bytes key e.log_id refl answer

-- ---- and the key is returned

pub key_again : (keys : LogKeys) (e : TransparencyLogEntry) → IsOfBytes keys e → (key : VerifyScheme × List ℕ)
    → HasLogKey keys e key → log_key_answer keys e.log_id ≡ Ok key
key_again keys e bytes key has =
    let fits = byte_at key.1 (bytes.key has.id key.1 has.named has.found) in
    ap (λ (o : Option (List ℕ)). log_key_answer keys o) has.named
    ∙ ap (λ (o : Option (List ℕ)). read_found (encode_lower has.id) o) has.found
    ∙ ap (λ (k : KeyKind). from_kind (kind_answer key.1 k)) (sym (key_kind_only key.1 fits (Scheme key.0) has.kind))

pub one_key : (keys : LogKeys) (e : TransparencyLogEntry) → IsOfBytes keys e → (key other : VerifyScheme × List ℕ)
    → HasLogKey keys e key → HasLogKey keys e other → other ≡ key
one_key keys e bytes key other has has_other =
    ok_is other key (sym (key_again keys e bytes other has_other) ∙ key_again keys e bytes key has)

-- ---- the link of each error

kind_links : (der : List ℕ) (kind : KeyKind)
    → IfErr (from_kind (kind_answer der kind)) (λ error. link_of error ≡ Some LogKey)
kind_links der NoKeyInfo = refl
kind_links der Unsupported = refl
kind_links der (Scheme s) = tt

found_links : (name : List ℕ) (found : Option (List ℕ))
    → IfErr (read_found name found) (λ error. link_of error ≡ Some LogKey)
found_links name None = refl
found_links name (Some der) = kind_links der (key_kind der)

key_links : (keys : LogKeys) (id : Option (List ℕ))
    → IfErr (log_key_answer keys id) (λ error. link_of error ≡ Some LogKey)
key_links keys None = refl
key_links keys (Some id) = found_links (encode_lower id) (text_lookup (encode_lower id) keys)

pub judged_key : (spki : AcceptsSpki) (keys : LogKeys) (e : TransparencyLogEntry) → IsOfBytes keys e
    → Judged (HoldsOfEntry spki keys e) (LogKey ∷ []) (log_key_answer keys e.log_id)
judged_key spki keys e bytes =
    judged_one (HoldsOfEntry spki keys e) LogKey (log_key_answer keys e.log_id)
    (λ key answer. (key, key_has keys e bytes key answer, tt))
    (λ error answer. (
      (λ holds. let both : ◌≡◌ {A = Result (VerifyScheme × List ℕ) OfflineError} (Err error) (Ok holds.0) =
          sym answer ∙ key_again keys e bytes holds.0 holds.1 in absurd cc),
      subst (λ (r : Result (VerifyScheme × List ℕ) OfflineError). IfErr r (λ e. link_of e ≡ Some LogKey)) answer
          (key_links keys e.log_id),
    ))
