-- A log entry that is converted: what is computed is the entry of the bundle that it is, and it is refused if and only
-- if one of its values has no place there.
use Rattle.std.proofs.Common.{◌≡◌, ℕ, ◌+◌, ◌^◌, ◌<◌, ℤ, pos, Bool, true, false, cond, nat_lt, List, [], ◌∷◌}
use Rattle.std.proofs.Common.{Option, Some, None, Result, Ok, Err, IfOk, IsOk, IsSome}
use Rattle.std.proofs.Common.{refl, sym, ap, subst, ◌∙◌, inl, inr}
use Rattle.std.proofs.lemmas.Bool.{lt-ltb, ltb-true}
use Rattle.std.specs.List.{AllByRecursion}
use Rattle.std.specs.Option.{ok_or}
use Rattle.sig_base.proofs.ResultRuleLaws.{comes_where}
use Rattle.sig_base.proofs.ResultSteps.{bind_err, bind_ok, ok_is, when_ok}
use Rattle.sig_base.specs.Answers.{Answers, ComesWhere, UnlessMemory}
use Rattle.sig_base.specs.Base64.{base64_bytes}
use Rattle.sig_base.specs.ResultSteps.{each_from}
use Rattle.sig_bundle.specs.declared.material.ProofFields.{ProofFields}
use Rattle.sig_bundle.specs.declared.material.TransparencyLogEntry.{TransparencyLogEntry}
use Rattle.sig_json_text.specs.Canonical.{canonical_of}
use Rattle.sig_json_text.specs.declared.error.CanonicalError.{CanonicalError}
use Rattle.sig_rekor.specs.declared.rekor_proof.RekorInclusionProof.{RekorInclusionProof}
use Rattle.sig_rekor_models.specs.Body.{body_tree}
use Rattle.sig_rekor_models.specs.LogEntry.{LogEntry}
use Rattle.sig_signing.specs.Conversion.{AreDecoded, IsConversion, IsConvertible, IsConvertibleProof, IsHexadecimal}
use Rattle.sig_signing.specs.Conversion.{IsOptionalProofOf, IsProofOf, conversion_of, hashedrekord_version}
use Rattle.sig_signing.specs.Conversion.{optional_proof_of, proof_of, size_or_refused}
use Rattle.sig_signing.specs.Decoded.{base64_or_refused, canonical_or_refused, hex_at, hex_bytes, hex_or_refused}
use Rattle.sig_signing.specs.declared.conversion_error.ConversionError.{ConversionError}
use Rattle.sig_signing.specs.declared.conversion_error.ConversionError.TheVariants.{OutOfMemory, Refused}

-- ---- steps

found : {A : Type 0} (held : Option A) (x : A) → ok_or held Refused ≡ Ok x → held ≡ Some x
found None x e = absurd cc
found (Some y) x e = (let same : y ≡ x = cc in rw same refl)

missed : {A : Type 0} (held : Option A) (e : ConversionError) → ok_or held Refused ≡ Err e
    → (e ≡ Refused) × ¬ IsSome held
missed None e is = (cc, λ some. cc)
missed (Some y) e is = absurd cc

is_some : {A : Type 0} (held : Option A) (x : A) → held ≡ Some x → IsSome held
is_some held x e = rw e refl

value_of : {A : Type 0} (held : Option A) → IsSome held → (x : A) × (held ≡ Some x)
value_of None some = absurd cc
value_of (Some x) some = (x, refl)

canonical-found : (read : Result (List ℕ) CanonicalError) (text : List ℕ) → canonical_or_refused read ≡ Ok text
    → read ≡ Ok text
canonical-found (Ok t) text e = ap Ok (ok_is t text e)
canonical-found (Err why) text e = absurd cc

canonical-missed : (read : Result (List ℕ) CanonicalError) (e : ConversionError)
    → canonical_or_refused read ≡ Err e → (e ≡ Refused) × ¬ IsOk read
canonical-missed (Ok t) e is = absurd cc
canonical-missed (Err why) e is = (cc, λ ok. cc)

is_ok : {A E : Type 0} (read : Result A E) (x : A) → read ≡ Ok x → IsOk read
is_ok read x e = rw e refl

-- ---- the hashes

hashes-found : (index : ℕ) (texts made : List (List ℕ)) → each_from hex_at index texts ≡ Ok made
    → AreDecoded texts made
hashes-found index [] made e = subst (AreDecoded []) (ok_is [] made e) tt
hashes-found index (text ∷ texts) made e =
    let one = bind_ok (hex_at index text) _ made e in
    let others = bind_ok (each_from hex_at (index + 1) texts) _ made one.2 in
    subst (AreDecoded (text ∷ texts)) (ok_is (one.0 ∷ others.0) made others.2)
    (found (hex_bytes text) one.0 one.1, hashes-found (index + 1) texts others.0 others.1)

hashes-only : (index : ℕ) (texts made : List (List ℕ)) → AreDecoded texts made
    → each_from hex_at index texts ≡ Ok made
hashes-only index [] [] is = refl
hashes-only index [] (bytes ∷ others) is = absurd is
hashes-only index (text ∷ texts) [] is = absurd is
hashes-only index (text ∷ texts) (bytes ∷ others) is =
    rw (is.0, hashes-only (index + 1) texts others is.1) refl

-- each is digits where they are decoded, and the other way round
hashes-digits : (texts made : List (List ℕ)) → AreDecoded texts made → AllByRecursion IsHexadecimal texts
hashes-digits [] made is = tt
hashes-digits (text ∷ texts) [] is = absurd is
hashes-digits (text ∷ texts) (bytes ∷ others) is =
    (is_some (hex_bytes text) bytes is.0, hashes-digits texts others is.1)

hashes-made : (texts : List (List ℕ)) → AllByRecursion IsHexadecimal texts
    → (made : List (List ℕ)) × AreDecoded texts made
hashes-made [] all = ([], tt)
hashes-made (text ∷ texts) all =
    let one = value_of (hex_bytes text) all.0 in
    let others = hashes-made texts all.1 in
    (one.0 ∷ others.0, (one.1, others.1))

hashes-missed : (index : ℕ) (texts : List (List ℕ)) (e : ConversionError) → each_from hex_at index texts ≡ Err e
    → e ≡ Refused
hashes-missed index [] e is = absurd cc
hashes-missed index (text ∷ texts) e is =
    elim (bind_err (hex_at index text) _ e is) [
      | inl wrong ↦ (missed (hex_bytes text) e wrong).0
      | inr one ↦
          elim (bind_err (each_from hex_at (index + 1) texts) _ e one.2) [
            | inl later ↦ hashes-missed (index + 1) texts e later
            | inr none ↦ absurd (let f = none.2 in cc)
          ]
    ]

-- ---- the size

stopped : (b : Bool) (x : ℤ) (e : ConversionError) → cond b (Ok x) (Err Refused) ≡ Err e → e ≡ Refused
stopped true x e is = absurd cc
stopped false x e is = cc

size-found : (size : ℕ) (made : ℤ) → size_or_refused size ≡ Ok made → (made ≡ pos size) × (size < 2 ^ 63)
size-found size made e =
    let h = when_ok (nat_lt size (2 ^ 63)) Refused (Ok (pos size)) made e in
    (sym (ok_is (pos size) made h.1), ltb-true size (2 ^ 63) h.0)

size-only : (size : ℕ) → size < 2 ^ 63 → size_or_refused size ≡ Ok (pos size)
size-only size within = rw (lt-ltb size (2 ^ 63) within) refl

-- ---- the proof

pub proof-found : (api : RekorInclusionProof) (fields : ProofFields) → proof_of api ≡ Ok fields
    → IsProofOf api fields
unfolding proof_of
proof-found api fields e =
    let h = bind_ok (each_from hex_at 0 api.hashes) _ fields e in
    let r = bind_ok (hex_or_refused api.root_hash) _ fields h.2 in
    let s = bind_ok (size_or_refused api.tree_size) _ fields r.2 in
    let size = size-found api.tree_size s.0 s.1 in
    let made : ProofFields = record {
      log_index = api.log_index;
      root_hash = r.0;
      tree_size = s.0;
      hashes = h.0;
      checkpoint = Some api.checkpoint;
    } in
    subst (IsProofOf api) (ok_is made fields s.2) (record {
      index = refl;
      root = found (hex_bytes api.root_hash) r.0 r.1;
      size = size.0;
      within = size.1;
      hashes = hashes-found 0 api.hashes h.0 h.1;
      checkpoint = refl;
    })

pub proof-only : (api : RekorInclusionProof) (fields : ProofFields) → IsProofOf api fields
    → proof_of api ≡ Ok fields
unfolding proof_of
proof-only api fields is =
    rw (
      hashes-only 0 api.hashes fields.hashes is.hashes,
      is.root,
      size-only api.tree_size is.within,
      ← is.size,
      ← is.index,
      ← is.checkpoint,
    ) refl

proof-missed : (api : RekorInclusionProof) (e : ConversionError) → proof_of api ≡ Err e → e ≡ Refused
unfolding proof_of
proof-missed api e is =
    elim (bind_err (each_from hex_at 0 api.hashes) _ e is) [
      | inl wrong ↦ hashes-missed 0 api.hashes e wrong
      | inr h ↦
          elim (bind_err (hex_or_refused api.root_hash) _ e h.2) [
            | inl wrong ↦ (missed (hex_bytes api.root_hash) e wrong).0
            | inr r ↦
                elim (bind_err (size_or_refused api.tree_size) _ e r.2) [
                  | inl wrong ↦ stopped (nat_lt api.tree_size (2 ^ 63)) (pos api.tree_size) e wrong
                  | inr s ↦ absurd (let f = s.2 in cc)
                ]
          ]
    ]

optional-found : (api : Option RekorInclusionProof) (made : Option ProofFields) → optional_proof_of api ≡ Ok made
    → IsOptionalProofOf api made
optional-found None made e = subst (IsOptionalProofOf None) (ok_is None made e) tt
optional-found (Some api) made e =
    let p = bind_ok (proof_of api) _ made e in
    subst (IsOptionalProofOf (Some api)) (ok_is (Some p.0) made p.2) (proof-found api p.0 p.1)

optional-only : (api : Option RekorInclusionProof) (made : Option ProofFields) → IsOptionalProofOf api made
    → optional_proof_of api ≡ Ok made
optional-only None None is = refl
optional-only None (Some fields) is = absurd is
optional-only (Some api) None is = absurd is
optional-only (Some api) (Some fields) is = rw (proof-only api fields is) refl

optional-missed : (api : Option RekorInclusionProof) (e : ConversionError) → optional_proof_of api ≡ Err e
    → e ≡ Refused
optional-missed None e is = absurd cc
optional-missed (Some api) e is =
    elim (bind_err (proof_of api) _ e is) [
      | inl wrong ↦ proof-missed api e wrong
      | inr p ↦ absurd (let f = p.2 in cc)
    ]

-- ---- the entry

pub conversion-found : (entry : LogEntry) (made : TransparencyLogEntry) → conversion_of entry ≡ Ok made
    → IsConversion entry made
unfolding conversion_of
conversion-found entry made e =
    let b = bind_ok (canonical_or_refused (canonical_of (body_tree entry.body))) _ made e in
    let s = bind_ok (base64_or_refused entry.verification.signed_entry_timestamp) _ made b.2 in
    let i = bind_ok (hex_or_refused entry.log_i_d) _ made s.2 in
    let p = bind_ok (optional_proof_of entry.verification.inclusion_proof) _ made i.2 in
    let whole : TransparencyLogEntry = record {
      log_index = entry.log_index;
      log_id = Some i.0;
      kind_version = Some hashedrekord_version;
      integrated_time = entry.integrated_time;
      inclusion_promise = Some s.0;
      inclusion_proof = p.0;
      canonicalized_body = b.0;
    } in
    subst (IsConversion entry) (ok_is whole made p.2) (record {
      index = refl;
      time = refl;
      kind = refl;
      body = canonical-found (canonical_of (body_tree entry.body)) b.0 b.1;
      promise = found (base64_bytes entry.verification.signed_entry_timestamp) s.0 s.1;
      promised = refl;
      id = found (hex_bytes entry.log_i_d) i.0 i.1;
      named = refl;
      proof = optional-found entry.verification.inclusion_proof p.0 p.1;
    })

pub conversion-only : (entry : LogEntry) (made : TransparencyLogEntry) → IsConversion entry made
    → conversion_of entry ≡ Ok made
unfolding conversion_of
conversion-only entry made is =
    let promise = value_of made.inclusion_promise is.promised in
    let id = value_of made.log_id is.named in
    rw (
      is.body,
      is.promise ∙ promise.1,
      is.id ∙ id.1,
      optional-only entry.verification.inclusion_proof made.inclusion_proof is.proof,
      ← is.index,
      ← is.time,
      ← is.kind,
      ← promise.1,
      ← id.1,
    ) refl

conversion-missed : (entry : LogEntry) (e : ConversionError) → conversion_of entry ≡ Err e → e ≡ Refused
unfolding conversion_of
conversion-missed entry e is =
    elim (bind_err (canonical_or_refused (canonical_of (body_tree entry.body))) _ e is) [
      | inl wrong ↦ (canonical-missed (canonical_of (body_tree entry.body)) e wrong).0
      | inr b ↦
          elim (bind_err (base64_or_refused entry.verification.signed_entry_timestamp) _ e b.2) [
            | inl wrong ↦ (missed (base64_bytes entry.verification.signed_entry_timestamp) e wrong).0
            | inr s ↦
                elim (bind_err (hex_or_refused entry.log_i_d) _ e s.2) [
                  | inl wrong ↦ (missed (hex_bytes entry.log_i_d) e wrong).0
                  | inr i ↦
                      elim (bind_err (optional_proof_of entry.verification.inclusion_proof) _ e i.2) [
                        | inl wrong ↦ optional-missed entry.verification.inclusion_proof e wrong
                        | inr p ↦ absurd (let f = p.2 in cc)
                      ]
                ]
          ]
    ]

-- ---- the entries that are converted

proof-convertible : (held : Option RekorInclusionProof) (made : Option ProofFields) → IsOptionalProofOf held made
    → (api : RekorInclusionProof) → held ≡ Some api → IsConvertibleProof api
proof-convertible None made is api e = absurd cc
proof-convertible (Some other) None is api e = absurd is
proof-convertible (Some other) (Some fields) is api e =
    let same : other ≡ api = cc in
    subst IsConvertibleProof same (record {
      hashes = hashes-digits other.hashes fields.hashes is.hashes;
      root = is_some (hex_bytes other.root_hash) fields.root_hash is.root;
      size = is.within;
    })

proof-made : (held : Option RekorInclusionProof)
    → ((api : RekorInclusionProof) → held ≡ Some api → IsConvertibleProof api)
    → (made : Option ProofFields) × IsOptionalProofOf held made
proof-made None each = (None, tt)
proof-made (Some api) each =
    let is = each api refl in
    let hashes = hashes-made api.hashes is.hashes in
    let root = value_of (hex_bytes api.root_hash) is.root in
    let made : ProofFields = record {
      log_index = api.log_index;
      root_hash = root.0;
      tree_size = pos api.tree_size;
      hashes = hashes.0;
      checkpoint = Some api.checkpoint;
    } in (
      Some made,
      record {
        index = refl;
        root = root.1;
        size = refl;
        within = is.size;
        hashes = hashes.1;
        checkpoint = refl;
      },
    )

pub convertible : (entry : LogEntry) (made : TransparencyLogEntry) → IsConversion entry made → IsConvertible entry
convertible entry made is =
    let promise = value_of made.inclusion_promise is.promised in
    let id = value_of made.log_id is.named in
    record {
      body = is_ok (canonical_of (body_tree entry.body)) made.canonicalized_body is.body;
      promise = is_some (base64_bytes entry.verification.signed_entry_timestamp) promise.0 (is.promise ∙ promise.1);
      id = is_some (hex_bytes entry.log_i_d) id.0 (is.id ∙ id.1);
      proof = proof-convertible entry.verification.inclusion_proof made.inclusion_proof is.proof;
    }

canonical_text : (read : Result (List ℕ) CanonicalError) → IsOk read → (text : List ℕ) × (read ≡ Ok text)
canonical_text (Ok text) ok = (text, refl)
canonical_text (Err why) ok = absurd cc

pub converted : (entry : LogEntry) → IsConvertible entry → (made : TransparencyLogEntry) × IsConversion entry made
converted entry is =
    let body = canonical_text (canonical_of (body_tree entry.body)) is.body in
    let promise = value_of (base64_bytes entry.verification.signed_entry_timestamp) is.promise in
    let id = value_of (hex_bytes entry.log_i_d) is.id in
    let proof = proof-made entry.verification.inclusion_proof is.proof in
    let made : TransparencyLogEntry = record {
      log_index = entry.log_index;
      log_id = Some id.0;
      kind_version = Some hashedrekord_version;
      integrated_time = entry.integrated_time;
      inclusion_promise = Some promise.0;
      inclusion_proof = proof.0;
      canonicalized_body = body.0;
    } in (
      made,
      record {
        index = refl;
        time = refl;
        kind = refl;
        body = body.1;
        promise = promise.1;
        promised = refl;
        id = id.1;
        named = refl;
        proof = proof.1;
      },
    )

refused-found : (entry : LogEntry) → conversion_of entry ≡ Err Refused → ¬ IsConvertible entry
refused-found entry e is =
    let c = converted entry is in let made = conversion-only entry c.0 c.1 in cc

refused-only : (entry : LogEntry) → ¬ IsConvertible entry → conversion_of entry ≡ Err Refused
refused-only entry never = by_result (conversion_of entry) refl where
  by_result : (r : Result TransparencyLogEntry ConversionError) → conversion_of entry ≡ r
      → conversion_of entry ≡ Err Refused
  by_result (Ok made) e = absurd (never (convertible entry made (conversion-found entry made e)))
  by_result (Err why) e = e ∙ ap Err (conversion-missed entry why e)

-- ---- the clauses of a result that is this, unless memory ran out

module _ (entry : LogEntry) (result : Result TransparencyLogEntry ConversionError)
    (is : Answers OutOfMemory (λ (made : TransparencyLogEntry). made) result (conversion_of entry)) where
  pub clause-found : IfOk result (IsConversion entry)
  clause-found = by_result result is where
    by_result : (r : Result TransparencyLogEntry ConversionError)
        → Answers OutOfMemory (λ (made : TransparencyLogEntry). made) r (conversion_of entry)
        → IfOk r (IsConversion entry)
    by_result (Ok made) meant = conversion-found entry made meant
    by_result (Err e) meant = tt

  pub clause-only : (made : TransparencyLogEntry) → IsConversion entry made
      → UnlessMemory OutOfMemory result (result ≡ Ok made)
  clause-only made has =
      (comes_where OutOfMemory result (conversion_of entry) (Ok made) (IsConversion entry made) is
      (λ same. cc) (conversion-found entry made) (conversion-only entry made)).1 has

  pub clause-refused : ComesWhere OutOfMemory result (Err Refused) (¬ IsConvertible entry)
  clause-refused =
      comes_where OutOfMemory result (conversion_of entry) (Err Refused) (¬ IsConvertible entry) is
      (λ same. cc) (refused-found entry) (refused-only entry)
