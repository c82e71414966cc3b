-- A token: what is computed of a text is what it says, or the first rule that it breaks.
use Rattle.std.proofs.Common.{◌≡◌, ◌≢◌, ℕ, Bool, true, false, cond, List, Option, Some, None, Result, Ok, Err, IfOk}
use Rattle.std.proofs.Common.{refl, sym, ap, subst, ◌∙◌, inl, inr}
use Rattle.std.proofs.lemmas.Bool.{false_from_ne_true}
use Rattle.std.proofs.lemmas.Slice.Eq.{bytes_eq-Decides}
use Rattle.std.specs.Option.{ok_or}
use Rattle.std.specs.Str.{bytes_eq}
use Rattle.sig_base.proofs.ResultRuleLaws.{error_where}
use Rattle.sig_base.proofs.ResultSteps.{bind_err, bind_ok, ok_is, when_ok}
use Rattle.sig_base.specs.Answers.{Answers, ComesWhere, UnlessMemory}
use Rattle.sig_base.specs.ResultSteps.{◌>>=◌}
use Rattle.sig_base.specs.declared.error.SigstoreError.{SigstoreError}
use Rattle.sig_base.specs.declared.error.SigstoreError.TheVariants.{IdentityTokenError, OutOfMemory}
use Rattle.sig_base.specs.declared.fault.TokenFault.{TokenFault}
use Rattle.sig_base.specs.declared.fault.TokenFault.TheVariants.{NotThreeParts, ClaimsBase64, ClaimsJson, NotSigstore}
use Rattle.sig_json.specs.declared.error.JsonError.{JsonError}
use Rattle.sig_token.proofs.Parts.{payload_found, payload_only}
use Rattle.sig_token.specs.Claims.{claims_in}
use Rattle.sig_token.specs.Compact.{HasPayload, payload_of}
use Rattle.sig_token.specs.Seen.{Token}
use Rattle.sig_token.specs.Token.{HoldsBytes, HoldsClaims, IsToken, IsTokenFault, audience, claims_or_fault}
use Rattle.sig_token.specs.Token.{for_sigstore, token_of}
use Rattle.sig_token.specs.Unpadded.{unpadded_bytes}
use Rattle.sig_token.specs.declared.claims.Claims.{Claims}

abbrev refusal : {A : Type 0} → TokenFault → Result A SigstoreError
refusal fault = Err (IdentityTokenError fault)

-- ---- steps

there : {A : Type 0} (found : Option A) (e : SigstoreError) (x : A) → ok_or found e ≡ Ok x → found ≡ Some x
there None e x is = absurd cc
there (Some y) e x is = (let same : y ≡ x = cc in rw same refl)

nothing : {A : Type 0} (found : Option A) (e d : SigstoreError) → ok_or found e ≡ Err d → (found ≡ None) × (d ≡ e)
nothing None e d is = (refl, cc)
nothing (Some y) e d is = absurd cc

same_fault : (one other : TokenFault) → IdentityTokenError one ≡ IdentityTokenError other → one ≡ other
same_fault one other e = cc

-- ---- the claims

claims-found : (read : Result Claims JsonError) (claims : Claims) → claims_or_fault read ≡ Ok claims
    → read ≡ Ok claims
claims-found (Ok c) claims e = ap Ok (ok_is c claims e)
claims-found (Err why) claims e = absurd cc

claims-fail : (read : Result Claims JsonError) (e : SigstoreError) → claims_or_fault read ≡ Err e
    → (e ≡ IdentityTokenError ClaimsJson) × ((claims : Claims) → ¬ (read ≡ Ok claims))
claims-fail (Ok c) e is = absurd cc
claims-fail (Err why) e is = (cc, λ claims same. cc)

claims-only_fail : (read : Result Claims JsonError) → ((claims : Claims) → ¬ (read ≡ Ok claims))
    → claims_or_fault read ≡ refusal ClaimsJson
claims-only_fail (Ok c) never = absurd (never c refl)
claims-only_fail (Err why) never = refl

-- ---- the audience

addressed-found : (claims addressed : Claims) → for_sigstore claims ≡ Ok addressed
    → (claims ≡ addressed) × (claims.aud ≡ audience)
addressed-found claims addressed e =
    let h = when_ok (bytes_eq claims.aud audience) (IdentityTokenError NotSigstore) (Ok claims) addressed e in
    (ok_is claims addressed h.1, (bytes_eq-Decides claims.aud audience).0 h.0)

addressed-only : (claims : Claims) → claims.aud ≡ audience → for_sigstore claims ≡ Ok claims
addressed-only claims is = rw ((bytes_eq-Decides claims.aud audience).1 is) refl

stopped : {A : Type 0} (b : Bool) (x : A) (e d : SigstoreError)
    → cond b (Ok x) (Err e) ≡ Err d → (b ≡ false) × (d ≡ e)
stopped true x e d is = absurd cc
stopped false x e d is = (refl, cc)

addressed-fails : (claims : Claims) (e : SigstoreError) → for_sigstore claims ≡ Err e
    → (e ≡ IdentityTokenError NotSigstore) × (claims.aud ≢ audience)
addressed-fails claims e is =
    let h = stopped (bytes_eq claims.aud audience) claims (IdentityTokenError NotSigstore) e is in
    (h.1, λ same. let t = (bytes_eq-Decides claims.aud audience).1 same in let f = h.0 in cc)

addressed-only_fails : (claims : Claims) → claims.aud ≢ audience → for_sigstore claims ≡ refusal NotSigstore
addressed-only_fails claims other =
    rw (false_from_ne_true (bytes_eq claims.aud audience) (λ t. other ((bytes_eq-Decides claims.aud audience).0 t)))
    refl

-- ---- the bytes of a payload

abbrev part : List ℕ → Result (List ℕ) SigstoreError
part text = ok_or (payload_of text) (IdentityTokenError NotThreeParts)

abbrev decoded : List ℕ → Result (List ℕ) SigstoreError
decoded payload = ok_or (unpadded_bytes payload) (IdentityTokenError ClaimsBase64)

bytes_in : (text payload bytes : List ℕ) → part text ≡ Ok payload → decoded payload ≡ Ok bytes
    → HoldsBytes text bytes
bytes_in text payload bytes one two =
    record {
      payload = payload;
      held = payload_found text payload (there (payload_of text) (IdentityTokenError NotThreeParts) payload one);
      coded = there (unpadded_bytes payload) (IdentityTokenError ClaimsBase64) bytes two;
    }

-- ---- the token

pub token-found : (text : List ℕ) (token : Token) → token_of text ≡ Ok token
    → (token.text ≡ text) × IsToken text token.claims
unfolding token_of
token-found text token e =
    let p = bind_ok (part text) _ token e in
    let b = bind_ok (decoded p.0) _ token p.2 in
    let c = bind_ok (claims_or_fault (claims_in b.0)) _ token b.2 in
    let a = bind_ok (for_sigstore c.0) _ token c.2 in
    let to = addressed-found c.0 a.0 a.1 in
    let claims : IsToken text c.0 = record {
      held = record {
        bytes = b.0;
        held = bytes_in text p.0 b.0 p.1 b.1;
        read = claims-found (claims_in b.0) c.0 c.1;
      };
      addressed = to.1;
    } in
    let made : Token = record { text = text; claims = a.0 } in
    subst (λ (t : Token). (t.text ≡ text) × IsToken text t.claims) (ok_is made token a.2)
    (refl, subst (IsToken text) to.0 claims)

-- up to the bytes
reads_bytes : (text bytes : List ℕ) → HoldsBytes text bytes
    → token_of text ≡ (claims_or_fault (claims_in bytes) >>= λ claims. for_sigstore claims
    >>= λ addressed. Ok (record { text = text; claims = addressed }))
unfolding token_of
reads_bytes text bytes is = rw (payload_only text is.payload is.held, is.coded) refl

-- up to the claims
reads_claims : (text : List ℕ) (claims : Claims) → HoldsClaims text claims
    → token_of text ≡ (for_sigstore claims >>= λ addressed. Ok (record { text = text; claims = addressed }))
reads_claims text claims is = reads_bytes text is.bytes is.held ∙ rw (is.read) refl

pub token-only : (text : List ℕ) (claims : Claims) → IsToken text claims
    → token_of text ≡ Ok (record { text = text; claims = claims })
token-only text claims is = reads_claims text claims is.held ∙ rw (addressed-only claims is.addressed) refl

-- ---- the first rule that does not hold

pub token-fails : (text : List ℕ) (e : SigstoreError) → token_of text ≡ Err e
    → (fault : TokenFault) × (e ≡ IdentityTokenError fault) × IsTokenFault text fault
unfolding token_of
token-fails text e is =
    elim (bind_err (part text) _ e is) [
      | inl wrong ↦
          let h = nothing (payload_of text) (IdentityTokenError NotThreeParts) e wrong in
          (NotThreeParts, h.1, λ payload has. let some = payload_only text payload has in let none = h.0 in cc)
      | inr p ↦
          elim (bind_err (decoded p.0) _ e p.2) [
            | inl wrong ↦
                let h = nothing (unpadded_bytes p.0) (IdentityTokenError ClaimsBase64) e wrong in
                let some = there (payload_of text) (IdentityTokenError NotThreeParts) p.0 p.1 in
                (ClaimsBase64, h.1, (p.0, payload_found text p.0 some, h.0))
            | inr b ↦
                let held = bytes_in text p.0 b.0 p.1 b.1 in
                elim (bind_err (claims_or_fault (claims_in b.0)) _ e b.2) [
                  | inl wrong ↦
                      let h = claims-fail (claims_in b.0) e wrong in (ClaimsJson, h.0, (b.0, held, h.1))
                  | inr c ↦
                      let claims : HoldsClaims text c.0 = record {
                        bytes = b.0;
                        held = held;
                        read = claims-found (claims_in b.0) c.0 c.1;
                      } in
                      elim (bind_err (for_sigstore c.0) _ e c.2) [
                        | inl wrong ↦
                            let h = addressed-fails c.0 e wrong in (NotSigstore, h.0, (c.0, claims, h.1))
                        | inr a ↦ absurd (let f = a.2 in cc)
                      ]
                ]
          ]
    ]

no_part : (text : List ℕ) → ((payload : List ℕ) → ¬ HasPayload text payload) → (found : Option (List ℕ))
    → payload_of text ≡ found → payload_of text ≡ None
no_part text never None e = e
no_part text never (Some payload) e = absurd (never payload (payload_found text payload e))

pub token-only_fails : (text : List ℕ) (fault : TokenFault) → IsTokenFault text fault
    → token_of text ≡ refusal fault
unfolding token_of
token-only_fails text NotThreeParts is = rw (no_part text is (payload_of text) refl) refl
token-only_fails text ClaimsBase64 is = rw (payload_only text is.0 is.1, is.2) refl
token-only_fails text ClaimsJson is =
    reads_bytes text is.0 is.1 ∙ rw (claims-only_fail (claims_in is.0) is.2) refl
token-only_fails text NotSigstore is =
    reads_claims text is.0 is.1 ∙ rw (addressed-only_fails is.0 is.2) refl

-- ---- the clauses of a result that is this, unless memory ran out

module _ (text : List ℕ) (result : Result Token SigstoreError)
    (is : Answers OutOfMemory (λ (token : Token). token) result (token_of text)) where
  pub clause-found : IfOk result (λ token. (token.text ≡ text) × IsToken text token.claims)
  clause-found = by_result result is where
    by_result : (r : Result Token SigstoreError) → Answers OutOfMemory (λ (token : Token). token) r (token_of text)
        → IfOk r (λ token. (token.text ≡ text) × IsToken text token.claims)
    by_result (Ok token) meant = token-found text token meant
    by_result (Err e) meant = tt

  pub clause-only : (claims : Claims) → IsToken text claims
      → UnlessMemory OutOfMemory result (result ≡ Ok (record { text = text; claims = claims }))
  clause-only claims has = by_result result is where
    by_result : (r : Result Token SigstoreError) → Answers OutOfMemory (λ (token : Token). token) r (token_of text)
        → UnlessMemory OutOfMemory r (r ≡ Ok (record { text = text; claims = claims }))
    by_result (Ok token) meant = inr (sym meant ∙ token-only text claims has)
    by_result (Err e) (inl memory) = inl (ap Err memory)
    by_result (Err e) (inr meant) = inr (sym meant ∙ token-only text claims has)

  pub clause-refused : (fault : TokenFault)
      → ComesWhere OutOfMemory result (Err (IdentityTokenError fault)) (IsTokenFault text fault)
  clause-refused fault =
      error_where OutOfMemory (λ (token : Token). token) result (token_of text) (IdentityTokenError fault)
      (IsTokenFault text fault) is (λ same. cc) of_fault (token-only_fails text fault)
    where
      of_fault : token_of text ≡ Err (IdentityTokenError fault) → IsTokenFault text fault
      of_fault e =
          let f = token-fails text (IdentityTokenError fault) e in
          subst (IsTokenFault text) (sym (same_fault fault f.0 f.1)) f.2
