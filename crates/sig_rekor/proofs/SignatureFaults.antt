-- The fault of a signature is the first of its rules that is broken.
use Rattle.std.proofs.Common.{◌≡◌, ℕ, ◌≤◌, nat_lt, nat_eq, List, [], ◌∷◌, length, take, drop, Option, Some, None}
use Rattle.std.proofs.Common.{Result, Ok, Err, refl, sym, ◌∙◌, ap, subst, inl, inr, arith, ◌↔◌, length-append}
use Rattle.std.proofs.lemmas.Bool.{ltb-true}
use Rattle.std.specs.List.{AllByRecursion, starts_with}
use Rattle.std.specs.Prelude.{⊤}
use Rattle.std.specs.Str.{trim_end}
use Rattle.sig_base.specs.declared.fault.CheckpointFault.{CheckpointFault}
use Rattle.sig_base.specs.declared.fault.CheckpointFault.TheVariants.{NoDash, SignatureFormat, SignatureBase64}
use Rattle.sig_base.specs.declared.fault.CheckpointFault.TheVariants.{SignatureLength}
use Rattle.sig_base.specs.Base64.{base64_bytes}
use Rattle.sig_rekor.specs.declared.checkpoint.CheckpointSignature.{CheckpointSignature}
use Rattle.sig_rekor.specs.TextCuts.{IsTrimmed, IsParts, trimmed, parts_between}
use Rattle.sig_rekor.specs.Reading.{base64_of}
use Rattle.sig_rekor.specs.SignatureText.{em_dash, space, fingerprint_and_raw, IsSignature, line_of, signature_by}
use Rattle.sig_rekor.specs.SignatureText.{signature_of}
use Rattle.sig_base.specs.Rules.{FailsFirst}
use Rattle.sig_rekor.specs.Faults.{OfThird, OfBytes, SignatureKeeps, signature_rules, IsSignatureFault}
use Rattle.sig_rekor.proofs.CutLaws.{parts_between-found, parts_between-only, trimmed-only}
use Rattle.sig_rekor.proofs.SignatureLaws.{line-found, line-only, signature-found}
use Rattle.sig_base.proofs.RuleLaws.{one_fails, none_fails}
use Rattle.sig_rekor.proofs.Steps.{chosen}

-- the third part of a line is the one that was found
of_third : (text line first name coded : List ℕ) (P : List ℕ → Type 0) → IsTrimmed 10 text line
    → IsParts space line (first ∷ name ∷ coded ∷ []) → OfThird text P → P coded
of_third text line first name coded P trims are (l, f, n, c, trims', these, holds) =
    let same : l ≡ line = sym (trimmed-only 10 text l trims') ∙ trimmed-only 10 text line trims in
    let e = sym (parts_between-only space l (f ∷ n ∷ c ∷ []) (omega arith) these) ∙ ap (parts_between space) same
    ∙ parts_between-only space line (first ∷ name ∷ coded ∷ []) (omega arith) are in
    let third : c ≡ coded = cc in
    subst P third holds

-- other parts than three
unlike_three : (text line : List ℕ) (ps : List (List ℕ)) → IsTrimmed 10 text line → parts_between space line ≡ ps
    → ((a b c : List ℕ) → ps ≡ a ∷ b ∷ c ∷ [] → ⊥) → OfThird text (λ _. ⊤) → ⊥
unlike_three text line ps trims are unlike (l, f, n, c, trims', these, _) =
    let same : l ≡ line = sym (trimmed-only 10 text l trims') ∙ trimmed-only 10 text line trims in
    unlike f n c (sym are ∙ ap (parts_between space) (sym same) ∙ parts_between-only space l (f ∷ n ∷ c ∷ [])
    (omega arith) these)

dash-fault : (text : List ℕ) (fault : CheckpointFault) → line_of text ≡ Err fault → fault ≡ NoDash
unfolding line_of
dash-fault text fault e =
    elim (chosen (starts_with nat_eq (trimmed 10 text) em_dash) (Ok (trimmed 10 text)) (Err NoDash) (Err fault) e) [
      | inl dash ↦ (let f = dash.1 in cc)
      | inr none ↦ (let f = none.1 in cc)
    ]

length-fault : (name bytes : List ℕ) (fault : CheckpointFault) → signature_by name bytes ≡ Err fault
    → (fault ≡ SignatureLength) × (4 ≤ length bytes → ⊥)
length-fault name bytes fault e =
    let made : CheckpointSignature = record { key_fingerprint = take 4 bytes; raw = drop 4 bytes; name = name } in
    elim (chosen (nat_lt (length bytes) 4) (Err SignatureLength) (Ok made) (Err fault) e) [
      | inl short ↦ ((let f = short.1 in cc), λ four. (let f = ltb-true (length bytes) 4 short.0 in omega arith))
      | inr long ↦ (let f = long.1 in cc)
    ]

-- the bytes of the third part
bytes_fail : (text line first name coded : List ℕ) (fault : CheckpointFault) → IsTrimmed 10 text line
    → IsParts space line (first ∷ name ∷ coded ∷ [])
    → (r : Option (List ℕ)) → base64_bytes (trim_end coded) ≡ r
    → ((bytes : List ℕ) → r ≡ Some bytes → signature_by name bytes ≡ Err fault)
    → (r ≡ None → fault ≡ SignatureBase64)
    → FailsFirst (SignatureKeeps text) (SignatureBase64 ∷ SignatureLength ∷ []) fault
bytes_fail text line first name coded fault trims are None is long none =
    inl (
      λ keeps. (let found = of_third text line first name coded (λ c. OfBytes (trim_end c) (λ _. ⊤)) trims are keeps in
          let f = found.1 in cc),
      none refl,
    )
bytes_fail text line first name coded fault trims are (Some bytes) is long none =
    let short = length-fault name bytes fault (long bytes refl) in
    inr (
      (line, first, name, coded, trims, are, (bytes, is, tt)),
      inl (
        λ keeps. (let found = of_third text line first name coded
            (λ c. OfBytes (trim_end c) (λ b. 4 ≤ length b)) trims are keeps in
            let same : found.0 ≡ bytes = (let f = found.1 in cc) in short.1 (subst (λ b. 4 ≤ length b) same found.2)),
        short.0,
      ),
    )

-- the parts of the line
parts_fail : (text line : List ℕ) (ps : List (List ℕ)) (fault : CheckpointFault) → IsTrimmed 10 text line
    → line_of text ≡ Ok line → parts_between space line ≡ ps → IsParts space line ps → signature_of text ≡ Err fault
    → FailsFirst (SignatureKeeps text) (SignatureFormat ∷ SignatureBase64 ∷ SignatureLength ∷ []) fault
unfolding signature_of base64_of
parts_fail text line [] fault trims dash same are e = absurd are
parts_fail text line (a ∷ []) fault trims dash same are e =
    inl (unlike_three text line (a ∷ []) trims same (λ x y z f. cc), (let f = rw (dash, same) at e in cc))
parts_fail text line (a ∷ b ∷ []) fault trims dash same are e =
    inl (unlike_three text line (a ∷ b ∷ []) trims same (λ x y z f. cc), (let f = rw (dash, same) at e in cc))
parts_fail text line (first ∷ name ∷ coded ∷ []) fault trims dash same are e =
    inr (
      (line, first, name, coded, trims, are, tt),
      bytes_fail text line first name coded fault trims are (base64_bytes (trim_end coded)) refl
          (λ bytes is. (rw (dash, same, is) at e)) (λ is. (let f = rw (dash, same, is) at e in cc)),
    )
parts_fail text line (a ∷ b ∷ c ∷ d ∷ ps) fault trims dash same are e =
    inl (unlike_three text line (a ∷ b ∷ c ∷ d ∷ ps) trims same (λ x y z f. cc), (let f = rw (dash, same) at e in cc))

pub signature-fails : (text : List ℕ) (fault : CheckpointFault) → signature_of text ≡ Err fault
    → IsSignatureFault text fault
unfolding signature_of
signature-fails text fault e = by_line (line_of text) refl where
  by_line : (r : Result (List ℕ) CheckpointFault) → line_of text ≡ r → IsSignatureFault text fault
  by_line (Ok line) is =
      let found = line-found text line is in
      inr (
        (line, drop 3 line, found.0, found.1),
        parts_fail text line (parts_between space line) fault found.0 is refl
            (parts_between-found space line (omega arith)) e,
      )
  by_line (Err other) is =
      let f = rw is at e in
      let same : other ≡ fault = cc in
      inl (
        λ (line, after, trims, dash). (let good = line-only text line after trims dash in
            let g : ◌≡◌ {A = Result (List ℕ) CheckpointFault} (Ok line) (Err other) = sym good ∙ is in cc),
        dash-fault text fault (is ∙ ap Err same),
      )

-- a signature keeps every rule
signature-keeps : (text : List ℕ) (s : CheckpointSignature) → IsSignature text s
    → AllByRecursion (SignatureKeeps text) signature_rules
signature-keeps text s is =
    let third : (P : List ℕ → Type 0) → P is.coded → OfThird text P =
    λ P holds. (is.line, is.first, s.name, is.coded, is.newlines, is.parts, holds) in
    let four : 4 ≤ length (fingerprint_and_raw s) = omega
    (arith, length-append s.key_fingerprint s.raw, is.fingerprint) in (
      (is.line, is.after_dash, is.newlines, is.dash),
      (
        third (λ _. ⊤) tt,
        (
          third (λ c. OfBytes (trim_end c) (λ _. ⊤)) (fingerprint_and_raw s, is.bytes, tt),
          (third (λ c. OfBytes (trim_end c) (λ b. 4 ≤ length b)) (fingerprint_and_raw s, is.bytes, four), tt),
        ),
      ),
    )

pub signature-only_fails : (text : List ℕ) (fault : CheckpointFault) → IsSignatureFault text fault
    → signature_of text ≡ Err fault
signature-only_fails text fault fails = read (signature_of text) refl where
  read : (r : Result CheckpointSignature CheckpointFault) → signature_of text ≡ r → signature_of text ≡ Err fault
  read (Ok s) is =
      absurd (none_fails (SignatureKeeps text) signature_rules fault
      (signature-keeps text s (signature-found text s is)) fails)
  read (Err other) is =
      is ∙ ap Err (one_fails (SignatureKeeps text) signature_rules other fault (signature-fails text other is) fails)

pub signature-faults : (text : List ℕ) (fault : CheckpointFault)
    → (signature_of text ≡ Err fault) ↔ IsSignatureFault text fault
signature-faults text fault = (signature-fails text fault, signature-only_fails text fault)
