-- What is read as a signature stands for it, and what stands for a signature is read as it.
use Rattle.std.proofs.Common.{◌≡◌, ℕ, true, nat_lt, nat_eq, List, [], ◌∷◌, ◌++◌, length, take, drop, Ok, Err, refl}
use Rattle.std.proofs.Common.{sym, ◌∙◌, ap, subst, inl, inr, arith, take-append-drop, length-append}
use Rattle.std.proofs.lemmas.Bool.{le-ltb, ltb-false}
use Rattle.std.proofs.lemmas.Bool.Decides.{Decides-eqb}
use Rattle.std.proofs.lemmas.List.{take_at, drop_at, length-take-le}
use Rattle.std.proofs.lemmas.Slice.Eq.{starts_is}
use Rattle.std.specs.List.{starts_with}
use Rattle.std.specs.Str.{trim_end}
use Rattle.sig_base.specs.declared.fault.CheckpointFault.TheVariants.{NoDash, SignatureBase64, SignatureLength}
use Rattle.sig_rekor.specs.declared.checkpoint.CheckpointSignature.{CheckpointSignature}
use Rattle.sig_rekor.specs.TextCuts.{IsTrimmed, IsParts, trimmed, parts_between}
use Rattle.sig_base.specs.Base64.{base64_bytes}
use Rattle.sig_base.proofs.ResultSteps.{bind_ok}
use Rattle.sig_rekor.specs.Reading.{base64_of}
use Rattle.sig_rekor.specs.SignatureText.{em_dash, space, fingerprint_and_raw, IsSignature, line_of, name_and_bytes}
use Rattle.sig_rekor.specs.SignatureText.{signature_by, signature_of}
use Rattle.sig_rekor.proofs.CutLaws.{parts_between-found, parts_between-only, trimmed-found, trimmed-only}
use Rattle.sig_rekor.proofs.Steps.{chosen, ok_or-ok}

-- the line after its dash
pub line-found : (text line : List ℕ) → line_of text ≡ Ok line
    → IsTrimmed 10 text line × (line ≡ em_dash ++ drop 3 line)
unfolding line_of
line-found text line e =
    elim (chosen (starts_with nat_eq (trimmed 10 text) em_dash) (Ok (trimmed 10 text)) (Err NoDash) (Ok line) e) [
      | inl dash ↦
          let same : trimmed 10 text ≡ line = (let f = dash.1 in cc) in (
            subst (IsTrimmed 10 text) same (trimmed-found 10 text),
            subst (λ t. t ≡ em_dash ++ drop 3 t) same
                ((starts_is Decides-eqb (trimmed 10 text) em_dash true (sym dash.0)).0 refl),
          )
      | inr none ↦ (let f = none.1 in cc)
    ]

pub line-only : (text line after : List ℕ) → IsTrimmed 10 text line → line ≡ em_dash ++ after
    → line_of text ≡ Ok line
unfolding line_of
line-only text line after is dash =
    rw (
      trimmed-only 10 text line is,
      (starts_is Decides-eqb line em_dash (starts_with nat_eq line em_dash) refl).1
          after dash,
    ) refl

-- three parts
three-found : (ps : List (List ℕ)) (named : List ℕ × List ℕ) → name_and_bytes ps ≡ Ok named
    → (first : List ℕ) × (ps ≡ first ∷ named.0 ∷ named.1 ∷ [])
three-found [] named e = cc
three-found (a ∷ []) named e = cc
three-found (a ∷ b ∷ []) named e = cc
three-found (a ∷ b ∷ c ∷ []) named e =
    let same : ◌≡◌ {A = List ℕ × List ℕ} (b, c) named = cc in
    (a, rw (← same) refl)
three-found (a ∷ b ∷ c ∷ d ∷ ps) named e = cc

-- four bytes and the others
signature_by-found : (name bytes : List ℕ) (s : CheckpointSignature) → signature_by name bytes ≡ Ok s
    → (s.name ≡ name) × (fingerprint_and_raw s ≡ bytes) × (length s.key_fingerprint ≡ 4)
signature_by-found name bytes s e =
    let made : CheckpointSignature = record { key_fingerprint = take 4 bytes; raw = drop 4 bytes; name = name } in
    elim (chosen (nat_lt (length bytes) 4) (Err SignatureLength) (Ok made) (Ok s) e) [
      | inl short ↦ (let f = short.1 in cc)
      | inr long ↦
          let same : made ≡ s = (let f = long.1 in cc) in
          subst (λ (x : CheckpointSignature). (x.name ≡ name) × (fingerprint_and_raw x ≡ bytes)
          × (length x.key_fingerprint ≡ 4)) same
          (refl, take-append-drop 4 bytes, length-take-le 4 bytes (ltb-false (length bytes) 4 long.0))
    ]

signature_by-only : (s : CheckpointSignature) → length s.key_fingerprint ≡ 4
    → signature_by s.name (fingerprint_and_raw s) ≡ Ok s
signature_by-only s four =
    rw (
      le-ltb (length (fingerprint_and_raw s)) 4 (omega (arith, length-append s.key_fingerprint s.raw)),
      take_at
          s.key_fingerprint s.raw 4 four,
      drop_at s.key_fingerprint s.raw 4 four,
    ) refl

pub signature-found : (text : List ℕ) (s : CheckpointSignature) → signature_of text ≡ Ok s → IsSignature text s
unfolding signature_of base64_of
signature-found text s e =
    let a = bind_ok (line_of text) _ s e in
    let b = bind_ok (name_and_bytes (parts_between space a.0)) _ s a.2 in
    let c = bind_ok (base64_of SignatureBase64 (trim_end b.0.1)) _ s b.2 in
    let line = line-found text a.0 a.1 in
    let three = three-found (parts_between space a.0) b.0 b.1 in
    let made = signature_by-found b.0.0 c.0 s c.2 in
    record {
      line = a.0;
      after_dash = drop 3 a.0;
      first = three.0;
      coded = b.0.1;
      newlines = line.0;
      dash = line.1;
      parts =
          subst (λ name. IsParts space a.0 (three.0 ∷ name ∷ b.0.1 ∷ [])) (sym made.0)
          (subst (IsParts space a.0) three.1 (parts_between-found space a.0 (omega arith)));
      bytes = ok_or-ok (base64_bytes (trim_end b.0.1)) SignatureBase64 (fingerprint_and_raw s)
          (c.1 ∙ ap Ok (sym made.1));
      fingerprint = made.2;
    }

pub signature-only : (text : List ℕ) (s : CheckpointSignature) → IsSignature text s → signature_of text ≡ Ok s
unfolding signature_of base64_of
signature-only text s is =
    rw (
      line-only text is.line is.after_dash is.newlines is.dash,
      parts_between-only space is.line (is.first ∷ s.name ∷ is.coded ∷ []) (omega arith) is.parts,
      is.bytes,
    ) (signature_by-only s is.fingerprint)
