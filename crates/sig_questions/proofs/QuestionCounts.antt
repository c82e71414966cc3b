-- The questions are few: at most one for each pair of certificates, and one for each key under which the SCT may be.
use Rattle.std.proofs.Common.{◌≡◌, ℕ, suc, ◌+◌, ◌*◌, ◌≤◌, ◌-◌, ◌^◌, Bool, true, false, cond, nat_lt, List, [], ◌∷◌}
use Rattle.std.proofs.Common.{◌++◌, length, map, Option, Some, None, Result, Ok, Err, refl, sym, ap, subst, arith}
use Rattle.std.proofs.Common.{mul-le-mul_left, mul-le-mul_right, length-append}
use Rattle.std.specs.List.{AllZip, count_by, flat_map}
use Rattle.std.proofs.lemmas.List.{length-map}
use Rattle.std.proofs.lemmas.List.Elements.{Contains-append_left, Contains-append_right}
use Rattle.std.proofs.lemmas.List.Sums.{count_by-le-length, sum_by-append}
use Rattle.sig_base.specs.declared.checker.AcceptedRow.{AcceptedRow}
use Rattle.sig_base.specs.declared.checker.Operation.{Operation}
use Rattle.sig_base.specs.declared.checker.Operation.TheVariants.{Point, Certificate}
use Rattle.sig_certificate.specs.Certificate.{IsCertificate}
use Rattle.sig_checked_bundle.specs.Checked.{Checked}
use Rattle.sig_timestamp.specs.Embedded.{ready}
use Rattle.sig_timestamp.specs.Timestamps.{sct_of}
use Rattle.sig_timestamp.specs.declared.sct_error.SCTError.{SCTError}
use Rattle.sig_timestamp.specs.declared.signed.DigitallySigned.{DigitallySigned}
use Rattle.sig_verify.proofs.Parts.{AnchoredParts, log_keys_of, of_parts, trust_with}
use Rattle.sig_verify.specs.CertificateLinks.{Trust}
use Rattle.sig_verify.specs.EntryLinks.{LogKeys}
use Rattle.sig_verify.specs.Links.{Inputs}
use Rattle.sig_verify.specs.RootLinks.{authorities}
use Rattle.sig_x509.specs.Issuance.{IsAnchor}
use Rattle.sig_x509.specs.Pool.{present}
use Rattle.sig_x509.specs.Possible.{may_sign}
use Rattle.sig_questions.proofs.QuestionKinds.{AllHave, both, certificates_had, others_had, points_had}
use Rattle.sig_questions.proofs.RowLaws.{has_one}
use Rattle.sig_questions.specs.Asked.{signature_row}
use Rattle.sig_questions.specs.Few.{AreFewBeside, AreFewQuestions, QuestionsAreFew, is_of}
use Rattle.sig_questions.specs.Lists.{Pair, Side, certificate_questions, content_questions, embedded_questions}
use Rattle.sig_questions.specs.Lists.{entry_questions, pair_questions, pairs, pairs_with, pointed_questions}
use Rattle.sig_questions.specs.Lists.{questions_after, questions_of, sct_questions, side_questions, signed_side}
use Rattle.sig_questions.specs.Lists.{signer_side, signers}

-- ---- lists

zip_length : {A B : Type 0} (R : A → B → Type 0) (xs : List A) (ys : List B) → AllZip R xs ys → length xs ≡ length ys
zip_length R [] [] zipped = refl
zip_length R [] (y ∷ ys) zipped = absurd zipped
zip_length R (x ∷ xs) [] zipped = absurd zipped
zip_length R (x ∷ xs) (y ∷ ys) zipped = ap suc (zip_length R xs ys zipped.1)

-- so many of each element
each_length : {X Y : Type 0} (f : X → List Y) (n : ℕ) (xs : List X) → ((x : X) → length (f x) ≤ n)
    → length (flat_map f xs) ≤ length xs * n
each_length f n [] each = omega arith
each_length f n (x ∷ xs) each =
    let here = each x in
    let later = each_length f n xs each in
    let sum : length (f x ++ flat_map f xs) ≡ length (f x) + length (flat_map f xs) =
    length-append (f x) (flat_map f xs) in
    omega (arith, here, later, sum)

-- one of each, if it is so
if_length : {Y : Type 0} (b : Bool) (ys : List Y) → length ys ≤ 1 → length (cond b ys []) ≤ 1
if_length true ys few = few
if_length false ys few = omega arith

unless_length : {Y : Type 0} (b : Bool) (ys : List Y) → length ys ≤ 1 → length (cond b [] ys) ≤ 1
unless_length true ys few = omega arith
unless_length false ys few = few

-- ---- rows of one operation

abbrev count : Operation → List AcceptedRow → ℕ
count operation rows = count_by (is_of operation) rows

abbrev IsOther : Operation → AcceptedRow → Type 0
IsOther operation row = is_of operation row ≡ false

none_counted : (operation : Operation) (rows : List AcceptedRow) → AllHave (IsOther operation) rows
    → count operation rows ≡ 0
none_counted operation [] all = refl
none_counted operation (row ∷ rows) all =
    let first : is_of operation row ≡ false =
    all row (Contains-append_left (row ∷ []) rows row ((has_one row row).1 refl)) in
    let here : count operation (row ∷ []) ≡ 0 = ap (λ (b : Bool). 0 + cond b 1 0) first in
    let later = none_counted operation rows (λ r has. all r (Contains-append_right (row ∷ []) rows r has)) in
    let sum = sum_by-append (λ (r : AcceptedRow). cond (is_of operation r) 1 0) (row ∷ []) rows in
    omega (arith, here, later, sum)

-- of two lists, one of which has rows of other operations
front_counted : (operation : Operation) (xs ys : List AcceptedRow) → AllHave (IsOther operation) ys
    → count operation (xs ++ ys) ≤ length xs
front_counted operation xs ys others =
    let few = count_by-le-length (is_of operation) xs in
    let none = none_counted operation ys others in
    let sum = sum_by-append (λ (r : AcceptedRow). cond (is_of operation r) 1 0) xs ys in
    omega (arith, few, none, sum)

after_counted : (operation : Operation) (xs ys : List AcceptedRow) → AllHave (IsOther operation) xs
    → count operation (xs ++ ys) ≡ count operation ys
after_counted operation xs ys others =
    let none = none_counted operation xs others in
    let sum = sum_by-append (λ (r : AcceptedRow). cond (is_of operation r) 1 0) xs ys in
    omega (arith, none, sum)

-- ---- the rows of each group

module _ (trust : Trust) (c : Checked) where
  pair_length : (pair : Pair) → length (pair_questions trust c pair) ≤ 1
  pair_length pair =
      if_length (may_sign (signed_side c pair.0) (signer_side trust c pair.1))
      (signature_row (signed_side c pair.0).certificate (signer_side trust c pair.1).certificate ∷ []) (omega arith)

  pointed_length : (o : Option (List ℕ)) (d : DigitallySigned) → length (pointed_questions o d) ≤ 1
  pointed_length None d = omega arith
  pointed_length (Some point) d = omega arith

  embedded_length : (r : Result DigitallySigned SCTError) → length (embedded_questions trust.points r) ≤ 1
  embedded_length (Ok d) =
      let under = pointed_questions (trust.points d.log_id) d in
      unless_length (nat_lt (2 ^ 24 - 1) (length d.tbs_certificate))
      (cond (nat_lt (2 ^ 16 - 1) (length d.extensions)) [] under)
      (unless_length (nat_lt (2 ^ 16 - 1) (length d.extensions)) under (pointed_length (trust.points d.log_id) d))
  embedded_length (Err e) = omega arith

  side_length : (side : Side) → length (side_questions trust c side) ≤ 1
  side_length side =
      let ready_under = ready c.certificate (signer_side trust c side).certificate.spki (sct_of c.certificate) in
      if_length (may_sign (signed_side c None) (signer_side trust c side)) (embedded_questions trust.points ready_under)
      (embedded_length ready_under)

  signers_length : length (signers trust c) ≡ length trust.anchors + length c.further
  signers_length =
      let anchored : List Side = map (λ x. (true, x)) trust.anchors in
      let given : List Side = map (λ x. (false, x)) c.further in
      let sum : length (anchored ++ given) ≡ length anchored + length given = length-append anchored given in
      let first : length anchored ≡ length trust.anchors = length-map trust.anchors (λ x. (true, x)) in
      let second : length given ≡ length c.further = length-map c.further (λ x. (false, x)) in
      omega (arith, sum, first, second)

  pairs_length : length (pairs trust c) ≤ (1 + length c.further) * length (signers trust c)
  pairs_length =
      let all = each_length (pairs_with trust c) (length (signers trust c)) (None ∷ present c.further)
      (λ y. let same : length (pairs_with trust c y) ≡ length (signers trust c) =
      length-map (signers trust c) (λ (side : Side). (y, side)) in omega (arith, same)) in
      let signed : length (present c.further) ≡ length c.further = length-map c.further (λ y. Some y) in
      let its : length (pairs trust c) ≤ (1 + length (present c.further)) * length (signers trust c) =
      omega (arith, all) in
      subst (λ (n : ℕ). length (pairs trust c) ≤ (1 + n) * length (signers trust c)) signed its

  certificates_length : length (certificate_questions trust c) ≤ (1 + length c.further) * length (signers trust c)
  certificates_length =
      let all = each_length (pair_questions trust c) 1 (pairs trust c) pair_length in
      let few = pairs_length in
      omega (arith, all, few)

  points_length : length (sct_questions trust c) ≤ length (signers trust c)
  points_length =
      let all = each_length (side_questions trust c) 1 (signers trust c) side_length in omega (arith, all)

-- ---- all of them

product : (m n : ℕ) → n ≤ 16 → (1 + n) * (m + n) ≤ 17 * (16 + m)
product m n few =
    let sum : m + n ≤ 16 + m = omega (arith, few) in
    let more : 1 + n ≤ 17 = omega (arith, few) in
    let one : (1 + n) * (m + n) ≤ (1 + n) * (16 + m) = mul-le-mul_left (1 + n) sum in
    let two : (1 + n) * (16 + m) ≤ 17 * (16 + m) = mul-le-mul_right (16 + m) more in
    omega (arith, one, two)

module _ {i : Inputs} (p : AnchoredParts i) where
  abbrev c : Checked
  c = p.parts.checked

  abbrev trust : Trust
  trust = trust_with p

  abbrev keys : LogKeys
  keys = log_keys_of p.parts

  abbrev ders : List (List ℕ)
  ders = authorities p.parts.root i.now

  abbrev others : List AcceptedRow
  others = content_questions i.digest c ++ entry_questions keys c.entry

  anchors_same : length ders ≡ length p.anchors
  anchors_same = zip_length IsAnchor ders p.anchors p.given

  further_few : length c.further ≤ 16
  further_few =
      let held = p.parts.passed.certificate in
      let same : length held.encodings ≡ length (c.certificate ∷ c.further) =
      zip_length IsCertificate held.encodings (c.certificate ∷ c.further) held.read in
      omega (arith, held.few, same)

  certificates_few : count Certificate (questions_of i.digest trust keys c) ≤ 17 * (16 + length ders)
  certificates_few =
      let counted = front_counted Certificate (certificate_questions trust c) (questions_after i.digest trust keys c)
      (both (IsOther Certificate) (sct_questions trust c) others
      (points_had (IsOther Certificate) (λ key message signature. refl) trust c)
      (others_had (IsOther Certificate) (λ s spki message signature. refl) (λ s spki digest signature. refl)
      i.digest keys c)) in
      let its = certificates_length trust c in
      let sides = ap (λ (n : ℕ). (1 + length c.further) * n) (signers_length trust c) in
      let least = product (length p.anchors) (length c.further) further_few in
      let same = anchors_same in
      omega (arith, counted, its, sides, least, same)

  points_few : count Point (questions_of i.digest trust keys c) ≤ 16 + length ders
  points_few =
      let after = after_counted Point (certificate_questions trust c) (questions_after i.digest trust keys c)
      (certificates_had (IsOther Point) (λ issuer algorithm tbs signature. refl) trust c) in
      let counted = front_counted Point (sct_questions trust c) others
      (others_had (IsOther Point) (λ s spki message signature. refl) (λ s spki digest signature. refl)
      i.digest keys c) in
      let its = points_length trust c in
      let sides = signers_length trust c in
      let few = further_few in
      let same = anchors_same in
      omega (arith, after, counted, its, sides, few, same)

  all_few : (rows : List AcceptedRow) → rows ≡ questions_of i.digest trust keys c → AreFewQuestions i rows
  all_few rows is = (
    p.parts.root,
    p.parts.root_is,
    subst (AreFewBeside (length ders)) (sym is) (record { certificates = certificates_few; points = points_few }),
  )

pub questions_few : QuestionsAreFew
questions_few i rows are =
    of_parts i (λ trust keys c. rows ≡ questions_of i.digest trust keys c) (AreFewQuestions i rows)
    (λ p is. all_few p rows is) are
