-- Why bytes begin with no element: each fault has its cause, and each cause its fault.
use Rattle.std.proofs.Common.{◌≡◌, ◌≢◌, ℕ, zero, suc, ◌+◌, ◌-◌, ◌*◌, ◌%◌, ◌^◌, ◌<◌, ◌≤◌, Bool, true, false}
use Rattle.std.proofs.Common.{true≢false, cond, ltb, eqb, ◌&&◌, List, [], ◌∷◌, ◌++◌, length, Result, Ok, Err, refl, sym, ap, subst}
use Rattle.std.proofs.Common.{◌∙◌, append_assoc, arith, inl, inr, replicate}
use Rattle.std.proofs.lemmas.Bool.{cases_Bool, cases_lt, lt-ltb, le-ltb, ltb-true, ltb-false, eqb-true, eqb-false}
use Rattle.std.proofs.lemmas.Bool.{eq-eqb, ne_eqb, and_from, and_right, and_parts, cond-true, cond-false}
use Rattle.std.proofs.lemmas.List.{length-append, length-replicate, append-nil}
use Rattle.sig_base.specs.ResultSteps.{◌>>=◌}
use Rattle.sig_base.specs.declared.fault.DerError.{DerError}
use Rattle.sig_base.specs.declared.fault.DerError.TheVariants.{Length, LongTag, Truncated}
use Rattle.sig_base.proofs.ResultSteps.{err_is, ok_is}
use Rattle.sig_der.specs.Element.{element, spelled_length}
use Rattle.sig_der.specs.Faults.{HasLongTag, IsBadLength, indefinite, five_octets, fits_short_form, leading_zero}
use Rattle.sig_der.specs.Faults.{HasBadLength, IsCutElement}
use Rattle.sig_der.specs.Reading.{Piece, one_byte, two_bytes, three_bytes, four_bytes, length_at, element_at}
use Rattle.sig_der.specs.Reading.{is_small_first, is_zero_first, has_bad_length, fault_of}
use Rattle.sig_der.proofs.Bytes.{IsBytes, IsBytes-tail}
use Rattle.sig_der.proofs.Elements.{element_at_takes, element_at_again}
use Rattle.sig_der.proofs.Faults.{Agrees, length_at_agrees, front_of_parts, element_at_fault}
use Rattle.sig_der.proofs.Lengths.{length_at_takes}

pub bind_of_err : {A B E : Type 0} (r : Result A E) (f : A → Result B E) (d : E) → r ≡ Err d → (r >>= f) ≡ Err d
bind_of_err (Ok x) f d e = absurd cc
bind_of_err {A = A} (Err x) f d e = let same : x ≡ d = err_is {A = A} x d e in rw same refl

abbrev pub refused_front : DerError → Result (Piece × List ℕ) DerError
refused_front d = Err d

abbrev refused_number : DerError → Result (ℕ × List ℕ) DerError
refused_number d = Err d

-- ---- a tag of several octets

not_long : (bad : Bool) → LongTag ≡ cond bad Length Truncated → ⊥
not_long true e = cc
not_long false e = cc

pub long_tag_is : (bytes : List ℕ) → element_at bytes ≡ Err LongTag → HasLongTag bytes
long_tag_is [] is = absurd (let no : LongTag ≡ Truncated = element_at_fault [] LongTag is in cc)
long_tag_is (tag ∷ rest) is =
    elim (cases_Bool (eqb (tag % 32) 31)) [
      | inl long ↦ record { tag = tag; rest = rest; parts = refl; long = eqb-true (tag % 32) 31 long }
      | inr short ↦
          absurd (not_long (has_bad_length rest)
          (element_at_fault (tag ∷ rest) LongTag is ∙ cond-false (eqb (tag % 32) 31) _ _ short))
    ]

pub long_tag_at : (bytes : List ℕ) → HasLongTag bytes → element_at bytes ≡ Err LongTag
unfolding element_at
long_tag_at bytes h = rw h.parts (cond-true (eqb (h.tag % 32) 31) _ _ (eq-eqb (h.tag % 32) 31 h.long))

-- ---- a bad length

small_bad : (first : ℕ) (more : List ℕ) → first ≡ 129 → is_small_first more ≡ true → IsBadLength (first ∷ more)
small_bad first [] is bad = absurd cc
small_bad first (n ∷ rest) is bad = fits_short_form n rest (ap (λ (f : ℕ). f ∷ n ∷ rest) is) (ltb-true n 128 bad)

zero_bad : (first : ℕ) (more : List ℕ) → 130 ≤ first → first ≤ 132 → is_zero_first more ≡ true
    → IsBadLength (first ∷ more)
zero_bad first [] low high bad = absurd cc
zero_bad first (n ∷ rest) low high bad =
    leading_zero first rest (ap (λ (m : ℕ). first ∷ m ∷ rest) (eqb-true n 0 bad)) low high

other_bad : (first : ℕ) (more : List ℕ) → 128 ≤ first → first ≢ 129 → (ltb 129 first && ltb first 133) ≡ false
    → IsBadLength (first ∷ more)
other_bad first more low not_129 outside =
    elim (cases_lt first 129) [
      | inl below ↦ indefinite more (let is : first ≡ 128 = omega arith in ap (λ (f : ℕ). f ∷ more) is)
      | inr above ↦ elim (cases_lt first 133) [
        | inl inside ↦
            absurd (true≢false (sym (and_from (ltb 129 first) (ltb first 133) (lt-ltb 129 first (omega arith))
            (lt-ltb first 133 inside)) ∙ outside))
        | inr high ↦ five_octets first more refl high
      ]
    ]

bad_is : (bytes : List ℕ) → has_bad_length bytes ≡ true → IsBadLength bytes
bad_is [] bad = absurd cc
bad_is (first ∷ more) bad =
    elim (cases_Bool (ltb first 128)) [
      | inl low ↦ absurd (true≢false (sym bad ∙ cond-true (ltb first 128) false _ low))
      | inr high ↦
          let from = sym (cond-false (ltb first 128) false _ high) ∙ bad in
          elim (cases_Bool (eqb first 129)) [
            | inl is ↦ small_bad first more (eqb-true first 129 is)
                (sym (cond-true (eqb first 129) (is_small_first more) _ is) ∙ from)
            | inr not_129 ↦
                let rest = sym (cond-false (eqb first 129) (is_small_first more) _ not_129) ∙ from in
                elim (cases_Bool (ltb 129 first && ltb first 133)) [
                  | inl inside ↦
                      let both = and_parts (ltb 129 first) (ltb first 133) inside in
                      let low : 129 < first = ltb-true 129 first both.0 in
                      let top : first < 133 = ltb-true first 133 both.1 in
                      zero_bad first more (omega arith) (omega arith)
                      (sym (cond-true (ltb 129 first && ltb first 133) (is_zero_first more) true inside) ∙ rest)
                  | inr outside ↦
                      other_bad first more (ltb-false first 128 high) (eqb-false first 129 not_129) outside
                ]
          ]
    ]

is_bad : (bytes : List ℕ) → IsBadLength bytes → has_bad_length bytes ≡ true
is_bad bytes (indefinite rest is) = rw is refl
is_bad bytes (five_octets first rest is high) =
    let not_129 : first ≢ 129 = omega arith in
    rw is (cond-false (ltb first 128) _ _ (le-ltb first 128 (omega arith))
    ∙ cond-false (eqb first 129) _ _ (ne_eqb first 129 not_129)
    ∙ cond-false (ltb 129 first && ltb first 133) _ _
    (and_right (ltb 129 first) (ltb first 133) (le-ltb first 133 high)))
is_bad bytes (fits_short_form number rest is low) = rw is (lt-ltb number 128 low)
is_bad bytes (leading_zero first rest is low high) =
    let not_129 : first ≢ 129 = omega arith in
    rw is (cond-false (ltb first 128) _ _ (le-ltb first 128 (omega arith))
    ∙ cond-false (eqb first 129) _ _ (ne_eqb first 129 not_129)
    ∙ cond-true (ltb 129 first && ltb first 133) _ _
    (and_from (ltb 129 first) (ltb first 133) (lt-ltb 129 first (omega arith)) (lt-ltb first 133 (omega arith))))

-- a length that is read is not bad, and a bad one is refused
good_length : (bytes : List ℕ) (x : ℕ × List ℕ) → length_at bytes ≡ Ok x → has_bad_length bytes ≡ false
good_length bytes x is =
    subst (λ (r : Result (ℕ × List ℕ) DerError). Agrees r (has_bad_length bytes)) is (length_at_agrees bytes)

refused_length : (bytes : List ℕ) → has_bad_length bytes ≡ true → length_at bytes ≡ Err Length
refused_length bytes bad = by (length_at bytes) (length_at_agrees bytes)
  where
    by : (r : Result (ℕ × List ℕ) DerError) → Agrees r (has_bad_length bytes) → r ≡ Err Length
    by (Ok x) h = absurd (true≢false (sym bad ∙ h))
    by (Err e) h = let same : e ≡ Length = h ∙ cond-true (has_bad_length bytes) Length Truncated bad in rw same refl

-- an element of a short tag is its length and the octets after it
short_at : (tag : ℕ) (rest : List ℕ) → tag % 32 ≢ 31
    → element_at (tag ∷ rest) ≡ (length_at rest >>= λ n. cond (ltb (length n.1) n.0) (Err Truncated)
    (Ok (front_of_parts tag rest n)))
unfolding element_at
short_at tag rest short = cond-false (eqb (tag % 32) 31) _ _ (ne_eqb (tag % 32) 31 short)

not_bad : Length ≡ LongTag → ⊥
not_bad e = cc

pub bad_length_is : (bytes : List ℕ) → element_at bytes ≡ Err Length → HasBadLength bytes
bad_length_is [] is = absurd (let no : Length ≡ Truncated = element_at_fault [] Length is in cc)
bad_length_is (tag ∷ rest) is =
    let same = element_at_fault (tag ∷ rest) Length is in
    elim (cases_Bool (eqb (tag % 32) 31)) [
      | inl long ↦ absurd (not_bad (same ∙ cond-true (eqb (tag % 32) 31) _ _ long))
      | inr short ↦
          let which = same ∙ cond-false (eqb (tag % 32) 31) _ _ short in
          elim (cases_Bool (has_bad_length rest)) [
            | inl bad ↦ record {
              tag = tag;
              rest = rest;
              parts = refl;
              short = eqb-false (tag % 32) 31 short;
              bad = bad_is rest bad;
            }
            | inr good ↦
                absurd (let no : Length ≡ Truncated = which ∙ cond-false (has_bad_length rest) _ _ good in cc)
          ]
    ]

pub bad_length_at : (bytes : List ℕ) → HasBadLength bytes → element_at bytes ≡ Err Length
bad_length_at bytes h =
    rw h.parts (short_at h.tag h.rest h.short
    ∙ bind_of_err (length_at h.rest) _ Length (refused_length h.rest (is_bad h.rest h.bad)))

-- ---- an element without its last octets: the octets that are missing

fit_cons : (b : ℕ) (bytes : List ℕ) → b < 256 → IsBytes bytes → IsBytes (b ∷ bytes)
fit_cons b bytes first rest zero = first
fit_cons b bytes first rest (suc i) = rest i

fit_none : IsBytes []
fit_none i = omega arith

-- octets that make a length of these, which says a number and ends there
record Completes (read : List ℕ → Result (ℕ × List ℕ) DerError) (bytes : List ℕ) : Type 0 where
  last : List ℕ
  number : ℕ
  fits : IsBytes (bytes ++ last)
  some : 0 < length last
  is : read (bytes ++ last) ≡ Ok (number, [])

nonzero : {A : Type 0} (bad : Bool) (r : Result A DerError) → cond bad (Err Length) r ≡ Err Truncated → bad ≡ false
nonzero true r e = absurd cc
nonzero false r e = refl

abbrev zeros : ℕ → List ℕ
zeros n = replicate n 0

zeros_fit : (n : ℕ) → IsBytes (zeros n)
zeros_fit zero i = omega arith
zeros_fit (suc n) i = fit_cons 0 (zeros n) (omega arith) (zeros_fit n) i

both_fit : (xs ys : List ℕ) → IsBytes xs → IsBytes ys → IsBytes (xs ++ ys)
both_fit [] ys left right = right
both_fit (x ∷ xs) ys left right = fit_cons x (xs ++ ys) (left 0) (both_fit xs ys (IsBytes-tail x xs left) right)

-- these octets complete it
completes : (read : List ℕ → Result (ℕ × List ℕ) DerError) (bytes last : List ℕ) (number : ℕ) → IsBytes bytes
    → IsBytes last → 0 < length last → read (bytes ++ last) ≡ Ok (number, []) → Completes read bytes
completes read bytes last number fits last_fits some is =
    record { last = last; number = number; fits = both_fit bytes last fits last_fits; some = some; is = is }

-- a number of so many octets, of which the first is 1
one_and_zeros : (n : ℕ) → IsBytes (1 ∷ zeros n)
one_and_zeros n = fit_cons 1 (zeros n) (omega arith) (zeros_fit n)

complete_one : (bytes : List ℕ) → IsBytes bytes → one_byte bytes ≡ Err Truncated → Completes one_byte bytes
unfolding one_byte
complete_one [] fits is =
    completes one_byte [] (128 ∷ []) 128 fits (fit_cons 128 [] (omega arith) fit_none) (omega arith) refl
complete_one (a ∷ rest) fits is = absurd (let good = nonzero (ltb a 128) _ is in
    let no = sym (cond-false (ltb a 128) (Err Length) (Ok (a, rest)) good) ∙ is in cc)

complete_two : (bytes : List ℕ) → IsBytes bytes → two_bytes bytes ≡ Err Truncated → Completes two_bytes bytes
unfolding two_bytes
complete_two [] fits is = completes two_bytes [] (1 ∷ zeros 1) 256 fits (one_and_zeros 1) (omega arith) refl
complete_two (a ∷ []) fits is =
    completes two_bytes (a ∷ []) (zeros 1) (a * 256 + 0) fits (zeros_fit 1) (omega arith)
    (cond-false (eqb a 0) _ _ (nonzero (eqb a 0) _ is))
complete_two (a ∷ b ∷ rest) fits is = absurd (let good = nonzero (eqb a 0) _ is in
    let no = sym (cond-false (eqb a 0) (Err Length) (Ok (a * 256 + b, rest)) good) ∙ is in cc)

complete_three : (bytes : List ℕ) → IsBytes bytes → three_bytes bytes ≡ Err Truncated → Completes three_bytes bytes
unfolding three_bytes
complete_three [] fits is = completes three_bytes [] (1 ∷ zeros 2) 65536 fits (one_and_zeros 2) (omega arith) refl
complete_three (a ∷ []) fits is =
    completes three_bytes (a ∷ []) (zeros 2) (a * 65536 + 0 * 256 + 0) fits (zeros_fit 2) (omega arith)
    (cond-false (eqb a 0) _ _ (nonzero (eqb a 0) _ is))
complete_three (a ∷ b ∷ []) fits is =
    completes three_bytes (a ∷ b ∷ []) (zeros 1) (a * 65536 + b * 256 + 0) fits (zeros_fit 1) (omega arith)
    (cond-false (eqb a 0) _ _ (nonzero (eqb a 0) _ is))
complete_three (a ∷ b ∷ c ∷ rest) fits is = absurd (let good = nonzero (eqb a 0) _ is in
    let no = sym (cond-false (eqb a 0) (Err Length) (Ok (a * 65536 + b * 256 + c, rest)) good) ∙ is in cc)

complete_four : (bytes : List ℕ) → IsBytes bytes → four_bytes bytes ≡ Err Truncated → Completes four_bytes bytes
unfolding four_bytes
complete_four [] fits is = completes four_bytes [] (1 ∷ zeros 3) 16777216 fits (one_and_zeros 3) (omega arith) refl
complete_four (a ∷ []) fits is =
    completes four_bytes (a ∷ []) (zeros 3) (a * 16777216 + 0 * 65536 + 0 * 256 + 0) fits (zeros_fit 3) (omega arith)
    (cond-false (eqb a 0) _ _ (nonzero (eqb a 0) _ is))
complete_four (a ∷ b ∷ []) fits is =
    completes four_bytes (a ∷ b ∷ []) (zeros 2) (a * 16777216 + b * 65536 + 0 * 256 + 0) fits (zeros_fit 2)
    (omega arith) (cond-false (eqb a 0) _ _ (nonzero (eqb a 0) _ is))
complete_four (a ∷ b ∷ c ∷ []) fits is =
    completes four_bytes (a ∷ b ∷ c ∷ []) (zeros 1) (a * 16777216 + b * 65536 + c * 256 + 0) fits (zeros_fit 1)
    (omega arith) (cond-false (eqb a 0) _ _ (nonzero (eqb a 0) _ is))
complete_four (a ∷ b ∷ c ∷ d ∷ rest) fits is = absurd (let good = nonzero (eqb a 0) _ is in
    let no =
    sym (cond-false (eqb a 0) (Err Length) (Ok (a * 16777216 + b * 65536 + c * 256 + d, rest)) good) ∙ is in cc)

-- the octets after the first complete the length
read_after : (read : List ℕ → Result (ℕ × List ℕ) DerError) (first : ℕ) (more : List ℕ) → IsBytes (first ∷ more)
    → ((bytes : List ℕ) → length_at (first ∷ bytes) ≡ read bytes)
    → (IsBytes more → read more ≡ Err Truncated → Completes read more) → length_at (first ∷ more) ≡ Err Truncated
    → Completes length_at (first ∷ more)
read_after read first more fits form complete is =
    let c = complete (IsBytes-tail first more fits) (sym (form more) ∙ is) in
    record {
      last = c.last;
      number = c.number;
      fits = fit_cons first (more ++ c.last) (fits 0) c.fits;
      some = c.some;
      is = form (more ++ c.last) ∙ c.is;
    }

short_form : (first : ℕ) (bytes : List ℕ) → ltb first 128 ≡ true → length_at (first ∷ bytes) ≡ Ok (first, bytes)
unfolding length_at
short_form first bytes low = cond-true (ltb first 128) _ _ low

form_129 : (first : ℕ) → first ≡ 129 → (bytes : List ℕ) → length_at (first ∷ bytes) ≡ one_byte bytes
unfolding length_at
form_129 first is bytes = rw is refl

form_130 : (first : ℕ) → first ≡ 130 → (bytes : List ℕ) → length_at (first ∷ bytes) ≡ two_bytes bytes
unfolding length_at
form_130 first is bytes = rw is refl

form_131 : (first : ℕ) → first ≡ 131 → (bytes : List ℕ) → length_at (first ∷ bytes) ≡ three_bytes bytes
unfolding length_at
form_131 first is bytes = rw is refl

form_132 : (first : ℕ) → first ≡ 132 → (bytes : List ℕ) → length_at (first ∷ bytes) ≡ four_bytes bytes
unfolding length_at
form_132 first is bytes = rw is refl

no_form : (first : ℕ) (bytes : List ℕ) → ltb first 128 ≡ false → eqb first 129 ≡ false → eqb first 130 ≡ false
    → eqb first 131 ≡ false → eqb first 132 ≡ false → length_at (first ∷ bytes) ≡ Err Length
unfolding length_at
no_form first bytes a b c d e = rw (a, b, c, d, e) refl

complete_length : (bytes : List ℕ) → IsBytes bytes → length_at bytes ≡ Err Truncated → Completes length_at bytes
complete_length [] fits is = completes length_at [] (0 ∷ []) 0 fits (zeros_fit 1) (omega arith) (short_form 0 [] refl)
complete_length (first ∷ more) fits is =
    elim (cases_Bool (ltb first 128)) [
      | inl low ↦ absurd (let no = sym (short_form first more low) ∙ is in cc)
      | inr high ↦ elim (cases_Bool (eqb first 129)) [
        | inl is_129 ↦ read_after one_byte first more fits (form_129 first (eqb-true first 129 is_129))
            (complete_one more) is
        | inr not_129 ↦ elim (cases_Bool (eqb first 130)) [
          | inl is_130 ↦ read_after two_bytes first more fits (form_130 first (eqb-true first 130 is_130))
              (complete_two more) is
          | inr not_130 ↦ elim (cases_Bool (eqb first 131)) [
            | inl is_131 ↦ read_after three_bytes first more fits (form_131 first (eqb-true first 131 is_131))
                (complete_three more) is
            | inr not_131 ↦ elim (cases_Bool (eqb first 132)) [
              | inl is_132 ↦ read_after four_bytes first more fits (form_132 first (eqb-true first 132 is_132))
                  (complete_four more) is
              | inr not_132 ↦
                  absurd (let no = sym (no_form first more high not_129 not_130 not_131 not_132) ∙ is in cc)
            ]
          ]
        ]
      ]
    ]

-- ---- an element without its last octets

-- the element of this length, whose contents octets are these and those that are missing
cut_element : (tag : ℕ) (rest after missing head : List ℕ) (n : ℕ) → tag < 256 → tag % 32 ≢ 31 → n < 2 ^ 32
    → head ≡ spelled_length n → length (after ++ missing) ≡ n → rest ++ missing ≡ head ++ (after ++ missing)
    → 0 < length missing → IsCutElement (tag ∷ rest)
cut_element tag rest after missing head n byte short below spelled len parts some =
    record {
      whole = tag ∷ (rest ++ missing);
      tag = tag;
      content = after ++ missing;
      missing = missing;
      is = record {
        tagged = record { byte = byte; short = short };
        short = omega (arith, len, below);
        spelled = ap (λ (w : List ℕ). tag ∷ w) (parts
            ∙ ap (λ (w : List ℕ). w ++ (after ++ missing)) (spelled ∙ ap (λ (m : ℕ). spelled_length m) (sym len)));
      };
      parts = refl;
      some = some;
    }

-- the length is cut
length_cut : (tag : ℕ) (rest : List ℕ) → IsBytes (tag ∷ rest) → tag % 32 ≢ 31 → length_at rest ≡ Err Truncated
    → IsCutElement (tag ∷ rest)
length_cut tag rest fits short is =
    let c = complete_length rest (IsBytes-tail tag rest fits) is in
    let t = length_at_takes (rest ++ c.last) c.fits (c.number, []) c.is in
    let content = zeros c.number in
    let len : length content ≡ c.number = length-replicate c.number 0 in
    let missing = c.last ++ content in
    let head : rest ++ c.last ≡ spelled_length c.number = t.parts ∙ append-nil (spelled_length c.number) in
    record {
      whole = tag ∷ (rest ++ missing);
      tag = tag;
      content = content;
      missing = missing;
      is = record {
        tagged = record { byte = fits 0; short = short };
        short = omega (arith, len, t.short);
        spelled = ap (λ (w : List ℕ). tag ∷ w) (sym (append_assoc rest c.last content)
            ∙ ap (λ (w : List ℕ). w ++ content) (head ∙ ap (λ (m : ℕ). spelled_length m) (sym len)));
      };
      parts = refl;
      some = omega (arith, c.some, length-append c.last content);
    }

-- the contents octets are cut
content_cut : (tag : ℕ) (rest : List ℕ) → IsBytes (tag ∷ rest) → tag % 32 ≢ 31 → (n : ℕ) (after : List ℕ)
    → length_at rest ≡ Ok (n, after) → length after < n → IsCutElement (tag ∷ rest)
content_cut tag rest fits short n after is less =
    let t = length_at_takes rest (IsBytes-tail tag rest fits) (n, after) is in
    let missing = zeros (n - length after) in
    let len : length missing ≡ n - length after = length-replicate (n - length after) 0 in
    cut_element tag rest after missing (spelled_length n) n (fits 0) short t.short refl
    (omega (arith, len, less, length-append after missing))
    (ap (λ (w : List ℕ). w ++ missing) t.parts ∙ append_assoc (spelled_length n) after missing)
    (omega (arith, len, less))

pub cut_is : (bytes : List ℕ) → IsBytes bytes → element_at bytes ≡ Err Truncated → IsCutElement bytes
cut_is [] fits is =
    record {
      whole = element 4 [];
      tag = 4;
      content = [];
      missing = element 4 [];
      is = record { tagged = record { byte = omega arith; short = λ e. cc }; short = omega arith; spelled = refl };
      parts = refl;
      some = omega arith;
    }
cut_is (tag ∷ rest) fits is =
    elim (cases_Bool (eqb (tag % 32) 31)) [
      | inl long ↦
          absurd (let no : Truncated ≡ LongTag = element_at_fault (tag ∷ rest) Truncated is
          ∙ cond-true (eqb (tag % 32) 31) _ _ long in cc)
      | inr not_long ↦
          let short : tag % 32 ≢ 31 = eqb-false (tag % 32) 31 not_long in
          by short (length_at rest) refl (sym (short_at tag rest short) ∙ is)
    ]
  where
    by : tag % 32 ≢ 31 → (r : Result (ℕ × List ℕ) DerError) → length_at rest ≡ r
        → (r >>= λ n. cond (ltb (length n.1) n.0) (Err Truncated) (Ok (front_of_parts tag rest n))) ≡ Err Truncated
        → IsCutElement (tag ∷ rest)
    by short (Err e) l r =
        let same : e ≡ Truncated = err_is {A = Piece × List ℕ} e Truncated r in
        length_cut tag rest fits short (l ∙ ap (λ (d : DerError). refused_number d) same)
    by short (Ok n) l r = elim (cases_Bool (ltb (length n.1) n.0)) [
      | inl less ↦ content_cut tag rest fits short n.0 n.1 l (ltb-true (length n.1) n.0 less)
      | inr enough ↦
          absurd (let no = sym (cond-false (ltb (length n.1) n.0) (Err Truncated) (Ok (front_of_parts tag rest n))
          enough) ∙ r in cc)
    ]

-- what is bad without the last octets is bad with them
stays_bad : (bytes more : List ℕ) → IsBadLength bytes → IsBadLength (bytes ++ more)
stays_bad bytes more (indefinite rest is) = indefinite (rest ++ more) (ap (λ (w : List ℕ). w ++ more) is)
stays_bad bytes more (five_octets first rest is high) =
    five_octets first (rest ++ more) (ap (λ (w : List ℕ). w ++ more) is) high
stays_bad bytes more (fits_short_form number rest is low) =
    fits_short_form number (rest ++ more) (ap (λ (w : List ℕ). w ++ more) is) low
stays_bad bytes more (leading_zero first rest is low high) =
    leading_zero first (rest ++ more) (ap (λ (w : List ℕ). w ++ more) is) low high

no_more : (front : Piece) (rest : List ℕ) (whole : Piece)
    → ◌≡◌ {A = Result (Piece × List ℕ) DerError} (Ok (front, rest)) (Ok (whole, [])) → rest ≡ []
no_more front rest whole e =
    let same : (front, rest) ≡ (whole, []) = ok_is (front, rest) (whole, []) e in ap (λ (x : Piece × List ℕ). x.1) same

-- the element as it is with its last octets
abbrev read_whole : {text : List ℕ} → IsCutElement text → Result (Piece × List ℕ) DerError
read_whole h = Ok (record { tag = h.tag; whole = h.whole; content = h.content }, [])

whole_is_read : {text : List ℕ} (h : IsCutElement text) → element_at h.whole ≡ read_whole h
whole_is_read h = element_at_again h.whole h.tag h.content [] h.whole h.is (sym (append-nil h.whole))

-- neither of the two other faults
only_cut : (bytes : List ℕ) → IsCutElement bytes → fault_of bytes ≡ Truncated
only_cut [] h = refl
only_cut (tag ∷ rest) h =
    elim (cases_Bool (eqb (tag % 32) 31)) [
      | inl long ↦
          absurd (let refused = long_tag_at h.whole (record {
            tag = tag;
            rest = rest ++ h.missing;
            parts = h.parts;
            long = eqb-true (tag % 32) 31 long;
          }) in
          let no = sym refused ∙ whole_is_read h in cc)
      | inr short ↦ cond-false (eqb (tag % 32) 31) _ _ short ∙ elim (cases_Bool (has_bad_length rest)) [
        | inl bad ↦
            absurd (let refused = bad_length_at h.whole (record {
              tag = tag;
              rest = rest ++ h.missing;
              parts = h.parts;
              short = eqb-false (tag % 32) 31 short;
              bad = stays_bad rest h.missing (bad_is rest bad);
            }) in
            let no = sym refused ∙ whole_is_read h in cc)
        | inr good ↦ cond-false (has_bad_length rest) _ _ good
      ]
    ]

pub cut_at : (bytes : List ℕ) → IsBytes bytes → IsCutElement bytes → element_at bytes ≡ Err Truncated
cut_at bytes fits h = by (element_at bytes) refl
  where
    by : (r : Result (Piece × List ℕ) DerError) → element_at bytes ≡ r → r ≡ Err Truncated
    by (Ok x) is =
        let t = element_at_takes bytes fits x is in
        let parts : h.whole ≡ x.0.whole ++ (x.1 ++ h.missing) =
        h.parts ∙ ap (λ (w : List ℕ). w ++ h.missing) t.parts ∙ append_assoc x.0.whole x.1 h.missing in
        let again = element_at_again x.0.whole x.0.tag x.0.content (x.1 ++ h.missing) h.whole t.is parts in
        let none = no_more _ (x.1 ++ h.missing) _ (sym again ∙ whole_is_read h) in
        let len : length (x.1 ++ h.missing) ≡ 0 = ap (λ (w : List ℕ). length w) none in
        absurd (omega (arith, len, h.some, length-append x.1 h.missing))
    by (Err e) is = ap (λ (d : DerError). refused_front d) (element_at_fault bytes e is ∙ only_cut bytes h)
