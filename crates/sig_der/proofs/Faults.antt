-- Where nothing is read, the fault is the first that shows.
use Rattle.std.proofs.Common.{◌≡◌, ◌≢◌, ℕ, ◌+◌, ◌-◌, ◌*◌, ◌%◌, ◌≤◌, Bool, true, false, cond, ltb, eqb, ◌&&◌, List, []}
use Rattle.std.proofs.Common.{◌∷◌, length, take, drop, Result, Ok, Err, refl, sym, ◌∙◌, arith, inl, inr}
use Rattle.std.proofs.lemmas.Bool.{cases_Bool, cases_lt, ltb-false, eqb-true, eqb-false, le-ltb, and_left, and_right}
use Rattle.std.proofs.lemmas.Bool.{cond-true, cond-false}
use Rattle.sig_base.proofs.ResultSteps.{err_is}
use Rattle.sig_base.specs.ResultSteps.{◌>>=◌}
use Rattle.sig_base.specs.declared.fault.DerError.{DerError}
use Rattle.sig_base.specs.declared.fault.DerError.TheVariants.{Length, LongTag, Truncated}
use Rattle.sig_der.specs.Reading.{Piece, one_byte, two_bytes, three_bytes, four_bytes, length_at, element_at}
use Rattle.sig_der.specs.Reading.{is_small_first}
use Rattle.sig_der.specs.Reading.{is_zero_first, has_bad_length, fault_of}

-- a length is read only where it is not bad, and a bad one is told from a cut one
abbrev pub Agrees : {A : Type 0} → Result A DerError → Bool → Type 0
Agrees (Ok x) bad = bad ≡ false
Agrees (Err e) bad = e ≡ cond bad Length Truncated

guarded : {A : Type 0} (bad : Bool) (r : Result A DerError) → Agrees r false → Agrees (cond bad (Err Length) r) bad
guarded true r h = refl
guarded false r h = h

one_at_agrees : (bytes : List ℕ) → Agrees (one_byte bytes) (is_small_first bytes)
unfolding one_byte
one_at_agrees [] = refl
one_at_agrees (a ∷ rest) = guarded (ltb a 128) (Ok (a, rest)) refl

two_at_agrees : (bytes : List ℕ) → Agrees (two_bytes bytes) (is_zero_first bytes)
unfolding two_bytes
two_at_agrees [] = refl
two_at_agrees (a ∷ []) = guarded {A = ℕ × List ℕ} (eqb a 0) (Err Truncated) refl
two_at_agrees (a ∷ b ∷ rest) = guarded (eqb a 0) (Ok (a * 256 + b, rest)) refl

three_at_agrees : (bytes : List ℕ) → Agrees (three_bytes bytes) (is_zero_first bytes)
unfolding three_bytes
three_at_agrees [] = refl
three_at_agrees (a ∷ []) = guarded {A = ℕ × List ℕ} (eqb a 0) (Err Truncated) refl
three_at_agrees (a ∷ b ∷ []) = guarded {A = ℕ × List ℕ} (eqb a 0) (Err Truncated) refl
three_at_agrees (a ∷ b ∷ c ∷ rest) = guarded (eqb a 0) (Ok (a * 65536 + b * 256 + c, rest)) refl

four_at_agrees : (bytes : List ℕ) → Agrees (four_bytes bytes) (is_zero_first bytes)
unfolding four_bytes
four_at_agrees [] = refl
four_at_agrees (a ∷ []) = guarded {A = ℕ × List ℕ} (eqb a 0) (Err Truncated) refl
four_at_agrees (a ∷ b ∷ []) = guarded {A = ℕ × List ℕ} (eqb a 0) (Err Truncated) refl
four_at_agrees (a ∷ b ∷ c ∷ []) = guarded {A = ℕ × List ℕ} (eqb a 0) (Err Truncated) refl
four_at_agrees (a ∷ b ∷ c ∷ d ∷ rest) = guarded (eqb a 0) (Ok (a * 16777216 + b * 65536 + c * 256 + d, rest)) refl

-- the two chains of tests on the first byte, from 128 on
abbrev reads : ℕ → List ℕ → Result (ℕ × List ℕ) DerError
reads first rest =
    cond (eqb first 129) (one_byte rest)
    (cond (eqb first 130) (two_bytes rest)
    (cond (eqb first 131) (three_bytes rest) (cond (eqb first 132) (four_bytes rest) (Err Length))))

abbrev is_bad : ℕ → List ℕ → Bool
is_bad first rest =
    cond (eqb first 129) (is_small_first rest) (cond (ltb 129 first && ltb first 133) (is_zero_first rest) true)

reads_agrees : (first : ℕ) (rest : List ℕ) → 128 ≤ first → Agrees (reads first rest) (is_bad first rest)
reads_agrees first rest low =
    elim (cases_Bool (eqb first 129)) [
      | inl is ↦ rw (eqb-true first 129 is) (one_at_agrees rest)
      | inr not129 ↦ elim (cases_Bool (eqb first 130)) [
        | inl is ↦ rw (eqb-true first 130 is) (two_at_agrees rest)
        | inr not130 ↦ elim (cases_Bool (eqb first 131)) [
          | inl is ↦ rw (eqb-true first 131 is) (three_at_agrees rest)
          | inr not131 ↦ elim (cases_Bool (eqb first 132)) [
            | inl is ↦ rw (eqb-true first 132 is) (four_at_agrees rest)
            | inr not132 ↦
                let a : first ≢ 129 = eqb-false first 129 not129 in
                let b : first ≢ 130 = eqb-false first 130 not130 in
                let c : first ≢ 131 = eqb-false first 131 not131 in
                let d : first ≢ 132 = eqb-false first 132 not132 in
                let outside : (ltb 129 first && ltb first 133) ≡ false = elim (cases_lt first 133) [
                  | inl below ↦ and_left (ltb 129 first) (ltb first 133) (le-ltb 129 first (omega arith))
                  | inr above ↦ and_right (ltb 129 first) (ltb first 133) (le-ltb first 133 above)
                ] in
                rw (not129, not130, not131, not132, outside) refl
          ]
        ]
      ]
    ]

pub length_at_agrees : (bytes : List ℕ) → Agrees (length_at bytes) (has_bad_length bytes)
unfolding length_at
length_at_agrees [] = refl
length_at_agrees (first ∷ rest) =
    elim (cases_Bool (ltb first 128)) [
      | inl is ↦ rw is refl
      | inr not ↦ rw not (reads_agrees first rest (ltb-false first 128 not))
    ]

after_length : {A B : Type 0} (r : Result A DerError) (bad : Bool) (missing : A → Bool) (made : A → B) (e : DerError)
    → Agrees r bad
    → (r >>= λ n. cond (missing n) (Err Truncated) (Ok (made n))) ≡ Err e → e ≡ cond bad Length Truncated
after_length {B = B} (Ok n) bad missing made e good is =
    rw good (elim (cases_Bool (missing n)) [
      | inl out ↦ err_is {A = B} e Truncated (sym is ∙ cond-true (missing n) (Err Truncated) (Ok (made n)) out)
      | inr here ↦ absurd (let no = sym (cond-false (missing n) (Err Truncated) (Ok (made n)) here) ∙ is in cc)
    ])
after_length {B = B} (Err d) bad missing made e agrees is = sym (err_is {A = B} d e is) ∙ agrees

abbrev pub front_of_parts : ℕ → List ℕ → ℕ × List ℕ → Piece × List ℕ
front_of_parts tag rest n = (
  record {
    tag = tag;
    whole = take (length (tag ∷ rest) - length (drop n.0 n.1)) (tag ∷ rest);
    content = take n.0 n.1;
  },
  drop n.0 n.1,
)

pub element_at_fault : (bytes : List ℕ) (e : DerError) → element_at bytes ≡ Err e → e ≡ fault_of bytes
unfolding element_at
element_at_fault [] e is = sym (err_is {A = Piece × List ℕ} Truncated e is)
element_at_fault (tag ∷ rest) e is =
    elim (cases_Bool (eqb (tag % 32) 31)) [
      | inl long ↦
          rw long (sym (err_is {A = Piece × List ℕ} LongTag e
          (sym (cond-true (eqb (tag % 32) 31) _ _ long) ∙ is)))
      | inr not_long ↦ rw not_long (after_length (length_at rest) (has_bad_length rest) (λ n. ltb (length n.1) n.0)
          (λ n. front_of_parts tag rest n) e (length_at_agrees rest)
          (sym (cond-false (eqb (tag % 32) 31) _ _ not_long) ∙ is))
    ]
