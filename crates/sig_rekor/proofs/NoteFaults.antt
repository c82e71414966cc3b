-- The fault of a note is the first of its rules that is broken.
use Rattle.std.proofs.Common.{◌≡◌, ℕ, ◌^◌, true, false, ◌&&◌, ◌==◌, nat_lt, List, [], ◌∷◌, length, Option, Some, None}
use Rattle.std.proofs.Common.{Result, Ok, Err, refl, sym, ◌∙◌, ap, subst, inl, inr, arith, ◌↔◌}
use Rattle.std.specs.Char.{is_ascii_digit}
use Rattle.std.specs.List.{AllByRecursion, list_all}
use Rattle.std.specs.Str.Parse.{digits_value, without_leading_plus}
use Rattle.std.specs.Prelude.{⊤, Bool}
use Rattle.sig_base.specs.declared.fault.CheckpointFault.{CheckpointFault}
use Rattle.sig_base.specs.declared.fault.CheckpointFault.TheVariants.{NoteFormat, EmptyOrigin, Size, HashBase64}
use Rattle.sig_base.specs.declared.fault.CheckpointFault.TheVariants.{HashLength}
use Rattle.sig_base.specs.Base64.{base64_bytes}
use Rattle.sig_rekor.specs.declared.checkpoint.Checkpoint.{Checkpoint}
use Rattle.sig_rekor.specs.TextCuts.{IsParts, parts_between}
use Rattle.sig_rekor.specs.Reading.{base64_of}
use Rattle.sig_rekor.specs.NoteText.{newline, is_blank, is_not_empty, IsSize, IsNote, origin_of, tree_size_of, hash_by}
use Rattle.sig_rekor.specs.NoteText.{root_hash_of, note_by, note_of}
use Rattle.sig_base.specs.Rules.{FailsFirst}
use Rattle.sig_rekor.specs.Faults.{OfLines, OfBytes, NoteKeeps, note_rules, IsNoteFault}
use Rattle.sig_rekor.proofs.CutLaws.{parts_between-found, parts_between-only}
use Rattle.sig_rekor.proofs.NoteLaws.{note-found, origin-only, size-found, size-only, hash-only}
use Rattle.sig_base.proofs.RuleLaws.{one_fails, none_fails}
use Rattle.sig_rekor.proofs.Steps.{chosen}

-- the lines of a text are the ones that were found
of_lines : (text origin size hash : List ℕ) (others : List (List ℕ)) (P : List ℕ → List ℕ → List ℕ → Type 0)
    → IsParts newline text (origin ∷ size ∷ hash ∷ others) → OfLines text P → P origin size hash
of_lines text origin size hash others P are (o, s, h, more, these, holds) =
    let e = sym (parts_between-only newline text (o ∷ s ∷ h ∷ more) (omega arith) these)
    ∙ parts_between-only newline text (origin ∷ size ∷ hash ∷ others) (omega arith) are in
    let a : o ≡ origin = cc in
    let b : s ≡ size = cc in
    let c : h ≡ hash = cc in
    subst (λ x. P x size hash) a (subst (λ x. P o x hash) b (subst (λ x. P o s x) c holds))

few_lines : (text : List ℕ) (lines : List (List ℕ)) → IsParts newline text lines → note_by lines ≡ Err NoteFormat
    → ((a b c : List ℕ) (ls : List (List ℕ)) → lines ≡ a ∷ b ∷ c ∷ ls → ⊥)
    → OfLines text (λ _ _ _. ⊤) → ⊥
few_lines text lines are e few (o, s, h, more, these, _) =
    few o s h more (sym (parts_between-only newline text lines (omega arith) are)
    ∙ parts_between-only newline text (o ∷ s ∷ h ∷ more) (omega arith) these)

-- each reader has the fault of its rule
size-fault : (line : List ℕ) (fault : CheckpointFault) → tree_size_of line ≡ Err fault → fault ≡ Size
unfolding tree_size_of
size-fault line fault e =
    let ds = without_leading_plus line in
    elim (chosen (list_all is_ascii_digit ds && (is_not_empty ds && nat_lt (digits_value 10 ds) (2 ^ 64)))
    (Ok (digits_value 10 ds)) (Err Size) (Err fault) e) [
      | inl numeral ↦ (let f = numeral.1 in cc)
      | inr other ↦ (let f = other.1 in cc)
    ]

origin-blank : (line : List ℕ) → is_blank line ≡ true → origin_of line ≡ Err EmptyOrigin
unfolding origin_of
origin-blank line blank = rw blank refl

-- the hash, by its bytes
hash_fails : (text origin size hash : List ℕ) (others : List (List ℕ)) (fault : CheckpointFault)
    → IsParts newline text (origin ∷ size ∷ hash ∷ others)
    → root_hash_of hash ≡ Err fault → FailsFirst (NoteKeeps text) (HashBase64 ∷ HashLength ∷ []) fault
unfolding root_hash_of base64_of
hash_fails text origin size hash others fault are e = read (base64_bytes hash) refl where
  read : (o : Option (List ℕ)) → base64_bytes hash ≡ o
      → FailsFirst (NoteKeeps text) (HashBase64 ∷ HashLength ∷ []) fault
  read None is =
      inl (
        λ keeps. (let found = of_lines text origin size hash others (λ _ _ h. OfBytes h (λ _. ⊤)) are keeps in
            let f = found.1 in cc),
        let f = rw is at e in cc,
      )
  read (Some bytes) is = inr (
    (origin, size, hash, others, are, (bytes, is, tt)),
    inl (
      λ keeps. (let found = of_lines text origin size hash others
          (λ _ _ h. OfBytes h (λ b. length b ≡ 32)) are keeps in
          let good = hash-only hash found.0 (found.1, found.2) in
          let f : ◌≡◌ {A = Result (List ℕ) CheckpointFault} (Ok found.0) (Err fault) = sym good ∙ e in cc),
      length_fault (rw is at e),
    ),
  ) where
    length_fault : hash_by bytes ≡ Err fault → fault ≡ HashLength
    length_fault f = elim (chosen (length bytes == 32) (Ok bytes) (Err HashLength) (Err fault) f) [
      | inl sized ↦ (let g = sized.1 in cc)
      | inr other ↦ (let g = other.1 in cc)
    ]

-- the note, by its lines
lines_fail : (text : List ℕ) (lines : List (List ℕ)) (fault : CheckpointFault) → IsParts newline text lines
    → note_by lines ≡ Err fault → IsNoteFault text fault
lines_fail text [] fault are e = absurd are
lines_fail text (a ∷ []) fault are e = inl (few_lines text (a ∷ []) are refl (λ x y z ls f. cc), cc)
lines_fail text (a ∷ b ∷ []) fault are e = inl (few_lines text (a ∷ b ∷ []) are refl (λ x y z ls f. cc), cc)
lines_fail text (origin ∷ size ∷ hash ∷ others) fault are e =
    inr ((origin, size, hash, others, are, tt), by_origin (is_blank origin) refl) where
      by_hash : (n : ℕ) → is_blank origin ≡ false → tree_size_of size ≡ Ok n → (r : Result (List ℕ) CheckpointFault)
          → root_hash_of hash ≡ r → FailsFirst (NoteKeeps text) (HashBase64 ∷ HashLength ∷ []) fault
      by_hash n written sized (Ok bytes) is = let f = rw (origin-only origin written, sized, is) at e in cc
      by_hash n written sized (Err other) is =
          let f = rw (origin-only origin written, sized, is) at e in
          let same : other ≡ fault = cc in
          hash_fails text origin size hash others fault are (is ∙ ap Err same)

      by_size : is_blank origin ≡ false → (r : Result ℕ CheckpointFault) → tree_size_of size ≡ r
          → FailsFirst (NoteKeeps text) (Size ∷ HashBase64 ∷ HashLength ∷ []) fault
      by_size written (Ok n) is =
          inr (
            (origin, size, hash, others, are, (n, size-found size n is)),
            by_hash n written is
                (root_hash_of hash) refl,
          )
      by_size written (Err other) is =
          let f = rw (origin-only origin written, is) at e in
          let same : other ≡ fault = cc in
          inl (
            λ keeps. (let found = of_lines text origin size hash others (λ _ s _. (n : ℕ) × IsSize s n) are keeps in
                let good = size-only size found.0 found.1 in
                let g : ◌≡◌ {A = Result ℕ CheckpointFault} (Ok found.0) (Err other) = sym good ∙ is in cc),
            size-fault size fault (is ∙ ap Err same),
          )

      blank_fault : is_blank origin ≡ true → fault ≡ EmptyOrigin
      blank_fault is = let f = rw (origin-blank origin is) at e in cc

      by_origin : (b : Bool) → is_blank origin ≡ b → FailsFirst (NoteKeeps text)
          (EmptyOrigin ∷ Size ∷ HashBase64 ∷ HashLength ∷ []) fault
      by_origin true is = inl (
        λ keeps. (let written = of_lines text origin size hash others (λ o _ _. is_blank o ≡ false) are keeps in cc),
        blank_fault is,
      )
      by_origin false is = inr ((origin, size, hash, others, are, is), by_size is (tree_size_of size) refl)

pub note-fails : (text : List ℕ) (fault : CheckpointFault) → note_of text ≡ Err fault → IsNoteFault text fault
unfolding note_of
note-fails text fault e = lines_fail text (parts_between newline text) fault
    (parts_between-found newline text (omega arith)) e

-- a note keeps every rule
note-keeps : (text : List ℕ) (note : Checkpoint) → IsNote text note → AllByRecursion (NoteKeeps text) note_rules
note-keeps text note is =
    let lines : (P : List ℕ → List ℕ → List ℕ → Type 0) → P note.origin is.size_line is.hash_line → OfLines text P =
    λ P holds. (note.origin, is.size_line, is.hash_line, is.others, is.lines, holds) in (
      lines (λ _ _ _. ⊤) tt,
      (
        lines (λ o _ _. is_blank o ≡ false) is.origin,
        (
          lines (λ _ s _. (n : ℕ) × IsSize s n) (note.size, is.size),
          (
            lines (λ _ _ h. OfBytes h (λ _. ⊤)) (note.hash, is.hash.0, tt),
            (lines (λ _ _ h. OfBytes h (λ b. length b ≡ 32)) (note.hash, is.hash.0, is.hash.1), tt),
          ),
        ),
      ),
    )

pub note-only_fails : (text : List ℕ) (fault : CheckpointFault) → IsNoteFault text fault → note_of text ≡ Err fault
note-only_fails text fault fails = read (note_of text) refl where
  read : (r : Result Checkpoint CheckpointFault) → note_of text ≡ r → note_of text ≡ Err fault
  read (Ok note) is =
      absurd (none_fails (NoteKeeps text) note_rules fault (note-keeps text note (note-found text note is)) fails)
  read (Err other) is =
      is ∙ ap Err (one_fails (NoteKeeps text) note_rules other fault (note-fails text other is) fails)

pub note-faults : (text : List ℕ) (fault : CheckpointFault) → (note_of text ≡ Err fault) ↔ IsNoteFault text fault
note-faults text fault = (note-fails text fault, note-only_fails text fault)
