-- The check of a head, and of the heads in turn: it passes if and only if what is asked holds, and else fails with the
-- first that does not.
use Rattle.std.proofs.Common.{◌≡◌, ◌⊎◌, ℕ, ◌+◌, Bool, true, false, inl, inr, List, [], ◌∷◌}
use Rattle.std.proofs.Common.{Option, Some, None, Result, Ok, Err, refl, sym, ◌∙◌, ap}
use Rattle.std.proofs.lemmas.List.Folds.{Any-from_list_any, list_any-from_Any}
use Rattle.std.specs.Cmp.Lexicographic.{bytes_decides}
use Rattle.std.specs.List.{AllByRecursion}
use Rattle.std.specs.Str.{bytes_eq}
use Rattle.sig_base.proofs.ResultSteps.{bind_ok}
use Rattle.sig_base.specs.declared.merkle_error.MerkleProofError.{MerkleProofError}
use Rattle.sig_merkle.proofs.ConsistencyAnswers.{consistency_answers}
use Rattle.sig_rekor.specs.NoteText.{note_text}
use Rattle.sig_rekor.specs.Refusals.{IsSigned}
use Rattle.sig_rekor.specs.Verify.{has_accepted_signature}
use Rattle.sig_rekor.specs.declared.checkpoint.SignedCheckpoint.{SignedCheckpoint}
use Rattle.sig_audit.specs.declared.error.AuditError.{AuditError}
use Rattle.sig_audit.specs.declared.error.AuditError.TheVariants.{NoteKey, Origin, Consistency}
use Rattle.sig_audit.specs.declared.heads.AuditHead.{AuditHead}
use Rattle.sig_audit.specs.Answer.{first_error, as_fault, growth_answer, head_answer}
use Rattle.sig_audit.specs.Audited.{chain_head, chain_of, IsHeadSigned, HasOriginOf}
use Rattle.sig_audit.specs.Chained.{HasGrownFrom, HaveGrownFrom, HaveGrown}
use Rattle.sig_audit.specs.Faults.{IsUngrown}

pub err_apart : {A E : Type 0} (x : A) (e : E) → ◌≡◌ {A = Result A E} (Err e) (Ok x) → ⊥
err_apart x e same = cc

pub same_err : {A E : Type 0} (d e : E) → ◌≡◌ {A = Result A E} (Err d) (Err e) → e ≡ d
same_err d e same = cc

-- ---- the three checks of a head

pub signed-cases : (accepts : List ℕ → List ℕ → Bool) (checkpoint : SignedCheckpoint)
    → ((has_accepted_signature accepts checkpoint ≡ true) × IsSigned accepts checkpoint)
    ⊎ ((has_accepted_signature accepts checkpoint ≡ false) × ¬ IsSigned accepts checkpoint)
unfolding has_accepted_signature
signed-cases accepts checkpoint = by (has_accepted_signature accepts checkpoint) refl
  where
    by : (b : Bool) → has_accepted_signature accepts checkpoint ≡ b
        → ((has_accepted_signature accepts checkpoint ≡ true) × IsSigned accepts checkpoint)
        ⊎ ((has_accepted_signature accepts checkpoint ≡ false) × ¬ IsSigned accepts checkpoint)
    by true is =
        inl (is, Any-from_list_any (λ signature. accepts (note_text checkpoint.note) signature.raw) checkpoint.signatures is)
    by false is =
        inr (
          is,
          λ signed. (let f =
              list_any-from_Any (λ signature. accepts (note_text checkpoint.note) signature.raw) checkpoint.signatures signed in
              cc),
        )

origin-cases : (first head : AuditHead)
    → ((bytes_eq head.checkpoint.note.origin first.checkpoint.note.origin ≡ true) × HasOriginOf first head)
    ⊎ ((bytes_eq head.checkpoint.note.origin first.checkpoint.note.origin ≡ false) × ¬ HasOriginOf first head)
origin-cases first head = by (bytes_eq head.checkpoint.note.origin first.checkpoint.note.origin) refl
  where
    by : (b : Bool) → bytes_eq head.checkpoint.note.origin first.checkpoint.note.origin ≡ b
        → ((bytes_eq head.checkpoint.note.origin first.checkpoint.note.origin ≡ true) × HasOriginOf first head)
        ⊎ ((bytes_eq head.checkpoint.note.origin first.checkpoint.note.origin ≡ false) × ¬ HasOriginOf first head)
    by true is = inl (is, (bytes_decides head.checkpoint.note.origin first.checkpoint.note.origin).0 is)
    by false is =
        inr (is, λ same. (let f = (bytes_decides head.checkpoint.note.origin first.checkpoint.note.origin).1 same in cc))

-- the head's tree grew from that of the head before it, if there is one
abbrev pub GrownAfter : Option AuditHead → AuditHead → Type 0
GrownAfter None head = Unit {0}
GrownAfter (Some older) head = HasGrownFrom (chain_head older) (chain_head head)

abbrev pub UngrownAfter : Option AuditHead → ℕ → AuditHead → AuditError → Type 0
UngrownAfter None place head e = ⊥
UngrownAfter (Some older) place head e =
    (cause : MerkleProofError) × IsUngrown (chain_head older) (chain_head head) cause × (e ≡ Consistency place cause)

pub ok_fault : (named : MerkleProofError → AuditError) (r : Result (Unit {0}) MerkleProofError)
    → as_fault named r ≡ Ok tt → r ≡ Ok tt
ok_fault named (Ok tt) is = refl
ok_fault named (Err e) is = absurd cc

pub err_fault : (named : MerkleProofError → AuditError) (r : Result (Unit {0}) MerkleProofError) (e : AuditError)
    → as_fault named r ≡ Err e → (cause : MerkleProofError) × (r ≡ Err cause) × (e ≡ named cause)
err_fault named (Ok tt) e is = absurd cc
err_fault named (Err cause) e is = (cause, refl, same_err (named cause) e is)

growth-ok : (before : Option AuditHead) (place : ℕ) (head : AuditHead) → growth_answer before place head ≡ Ok tt
    → GrownAfter before head
growth-ok None place head is = tt
growth-ok (Some older) place head is = (consistency_answers _ _ _ _ _ (Ok tt)).0 (ok_fault _ _ is)

growth-passes : (before : Option AuditHead) (place : ℕ) (head : AuditHead) → GrownAfter before head
    → growth_answer before place head ≡ Ok tt
growth-passes None place head grown = refl
growth-passes (Some older) place head grown =
    ap (as_fault (Consistency place)) ((consistency_answers _ _ _ _ _ (Ok tt)).1 grown)

growth-err : (before : Option AuditHead) (place : ℕ) (head : AuditHead) (e : AuditError)
    → growth_answer before place head ≡ Err e → UngrownAfter before place head e
growth-err None place head e is = absurd cc
growth-err (Some older) place head e is =
    let (cause, fails, named) = err_fault _ _ e is in
    (cause, (consistency_answers _ _ _ _ _ (Err cause)).0 fails, named)

growth-fails : (before : Option AuditHead) (place : ℕ) (head : AuditHead) (e : AuditError)
    → UngrownAfter before place head e → growth_answer before place head ≡ Err e
growth-fails None place head e none = absurd none
growth-fails (Some older) place head e (cause, fails, named) =
    ap (as_fault (Consistency place)) ((consistency_answers _ _ _ _ _ (Err cause)).1 fails) ∙ ap Err (sym named)

-- ---- a head

module _ (accepts : List ℕ → List ℕ → Bool) (first : AuditHead) where
  head-unsigned : (before : Option AuditHead) (place : ℕ) (head : AuditHead)
      → has_accepted_signature accepts head.checkpoint ≡ false
      → head_answer accepts first before place head ≡ Err (NoteKey place)
  unfolding head_answer
  head-unsigned before place head is = rw is refl

  head-other : (before : Option AuditHead) (place : ℕ) (head : AuditHead)
      → has_accepted_signature accepts head.checkpoint ≡ true
      → bytes_eq head.checkpoint.note.origin first.checkpoint.note.origin ≡ false
      → head_answer accepts first before place head ≡ Err (Origin place)
  unfolding head_answer
  head-other before place head is other = rw (is, other) refl

  head-growth : (before : Option AuditHead) (place : ℕ) (head : AuditHead)
      → has_accepted_signature accepts head.checkpoint ≡ true
      → bytes_eq head.checkpoint.note.origin first.checkpoint.note.origin ≡ true
      → head_answer accepts first before place head ≡ growth_answer before place head
  unfolding head_answer
  head-growth before place head is same = rw (is, same) refl

  abbrev pub HeadPasses : Option AuditHead → AuditHead → Type 0
  HeadPasses before head = IsHeadSigned accepts head × HasOriginOf first head × GrownAfter before head

  abbrev pub HeadFails : Option AuditHead → ℕ → AuditHead → AuditError → Type 0
  HeadFails before place head e =
      (¬ IsHeadSigned accepts head × (e ≡ NoteKey place))
      ⊎ (IsHeadSigned accepts head × ¬ HasOriginOf first head × (e ≡ Origin place))
      ⊎ (IsHeadSigned accepts head × HasOriginOf first head × UngrownAfter before place head e)

  pub head-ok : (before : Option AuditHead) (place : ℕ) (head : AuditHead)
      → head_answer accepts first before place head ≡ Ok tt → HeadPasses before head
  head-ok before place head e =
      elim (signed-cases accepts head.checkpoint) [
        | inl (is, signed) ↦ elim (origin-cases first head) [
          | inl (same, origin) ↦
              (signed, origin, growth-ok before place head (sym (head-growth before place head is same) ∙ e))
          | inr (other, _) ↦ absurd (err_apart _ _ (sym (head-other before place head is other) ∙ e))
        ]
        | inr (is, _) ↦ absurd (err_apart _ _ (sym (head-unsigned before place head is) ∙ e))
      ]

  pub head-passes : (before : Option AuditHead) (place : ℕ) (head : AuditHead) → HeadPasses before head
      → head_answer accepts first before place head ≡ Ok tt
  head-passes before place head (signed, origin, grown) =
      elim (signed-cases accepts head.checkpoint) [
        | inl (is, _) ↦ elim (origin-cases first head) [
          | inl (same, _) ↦ head-growth before place head is same ∙ growth-passes before place head grown
          | inr (_, other) ↦ absurd (other origin)
        ]
        | inr (_, unsigned) ↦ absurd (unsigned signed)
      ]

  pub head-err : (before : Option AuditHead) (place : ℕ) (head : AuditHead) (e : AuditError)
      → head_answer accepts first before place head ≡ Err e → HeadFails before place head e
  head-err before place head e fails =
      elim (signed-cases accepts head.checkpoint) [
        | inl (is, signed) ↦ elim (origin-cases first head) [
          | inl (same, origin) ↦
              inr (inr (signed, origin, growth-err before place head e (sym (head-growth before place head is same) ∙ fails)))
          | inr (other, apart) ↦
              inr (inl (signed, apart, same_err _ e (sym (head-other before place head is other) ∙ fails)))
        ]
        | inr (is, unsigned) ↦ inl (unsigned, same_err _ e (sym (head-unsigned before place head is) ∙ fails))
      ]

  pub head-fails : (before : Option AuditHead) (place : ℕ) (head : AuditHead) (e : AuditError)
      → HeadFails before place head e → head_answer accepts first before place head ≡ Err e
  head-fails before place head e fault =
      elim (signed-cases accepts head.checkpoint) [
        | inl (is, signed) ↦ elim (origin-cases first head) [
          | inl (same, origin) ↦ head-growth before place head is same ∙ growth-fails before place head e (third fault signed origin)
          | inr (other, apart) ↦ head-other before place head is other ∙ ap Err (sym (second fault signed apart))
        ]
        | inr (is, unsigned) ↦ head-unsigned before place head is ∙ ap Err (sym (one fault unsigned))
      ]
    where
      one : HeadFails before place head e → ¬ IsHeadSigned accepts head → e ≡ NoteKey place
      one (inl (_, named)) unsigned = named
      one (inr (inl (signed, _, _))) unsigned = absurd (unsigned signed)
      one (inr (inr (signed, _, _))) unsigned = absurd (unsigned signed)

      second : HeadFails before place head e → IsHeadSigned accepts head → ¬ HasOriginOf first head → e ≡ Origin place
      second (inl (unsigned, _)) signed apart = absurd (unsigned signed)
      second (inr (inl (_, _, named))) signed apart = named
      second (inr (inr (_, origin, _))) signed apart = absurd (apart origin)

      third : HeadFails before place head e → IsHeadSigned accepts head → HasOriginOf first head
          → UngrownAfter before place head e
      third (inl (unsigned, _)) signed origin = absurd (unsigned signed)
      third (inr (inl (_, apart, _))) signed origin = absurd (apart origin)
      third (inr (inr (_, _, ungrown))) signed origin = ungrown

  -- ---- the heads in turn

  -- each grew from the one before it
  abbrev pub GrowAfter : Option AuditHead → List AuditHead → Type 0
  GrowAfter None heads = HaveGrown (chain_of heads)
  GrowAfter (Some older) heads = HaveGrownFrom (chain_head older) (chain_of heads)

  abbrev pub HeadsPass : Option AuditHead → List AuditHead → Type 0
  HeadsPass before heads =
      AllByRecursion (IsHeadSigned accepts) heads × AllByRecursion (HasOriginOf first) heads × GrowAfter before heads

  grow-none : (before : Option AuditHead) → GrowAfter before []
  grow-none None = tt
  grow-none (Some older) = tt

  grow-more : (before : Option AuditHead) (head : AuditHead) (later : List AuditHead) → GrownAfter before head
      → GrowAfter (Some head) later → GrowAfter before (head ∷ later)
  grow-more None head later grown rest = rest
  grow-more (Some older) head later grown rest = (grown, rest)

  grow-first : (before : Option AuditHead) (head : AuditHead) (later : List AuditHead) → GrowAfter before (head ∷ later)
      → GrownAfter before head × GrowAfter (Some head) later
  grow-first None head later grown = (tt, grown)
  grow-first (Some older) head later grown = grown

  pub heads-ok : (before : Option AuditHead) (place : ℕ) (heads : List AuditHead)
      → first_error (head_answer accepts first) before place heads ≡ Ok tt → HeadsPass before heads
  unfolding first_error
  heads-ok before place [] is = (tt, tt, grow-none before)
  heads-ok before place (head ∷ later) is =
      let (u, ok, rest) = bind_ok (head_answer accepts first before place head)
      (λ _. first_error (head_answer accepts first) (Some head) (place + 1) later) tt is in
      let here = head-ok before place head ok in
      let others = heads-ok (Some head) (place + 1) later rest in
      ((here.0, others.0), (here.1, others.1), grow-more before head later here.2 others.2)

  pub heads-pass : (before : Option AuditHead) (place : ℕ) (heads : List AuditHead) → HeadsPass before heads
      → first_error (head_answer accepts first) before place heads ≡ Ok tt
  unfolding first_error
  heads-pass before place [] pass = refl
  heads-pass before place (head ∷ later) ((signed, all_signed), (origin, origins), grown) =
      let (here, rest) = grow-first before head later grown in
      rw (head-passes before place head (signed, origin, here))
      (heads-pass (Some head) (place + 1) later (all_signed, origins, rest))
