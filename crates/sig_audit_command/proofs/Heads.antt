-- The heads of a request are one list, or one of them is the first whose text is not a checkpoint.
use Rattle.std.proofs.Common.{zero, suc, ◌≡◌, ◌<◌, ◌≤◌, ◌+◌, ◌⊎◌, ℕ, List, [], ◌∷◌, ◌++◌, ◌∙◌, length, take, get_or, slice_get, inl, inr}
use Rattle.std.proofs.Common.{Option, Some, None, Result, Ok, Err, IfOk, ap, arith, refl, subst, sym}
use Rattle.std.specs.List.{AllByRecursion, AllZip}
use Rattle.std.proofs.lemmas.List.{take_all, take_more}
use Rattle.std.proofs.lemmas.Option.{slice_get_read}
use Rattle.sig_audit.specs.declared.heads.AuditHead.{AuditHead}
use Rattle.sig_base.proofs.ResultSteps.{ok_is}
use Rattle.sig_base.specs.declared.fault.CheckpointFault.{CheckpointFault}
use Rattle.sig_rekor.proofs.CheckpointLaws.{checkpoint-only}
use Rattle.sig_rekor.specs.CheckpointText.{IsCheckpoint}
use Rattle.sig_rekor.specs.declared.checkpoint.SignedCheckpoint.{SignedCheckpoint}
use Rattle.sig_rekor.specs.declared.fault.ParseCheckpointError.{ParseCheckpointError}
use Rattle.sig_rekor.specs.declared.fault.ParseCheckpointError.TheVariants.{DecodeError, OutOfMemory as Memory}
use Rattle.sig_request.specs.declared.audit_request.HeadText.{HeadText}
use Rattle.sig_audit_command.specs.Heads.{AreHeads, HasReading, IsFirstUnread, IsHead}

-- ---- one reading

abbrev as_head : SignedCheckpoint → List (List ℕ) → AuditHead
as_head checkpoint hashes = record { checkpoint = checkpoint; hashes = hashes }

one_head : (text : HeadText) (a b : AuditHead) → IsHead text a → IsHead text b → a ≡ b
one_head text a b is other =
    let same : a.checkpoint ≡ b.checkpoint =
    ok_is a.checkpoint b.checkpoint (sym (checkpoint-only text.checkpoint a.checkpoint is.0)
    ∙ checkpoint-only text.checkpoint b.checkpoint other.0) in
    let hashes : a.hashes ≡ b.hashes = is.1 ∙ sym other.1 in
    ap (λ c. as_head c a.hashes) same ∙ ap (λ h. as_head b.checkpoint h) hashes

pub one_list : (texts : List HeadText) (a b : List AuditHead) → AreHeads texts a → AreHeads texts b → a ≡ b
one_list [] [] [] p q = refl
one_list [] (x ∷ xs) b p q = absurd p
one_list [] [] (y ∷ ys) p q = absurd q
one_list (t ∷ ts) [] b p q = absurd p
one_list (t ∷ ts) (x ∷ xs) [] p q = absurd q
one_list (t ∷ ts) (x ∷ xs) (y ∷ ys) p q =
    ap (λ h. h ∷ xs) (one_head t x y p.0 q.0) ∙ ap (λ rest. y ∷ rest) (one_list ts xs ys p.1 q.1)

-- ---- or a first text without a reading

pub no_unread : (texts : List HeadText) (heads : List AuditHead) (place : ℕ) → AreHeads texts heads
    → IsFirstUnread texts place → ⊥
no_unread [] heads place are (_, (text, at, _)) = absurd cc
no_unread (t ∷ ts) [] place are first = are
no_unread (t ∷ ts) (x ∷ xs) zero are (_, (text, at, none)) =
    let same : t ≡ text = cc in none (subst HasReading same (x.checkpoint, are.0.0))
no_unread (t ∷ ts) (x ∷ xs) (suc place) are (read, unread) = no_unread ts xs place are.1 (read.1, unread)

pub one_unread : (texts : List HeadText) (p q : ℕ) → IsFirstUnread texts p → IsFirstUnread texts q → p ≡ q
one_unread [] p q (_, (text, at, _)) b = absurd cc
one_unread (t ∷ ts) zero zero a b = refl
one_unread (t ∷ ts) zero (suc q) (_, (text, at, none)) b =
    let same : t ≡ text = cc in absurd (none (subst HasReading same b.0.0))
one_unread (t ∷ ts) (suc p) zero a (_, (text, at, none)) =
    let same : t ≡ text = cc in absurd (none (subst HasReading same a.0.0))
one_unread (t ∷ ts) (suc p) (suc q) a b = ap suc (one_unread ts p q (a.0.1, a.1) (b.0.1, b.1))

-- ---- reading the texts one after another

zip-push : (texts : List HeadText) (heads : List AuditHead) (text : HeadText) (head : AuditHead) → AreHeads texts heads
    → IsHead text head → AreHeads (texts ++ text ∷ []) (heads ++ head ∷ [])
zip-push [] [] text head are is = (is, tt)
zip-push [] (x ∷ xs) text head are is = absurd are
zip-push (t ∷ ts) [] text head are is = absurd are
zip-push (t ∷ ts) (x ∷ xs) text head are is = (are.0, zip-push ts xs text head are.1 is)

read-all : (texts : List HeadText) (heads : List AuditHead) → AreHeads texts heads → AllByRecursion HasReading texts
read-all [] heads are = tt
read-all (t ∷ ts) [] are = absurd are
read-all (t ∷ ts) (x ∷ xs) are = ((x.checkpoint, are.0.0), read-all ts xs are.1)

pub heads-none : (texts : List HeadText) → AreHeads (take 0 texts) []
heads-none texts = tt

pub heads-more : (texts : List HeadText) (place : ℕ) (text : HeadText) (heads : List AuditHead) (head : AuditHead)
    → place < length texts → text ≡ get_or texts place text → AreHeads (take place texts) heads → IsHead text head
    → AreHeads (take (place + 1) texts) (heads ++ head ∷ [])
heads-more texts place text heads head below is are one =
    let step : take (place + 1) texts ≡ take place texts ++ text ∷ [] =
    take_more texts place text below ∙ ap (λ t. take place texts ++ t ∷ []) (sym is) in
    rw step (zip-push (take place texts) heads text head are one)

pub heads-stop : (texts : List HeadText) (place : ℕ) (text : HeadText) (heads : List AuditHead)
    → place < length texts → text ≡ get_or texts place text → AreHeads (take place texts) heads → ¬ HasReading text
    → IsFirstUnread texts place
heads-stop texts place text heads below is are none =
    (read-all (take place texts) heads are, (text, slice_get_read texts (length texts) place text refl below is, none))

pub heads-done : (texts : List HeadText) (place : ℕ) (heads : List AuditHead) → length texts ≤ place
    → AreHeads (take place texts) heads → AreHeads texts heads
heads-done texts place heads all are = rw (take_all place texts all) at are

-- ---- what the reader of checkpoints says

pub unread : (head : HeadText) (text : List ℕ) (fault : CheckpointFault) → text ≡ head.checkpoint
    → ((other : SignedCheckpoint) → IsCheckpoint text other
    → (DecodeError fault ≡ Memory) ⊎ ◌≡◌ {A = Result SignedCheckpoint ParseCheckpointError} (Ok other)
    (Err (DecodeError fault)))
    → ¬ HasReading head
unread head text fault same none has =
    elim (none has.0 (subst (λ t. IsCheckpoint t has.0) (sym same) has.1)) [
      | inl e ↦ absurd cc
      | inr e ↦ absurd cc
    ]

pub ruleset heads_read = (heads-none, heads-more, heads-stop, heads-done)
