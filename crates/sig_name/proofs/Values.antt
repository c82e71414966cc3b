-- The text of a value, byte by byte; of parts; and whether it is a text.
use Rattle.std.proofs.Common.{◌≡◌, ◌≢◌, ℕ, List, [], ◌∷◌, ◌++◌, length, Some, None, refl, sym, ap, append_assoc, ◌∙◌, arith}
use Rattle.std.specs.Str.{IsUtf8, is_utf8}
use Rattle.std.proofs.lemmas.Bool.{cond-true, cond-false}
use Rattle.std.proofs.lemmas.List.{append-nil}
use Rattle.sig_base.proofs.Utf8Texts.{is_text, is_no_text}
use Rattle.sig_name.specs.NameText.{after_first, escaped, escaped_first, escaped_last, part_text, parts_text, text_in, value_text}
use Rattle.sig_name.specs.Seen.{all_seen, seen}
use Rattle.sig_name.specs.declared.name.NamePart.{NamePart}

pub last_pushed : (old new rest : List ℕ) (b : ℕ) → length rest ≡ 0 → new ≡ old ++ escaped_last b
    → new ++ after_first rest ≡ old ++ after_first (b ∷ rest)
unfolding after_first
last_pushed old new [] b none pushed = append-nil new ∙ pushed
last_pushed old new (next ∷ rest) b none pushed = absurd (omega arith)

pub more_pushed : (old new rest : List ℕ) (b : ℕ) → rest ≢ [] → new ≡ old ++ escaped b
    → new ++ after_first rest ≡ old ++ after_first (b ∷ rest)
unfolding after_first
more_pushed old new [] b some pushed = absurd (some refl)
more_pushed old new (next ∷ rest) b some pushed =
    ap (λ text. text ++ after_first (next ∷ rest)) pushed ∙ append_assoc old (escaped b) (after_first (next ∷ rest))

-- after the last byte
pub value_pushed : (before first out left after value : List ℕ) (b : ℕ) → value ≡ b ∷ after → left ≡ []
    → first ≡ before ++ escaped_first b → out ++ after_first left ≡ first ++ after_first after
    → out ≡ before ++ value_text value
unfolding after_first
value_pushed before first out left after value b whole none begun so_far =
    let done : out ≡ first ++ after_first after =
    sym (append-nil out) ∙ ap (λ text. out ++ after_first text) (sym none) ∙ so_far in
    done ∙ ap (λ text. text ++ after_first after) begun
    ∙ append_assoc before (escaped_first b) (after_first after) ∙ ap (λ v. before ++ value_text v) (sym whole)

-- ---- parts: the last one first

pub none_pushed : (old : List ℕ) (parts : List NamePart) → length parts ≡ 0 → old ≡ old ++ parts_text (all_seen parts)
unfolding parts_text
none_pushed old [] none = sym (append-nil old)
none_pushed old (part ∷ parts) none = absurd (omega arith)

pub single_pushed : (old new : List ℕ) (part : NamePart) (others parts : List NamePart) → parts ≡ part ∷ others
    → length others ≡ 0 → new ≡ old ++ part_text (seen part) → new ≡ old ++ parts_text (all_seen parts)
unfolding parts_text
single_pushed old new part [] parts whole none pushed = pushed ∙ ap (λ ps. old ++ parts_text (all_seen ps)) (sym whole)
single_pushed old new part (next ∷ others) parts whole none pushed = absurd (omega arith)

pub parts_pushed : (old after comma new : List ℕ) (part : NamePart) (others parts : List NamePart)
    → parts ≡ part ∷ others → others ≢ [] → after ≡ old ++ parts_text (all_seen others)
    → comma ≡ after ++ 44 ∷ [] → new ≡ comma ++ part_text (seen part) → new ≡ old ++ parts_text (all_seen parts)
unfolding parts_text
parts_pushed old after comma new part [] parts whole some pushed apart first = absurd (some refl)
parts_pushed old after comma new part (next ∷ others) parts whole some pushed apart first =
    first ∙ ap (λ text. text ++ part_text (seen part)) apart ∙ append_assoc after (44 ∷ []) (part_text (seen part))
    ∙ ap (λ text. text ++ 44 ∷ part_text (seen part)) pushed
    ∙ append_assoc old (parts_text (all_seen (next ∷ others))) (44 ∷ part_text (seen part))
    ∙ ap (λ ps. old ++ parts_text (all_seen ps)) (sym whole)

-- ---- whether it is a text

pub utf8_some : (bytes : List ℕ) → IsUtf8 bytes → text_in bytes ≡ Some bytes
utf8_some bytes is = cond-true (is_utf8 bytes) _ _ (is_text bytes is)

pub utf8_none : (bytes : List ℕ) → ¬ (IsUtf8 bytes) → text_in bytes ≡ None
utf8_none bytes isnt = cond-false (is_utf8 bytes) _ _ (is_no_text bytes isnt)
