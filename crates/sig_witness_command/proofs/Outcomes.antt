-- The lines of the updates so far.
use Rattle.std.proofs.Common.{◌≡◌, ◌<◌, ◌≤◌, ◌+◌, ◌∙◌, ℕ, List, [], ◌∷◌, ◌++◌, length, take, get_or, ap, refl, sym}
use Rattle.std.proofs.lemmas.List.{append-nil, append_assoc, take_all, take_more}
use Rattle.sig_witness_command.specs.Outcome.{outcome_line, outcome_lines}
use Rattle.sig_witness_command.specs.declared.outcome.Outcome.{Outcome}

lines-after : (outcomes : List Outcome) (outcome : Outcome)
    → outcome_lines (outcomes ++ outcome ∷ []) ≡ outcome_lines outcomes ++ outcome_line outcome
lines-after [] outcome = append-nil (outcome_line outcome)
lines-after (first ∷ later) outcome =
    ap (λ rest. outcome_line first ++ rest) (lines-after later outcome)
    ∙ sym (append_assoc (outcome_line first) (outcome_lines later) (outcome_line outcome))

pub lines-none : (outcomes : List Outcome) → [] ≡ outcome_lines (take 0 outcomes)
lines-none outcomes = refl

pub lines-more : (outcomes : List Outcome) (place : ℕ) (default : Outcome) (old new : List ℕ) → place < length outcomes
    → old ≡ outcome_lines (take place outcomes) → new ≡ old ++ outcome_line (get_or outcomes place default)
    → new ≡ outcome_lines (take (place + 1) outcomes)
lines-more outcomes place default old new below so_far pushed =
    pushed ∙ ap (λ text. text ++ outcome_line (get_or outcomes place default)) so_far
    ∙ sym (lines-after (take place outcomes) (get_or outcomes place default))
    ∙ sym (ap outcome_lines (take_more outcomes place default below))

pub lines-done : (outcomes : List Outcome) (place : ℕ) (text : List ℕ) → length outcomes ≤ place
    → text ≡ outcome_lines (take place outcomes) → text ≡ outcome_lines outcomes
lines-done outcomes place text all so_far = so_far ∙ ap outcome_lines (take_all place outcomes all)

pub ruleset lines_written = (lines-none, lines-more, lines-done)
