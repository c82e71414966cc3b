-- The rows, from the last place down.
use Rattle.std.proofs.Common.{◌≡◌, ℕ, suc, ◌-◌, ◌<◌, ◌≤◌, Bool, false, List, map, ap, ◌∙◌, arith}
use Rattle.sig_x509.specs.Rows.{row_of, rows}
use Rattle.sig_x509.specs.declared.links.Link.{Link}

pub row_at_end : (others : ℕ) (links : List Link) (row : List Bool) → row ≡ map (λ link. false) links
    → row ≡ rows links 0 others
unfolding rows
row_at_end others links row is = is

pub row_next : (others : ℕ) (links : List Link) (row next : List Bool) → 0 < others → others ≤ 6
    → row ≡ rows links (6 - others) others → next ≡ row_of (others - 1) row links
    → next ≡ rows links (6 - (others - 1)) (others - 1)
unfolding rows
row_next others links row next some within is made =
    let left : suc (6 - others) ≡ 6 - (others - 1) = omega (arith, some, within) in
    let up : others ≡ suc (others - 1) = omega (arith, some) in
    made
    ∙ ap (λ (bs : List Bool). row_of (others - 1) bs links)
    (is ∙ ap (λ (k : ℕ). rows links (6 - others) k) up)
    ∙ ap (λ (k : ℕ). rows links k (others - 1)) left

pub ruleset row_steps = (row_at_end, row_next)
