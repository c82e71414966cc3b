-- A kept head of the size and the root of a list.
use Rattle.std.proofs.Common.{◌≡◌, ℕ, List, length, Option, Some, None, option_map, refl, sym, ap, ◌∙◌}
use Rattle.sig_audit.specs.Fronts.{EndsInList}
use Rattle.sig_audit.specs.declared.chain.ChainHead.{ChainHead}
use Rattle.sig_base.proofs.OptionSteps.{some_is}
use Rattle.sig_merkle.specs.Root.{root}
use Rattle.sig_witness.specs.KeptLogs.{last_of, size_and_root}

pub ends-in : (entries : List (List ℕ)) (chain : List ChainHead) (size : ℕ) (hash : List ℕ)
    → ◌≡◌ {A = Option (ℕ × List ℕ)} (Some (size, hash)) (option_map size_and_root (last_of chain))
    → size ≡ length entries → hash ≡ root entries → EndsInList entries chain
ends-in entries chain size hash is sized rooted = by (last_of chain) refl where
  by : (last : Option ChainHead) → last_of chain ≡ last → EndsInList entries chain
  by None none =
      absurd (let both : ◌≡◌ {A = Option (ℕ × List ℕ)} (Some (size, hash)) None =
      is ∙ ap (option_map size_and_root) none in cc)
  by (Some last) some =
      let pair : ◌≡◌ {A = ℕ × List ℕ} (size, hash) (last.size, last.hash) =
      some_is _ _ (is ∙ ap (option_map size_and_root) some) in (
        last,
        some,
        (
          sym (ap (λ (p : ℕ × List ℕ). p.0) pair) ∙ sized,
          sym (ap (λ (p : ℕ × List ℕ). p.1) pair) ∙ rooted,
        ),
      )

pub ruleset ends_in = (ends-in)
