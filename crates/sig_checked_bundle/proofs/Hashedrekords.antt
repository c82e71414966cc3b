-- The tree of a log's entry, compared with the one that it has to be.
use Rattle.std.proofs.Common.{◌≡◌, Bool, Result, Ok, ap, sym, ◌∙◌}
use Rattle.std.specs.Prelude.{◌↔◌, IsTrue}
use Rattle.sig_base.proofs.ResultSteps.{ok_is}
use Rattle.sig_json.specs.Data.{Data}
use Rattle.sig_json.specs.declared.error.DocumentError.{DocumentError}

pub tree-compared : (read : Result Data DocumentError) (document entry wanted : Data) (equal : Bool)
    → read ≡ Ok document → (IsTrue equal ↔ (document ≡ entry)) → entry ≡ wanted
    → IsTrue equal ↔ (read ≡ Ok wanted)
tree-compared read document entry wanted equal is tells same = (
  λ yes. is ∙ ap Ok (tells.0 yes ∙ same),
  λ whole. tells.1 (ok_is document wanted (sym is ∙ whole) ∙ sym same),
)
