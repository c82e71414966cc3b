-- The trusted root was read beside the others.
use Rattle.std.proofs.Common.{ℕ, List, subst, sym}
use Rattle.sig_explain_gate.proofs.ReadNames.{put-read, read-put}
use Rattle.sig_explain_gate.specs.Roots.{AreRead}
use Rattle.sig_explain_gate.specs.declared.roots.ReadRoot.{ReadRoot}
use Rattle.sig_manifest.specs.Manifest.{manifest_view}
use Rattle.sig_explain_gate.proofs.roots.read_named.Goals as goal

pub returns-clause-read : goal.returns-clause-read
returns-clause-read c =
    let gate = manifest_view c.args.manifest.now in
    subst (λ (roots : List (List ℕ × ReadRoot)). AreRead gate roots) (sym c.in_ok-insert.ensures.ok)
    (read-put gate c.args.roots.now c.args.name.now c.in_ok-root.root c.requires.read c.in_ok-root.ensures)

pub returns-clause-there : goal.returns-clause-there
returns-clause-there c =
    put-read c.args.name.now c.in_ok-root.root c.args.roots.now c.insert.new.self c.in_ok-insert.ensures.ok
