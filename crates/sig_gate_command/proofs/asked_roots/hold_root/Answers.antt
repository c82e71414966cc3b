-- The trusted root is held beside the others.
use Rattle.std.proofs.Common.{ℕ, List, subst, sym}
use Rattle.sig_gate_command.proofs.AskedNames.{asked-put, put-asked}
use Rattle.sig_gate_command.specs.AskedRoots.{AreAsked}
use Rattle.sig_gate_command.specs.declared.asked_roots.NamedRoot.{NamedRoot}
use Rattle.sig_manifest.specs.Manifest.{manifest_view}
use Rattle.sig_gate_command.proofs.asked_roots.hold_root.Goals as goal

pub returns-clause-held : goal.returns-clause-held
returns-clause-held c =
    let gate = manifest_view c.args.manifest.now in
    subst (λ (held : List (List ℕ × NamedRoot)). AreAsked gate held) (sym c.in_ok-insert.ensures.ok)
    (asked-put gate c.args.held.now c.args.name.now c.in_ok-root.root c.requires.held c.in_ok-root.ensures)

pub returns-clause-there : goal.returns-clause-there
returns-clause-there c =
    put-asked c.args.name.now c.in_ok-root.root c.args.held.now c.insert.new.self c.in_ok-insert.ensures.ok
