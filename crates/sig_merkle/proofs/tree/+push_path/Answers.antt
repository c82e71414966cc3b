use Rattle.std.proofs.Common.{rules, sym}
use Rattle.std.proofs.lemmas.List.{append-nil}
use Rattle.sig_merkle.proofs.HalfSteps.{path-single}
use Rattle.sig_merkle.proofs.tree.+push_path.Goals as goal

pub returns-then-entries-eq1 : goal.returns-then-entries-eq1
returns-then-entries-eq1 t c =
    rw (path-single c.args.index c.args.entries.now c.requires (search rules)) (sym (append-nil c.args.path.now))
