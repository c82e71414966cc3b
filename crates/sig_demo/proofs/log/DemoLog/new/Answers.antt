-- The log has the entries, the root and the path that are defined.
use Rattle.std.proofs.Common.{refl}
use Rattle.sig_demo.proofs.Logs.{log_made}
use Rattle.sig_demo.proofs.log.DemoLog.new.Goals as goal

pub returns : goal.returns
returns c =
    log_made c.args.count _ _ c.in_ok-entries.entries c.in_ok-path.path c.root_of-root.result c.in_ok-entries.ensures
    c.len.ensures c.root_of-root.ensures refl c.in_ok-path.ensures
