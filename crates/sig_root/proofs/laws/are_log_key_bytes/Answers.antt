use Rattle.sig_root.proofs.KeyBytes.{further}
use Rattle.sig_root.proofs.laws.are_log_key_bytes.Goals as goal

pub instances-preserved : goal.instances-preserved
instances-preserved c rest =
    c.instances.invariant
    (further c.args.instances.now c.instances.instance-index c.instance-item.result c.instances-test.true
    c.instance-item.is
    c.is_raw_bytes.ensures rest)
