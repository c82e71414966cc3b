-- The trusted root was read of its text.
use Rattle.sig_explain_gate.proofs.ReadNames.{read-under}
use Rattle.sig_manifest.specs.Manifest.{manifest_view}
use Rattle.sig_explain_gate.proofs.artifact.find_bundles.Goals as goal

pub find_each-requires-clause-read : goal.find_each-requires-clause-read
find_each-requires-clause-read c =
    read-under (manifest_view c.args.request.now.manifest) c.read_named.new.roots c.as_str-name.result.now
    c.in-Some-get.text.now c.as_bytes.result.now c.in-Some.root.now c.in_ok-read_named.ensures.read
    c.in-Some.ensures.value c.in-Some-get.ensures.value c.as_bytes.ensures.value
