-- An update that fails.
use Rattle.sig_witness.specs.Updates.{update_of}
use Rattle.sig_witness_command.proofs.Refusals.{refused-update}
use Rattle.sig_witness_command.specs.Walk.{takes}
use Rattle.sig_witness_command.proofs.updating.update_by.Goals as goal

pub returns-in-Err : goal.returns-in-Err
returns-in-Err c =
    refused-update (takes c.args.accepted.now) c.args.witness.now c.args.text.now
    (update_of c.args.checkpoint.now c.args.text.now.old_size c.as_slice.result.now)
    (record { read = c.requires.read; old_size = c.requires.old_size; hashes = c.as_slice.ensures }) c.in-Err.error
    c.update.new.self c.refused.result c.in-Err.ensures.found c.in-Err.ensures.step c.refused.ensures
