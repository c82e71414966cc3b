use Rattle.sig_bundle.proofs.PromiseLaws.{promise_text-found, promise_text-wide}
use Rattle.sig_bundle.proofs.promise.promise_text.Goals as goal

pub returns-clause-text : goal.returns-clause-text
returns-clause-text c =
    promise_text-found c.args.entry.now c.write_promise.result c.are_owned_bytes.ensures c.are_optional_bytes.ensures
    c.write_promise.ensures

pub returns-clause-too_large : goal.returns-clause-too_large
returns-clause-too_large c =
    promise_text-wide c.args.entry.now c.write_promise.result c.are_owned_bytes.ensures c.are_optional_bytes.ensures
    c.write_promise.ensures
