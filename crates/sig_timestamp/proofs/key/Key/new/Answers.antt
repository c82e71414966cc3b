-- What is read of a key is what the relations say of it.
use Rattle.std.proofs.Common.{ℕ, List, Result, arith, subst}
use Rattle.sig_base.specs.Answers.{Answers}
use Rattle.sig_timestamp.specs.RingKey.{RingKey}
use Rattle.sig_timestamp.specs.declared.keyring_error.KeyringError.{KeyringError}
use Rattle.sig_timestamp.specs.declared.keyring_error.KeyringError.TheVariants.{OutOfMemory}
use Rattle.sig_timestamp.proofs.KeyLaws.{point_of_known, point_of_none, found_key}
use Rattle.sig_timestamp.proofs.KeyFaults.{malformed_key, other_key}
use Rattle.sig_timestamp.proofs.key.Key.new.Goals as goal

pub returns-clause-found : goal.returns-clause-found
returns-clause-found c =
    found_key c.args.spki_bytes.now (λ i. omega (arith, c.type_inv.spki_bytes i)) c.read_key.result
    c.read_key.ensures.exact

pub returns-clause-info : goal.returns-clause-info
returns-clause-info c = λ k is text.
    subst (λ (w : Result (List ℕ) KeyringError). Answers OutOfMemory (λ (r : RingKey). r.point) c.read_key.result w)
    (point_of_known c.args.spki_bytes.now k is text) c.read_key.ensures.exact

pub returns-clause-none : goal.returns-clause-none
returns-clause-none c = λ none.
    subst (λ (w : Result (List ℕ) KeyringError). Answers OutOfMemory (λ (r : RingKey). r.point) c.read_key.result w)
    (point_of_none c.args.spki_bytes.now (λ i. omega (arith, c.type_inv.spki_bytes i)) none) c.read_key.ensures.exact

pub returns-clause-key_malformed : goal.returns-clause-key_malformed
returns-clause-key_malformed c =
    malformed_key c.args.spki_bytes.now (λ i. omega (arith, c.type_inv.spki_bytes i)) c.read_key.result
    c.read_key.ensures.exact

pub returns-clause-algo_unsupported : goal.returns-clause-algo_unsupported
returns-clause-algo_unsupported c =
    other_key c.args.spki_bytes.now (λ i. omega (arith, c.type_inv.spki_bytes i)) c.read_key.result
    c.read_key.ensures.exact
