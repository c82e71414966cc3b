use Rattle.sig_policy.proofs.RefusalLaws.{one_refusal, never_memory}
use Rattle.sig_policy.proofs.laws.refusal_laws.Goals as goal

pub returns-clause-one : goal.returns-clause-one
returns-clause-one c = one_refusal

pub returns-clause-memory : goal.returns-clause-memory
returns-clause-memory c = never_memory
