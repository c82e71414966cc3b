use Rattle.sig_x509.proofs.CycleLaws.{same_issuer, twice, without}
use Rattle.sig_x509.proofs.laws.cycle_laws.Goals as goal

pub returns-clause-twice : goal.returns-clause-twice
returns-clause-twice c = twice

pub returns-clause-path : goal.returns-clause-path
returns-clause-path c = without

pub returns-clause-issuer : goal.returns-clause-issuer
returns-clause-issuer c = same_issuer
