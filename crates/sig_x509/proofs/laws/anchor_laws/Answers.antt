use Rattle.sig_x509.proofs.DirectPaths.{alone, first_alone, none_alone}
use Rattle.sig_x509.proofs.laws.anchor_laws.Goals as goal

pub returns-clause-path : goal.returns-clause-path
returns-clause-path c accepts pool leaf t issuer none = alone accepts pool leaf t none issuer

pub returns-clause-first : goal.returns-clause-first
returns-clause-first c accepts pool leaf t issuer none = first_alone accepts pool leaf t none issuer

pub returns-clause-none : goal.returns-clause-none
returns-clause-none c = none_alone
