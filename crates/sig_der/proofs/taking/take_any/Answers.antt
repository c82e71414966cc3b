use Rattle.std.proofs.Common.{refl}
use Rattle.sig_der.proofs.Takings.{take_any_ok}
use Rattle.sig_der.proofs.taking.take_any.Goals as goal

pub returns-in-Ok : goal.returns-in-Ok
returns-in-Ok c = take_any_ok _ _ _ c.in-Ok.ensures.exact refl
