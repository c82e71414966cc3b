use Rattle.std.proofs.Common.{rules}
use Rattle.sig_certificate.specs.ExtensionsLeft.{extensions_left}
use Rattle.sig_certificate.specs.Lookups.{borrowed_extension}
use Rattle.sig_x509.specs.Issuance.{is_understood}
use Rattle.sig_x509.proofs.IssuanceLaws.{all_ends, all_fails, all_passes}
use Rattle.sig_x509.proofs.issuance.are_understood.Goals as goal

pub returns-then-not-is_understood : goal.returns-then-not-is_understood
returns-then-not-is_understood c =
    all_fails is_understood (extensions_left c.loop-extension.extension-iterator) (extensions_left c.next.new.self)
    (borrowed_extension c.in-Some.extension) _ c.loop-extension.invariant.2 c.in-Some.ensures.steps (search rules)

pub loop-extension-preserved : goal.loop-extension-preserved
loop-extension-preserved c = (
  tt,
  tt,
  all_passes is_understood (extensions_left c.loop-extension.extension-iterator) (extensions_left c.next.new.self)
      (borrowed_extension c.in-Some.extension) _ c.loop-extension.invariant.2 c.in-Some.ensures.steps (search rules),
)

pub returns : goal.returns
returns c =
    all_ends is_understood (extensions_left c.loop-extension.extension-iterator) _ c.loop-extension.invariant.2
    c.in-None.ensures.steps.0
