-- One more extension, and its DER if it is kept.
use Rattle.sig_certificate.specs.ExtensionsLeft.{extensions_left}
use Rattle.sig_certificate.specs.Lookups.{borrowed_extension}
use Rattle.sig_timestamp.proofs.PrecertLaws.{kept_ends, kept_passes}
use Rattle.sig_timestamp.proofs.precert.kept_extensions.Goals as goal

pub loop-extension-preserved : goal.loop-extension-preserved
loop-extension-preserved c = (
  tt,
  tt,
  kept_passes _ c.loop-extension.kept.items _ (extensions_left c.loop-extension.extension-iterator)
      (extensions_left c.next.new.self) (borrowed_extension c.in-Some.extension) c.loop-extension.invariant.2
      c.in-Some.ensures.steps c.in_ok-push_kept.ensures,
)

pub returns : goal.returns
returns c =
    kept_ends _ c.loop-extension.kept.items (extensions_left c.loop-extension.extension-iterator)
    c.loop-extension.invariant.2 c.in-None.ensures.steps.0
