-- The engine is strict: it decodes what it encodes and nothing else.
use Rattle.std.proofs.Common.{refl, ap}
use Rattle.std.specs.Result.{result_ok}
use Rattle.base64.specs.GeneralPurpose.{decode_of}
use Rattle.base64.specs.Engines.{standard_no_pad}
use Rattle.base64.proofs.EngineFacts.{decode_of_iff}
use Rattle.sig_base.proofs.ResultSteps.{ok_from}
use Rattle.sig_token.specs.Unpadded.{unpadded_bytes, unpadded_text}
use Rattle.sig_token.proofs.laws.unpadded_texts.Goals as goal

pub returns : goal.returns
unfolding unpadded_bytes unpadded_text
returns c = λ text bytes text_bytes some_bytes.
    let iff = decode_of_iff standard_no_pad text bytes (refl, refl) text_bytes some_bytes in
    ((λ e. iff.0 (ok_from (decode_of standard_no_pad text) bytes e)), (λ e. ap result_ok (iff.1 e)))
