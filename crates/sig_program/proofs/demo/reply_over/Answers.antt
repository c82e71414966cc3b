-- The three lines.
use Rattle.std.proofs.Common.{◌∙◌, ap, sym}
use Rattle.hex.specs.Hex.{encode_lower}
use Rattle.sig_program.proofs.DemoLines.{reply_made}
use Rattle.sig_program.proofs.DemoLinks.{root_of_log}
use Rattle.sig_program.proofs.demo.reply_over.Goals as goal

pub returns : goal.returns
returns c =
    reply_made c.args.count c.as_str-2.result.now c.first_line-line.result.now c.in_ok-text.text c.in_ok-logged.logged
    c.requires.most
    (c.as_str-2.ensures.value ∙ c.in_ok-root.ensures
    ∙ ap encode_lower (c.as_slice.ensures ∙ root_of_log c.args.log.now c.args.count c.requires.log))
    c.in_ok-logged.ensures
    (λ first rest is whole. c.first_line-line.ensures first rest is (c.as_str.ensures ∙ whole)) c.in_ok-text.ensures
