-- The policy holds by the texts that its rules ask for.
use Rattle.std.proofs.Common.{subst, ◌∙◌}
use Rattle.sig_policy.proofs.AskedLaws.{all_asked, any_asked}
use Rattle.sig_policy.specs.AskedTexts.{AreAskedBy, rules_of}
use Rattle.sig_policy.specs.Said.{said_values}
use Rattle.sig_policy.specs.declared.request.RequestPolicy.{RequestPolicy}
use Rattle.sig_policy.proofs.held_policy.HeldPolicy.holds_of.Goals as goal

pub returns-in-All : goal.returns-in-All
returns-in-All c =
    rw (← c.self.view_is, c.in-All.is)
    (c.all_hold.ensures
    ∙ all_asked c.self.inside.asked c.in-All.field-0
    (subst (λ (p : RequestPolicy). AreAskedBy (rules_of p) c.self.inside.asked) c.in-All.is c.self.invariant)
    (said_values c.in_ok-said.said) c.args.cert.now c.in_ok-said.ensures)

pub returns : goal.returns
returns c =
    rw (← c.self.view_is, c.in-Any.is)
    (c.one_holds.ensures
    ∙ any_asked c.self.inside.asked c.in-Any.field-0
    (subst (λ (p : RequestPolicy). AreAskedBy (rules_of p) c.self.inside.asked) c.in-Any.is c.self.invariant)
    (said_values c.in_ok-said.said) c.args.cert.now c.in_ok-said.ensures)
