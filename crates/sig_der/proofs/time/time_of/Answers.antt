use Rattle.std.proofs.Common.{ap, ◌∙◌, inl, inr, arith}
use Rattle.std.specs.Option.{ok_or}
use Rattle.sig_base.specs.declared.fault.DerError.TheVariants.{Value}
use Rattle.sig_der.proofs.time.time_of.Goals as goal

pub returns-in-23-clause-only : goal.returns-in-23-clause-only
returns-in-23-clause-only c = λ s is.
    elim is [
      | inl utc ↦ c.ok_or.ensures.value ∙ ap (λ o. ok_or o Value) (c.utc_second.ensures.only s utc.1)
      | inr other ↦ absurd (let tag = c.in-23.is in omega (arith, other.0))
    ]

pub returns-in-24-clause-only : goal.returns-in-24-clause-only
returns-in-24-clause-only c = λ s is.
    elim is [
      | inl other ↦ absurd (let tag = c.in-24.is in omega (arith, other.0))
      | inr generalized ↦
          c.ok_or-in-24.ensures.value ∙ ap (λ o. ok_or o Value) (c.generalized_second.ensures.only s generalized.1)
    ]
