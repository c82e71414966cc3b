mod RuleRefusals
