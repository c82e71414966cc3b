-- The date is this number of days after the first.
use Rattle.std.proofs.Common.{◌/◌}
use Rattle.sig_shown.proofs.UtcTexts.{counted}
use Rattle.sig_shown.proofs.utc.moment_after.Goals as goal

pub returns-clause-day : goal.returns-clause-day
returns-clause-day c =
    counted c.from_days_since_min.result (c.args.since / 86400) c.from_days_since_min.ensures
