use Rattle.sig_audit_command.proofs.second_line.line_of.Goals as goal

pub returns : goal.returns
returns c = c.listing_text-line.ensures c.args.entries.now c.args.watched.now c.in_ok-listing.ensures
