-- The line by what the list is.
use Rattle.sig_audit_command.proofs.Lines.{collided-list, other-list, prefixes-list}
use Rattle.sig_audit_command.proofs.second_line.listing_text.Goals as goal

pub returns-in-Other : goal.returns-in-Other
returns-in-Other c = λ entries watched is.
    other-list entries c.args.heads.now watched c.other_text.result (rw c.in-Other.is at is) c.other_text.ensures

pub returns-in-Listed : goal.returns-in-Listed
returns-in-Listed c = λ entries watched is.
    prefixes-list entries c.args.heads.now watched c.prefixes_text.result (rw c.in-Listed.is at is)
    (rw c.len.ensures at c.prefixes_text.ensures)

pub returns-in-Collided : goal.returns-in-Collided
returns-in-Collided c = λ entries watched is.
    collided-list entries c.args.heads.now watched c.collision_text.result c.in-Collided.found
    (rw c.in-Collided.is at is) c.collision_text.ensures
