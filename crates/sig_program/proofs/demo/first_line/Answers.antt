-- Where the text is cut.
use Rattle.std.proofs.Common.{lit<}
use Rattle.std.proofs.lemmas.Str.Pattern.{split_after}
use Rattle.sig_program.proofs.demo.first_line.Goals as goal

pub returns-in-Some : goal.returns-in-Some
returns-in-Some c = λ line rest is whole.
    (let cut = split_after 10 c.args.text.now line rest c.split_once.result c.split_once.ensures.cases (lit< tt) whole is in
    (rw c.in-Some.is at cut).0)

pub returns-in-None : goal.returns-in-None
returns-in-None c = λ line rest is whole.
    (let cut = split_after 10 c.args.text.now line rest c.split_once.result c.split_once.ensures.cases (lit< tt) whole is in
    absurd (rw c.in-None.is at cut))
