-- For private clauses: what is seen of values of the code.
use Rattle.std.specs.Prelude.{Result, Ok, Err}
use Rattle.std.specs.Borrow.{Bor}

-- what is borrowed, or why it is not
abbrev pub borrowed_now : {A E : Type 0} → Result (Bor A) E → Result A E
borrowed_now (Ok borrowed) = Ok borrowed.now
borrowed_now (Err e) = Err e
