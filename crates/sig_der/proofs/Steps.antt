-- Steps of a reader that did not fail, and answers that are the same.
use Rattle.std.proofs.Common.{◌≡◌, Result, Ok, Err, refl, sym, ◌∙◌}
use Rattle.sig_base.specs.declared.fault.DerError.{DerError}
use Rattle.sig_der.specs.Reading.{Gives}

-- ---- what a call answered, and what it equals

pub gives_err : {X Y : Type 0} (view : X → Y) (r : Result X DerError) (read : Result Y DerError) (d : DerError)
    → Gives view r read → r ≡ Err d → read ≡ Err d
gives_err view (Ok x) read d g e = absurd cc
gives_err view (Err f) read d g e = let same : f ≡ d = cc in rw (← same) g

pub err_given : {X Y : Type 0} (view : X → Y) (r : Result X DerError) (read : Result Y DerError) (d : DerError)
    → Gives view r read → read ≡ Err d → r ≡ Err d
err_given view (Ok x) read d g e = absurd (let no = sym g ∙ e in cc)
err_given view (Err f) read d g e = let both = sym g ∙ e in let same : f ≡ d = cc in rw same refl
