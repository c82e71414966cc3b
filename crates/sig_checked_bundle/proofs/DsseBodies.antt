-- The bodies of log entries: the first of a list, and parts compared one by one.
use Rattle.std.proofs.Common.{◌≡◌, Some, None, Result, Ok, Err}
use Rattle.std.proofs.Common.{refl, sym, ap}
use Rattle.std.specs.Result.{result_ok}
use Rattle.sig_json.specs.Find.{at}
use Rattle.sig_json.specs.Data.{Data, null, boolean, number, string, array, object, no_items, item}
use Rattle.sig_json.specs.declared.error.JsonError.{JsonError}
use Rattle.sig_checked_bundle.specs.DsseBody.{body_signature_of, first_signature_of}

-- ---- the first element

pub first-there : (d first : Data) → Some first ≡ at 0 d → first_signature_of d ≡ body_signature_of first
unfolding first_signature_of
first-there null first here = absurd cc
first-there (boolean b) first here = absurd cc
first-there (number n) first here = absurd cc
first-there (string s) first here = absurd cc
first-there (array no_items) first here = absurd cc
first-there (array (item d ds)) first here = let same : d ≡ first = cc in ap body_signature_of same
first-there (object ms) first here = absurd cc

pub first-absent : (d : Data) → None ≡ at 0 d → first_signature_of d ≡ None
unfolding first_signature_of
first-absent null here = refl
first-absent (boolean b) here = refl
first-absent (number n) here = refl
first-absent (string s) here = refl
first-absent (array no_items) here = refl
first-absent (array (item d ds)) here = absurd cc
first-absent (object ms) here = refl

pub ruleset firsts = (first-there, first-absent)

-- ---- what was read, compared

pub body-none : {A : Type 0} → (read : Result A JsonError) (x : A) → None ≡ result_ok read → read ≡ Ok x → ⊥
body-none (Ok y) x none is = cc
body-none (Err e) x none is = cc

pub body-some : {A : Type 0} → (read : Result A JsonError) (found : A) → Some found ≡ result_ok read → read ≡ Ok found
body-some (Ok y) found is = let same : found ≡ y = cc in ap Ok (sym same)
body-some (Err e) found is = absurd cc

pub ruleset bodies = (body-none, body-some)
