-- A refusal as an object: the link that fails, the cause, and what the error keeps.
use Rattle.std.specs.Prelude.{List, ◌∷◌, codes, option_map}
use Rattle.sig_json.specs.Writing.{TreeMember}
use Rattle.sig_json.specs.Data.{string}
use Rattle.sig_verify.specs.Link.{link_name}
use Rattle.sig_verify.specs.OfflineErrors.{link_of}
use Rattle.sig_verify.specs.declared.offline_error.OfflineError.{OfflineError}
use Rattle.sig_explanation.specs.Cause.{cause}
use Rattle.sig_explanation.specs.KeptRows.{kept_rows}
use Rattle.sig_shown.specs.ShownValues.{texts_row}

-- out of memory is not a link
abbrev pub link_row : OfflineError → TreeMember
link_row error = (codes "link", option_map (λ link. string (link_name link)) (link_of error))

abbrev pub refusal_rows : OfflineError → List TreeMember
refusal_rows error = link_row error ∷ texts_row (codes "cause") (cause error) ∷ kept_rows error
