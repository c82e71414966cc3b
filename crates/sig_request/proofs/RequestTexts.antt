-- A text is one request, or there is a cause why it is none.
use Rattle.std.proofs.Common.{◌≡◌, ◌<◌, ◌≤◌, ℕ, List, codes, length, Option, Some, None, option_map, Ok, Err}
use Rattle.std.proofs.Common.{Result, ap, arith, refl, sym}
use Rattle.std.specs.Option.{ok_or}
use Rattle.sig_base.specs.OptionSteps.{◌>>=◌}
use Rattle.sig_base.specs.declared.checker.AcceptedRow.{AcceptedRow}
use Rattle.sig_json.proofs.Records.{record_in-tree, record_in-read}
use Rattle.sig_json.specs.Data.{Data}
use Rattle.sig_json.specs.Document.{document_of}
use Rattle.sig_json.specs.Member.{optional_list}
use Rattle.sig_json.specs.Only.{only}
use Rattle.sig_json.specs.Record.{members_and_list, record_in, record_of}
use Rattle.sig_json.specs.declared.error.DocumentError.{DocumentError}
use Rattle.sig_json.specs.declared.error.JsonError.{JsonError}
use Rattle.sig_json.specs.declared.error.JsonError.TheVariants.{Member}
use Rattle.sig_request.specs.Accepted.{AsksOnly, with_rows}
use Rattle.sig_request.specs.Limit.{most_bytes}
use Rattle.sig_request.specs.ReadFrom.{IsReadFrom, IsRequestOf}
use Rattle.sig_request.specs.Row.{row_of}

-- a text is one request
pub one_request : {R : Type 0} (meaning : Data → Option R) (text : List ℕ) (a b : R) → IsRequestOf meaning text a
    → IsRequestOf meaning text b → a ≡ b
one_request meaning text a b p q = let e = p.members in let f = q.members in cc

-- it is too long
pub unread-long : {R : Type 0} (meaning : Data → Option R) (text : List ℕ) → most_bytes < length text
    → IsReadFrom meaning text None
unread-long meaning text long request is = omega (arith, is.short, long)

-- it has no record
pub unread-record : {R : Type 0} (meaning : Data → Option R) (text : List ℕ) (fault : JsonError)
    → record_in meaning text ≡ Err fault → IsReadFrom meaning text None
unread-record meaning text fault none request is =
    let read : record_in meaning text ≡ Ok request =
    record_in-read meaning text is.tree request is.document is.members in
    cc

-- it is a request
pub read-request : {R : Type 0} (meaning : Data → Option R) (text : List ℕ) (request : R) → length text ≤ most_bytes
    → record_in meaning text ≡ Ok request → IsReadFrom meaning text (Some request)
read-request meaning text request short read =
    let is = record_in-tree meaning text request read in
    record { tree = is.0; short = short; document = is.1; members = is.2 }

pub ruleset texts = (unread-long, unread-record, read-request)

-- ---- the parts of a text: its other members, and the rows of `accepted`

module _ {R : Type 0} (meaning : List AcceptedRow → Data → Option R) (names : List (List ℕ)) where
  abbrev parts_of : Data → Option (Data × List AcceptedRow)
  parts_of = members_and_list names (codes "accepted") row_of

  -- what they mean
  abbrev pub meant : Result (Data × List AcceptedRow) JsonError → Result R JsonError
  meant (Ok (members, rows)) = ok_or (meaning rows members) Member
  meant (Err cause) = Err cause

  pub parts-meant : AsksOnly names meaning → (text : List ℕ)
      → record_in (with_rows meaning) text ≡ meant (record_in parts_of text)
  unfolding record_in with_rows
  parts-meant asks text = by_document (document_of text) where
    by_rows : (tree : Data) (found : Option (List AcceptedRow))
        → ok_or (found >>= λ rows. meaning rows tree) Member
        ≡ meant (ok_or (option_map (λ rows. (only names tree, rows)) found) Member)
    by_rows tree None = refl
    by_rows tree (Some rows) = ap (λ found. ok_or found Member) (sym (asks rows tree))

    by_document : (document : Result Data DocumentError)
        → record_of (with_rows meaning) document ≡ meant (record_of parts_of document)
    by_document (Err cause) = refl
    by_document (Ok tree) = by_rows tree (optional_list row_of (codes "accepted") tree)
