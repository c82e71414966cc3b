-- The texts of replies.
use Rattle.std.specs.Prelude.{◌≡◌, ◌⊎◌, ℕ, List, ◌++◌, codes, decimal}
use Rattle.sig_base.specs.declared.checker.AcceptedRow.{AcceptedRow}
use Rattle.sig_reply.specs.RowsText.{FitsBeside, IsReadBack, rows_text}
use Rattle.sig_reply.specs.declared.reply.Reply.{Reply}

-- the reply where a link of this name is the first that fails
abbrev pub refusal : ℕ → List ℕ → Reply
refusal status name = record { status = status; text = codes "refused " ++ (name ++ codes "\n") }

-- the reply where a link of this name is the first that fails, of the thing at this index
abbrev pub refusal_at : List ℕ → ℕ → Reply
refusal_at name place = record {
  status = 1;
  text = codes "refused " ++ (name ++ (codes " " ++ (decimal place ++ codes "\n")));
}

-- the reply where the text is not a request, or has no room beside it for the list that it asks for
abbrev pub no_request : Reply
no_request = refusal 2 (codes "request")

-- the reply of `questions`: the document of the signatures that are asked for, and a newline
abbrev pub listed : List ℕ → Reply
listed document = record { status = 0; text = document ++ codes "\n" }

-- for private clauses: the reply to a request of this text, which asks for these signatures: their document, which is
-- read back as them, if and only if it fits beside the text
abbrev pub IsListingOf : List ℕ → List AcceptedRow → Reply → Type 0
IsListingOf text rows reply =
    (FitsBeside text rows × IsReadBack rows × (reply ≡ listed (rows_text rows)))
    ⊎ ((¬ FitsBeside text rows) × (reply ≡ no_request))
