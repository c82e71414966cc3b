-- The reply that lists signatures, by whether their document fits beside the text of the request.
use Rattle.std.proofs.Common.{◌≡◌, ◌≤◌, ◌∙◌, ℕ, inl, inr, List, length, Option, Result, IfOk, Some, None, ap, arith, subst}
use Rattle.std.proofs.lemmas.Result.{IfOk-weaker}
use Rattle.sig_base.specs.declared.checker.AcceptedRow.{AcceptedRow}
use Rattle.sig_base.specs.declared.memory.OutOfMemory.{OutOfMemory}
use Rattle.sig_reply.proofs.RowsTexts.{fits-beside, not-beside}
use Rattle.sig_reply.specs.Reply.{IsListingOf, listed, no_request}
use Rattle.sig_reply.specs.RowsText.{IsDocumentOf, room_beside, rows_text}
use Rattle.sig_reply.specs.declared.reply.Reply.{Reply}

module _ (text : List ℕ) (rows : List AcceptedRow) (most : ℕ) (r : Result Reply OutOfMemory)
    (room : most ≡ room_beside text) where
  pub listed-made : (document : List ℕ) (found : Option (List ℕ)) → found ≡ Some document
      → IsDocumentOf most rows found → IfOk r (λ reply. reply ≡ listed document) → IfOk r (IsListingOf text rows)
  listed-made document found which found_is made =
      let is : IsDocumentOf most rows (Some document) = subst (IsDocumentOf most rows) which found_is in
      let short : length (rows_text rows) ≤ room_beside text = omega (arith, is.1, ap length is.0, room) in
      IfOk-weaker r (λ reply. reply ≡ listed document) (IsListingOf text rows)
      (λ reply same. inl (fits-beside text rows short, is.2, same ∙ ap listed is.0)) made

  pub past-made : (found : Option (List ℕ)) → found ≡ None → IsDocumentOf most rows found
      → IfOk r (λ reply. reply ≡ no_request) → IfOk r (IsListingOf text rows)
  past-made found which found_is made =
      let long : IsDocumentOf most rows None = subst (IsDocumentOf most rows) which found_is in
      IfOk-weaker r (λ reply. reply ≡ no_request) (IsListingOf text rows)
      (λ reply same. inr (not-beside text rows (omega (arith, long, room)), same)) made
