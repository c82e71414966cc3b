-- The verdict on the links of a request: its own, those of its head, and one after them.
use Rattle.std.proofs.Common.{List, [], ◌∷◌, Some, None, inl, inr, refl}
use Rattle.sig_verify.specs.declared.link.Link.{Link}
use Rattle.sig_verify.specs.declared.link.Link.TheVariants.{Request, Checkpoint, NoteKey, NoteMatch}
use Rattle.sig_program.specs.Head.{head_links}
use Rattle.sig_program.specs.Verdict.{IsLinkVerdict}

module _ (Holds : Link → Type 0) (request : Holds Request) (last : Link) where
  abbrev pub links_to : List Link
  links_to = Request ∷ Checkpoint ∷ NoteKey ∷ NoteMatch ∷ last ∷ []

  pub head-fails : (link : Link) → IsLinkVerdict Holds head_links (Some link) → IsLinkVerdict Holds links_to (Some link)
  head-fails link (inl checkpoint) = inr (request, inl checkpoint)
  head-fails link (inr (read, inl note_key)) = inr (request, inr (read, inl note_key))
  head-fails link (inr (read, inr (signed, inl note_match))) =
      inr (request, inr (read, inr (signed, inl note_match)))
  head-fails link (inr (read, inr (signed, inr (matched, none)))) = absurd none

  pub last-fails : IsLinkVerdict Holds head_links None → ¬ Holds last → IsLinkVerdict Holds links_to (Some last)
  last-fails head fails = inr (request, inr (head.0, inr (head.1.0, inr (head.1.1.0, inl (fails, refl)))))

  pub all-hold : IsLinkVerdict Holds head_links None → Holds last → IsLinkVerdict Holds links_to None
  all-hold head holds = (request, (head.0, (head.1.0, (head.1.1.0, (holds, tt)))))
