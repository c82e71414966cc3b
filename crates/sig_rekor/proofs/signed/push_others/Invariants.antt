use Rattle.std.proofs.Common.{◌≡◌, ◌++◌, take, string_bytes}
use Rattle.std.specs.List.{flat_map, AllByRecursion}
use Rattle.sig_rekor.specs.NoteText.{newline}
use Rattle.sig_rekor.specs.SignatureText.{signature_text}
use Rattle.sig_rekor.specs.ReadBack.{IsSignatureValue}
use Rattle.sig_rekor.proofs.signed.push_others.Given as goal

-- the signatures so far are written
abbrev pub invariant-loop-signature : goal.invariant-loop-signature
invariant-loop-signature l =
    (string_bytes l.text ≡ string_bytes l.fn.text ++ flat_map (λ s. newline ++ signature_text s)
    (take l.signature-index l.signatures)) × AllByRecursion IsSignatureValue (take l.signature-index l.signatures)
