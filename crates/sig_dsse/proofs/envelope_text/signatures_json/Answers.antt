use Rattle.std.proofs.Common.{[], ◌∷◌, refl}
use Rattle.sig_json_text.proofs.CanonicalTexts.{join_by-texts_of}
use Rattle.sig_dsse.proofs.envelope_text.signatures_json.Goals as goal

pub returns : goal.returns
returns c =
    rw (
      c.in_ok-format.ensures.ok,
      c.in_ok-joined.ensures.ok,
      c.deref.ensures.value,
      join_by-texts_of
          (44 ∷ []) c.in_ok-texts.texts.items,
      c.in_ok-texts.ensures,
    ) refl
