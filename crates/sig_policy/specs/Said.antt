-- What a certificate says to the policies of a request, each extension read once.
use Rattle.std.specs.Prelude.{ℕ, List, Option, option_map, map}
use Rattle.sig_certificate.specs.Certificate.{Cert}
use Rattle.sig_der.specs.ObjectIdentifiers.{fulcio}
use Rattle.sig_policy.specs.Single.{extension_text}
use Rattle.sig_policy.specs.Identities.{identities}
use Rattle.sig_policy.specs.declared.said.Said.{Said}

-- The text of each of Fulcio's extensions, and the identities that the subject alternative name gives, as far as
-- they are there.
pub record Values : Type 0 where
  pub issuer : Option (List ℕ)
  pub trigger : Option (List ℕ)
  pub sha : Option (List ℕ)
  pub name : Option (List ℕ)
  pub repository : Option (List ℕ)
  pub git_ref : Option (List ℕ)
  pub identities : Option (List (List ℕ))

abbrev pub extension_values_of : Cert → Values
extension_values_of c =
    record {
      issuer = extension_text (fulcio 1) c;
      trigger = extension_text (fulcio 2) c;
      sha = extension_text (fulcio 3) c;
      name = extension_text (fulcio 4) c;
      repository = extension_text (fulcio 5) c;
      git_ref = extension_text (fulcio 6) c;
      identities = identities c;
    }

-- the values that were borrowed
abbrev pub said_values : Said → Values
said_values s =
    record {
      issuer = option_map (λ t. t.now) s.issuer;
      trigger = option_map (λ t. t.now) s.trigger;
      sha = option_map (λ t. t.now) s.sha;
      name = option_map (λ t. t.now) s.name;
      repository = option_map (λ t. t.now) s.repository;
      git_ref = option_map (λ t. t.now) s.git_ref;
      identities = option_map (λ v. map (λ t. t.now) v.items) s.identities.texts;
    }
