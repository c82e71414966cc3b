-- The request of `verify`: what its members mean.
use Rattle.std.specs.Prelude.{List, codes, Option, Some}
use Rattle.sig_base.specs.OptionSteps.{◌>>=◌}
use Rattle.sig_base.specs.declared.checker.AcceptedRow.{AcceptedRow}
use Rattle.sig_json.specs.Data.{Data}
use Rattle.sig_json.specs.Member.{optional, required, required_i64, required_text}
use Rattle.sig_request.specs.Accepted.{with_rows}
use Rattle.sig_request.specs.DigestText.{digest_kind}
use Rattle.sig_request.specs.Policy.{request_policy_of}
use Rattle.sig_request.specs.Row.{entries_of}
use Rattle.sig_request.specs.declared.verify_request.VerifyRequest.{VerifyRequest}

-- the members of a request beside its rows of `accepted`
unfoldable pub verify_members : List AcceptedRow → Data → Option VerifyRequest
verify_members accepted d = do
  trusted_root ← required_text (codes "trustedRoot") d
  bundle ← required_text (codes "bundle") d
  now ← required_i64 (codes "now") d
  digest ← required digest_kind (codes "digest") d
  policy ← required request_policy_of (codes "policy") d
  entries ← optional entries_of (codes "entries") d
  Some (record {
    trusted_root = trusted_root;
    bundle = bundle;
    now = now;
    digest = digest;
    policy = policy;
    accepted = accepted;
    entries = entries;
  })

-- what a request means
abbrev pub verify_request : Data → Option VerifyRequest
verify_request = with_rows verify_members
