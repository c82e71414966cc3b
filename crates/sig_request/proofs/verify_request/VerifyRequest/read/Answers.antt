-- Members of other names are not asked for.
use Rattle.sig_json.proofs.NamedMembers.{member_of-only}
use Rattle.sig_json.specs.Member.{required, optional_or}
use Rattle.sig_request.specs.VerifyRequest.{verify_members}
use Rattle.sig_request.proofs.verify_request.VerifyRequest.read.Goals as goal

pub request_from_text-requires : goal.request_from_text-requires
unfolding verify_members required optional_or
request_from_text-requires c accepted tree = simp member_of-only
