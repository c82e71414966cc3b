-- Members of other names are not asked for.
use Rattle.sig_json.proofs.NamedMembers.{member_of-only}
use Rattle.sig_json.specs.Member.{required, optional_or}
use Rattle.sig_request.specs.HeadMembers.{head_of}
use Rattle.sig_request.specs.Request.{log_members}
use Rattle.sig_request.proofs.request.LogRequest.read.Goals as goal

pub request_from_text-requires : goal.request_from_text-requires
unfolding log_members head_of required optional_or
request_from_text-requires c accepted tree = simp member_of-only
