use Rattle.sig_der.proofs.ChildElements.{children_joined}
use Rattle.sig_der.proofs.walk.children.Goals as goal

pub returns-clause-elements : goal.returns-clause-elements
returns-clause-elements c = λ ps are. children_joined c.args.content.now ps are
