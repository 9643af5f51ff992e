use Rattle.assembler.proofs.Origins.{line-is}
use Rattle.assembler.proofs.source.line_at.Goals as goal

pub returns : goal.returns
returns c = line-is _ _
