use Rattle.format7.specs.Rows.{result_at}
use Rattle.format7.proofs.byte_result.Goals as goal

pub returns : goal.returns
unfolding result_at
returns c = rw (c.unary_at.ensures, c.in_register.ensures) at c.unary.ensures
