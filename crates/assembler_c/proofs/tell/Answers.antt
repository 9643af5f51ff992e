use Rattle.std.proofs.Common.{refl}
use Rattle.assembler_c.proofs.Laws.{tell-whole, tell-at}
use Rattle.assembler_c.proofs.tell.Goals as goal

pub returns-in-Ok : goal.returns-in-Ok
returns-in-Ok c = λ out. rw (c.in-Ok.is, c.put.ensures) refl

pub returns-in-Err-Whole : goal.returns-in-Err-Whole
returns-in-Err-Whole c = λ out. tell-whole _ _ _ c.in-Err-Whole.is (rw c.in-Err-Whole.is at c.in-Err-Whole.field-0-is) _ c.from.ensures c.args.answer.now out

pub returns-in-Err-At : goal.returns-in-Err-At
returns-in-Err-At c = λ out. tell-at _ _ _ _ c.in-Err-At.is (rw c.in-Err-At.is at c.in-Err-At.field-0-is) _ c.from-in-Err-At.ensures c.args.answer.now _ c.put-in-Err-At.ensures out
