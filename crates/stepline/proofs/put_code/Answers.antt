use native.Mathlib.Omega.{arith}
use mathlib.Core.Path.{refl, ap}
use Rattle.listing.specs.Calls.{listed_page}
use Rattle.stepline.proofs.Laws.{code_wrote, code-never, code-none}
use Rattle.stepline.proofs.put_code.Goals as goal

pub returns-then-not-code : goal.returns-then-not-code
returns-then-not-code c = let a = c.args in code-none a.map.now a.image.now a.text.now a.s a.code (rw c.if-not-code.true refl)

pub returns-in-Ok : goal.returns-in-Ok
returns-in-Ok c = let a = c.args in
    code_wrote a.map.now a.image.now a.text.now _ a.s c.list_line.result a.code (omega arith) c.requires.0 c.requires.1 c.list_line.ensures (rw c.if-not-code.false refl) _ _ (ap listed_page c.in-Ok.is) refl

pub returns-in-Err : goal.returns-in-Err
returns-in-Err c = let a = c.args in
    code-never a.map.now a.image.now a.text.now _ a.s c.list_line.result a.code (omega arith) c.requires.0 c.requires.1 c.list_line.ensures (rw c.if-not-code.false refl) _ (ap listed_page c.in-Err.is)
