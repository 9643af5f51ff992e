use Rattle.benchline.proofs.Laws.{one-digit, two_digits, three-digits}
use mathlib.Core.Path.{refl}
use Rattle.benchline.proofs.digits_of.Goals as goal

pub returns-then-n-lt10 : goal.returns-then-n-lt10
returns-then-n-lt10 c = rw (one-digit _ c.if-n-lt10.true) refl

pub returns-then-n-lt100 : goal.returns-then-n-lt100
returns-then-n-lt100 c = rw (two_digits _ c.if-n-lt10.false c.if-n-lt100.true) refl

pub returns : goal.returns
returns c = rw (three-digits _ c.if-n-lt100.false) refl
