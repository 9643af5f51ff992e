use Rattle.hexdigits.proofs.Laws.Laid.{wrote-fits}
use Rattle.benchline.proofs.Laws.{one-digit, two_digits, three-digits}
use Rattle.benchline.proofs.put_decimal.Goals as goal

pub returns-then-n-lt10 : goal.returns-then-n-lt10
returns-then-n-lt10 c = let e = one-digit c.args.n c.if-n-lt10.true in
    rw e (wrote-fits _ _ _ _ (rw e at c.requires) c.put_text.ensures)

pub returns-then-n-lt100 : goal.returns-then-n-lt100
returns-then-n-lt100 c = let e = two_digits c.args.n c.if-n-lt10.false c.if-n-lt100.true in
    rw e (wrote-fits _ _ _ _ (rw e at c.requires) c.put_text-then-n-lt100.ensures)

pub returns : goal.returns
returns c = let e = three-digits c.args.n c.if-n-lt100.false in
    rw e (wrote-fits _ _ _ _ (rw e at c.requires) c.put_text-2.ensures)
