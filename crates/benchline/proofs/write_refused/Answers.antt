use Rattle.hexdigits.proofs.Laws.Laid.{then}
use Rattle.benchline.proofs.Laws.Printed.{printed-is, printed-none}
use Rattle.benchline.proofs.Laws.{name-length, refused-length, digits-few}
use Rattle.benchline.specs.Line.{refused_text}
use native.Mathlib.Omega.{arith}
use Rattle.benchline.proofs.write_refused.Goals as goal

pub overflow_add-digits_of : goal.overflow_add-digits_of
overflow_add-digits_of c = omega (arith, c.digits_of.ensures, digits-few c.args.number)

pub returns-then-text-digits_of : goal.returns-then-text-digits_of
returns-then-text-digits_of c = printed-none _ _ (omega (arith, refused-length c.args.number, c.digits_of.ensures, c.if-text-digits_of.true))

pub put_name-name-requires : goal.put_name-name-requires
put_name-name-requires c = omega (arith, c.if-text-digits_of.false)

pub decimal_at-requires : goal.decimal_at-requires
decimal_at-requires c = omega (arith, c.put_name-name.ensures.count, name-length, c.digits_of.ensures, c.if-text-digits_of.false)

pub returns : goal.returns
unfolding refused_text
returns c = printed-is (refused_text c.args.number) _ _ _
    (omega (arith, refused-length c.args.number, c.digits_of.ensures, c.if-text-digits_of.false))
    (then _ _ _ _ _ _ _ c.put_name-name.ensures c.decimal_at.ensures)
