use Rattle.std.proofs.Common.{◌≡◌, refl, sym, ap, ◌∙◌, arith}
use Rattle.shift.specs.Shift.{turn, turns}
use Rattle.shift.proofs.Laws.Within.{turns-lt}
use Rattle.shift.proofs.Turns.{turns_more}
use Rattle.shift.proofs.turning.shift.Goals as goal

pub loop-init : goal.loop-init
unfolding turns
loop-init c = refl

pub loop-preserved : goal.loop-preserved
loop-preserved c = let a = c.args in
    c.turn-s.ensures ∙ ap (turn a.w a.way) c.loop.invariant ∙ sym (turns_more a.w a.way c.loop.counter a.t)

pub returns : goal.returns
returns c = let a = c.args in
    let e : c.loop.counter ≡ a.count = omega arith in
    let t : c.loop.s ≡ turns a.w a.way a.count a.t = rw e at c.loop.invariant in
    (t, rw t (turns-lt a.w a.way a.count a.t c.requires.0 c.requires.2))
