use Prim.Native.Nat.{◌-◌, ◌+◌, ◌*◌}
use mathlib.Core.Path.{◌≡◌, refl, ◌∙◌}
use native.Mathlib.Omega.{arith}
use lib.ListN.{get_or}
use Rattle.hexdigits.proofs.Laws.Laid.{then}
use Rattle.board.specs.Exec.{log_count}
use Rattle.stepline.proofs.Laws.{pair-length, writes-none, writes_more}
use Rattle.stepline.proofs.put_writes.Goals as goal

pub loop-i-init : goal.loop-i-init
loop-i-init c = (refl, refl, refl, writes-none _ _ _)

pub overflow_mul-i : goal.overflow_mul-i
overflow_mul-i c = omega (arith, c.loop-i-test.true, c.loop-i.invariant.2, c.requires.2)

pub overflow_add-i : goal.overflow_add-i
overflow_add-i c = omega (arith, c.loop-i-test.true, c.loop-i.invariant.2, c.requires.2)

pub offset_bounds-log-i : goal.offset_bounds-log-i
offset_bounds-log-i c = omega (arith, c.loop-i-test.true, c.loop-i.invariant.2, c.requires.2)

pub bounds-log-i : goal.bounds-log-i
bounds-log-i c = omega (arith, c.loop-i-test.true, c.loop-i.invariant.2, c.requires.1, c.requires.2)

pub word_text_at-at-requires : goal.word_text_at-at-requires
word_text_at-at-requires c = omega (arith, c.loop-i.invariant.0, c.loop-i.invariant.1, c.loop-i.invariant.2, c.loop-i-test.true, c.requires.0, c.requires.2)

pub loop-i-preserved : goal.loop-i-preserved
loop-i-preserved c = let a = c.args in
    let l = c.loop-i in
    let w = c.word_text_at-at.ensures in (
      c.word_text_at-at.auto.text ∙ l.invariant.0,
      omega (arith, w.count, l.invariant.1, pair-length a.image.now (get_or a.log.now (l.i * 2 + 1) 0)),
      l.invariant.2,
      rw (← writes_more a.image.now a.log.now l.i) (then _ _ _ _ _ _ _ l.invariant.3 w),
    )

pub returns : goal.returns
returns c = let e : c.loop-i.i ≡ log_count c.args.log.now = omega (arith, c.loop-i-test.false, c.loop-i.auto.i-end, c.loop-i.invariant.2) in
    rw (← e) c.loop-i.invariant.3
