use mathlib.Core.Path.{◌≡◌, refl, ◌∙◌}
use Prim.Native.Nat.{◌≤◌, ◌<◌}
use native.Mathlib.Omega.{arith}
use lib.ListN.{length, length-set}
use lib.Seq.{take-length}
use Rattle.hexdigits.proofs.Laws.Laid.{copy-none, copy_more, written_is, written_none}
use Rattle.hexdigits.proofs.put_text.Goals as goal

pub returns-then-out-n : goal.returns-then-out-n
returns-then-out-n c = written_none c.args.text.now c.args.out.now c.if-out-n.true

pub loop-i-init : goal.loop-i-init
loop-i-init c = (omega arith, refl, copy-none c.args.text.now c.args.out.now)

pub bounds-out-i : goal.bounds-out-i
bounds-out-i c = omega arith

pub loop-i-preserved : goal.loop-i-preserved
loop-i-preserved c = let l = c.loop-i in
    let a = c.args in
    let g : l.i < length a.text.now = omega arith in
    let f : length a.text.now ≤ length a.out.now = omega arith in
    (omega arith, length-set l.out l.i _ ∙ l.invariant.1, copy_more a.text.now a.out.now l.out l.i l.invariant.2 g f)

pub returns : goal.returns
returns c = let l = c.loop-i in
    let e : l.i ≡ length c.args.text.now = omega arith in
    written_is c.args.text.now c.args.out.now _ _ c.if-out-n.false (record { bytes = l.invariant.2 ∙ rw (e, take-length) refl; count = refl })
