use mathlib.Core.Path.{◌≡◌, ap, sym, ◌∙◌}
use mathlib.Core.List.{List}
use Prim.Native.Nat.{ℕ}
use native.Mathlib.Omega.{arith}
use Rattle.patchline.proofs.Laws.{filled-le, op_or-is, op-some}
use Rattle.patchline.proofs.Long.{long-none}
use lib.ListN.{length}
use lib.Seq.{length-take-le}
use Rattle.patchline.specs.Line.{op_in, op_or}
use Rattle.optext.specs.Read.{words_of_text, op_of}
use Rattle.hexdigits.proofs.Laws.Laid.{wrote-take}
use Rattle.patchline.proofs.oneline.filled_op.Goals as goal

pub returns-then-t-gt33 : goal.returns-then-t-gt33
returns-then-t-gt33 c = let a = c.args in
    (sym (long-none a.d.now a.t.now c.requires.0 c.if-t-gt33.true), tt)

pub slice_bounds-out-end : goal.slice_bounds-out-end
slice_bounds-out-end c = let a = c.args in
    let e : length c.put_filled-n.new.out ≡ 128 = c.put_filled-n.auto.out in
    omega (arith, c.put_filled-n.ensures.count, filled-le a.d.now a.t.now c.if-t-gt33.false c.requires.1)

pub slice_bounds-op_of-end : goal.slice_bounds-op_of-end
slice_bounds-op_of-end c = let a = c.args in
    let e : length c.put_filled-n.new.out ≡ 128 = c.put_filled-n.auto.out in
    sym (length-take-le c.put_filled-n.result c.put_filled-n.new.out (omega (arith, c.put_filled-n.ensures.count, filled-le a.d.now a.t.now c.if-t-gt33.false c.requires.1)))

pub returns : goal.returns
unfolding op_in
returns c = let e = c.op_of.ensures.0 in
    (ap op_or e ∙ op_or-is _ ∙ ap (λ (l : List ℕ). op_of (words_of_text l)) (wrote-take _ _ _ _ c.put_filled-n.ensures), op-some _ _ e c.op_of.ensures.1)
