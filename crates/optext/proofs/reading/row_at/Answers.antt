use Rattle.std.proofs.Common.{◌≡◌, ap, ◌∙◌, arith}
use Rattle.optext.specs.declared.rows.Row.{Row}
use Rattle.optext.specs.First.{best_below}
use Rattle.optext.specs.Rows.{row_count}
use Rattle.optext.specs.Guess.{head_far, row_for}
use Rattle.optext.proofs.Laws.Heads.{best-one, best-new, best-old}
use Rattle.optext.proofs.reading.row_at.Goals as goal
use Rattle.optext.proofs.reading.row_at.Goals.{then-far-n, else-far-n}

pub loop-place-init : goal.loop-place-init
loop-place-init c = (best-one _, c.head_agrees-far.ensures)

pub loop-place-preserved : goal.loop-place-preserved
loop-place-preserved c = let l = c.loop-place in
    let f = head_far c.args.t.now in
    elim c.if-far-n.branch [
      | then-far-n w ↦ best-new f l.place l.best.place l.far c.head_agrees-n.result c.if-far-n.best.place c.if-far-n.far l.invariant.0 l.invariant.1 c.head_agrees-n.ensures w.if-far-n.true (ap (λ (r : Row). r.place) w.best-is) w.far-is
      | else-far-n w ↦ best-old f l.place l.best.place l.far c.head_agrees-n.result c.if-far-n.best.place c.if-far-n.far l.invariant.0 l.invariant.1 c.head_agrees-n.ensures w.if-far-n.false (ap (λ (r : Row). r.place) w.best-is) w.far-is
    ]

pub returns : goal.returns
unfolding row_for
returns c = let l = c.loop-place in
    let e : l.place ≡ row_count = omega arith in
    l.invariant.0 ∙ ap (best_below (head_far c.args.t.now)) e
