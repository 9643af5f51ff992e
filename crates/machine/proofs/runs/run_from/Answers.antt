use native.Mathlib.Omega.{arith}
use mathlib.Core.Path.{◌≡◌, refl, sym, ap, ◌∙◌}
use lib.ListN.{get_or}
use Rattle.board.specs.Exec.{beside}
use Rattle.state.specs.State.{heard}
use Rattle.step.specs.Step.{after, step_of, is_code}
use Rattle.step.specs.Inner.{DidStep}
use Rattle.machine.proofs.Laws.Run.{rest_more, rest-none, cause-more, cause-none, Hearing, hearing-new, hearing-old}
use Rattle.machine.proofs.Laws.Turn.{turned-code, turned-blank, turned-other}
use Rattle.machine.proofs.runs.run_from.Goals.{then-next-line, else-next-line, then-goes_on+in-Ok, then-goes_on+in-Err, else-goes_on}
use Rattle.machine.proofs.runs.run_from.Goals as goal

pub loop-i-init : goal.loop-i-init
loop-i-init c = (omega arith, refl, refl, c.requires.0, c.hear-out.ensures, c.calm-quiet.ensures)

pub bounds-lines-i : goal.bounds-lines-i
bounds-lines-i c = omega (arith, c.loop-i-test.true)

pub goes_on-requires : goal.goes_on-requires
goes_on-requires c = let h : Hearing c.args.settings (get_or c.args.lines.now c.loop-i.i 0) c.if-next-line.line c.if-next-line.out c.if-next-line.quiet =
    elim c.if-next-line.branch [
      | then-next-line w ↦ hearing-new w.line-is w.out-is w.quiet-is w.hear-out-then-next-line.ensures w.calm-quiet-then-next-line.ensures
      | else-next-line w ↦ hearing-old w.line-is w.out-is w.quiet-is (omega arith) c.loop-i.invariant.4 c.loop-i.invariant.5
    ] in
    h.told

pub op_code-requires : goal.op_code-requires
op_code-requires c = c.loop-i.invariant.3

pub error-turn-requires : goal.error-turn-requires
error-turn-requires c = c.op_code.ensures.board

pub other-turn-requires : goal.other-turn-requires
other-turn-requires c = (c.loop-i.invariant.3, c.kind_of.ensures, ap is_code c.kind_of.ensures ∙ sym c.goes_on.ensures ∙ c.if-goes_on.false)

pub blank_noted-tally-requires : goal.blank_noted-tally-requires
blank_noted-tally-requires c = omega (arith, c.loop-i-test.true, c.loop-i.invariant.0, c.requires.1)

pub overflow_cast-i : goal.overflow_cast-i
overflow_cast-i c = omega (arith, c.loop-i-test.true, c.requires.1)

pub loop-i-preserved : goal.loop-i-preserved
loop-i-preserved c = let h : Hearing c.args.settings (get_or c.args.lines.now c.loop-i.i 0) c.if-next-line.line c.if-next-line.out c.if-next-line.quiet =
    elim c.if-next-line.branch [
      | then-next-line w ↦ hearing-new w.line-is w.out-is w.quiet-is w.hear-out-then-next-line.ensures w.calm-quiet-then-next-line.ensures
      | else-next-line w ↦ hearing-old w.line-is w.out-is w.quiet-is (omega arith) c.loop-i.invariant.4 c.loop-i.invariant.5
    ] in
    let p : DidStep c.args.map.now (step_of c.args.map.now c.if-next-line.out c.loop-i.state c.loop-i.image) (record { state = c.if-goes_on.state; cause = c.if-goes_on.cause }) (beside c.if-goes_on.image c.if-goes_on.log) =
    elim c.if-goes_on.branch [
      | then-goes_on+in-Ok w ↦ turned-code (sym c.goes_on.ensures ∙ w.if-goes_on.true) w.op_code.ensures w.in-Ok.is w.image-is w.log-is w.state-is w.cause-is
      | then-goes_on+in-Err w ↦ turned-blank (sym c.goes_on.ensures ∙ w.if-goes_on.true) w.op_code.ensures w.in-Err.is w.error-turn.ensures w.image-is w.log-is w.state-is w.cause-is
      | else-goes_on w ↦ turned-other w.other-turn.ensures w.image-is w.log-is w.state-is w.cause-is
    ] in
    let e : after c.if-goes_on.state c.if-goes_on.image c.if-goes_on.cause ≡ step_of c.args.map.now (heard c.args.settings (get_or c.args.lines.now c.loop-i.i 0)) c.loop-i.state c.loop-i.image =
    p.turn ∙ ap (λ o. step_of c.args.map.now o c.loop-i.state c.loop-i.image) (h.parted ∙ ap (λ l. heard c.args.settings l) h.word) in (
      omega (arith, c.blank_noted-tally.ensures.1, c.loop-i.invariant.0),
      rest_more _ _ _ _ _ _ _ _ _ c.loop-i-test.true e (rw c.blank_at.ensures at c.blank_noted-tally.ensures.0) ∙ c.loop-i.invariant.1,
      cause-more _ _ _ _ _ _ _ _ c.loop-i-test.true e ∙ c.loop-i.invariant.2,
      p.board,
      h.parted,
      h.told,
    )

pub returns : goal.returns
returns c = record { same = sym (rest-none _ _ _ _ _ _ _ (omega (arith, c.loop-i-test.false))) ∙ c.loop-i.invariant.1; cause = sym (cause-none _ _ c.args.lines.now c.loop-i.i _ _ _ (omega (arith, c.loop-i-test.false))) ∙ c.loop-i.invariant.2; board = c.loop-i.invariant.3 }
