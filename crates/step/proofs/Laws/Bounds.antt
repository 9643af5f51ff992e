-- A step writes at most 11 words: XCT with SVCB or SVCC.
use Prim.Native.Nat.{ℕ, ◌/◌}
use native.Mathlib.Omega.{arith}
use lib.Dec.{eqb}
use Rattle.plate.specs.Plate.{format_of}
use Rattle.board.specs.Work.{word}
use Rattle.board.proofs.Laws.Bounded.{Bounded, gives, reads, bounded-then, bounded-more, bounded-cond, bounds}
use Rattle.state.specs.declared.State.{State}
use Rattle.state.specs.declared.Outside.{Outside}
use Rattle.state.proofs.Laws.Bounds.{opened}
use Rattle.formats2to4.proofs.Laws.Bounds.{bounded-low_codes}
use Rattle.format7.proofs.Laws.Bounds.{bounded-format7}
use Rattle.format8.proofs.Laws.Bounds.{bounded-format8}
use Rattle.format9.proofs.Laws.Bounds.{bounded-format9}
use Rattle.format10.proofs.Laws.Bounds.{bounded-format10}
use Rattle.step.specs.declared.Kind.{Kind}
use Rattle.step.specs.declared.Kind.TheVariants.{OpCode, HaltEnd, Boots, Saves, LocksUp, Restarts, Restores, NonVectored, Vectored, Waits, Stuck}
use Rattle.step.specs.Execute.{moves, by_format}
use Rattle.step.specs.Xct.{begin_xct, begun, trace, traced, carry, op_work}
use Rattle.step.specs.declared.Begun.{Begun}
use Rattle.step.specs.declared.Begun.TheVariants.{Code, Abort}
use Rattle.step.specs.Places.{keep, pick_up, keep_four, pick_up_four, keep_registers, pick_up_registers, save_places, restore_places}
use Rattle.step.specs.Step.{vectored, work_of, bus_error}

bounded-by_format : (out : Outside) (f : ℕ) (s : State) (op : ℕ) → Bounded 9 (by_format out f s op)
unfolding by_format opened
bounded-by_format out f s op =
    bounded-cond (eqb f 1) (bounded-low_codes out s op)
    (bounded-cond (eqb f 5) (gives _)
    (bounded-cond (eqb f 6) (gives _)
    (bounded-cond (eqb f 7) (bounded-more (omega arith) (bounded-format7 out s op))
    (bounded-cond (moves out f) (bounded-more (omega arith) (bounded-format8 s op))
    (bounded-cond (eqb f 9) (bounded-more (omega arith) (bounded-format9 out s op))
    (bounded-cond (eqb f 10) (bounded-more (omega arith) (bounded-format10 s op))
    (search bounds)))))))

bounded-begun : (out : Outside) (s : State) (op : ℕ) → Bounded 0 (begun out s op)
unfolding begun begin_xct opened
bounded-begun out s op = bounded-cond (eqb op 5) (search bounds) (gives _)

bounded-carry : (out : Outside) (b : Begun) → Bounded 11 (carry out b)
unfolding carry traced trace opened
bounded-carry out (Code s op b) = bounded-then {k = 2} (omega arith) (bounded-by_format out (format_of (op / 256)) _ op) (λ s. bounded-cond b (search bounds) (gives _))
bounded-carry out (Abort s) = search bounds

pub bounded-op_work : (out : Outside) (s : State) → Bounded 11 (op_work out s)
unfolding op_work opened
bounded-op_work out s = reads {n = 11} word _ (λ v. bounded-then {n = 0} {k = 11} (omega arith) (bounded-begun out _ _) (λ next. bounded-carry out next))

pub bounded-step : (k : Kind) (out : Outside) (s : State) → Bounded 15 (work_of k out s)
unfolding work_of vectored save_places keep_registers keep_four keep restore_places pick_up_registers pick_up_four pick_up opened
bounded-step OpCode out s = bounded-more (omega arith) (bounded-op_work out s)
bounded-step HaltEnd out s = search bounds
bounded-step Boots out s = search bounds
bounded-step Saves out s = search bounds depth 12
bounded-step LocksUp out s = search bounds
bounded-step Restarts out s = search bounds
bounded-step Restores out s = search bounds depth 12
bounded-step NonVectored out s = search bounds
bounded-step Vectored out s = search bounds
bounded-step Waits out s = search bounds
bounded-step Stuck out s = search bounds

pub bounded-error : (k : Kind) (out : Outside) (s : State) → Bounded 15 (bus_error k out s)
unfolding bus_error opened
bounded-error k out s = search bounds
