-- The three ways of a step in a run's loop: an op code, an op code that was not answered, and no op code.
use Prim.Native.Nat.{ℕ}
use mathlib.Core.Bool.{true}
use mathlib.Core.List.{List}
use mathlib.Core.Path.{◌≡◌, refl, sym}
use Rattle.board.specs.Exec.{beside, undone}
use Rattle.state.specs.declared.State.{State}
use Rattle.state.specs.declared.Outside.{Outside}
use Rattle.std.specs.Prelude.{Result, Ok, Err}
use Rattle.board.specs.declared.Blank.{Blank}
use Rattle.step.specs.declared.Kind.TheVariants as Kind
use Rattle.step.specs.declared.Turn.{Turn}
use Rattle.step.specs.declared.Cause.{Cause}
use Rattle.step.specs.Step.{After, kind_of, is_code, work_of, error_of, step_of}
use Rattle.step.specs.Inner.{Coded, DidStep}
use Rattle.step.proofs.Laws.Ends.{step-well, step-ill, code_is}

-- the variables that the loop carries, as each way leaves them
module _ {map : List ℕ} {out : Outside} {s : State} {m : List ℕ} {state : State} {cause : Cause} {image log : List ℕ} where
  pub turned-code : {r : Result State Blank} {t : State} {m' l' : List ℕ} → is_code (kind_of s out) ≡ true → Coded map out s m r (beside m' l') → r ≡ Ok t
      → image ≡ m' → log ≡ l' → state ≡ t → cause ≡ Cause.OpCode → DidStep map (step_of map out s m) (record { state = state; cause = cause }) (beside image log)
  unfolding work_of
  turned-code k g d i l e f = rw (i, l, e, f) (record { turn = step-well map out s m {k = Kind.OpCode} (sym (code_is _ k)) (g.done d) refl; board = g.board })

  pub turned-blank : {r : Result State Blank} {b : Blank} {m' l' : List ℕ} {turn : Turn} {m'' l'' : List ℕ} → is_code (kind_of s out) ≡ true → Coded map out s m r (beside m' l') → r ≡ Err b
      → DidStep map (error_of map Kind.OpCode out s (undone (beside m' l')) b.at) turn (beside m'' l'')
      → image ≡ m'' → log ≡ l'' → state ≡ turn.state → cause ≡ turn.cause → DidStep map (step_of map out s m) (record { state = state; cause = cause }) (beside image log)
  unfolding work_of
  turned-blank k g d h i l e f = rw (i, l, e, f) (record { turn = step-ill map out s m {k = Kind.OpCode} (sym (code_is _ k)) (g.lost d) (g.back d) h.turn; board = h.board })

pub turned-other : {map : List ℕ} {a : After} {turn : Turn} {m'' l'' : List ℕ} {state : State} {cause : Cause} {image log : List ℕ} → DidStep map a turn (beside m'' l'')
    → image ≡ m'' → log ≡ l'' → state ≡ turn.state → cause ≡ turn.cause → DidStep map a (record { state = state; cause = cause }) (beside image log)
turned-other h i l e f = rw (i, l, e, f) (record { turn = h.turn; board = h.board })
