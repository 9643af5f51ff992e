-- IEN is one op code late: where it found I2 clear, exactly one more op code is executed before I0 or I1 is heard; where it found I2 set, none.
use Prim.Native.Nat.{ℕ}
use native.Mathlib.Omega.{arith}
use mathlib.Core.Bool.{Bool, true, false, not, ◌&&◌, ◌||◌, cond, and-false}
use mathlib.Core.List.{List}
use mathlib.Core.Path.{◌≡◌, refl, sym, ap, ◌∙◌}
use lib.Dec.{eqb}
use Rattle.board.specs.Work.{give, fitted, writable, image_word, value, run, ◌>>=◌}
use Rattle.board.proofs.Laws.Alike.{found-value}
use Rattle.state.specs.declared.State.{State}
use Rattle.state.specs.declared.Outside.{Outside}
use Rattle.state.specs.declared.Mode.TheVariants.{Running}
use Rattle.state.specs.State.{with_reg, with_pc, with_mark, with_i2}
use Rattle.state.specs.Registers.{set_reg}
use Rattle.state.specs.Stack.{push, push_both, from_loc, fetch}
use Rattle.wordmath.specs.Address.{plus, minus}
use Rattle.plate.specs.Plate.{format_of}
use Rattle.formats2to4.specs.Low.{low_codes}
use Rattle.format1.specs.Format1.{ien, format1}
use Rattle.step.specs.declared.Kind.TheVariants.{OpCode, NonVectored, Vectored}
use Rattle.step.specs.declared.Cause.TheVariants as Cause
use Rattle.step.specs.Execute.{execute, by_format}
use Rattle.step.specs.Xct.{begun, trace, carry, traced, op_work}
use Rattle.step.specs.Step.{after, halt_option, raised, asked, hears, kind_in, kind_of, work_of, step_of}
use Rattle.step.proofs.Laws.Ends.{step-well}
use Rattle.step.specs.Late.{Comes, Asks, interrupt_heard}

-- ---- which kind of step it is

one-asks : (one other : Bool) → (one || other) ≡ true → cond one NonVectored (cond other Vectored OpCode) ≡ cond one NonVectored Vectored
one-asks true other e = refl
one-asks false true e = refl
one-asks false false e = let z : ◌≡◌ {A = ℕ} 0 1 = cc in absurd (omega arith)

-- A marked state hears neither I0 nor I1.
pub held : (s : State) (out : Outside) → s.mode ≡ Running → s.mark ≡ true → out.i3 ≡ false → kind_of s out ≡ OpCode
unfolding kind_in
held s out runs mark quiet =
    ap (λ z. kind_in z (hears s) out) runs
    ∙ ap (λ z. asked z out OpCode) (ap (λ z. s.i2 && not z) mark ∙ and-false s.i2)
    ∙ ap (λ z. cond z (halt_option out.settings) OpCode) quiet

-- An unmarked state with I2 set hears them.
pub unmarked-hears : (s : State) (out : Outside) → s.mode ≡ Running → s.i2 ≡ true → s.mark ≡ false → Asks out → kind_of s out ≡ interrupt_heard out
unfolding kind_in
unmarked-hears s out runs i2 mark a =
    ap (λ z. kind_in z (hears s) out) runs
    ∙ ap (λ z. asked z out OpCode) (ap (λ z. z && not s.mark) i2 ∙ ap not mark)
    ∙ ap (λ z. cond z (halt_option out.settings) (raised out OpCode)) a.quiet
    ∙ one-asks out.i1 out.i0 a.asks

-- ---- the steps

-- fetched, an older mark cleared
abbrev pub begins : State → State
begins s = with_mark (with_pc s (plus s.regs.pc 2)) false

-- an op code without an access of its own
plain-work : {op : ℕ} {map : List ℕ} {out : Outside} {s t : State} {m : List ℕ}
    → Comes op map out s m → eqb op 5 ≡ false → execute out (begins s) op ≡ give t → run map (work_of OpCode out s) m ≡ value t m
unfolding work_of op_work fetch begun carry traced run ◌>>=◌
plain-work c other does = rw (c.there, c.code, other, does)

plain_step : {op : ℕ} {map : List ℕ} {out : Outside} {s t : State} {m : List ℕ}
    → Comes op map out s m → eqb op 5 ≡ false → execute out (begins s) op ≡ give t → step_of map out s m ≡ after t m Cause.OpCode
plain_step {op} {map} {out} {s} {t} {m} c other does = sym (step-well map out s m {k = OpCode} (sym c.kind) (plain-work c other does) refl)

ien-step : {map : List ℕ} {out : Outside} {s : State} {m : List ℕ} → Comes 2 map out s m → step_of map out s m ≡ after (ien (begins s)) m Cause.OpCode
unfolding by_format low_codes format1 format_of
ien-step c = plain_step c refl refl

nop-step : {map : List ℕ} {out : Outside} {s : State} {m : List ℕ} → Comes 0 map out s m → step_of map out s m ≡ after (begins s) m Cause.OpCode
unfolding by_format low_codes format1 format_of
nop-step c = plain_step c refl refl

-- ---- the laws

module _ {map : List ℕ} {out : Outside} {s : State} {m : List ℕ} (c : Comes 2 map out s m) where
  -- where the next step begins
  abbrev ended : State
  ended = (step_of map out s m).state

  ien-runs : ended.mode ≡ Running
  unfolding with_mark with_i2 with_reg
  ien-runs = ap (λ a. a.state.mode) (ien-step c) ∙ c.runs

  ien-sets : ended.i2 ≡ true
  unfolding with_mark with_i2 with_reg
  ien-sets = ap (λ a. a.state.i2) (ien-step c)

  ien-marks : ended.mark ≡ not s.i2
  unfolding with_mark with_i2 with_reg
  ien-marks = ap (λ a. a.state.mark) (ien-step c)

  -- It found I2 set: no op code more, the interrupt is heard.
  pub not_late : (next : Outside) → s.i2 ≡ true → Asks next → kind_of (step_of map out s m).state next ≡ interrupt_heard next
  not_late next was a = unmarked-hears ended next ien-runs ien-sets (ien-marks ∙ ap not was) a

  -- It found I2 clear: one more op code, whatever asks but I3.
  pub late : (next : Outside) → s.i2 ≡ false → next.i3 ≡ false → kind_of (step_of map out s m).state next ≡ OpCode
  late next was quiet = held ended next ien-runs (ien-marks ∙ ap not was) quiet

  -- And then the interrupt, if that op code leaves the processor running, I2 set and no mark of its own: exactly one.
  pub late-once : (next last : Outside) → s.i2 ≡ false → next.i3 ≡ false → Asks last
      → (let a = step_of map out s m in
      let b = (step_of map next a.state a.image).state in
      (kind_of a.state next ≡ OpCode) × (b.mode ≡ Running → b.i2 ≡ true → b.mark ≡ false → kind_of b last ≡ interrupt_heard last))
  late-once next last was quiet a =
      let first = step_of map out s m in
      (late next was quiet, λ runs i2 mark. unmarked-hears (step_of map next first.state first.image).state last runs i2 mark a)

  -- Such an op code is NOP: IEN, NOP, interrupt.
  pub late-nop : (next last : Outside) → s.i2 ≡ false → next.i3 ≡ false → fitted map (plus s.regs.pc 2) ≡ true → image_word m (plus s.regs.pc 2) ≡ 0 → Asks last
      → (let a = step_of map out s m in kind_of (step_of map next a.state a.image).state last ≡ interrupt_heard last)
  unfolding with_mark with_i2 with_reg set_reg
  late-nop next last was quiet there code a =
      let e : step_of map out s m ≡ after (ien (begins s)) m Cause.OpCode = ien-step c in
      let second : Comes 0 map next (ien (begins s)) m = record { runs = c.runs; kind = held (ien (begins s)) next c.runs (ap not was) quiet; there = there; code = code } in
      rw (e, nop-step second) (unmarked-hears (begins (ien (begins s))) last c.runs refl refl a)

-- ---- under XCT

-- The push to 20's routine leaves the mark as the op code left it: an IEN or SAVS that XCT executes is late too.
pub trace-keeps : (map : List ℕ) (out : Outside) (s : State) (m : List ℕ) (t : State) (n : List ℕ) → run map (trace out s) m ≡ value t n → t.mark ≡ s.mark
unfolding run trace push_both push from_loc ◌>>=◌ with_reg set_reg
trace-keeps map out s m t n h =
    let one = found-value (writable map (minus s.regs.sp 2)) (minus s.regs.sp 2) _ t n h in
    let two = found-value (writable map (minus (minus s.regs.sp 2) 2)) (minus (minus s.regs.sp 2) 2) _ t n one.1 in
    let three = found-value (fitted map 0x20) 0x20 _ t n two.1 in
    cc
