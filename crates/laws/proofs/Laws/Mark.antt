-- The theorems that specs/Mark.antt states.
use Prim.Native.Nat.{ℕ, ◌/◌, ◌%◌}
use native.Mathlib.Omega.{arith}
use mathlib.Core.Bool.{Bool, true, false, not, ◌&&◌, cond}
use mathlib.Core.List.{List, [], ◌∷◌}
use mathlib.Core.Path.{◌≡◌, refl, sym, ap, ◌∙◌, subst}
use lib.Dec.{eqb}
use Rattle.wordmath.specs.Number.{bit, digit}
use Rattle.wordmath.specs.Status.{enable_of}
use Rattle.wordmath.proofs.Laws.Digit.{digit-le}
use Rattle.state.specs.declared.State.{State}
use Rattle.state.specs.declared.Settings.{Settings}
use Rattle.state.specs.declared.Outside.{Outside}
use Rattle.state.specs.declared.Mode.TheVariants.{Running}
use Rattle.state.specs.State.{heard, ps_of}
use Rattle.step.specs.declared.Turn.{Turn}
use Rattle.step.specs.declared.Kind.{Kind}
use Rattle.step.specs.declared.Kind.TheVariants.{OpCode, NonVectored, Vectored}
use Rattle.step.specs.declared.Cause.{Cause}
use Rattle.step.specs.declared.Cause.TheVariants as Cause
use Rattle.step.specs.Step.{step_of, kind_of, cause_number, cause_of, error_cause_of}
use Rattle.machine_c.specs.Layout.{state_from, settings_from}
use Rattle.laws.proofs.Laws.Calls.{step-done, power-done, cause-0}
use Rattle.step.proofs.Laws.Late.{held, unmarked-hears}
use Rattle.refusal.proofs.Laws.Page.{answered-one}
use Rattle.machine.proofs.Laws.Back.{state-one, turn_one}
use Rattle.machine.proofs.Laws.Answered.{power-answer, step-answer}
use Rattle.laws.proofs.Laws.Marked.{step-marks, held-off, switch-heard, power-clears, cause-by, enabled-runs}
use Rattle.laws.specs.Mark.{executed, enables, is_running, mark_after, from_op_code, interrupted, from_interrupt, from_switch, StepCall, MarkAfter, PowerUpClears, HoldsOff, SwitchHeard, LateOnce, among, mark_by, Wd16MarkAfter, Wd16PowerUpClears, Wd16HoldsOff, Wd16SwitchHeard, Wd16LateOnce, SetAtOnce, EnabledAtOnce, Wd16EnabledAtOnce}

-- what a call of `step` answered and left is the definition's
pub turn_is : (settings : Settings) (m map : List ℕ) (line : ℕ) (s : State) (t : Turn) (n : List ℕ) → StepCall settings m map line s t n
    → (let a = step_of map (heard settings line) s m in (t.state ≡ a.state) × (t.cause ≡ a.cause) × (n ≡ a.image))
turn_is settings m map line s t n e =
    let a = step_of map (heard settings line) s m in
    let h = (step-answer settings m map line s e).1 in
    let same : t ≡ record { state = a.state; cause = a.cause } = turn_one t (record { state = a.state; cause = a.cause }) (answered-one (ap (λ z. z.page) h)) in
    (ap (λ z. z.state) same, ap (λ z. z.cause) same, ap (λ z. z.lent) h)

pub mark-after : MarkAfter
mark-after settings m map line s t n e =
    let is = turn_is settings m map line s t n e in
    ap (λ z. z.mark) is.0 ∙ step-marks map (heard settings line) s m ∙ ap (λ z. mark_after s m z) (sym is.1)

pub power-up-clears : PowerUpClears
power-up-clears settings m map s n e =
    let h = (power-answer settings m map e).1 in
    ap (λ z. z.mark) (state-one s _ (answered-one (ap (λ z. z.page) h))) ∙ power-clears settings map m

pub holds-off : HoldsOff
holds-off settings m map line s t n e mark = ap from_interrupt (turn_is settings m map line s t n e).1 ∙ held-off map (heard settings line) s m mark

pub switch-heard-too : SwitchHeard
switch-heard-too settings m map line s t n e runs i3 = ap from_switch (turn_is settings m map line s t n e).1 ∙ switch-heard map (heard settings line) s m runs i3

-- ---- exactly one more op code

began : (k : Kind) → k ≡ OpCode → (from_op_code (cause_of k) ≡ true) × ((a : ℕ) → from_op_code (error_cause_of k a) ≡ true)
began k e = rw e (refl, λ a. refl)

begun-by : (i1 : Bool) (k : Kind) → k ≡ cond i1 NonVectored Vectored → (interrupted (cause_of k) ≡ true) × ((a : ℕ) → interrupted (error_cause_of k a) ≡ true)
begun-by true k e = rw e (refl, λ a. refl)
begun-by false k e = rw e (refl, λ a. refl)

and-not : (x : Bool) → (x && not true) ≡ false
and-not true = refl
and-not false = refl

module _ (settings : Settings) (map : List ℕ) (m m₁ m₂ m₃ : List ℕ) (l₁ l₂ l₃ : ℕ) (s : State) (t₁ t₂ t₃ : Turn)
    (ien : StepCall settings m map l₁ s t₁ m₁) (next : StepCall settings m₁ map l₂ t₁.state t₂ m₂) (last : StepCall settings m₂ map l₃ t₂.state t₃ m₃) where
  pub late-once : LateOnce settings map m m₁ m₂ m₃ l₁ l₂ l₃ s t₁ t₂ t₃ ien next last
  late-once runs clear enables-it done quiet quiet' asks =
      let one = turn_is settings m map l₁ s t₁ m₁ ien in
      let two = turn_is settings m₁ map l₂ t₁.state t₂ m₂ next in
      let three = turn_is settings m₂ map l₃ t₂.state t₃ m₃ last in
      let on = enabled-runs map (heard settings l₁) s m runs enables-it (sym one.1 ∙ done) in
      let running : t₁.state.mode ≡ Running = ap (λ z. z.mode) one.0 ∙ on.0 ∙ runs in
      let set : t₁.state.i2 ≡ true = ap (λ z. z.i2) one.0 ∙ on.1 in
      let marked : t₁.state.mark ≡ true =
      mark-after settings m map l₁ s t₁ m₁ ien ∙ ap (λ c. mark_after s m c) done ∙ ap (λ z. cond (is_running z) (enables (executed s m) && not s.i2) s.mark) runs ∙ ap (λ z. z && not s.i2) enables-it ∙ ap not clear in
      let begins = began (kind_of t₁.state (heard settings l₂)) (held t₁.state (heard settings l₂) running marked quiet) in (
        ap from_op_code two.1 ∙ cause-by map (heard settings l₂) t₁.state m₁ from_op_code true begins.0 begins.1 (λ a. refl),
        λ code runs₂ set₂.
            let unmarked : t₂.state.mark ≡ false =
            mark-after settings m₁ map l₂ t₁.state t₂ m₂ next ∙ ap (λ c. mark_after t₁.state m₁ c) code ∙ ap (λ z. cond (is_running z) (enables (executed t₁.state m₁) && not t₁.state.i2) t₁.state.mark) running
            ∙ ap (λ z. enables (executed t₁.state m₁) && not z) set ∙ and-not (enables (executed t₁.state m₁)) in
            let hears = begun-by (bit 1 l₃) (kind_of t₂.state (heard settings l₃)) (unmarked-hears t₂.state (heard settings l₃) runs₂ set₂ unmarked (record { quiet = quiet'; asks = asks })) in
            ap interrupted three.1 ∙ cause-by map (heard settings l₃) t₂.state m₂ interrupted true hears.0 hears.1 (λ a. refl),
      )

-- ---- for C

by_number : (s : State) (m : List ℕ) (c : Cause) → mark_after s m c ≡ mark_by s m (cause_number c)
by_number s m Cause.OpCode = refl
by_number s m Cause.Switch = refl
by_number s m Cause.NonVectored = refl
by_number s m Cause.Vectored = refl
by_number s m Cause.Nothing = refl
by_number s m (Cause.OpCodeBlank a) = refl
by_number s m (Cause.InterruptBlank a) = refl
by_number s m (Cause.SaveBlank a) = refl
by_number s m (Cause.LockedAt a) = refl
by_number s m Cause.Locked = refl

pub wd16-mark-after : Wd16MarkAfter
wd16-mark-after w b m map line b' m' e =
    let d = step-done w b m map line b' m' e in
    ap (λ z. z.mark) d.state ∙ mark-after (settings_from w) m map line (state_from b) d.turn m' d.page ∙ by_number (state_from b) m d.turn.cause ∙ ap (λ n. mark_by (state_from b) m n) (sym d.cause)

pub wd16-power-up-clears : Wd16PowerUpClears
wd16-power-up-clears w b m map b' m' e =
    let d = power-done w b m map b' m' e in
    ap (λ z. z.mark) d.state ∙ power-up-clears (settings_from w) m map d.up m' d.page

pub wd16-holds-off : Wd16HoldsOff
wd16-holds-off w b m map line b' m' e mark =
    let d = step-done w b m map line b' m' e in
    ap (λ n. among (2 ∷ 3 ∷ 6 ∷ []) n) d.cause ∙ holds-off (settings_from w) m map line (state_from b) d.turn m' d.page mark

pub wd16-switch-heard : Wd16SwitchHeard
wd16-switch-heard w b m map line b' m' e runs i3 =
    let d = step-done w b m map line b' m' e in
    ap (λ n. among (1 ∷ 8 ∷ 9 ∷ []) n) d.cause ∙ switch-heard-too (settings_from w) m map line (state_from b) d.turn m' d.page runs i3

pub wd16-late-once : Wd16LateOnce
wd16-late-once w b m map l₁ l₂ l₃ b₁ m₁ b₂ m₂ b₃ m₃ e₁ e₂ e₃ runs clear enables-it done quiet quiet' asks =
    let one = step-done w b m map l₁ b₁ m₁ e₁ in
    let two = step-done w b₁ m₁ map l₂ b₂ m₂ e₂ in
    let three = step-done w b₂ m₂ map l₃ b₃ m₃ e₃ in
    let next : StepCall (settings_from w) m₁ map l₂ one.turn.state two.turn m₂ = subst (λ (s : State). StepCall (settings_from w) m₁ map l₂ s two.turn m₂) one.state two.page in
    let last : StepCall (settings_from w) m₂ map l₃ two.turn.state three.turn m₃ = subst (λ (s : State). StepCall (settings_from w) m₂ map l₃ s three.turn m₃) two.state three.page in
    let late = late-once (settings_from w) map m m₁ m₂ m₃ l₁ l₂ l₃ (state_from b) one.turn two.turn three.turn one.page next last runs clear enables-it (cause-0 one.turn.cause (sym one.cause ∙ done)) quiet quiet' asks in (
      ap (λ n. among (0 ∷ 5 ∷ 8 ∷ []) n) two.cause ∙ late.0,
      λ code runs₂ set₂.
          ap (λ n. among (2 ∷ 3 ∷ 6 ∷ 8 ∷ []) n) three.cause
          ∙ late.1 (cause-0 two.turn.cause (sym two.cause ∙ code)) (ap (λ z. z.mode) (sym two.state) ∙ runs₂) (ap (λ z. z.i2) (sym two.state) ∙ set₂),
    )

-- ---- I2 and the PS bit

bit-set : (x : ℕ) → x ≡ digit true → eqb x 1 ≡ true
bit-set x e = rw e

ps-set : (out : Outside) (bus : Bool) (s : State) → s.i2 ≡ true → enable_of (ps_of out bus s) ≡ true
unfolding ps_of
ps-set out bus s e =
    let i : digit s.i2 ≡ 1 = ap digit e in
    bit-set (ps_of out bus s / 4096 % 2)
    (omega (arith, i, digit-le out.fail, digit-le bus, digit-le s.flags.n, digit-le s.flags.z, digit-le s.flags.v, digit-le s.flags.c))

set-once : (s : State) → s.i2 ≡ true → SetAtOnce s
set-once s e = record { i2 = e; ps_bit = λ out bus. ps-set out bus s e }

pub enabled-at-once : EnabledAtOnce
enabled-at-once settings m map line s t n e runs enables-it done =
    let is = turn_is settings m map line s t n e in
    set-once t.state (ap (λ z. z.i2) is.0 ∙ (enabled-runs map (heard settings line) s m runs enables-it (sym is.1 ∙ done)).1)

pub wd16-enabled-at-once : Wd16EnabledAtOnce
wd16-enabled-at-once w b m map line b' m' e runs enables-it zero =
    let d = step-done w b m map line b' m' e in
    let x = enabled-at-once (settings_from w) m map line (state_from b) d.turn m' d.page runs enables-it (cause-0 d.turn.cause (sym d.cause ∙ zero)) in
    set-once (state_from b') (ap (λ z. z.i2) d.state ∙ x.i2)
