-- The named updates leave the other fields as they were.
use Prim.Native.Nat.{ℕ, ◌≤◌}
use mathlib.Core.Bool.{Bool, true, false, cond}
use mathlib.Core.Path.{◌≡◌, ap, ◌∙◌}
use lib.Dec.{eqb}
use Rattle.state.proofs.Laws.Registers.{reg-set, same_regs}
use Rattle.state.specs.declared.Regs.{Regs}
use Rattle.state.specs.declared.State.{State}
use Rattle.state.specs.State.{reg, with_reg}

pub cond_yes : {A : Type 0} {b : Bool} {x : A} (y : A) → b ≡ true → cond b x y ≡ x
cond_yes {x = x} y e = ap (λ z. cond z x y) e

pub cond_no : {A : Type 0} {b : Bool} (x : A) {y : A} → b ≡ false → cond b x y ≡ y
cond_no x {y = y} e = ap (λ z. cond z x y) e

-- ---- named updates

unfoldable pub with_regs : State → Regs → State
with_regs s r = record { regs = r; flags = s.flags; i2 = s.i2; mode = s.mode; mark = s.mark }

-- ---- states by their registers

pub reg-with : (s : State) (k v x : ℕ) → k ≤ 7 → x ≤ 7 → reg (with_reg s k v) x ≡ cond (eqb k x) v (reg s x)
unfolding reg with_reg
reg-with s k v x h l = reg-set s.regs k v x h l

-- a state that differs from another in its registers at most, and has the same in each
pub same-state : (s t : State) → ((x : ℕ) → x ≤ 7 → reg s x ≡ reg t x) → with_regs s t.regs ≡ t → s ≡ t
unfolding reg with_regs
same-state s t h e = ap (λ r. with_regs s r) (same_regs s.regs t.regs h) ∙ e
