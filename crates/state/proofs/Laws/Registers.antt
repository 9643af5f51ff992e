-- A register that was set is read back, and the others stay.
use Prim.Native.Nat.{ℕ, zero, suc, ◌<◌, ◌≤◌}
use mathlib.Core.Bool.{cond}
use mathlib.Core.List.{[], ◌∷◌}
use mathlib.Core.Path.{◌≡◌, refl, sym, ◌∙◌}
use native.Mathlib.Omega.{arith}
use native.Mathlib.Decide.{dec_lt}
use lib.ListN.{get_or-eq_default}
use lib.Dec.{eqb, ltb}
use borrow.Author.Tests.{ne_eqb, lt-ltb, le-ltb}
use Rattle.state.specs.declared.Regs.{Regs}
use Rattle.state.specs.Registers.{reg_of, set_reg}

pub reg-pc : (s : Regs) (k : ℕ) → 7 ≤ k → reg_of s k ≡ s.pc
unfolding reg_of
reg-pc s k h = get_or-eq_default (s.r0 ∷ s.r1 ∷ s.r2 ∷ s.r3 ∷ s.r4 ∷ s.r5 ∷ s.sp ∷ []) s.pc h

pub with-pc : (s : Regs) (k v : ℕ) → 7 ≤ k → set_reg s k v ≡ set_reg s 7 v
unfolding set_reg
with-pc s k v h =
    simp (
      ne_eqb k 0 (λ e. omega arith),
      ne_eqb k 1 (λ e. omega arith),
      ne_eqb k 2 (λ e. omega arith),
      ne_eqb k 3 (λ e. omega arith),
      ne_eqb k 4 (λ e. omega arith),
      ne_eqb k 5 (λ e. omega arith),
      ne_eqb k 6 (λ e. omega arith),
      le-ltb k 7 h,
    )

-- a register after an update
pub reg-set : (s : Regs) (k v x : ℕ) → k ≤ 7 → x ≤ 7 → reg_of (set_reg s k v) x ≡ cond (eqb k x) v (reg_of s x)
unfolding reg_of set_reg
reg-set s k v zero h l = refl
reg-set s k v (suc zero) h l = refl
reg-set s k v (suc (suc zero)) h l = refl
reg-set s k v (suc (suc (suc zero))) h l = refl
reg-set s k v (suc (suc (suc (suc zero)))) h l = refl
reg-set s k v (suc (suc (suc (suc (suc zero))))) h l = refl
reg-set s k v (suc (suc (suc (suc (suc (suc zero)))))) h l = refl
reg-set s k v (suc (suc (suc (suc (suc (suc (suc zero))))))) h l = elim (dec_lt k 7) [ yes p ↦ below p | no p ↦ here (omega arith) ]
  where
    below : k < 7 → cond (ltb k 7) s.pc v ≡ cond (eqb k 7) v s.pc
    below p = rw (lt-ltb k 7 p, ne_eqb k 7 (λ e. omega arith))

    here : k ≡ 7 → cond (ltb k 7) s.pc v ≡ cond (eqb k 7) v s.pc
    here e = rw e
reg-set s k v (suc (suc (suc (suc (suc (suc (suc (suc x)))))))) h l = absurd (omega arith)

-- registers by their numbers
abbrev all : (ℕ → ℕ) → Regs
all f = record { r0 = f 0; r1 = f 1; r2 = f 2; r3 = f 3; r4 = f 4; r5 = f 5; sp = f 6; pc = f 7 }

all_of : (s : Regs) → s ≡ all (reg_of s)
unfolding reg_of
all_of s = refl

pub same_regs : (s t : Regs) → ((x : ℕ) → x ≤ 7 → reg_of s x ≡ reg_of t x) → s ≡ t
same_regs s t h =
    all_of s
    ∙ rw (h 0 (omega arith), h 1 (omega arith), h 2 (omega arith), h 3 (omega arith), h 4 (omega arith), h 5 (omega arith), h 6 (omega arith), h 7 (omega arith)) (sym (all_of t))
