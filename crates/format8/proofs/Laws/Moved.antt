-- The registers after an element, and after all of them: what is left after an element comes to what the whole comes to.
use Prim.Native.Nat.{ℕ, suc, ◌+◌, ◌*◌, ◌≤◌}
use native.Mathlib.Omega.{arith}
use native.Mathlib.Decide.{ℕ_discrete}
use mathlib.Core.Bool.{Bool, true, false, cond}
use mathlib.Core.Path.{◌≡◌, refl, sym, ap, ◌∙◌}
use lib.Dec.{eqb}
use borrow.Author.Tests.{eq-eqb, ne_eqb}
use Rattle.wordmath.specs.Address.{plus}
use Rattle.state.specs.declared.State.{State}
use Rattle.state.specs.State.{reg, with_reg, with_pc}
use Rattle.state.proofs.Laws.State.{with_regs, reg-with, same-state}
use Rattle.state.specs.Registers.{set_reg}
use Rattle.format8.specs.declared.BlockMove.{BlockMove}
use Rattle.format8.specs.Format8.{onward, registers_moved}
use Rattle.format8.specs.Page.{Plain, source_by, destination_by, state_moved}

reg-onward : (s : State) (k n x : ℕ) → k ≤ 7 → x ≤ 7 → reg (onward s k n) x ≡ cond (eqb k x) (plus (reg s x) n) (reg s x)
unfolding onward
reg-onward s k n x h l = reg-with s k (plus (reg s k) n) x h l ∙ elim (ℕ_discrete k x) [ yes e ↦ here e | no d ↦ there d ]
  where
    here : k ≡ x → cond (eqb k x) (plus (reg s k) n) (reg s x) ≡ cond (eqb k x) (plus (reg s x) n) (reg s x)
    here e = rw e

    there : (k ≡ x → ⊥) → cond (eqb k x) (plus (reg s k) n) (reg s x) ≡ cond (eqb k x) (plus (reg s x) n) (reg s x)
    there d = rw (ne_eqb k x d)

-- a register that holds v after moves by a, if it is the source's, and by b, if it is the destination's
abbrev bump : Bool → Bool → ℕ → ℕ → ℕ → ℕ
bump u w a b v = cond w (plus (cond u (plus v a) v) b) (cond u (plus v a) v)

reg-both : (s : State) (i j a b x : ℕ) → i ≤ 7 → j ≤ 7 → x ≤ 7 → reg (onward (onward s i a) j b) x ≡ bump (eqb i x) (eqb j x) a b (reg s x)
reg-both s i j a b x h k l = reg-onward (onward s i a) j b x k l ∙ rw (reg-onward s i a x h l)

module _ (r : BlockMove) (i j : ℕ) (i≤ : i ≤ 7) (j≤ : j ≤ 7) where
  reg-counted : (s : State) (x : ℕ) → x ≤ 7
      → reg (registers_moved r s i j) x ≡ cond (eqb 0 x) (plus (bump (eqb i x) (eqb j x) r.source r.destination (reg s x)) 65535) (bump (eqb i x) (eqb j x) r.source r.destination (reg s x))
  unfolding registers_moved
  reg-counted s x l = reg-onward (onward (onward s i r.source) j r.destination) 0 65535 x (omega arith) l ∙ rw (reg-both s i j r.source r.destination x i≤ j≤ l)

  reg-after : (n : ℕ) (s : State) (x : ℕ) → x ≤ 7
      → reg (state_moved r i j n s) x ≡ cond (eqb 7 x) (plus s.regs.pc 2) (cond (eqb 0 x) 0 (bump (eqb i x) (eqb j x) (n * r.source) (n * r.destination) (reg s x)))
  unfolding state_moved
  reg-after n s x l =
      reg-with (with_reg (onward (onward s i (n * r.source)) j (n * r.destination)) 0 0) 7 (plus s.regs.pc 2) x (omega arith) l
      ∙ rw (reg-with (onward (onward s i (n * r.source)) j (n * r.destination)) 0 0 x (omega arith) l, reg-both s i j (n * r.source) (n * r.destination) x i≤ j≤ l)

plus-plus : (v a b : ℕ) → plus (plus v a) b ≡ plus v (a + b)
plus-plus v a b = omega arith

one-mul : (d : ℕ) → 1 * d ≡ d
one-mul d = omega arith

regroup : (k d e : ℕ) → d + e + suc k * d + suc k * e ≡ suc (suc k) * d + suc (suc k) * e
regroup k d e = omega arith

-- one element more, in a register of which it is known whether it is PC, R0, the source's, the destination's
more : (p q u w : Bool) (k d e v pc x y : ℕ)
    → cond p pc (cond q 0 (bump u w (suc k * d) (suc k * e) (cond p x (cond q y (bump u w d e (cond p pc v))))))
    ≡ cond p pc (cond q 0 (bump u w (suc (suc k) * d) (suc (suc k) * e) v))
more true q u w k d e v pc x y = refl
more false true u w k d e v pc x y = refl
more false false true true k d e v pc x y =
    ap (λ z. plus (plus z (suc k * d)) (suc k * e)) (plus-plus v d e)
    ∙ ap (λ z. plus z (suc k * e)) (plus-plus v (d + e) (suc k * d))
    ∙ plus-plus v (d + e + suc k * d) (suc k * e)
    ∙ ap (λ z. plus v z) (regroup k d e)
    ∙ sym (plus-plus v (suc (suc k) * d) (suc (suc k) * e))
more false false true false k d e v pc x y = omega arith
more false false false true k d e v pc x y = omega arith
more false false false false k d e v pc x y = refl

-- what an element makes of a register that holds v, of which it is known whether it is PC, R0, the source's, the destination's
abbrev element_on : Bool → Bool → Bool → Bool → ℕ → ℕ → ℕ → ℕ → ℕ
element_on p q u w d e pc v = cond q (plus (bump u w d e (cond p pc v)) 65535) (bump u w d e (cond p pc v))

eqb-sym : (a b : ℕ) → eqb a b ≡ eqb b a
eqb-sym a b = elim (ℕ_discrete a b) [ yes e ↦ rw e | no d ↦ rw (ne_eqb a b d, ne_eqb b a (λ e. d (sym e))) ]

stride-source : (w : Bool) (d e v : ℕ) → bump true w d e v ≡ plus v (cond w (d + e) d)
stride-source true d e v = plus-plus v d e
stride-source false d e v = refl

stride-destination : (u : Bool) (d e v : ℕ) → bump u true d e v ≡ plus v (cond u (d + e) e)
stride-destination true d e v = plus-plus v d e
stride-destination false d e v = refl

-- the state past the op code
abbrev pub past_code : State → State
past_code s = with_pc s (plus s.regs.pc 2)

-- the state after an element that is not the last
abbrev pub once_more : BlockMove → ℕ → ℕ → State → State
once_more r i j s = with_pc (registers_moved r (past_code s) i j) s.regs.pc

-- s is the state at the op code
module _ (r : BlockMove) {i j : ℕ} (p : Plain i j) (s : State) where
  reg-past : (x : ℕ) → x ≤ 7 → reg (past_code s) x ≡ cond (eqb 7 x) (plus s.regs.pc 2) (reg s x)
  reg-past x l = reg-with s 7 (plus s.regs.pc 2) x (omega arith) l

  reg-element : (x : ℕ) → x ≤ 7 → reg (registers_moved r (past_code s) i j) x ≡ element_on (eqb 7 x) (eqb 0 x) (eqb i x) (eqb j x) r.source r.destination (plus s.regs.pc 2) (reg s x)
  reg-element x l = reg-counted r i j (omega arith) (omega arith) (past_code s) x l ∙ rw (reg-past x l)

  reg-once : (x : ℕ) → x ≤ 7 → reg (once_more r i j s) x ≡ cond (eqb 7 x) s.regs.pc (element_on (eqb 7 x) (eqb 0 x) (eqb i x) (eqb j x) r.source r.destination (plus s.regs.pc 2) (reg s x))
  reg-once x l = reg-with (registers_moved r (past_code s) i j) 7 s.regs.pc x (omega arith) l ∙ rw (reg-element x l)

  pub once-pc : (once_more r i j s).regs.pc ≡ s.regs.pc
  unfolding with_reg set_reg
  once-pc = refl

  pub once-count : reg (once_more r i j s) 0 ≡ plus (reg s 0) 65535
  once-count = reg-once 0 (omega arith) ∙ rw (ne_eqb i 0 (λ e. omega arith), ne_eqb j 0 (λ e. omega arith))

  pub counted-count : reg (registers_moved r (past_code s) i j) 0 ≡ plus (reg s 0) 65535
  counted-count = reg-element 0 (omega arith) ∙ rw (ne_eqb i 0 (λ e. omega arith), ne_eqb j 0 (λ e. omega arith))

  pub past-source : reg (past_code s) i ≡ reg s i
  past-source = reg-past i (omega arith) ∙ rw (ne_eqb 7 i (λ e. omega arith))

  pub past-destination : reg (past_code s) j ≡ reg s j
  past-destination = reg-past j (omega arith) ∙ rw (ne_eqb 7 j (λ e. omega arith))

  pub once-source : reg (once_more r i j s) i ≡ plus (reg s i) (source_by r i j)
  once-source =
      reg-once i (omega arith)
      ∙ rw (ne_eqb 7 i (λ e. omega arith), ne_eqb 0 i (λ e. omega arith), eq-eqb i i refl, eqb-sym j i) (stride-source (eqb i j) r.source r.destination (reg s i))

  pub once-destination : reg (once_more r i j s) j ≡ plus (reg s j) (destination_by r i j)
  once-destination =
      reg-once j (omega arith)
      ∙ rw (ne_eqb 7 j (λ e. omega arith), ne_eqb 0 j (λ e. omega arith), eq-eqb j j refl) (stride-destination (eqb i j) r.source r.destination (reg s j))

  once-else : (k : ℕ) → with_regs (state_moved r i j (suc k) (once_more r i j s)) (state_moved r i j (suc (suc k)) s).regs ≡ state_moved r i j (suc (suc k)) s
  unfolding state_moved registers_moved onward with_reg with_regs
  once-else k = refl

  -- what is left from there comes to what the whole comes to
  pub once_after : (k : ℕ) → state_moved r i j (suc k) (once_more r i j s) ≡ state_moved r i j (suc (suc k)) s
  once_after k =
      same-state (state_moved r i j (suc k) (once_more r i j s)) (state_moved r i j (suc (suc k)) s)
      (λ x l. reg-after r i j (omega arith) (omega arith) (suc k) (once_more r i j s) x l
      ∙ rw (reg-once x l, once-pc)
      (more (eqb 7 x) (eqb 0 x) (eqb i x) (eqb j x) k r.source r.destination (reg s x) (plus s.regs.pc 2) s.regs.pc _
      ∙ sym (reg-after r i j (omega arith) (omega arith) (suc (suc k)) s x l)))
      (once-else k)

  last_else : with_regs (registers_moved r (past_code s) i j) (state_moved r i j 1 s).regs ≡ state_moved r i j 1 s
  unfolding state_moved registers_moved onward with_reg with_regs
  last_else = refl

  -- the last element
  pub last-after : plus (reg s 0) 65535 ≡ 0 → registers_moved r (past_code s) i j ≡ state_moved r i j 1 s
  last-after z = same-state (registers_moved r (past_code s) i j) (state_moved r i j 1 s) (λ x l. reg-element x l ∙ at x (ℕ_discrete x 0) (ℕ_discrete x 7) ∙ sym (reg-after r i j (omega arith) (omega arith) 1 s x l)) last_else
    where
      at : (x : ℕ) → Dec (x ≡ 0) → Dec (x ≡ 7)
          → element_on (eqb 7 x) (eqb 0 x) (eqb i x) (eqb j x) r.source r.destination (plus s.regs.pc 2) (reg s x)
          ≡ cond (eqb 7 x) (plus s.regs.pc 2) (cond (eqb 0 x) 0 (bump (eqb i x) (eqb j x) (1 * r.source) (1 * r.destination) (reg s x)))
      at x (yes e) d = rw (e, ne_eqb i 0 (λ q. omega arith), ne_eqb j 0 (λ q. omega arith)) z
      at x (no n) (yes e) = rw (e, ne_eqb i 7 (λ q. omega arith), ne_eqb j 7 (λ q. omega arith))
      at x (no n) (no k) = rw (ne_eqb 7 x (λ q. k (sym q)), ne_eqb 0 x (λ q. n (sym q)), one-mul r.source, one-mul r.destination)
