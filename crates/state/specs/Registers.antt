-- The registers by number: R0 to R5 are 0 to 5, SP is 6, PC is 7. Any number over 6 stands for PC.
use Rattle.std.specs.Prelude.{ℕ, cond, [], ◌∷◌, get_or, eqb, ltb}
use Rattle.state.specs.declared.Regs.{Regs}

unfoldable pub reg_of : Regs → ℕ → ℕ
reg_of s k = get_or (s.r0 ∷ s.r1 ∷ s.r2 ∷ s.r3 ∷ s.r4 ∷ s.r5 ∷ s.sp ∷ []) k s.pc

unfoldable pub set_reg : Regs → ℕ → ℕ → Regs
set_reg s k v =
    let here : ℕ → ℕ → ℕ = λ i old. cond (eqb k i) v old in
    record {
      r0 = here 0 s.r0;
      r1 = here 1 s.r1;
      r2 = here 2 s.r2;
      r3 = here 3 s.r3;
      r4 = here 4 s.r4;
      r5 = here 5 s.r5;
      sp = here 6 s.sp;
      pc = cond (ltb k 7) s.pc v;
    }
