-- Laws of the forms of operands: which form each is, and how long.
use Rattle.std.proofs.Common.{◌≡◌, ℕ, ◌/◌, ◌%◌, ◌<◌, ◌≤◌, true, false, eqb, List, [], ◌∷◌, length, refl, ap, ◌∙◌, arith, ne_eqb}
use Prim.Native.Char.{code}
use Rattle.optext.proofs.Laws.Choose.{choose}
use Rattle.optext.specs.declared.rows.OperandKind.{OperandKind}
use Rattle.optext.specs.declared.rows.OperandKind.TheVariants.{None, Mask, Disp, Reg, Arg4, Arg6, Count, High, Mid, Dst, Addr, Src, Word}
use Rattle.hexdigits.specs.Digits.{hex4, hex2}
use Rattle.hexdigits.specs.Over.{Wrote, text_left, written}
use Rattle.hexdigits.proofs.Laws.Laid.{wrote-fits}
use Rattle.optext.specs.Rows.{row_count, name_of}
use Rattle.optext.proofs.Laws.Table.{name-le}
use Rattle.optext.specs.Line.{reg_text, up_text, literal_text, down_text, offset_text, plain_text, mode_text, mode_takes, operand_text, takes, is_shown, sep_text}

pub plain-reg : (p r x : ℕ) → p ≡ 0 → plain_text p r x ≡ reg_text r
unfolding plain_text
plain-reg p r x h = rw h refl

pub plain-pc : (p r x : ℕ) → p ≡ 1 → r ≡ 7 → plain_text p r x ≡ literal_text x
unfolding plain_text
plain-pc p r x h g = rw (h, g) refl

pub plain-up : (p r x : ℕ) → p ≡ 1 → (r ≡ 7 → ⊥) → plain_text p r x ≡ up_text r
unfolding plain_text
plain-up p r x h g = rw (h, ne_eqb r 7 g) refl

pub plain_down : (p r x : ℕ) → p ≡ 2 → plain_text p r x ≡ down_text r
unfolding plain_text
plain_down p r x h = rw h refl

pub plain-offset : (p r x : ℕ) → (p ≡ 0 → ⊥) → (p ≡ 1 → ⊥) → (p ≡ 2 → ⊥) → plain_text p r x ≡ offset_text r x
unfolding plain_text
plain-offset p r x h g k = rw (ne_eqb p 0 h, ne_eqb p 1 g, ne_eqb p 2 k) refl

pub mode-plain : (f x : ℕ) → f / 8 % 2 ≡ 0 → mode_text f x ≡ plain_text (f / 16) (f % 8) x
unfolding mode_text
mode-plain f x h = rw h refl

pub mode-at : (f x : ℕ) → (f / 8 % 2 ≡ 0 → ⊥) → mode_text f x ≡ code "@" ∷ plain_text (f / 16) (f % 8) x
unfolding mode_text
mode-at f x h = rw (ne_eqb (f / 8 % 2) 0 h) refl

pub sep-none : (s : ℕ) (k : OperandKind) (w x : ℕ) → is_shown k ≡ false → sep_text s k w x ≡ []
unfolding sep_text
sep-none s k w x h = rw h refl

pub sep-some : (s : ℕ) (k : OperandKind) (w x : ℕ) → is_shown k ≡ true → sep_text s k w x ≡ s ∷ operand_text k w x
unfolding sep_text
sep-some s k w x h = rw h refl

pub plain-elim : (P : List ℕ → Type 0) (p r x : ℕ) → P (reg_text r) → P (literal_text x) → P (up_text r) → P (down_text r) → P (offset_text r x) → P (plain_text p r x)
unfolding plain_text
plain-elim P p r x a b c d e = choose P (eqb p 0) _ _ a (choose P (eqb p 1) _ _ (choose P (eqb r 7) _ _ b c) (choose P (eqb p 2) _ _ d e))

-- lengths
pub plain-le : (p r x : ℕ) → length (plain_text p r x) ≤ 8
unfolding reg_text up_text literal_text down_text offset_text hex4
plain-le p r x = plain-elim (λ (s : List ℕ). length s ≤ 8) p r x (omega arith) (omega arith) (omega arith) (omega arith) (omega arith)

pub mode-le : (f x : ℕ) → length (mode_text f x) ≤ 9
unfolding mode_text
mode-le f x =
    let h = plain-le (f / 16) (f % 8) x in
    choose (λ (s : List ℕ). length s ≤ 9) (eqb (f / 8 % 2) 0) _ _ (omega arith) (omega arith)

pub operand-le : (k : OperandKind) (w x : ℕ) → length (operand_text k w x) ≤ 9
unfolding hex4 hex2 reg_text
operand-le None w x = omega arith
operand-le Mask w x = omega arith
operand-le Disp w x = omega arith
operand-le Reg w x = omega arith
operand-le Arg4 w x = omega arith
operand-le Arg6 w x = omega arith
operand-le Count w x = omega arith
operand-le High w x = omega arith
operand-le Mid w x = omega arith
operand-le Dst w x = mode-le (w % 64) x
operand-le Addr w x = mode-le (w % 64) x
operand-le Src w x = mode-le (w / 64 % 64) x
operand-le Word w x = omega arith

pub sep-le : (s : ℕ) (k : OperandKind) (w x : ℕ) → length (sep_text s k w x) ≤ 10
unfolding sep_text
sep-le s k w x =
    let h = operand-le k w x in
    choose (λ (s : List ℕ). length s ≤ 10) (is_shown k) _ _ (omega arith) (omega arith)

-- an operand takes at most one word
abbrev One : ℕ → Type 0
One n = n ≤ 1

pub mode-takes-le : (f : ℕ) → mode_takes f ≤ 1
unfolding mode_takes
mode-takes-le f = choose One (eqb (f / 16) 3) _ _ (omega arith) (choose One (eqb (f / 16) 1) _ _ (choose One (eqb (f % 8) 7) _ _ (omega arith) (omega arith)) (omega arith))

pub takes-le : (k : OperandKind) (w : ℕ) → takes k w ≤ 1
takes-le None w = omega arith
takes-le Mask w = omega arith
takes-le Disp w = omega arith
takes-le Reg w = omega arith
takes-le Arg4 w = omega arith
takes-le Arg6 w = omega arith
takes-le Count w = omega arith
takes-le High w = omega arith
takes-le Mid w = omega arith
takes-le Dst w = mode-takes-le (w % 64)
takes-le Addr w = mode-takes-le (w % 64)
takes-le Src w = mode-takes-le (w / 64 % 64)
takes-le Word w = omega arith

-- a row's mnemonic, where there is room
pub name_wrote : (k : ℕ) (t b e : List ℕ) (n : ℕ) → k < row_count → 32 ≤ length b → t ≡ name_of k → text_left n e ≡ written t b → Wrote (name_of k) b e n
name_wrote k t b e n h g q w = wrote-fits (name_of k) b e n (omega (arith, name-le k h, g)) (w ∙ ap (λ (l : List ℕ). written l b) q)
