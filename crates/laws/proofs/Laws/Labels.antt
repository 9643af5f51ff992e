-- The theorems that specs/Labels.antt states.
use Prim.Native.Nat.{ℕ, ◌+◌, ◌-◌, ◌*◌, ◌/◌, ◌%◌, ◌<◌, ◌≤◌}
use native.Mathlib.Omega.{arith}
use native.Mathlib.Decide.{ℕ_discrete, dec_lt}
use mathlib.Core.Bool.{true, false, cond}
use mathlib.Core.List.{List}
use mathlib.Core.Path.{◌≡◌, refl, sym, ap, ◌∙◌, subst}
use lib.Dec.{eqb}
use borrow.Author.Tests.{eqb-true, ne_eqb, ltb-true, lt-ltb}
use Rattle.wordmath.specs.Address.{plus, minus}
use Rattle.board.specs.Work.{value, image_word, fitted, writable, run, ◌>>=◌}
use Rattle.board.proofs.Laws.Alike.{found-value}
use Rattle.opcodes.specs.Fields.{high_byte, register, format9_code, offset}
use Rattle.plate.specs.Plate.{format_of}
use Rattle.plate.proofs.Laws.Plate.{Five, from-01, from-80, five}
use Rattle.state.specs.declared.State.{State}
use Rattle.state.specs.declared.Outside.{Outside}
use Rattle.state.specs.Registers.{reg_of, set_reg}
use Rattle.state.specs.State.{reg, heard, with_reg, with_flags, with_mark}
use Rattle.state.specs.Stack.{push_reg}
use Rattle.operand.specs.declared.Place.TheVariants.{Mem}
use Rattle.operand.specs.Operand.{Decoded, locate, indexed, indexed_deferred, deferred, moved, decode}
use Rattle.formats5to6.specs.Format5.{displacement}
use Rattle.formats5to6.proofs.Laws.Format5 as Twice
use Rattle.format9.specs.Format9.{jsr_at, jsr_to, jsr, lea_to, lea, sob, format9}
use Rattle.step.specs.Execute.{execute, by_format}
use Rattle.step.specs.Step.{step_of}
use Rattle.step.proofs.Laws.Late.{begins}
use Rattle.patchline.specs.Line.{is_branch, ahead, behind}
use Rattle.laws.specs.Branches.{lines, when_in}
use Rattle.laws.proofs.Laws.Branches.{branches-as-printed}
use Rattle.opcodes.proofs.Laws.Past.{Below, below}
use Rattle.laws.proofs.Laws.Marked.{code-work, plain-run}
use Rattle.laws.proofs.Laws.Mark.{turn_is}
use Rattle.laws.specs.Labels.{BranchComes, SobComes, JumpComes, OperandStands}

-- ---- numbers

joins : (p v : ℕ) → p < 65536 → v < 65536 → plus p (minus v p) ≡ v
joins p v l k = omega arith

parts : (p v : ℕ) → p < 65536 → v < 65536 → minus p (minus p v) ≡ v
parts p v l k = omega arith

even-ahead : (v h : ℕ) → v % 2 ≡ 0 → h % 2 ≡ 0 → ahead v h % 2 ≡ 0
even-ahead v h e f = omega arith

even-behind : (v h : ℕ) → v % 2 ≡ 0 → h % 2 ≡ 0 → behind v h % 2 ≡ 0
even-behind v h e f = omega arith

displacement-back : (op d : ℕ) → op % 256 ≡ d / 2 % 256 → d % 2 ≡ 0 → d < 65536 → plus d 256 < 512 → displacement op ≡ d
displacement-back op d e even word near = elim (dec_lt d 256) [ yes p ↦ low p | no p ↦ high p ]
  where
    low : d < 256 → displacement op ≡ d
    low p =
        let x : op % 256 ≡ d / 2 = omega (arith, e, p) in
        sym (Twice.ahead op (omega (arith, x, p))) ∙ omega (arith, x, even)

    high : (d < 256 → ⊥) → displacement op ≡ d
    high p =
        let far : 65280 ≤ d = omega (arith, near, word, p) in
        let x : op % 256 + 32512 ≡ d / 2 = omega (arith, e, far, word) in
        sym (Twice.behind op (omega (arith, x, far))) ∙ omega (arith, x, even)

-- ---- a branch

pub branch-comes : BranchComes
unfolding with_reg set_reg with_mark
branch-comes h v w third settings m map line s t n at label is empty near word yes-it-is =
    let d = ahead v h in
    let plate : format_of (high_byte w) ≡ 5 = eqb-true _ 5 is in
    let low = high-few w is in
    let op = plus w (d / 2 % 256) in
    let there : image_word m s.regs.pc ≡ op = ap (λ z. image_word m z) at.here ∙ word in
    let same : high_byte op ≡ high_byte w = field-high w (d / 2 % 256) empty low (low_byte (d / 2)) in
    let went = (branches-as-printed settings m map line s t n at.call at.runs at.done (ap (λ z. format_of (high_byte z)) there ∙ ap format_of same ∙ plate)).0 in
    let back : displacement op ≡ d = displacement-back op d (field-low w (d / 2 % 256) empty low (low_byte (d / 2))) (even-ahead v h label.even at.even) (low_word (v + 65536 - plus h 2)) (ltb-true _ 512 near) in
    ap (λ z. z.regs.pc) went
    ∙ ap (λ z. cond (when_in lines (high_byte z) s.flags) (plus (plus s.regs.pc 2) (displacement z)) (plus s.regs.pc 2)) there
    ∙ ap (λ z. cond z (plus (plus s.regs.pc 2) (displacement op)) (plus s.regs.pc 2)) (ap (λ z. when_in lines z s.flags) same ∙ yes-it-is)
    ∙ ap (λ z. plus (plus z 2) (displacement op)) at.here
    ∙ ap (λ z. plus (plus h 2) z) back
    ∙ joins (plus h 2) v (low_word (h + 2)) label.word
  where
    low_word : (x : ℕ) → x % 65536 < 65536
    low_word x = omega arith

    low_byte : (x : ℕ) → x % 256 < 256
    low_byte x = omega arith

    few : (h : ℕ) → Five h → h < 136
    few h (from-01 a b) = omega (arith, b)
    few h (from-80 j e l) = omega (arith, e, l)

    high-few : (w : ℕ) → is_branch w ≡ true → w / 256 < 136
    high-few w e = few (w / 256) (five (w / 256) (eqb-true _ 5 e))

    field-high : (w x : ℕ) → w % 256 ≡ 0 → w / 256 < 136 → x < 256 → plus w x / 256 ≡ w / 256
    field-high w x e l k = let z : plus w x ≡ w + x = omega arith in rw z (omega arith)

    field-low : (w x : ℕ) → w % 256 ≡ 0 → w / 256 < 136 → x < 256 → plus w x % 256 ≡ x
    field-low w x e l k = let z : plus w x ≡ w + x = omega arith in rw z (omega arith)

-- ---- SOB

nine-is : (op : ℕ) → op / 512 ≡ 59 → format_of (high_byte op) ≡ 9
unfolding format_of
nine-is op h = elim (ℕ_discrete (op / 256) 118) [ yes e ↦ at (op / 256) 118 e refl | no d ↦ at (op / 256) 119 (omega arith) refl ]
  where
    at : (a b : ℕ) → a ≡ b → format_of b ≡ 9 → format_of a ≡ 9
    at a b e q = rw e q

given : {x y : State} {k l : List ℕ} → value x k ≡ value y l → y ≡ x
given {x} {y} h = cc

sob-given : (map : List ℕ) (out : Outside) (s : State) (m : List ℕ) (t : State) (n : List ℕ) (op : ℕ) → op / 512 ≡ 59 → run map (execute out s op) m ≡ value t n → t ≡ sob s op
unfolding run by_format format9
sob-given map out s m t n op e h =
    let three : format9_code op ≡ 3 = omega (arith, e) in
    given (rw (nine-is op e, three) at h)

same-below : (s t : State) → t.regs.r0 ≡ s.regs.r0 → t.regs.r1 ≡ s.regs.r1 → t.regs.r2 ≡ s.regs.r2 → t.regs.r3 ≡ s.regs.r3 → t.regs.r4 ≡ s.regs.r4 → t.regs.r5 ≡ s.regs.r5 → t.regs.sp ≡ s.regs.sp
    → (k : ℕ) → k < 7 → reg t k ≡ reg s k
unfolding Below reg reg_of
same-below s t a b c d e f g = below (λ k. reg t k ≡ reg s k) 7 (((((((tt, a), b), c), d), e), f), g)

begins-keeps : (s : State) (k : ℕ) → k < 7 → reg (begins s) k ≡ reg s k
unfolding with_reg set_reg with_mark
begins-keeps s = same-below s _ refl refl refl refl refl refl refl

begins-pc : (s : State) → (begins s).regs.pc ≡ plus s.regs.pc 2
unfolding with_reg set_reg with_mark
begins-pc s = refl

sob-pc : (s : State) (op : ℕ) → register op < 7 → (minus (reg s (register op)) 1 ≡ 0 → ⊥) → (sob s op).regs.pc ≡ minus s.regs.pc (offset op * 2)
unfolding sob with_reg set_reg
sob-pc s op l some = rw (ne_eqb (minus (reg s (register op)) 1) 0 some, lt-ltb (register op) 7 l)

-- a field of six bits put into SOB
sob-sum : (w x : ℕ) → w / 512 ≡ 59 → x < 64 → plus w x ≡ w + x
sob-sum w x e l = omega arith

sob-code : (w x : ℕ) → w / 512 ≡ 59 → w % 64 ≡ 0 → x < 64 → plus w x / 512 ≡ 59
sob-code w x e f l = ap (λ z. z / 512) (sob-sum w x e l) ∙ top w x e f l
  where
    top : (w x : ℕ) → w / 512 ≡ 59 → w % 64 ≡ 0 → x < 64 → (w + x) / 512 ≡ 59
    top w x e f l = omega arith

sob-register : (w x : ℕ) → w / 512 ≡ 59 → w % 64 ≡ 0 → x < 64 → register (plus w x) ≡ register w
sob-register w x e f l = ap (λ z. z / 64 % 8) (sob-sum w x e l) ∙ ap (λ z. z % 8) (same w x f l)
  where
    same : (w x : ℕ) → w % 64 ≡ 0 → x < 64 → (w + x) / 64 ≡ w / 64
    same w x f l = omega arith

sob-field : (w x : ℕ) → w / 512 ≡ 59 → w % 64 ≡ 0 → x < 64 → offset (plus w x) ≡ x
sob-field w x e f l = ap (λ z. z % 64) (sob-sum w x e l) ∙ low w x f l
  where
    low : (w x : ℕ) → w % 64 ≡ 0 → x < 64 → (w + x) % 64 ≡ x
    low w x f l = omega arith

mod-64 : (x : ℕ) → x % 64 < 64
mod-64 x = omega arith

half-few : (d : ℕ) → d < 128 → d / 2 % 64 ≡ d / 2
half-few d l = omega arith

not_five : (op : ℕ) → op / 512 ≡ 59 → op ≡ 5 → ⊥
not_five op e z = omega arith

word_below : (h : ℕ) → plus h 2 < 65536
word_below h = omega arith

register-below : (op : ℕ) → register op < 8
register-below op = omega arith

pub sob-comes : SobComes
sob-comes h v w third settings m map line s t n at label is empty near word not-pc some =
    let d = behind v h in
    let out = heard settings line in
    let op = plus w (d / 2 % 64) in
    let top : w / 512 ≡ 59 = eqb-true _ 59 is in
    let there : image_word m s.regs.pc ≡ op = ap (λ z. image_word m z) at.here ∙ word in
    let few : d < 128 = ltb-true d 128 near in
    let code : op / 512 ≡ 59 = sob-code w (d / 2 % 64) top empty (mod-64 (d / 2)) in
    let r : register op ≡ register w = sob-register w (d / 2 % 64) top empty (mod-64 (d / 2)) in
    let field : offset op ≡ d / 2 = sob-field w (d / 2 % 64) top empty (mod-64 (d / 2)) ∙ half-few d few in
    let low : register op < 7 = below-seven (register op) (register-below op) (λ z. not-pc (sym r ∙ z)) in
    let is = turn_is settings m map line s t n at.call in
    let a = step_of map out s m in
    let work = plain-run map out s m a.state a.image (ap (λ z. eqb z 5) there ∙ ne_eqb op 5 (not_five op code)) (code-work map out s m at.runs (sym is.1 ∙ at.done)) in
    let went : a.state ≡ sob (begins s) op = sob-given map out (begins s) m a.state a.image op code (subst (λ (x : ℕ). run map (execute out (begins s) x) m ≡ value a.state a.image) there work) in
    let count : reg (begins s) (register op) ≡ reg s (register w) = begins-keeps s (register op) low ∙ ap (λ z. reg s z) r in
    ap (λ z. z.regs.pc) (is.0 ∙ went)
    ∙ sob-pc (begins s) op low (λ z. some (ap (λ y. minus y 1) (sym count) ∙ z))
    ∙ ap (λ z. minus z (offset op * 2)) (begins-pc s ∙ ap (λ z. plus z 2) at.here)
    ∙ ap (λ z. minus (plus h 2) z) (ap (λ z. z * 2) field ∙ twice_half d (even-behind v h label.even at.even))
    ∙ parts (plus h 2) v (word_below h) label.word
  where
    below-seven : (k : ℕ) → k < 8 → (k ≡ 7 → ⊥) → k < 7
    below-seven k l d = elim (ℕ_discrete k 7) [ yes e ↦ absurd (d e) | no e ↦ omega arith ]

    twice_half : (d : ℕ) → d % 2 ≡ 0 → d / 2 * 2 ≡ d
    twice_half d e = omega arith

-- ---- JMP and CALL

lea-pc : (map : List ℕ) (out : Outside) (s : State) (m : List ℕ) (t : State) (n : List ℕ) → run map (execute out s 0x73F7) m ≡ value t n → t.regs.pc ≡ plus (plus s.regs.pc 2) (image_word m s.regs.pc)
unfolding run by_format format_of format9 lea lea_to decode locate indexed moved ◌>>=◌ with_reg set_reg with_flags
lea-pc map out s m t n h = ap (λ z. z.regs.pc) (given (found-value (fitted map s.regs.pc) s.regs.pc _ t n h).1)

jsr-pc : (map : List ℕ) (out : Outside) (s : State) (m : List ℕ) (t : State) (n : List ℕ) → run map (execute out s 0x71F7) m ≡ value t n → t.regs.pc ≡ plus (plus s.regs.pc 2) (image_word m s.regs.pc)
unfolding run by_format format_of format9 jsr jsr_to jsr_at push_reg decode locate indexed moved ◌>>=◌ with_reg set_reg with_flags
jsr-pc map out s m t n h =
    let one = (found-value (fitted map s.regs.pc) s.regs.pc _ t n h).1 in
    ap (λ z. z.regs.pc) (given (found-value (writable map (minus s.regs.sp 2)) (minus s.regs.sp 2) _ t n one).1)

-- an op code whose own work comes to its operand's address
module _ (code : ℕ) (other : eqb code 5 ≡ false)
    (comes : (map : List ℕ) (out : Outside) (s : State) (m : List ℕ) (t : State) (n : List ℕ) → run map (execute out s code) m ≡ value t n → t.regs.pc ≡ plus (plus s.regs.pc 2) (image_word m s.regs.pc)) where
  jumps : JumpComes code
  jumps h v settings m map line s t n at label word offset =
      let out = heard settings line in
      let is = turn_is settings m map line s t n at.call in
      let a = step_of map out s m in
      let there : image_word m s.regs.pc ≡ code = ap (λ z. image_word m z) at.here ∙ word in
      let work = plain-run map out s m a.state a.image (ap (λ z. eqb z 5) there ∙ other) (code-work map out s m at.runs (sym is.1 ∙ at.done)) in
      let pc : (begins s).regs.pc ≡ plus h 2 = begins-pc s ∙ ap (λ z. plus z 2) at.here in
      ap (λ z. z.regs.pc) is.0
      ∙ comes map out (begins s) m a.state a.image (subst (λ (x : ℕ). run map (execute out (begins s) x) m ≡ value a.state a.image) there work)
      ∙ ap (λ z. plus (plus z 2) (image_word m z)) pc
      ∙ ap (λ z. plus (plus (plus h 2) 2) z) offset
      ∙ lands h v label.word
    where
      lands : (h v : ℕ) → v < 65536 → plus (plus (plus h 2) 2) (minus v (plus h 4)) ≡ v
      lands h v l = let z : plus (plus h 2) 2 ≡ plus h 4 = omega arith in rw z (joins (plus h 4) v (omega arith) l)

pub jump-comes : JumpComes 0x73F7
jump-comes = jumps 0x73F7 refl lea-pc

pub call-comes : JumpComes 0x71F7
call-comes = jumps 0x71F7 refl jsr-pc

-- ---- an operand

seen-given : {x y : Decoded} {k l : List ℕ} → value x k ≡ value y l → y ≡ x
seen-given {x} {y} h = cc

pub operand-stands : OperandStands
unfolding run decode locate indexed indexed_deferred deferred ◌>>=◌
operand-stands z v map s m o n label word =
    let pc = s.regs.pc in
    let lands : plus (plus pc 2) (image_word m pc) ≡ v = ap (λ x. plus (plus pc 2) x) word ∙ joins (plus pc 2) v (omega arith) label.word in (
      λ h. ap (λ x. x.place) (seen-given (found-value (fitted map pc) pc _ o n h).1) ∙ ap (λ x. Mem x 7 (plus pc 2)) lands,
      λ h. ap (λ x. x.place) (seen-given (found-value (fitted map (plus (plus pc 2) (image_word m pc))) (plus (plus pc 2) (image_word m pc)) _ o n (found-value (fitted map pc) pc _ o n h).1).1)
          ∙ ap (λ x. Mem (image_word m x) 7 (plus pc 2)) lands,
    )
