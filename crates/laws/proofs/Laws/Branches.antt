-- The theorem that specs/Branches.antt states.
use Prim.Native.Nat.{ℕ, ◌+◌, ◌*◌, ◌/◌, ◌%◌, ◌≤◌, ◌-◌}
use native.Mathlib.Omega.{arith}
use mathlib.Core.Bool.{Bool, true, false, cond}
use mathlib.Core.List.{List}
use mathlib.Core.List as List
use mathlib.Core.Path.{◌≡◌, refl, sym, ap, ◌∙◌, subst}
use lib.Dec.{eqb}
use lib.ListN.{get_or}
use borrow.Author.Tests.{ne_eqb}
use Rattle.wordmath.specs.declared.Flags.{Flags}
use Rattle.wordmath.specs.Address.{plus}
use Rattle.arith.specs.Branch.{branch_taken}
use Rattle.arith.proofs.Laws.Printed.{numbers, printed, as-printed}
use Rattle.board.specs.Work.{value, image_word, run}
use Rattle.plate.specs.Plate.{format_of}
use Rattle.plate.proofs.Laws.Plate.{Five, from-01, from-80, five}
use Rattle.opcodes.specs.Fields.{high_byte}
use Rattle.formats5to6.specs.Format5.{displacement, branch_number, branch}
use Rattle.state.specs.declared.State.{State}
use Rattle.state.specs.declared.Outside.{Outside}
use Rattle.state.specs.State.{heard, with_reg, with_pc, with_mark}
use Rattle.state.specs.Registers.{set_reg}
use Rattle.step.specs.Execute.{execute, by_format}
use Rattle.step.specs.Xct.{op_work}
use Rattle.laws.specs.Branches.{lines, when_in, branched, BranchesAsPrinted, Wd16BranchesAsPrinted}
use Rattle.opcodes.proofs.Laws.Past.{Below, below}
use Rattle.laws.proofs.Laws.Marked.{code-work, plain-run}
use Rattle.step.proofs.Laws.Late.{begins}
use Rattle.laws.proofs.Laws.Mark.{turn_is}
use Rattle.machine_c.specs.Layout.{state_from, settings_from}
use Rattle.laws.proofs.Laws.Calls.{step-done, cause-0}

-- ---- each printed line, by its number

printed-at : (k : ℕ) (f : Flags) → get_or (List.map (λ k. branch_taken k f) numbers) k false ≡ get_or (printed f) k false
printed-at k f = ap (λ xs. get_or xs k false) (as-printed f)

low-printed : (f : Flags) → Below (λ h. 1 ≤ h → branch_taken (h % 8 + h / 128 * 8) f ≡ when_in lines h f) 8
unfolding Below
low-printed f = ((((((((tt, λ l. absurd (omega arith)), λ l. printed-at 1 f), λ l. printed-at 2 f), λ l. printed-at 3 f), λ l. printed-at 4 f), λ l. printed-at 5 f), λ l. printed-at 6 f), λ l. printed-at 7 f)

high-printed : (f : Flags) → Below (λ j. branch_taken ((0x80 + j) % 8 + (0x80 + j) / 128 * 8) f ≡ when_in lines (0x80 + j) f) 8
unfolding Below
high-printed f = ((((((((tt, printed-at 8 f), printed-at 9 f), printed-at 10 f), printed-at 11 f), printed-at 12 f), printed-at 13 f), printed-at 14 f), printed-at 15 f)

printed-line : (h : ℕ) (f : Flags) → Five h → branch_taken (h % 8 + h / 128 * 8) f ≡ when_in lines h f
printed-line h f (from-01 a b) = below (λ h. 1 ≤ h → branch_taken (h % 8 + h / 128 * 8) f ≡ when_in lines h f) 8 (low-printed f) h b a
printed-line h f (from-80 j e l) =
    subst (λ (x : ℕ). branch_taken (x % 8 + x / 128 * 8) f ≡ when_in lines x f) (sym e)
    (below (λ j. branch_taken ((0x80 + j) % 8 + (0x80 + j) / 128 * 8) f ≡ when_in lines (0x80 + j) f) 8 (high-printed f) j l)

pub taken-printed : (op : ℕ) (f : Flags) → format_of (high_byte op) ≡ 5 → branch_taken (branch_number op) f ≡ when_in lines (high_byte op) f
taken-printed op f e =
    let number : branch_number op ≡ op / 256 % 8 + op / 256 / 128 * 8 = omega arith in
    ap (λ k. branch_taken k f) number ∙ printed-line (op / 256) f (five (op / 256) e)

-- ---- the step

branch-is : (op : ℕ) (s : State) → format_of (high_byte op) ≡ 5 → branch (with_mark (with_pc s (plus s.regs.pc 2)) false) op ≡ branched op s
unfolding branch with_reg with_mark set_reg
branch-is op s e = by (branch_taken (branch_number op) s.flags) (when_in lines (high_byte op) s.flags) (taken-printed op s.flags e)
  where
    by : (b c : Bool) → b ≡ c → (let u = with_mark (with_pc s (plus s.regs.pc 2)) false in cond b (with_pc u (plus u.regs.pc (displacement op))) u)
        ≡ (let past = plus s.regs.pc 2 in with_mark (with_pc s (cond c (plus past (displacement op)) past)) false)
    by true true e = refl
    by false false e = refl
    by true false e = let z : ◌≡◌ {A = ℕ} 0 1 = cc in absurd (omega arith)
    by false true e = let z : ◌≡◌ {A = ℕ} 0 1 = cc in absurd (omega arith)

five-not-xct : (op : ℕ) → format_of (high_byte op) ≡ 5 → eqb op 5 ≡ false
five-not-xct op e = by (five (op / 256) e)
  where
    by : Five (op / 256) → eqb op 5 ≡ false
    by (from-01 a b) = ne_eqb op 5 (λ z. omega arith)
    by (from-80 j q l) = ne_eqb op 5 (λ z. omega arith)

branch-given : (map : List ℕ) (out : Outside) (s : State) (m : List ℕ) (t : State) (n : List ℕ) (op : ℕ) → format_of (high_byte op) ≡ 5
    → run map (execute out s op) m ≡ value t n → (t ≡ branch s op) × (n ≡ m)
unfolding run by_format
branch-given map out s m t n op e h = given (rw e at h)
  where
    given : {x y : State} {k l : List ℕ} → value x k ≡ value y l → (y ≡ x) × (l ≡ k)
    given {x} {y} {k} {l} h = let p : y ≡ x = cc in let q : l ≡ k = cc in (p, q)

branch-work : (map : List ℕ) (out : Outside) (s : State) (m : List ℕ) (t : State) (n : List ℕ) → format_of (high_byte (image_word m s.regs.pc)) ≡ 5
    → run map (op_work out s) m ≡ value t n → (t ≡ branched (image_word m s.regs.pc) s) × (n ≡ m)
branch-work map out s m t n e h =
    let op = image_word m s.regs.pc in
    let b = branch-given map out (begins s) m t n op e (plain-run map out s m t n (five-not-xct op e) h) in
    (b.0 ∙ branch-is op s e, b.1)

pub branches-as-printed : BranchesAsPrinted
branches-as-printed settings m map line s t n e runs c five =
    let is = turn_is settings m map line s t n e in
    let out = heard settings line in
    let b = branch-work map out s m _ _ five (code-work map out s m runs (sym is.1 ∙ c)) in
    (is.0 ∙ b.0, is.2 ∙ b.1)

pub wd16-branches-as-printed : Wd16BranchesAsPrinted
wd16-branches-as-printed w b m map line b' m' e runs zero five =
    let d = step-done w b m map line b' m' e in
    let x = branches-as-printed (settings_from w) m map line (state_from b) d.turn m' d.page runs (cause-0 d.turn.cause (sym d.cause ∙ zero)) five in
    (d.state ∙ x.0, x.1)
