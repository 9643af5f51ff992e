-- What the step executes for the words of a row, by the row's base: for each format, the bits that are no operand's say which op code it is.
use Prim.Native.Nat.{ℕ, zero, suc, ◌+◌, ◌*◌, ◌/◌, ◌%◌, ◌<◌, ◌≤◌}
use native.Mathlib.Omega.{arith}
use mathlib.Core.Bool.{Bool, true, false, ◌&&◌, cond}
use mathlib.Core.Path.{◌≡◌, refl, sym, ap, ◌∙◌, subst}
use native.Mathlib.Decide.{ℕ_discrete}
use lib.Dec.{eqb, ltb}
use lib.ListN.{get_or}
use borrow.Author.Tests.{lt-ltb, le-ltb, eqb-true, ltb-true, ltb-false}
use Rattle.wordmath.specs.Address.{plus, minus}
use Rattle.opcodes.specs.Codes.{immediate_at, way_at, binary_at, byte_binary_at}
use Rattle.opcodes.specs.Fields.{high_byte, only_register, argument, register, count, block_source, block_destination}
use Rattle.plate.specs.Plate.{format_of}
use Rattle.arith.specs.Immediate.{immediate_of}
use Rattle.shift.specs.Shifted.{single_of, double_of, preset}
use Rattle.unary.specs.Ops.{sbc_of}
use Rattle.board.specs.Work.{Work, give, word}
use Rattle.state.specs.declared.State.{State}
use Rattle.state.specs.declared.Outside.{Outside}
use Rattle.state.specs.State.{reg, next, with_pc, with_flags, with_done, with_pair}
use Rattle.formats2to4.specs.Low.{formats2to4, low_codes}
use Rattle.formats2to4.specs.Format2.{prtn, codes2, lcc, format2}
use Rattle.formats2to4.specs.Format4.{svc, codes4, format4}
use Rattle.formats5to6.specs.Format5.{displacement, branch}
use Rattle.formats5to6.specs.Format6.{immediate, single, double, format6}
use Rattle.format7.specs.Format7.{modify, tjmp, column0_a, column8_a, column_row, format7}
use Rattle.format7.proofs.Laws.Columns.{row_is}
use Rattle.format8.specs.Format8.{row_at, element}
use Rattle.format9.specs.Format9.{div, codes9, format9}
use Rattle.format10.specs.Format10.{on_words, on_bytes, format10}
use Rattle.step.specs.Execute.{execute, by_format}
use Rattle.laws.proofs.Laws.Branches.{taken-printed}
use Rattle.step.proofs.Laws.Block.{executes}
use Rattle.laws.specs.Branches.{lines, when_in}

-- ---- a group of high bytes has one format, by computation

abbrev each : (ℕ → Bool) → ℕ → Bool
each p zero = true
each p (suc n) = p n && each p n

each_at : (p : ℕ → Bool) (n : ℕ) → each p n ≡ true → (k : ℕ) → k < n → p k ≡ true
each_at p zero e k h = absurd (omega (arith, h))
each_at p (suc n) e k h =
    let b = both (p n) (each p n) e in
    elim (ℕ_discrete k n) [ yes q ↦ subst (λ (x : ℕ). p x ≡ true) (sym q) b.0 | no d ↦ each_at p n b.1 k (omega (arith, h, d)) ]
  where
    both : (a c : Bool) → (a && c) ≡ true → (a ≡ true) × (c ≡ true)
    both true c q = (refl, q)
    both false c q = let z : ◌≡◌ {A = ℕ} 0 1 = cc in absurd (omega (arith, z))

-- the high bytes from k * n on, n of them
abbrev Group : ℕ → ℕ → ℕ → Type 0
Group n k f = each (λ j. eqb (format_of (k * n + j)) f) n ≡ true

group : (n k f h j : ℕ) → h ≡ k * n + j → j < n → Group n k f → format_of h ≡ f
group n k f h j e l g = ap format_of e ∙ eqb-true (format_of (k * n + j)) f (each_at (λ j. eqb (format_of (k * n + j)) f) n g j l)

-- an op code is below a bound where its leading bits are
below_at : (op d k n : ℕ) → (ltb k n ≡ true → op < n * d) → (ltb k n ≡ false → n * d ≤ op) → ltb op (n * d) ≡ ltb k n
below_at op d k n l g = by (ltb k n) refl
  where
    by : (t : Bool) → ltb k n ≡ t → ltb op (n * d) ≡ t
    by true e = lt-ltb op (n * d) (l e)
    by false e = le-ltb op (n * d) (g e)

module _ (out : Outside) (s : State) where
  -- ---- formats 2, 3 and 4: the high byte is 00

  abbrev pub two_at : ℕ → ℕ → Work State
  two_at k op = get_or (codes2 out s (only_register op)) (minus k 2) (prtn s (only_register op))

  pub two : (b op : ℕ) → 2 ≤ b / 8 → b / 8 < 6 → b % 8 ≡ 0 → b + op % 8 + 0 ≡ op → (format_of (high_byte op) ≡ 1) × (execute out s op ≡ two_at (b / 8) op)
  unfolding format_of by_format low_codes formats2to4 format2
  two b op l u z i =
      let k : op / 8 ≡ b / 8 = omega (arith, z, i) in
      let h : op / 256 ≡ 0 = omega (arith, u, k) in
      (rw h refl, rw (h, le-ltb op 0x10 (omega (arith, l, k)), lt-ltb op 0x30 (omega (arith, u, k)), k) refl)

  pub three : (op : ℕ) → 0x30 + op % 16 + 0 ≡ op → (format_of (high_byte op) ≡ 1) × (execute out s op ≡ give (lcc s op))
  unfolding format_of by_format low_codes formats2to4
  three op i =
      let h : op / 256 ≡ 0 = omega (arith, i) in
      (rw h refl, rw (h, le-ltb op 0x10 (omega (arith, i)), le-ltb op 0x30 (omega (arith, i)), lt-ltb op 0x40 (omega (arith, i))) refl)

  abbrev pub four_at : ℕ → ℕ → Work State
  four_at k op = get_or (codes4 out s (argument op)) (minus k 1) (svc out s (argument op) 0x26)

  pub four : (b op : ℕ) → 1 ≤ b / 64 → b / 64 < 4 → b % 64 ≡ 0 → b + op % 64 + 0 ≡ op → (format_of (high_byte op) ≡ 1) × (execute out s op ≡ four_at (b / 64) op)
  unfolding format_of by_format low_codes formats2to4 format4
  four b op l u z i =
      let k : op / 64 ≡ b / 64 = omega (arith, z, i) in
      let h : op / 256 ≡ 0 = omega (arith, u, k) in
      (rw h refl, rw (h, le-ltb op 0x10 (omega (arith, l, k)), le-ltb op 0x30 (omega (arith, l, k)), le-ltb op 0x40 (omega (arith, l, k)), k) refl)

  -- ---- format 5: the high byte

  abbrev pub five_at : ℕ → ℕ → Work State
  five_at h op = give (cond (when_in lines h s.flags) (with_pc s (plus s.regs.pc (displacement op))) s)

  pub five : (b op : ℕ) → format_of (b / 256) ≡ 5 → b % 256 ≡ 0 → b + op % 256 + 0 ≡ op → (format_of (high_byte op) ≡ 5) × (execute out s op ≡ five_at (b / 256) op)
  unfolding by_format branch
  five b op p z i =
      let h : op / 256 ≡ b / 256 = omega (arith, z, i) in
      let e : format_of (op / 256) ≡ 5 = ap format_of h ∙ p in
      let t = taken-printed op s.flags e ∙ ap (λ (x : ℕ). when_in lines x s.flags) h in
      (e, rw (e, t) refl)

  -- ---- format 6: bits 15 to 9, and bits 5 and 4

  abbrev pub Six : ℕ → ℕ → Type 0
  Six b op = (op / 512 ≡ b / 512) × (op / 16 % 4 ≡ b / 16 % 4)

  pub six-is : (b op : ℕ) → b / 64 % 8 ≡ 0 → b % 16 ≡ 0 → b + op % 16 + op / 64 % 8 * 64 ≡ op → Six b op
  six-is b op y z i =
      let p : b ≡ b / 512 * 512 + b / 16 % 4 * 16 = apart b y z in
      parts op (b / 512) (op / 64 % 8) (b / 16 % 4) (op % 16) (omega (arith, p, i)) (omega arith) (omega arith) (omega arith)
    where
      apart : (b : ℕ) → b / 64 % 8 ≡ 0 → b % 16 ≡ 0 → b ≡ b / 512 * 512 + b / 16 % 4 * 16
      apart b y z =
          let h : b / 64 ≡ b / 512 * 8 = omega (arith, y) in
          let l : b / 16 ≡ b / 64 * 4 + b / 16 % 4 = omega arith in
          let n : b ≡ b / 16 * 16 = omega (arith, z) in
          omega (arith, h, l, n)

      parts : (op q r t c : ℕ) → op ≡ q * 512 + r * 64 + t * 16 + c → r < 8 → t < 4 → c < 16 → (op / 512 ≡ q) × (op / 16 % 4 ≡ t)
      parts op q r t c e lr lt lc =
          let n : op / 16 ≡ q * 32 + r * 4 + t = omega (arith, e, lc) in
          (omega (arith, e, lr, lt, lc), rw n (omega (arith, lt)))

  six-format : (b op : ℕ) → Six b op → Group 2 (b / 512) 6 → format_of (op / 256) ≡ 6
  six-format b op x g = group 2 (b / 512) 6 (op / 256) (op / 256 % 2) (omega (arith, x.0)) (omega arith) g

  abbrev pub immediately : ℕ → ℕ → Work State
  immediately k op = give (with_done s (register op) (immediate_of (immediate_at k) (count op) (reg s (register op)) s.flags))

  pub immediates : (b op : ℕ) → Six b op → b / 512 ≡ 4 → Group 2 (b / 512) 6 → (format_of (high_byte op) ≡ 6) × (execute out s op ≡ immediately (b / 16 % 4) op)
  unfolding by_format format6 immediate
  immediates b op x q g =
      let e = six-format b op x g in
      (e, rw (e, lt-ltb op 0x8000 (omega (arith, x.0, q)), x.1) refl)

  abbrev pub singly : ℕ → ℕ → Work State
  singly k op = give (with_done s (register op) (single_of (way_at k) (count op) (reg s (register op)) s.flags))

  pub singles : (b op : ℕ) → Six b op → b / 512 ≡ 0x44 → Group 2 (b / 512) 6 → (format_of (high_byte op) ≡ 6) × (execute out s op ≡ singly (b / 16 % 4) op)
  unfolding by_format format6 single
  singles b op x q g =
      let e = six-format b op x g in
      (e, rw (e, le-ltb op 0x8000 (omega (arith, x.0, q)), lt-ltb op 0x8a00 (omega (arith, x.0, q)), x.1) refl)

  abbrev pub doubly : ℕ → ℕ → Work State
  doubly k op = give (with_pair s (register op) (double_of (way_at k) (count op) (reg s (register op)) (reg s (next (register op))) s.flags))

  pub doubles : (b op : ℕ) → Six b op → b / 512 ≡ 0x47 → Group 2 (b / 512) 6 → (format_of (high_byte op) ≡ 6) × (execute out s op ≡ doubly (b / 16 % 4) op)
  unfolding by_format format6 double
  doubles b op x q g =
      let e = six-format b op x g in
      (e, rw (e, le-ltb op 0x8000 (omega (arith, x.0, q)), le-ltb op 0x8a00 (omega (arith, x.0, q)), x.1) refl)

  -- ---- format 7: bits 15 to 6. `low`: the op code is one from 0A00, not one from 8A00

  abbrev seven_by : Bool → ℕ → ℕ → Work State
  seven_by low row op = cond low (get_or (column0_a s op) row (tjmp s op)) (get_or (column8_a out s op) row (modify word sbc_of s op))

  seven-by : (op : ℕ) → format7 out s op ≡ seven_by (ltb op 0x8000) (column_row op) op
  unfolding format7
  seven-by op = refl

  abbrev pub seven_at : ℕ → ℕ → Work State
  seven_at k op = seven_by (ltb k 512) ((k % 512 + 984) % 1024) op

  pub seven : (b op : ℕ) → format_of (b / 256) ≡ 7 → b % 64 ≡ 0 → b + op % 64 + 0 ≡ op → (format_of (high_byte op) ≡ 7) × (execute out s op ≡ seven_at (b / 64) op)
  unfolding by_format
  seven b op p z i =
      let k : op / 64 ≡ b / 64 = omega (arith, z, i) in
      let h : op / 256 ≡ b / 256 = omega (arith, k) in
      let e : format_of (op / 256) ≡ 7 = ap format_of h ∙ p in
      let low : ltb op 0x8000 ≡ ltb (b / 64) 512 = below_at op 64 (b / 64) 512 (λ t. omega (arith, k, ltb-true (b / 64) 512 t)) (λ t. omega (arith, k, ltb-false (b / 64) 512 t)) in
      (e, rw e (seven-by op) ∙ ap (λ (x : Bool). seven_by x (column_row op) op) low ∙ ap (λ (x : ℕ). seven_by (ltb (b / 64) 512) x op) (row_is op) ∙ ap (λ (x : ℕ). seven_by (ltb (b / 64) 512) ((x % 512 + 984) % 1024) op) k)

  -- ---- format 8: bits 8 to 6

  abbrev pub eight_at : ℕ → ℕ → Work State
  eight_at k op = element (row_at (k % 8)) s (block_source op) (block_destination op)

  pub eight : out.settings.blocks ≡ true → (b op : ℕ) → format_of (b / 256) ≡ 8 → b / 512 ≡ 7 → b % 64 ≡ 0 → b + op / 8 % 8 * 8 + op % 8 ≡ op
      → (format_of (high_byte op) ≡ 8) × (execute out s op ≡ eight_at (b / 64) op)
  eight fit b op p q z i =
      let k : op / 64 ≡ b / 64 = omega (arith, z, i) in
      let h : op / 256 ≡ b / 256 = omega (arith, k) in
      (ap format_of h ∙ p, executes out s op fit (omega (arith, k, q)) ∙ ap (λ (x : ℕ). element (row_at (x % 8)) s (block_source op) (block_destination op)) k)

  -- ---- format 9: bits 11 to 9

  abbrev pub nine_at : ℕ → ℕ → Work State
  nine_at k op = get_or (codes9 out s (with_flags s preset) op) (k % 8) (div (with_flags s preset) op)

  pub nine : (b op x : ℕ) → b / 4096 ≡ 7 → Group 16 7 9 → b % 512 ≡ 0 → x < 64 → b + op / 64 % 8 * 64 + x ≡ op → (format_of (high_byte op) ≡ 9) × (execute out s op ≡ nine_at (b / 512) op)
  unfolding by_format format9
  nine b op x q g z l i =
      let k : op / 512 ≡ b / 512 = half b op (op / 64 % 8) x z (omega arith) l i in
      let e = group 16 7 9 (op / 256) (op / 256 % 16) (digit op b k q) (omega arith) g in
      (e, rw (e, k) refl)
    where
      half : (b op r x : ℕ) → b % 512 ≡ 0 → r < 8 → x < 64 → b + r * 64 + x ≡ op → op / 512 ≡ b / 512
      half b op r x z lr lx i = omega (arith, z, lr, lx, i)

      digit : (op b : ℕ) → op / 512 ≡ b / 512 → b / 4096 ≡ 7 → op / 256 ≡ 7 * 16 + op / 256 % 16
      digit op b k q = let e : op / 4096 ≡ 7 = omega (arith, k, q) in omega (arith, e)

  -- ---- format 10: bits 15 to 12

  abbrev ten_by : Bool → Bool → ℕ → ℕ → Work State
  ten_by words low k op = cond words (on_words (binary_at (cond low (minus k 1) (plus 6 (minus k 9)))) s op) (on_bytes (byte_binary_at (minus k 12)) s op)

  abbrev pub ten_at : ℕ → ℕ → Work State
  ten_at k op = ten_by (ltb k 12) (ltb k 8) k op

  pub ten : (b op : ℕ) → Group 16 (b / 4096) 10 → b % 4096 ≡ 0 → b + op / 64 % 64 * 64 + op % 64 ≡ op → (format_of (high_byte op) ≡ 10) × (execute out s op ≡ ten_at (b / 4096) op)
  unfolding by_format format10
  ten b op g z i =
      let k : op / 4096 ≡ b / 4096 = omega (arith, z, i) in
      let e = group 16 (b / 4096) 10 (op / 256) (op / 256 % 16) (omega (arith, k)) (omega arith) g in
      let words : ltb op 0xc000 ≡ ltb (b / 4096) 12 = below_at op 4096 (b / 4096) 12 (λ t. omega (arith, k, ltb-true (b / 4096) 12 t)) (λ t. omega (arith, k, ltb-false (b / 4096) 12 t)) in
      let low : ltb op 0x8000 ≡ ltb (b / 4096) 8 = below_at op 4096 (b / 4096) 8 (λ t. omega (arith, k, ltb-true (b / 4096) 8 t)) (λ t. omega (arith, k, ltb-false (b / 4096) 8 t)) in
      (e, rw (e, words, low, k) refl)
