-- The theorems that specs/Names.antt states.
use Prim.Native.Nat.{ℕ, zero, suc, ◌+◌, ◌-◌, ◌*◌, ◌/◌, ◌%◌, ◌<◌}
use native.Mathlib.Omega.{arith}
use mathlib.Core.Bool.{Bool, true, false, cond}
use mathlib.Core.List.{List, [], ◌∷◌, ◌++◌}
use mathlib.Core.Path.{◌≡◌, refl, sym, ap, ◌∙◌, subst}
use borrow.Author.Tests.{ltb-true, ltb-false}
use lib.Dec.{ltb}
use lib.ListN.{length, take, drop, get_or, get_or-append}
use lib.Seq.{get_or-append-add, get_or-take, get_or-drop}
use Rattle.wordmath.specs.Address.{plus}
use Rattle.opcodes.specs.Fields.{high_byte}
use Rattle.plate.specs.Plate.{format_of}
use Rattle.board.specs.Work.{give}
use Rattle.state.specs.declared.State.{State}
use Rattle.state.specs.declared.Outside.{Outside}
use Rattle.state.specs.State.{with_pc}
use Rattle.format1.specs.Format1.{format1}
use Rattle.formats2to4.specs.Low.{formats2to4, low_codes}
use Rattle.formats2to4.specs.Format2.{format2}
use Rattle.formats2to4.specs.Format4.{format4}
use Rattle.formats5to6.specs.Format5.{displacement, branch}
use Rattle.formats5to6.specs.Format6.{immediate, single, double, format6}
use Rattle.format7.specs.Format7.{modify, test}
use Rattle.format9.specs.Format9.{format9}
use Rattle.format10.specs.Format10.{format10}
use Rattle.optext.specs.Rows.{Row, rows, no_row, the_row}
use Rattle.optext.specs.Line.{row_of}
use Rattle.optext.proofs.Laws.Reserved.{word_back, has-row}
use Rattle.step.specs.Execute.{execute, by_format}
use Rattle.step.specs.Xct.{begun}
use Rattle.laws.proofs.Laws.Rows.{two, three, four, five, six-is, immediates, singles, doubles, seven, eight, nine, ten}
use Rattle.laws.specs.Names.{Named, no_name, mnemonics, executed_rows, In, As, Beside, NamesExecuted, row_place, TextExecuted, XctNamed}

-- a row with the register before the count
turned : (b op : ℕ) → b + op / 64 % 8 * 64 + op % 16 ≡ op → b + op % 16 + op / 64 % 8 * 64 ≡ op
turned b op i = omega (arith, i)

pub names-executed : NamesExecuted
unfolding Beside executed_rows rows format_of by_format low_codes format1 modify test
names-executed out s fit = ((refl, λ op i. rw (← i) (refl, refl)), ((refl, λ op i. rw (← i) (refl, refl)), ((refl, λ op i. rw (← i) (refl, refl)), ((refl, λ op i. rw (← i) (refl, refl)), ((refl, λ op i. rw (← i) (refl, refl)), ((refl, λ op i. rw (← i) (refl, refl)), ((refl, λ op i. rw (← i) (refl, refl)), ((refl, λ op i. rw (← i) (refl, refl)), ((refl, λ op i. rw (← i) (refl, refl)), ((refl, λ op i. rw (← i) (refl, refl)), ((refl, λ op i. rw (← i) (refl, refl)), ((refl, λ op i. rw (← i) (refl, refl)), ((refl, λ op i. rw (← i) (refl, refl)), ((refl, λ op i. rw (← i) (refl, refl)), ((refl, λ op i. rw (← i) (refl, refl)), ((refl, λ op i. two out s 0x0010 op (omega arith) (omega arith) refl i), ((refl, λ op i. two out s 0x0018 op (omega arith) (omega arith) refl i), ((refl, λ op i. two out s 0x0020 op (omega arith) (omega arith) refl i), ((refl, λ op i. two out s 0x0028 op (omega arith) (omega arith) refl i), ((refl, λ op i. three out s op i), ((refl, λ op i. four out s 0x0040 op (omega arith) (omega arith) refl i), ((refl, λ op i. four out s 0x0080 op (omega arith) (omega arith) refl i), ((refl, λ op i. four out s 0x00C0 op (omega arith) (omega arith) refl i), ((refl, λ op i. five out s 0x0100 op refl refl i), ((refl, λ op i. five out s 0x0200 op refl refl i), ((refl, λ op i. five out s 0x0300 op refl refl i), ((refl, λ op i. five out s 0x0400 op refl refl i), ((refl, λ op i. five out s 0x0500 op refl refl i), ((refl, λ op i. five out s 0x0600 op refl refl i), ((refl, λ op i. five out s 0x0700 op refl refl i), ((refl, λ op i. five out s 0x8000 op refl refl i), ((refl, λ op i. five out s 0x8100 op refl refl i), ((refl, λ op i. five out s 0x8200 op refl refl i), ((refl, λ op i. five out s 0x8300 op refl refl i), ((refl, λ op i. five out s 0x8400 op refl refl i), ((refl, λ op i. five out s 0x8500 op refl refl i), ((refl, λ op i. five out s 0x8600 op refl refl i), ((refl, λ op i. five out s 0x8700 op refl refl i), ((refl, λ op i. immediates out s 0x0800 op (six-is out s 0x0800 op refl refl i) refl refl), ((refl, λ op i. immediates out s 0x0810 op (six-is out s 0x0810 op refl refl i) refl refl), ((refl, λ op i. immediates out s 0x0820 op (six-is out s 0x0820 op refl refl i) refl refl), ((refl, λ op i. immediates out s 0x0830 op (six-is out s 0x0830 op refl refl i) refl refl), ((refl, λ op i. singles out s 0x8800 op (six-is out s 0x8800 op refl refl (turned 0x8800 op i)) refl refl), ((refl, λ op i. singles out s 0x8810 op (six-is out s 0x8810 op refl refl (turned 0x8810 op i)) refl refl), ((refl, λ op i. singles out s 0x8820 op (six-is out s 0x8820 op refl refl (turned 0x8820 op i)) refl refl), ((refl, λ op i. singles out s 0x8830 op (six-is out s 0x8830 op refl refl (turned 0x8830 op i)) refl refl), ((refl, λ op i. doubles out s 0x8E00 op (six-is out s 0x8E00 op refl refl (turned 0x8E00 op i)) refl refl), ((refl, λ op i. doubles out s 0x8E10 op (six-is out s 0x8E10 op refl refl (turned 0x8E10 op i)) refl refl), ((refl, λ op i. doubles out s 0x8E20 op (six-is out s 0x8E20 op refl refl (turned 0x8E20 op i)) refl refl), ((refl, λ op i. doubles out s 0x8E30 op (six-is out s 0x8E30 op refl refl (turned 0x8E30 op i)) refl refl), ((refl, λ op i. seven out s 0x0A00 op refl refl i), ((refl, λ op i. seven out s 0x0A40 op refl refl i), ((refl, λ op i. seven out s 0x0A80 op refl refl i), ((refl, λ op i. seven out s 0x0AC0 op refl refl i), ((refl, λ op i. seven out s 0x0B00 op refl refl i), ((refl, λ op i. seven out s 0x0B40 op refl refl i), ((refl, λ op i. seven out s 0x0B80 op refl refl i), ((refl, λ op i. seven out s 0x0BC0 op refl refl i), ((refl, λ op i. seven out s 0x0C00 op refl refl i), ((refl, λ op i. seven out s 0x0C40 op refl refl i), ((refl, λ op i. seven out s 0x0C80 op refl refl i), ((refl, λ op i. seven out s 0x0CC0 op refl refl i), ((refl, λ op i. seven out s 0x0D00 op refl refl i), ((refl, λ op i. seven out s 0x0D40 op refl refl i), ((refl, λ op i. seven out s 0x0D80 op refl refl i), ((refl, λ op i. seven out s 0x0DC0 op refl refl i), ((refl, λ op i. seven out s 0x8A00 op refl refl i), ((refl, λ op i. seven out s 0x8A40 op refl refl i), ((refl, λ op i. seven out s 0x8A80 op refl refl i), ((refl, λ op i. seven out s 0x8AC0 op refl refl i), ((refl, λ op i. seven out s 0x8B00 op refl refl i), ((refl, λ op i. seven out s 0x8B40 op refl refl i), ((refl, λ op i. seven out s 0x8B80 op refl refl i), ((refl, λ op i. seven out s 0x8BC0 op refl refl i), ((refl, λ op i. seven out s 0x8C00 op refl refl i), ((refl, λ op i. seven out s 0x8C40 op refl refl i), ((refl, λ op i. seven out s 0x8C80 op refl refl i), ((refl, λ op i. seven out s 0x8CC0 op refl refl i), ((refl, λ op i. seven out s 0x8D00 op refl refl i), ((refl, λ op i. seven out s 0x8D40 op refl refl i), ((refl, λ op i. seven out s 0x8D80 op refl refl i), ((refl, λ op i. seven out s 0x8DC0 op refl refl i), ((refl, λ op i. eight out s fit 0x0E00 op refl refl refl i), ((refl, λ op i. eight out s fit 0x0E40 op refl refl refl i), ((refl, λ op i. eight out s fit 0x0E80 op refl refl refl i), ((refl, λ op i. eight out s fit 0x0EC0 op refl refl refl i), ((refl, λ op i. eight out s fit 0x0F00 op refl refl refl i), ((refl, λ op i. eight out s fit 0x0F40 op refl refl refl i), ((refl, λ op i. eight out s fit 0x0F80 op refl refl refl i), ((refl, λ op i. eight out s fit 0x0FC0 op refl refl refl i), ((refl, λ op i. nine out s 0x7000 op _ refl refl refl (omega arith) i), ((refl, λ op i. nine out s 0x7200 op _ refl refl refl (omega arith) i), ((refl, λ op i. nine out s 0x7400 op _ refl refl refl (omega arith) i), ((refl, λ op i. nine out s 0x7600 op _ refl refl refl (omega arith) i), ((refl, λ op i. nine out s 0x7800 op _ refl refl refl (omega arith) i), ((refl, λ op i. nine out s 0x7A00 op _ refl refl refl (omega arith) i), ((refl, λ op i. nine out s 0x7C00 op _ refl refl refl (omega arith) i), ((refl, λ op i. nine out s 0x7E00 op _ refl refl refl (omega arith) i), ((refl, λ op i. ten out s 0x1000 op refl refl i), ((refl, λ op i. ten out s 0x2000 op refl refl i), ((refl, λ op i. ten out s 0x3000 op refl refl i), ((refl, λ op i. ten out s 0x4000 op refl refl i), ((refl, λ op i. ten out s 0x5000 op refl refl i), ((refl, λ op i. ten out s 0x6000 op refl refl i), ((refl, λ op i. ten out s 0x9000 op refl refl i), ((refl, λ op i. ten out s 0xA000 op refl refl i), ((refl, λ op i. ten out s 0xB000 op refl refl i), ((refl, λ op i. ten out s 0xC000 op refl refl i), ((refl, λ op i. ten out s 0xD000 op refl refl i), ((refl, λ op i. ten out s 0xE000 op refl refl i), tt))))))))))))))))))))))))))))))))))))))))))))))))))))))))))))))))))))))))))))))))))))))))))))))))))))))))))))))

-- ---- by the row of an op code

module _ (out : Outside) (s : State) where
  beside_at : (rs : List Row) (ns : List Named) (i : ℕ) → Beside out s rs ns → i < length rs → As out s (get_or rs i no_row) (get_or ns i no_name)
  unfolding Beside
  beside_at [] ns i b h = absurd (omega (arith, h))
  beside_at (r ∷ rs) [] i b h = absurd b
  beside_at (r ∷ rs) (n ∷ ns) zero b h = b.0
  beside_at (r ∷ rs) (n ∷ ns) (suc i) b h = beside_at rs ns i b.1 (omega (arith, h))

-- the executed rows are the rows but the sixth and the last
rows_before : (k : ℕ) → k < 5 → get_or (take 5 rows ++ drop 6 (take 111 rows)) k no_row ≡ get_or rows k no_row
unfolding rows
rows_before k l = get_or-append (take 5 rows) (drop 6 (take 111 rows)) no_row k l ∙ get_or-take 5 rows k no_row l

rows-after : (j : ℕ) → 6 + j < 111 → get_or (take 5 rows ++ drop 6 (take 111 rows)) (5 + j) no_row ≡ get_or rows (6 + j) no_row
unfolding rows
rows-after j l = get_or-append-add (take 5 rows) (drop 6 (take 111 rows)) j no_row ∙ get_or-drop 6 (take 111 rows) j no_row ∙ get_or-take 111 rows (6 + j) no_row l

row-there : (k : ℕ) → k < 111 → (k ≡ 5 → ⊥) → get_or executed_rows (row_place k) no_row ≡ the_row k
unfolding executed_rows the_row
row-there k h n = by (ltb k 5) refl
  where
    by : (t : Bool) → ltb k 5 ≡ t → get_or (take 5 rows ++ drop 6 (take 111 rows)) (cond t k (k - 1)) no_row ≡ get_or rows k no_row
    by true e = rows_before k (ltb-true k 5 e)
    by false e =
        let l = ltb-false k 5 e in
        let a : k - 1 ≡ 5 + (k - 6) = omega (arith, l, n) in
        let b : 6 + (k - 6) ≡ k = omega (arith, l, n) in
        ap (λ (x : ℕ). get_or (take 5 rows ++ drop 6 (take 111 rows)) x no_row) a ∙ rows-after (k - 6) (omega (arith, b, h)) ∙ ap (λ (x : ℕ). get_or rows x no_row) b

place-lt : (k : ℕ) → k < 111 → row_place k < length executed_rows
unfolding executed_rows rows
place-lt k h = by (ltb k 5) refl
  where
    by : (t : Bool) → ltb k 5 ≡ t → cond t k (k - 1) < 110
    by true e = omega (arith, h, ltb-true k 5 e)
    by false e = omega (arith, h, ltb-false k 5 e)

sixth : (op : ℕ) → In (the_row 5) op → 5 ≡ op
unfolding the_row rows
sixth op i = i

pub text-executed : TextExecuted
text-executed out s op fit l named other =
    let k = row_of op in
    let xct : k ≡ 5 → ⊥ = λ e. other (sym (sixth op (subst (λ (j : ℕ). In (the_row j) op) e (word_back op l)))) in
    let h = has-row op l named in
    let a = beside_at out s executed_rows mnemonics (row_place k) (names-executed out s fit) (place-lt k h) in
    let at = subst (λ (r : Row). As out s r (get_or mnemonics (row_place k) no_name)) (row-there k h xct) a in
    (at.0, at.1 op (word_back op l))

pub xct-named : XctNamed
unfolding rows the_row begun
xct-named = (refl, λ op i out s. rw (← i) refl)
