-- The two columns of format 7 and the way in which the code tells their rows apart are the same.
use Prim.Native.Nat.{ℕ, ◌+◌, ◌-◌, ◌/◌, ◌%◌, ◌≤◌}
use mathlib.Core.Bool.{Bool, true, false, cond}
use mathlib.Core.Path.{◌≡◌, refl, ap, ◌∙◌}
use native.Mathlib.Omega.{arith}
use native.Mathlib.Decide.{dec_lt}
use lib.Dec.{ltb}
use lib.ListN.{get_or}
use borrow.Author.Tests.{lt-ltb, le-ltb, ne_eqb}
use Rattle.unary.specs.Ops.{sbc_of}
use Rattle.opcodes.proofs.Laws.Past.{from_last, Below, below}
use Rattle.board.specs.Work.{Work, word, byte}
use Rattle.state.specs.declared.State.{State}
use Rattle.state.specs.declared.Outside.{Outside}
use Rattle.format7.specs.Format7.{modify, test, tjmp, column0_a, column8_a, column_row, format7}
use Rattle.format7.specs.Rows.{result_at, stored_at, modify_at, status_at, no_result_at, on_word_at}

abbrev pub by_row : Outside → State → ℕ → ℕ → Work State
by_row out s op row =
    cond (on_word_at op row) (modify_at word s op row)
    (cond (ltb row 12) (modify_at byte s op row)
    (no_result_at out s op row))

first_rows : (out : Outside) (s : State) (op : ℕ) → ltb op 0x8000 ≡ true → Below (λ row. get_or (column0_a s op) row (tjmp s op) ≡ by_row out s op row) 15
unfolding Below modify test modify_at result_at stored_at status_at no_result_at
first_rows out s op e = rw e (((((((((((((((tt, refl), refl), refl), refl), refl), refl), refl), refl), refl), refl), refl), refl), refl), refl), refl)

second-rows : (out : Outside) (s : State) (op : ℕ) → ltb op 0x8000 ≡ false → Below (λ row. get_or (column8_a out s op) row (modify word sbc_of s op) ≡ by_row out s op row) 15
unfolding Below modify test modify_at result_at stored_at status_at no_result_at
second-rows out s op e = rw e (((((((((((((((tt, refl), refl), refl), refl), refl), refl), refl), refl), refl), refl), refl), refl), refl), refl), refl)

-- the last row, and past it
first-last : (out : Outside) (s : State) (op row : ℕ) → ltb op 0x8000 ≡ true → 15 ≤ row → tjmp s op ≡ by_row out s op row
unfolding no_result_at
first-last out s op row e h = rw (e, le-ltb row 14 (omega arith), le-ltb row 12 (omega arith), ne_eqb row 14 (λ x. omega arith))

second-last : (out : Outside) (s : State) (op row : ℕ) → ltb op 0x8000 ≡ false → 15 ≤ row → modify word sbc_of s op ≡ by_row out s op row
unfolding modify modify_at result_at stored_at
second-last out s op row e h = rw (e, lt-ltb 13 row (omega arith), le-ltb row 12 (omega arith), ne_eqb row 14 (λ x. omega arith), ne_eqb row 2 (λ x. omega arith))

each_first : (out : Outside) (s : State) (op row : ℕ) → ltb op 0x8000 ≡ true → get_or (column0_a s op) row (tjmp s op) ≡ by_row out s op row
each_first out s op row e =
    elim (dec_lt row 15) [
      | yes h ↦ below (λ row. get_or (column0_a s op) row (tjmp s op) ≡ by_row out s op row) 15 (first_rows out s op e) row h
      | no h ↦ from_last (column0_a s op) (tjmp s op) row refl (omega arith) ∙ first-last out s op row e (omega arith)
    ]

each-second : (out : Outside) (s : State) (op row : ℕ) → ltb op 0x8000 ≡ false → get_or (column8_a out s op) row (modify word sbc_of s op) ≡ by_row out s op row
each-second out s op row e =
    elim (dec_lt row 15) [
      | yes h ↦ below (λ row. get_or (column8_a out s op) row (modify word sbc_of s op) ≡ by_row out s op row) 15 (second-rows out s op e) row h
      | no h ↦ from_last (column8_a out s op) (modify word sbc_of s op) row refl (omega arith) ∙ second-last out s op row e (omega arith)
    ]

-- THE COLUMNS ARE WHAT THE CODE TELLS
pub columns : (out : Outside) (s : State) (op : ℕ) → format7 out s op ≡ by_row out s op (column_row op)
unfolding format7
columns out s op = by (ltb op 0x8000) refl
  where
    by : (b : Bool) → ltb op 0x8000 ≡ b → cond b (get_or (column0_a s op) (column_row op) (tjmp s op)) (get_or (column8_a out s op) (column_row op) (modify word sbc_of s op)) ≡ by_row out s op (column_row op)
    by true e = each_first out s op (column_row op) e
    by false e = each-second out s op (column_row op) e

-- the row by bits 14 to 6
pub row_is : (op : ℕ) → column_row op ≡ (op / 64 % 512 + 984) % 1024
row_is op = words (op % 0x8000 + 65536 - 0x0a00) ∙ ap (λ (x : ℕ). x % 1024) (from (op % 0x8000)) ∙ ap (λ (x : ℕ). (x + 984) % 1024) (column op)
  where
    words : (x : ℕ) → x % 65536 / 64 ≡ x / 64 % 1024
    words x = omega arith

    from : (x : ℕ) → (x + 65536 - 0x0a00) / 64 ≡ x / 64 + 984
    from x = omega arith

    column : (x : ℕ) → x % 0x8000 / 64 ≡ x / 64 % 512
    column x = omega arith
