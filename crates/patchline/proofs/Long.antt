-- A text over 33 characters is no op code's, whatever digits stand for its labels: an op code's text has 24 at most, a name gives
-- way to two digits or more, and an alias to a name that is one shorter at most.
use mathlib.Core.Path.{◌≡◌, refl, ap}
use mathlib.Core.Bool.{cond}
use mathlib.Core.List.{List, [], ◌++◌}
use mathlib.Core.Logic.{⊎_elim}
use Prim.Native.Nat.{ℕ, suc, ◌+◌, ◌-◌, ◌≤◌, ◌<◌}
use native.Mathlib.Omega.{arith}
use lib.ListN.{length, drop, length-append, length-take, length-drop}
use lib.Seq.{length-take-le}
use Rattle.hexdigits.specs.Digits.{letters}
use Rattle.optext.specs.Read.{same_text, words_of_text}
use Rattle.optext.proofs.Laws.Read.{same-eq}
use Rattle.optext.proofs.Laws.Longest.{text-le}
use Rattle.optext.proofs.Laws.Reader.{read-refuses}
use Rattle.optext.proofs.Laws.Choose.{lt-cases, bool_cases}
use Rattle.patchline.proofs.Laws.Search.{first-ge}
use Rattle.patchline.specs.Text.{slice, find_from, is_at, is_name}
use Rattle.patchline.specs.Line.{operands_at, comma_at, first_in, second_in, bare_operand, at_of, filled_in, alias_of, tail_of, filled, op_in, op}
use Rattle.patchline.proofs.Laws.{name-six, filled-label, filled-plain, tail-some, tail_none}

-- no op code has a text over 24
read-long : (s : List ℕ) → 24 < length s → words_of_text s ≡ []
read-long s h = read-refuses s (λ i. let k = text-le i.words in let e = ap length i.text in omega arith)

-- what stands for an alias, and for an operand
alias-ge : (h : List ℕ) → length h ≤ length (alias_of h) + 1
unfolding alias_of
alias-ge h =
    pick (letters "BHIS ") (letters "BCC ") _ (omega arith)
    (pick (letters "BLO ") (letters "BCS ") _ (omega arith)
    (pick (letters "CALL ") (letters "JSR PC,") _ (omega arith)
    (pick (letters "JMP ") (letters "LEA PC,") h (omega arith) (omega arith))))
  where
    pick : (a u v : List ℕ) → length a ≤ length u + 1 → length h ≤ length v + 1 → length h ≤ length (cond (same_text h a) u v) + 1
    pick a u v p q = ⊎_elim (λ e. rw e q) (λ e. rw e (let z = ap length (same-eq h a e) in omega arith)) (bool_cases (same_text h a))

name-ge : (d o : List ℕ) → 2 ≤ length d → length (bare_operand o) ≤ 6 → length o ≤ length (slice 0 (at_of o) o ++ d) + 4
unfolding bare_operand
name-ge d o h k =
    let j : length o - at_of o ≤ 6 = simp length-drop at k in
    simp (length-append, length-take, length-drop) (omega arith)

filled-in-ge : (d o : List ℕ) → 2 ≤ length d → length o ≤ length (filled_in d o) + 4
filled-in-ge d o h = ⊎_elim (λ p. rw (filled-plain d o p) (omega arith)) (λ p. rw (filled-label d o p) (name-ge d o h (name-six (bare_operand o) p))) (bool_cases (is_name (bare_operand o)))

-- a text is its mnemonic and its operands, with a comma between two
comma-ge : (t : List ℕ) → operands_at t ≤ comma_at t
unfolding comma_at find_from
comma-ge t = first-ge (is_at 44 t) (length t - operands_at t) (operands_at t)

part_length : (a e : ℕ) (t : List ℕ) → e ≤ length t → length (slice a e t) ≡ e - a
part_length a e t h = length-take-le (e - a) (drop a t) (simp length-drop (omega arith))

parts-two : (t : List ℕ) → comma_at t < length t → length t ≤ length (slice 0 (operands_at t) t) + length (first_in t) + suc (length (second_in t))
unfolding first_in second_in
parts-two t h =
    let g = comma-ge t in
    rw (part_length 0 (operands_at t) t (omega arith), part_length (operands_at t) (comma_at t) t (omega arith), length-drop (comma_at t + 1) t) (omega arith)

parts-one : (t : List ℕ) → length t ≤ comma_at t → length t ≤ length (slice 0 (operands_at t) t) + length (first_in t)
unfolding first_in
parts-one t h = simp (length-take, length-drop) (omega arith)

tail-ge : (d t : List ℕ) → 2 ≤ length d → length t ≤ length (slice 0 (operands_at t) t) + length (first_in t) + length (tail_of d t) + 4
tail-ge d t h = ⊎_elim (λ k. rw (tail-some d t k) (two (parts-two t k) (filled-in-ge d (second_in t) h))) (λ k. rw (tail_none d t k) (one (parts-one t k))) (lt-cases (comma_at t) (length t))
  where
    two : length t ≤ length (slice 0 (operands_at t) t) + length (first_in t) + suc (length (second_in t)) → length (second_in t) ≤ length (filled_in d (second_in t)) + 4
        → length t ≤ length (slice 0 (operands_at t) t) + length (first_in t) + suc (length (filled_in d (second_in t))) + 4
    two p q = omega arith

    one : length t ≤ length (slice 0 (operands_at t) t) + length (first_in t) → length t ≤ length (slice 0 (operands_at t) t) + length (first_in t) + 0 + 4
    one p = omega arith

filled-ge : (d t : List ℕ) → 2 ≤ length d → length t ≤ length (filled d t) + 9
unfolding filled
filled-ge d t h =
    let a = alias-ge (slice 0 (operands_at t) t) in
    let b = filled-in-ge d (first_in t) h in
    let c = tail-ge d t h in
    simp length-append (omega arith)

pub long-none : (d t : List ℕ) → 2 ≤ length d → 33 < length t → op_in (filled d t) ≡ op 0 0
unfolding op_in
long-none d t h k =
    let g = filled-ge d t h in
    rw (read-long (filled d t) (omega arith)) refl
