-- Laws of a call over a source: what is refused, the first fault, and what is right.
use mathlib.Core.Path.{◌≡◌, refl}
use mathlib.Core.Bool.{cond}
use mathlib.Core.List.{List, [], ◌∷◌}
use Prim.Native.Nat.{ℕ, ◌%◌, ◌≤◌, ◌<◌}
use native.Mathlib.Omega.{arith}
use borrow.Author.Tests.{lt-ltb, le-ltb}
use lib.Dec.{ltb, eqb}
use lib.ListN.{length, take}
use Rattle.hexdigits.specs.Over.{Wrote}
use Rattle.optext.proofs.Laws.Calls.{none_told}
use Rattle.refusal.specs.Numbers.{output_short, source_lines}
use Rattle.refusal.specs.Page.{refused, refused_at, answered, Left, left, first}
use Rattle.refusal.proofs.Laws.Page.{call-refused, call-answered, first-both}
use Rattle.assembler.specs.Source.{line_count, lowest}
use Rattle.assembler.specs.Section.{words_placed, section_of}
use Rattle.assembler.specs.Answer.{faults, fault_number, source_why, section_written, checked, longest_section, assembled, asm_of}
use Rattle.assembler.specs.declared.source.Fault.{Fault}

module _ (s out : List ℕ) (right : Left ℕ (List ℕ)) (n : ℕ) (e : n ≡ line_count s) where
  pub stopped : (f : Fault) (fs : List Fault) (x : ℕ) → x ≡ lowest f s → x < n → left (refused_at (fault_number f) x) out ≡ checked (f ∷ fs) s right out
  unfolding checked
  stopped f fs x q h = rw (← q, ← e, lt-ltb x n h) refl

  pub passed : (f : Fault) (fs : List Fault) (x : ℕ) → x ≡ lowest f s → n ≤ x → checked fs s right out ≡ checked (f ∷ fs) s right out
  unfolding checked
  passed f fs x q h = rw (← q, ← e, le-ltb x n h) refl

-- what was written is right
pub finished : (s out bytes e : List ℕ) (k : ℕ) → Wrote bytes out e k → left (answered k) e ≡ checked [] s (section_written bytes out) out
unfolding checked
finished s out bytes e k w = rw (w.bytes, w.count) refl

-- the section of a table
pub section-is : (s out table e : List ℕ) (n k : ℕ) → take n table ≡ words_placed s (line_count s) → Wrote (section_of (take n table)) out e k → Wrote (assembled s) out e k
unfolding assembled
section-is s out table e n k q w = rw (← q) w

-- ---- 10 and 36

pub source_sound : (room : ℕ) (s : List ℕ) (size : ℕ) → source_why room s size ≡ 0 → (line_count s ≤ 1024) × (room ≤ size)
unfolding source_why
source_sound room s size e =
    let short = first-both (cond (ltb size room) output_short 0) (first (cond (eqb (length s % 32) 0) 0 source_lines) (cond (ltb 1024 (line_count s)) source_lines 0)) e in
    let lines = first-both (cond (eqb (length s % 32) 0) 0 source_lines) (cond (ltb 1024 (line_count s)) source_lines 0) short.1 in
    (none_told 1024 (line_count s) source_lines (ltb 1024 (line_count s)) refl (omega arith) lines.1, none_told size room output_short (ltb size room) refl (omega arith) short.0)

module _ (s out : List ℕ) where
  pub source-refused : (why : ℕ) → why ≡ source_why longest_section s (length out) → (why ≡ 0 → ⊥) → left (refused why) out ≡ asm_of s out
  unfolding asm_of
  source-refused why e n = call-refused (source_why longest_section s (length out)) (checked faults s (section_written (assembled s) out) out) out why e n

  pub source-taken : (x : Left ℕ (List ℕ)) → source_why longest_section s (length out) ≡ 0 → x ≡ checked faults s (section_written (assembled s) out) out → x ≡ asm_of s out
  unfolding asm_of
  source-taken x e h = call-answered (source_why longest_section s (length out)) (checked faults s (section_written (assembled s) out) out) out x e h
