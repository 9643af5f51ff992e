-- How a call over a source ends: refused under the number of the first refusal that applies, with its line, or answered.
use Prim.Native.Nat.{ℕ, zero, suc, ◌%◌}
use mathlib.Core.Bool.{Bool, true, false, cond}
use mathlib.Core.List.{List, [], ◌∷◌}
use mathlib.Core.Path.{◌≡◌, refl, ap, sym, ◌∙◌}
use native.Mathlib.Omega.{arith}
use lib.Dec.{eqb, ltb}
use lib.ListN.{length}
use Rattle.refusal.specs.Numbers.{output_short, source_lines}
use Rattle.refusal.specs.Page.{refused, refused_at, answered, Left, left, call, first}
use Rattle.assembler.specs.declared.source.Fault.{Fault}
use Rattle.assembler.specs.declared.source.Fault.TheVariants.{Text, Given, Missing, Place, Far}
use Rattle.assembler.specs.Source.{line_count, lowest}
use Rattle.assembler.specs.Answer.{faults, fault_number, source_why, section_written, checked, longest_section, assembled, asm_of}
use Rattle.assembler.specs.Labels.{labels_of, label_faults, most_labels, labels_page}
use Rattle.assembler.specs.Ends.{fault_why, assemble_why, labels_why, tells_line, FaultLine}

-- under the number `why`: done; refused alone; refused with a line. A refusal leaves the output as lent
pub data AssemblyEnds (s out : List ℕ) (why : ℕ) (x : Left ℕ (List ℕ)) : Type 0 where
  done : why ≡ 0 → (n : ℕ) → x.page ≡ answered n → AssemblyEnds s out why x
  alone : (why ≡ 0 → ⊥) → tells_line why ≡ false → x ≡ left (refused why) out → AssemblyEnds s out why x
  at_line : (line : ℕ) → FaultLine s why line → x ≡ left (refused_at why line) out → AssemblyEnds s out why x

module _ (s out bytes : List ℕ) where
  checked-ends : (fs : List Fault) → AssemblyEnds s out (fault_why fs s) (checked fs s (section_written bytes out) out)
  unfolding fault_why checked
  checked-ends [] = done refl (length bytes) refl
  checked-ends (f ∷ fs) = by (ltb (lowest f s) (line_count s)) (checked-ends fs)
    where
      by : (has : Bool) → AssemblyEnds s out (fault_why fs s) (checked fs s (section_written bytes out) out)
          → AssemblyEnds s out (cond has (fault_number f) (fault_why fs s)) (cond has (left (refused_at (fault_number f) (lowest f s)) out) (checked fs s (section_written bytes out) out))
      by true h = at_line (lowest f s) (record { fault = f; number_is = refl; line_is = refl }) refl
      by false h = h

  call_ends : (why later : ℕ) (right : Left ℕ (List ℕ)) → tells_line why ≡ false → AssemblyEnds s out later right → AssemblyEnds s out (first why later) (call why right out)
  call_ends zero later right t h = h
  call_ends (suc why) later right t h = alone (λ z. omega (arith, z)) t refl

  -- 10 and 36 tell no line
  source-alone : (room size : ℕ) → tells_line (source_why room s size) ≡ false
  unfolding source_why
  source-alone room size = by (ltb size room) (eqb (length s % 32) 0) (ltb 1024 (line_count s))
    where
      by : (short whole many : Bool) → tells_line (first (cond short output_short 0) (first (cond whole 0 source_lines) (cond many source_lines 0))) ≡ false
      by true whole many = refl
      by false false many = refl
      by false true true = refl
      by false true false = refl

  source-ends : (room : ℕ) (fs : List Fault) → AssemblyEnds s out (first (source_why room s (length out)) (fault_why fs s)) (call (source_why room s (length out)) (checked fs s (section_written bytes out) out) out)
  source-ends room fs = call_ends (source_why room s (length out)) (fault_why fs s) (checked fs s (section_written bytes out) out) (source-alone room (length out)) (checked-ends fs)

pub assemble-ends : (s out : List ℕ) → AssemblyEnds s out (assemble_why s out) (asm_of s out)
unfolding asm_of
assemble-ends s out = source-ends s out (assembled s) longest_section faults

pub labels-ends : (s out : List ℕ) → AssemblyEnds s out (labels_why s out) (labels_page s out)
unfolding labels_page
labels-ends s out = source-ends s out (labels_of s) most_labels label_faults

fault-tells : (f : Fault) → (fault_number f ≡ 0 → ⊥) × (tells_line (fault_number f) ≡ true)
fault-tells Text = (λ e. omega (arith, e), refl)
fault-tells Given = (λ e. omega (arith, e), refl)
fault-tells Missing = (λ e. omega (arith, e), refl)
fault-tells Place = (λ e. omega (arith, e), refl)
fault-tells Far = (λ e. omega (arith, e), refl)

-- a number that tells a line is a refusal's
pub line-told : {s : List ℕ} {number line : ℕ} → FaultLine s number line → (number ≡ 0 → ⊥) × (tells_line number ≡ true)
line-told l = (λ e. (fault-tells l.fault).0 (sym l.number_is ∙ e), ap tells_line l.number_is ∙ (fault-tells l.fault).1)
