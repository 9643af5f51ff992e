-- What an assembly leaves that answers a section: the section in front of the output.
use mathlib.Core.Bool.{Bool, true, false, cond}
use mathlib.Core.Path.{◌≡◌, refl, ap, sym, ◌∙◌}
use mathlib.Core.List.{List, [], ◌∷◌}
use Prim.Native.Nat.{ℕ, zero, suc}
use native.Mathlib.Omega.{arith}
use lib.Dec.{ltb}
use lib.ListN.{length}
use Rattle.hexdigits.specs.Over.{in_front_of}
use Rattle.refusal.specs.Page.{Page, refused, refused_at, answered, Left, left, call}
use Rattle.assembler.specs.Source.{line_count, lowest}
use Rattle.assembler.specs.declared.source.Fault.{Fault}
use Rattle.assembler.specs.Answer.{longest_section, faults, fault_number, source_why, section_written, assembled, checked, asm_of}

abbrev pub refusal : Page ℕ → Bool
refusal (answered n) = false
refusal (refused why) = true
refusal (refused_at why line) = true

-- a refusal is no section
pub unlike : (p : Page ℕ) (n : ℕ) → refusal p ≡ true → p ≡ answered n → ⊥
unlike p n r e = let z : ◌≡◌ {A = ℕ} 1 0 = ap (λ (b : Bool). cond b 1 0) (sym r ∙ ap refusal e) in omega (arith, z)

abbrev checking : List Fault → List ℕ → List ℕ → Left ℕ (List ℕ)
checking fs s out = checked fs s (section_written (assembled s) out) out

checked-leaves : (fs : List Fault) (s out : List ℕ) (n : ℕ) → (checking fs s out).page ≡ answered n → (checking fs s out).lent ≡ in_front_of (assembled s) out
unfolding checked
checked-leaves [] s out n e = refl
checked-leaves (f ∷ fs) s out n e = by (ltb (lowest f s) (line_count s)) (checked-leaves fs s out n) e
  where
    by : (t : Bool) → ((checking fs s out).page ≡ answered n → (checking fs s out).lent ≡ in_front_of (assembled s) out)
        → (cond t (left (refused_at (fault_number f) (lowest f s)) out) (checking fs s out)).page ≡ answered n
        → (cond t (left (refused_at (fault_number f) (lowest f s)) out) (checking fs s out)).lent ≡ in_front_of (assembled s) out
    by true r q = absurd (unlike (refused_at (fault_number f) (lowest f s)) n refl q)
    by false r q = r q

pub leaves : (s out : List ℕ) (n : ℕ) → (asm_of s out).page ≡ answered n → (asm_of s out).lent ≡ in_front_of (assembled s) out
unfolding asm_of
leaves s out n e = by (source_why longest_section s (length out)) e
  where
    by : (why : ℕ) → (call why (checking faults s out) out).page ≡ answered n → (call why (checking faults s out) out).lent ≡ in_front_of (assembled s) out
    by zero q = checked-leaves faults s out n q
    by (suc why) q = absurd (unlike (refused (suc why)) n refl q)
