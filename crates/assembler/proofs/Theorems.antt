-- Theorems of the contracts: one outcome only.
use mathlib.Core.Path.{◌≡◌, ap, ◌∙◌}
use native.Mathlib.Omega.{arith}
use Rattle.std.proofs.Common.{Result, Ok, Err}
use Rattle.refusal.specs.declared.Refusal.{Refusal}
use Rattle.refusal.proofs.Laws.Answer.{number-one}
use Rattle.assembler.specs.declared.SourceRefusal.{SourceRefusal}
use Rattle.assembler.specs.declared.SourceRefusal.TheVariants.{Whole, At}
use mathlib.Core.List.{List}
use Prim.Native.Nat.{ℕ}
use Rattle.refusal.specs.Page.{Page, refused, refused_at, answered, left}
use Rattle.refusal.proofs.Laws.Page.{one-call}
use Rattle.assembler.specs.Answer.{assembled_page}
use Rattle.assembler.specs.Labels.{labelled_page}

-- ---- an assembly

-- what a page says, one by one
abbrev kind : Page ℕ → ℕ
kind (answered n) = 0
kind (refused why) = 1
kind (refused_at why line) = 2

abbrev why_in : Page ℕ → ℕ
why_in (answered n) = n
why_in (refused why) = why
why_in (refused_at why line) = why

abbrev line_in : Page ℕ → ℕ
line_in (answered n) = 0
line_in (refused why) = 0
line_in (refused_at why line) = line

pub one_answer : (r q : Result ℕ SourceRefusal) → assembled_page r ≡ assembled_page q → r ≡ q
one_answer (Ok n) (Ok m) e = ap Ok (ap why_in e)
one_answer (Ok n) (Err (Whole b)) e = absurd (let z : 0 ≡ 1 = ap kind e in omega arith)
one_answer (Ok n) (Err (At b l)) e = absurd (let z : 0 ≡ 2 = ap kind e in omega arith)
one_answer (Err (Whole a)) (Ok m) e = absurd (let z : 1 ≡ 0 = ap kind e in omega arith)
one_answer (Err (Whole a)) (Err (Whole b)) e = ap (λ z. Err (Whole z)) (number-one a b (ap why_in e))
one_answer (Err (Whole a)) (Err (At b l)) e = absurd (let z : 1 ≡ 2 = ap kind e in omega arith)
one_answer (Err (At a k)) (Ok m) e = absurd (let z : 2 ≡ 0 = ap kind e in omega arith)
one_answer (Err (At a k)) (Err (Whole b)) e = absurd (let z : 2 ≡ 1 = ap kind e in omega arith)
one_answer (Err (At a k)) (Err (At b l)) e = ap (λ z. Err (At z k)) (number-one a b (ap why_in e)) ∙ ap (λ z. Err (At b z)) (ap line_in e)

pub one-outcome : (r q : Result ℕ SourceRefusal) (x y : List ℕ) → left (assembled_page r) x ≡ left (assembled_page q) y → (r ≡ q) × (x ≡ y)
one-outcome = one-call assembled_page one_answer

-- the same of the labels
pub one-labels : (r q : Result ℕ SourceRefusal) (x y : List ℕ) → left (labelled_page r) x ≡ left (labelled_page q) y → (r ≡ q) × (x ≡ y)
one-labels = one-call labelled_page one_answer
