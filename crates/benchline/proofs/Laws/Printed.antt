-- A line that fits its text, and one that does not.
use Prim.Native.Nat.{ℕ, ◌≤◌, ◌<◌}
use mathlib.Core.List.{List}
use mathlib.Core.Path.{◌≡◌, refl}
use borrow.Author.Tests.{le-leb, lt-leb}
use lib.ListN.{length}
use Rattle.hexdigits.specs.Over.{in_front_of, Wrote}
use Rattle.refusal.specs.Numbers.{text_short}
use Rattle.refusal.specs.Page.{refused, answered, left}
use Rattle.std.proofs.Common.{Result}
use Rattle.refusal.specs.declared.Refusal.{Refusal}
use Rattle.refusal.proofs.Laws.Page.{one-call}
use Rattle.refusal.proofs.Laws.Answer.{page-one}
use Rattle.benchline.specs.Line.{printed_page, print_of}

pub printed-is : (s b e : List ℕ) (n : ℕ) → length s ≤ length b → Wrote s b e n → left (answered n) e ≡ print_of s b
unfolding print_of
printed-is s b e n h w = simp (le-leb (length s) (length b) h) (rw (w.bytes, w.count) refl)

pub printed-none : (s b : List ℕ) → length b < length s → left (refused text_short) b ≡ print_of s b
unfolding print_of
printed-none s b h = simp (lt-leb (length s) (length b) h)

-- and what a text is left with that the line fits
pub printed-fits : (s b : List ℕ) → length s ≤ length b → print_of s b ≡ left (answered (length s)) (in_front_of s b)
unfolding print_of
printed-fits s b h = simp (le-leb (length s) (length b) h)

-- ---- ONE OUTCOME

pub printed-one : (r q : Result ℕ Refusal) → printed_page r ≡ printed_page q → r ≡ q
printed-one = page-one (λ x y e. e)

pub one-printed : (r q : Result ℕ Refusal) (b c : List ℕ) → left (printed_page r) b ≡ left (printed_page q) c → (r ≡ q) × (b ≡ c)
one-printed = one-call printed_page printed-one
