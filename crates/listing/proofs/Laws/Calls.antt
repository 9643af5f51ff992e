-- One outcome of a call that lists a line: its page is one to one.
use Prim.Native.Nat.{ℕ}
use mathlib.Core.List.{List}
use mathlib.Core.Path.{◌≡◌, refl, ap, sym, ◌∙◌}
use Rattle.std.proofs.Common.{Option, Some, None, Result}
use Rattle.refusal.specs.declared.Refusal.{Refusal}
use Rattle.refusal.specs.Page.{left}
use Rattle.refusal.proofs.Laws.Page.{one-call}
use Rattle.refusal.proofs.Laws.Answer.{page-one}
use Rattle.listing.specs.declared.Listed.{Listed}
use Rattle.listing.specs.Calls.{Next, goes_on, ends, Lined, lined_of, listed_page, line_call}

-- ---- no two outcomes

abbrev next_of : Next → Option ℕ
next_of (goes_on a) = Some a
next_of ends = None

abbrev from : Lined → Listed
from l = record { length = l.count; next = next_of l.next }

back : (l : Listed) → from (lined_of l) ≡ l
back l = again l.length l.next
  where
    again : (n : ℕ) (x : Option ℕ) → from (lined_of (record { length = n; next = x })) ≡ record { length = n; next = x }
    again n (Some a) = refl
    again n None = refl

listed-one : (r q : Result Listed Refusal) → listed_page r ≡ listed_page q → r ≡ q
listed-one = page-one (λ x y e. sym (back x) ∙ ap from e ∙ back y)

-- ONE ANSWER, AND ONE TEXT
pub one-listed : (image map : List ℕ) (a last : ℕ) (b e e' : List ℕ) (r r' : Result Listed Refusal) → left (listed_page r) e ≡ line_call image map a last b → left (listed_page r') e' ≡ line_call image map a last b
    → (r ≡ r') × (e ≡ e')
one-listed image map a last b e e' r r' p q = one-call listed_page listed-one r r' e e' (p ∙ sym q)
