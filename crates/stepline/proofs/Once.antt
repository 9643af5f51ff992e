-- ONE OUTCOME: the equation of `write_step` leaves one answer, one image and one text.
use Prim.Native.Nat.{ℕ}
use mathlib.Core.List.{List}
use mathlib.Core.Path.{◌≡◌, refl, ap}
use Rattle.std.specs.Prelude.{Result}
use Rattle.refusal.specs.declared.Refusal.{Refusal}
use Rattle.refusal.specs.Page.{left}
use Rattle.refusal.proofs.Laws.Answer.{page-one}
use Rattle.refusal.proofs.Laws.Page.{one-call}
use Rattle.step.specs.declared.Turn.{Turn}
use Rattle.machine.proofs.Laws.Back.{turn_one}
use Rattle.stepline.specs.declared.Shown.{Shown}
use Rattle.stepline.specs.Shown.{ShownPage, shown_line, shown_page}

same-line : {n k : ℕ} {t u : Turn} → n ≡ k → t ≡ u → ◌≡◌ {A = Shown} (record { length = n; turn = t }) (record { length = k; turn = u })
same-line e d = rw (e, d) refl

line-one : (r q : Shown) → shown_line r ≡ shown_line q → r ≡ q
line-one r q e = same-line (ap (λ (p : ShownPage). p.count) e) (turn_one r.turn q.turn (ap (λ (p : ShownPage). p.turn) e))

pub one-shown : (r q : Result Shown Refusal) (b c : List ℕ × List ℕ) → left (shown_page r) b ≡ left (shown_page q) c → (r ≡ q) × (b ≡ c)
one-shown = one-call shown_page (page-one line-one)
