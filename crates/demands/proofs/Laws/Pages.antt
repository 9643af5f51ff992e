-- Demand 3 for calls that are lent other buffers: from the shape of a call.
use Prim.Native.Nat.{ℕ, zero, suc}
use mathlib.Core.Path.{◌≡◌, sym, ap, ◌∙◌}
use native.Mathlib.Omega.{arith}
use Rattle.refusal.specs.Page.{Left, call}

-- two calls that differ in what is lent alone, but not in what f reads of it: the same page and the same f, and the same of all where nothing is refused
pub same-call : {A B C : Type 0} (f : B → C) (why : ℕ) (right : Left A B) (lent more : B) {y z : Left A B} → f lent ≡ f more → y ≡ call why right lent → z ≡ call why right more
    → (y.page ≡ z.page) × (f y.lent ≡ f z.lent) × (why ≡ 0 → y ≡ z)
same-call f zero right lent more h e d = (ap (λ x. x.page) (e ∙ sym d), ap (λ x. f x.lent) (e ∙ sym d), λ n. e ∙ sym d)
same-call f (suc why) right lent more h e d = (
  ap (λ x. x.page) e ∙ sym (ap (λ x. x.page) d),
  ap (λ x. f x.lent) e ∙ h ∙ sym (ap (λ x. f x.lent) d),
  λ n. absurd (omega (arith, n)),
)
