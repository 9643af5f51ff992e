-- The first refusal met, and what is right where nothing is refused.
use Rattle.std.proofs.Common.{◌≡◌, ℕ, zero, suc, sym, refl, ap, ◌∙◌, arith}
use Rattle.refusal.specs.Page.{Page, refused, answered, Left, left, call, first, unless}

pub first_some : (why later : ℕ) → (why ≡ 0 → ⊥) → why ≡ first why later
first_some zero later n = absurd (n refl)
first_some (suc why) later n = refl

pub first-both : (why later : ℕ) → first why later ≡ 0 → (why ≡ 0) × (later ≡ 0)
first-both zero later e = (refl, e)
first-both (suc why) later e = absurd (omega (arith, e))

unless-some : {A : Type 0} (why : ℕ) (a b : A) → (why ≡ 0 → ⊥) → unless why a b ≡ b
unless-some zero a b n = absurd (n refl)
unless-some (suc why) a b n = refl

-- an answer is no refusal
pub apart : {A : Type 0} {x : A} {why : ℕ} → answered x ≡ refused why → ⊥
apart {A} {x} {why} e = let z : ◌≡◌ {A = ℕ} 0 1 = cc in omega arith

-- one number, one answer
pub refused-one : {A : Type 0} {x y : ℕ} → ◌≡◌ {A = Page A} (refused x) (refused y) → x ≡ y
refused-one {A} {x} {y} e = cc

pub answered-one : {A : Type 0} {x y : A} → answered x ≡ answered y → x ≡ y
answered-one {A} {x} {y} e = cc

-- ---- a refused call, and one that is not

module _ {A B : Type 0} (why : ℕ) (right : Left A B) (lent : B) where
  pub call-refused : (n : ℕ) → n ≡ why → (n ≡ 0 → ⊥) → left (refused n) lent ≡ call why right lent
  call-refused n e some = by why e
    where
      by : (k : ℕ) → n ≡ k → left (refused n) lent ≡ call k right lent
      by zero d = absurd (some d)
      by (suc k) d = rw d refl

  pub call-answered : (x : Left A B) → why ≡ 0 → x ≡ right → x ≡ call why right lent
  call-answered x e h = rw e h

  -- an answer is what is right, and nothing was refused
  pub call-right : {a : A} {b : B} → left (answered a) b ≡ call why right lent → (why ≡ 0) × (left (answered a) b ≡ right)
  call-right {a} {b} e = by why e
    where
      by : (k : ℕ) → left (answered a) b ≡ call k right lent → (k ≡ 0) × (left (answered a) b ≡ right)
      by zero d = (refl, d)
      by (suc k) d = absurd (apart (ap (λ z. z.page) d))

  -- a refusal tells that number, and everything is as lent
  pub call-told : {a : A} {b : B} {n : ℕ} → right.page ≡ answered a → left (refused n) b ≡ call why right lent → (n ≡ why) × (n ≡ 0 → ⊥) × (b ≡ lent)
  call-told {a} {b} {n} h e = by why e
    where
      by : (k : ℕ) → left (refused n) b ≡ call k right lent → (n ≡ k) × (n ≡ 0 → ⊥) × (b ≡ lent)
      by zero d = absurd (apart (sym h ∙ sym (ap (λ z. z.page) d)))
      by (suc k) d =
          let number : n ≡ suc k = refused-one (ap (λ z. z.page) d) in
          (number, λ z. omega arith, ap (λ z. z.lent) d)

-- two refusals in a row
pub call-first : {A B : Type 0} (a b : ℕ) (right : Left A B) (lent : B) → call (first a b) right lent ≡ call a (call b right lent) lent
call-first zero b right lent = refl
call-first (suc a) b right lent = refl

-- ---- ONE OUTCOME: what can be read back is one to one, and so is a page with what is left
pub one : {A B : Type 0} {f : A → B} (back : B → A) → ((x : A) → back (f x) ≡ x) → (x y : A) → f x ≡ f y → x ≡ y
one back again x y e = sym (again x) ∙ ap back e ∙ again y

pub one-call : {R A B : Type 0} (page : R → Page A) → ((r q : R) → page r ≡ page q → r ≡ q) → (r q : R) (b c : B) → left (page r) b ≡ left (page q) c → (r ≡ q) × (b ≡ c)
one-call page once r q b c e = (once r q (ap (λ z. z.page) e), ap (λ z. z.lent) e)
