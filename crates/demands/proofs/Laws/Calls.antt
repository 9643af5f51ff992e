-- Demand 3 for the functions for C: from the pages to the bytes.
use Prim.Native.Nat.{ℕ, zero, suc}
use mathlib.Core.List.{List}
use mathlib.Core.Path.{◌≡◌, refl}
use Rattle.board.specs.Work.{Agree, Untouched, Blind}
use Rattle.refusal.specs.Page.{Page, refused, refused_at, answered, Left, call, Told, tells, reading}
use Rattle.machine.proofs.Laws.Blind.{SameLeft}

-- ---- demand 3

-- the image is one of the lent buffers, and `rest`, the number and the others, doesn't depend on it
module _ {A C D : Type 0} (bytes : A → List ℕ → C) (kept : List ℕ → C) (rest : ℕ → C → D) (image : C → List ℕ)
    (same : (number : ℕ) (a : A) (k l : List ℕ) → rest number (bytes a k) ≡ rest number (bytes a l)) (own : (a : A) (k : List ℕ) → image (bytes a k) ≡ k)
    (same_kept : (number : ℕ) (k l : List ℕ) → rest number (kept k) ≡ rest number (kept l)) (own_kept : (k : List ℕ) → image (kept k) ≡ k) (map m n : List ℕ) where
  abbrev BothBlind : Told C → Told C → Type 0
  BothBlind v w = Blind {A = D} map m n (rest v.number v.lent) (rest w.number w.lent) (image v.lent) (image w.lent)

  page-blind : (p : Page A) (k l : List ℕ) → Agree map k l → Untouched map m k → Untouched map n l → BothBlind (tells bytes (λ place. kept) kept p k) (tells bytes (λ place. kept) kept p l)
  page-blind (answered a) k l h i j = rw (own a k, own a l) (record { answer = same 0 a k l; fitted_agree = h; unfitted_stay = i; unfitted_stay_too = j })
  page-blind (refused why) k l h i j = rw (own_kept k, own_kept l) (record { answer = same_kept why k l; fitted_agree = h; unfitted_stay = i; unfitted_stay_too = j })
  page-blind (refused_at why place) k l h i j = rw (own_kept k, own_kept l) (record { answer = same_kept why k l; fitted_agree = h; unfitted_stay = i; unfitted_stay_too = j })

  pub call-blind : Agree map m n → (bad : ℕ) (x y : Left A (List ℕ)) → SameLeft map x y → Untouched map m x.lent → Untouched map n y.lent
      → BothBlind (reading bytes kept (call bad x m)) (reading bytes kept (call bad y n))
  call-blind g zero x y s i j = rw (← s.page) (page-blind x.page x.lent y.lent s.agree i j)
  call-blind g (suc bad) x y s i j = page-blind (refused (suc bad)) m n g (λ a e. refl) (λ a e. refl)
