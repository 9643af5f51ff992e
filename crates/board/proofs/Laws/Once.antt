-- ONE OUTCOME of an inner function: `Did` and `Saw` leave one answer, and one store.
use Prim.Native.Nat.{ℕ}
use mathlib.Core.List.{List}
use mathlib.Core.Path.{◌≡◌, refl, sym, ap, ◌∙◌}
use Rattle.std.specs.Prelude.{Result, Ok, Err}
use Rattle.board.specs.Work.{Work}
use Rattle.board.specs.Exec.{Store, Now, good, gone, Got, Did, Saw, answer_as}
use Rattle.board.proofs.Laws.Exec.{store_of}
use Rattle.board.specs.declared.Blank.{Blank}

-- an answer's meaning tells the answer and the store
abbrev pub OneToOne : {R A : Type 0} → (R → Store → Now A) → Type 0
OneToOne {R} meant = (r q : R) (st su : Store) → meant r st ≡ meant q su → (r ≡ q) × (st ≡ su)

-- a meaning from which the answer and the store can be read back tells them
pub tells-back : {R A : Type 0} (meant : R → Store → Now A) (back : Now A → R) → ((r : R) (st : Store) → (back (meant r st) ≡ r) × (store_of (meant r st) ≡ st)) → OneToOne meant
tells-back meant back f r q st su e = (sym (f r st).0 ∙ ap back e ∙ (f q su).0, sym (f r st).1 ∙ ap store_of e ∙ (f q su).1)

-- what work came to, told by such a meaning: one answer, one store
pub got-one : {R A : Type 0} (meant : R → Store → Now A) → OneToOne meant → {map : List ℕ} {w : Work A} {st s₁ s₂ : Store} (r q : R)
    → Got map w st (meant r s₁) → Got map w st (meant q s₂) → (r ≡ q) × (s₁ ≡ s₂)
got-one meant f {s₁ = s₁} {s₂ = s₂} r q p d = f r q s₁ s₂ (p.came ∙ sym d.came)

-- ---- a value, or the address of the access that was not answered

abbrev answer_of : {A : Type 0} → Now A → Result A Blank
answer_of (good x st) = Ok x
answer_of (gone a st) = Err (record { at = a })

told-back : {A : Type 0} (r : Result A Blank) (st : Store) → (answer_of (answer_as r st) ≡ r) × (store_of (answer_as r st) ≡ st)
told-back (Ok x) st = (refl, refl)
told-back (Err b) st = (refl, refl)

pub answer-tells : {A : Type 0} → OneToOne (answer_as {A = A})
answer-tells = tells-back answer_as answer_of told-back

-- a function that writes: one answer, one store
pub did-one : {A : Type 0} {map : List ℕ} {w : Work A} {st s₁ s₂ : Store} (r q : Result A Blank)
    → Did map w st r s₁ → Did map w st q s₂ → (r ≡ q) × (s₁ ≡ s₂)
did-one r q p d = got-one answer_as answer-tells r q p.got d.got

-- a function that only reads: one answer
pub saw-one : {A : Type 0} {map : List ℕ} {w : Work A} (m l : List ℕ) (r q : Result A Blank)
    → Saw map w m r → Saw map w m q → r ≡ q
saw-one m l r q p d = (got-one answer_as answer-tells r q (p.got {l = l}) (d.got {l = l})).0
