-- THE ANSWER OF A CALL FOR C: three words in six lent bytes, low byte first.
use Rattle.std.specs.Prelude.{ℕ, cond, List, [], ◌∷◌, ◌≡◌, eqb, length}
use Rattle.wordbytes.specs.Words.{bytes_in}
use Rattle.refusal.specs.Numbers.{no_state}
use Rattle.refusal.specs.Page.{Left, Told, reading_at}

abbrev pub three_words : ℕ → ℕ → ℕ → List ℕ
three_words x y z = bytes_in (x ∷ y ∷ z ∷ [])

-- 21: another length than six, which is looked at before all else
unfoldable pub answer_why : List ℕ → ℕ
answer_why a = cond (eqb (length a) 6) 0 no_state

-- six bytes
pub record SixBytes (a : List ℕ) : Type 0 where
  pub six : length a ≡ 6

-- a refusal's place, a line or a column, is the third word
abbrev pub place_words : ℕ → List ℕ
place_words place = three_words 0 0 place

-- a call as C reads it, with the answer a beside what it was lent: `words` are an answer's; a refusal leaves it as lent, but for its place
abbrev pub answering : {A B : Type 0} → (A → List ℕ) → List ℕ → Left A B → Told (B × List ℕ)
answering words a l = reading_at (λ x b. (b, words x)) (λ place b. (b, place_words place)) (λ b. (b, a)) l
