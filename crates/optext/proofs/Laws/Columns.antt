-- The column and the number of a refused text, from the guess: the promises that do not speak of it.
use Rattle.std.proofs.Common.{◌≡◌, ℕ, suc, ◌+◌, ◌<◌, ◌≤◌, true, false, Bool, ◌||◌, eqb, cond, List, [], ◌∷◌, length, get_or, take, drop, sym, refl, ap, ◌∙◌, subst, append-nil, arith, take-append-drop, length-take-le}
use lib.Seq.{take-length}
use Rattle.std.specs.List.{list_any}
use Rattle.optext.specs.declared.reading.Guess.{Guess}
use Rattle.optext.specs.First.{agree}
use Rattle.optext.specs.Rows.{first_of}
use Rattle.optext.specs.Line.{row_of, takes, op_text, text_of}
use Rattle.optext.specs.Guess.{guess_of}
use Rattle.optext.specs.Column.{Whole, IsText, Column, space_in, Why, early, after, name, operand}
use Rattle.optext.specs.Words.{RefusedText, words_of}
use Rattle.optext.proofs.Laws.Near.{Near, agree-le, agree-le-text, agree-self, agree-take, take-agree}
use Rattle.optext.proofs.Laws.Furthest.{lt-w, lt-x, lt-y, nearest}
use Rattle.optext.proofs.Laws.Longest.{line-le}
use Rattle.optext.proofs.Laws.Meets.{text-words, whole_words}

-- the line of the guess at a text
unfoldable pub guess_line : List ℕ → List ℕ
guess_line t = op_text (guess_of t).w (guess_of t).x (guess_of t).y

-- two texts that agree to the end of both are one
pub same-text : (t p : List ℕ) → agree t p ≡ length t → agree t p ≡ length p → p ≡ t
same-text t p e f =
    let z : take (length p) p ≡ take (length t) t = subst (λ (n : ℕ). take n p ≡ take (length t) t) f (subst (λ (n : ℕ). take (agree t p) p ≡ take n t) e (agree-take t p)) in
    sym (take-length p) ∙ z ∙ take-length t

module _ (t : List ℕ) where
  -- THE GUESS AGREES FURTHEST, and is the text that t begins with
  pub near-text : (vs : List ℕ) → Whole vs → Near t (text_of vs) (guess_line t)
  unfolding text_of guess_line
  near-text vs h = nearest t (get_or vs 0 0) (get_or vs 1 0) (get_or vs (1 + takes (first_of (row_of (get_or vs 0 0))) (get_or vs 0 0)) 0) (h.words 0) (h.words 1) (h.words (1 + takes (first_of (row_of (get_or vs 0 0))) (get_or vs 0 0)))

  -- it is a text that the writer makes
  guess-text : IsText (guess_line t)
  unfolding guess_line
  guess-text = record {
    words = words_of (guess_of t).w (guess_of t).x (guess_of t).y;
    whole = whole_words (guess_of t).w (guess_of t).x (guess_of t).y (lt-w t) (lt-x t) (lt-y t);
    text = text-words (guess_of t).w (guess_of t).x (guess_of t).y (lt-w t);
  }

  pub column : Column t (agree t (guess_line t))
  column = record {
    within = agree-le-text t (guess_line t);
    begins = record {
      words = guess-text.words;
      whole = guess-text.whole;
      text = ap (λ (l : List ℕ). take (agree t (guess_line t)) l) guess-text.text ∙ agree-take t (guess_line t);
    };
    stops = λ l b. let n = (near-text b.words b.whole).far in
        let m = take-agree (suc (agree t (guess_line t))) t (text_of b.words) (omega arith) b.text in
        omega arith;
  }

  -- no line is longer than 24, so no column is further
  column-le : agree t (guess_line t) ≤ 24
  unfolding guess_line
  column-le =
      let l : length (guess_line t) ≤ 24 = line-le (guess_of t).w (guess_of t).x (guess_of t).y in
      let a = agree-le t (guess_line t) in
      omega arith

  -- a text that the writer makes is the line of its guess
  pub own_line : IsText t → guess_line t ≡ t
  own_line i = subst (λ (s : List ℕ). agree t s ≡ length s → guess_line t ≡ s) i.text (near-text i.words i.whole).whole (subst (λ (s : List ℕ). agree s t ≡ length t) (append-nil t) (agree-self t []))

  -- and where the line of the guess goes on after the column, no text ends there
  not-whole : agree t (guess_line t) < length (guess_line t) → IsText (take (agree t (guess_line t)) t) → ⊥
  not-whole l i =
      let c : ℕ = agree t (guess_line t) in
      let k : length (take c t) ≡ c = length-take-le c t (agree-le-text t (guess_line t)) in
      let w : agree t (take c t) ≡ length (take c t) = subst (λ (s : List ℕ). agree s (take c t) ≡ length (take c t)) (take-append-drop c t) (agree-self (take c t) (drop c t)) in
      let z : guess_line t ≡ take c t = subst (λ (s : List ℕ). agree t s ≡ length s → guess_line t ≡ s) i.text (near-text i.words i.whole).whole w in
      let m : length (guess_line t) ≡ length (take c t) = ap length z in
      omega arith

  -- but where it ends at the column, the text up to there is it
  whole-there : agree t (guess_line t) ≡ length (guess_line t) → IsText (take (agree t (guess_line t)) t)
  whole-there e = record {
    words = guess-text.words;
    whole = guess-text.whole;
    text = guess-text.text ∙ sym (take-length (guess_line t)) ∙ ap (λ (n : ℕ). take n (guess_line t)) (sym e) ∙ agree-take t (guess_line t);
  }

  own-far : IsText t → agree t (guess_line t) ≡ length t
  own-far i = subst (λ (s : List ℕ). agree t s ≡ length t) (sym (own_line i)) (subst (λ (s : List ℕ). agree s t ≡ length t) (append-nil t) (agree-self t []))

  own-end : IsText t → agree t (guess_line t) ≡ length (guess_line t)
  own-end i = own-far i ∙ sym (ap length (own_line i))

-- the reader's answers from the facts of its code: c is how far the text agrees with the line of the guess, n the line's length
module _ (t ws : List ℕ) (g : Guess) (e : g ≡ guess_of t) (c n : ℕ) (p : c ≡ agree t (op_text g.w g.x g.y)) (q : n ≡ length (op_text g.w g.x g.y)) where
  far : c ≡ agree t (guess_line t)
  unfolding guess_line
  far = p ∙ ap (λ (z : Guess). agree t (op_text z.w z.x z.y)) e

  long : n ≡ length (guess_line t)
  unfolding guess_line
  long = q ∙ ap (λ (z : Guess). length (op_text z.w z.x z.y)) e

  pub found-text : c ≡ length t → c ≡ n → op_text g.w g.x g.y ≡ t
  found-text a b = same-text t (op_text g.w g.x g.y) (sym p ∙ a) (sym p ∙ b ∙ q)

  module _ (h : 3 ≤ length ws) where
    refused : (m : ℕ) → (IsText t → ⊥) → Why t c m → RefusedText m c t ws ws
    refused m d w = record { room = h; none = d; column = rw far (column t); short = rw far (column-le t); why = w; same = refl }

    pub refuses-32 : c ≡ length t → (c ≡ n → ⊥) → RefusedText 32 c t ws ws
    refuses-32 a b = refused 32 (λ i. b (far ∙ own-end t i ∙ sym long)) (early refl a)

    module _ (a : c ≡ length t → ⊥) where
      other : IsText t → ⊥
      other i = a (far ∙ own-far t i)

      within : c < length t
      within = let l = agree-le-text t (guess_line t) in let f = far in omega arith

      pub refuses-31 : c ≡ n → RefusedText 31 c t ws ws
      refuses-31 b = refused 31 other (after refl within (rw far (whole-there t (sym far ∙ b ∙ long))))

      module _ (b : c ≡ n → ⊥) where
        not_there : IsText (take c t) → ⊥
        not_there = rw far (not-whole t (let l = agree-le t (guess_line t) in let f = far in let g = long in omega arith))

        pub refuses-9 : space_in (take c t) ≡ false → RefusedText 9 c t ws ws
        refuses-9 s = refused 9 other (name refl within not_there s)

        pub refuses-30 : space_in (take c t) ≡ true → RefusedText 30 c t ws ws
        refuses-30 s = refused 30 other (operand refl within not_there s)

-- a text contains a space
pub space-any : (t : List ℕ) → list_any (λ y. eqb y 32) t ≡ space_in t
space-any [] = refl
space-any (x ∷ t) = go (eqb x 32) (space-any t)
  where
    go : (b : Bool) → list_any (λ y. eqb y 32) t ≡ space_in t → (b || list_any (λ y. eqb y 32) t) ≡ cond b true (space_in t)
    go true e = refl
    go false e = e
