-- Laws of writers one after the other, from a place on.
use mathlib.Core.Path.{◌≡◌, refl, ap, sym, ◌∙◌}
use mathlib.Core.List.{List, [], ◌++◌, append_assoc}
use Prim.Native.Nat.{ℕ, ◌≤◌}
use native.Mathlib.Omega.{arith}
use lib.ListN.{length, take, drop, length-append, take-append-drop}
use lib.Seq.{take_at, drop_at, drop-drop, length-take-le}
use Rattle.hexdigits.specs.Over.{in_front_of, WroteAt}

pub then_at : (at n m : ℕ) (p s b b1 e : List ℕ) → at ≤ length b → WroteAt at p b b1 n → WroteAt n s b1 e m → WroteAt at (p ++ s) b e m
unfolding in_front_of
then_at at n m p s b b1 e h w v = record {
  bytes = v.bytes ∙ rw (take-is, drop-is) (rw (append_assoc, append_assoc, length-append, ← drop-drop) refl);
  count = v.count ∙ rw (w.count, length-append) (omega arith);
}
  where
    front : length (take at b ++ p) ≡ n
    front = simp length-append (rw (length-take-le at b h) (sym w.count))

    shape : b1 ≡ (take at b ++ p) ++ drop (length p) (drop at b)
    shape = w.bytes ∙ sym (append_assoc (take at b) p (drop (length p) (drop at b)))

    take-is : take n b1 ≡ take at b ++ p
    take-is = ap (λ (l : List ℕ). take n l) shape ∙ take_at (take at b ++ p) (drop (length p) (drop at b)) n front

    drop-is : drop n b1 ≡ drop (length p) (drop at b)
    drop-is = ap (λ (l : List ℕ). drop n l) shape ∙ drop_at (take at b ++ p) (drop (length p) (drop at b)) n front

pub none-at : (at : ℕ) (b : List ℕ) → WroteAt at [] b b at
unfolding in_front_of
none-at at b = record { bytes = sym (take-append-drop at b); count = omega arith }
