-- Laws of what a writer leaves in a lent buffer.
use mathlib.Core.Path.{◌≡◌, refl, ap, sym, ◌∙◌}
use mathlib.Core.List.{List, [], ◌∷◌, ◌++◌, append_assoc, append-nil}
use Prim.Native.Nat.{ℕ, suc, ◌+◌, ◌-◌, ◌≤◌, ◌<◌}
use native.Mathlib.Omega.{arith}
use native.Mathlib.Nat.{zero-add}
use native.Mathlib.Numerals.{add-one}
use borrow.Author.Tests.{le-leb, lt-leb}
use lib.ListN.{length, take, drop, set, get_or, length-append, length-take, length-drop}
use lib.Seq.{sets, sets-eq, take_at, drop_at, drop-drop, drop-cons, set_at, append_snoc, take_all, drop-length, take-suc, take-append_seam, length-take-le}
use Rattle.hexdigits.specs.Over.{in_front_of, Wrote, WroteAt, text_left, written, TextLeft}
use borrow.Rule.Slice.PartMut.{mid_of, put_mid, Post-is, same_len_mid}

over-length : (xs b : List ℕ) → length xs ≤ length b → length (in_front_of xs b) ≡ length b
unfolding in_front_of
over-length xs b h = simp (length-append, length-drop) (omega arith)

-- straight-line stores from the start
pub over-sets : (vs b : List ℕ) → length vs ≤ length b → sets b 0 vs ≡ in_front_of vs b
unfolding in_front_of
over-sets vs b h = sets-eq vs b 0 (omega arith) ∙ ap (λ (n : ℕ). vs ++ drop n b) (zero-add (length vs))

-- a writer that gets the part after p
over-part : (p xs b : List ℕ) (a : ℕ) → length p ≡ a → take a (in_front_of p b) ++ in_front_of xs (drop a (in_front_of p b)) ≡ in_front_of (p ++ xs) b
unfolding in_front_of
over-part p xs b a e =
    rw (take_at p (drop (length p) b) a e, drop_at p (drop (length p) b) a e)
    (rw (drop-drop, length-append, append_assoc) refl)

-- one byte more
over-set : (p b : List ℕ) (a c : ℕ) → length p ≡ a → a < length b → set (in_front_of p b) a c ≡ in_front_of (p ++ (c ∷ [])) b
unfolding in_front_of
over-set p b a c e h =
    let h' : length p < length b = omega arith in
    rw (drop-cons b (length p) 0 h', set_at p (get_or b (length p) 0) (drop (suc (length p)) b) c a e, length-append, add-one)
    (sym (append_snoc p c (drop (suc (length p)) b)))

-- the part that `&mut b[a..]` lends
pub part-is-drop : (a : ℕ) (b : List ℕ) → take (length b - a) (drop a b) ≡ drop a b
part-is-drop a b = take_all (length b - a) (drop a b) (simp length-drop (omega arith))

pub wrote-sets : (vs b : List ℕ) → length vs ≤ length b → Wrote vs b (sets b 0 vs) (length vs)
wrote-sets vs b h = record { bytes = over-sets vs b h; count = refl }

pub wrote_none : (b : List ℕ) → Wrote [] b b 0
unfolding in_front_of
wrote_none b = record { bytes = refl; count = refl }

-- a writer got the part from a on, where p stands in front already
pub part-back : (p s b xs y : List ℕ) (a n : ℕ) → xs ≡ in_front_of p b → length p ≡ a → length p ≤ length b
    → Wrote s (mid_of a (length xs - a) xs) y n
    → put_mid a (length xs - a) xs y ≡ in_front_of (p ++ s) b
part-back p s b xs y a n q e h w =
    let l : length xs ≡ length b = ap length q ∙ over-length p b h in
    let f : a ≤ length xs = omega arith in
    rw (w.bytes, part-is-drop a xs, Post-is a (length xs) xs f, drop-length)
    (simp append-nil (rw q (over-part p s b a e)))

pub part_length : (a : ℕ) (xs ys : List ℕ) → length ys ≡ length (mid_of a (length xs - a) xs) → length (put_mid a (length xs - a) xs ys) ≡ length xs
part_length a xs ys e = same_len_mid a (length xs - a) xs ys e

-- the part from a place on has this much room
pub part_room : (at k : ℕ) (b : List ℕ) → at + k ≤ length b → k ≤ length (mid_of at (length b - at) b)
part_room at k b h = simp (length-take, length-drop) (omega arith)

-- a text that is copied to the front byte by byte
pub copy-none : (s b : List ℕ) → b ≡ in_front_of (take 0 s) b
unfolding in_front_of
copy-none s b = refl

pub copy_more : (s b e : List ℕ) (i : ℕ) → e ≡ in_front_of (take i s) b → i < length s → length s ≤ length b
    → set e i (get_or s i 0) ≡ in_front_of (take (i + 1) s) b
copy_more s b e i q h l =
    let t : length (take i s) ≡ i = length-take-le i s (omega arith) in
    rw (q, add-one i, take-suc s i 0 h) (over-set (take i s) b i (get_or s i 0) t (omega arith))

-- a writer got the part from a place on
pub at_part : (at n : ℕ) (s b y : List ℕ) → at ≤ length b → Wrote s (mid_of at (length b - at) b) y n
    → WroteAt at s b (put_mid at (length b - at) b y) (at + n)
at_part at n s b y h w = record {
  bytes = rw (w.bytes, part-is-drop at b, Post-is at (length b) b h, drop-length) (simp append-nil);
  count = ap (λ (m : ℕ). at + m) w.count;
}

-- one after the other
pub then : (p s b b1 e : List ℕ) (at n : ℕ) → Wrote p b b1 at → WroteAt at s b1 e n → Wrote (p ++ s) b e n
then p s b b1 e at n w v = record {
  bytes = v.bytes ∙ rw w.bytes (over-part p s b at (sym w.count));
  count = v.count ∙ rw (w.count, length-append) refl;
}

-- one after the other, where the second gets the part after the first
pub then_part : (p s b b1 y : List ℕ) (at n : ℕ) → length p ≤ length b → Wrote p b b1 at → Wrote s (mid_of at (length b1 - at) b1) y n
    → Wrote (p ++ s) b (put_mid at (length b1 - at) b1 y) (at + n)
then_part p s b b1 y at n h w v =
    let l : length b1 ≡ length b = ap length w.bytes ∙ over-length p b h in
    then p s b b1 _ at (at + n) w (at_part at n s b1 y (omega (arith, l, w.count)) v)

-- the text is what stands in front
pub wrote-take : (s b e : List ℕ) (n : ℕ) → Wrote s b e n → take n e ≡ s
unfolding in_front_of
wrote-take s b e n w = rw (w.bytes, w.count) (take-append_seam s (drop (length s) b))

pub wrote-rest : (s b e : List ℕ) (n : ℕ) → Wrote s b e n → e ≡ in_front_of (take n e) b
wrote-rest s b e n w = w.bytes ∙ ap (λ (l : List ℕ). in_front_of l b) (sym (wrote-take s b e n w))

-- a text that fits, and one that does not
pub written_is : (s b e : List ℕ) (n : ℕ) → length s ≤ length b → Wrote s b e n → text_left n e ≡ written s b
unfolding written
written_is s b e n h w = simp (le-leb (length s) (length b) h) (rw (w.bytes, w.count) refl)

pub written_none : (s b : List ℕ) → length b < length s → text_left 0 b ≡ written s b
unfolding written
written_none s b h = simp (lt-leb (length s) (length b) h)

-- what was left is the text, where it fits
pub wrote-fits : (s b e : List ℕ) (n : ℕ) → length s ≤ length b → text_left n e ≡ written s b → Wrote s b e n
unfolding written
wrote-fits s b e n h q =
    let w : text_left n e ≡ text_left (length s) (in_front_of s b) = simp (le-leb (length s) (length b) h) at q in
    record { bytes = ap (λ (l : TextLeft). l.bytes) w; count = ap (λ (l : TextLeft). l.count) w }
