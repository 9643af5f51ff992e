-- The theorems that specs/Follow.antt states.
use Prim.Native.Nat.{ℕ, zero, suc, ◌+◌, ◌*◌, ◌%◌, ◌≤◌, ◌<◌}
use mathlib.Core.Bool.{Bool, true, false, cond, ◌||◌}
use mathlib.Core.List.{List, [], ◌∷◌}
use mathlib.Core.Path.{◌≡◌, refl, ap, sym, ◌∙◌}
use native.Mathlib.Omega.{arith}
use borrow.Author.Tests.{le-ltb, ltb-false, ne_eqb}
use lib.Dec.{eqb, leb, ltb}
use lib.ListN.{length, take, replicate}
use Rattle.hexdigits.specs.Over.{in_front_of}
use Rattle.refusal.specs.Numbers.{no_stretch, text_short}
use Rattle.refusal.specs.Page.{answered, left, first}
use Rattle.refusal.specs.Refusal.{board_refusal}
use Rattle.refusal.proofs.Laws.Page.{first-both, call-right}
use Rattle.listing.specs.Listing.{listing_line, next_at, lines_from, listing_of}
use Rattle.listing.specs.Calls.{Next, goes_on, ends, lined, line_room, bad_stretch, line_why, next_of, line_in, line_call, Lines, final, more}
use Rattle.listing.proofs.Laws.Joined.{GoodStretch, good, next-further, goes-on, called, joined}
use Rattle.listing.proofs.Laws.{why-none}
use Rattle.listjob.specs.Follow.{NextTaken, Ends, FollowEnds, LinesFew}

-- ---- the next address

abbrev number : Next → ℕ
number (goes_on a) = 0
number ends = 1

on-ends : (a : ℕ) → goes_on a ≡ ends → ⊥
on-ends a e = let z : ◌≡◌ {A = ℕ} 0 1 = ap number e in omega (arith, z)

in-stretch : (a last : ℕ) → GoodStretch a last → bad_stretch a last ≡ false
in-stretch a last g = simp (ne_eqb (a % 2) 1 (λ e. omega (arith, e, g.even)), ne_eqb (last % 2) 1 (λ e. omega (arith, e, g.last_even)), le-ltb last a g.within)

-- where a line is not refused, no line of the stretch is
pub other-taken : (size : ℕ) (map : List ℕ) (a last text a' text' : ℕ) → line_why size map a last text ≡ 0 → GoodStretch a' last → 52 ≤ text' → line_why size map a' last text' ≡ 0
unfolding line_why
other-taken size map a last text a' text' e g h =
    sym (why-none size map a' last text' (board_refusal size map) refl (first-both (board_refusal size map) _ e).0 (bad_stretch a' last) refl (in-stretch a' last g) h)

module _ (image map : List ℕ) (last : ℕ) where
  pub next-good : (a : ℕ) → GoodStretch a last → next_at map image last a ≤ last → GoodStretch (next_at map image last a) last
  unfolding next_at
  next-good a g h = record { even = omega (arith, g.even); within = h; last_even = g.last_even }

  pub goes-within : (p a : ℕ) → goes_on a ≡ next_of last p → p ≤ last
  goes-within p a e = go (ltb last p) refl e
    where
      go : (t : Bool) → ltb last p ≡ t → goes_on a ≡ cond t ends (goes_on p) → p ≤ last
      go true q z = absurd (on-ends a z)
      go false q z = ltb-false last p q

pub next-taken : NextTaken
unfolding line_call
next-taken image map a last n next text text' other e h =
    let c = called image map last a n (goes_on next) text text' e in
    let none = (call-right (line_why (length image) map a last (length text)) (line_in image map a last text) text e).0 in
    let within = goes-within image map last (next_at map image last a) next c.next in
    rw (goes-on image map last (next_at map image last a) next c.next)
    (other-taken (length image) map a last (length text) (next_at map image last a) (length other) none (next-good image map last a c.stretch within) h)

-- ---- to the last line

module _ (image map : List ℕ) (last : ℕ) where
  abbrev blank : List ℕ
  blank = replicate 52 0

  answers : (a : ℕ) → line_why (length image) map a last 52 ≡ 0 → line_in image map a last blank ≡ line_call image map a last blank
  unfolding line_call
  answers a e = sym (rw e refl)

  -- at most n lines from an address on
  record Within (n a : ℕ) : Type 0 where
    lines : List (List ℕ)
    calls : Lines image map last a lines
    few : length lines ≤ n

  -- a line, and the lines from the next address on
  line-more : (n a : ℕ) → line_why (length image) map a last 52 ≡ 0 → (next_at map image last a ≤ last → Within n (next_at map image last a)) → Within (suc n) a
  line-more n a e rest = by (ltb last (next_at map image last a)) refl
    where
      by : (t : Bool) → ltb last (next_at map image last a) ≡ t → Within (suc n) a
      by true q = record {
        lines = take (length (listing_line map image last a)) (in_front_of (listing_line map image last a) blank) ∷ [];
        calls = final a (length (listing_line map image last a)) blank (in_front_of (listing_line map image last a) blank) (rw q at (answers a e));
        few = omega arith;
      }
      by false q =
          let w = rest (ltb-false last (next_at map image last a) q) in
          record {
            lines = take (length (listing_line map image last a)) (in_front_of (listing_line map image last a) blank) ∷ w.lines;
            calls = more a (length (listing_line map image last a)) (next_at map image last a) blank (in_front_of (listing_line map image last a) blank) w.lines (rw q at (answers a e)) w.calls;
            few = omega (arith, w.few);
          }

  follow : (n a : ℕ) → last < a + n * 2 → line_why (length image) map a last 52 ≡ 0 → GoodStretch a last → Within n a
  follow zero a h e g = absurd (omega (arith, h, g.within))
  follow (suc n) a h e g =
      line-more n a e
      (λ within.
      let on = next-good image map last a g within in
      follow n (next_at map image last a) (omega (arith, h, next-further map image last a)) (other-taken (length image) map a last 52 (next_at map image last a) 52 e on (omega arith)) on)

pub follow-ends : FollowEnds
follow-ends image map a last text k e =
    let g = good (length image) map a last (length text) e in
    let w = follow image map last 32768 a (omega (arith, k)) (other-taken (length image) map a last (length text) a 52 e g (omega arith)) g in
    record { lines = w.lines; calls = w.calls; few = w.few }

cond-few : (t : Bool) (n : ℕ) (l : List ℕ) (ls : List (List ℕ)) → length ls ≤ n → length (cond t (l ∷ ls) []) ≤ suc n
cond-few true n l ls h = omega (arith, h)
cond-few false n l ls h = omega arith

lines-few-from : (map image : List ℕ) (last n a : ℕ) → length (lines_from map image last n a) ≤ n
unfolding lines_from
lines-few-from map image last zero a = omega arith
lines-few-from map image last (suc n) a = cond-few (leb a last) n _ _ (lines-few-from map image last n (next_at map image last a))

pub lines-few : LinesFew
unfolding listing_of
lines-few image map a last lines k ls = rw (joined image map last k a lines ls) (lines-few-from map image last 32768 a)
