-- The lines that calls write one after the other, each from the address that the one before it answered, are the listing.
use Prim.Native.Nat.{ℕ, zero, suc, ◌+◌, ◌*◌, ◌%◌, ◌≤◌, ◌<◌}
use mathlib.Core.Bool.{Bool, true, false, cond, ◌||◌}
use mathlib.Core.List.{List, [], ◌∷◌}
use mathlib.Core.Path.{◌≡◌, refl, ap, sym, ◌∙◌}
use native.Mathlib.Omega.{arith}
use borrow.Author.Tests.{le-leb, lt-leb, ltb-true, ltb-false, eqb-false}
use lib.Dec.{leb, ltb, eqb}
use lib.ListN.{length, take}
use Rattle.hexdigits.proofs.Laws.Laid.{wrote-take}
use Rattle.refusal.specs.Numbers.{no_stretch}
use Rattle.refusal.specs.Page.{answered, left}
use Rattle.refusal.proofs.Laws.Page.{answered-one, call-right, first-both}
use Rattle.refusal.specs.Refusal.{board_refusal}
use Rattle.refusal.proofs.Laws.Refusal.{neither}
use Rattle.wordbytes.specs.Words.{word_at}
use Rattle.board.specs.Work.{fitted}
use Rattle.optext.specs.Line.{taken}
use Rattle.listing.specs.declared.CodeFound.TheVariants.{Nothing, Cut, Whole}
use Rattle.listing.specs.Listing.{all_stand, found_at, moves_on, listing_line, next_at, lines_from, listing_of}
use Rattle.listing.specs.Calls.{Next, goes_on, ends, Lined, lined, bad_stretch, line_why, next_of, line_in, line_call, Lines, final, more}

-- ---- the listing, line by line

-- every op code has a word
pub taken-some : (w : ℕ) → 1 ≤ taken w
unfolding taken
taken-some w = omega arith

module _ (map image : List ℕ) (last : ℕ) where
  -- every line moves on
  moves-on : (a : ℕ) → 1 ≤ moves_on (found_at map image last a)
  unfolding found_at
  moves-on a = go (fitted map a) (all_stand map last a (taken (word_at image a)))
    where
      go : (f s : Bool) → 1 ≤ moves_on (cond f (cond s (Whole (taken (word_at image a))) Cut) Nothing)
      go true true = taken-some (word_at image a)
      go true false = omega arith
      go false s = omega arith

  pub next-further : (a : ℕ) → a + 2 ≤ next_at map image last a
  unfolding next_at
  next-further a = omega (arith, moves-on a)

  -- more lines than there are words make no difference
  enough : (n a : ℕ) → last + 2 ≤ a + n * 2 → lines_from map image last n a ≡ lines_from map image last (suc n) a
  unfolding lines_from
  enough zero a h = rw (lt-leb a last (omega arith)) refl
  enough (suc n) a h = ap (λ (l : List (List ℕ)). cond (leb a last) (listing_line map image last a ∷ l) []) (enough n (next_at map image last a) (omega (arith, next-further a)))

  lines_more : (n a : ℕ) → a ≤ last → lines_from map image last (suc n) a ≡ listing_line map image last a ∷ lines_from map image last n (next_at map image last a)
  unfolding lines_from
  lines_more n a h = rw (le-leb a last h) refl

  lines_end : (n a : ℕ) → last < a → lines_from map image last (suc n) a ≡ []
  unfolding lines_from
  lines_end n a h = rw (lt-leb a last h) refl

  -- a listing is its first line, and the listing from the next address on
  pub listing-more : (a : ℕ) → a ≤ last → last < 65535 → listing_of a last map image ≡ listing_line map image last a ∷ listing_of (next_at map image last a) last map image
  unfolding listing_of
  listing-more a h k =
      lines_more 32767 a h
      ∙ ap (λ (l : List (List ℕ)). listing_line map image last a ∷ l) (enough 32767 (next_at map image last a) (omega (arith, next-further a)))

  pub listing-end : (a : ℕ) → last < a → listing_of a last map image ≡ []
  unfolding listing_of
  listing-end a h = lines_end 32767 a h

-- ---- what is known where a call is not refused

pub cond-none : (b : Bool) (k : ℕ) → (k ≡ 0 → ⊥) → cond b k 0 ≡ 0 → b ≡ false
cond-none true k n e = absurd (n e)
cond-none false k n e = refl

pub record GoodStretch (a last : ℕ) : Type 0 where
  pub even : a % 2 ≡ 0
  pub within : a ≤ last
  pub last_even : last % 2 ≡ 0

not-odd : (a : ℕ) → eqb (a % 2) 1 ≡ false → a % 2 ≡ 0
not-odd a e = let n = eqb-false (a % 2) 1 e in omega arith

pub good : (size : ℕ) (map : List ℕ) (a last text : ℕ) → line_why size map a last text ≡ 0 → GoodStretch a last
unfolding line_why
good size map a last text e =
    let b = (first-both (board_refusal size map) _ e).1 in
    let s = cond-none (bad_stretch a last) no_stretch (λ h. omega arith) (first-both (cond (bad_stretch a last) no_stretch 0) _ b).0 in
    let o = neither (eqb (a % 2) 1 || eqb (last % 2) 1) (ltb last a) s in
    let t = neither (eqb (a % 2) 1) (eqb (last % 2) 1) o.0 in
    record { even = not-odd a t.0; within = ltb-false last a o.1; last_even = not-odd last t.1 }

-- ---- the calls

abbrev number : Next → ℕ
number (goes_on a) = suc a
number ends = 0

module _ (image map : List ℕ) (last : ℕ) where
  -- what a call that is not refused answers and leaves
  pub record Called (a n : ℕ) (x : Next) (b e : List ℕ) : Type 0 where
    pub stretch : GoodStretch a last
    pub line : take n e ≡ listing_line map image last a
    pub next : x ≡ next_of last (next_at map image last a)

  pub called : (a n : ℕ) (x : Next) (b e : List ℕ) → left (answered (lined n x)) e ≡ line_call image map a last b → Called a n x b e
  unfolding line_call
  called a n x b e h =
      let l = listing_line map image last a in
      let done = call-right (line_why (length image) map a last (length b)) (line_in image map a last b) b h in
      let t : lined n x ≡ lined (length l) (next_of last (next_at map image last a)) = answered-one (ap (λ z. z.page) done.1) in
      record {
        stretch = good (length image) map a last (length b) done.0;
        line = wrote-take l b e n (record { bytes = ap (λ z. z.lent) done.1; count = ap (λ (z : Lined). z.count) t });
        next = ap (λ (z : Lined). z.next) t;
      }

  pub ends-past : (p : ℕ) → ends ≡ next_of last p → last < p
  ends-past p e = go (ltb last p) refl (ap number e)
    where
      go : (t : Bool) → ltb last p ≡ t → 0 ≡ number (cond t ends (goes_on p)) → last < p
      go true q z = ltb-true last p q
      go false q z = absurd (omega arith)

  pub goes-on : (p a : ℕ) → goes_on a ≡ next_of last p → a ≡ p
  goes-on p a e = go (ltb last p) (ap number e)
    where
      go : (t : Bool) → suc a ≡ number (cond t ends (goes_on p)) → a ≡ p
      go true z = absurd (omega arith)
      go false z = omega arith

  -- THE LINES JOINED ARE THE LISTING
  pub joined : last < 65536 → (a : ℕ) (ls : List (List ℕ)) → (Lines image map last) a ls → ls ≡ listing_of a last map image
  joined k _ _ (final a n b e h) =
      let c = called a n ends b e h in
      let even : last % 2 ≡ 0 = c.stretch.last_even in
      let z : listing_of (next_at map image last a) last map image ≡ [] = listing-end map image last (next_at map image last a) (ends-past (next_at map image last a) c.next) in
      rw c.line (sym (listing-more map image last a c.stretch.within (omega arith) ∙ ap (λ (l : List (List ℕ)). listing_line map image last a ∷ l) z))
  joined k _ _ (more a n a' b e ms h r) =
      let c = called a n (goes_on a') b e h in
      let even : last % 2 ≡ 0 = c.stretch.last_even in
      let z : a' ≡ next_at map image last a = goes-on (next_at map image last a) a' c.next in
      let m : ms ≡ listing_of a' last map image = joined k a' ms r in
      rw (c.line, m, z) (sym (listing-more map image last a c.stretch.within (omega arith)))
