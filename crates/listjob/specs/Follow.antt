-- FOLLOWING THE NEXT ADDRESS: a call that lists a line and answers the next address answers one that is never refused, and the calls from
-- a first address on come to a last line, after 32,768 lines at most.
use Rattle.std.specs.Prelude.{ℕ, ◌≤◌, ◌<◌, List, ◌≡◌, length}
use Rattle.refusal.specs.Page.{answered, left}
use Rattle.listing.specs.Calls.{goes_on, lined, line_room, line_why, line_call, Lines}
use Rattle.listing.specs.Listing.{image_words}

-- the next address is not refused, in any text that has room for a line
abbrev pub NextTaken : Type 0
NextTaken = (image map : List ℕ) (a last n next : ℕ) (text text' other : List ℕ)
    → left (answered (lined n (goes_on next))) text' ≡ line_call image map a last text → line_room ≤ length other
    → line_why (length image) map next last (length other) ≡ 0

-- from an address that is not refused the calls come to a last line, and there are no more than 32,768 lines; whatever text each is lent
pub record Ends (image map : List ℕ) (a last : ℕ) : Type 0 where
  pub lines : List (List ℕ)
  pub calls : Lines image map last a lines
  pub few : length lines ≤ image_words

abbrev pub FollowEnds : Type 0
FollowEnds = (image map : List ℕ) (a last : ℕ) (text : List ℕ) → last < 65536 → line_why (length image) map a last (length text) ≡ 0 → Ends image map a last

-- and so do any calls, one after the other
abbrev pub LinesFew : Type 0
LinesFew = (image map : List ℕ) (a last : ℕ) (lines : List (List ℕ)) → last < 65536 → Lines image map last a lines → length lines ≤ image_words
