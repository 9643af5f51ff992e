-- The same work on the lent image with the log of old words beside it: what the code does.
use Rattle.std.specs.Prelude.{ℕ, ◌+◌, ◌*◌, ◌<◌, ◌≤◌, zero, suc, Bool, true, false, List, ◌≡◌, get_or, set, length, ltb, Result, Ok, Err}
use Rattle.board.specs.Work.{Work, give, read_at, write_at, Size, fitted, writable, image_word, get, put, with_word}
use Rattle.board.specs.declared.Blank.{Blank}

pub record Store : Type 0 where
  pub image : List ℕ
  pub log : List ℕ

abbrev pub beside : List ℕ → List ℕ → Store
beside m l = record { image = m; log = l }

-- what work comes to: an A, or nothing, and either way the store as it then is
pub data Now (A : Type 0) : Type 0 where
  good : A → Store → Now A
  gone : ℕ → Store → Now A

-- element 0 of the log is the number of its entries, of which there are at most 15; an entry is an address and an old word
abbrev pub log_count : List ℕ → ℕ
log_count l = get_or l 0 0

unfoldable pub log_room : List ℕ → Bool
log_room l = ltb (log_count l) 15

unfoldable pub note : List ℕ → ℕ → ℕ → List ℕ
note l a old = set (set (set l (log_count l * 2 + 1) a) (log_count l * 2 + 2) old) 0 (log_count l + 1)

abbrev pub with_note : Size → ℕ → ℕ → Store → Store
with_note z a v st = beside (put z st.image a v) (note st.log a (image_word st.image a))

abbrev pub allowed : {A : Type 0} → Bool → ℕ → Store → Now A → Now A
allowed true a st x = x
allowed false a st x = gone a st

unfoldable pub exec : {A : Type 0} → List ℕ → Work A → Store → Now A
exec map (give x) st = good x st
exec map (read_at z a k) st = allowed (fitted map a) a st (exec map (k (get z st.image a)) st)
exec map (write_at z a v w) st = allowed (writable map a) a st (allowed (log_room st.log) a st (exec map w (with_note z a v st)))

-- the lent map and image
pub record Lent (map image : List ℕ) : Type 0 where
  pub pages : length map ≡ 256
  pub size : length image ≡ 65536
  pub bytes : (i : ℕ) → get_or image i 0 < 256

-- and the log
pub record Board (map : List ℕ) (st : Store) : Type 0 where
  pub lent : Lent map st.image
  pub whole : length st.log ≡ 32
  pub few : log_count st.log ≤ 15

-- the work w on the store st came to r
pub record Got {A : Type 0} (map : List ℕ) (w : Work A) (st : Store) (r : Now A) : Type 0 where
  pub came : r ≡ exec map w st

-- an answer: a value, or the address of the access that was not answered
abbrev pub answer_as : {A : Type 0} → Result A Blank → Store → Now A
answer_as (Ok x) st = good x st
answer_as (Err b) st = gone b.at st

-- what a function that only reads promises of its answer: the same at every log
pub record Saw {A : Type 0} (map : List ℕ) (w : Work A) (m : List ℕ) (r : Result A Blank) : Type 0 where
  pub got : {l : List ℕ} → Got map w (beside m l) (answer_as r (beside m l))

-- what a function that writes promises: of its answer and the store that it leaves
pub record Did {A : Type 0} (map : List ℕ) (w : Work A) (st : Store) (r : Result A Blank) (st' : Store) : Type 0 where
  pub got : Got map w st (answer_as r st')
  pub board : Board map st'

-- the same by the image and the log before, and after
abbrev pub Works : {A : Type 0} → List ℕ → Work A → List ℕ → List ℕ → Result A Blank → List ℕ → List ℕ → Type 0
Works map w i l r i' l' = Did map w (beside i l) r (beside i' l')

-- ---- taking the log back, the newest entry first

-- the last n entries of the log, put back, the newest first
unfoldable pub back : ℕ → List ℕ → List ℕ → List ℕ
back zero l m = m
back (suc n) l m = back n l (with_word m (get_or l (n * 2 + 1) 0) (get_or l (n * 2 + 2) 0))

unfoldable pub undone : Store → List ℕ
undone st = back (log_count st.log) st.log st.image
