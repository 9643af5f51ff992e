-- What one step does to memory, as a tree of accesses, each of a word or of a byte; and what it comes to on a map and an image.
use Rattle.std.specs.Prelude.{ℕ, ◌+◌, ◌*◌, ◌/◌, ◌%◌, Bool, true, false, not, cond, List, get_or, set, eqb, ◌≡◌}
use Rattle.wordbytes.specs.Words as Words

-- an access is of a word or of a byte
pub data Size : Type 0 where
  word : Size
  byte : Size

-- bytes, or words
abbrev pub size_of : Bool → Size
size_of bytes = cond bytes byte word

-- A piece of a step's work that ends in an A.
pub data Work (A : Type 0) : Type 0 where
  give : A → Work A
  read_at : Size → ℕ → (ℕ → Work A) → Work A
  write_at : Size → ℕ → ℕ → Work A → Work A

-- What it comes to: an A with the image as it then is, or a blank with the address that was reached, as it was given, bit 0 included.
pub data Came (A : Type 0) : Type 0 where
  value : A → List ℕ → Came A
  blank : ℕ → Came A

-- The map's byte for the page of an address: 0 unfitted, 1 fitted, 2 fitted and read-only.
abbrev page_of : List ℕ → ℕ → ℕ
page_of map a = get_or map (a / 256) 0

-- A read asks this: the page is 1 or 2. (A map byte over 2 is refused.)
unfoldable pub fitted : List ℕ → ℕ → Bool
fitted map a = not (eqb (page_of map a) 0)

-- A write asks this: the page is 1.
unfoldable pub writable : List ℕ → ℕ → Bool
writable map a = eqb (page_of map a) 1

-- a word access drops bit 0 of its address
unfoldable pub even : ℕ → ℕ
even a = a / 2 * 2

unfoldable pub image_word : List ℕ → ℕ → ℕ
unfolding even
image_word m a = Words.word_at m (even a)

unfoldable pub with_word : List ℕ → ℕ → ℕ → List ℕ
unfolding even
with_word m a v = set (set m (even a) (v % 256)) (even a + 1) (v / 256 % 256)

unfoldable pub with_byte : List ℕ → ℕ → ℕ → List ℕ
with_byte m a v = set m a (v % 256)

abbrev pub get : Size → List ℕ → ℕ → ℕ
get word m a = image_word m a
get byte m a = get_or m a 0

abbrev pub put : Size → List ℕ → ℕ → ℕ → List ℕ
put word m a v = with_word m a v
put byte m a v = with_byte m a v

-- what follows an access that is answered, or a blank at its address
abbrev pub found : {A : Type 0} → Bool → ℕ → Came A → Came A
found true a x = x
found false a x = blank a

unfoldable pub run : {A : Type 0} → List ℕ → Work A → List ℕ → Came A
run map (give x) m = value x m
run map (read_at z a k) m = found (fitted map a) a (run map (k (get z m a)) m)
run map (write_at z a v w) m = found (writable map a) a (run map w (put z m a v))

-- a word or a byte is read or written
abbrev pub read : Size → ℕ → Work ℕ
read z a = read_at z a (λ v. give v)

abbrev pub write : Size → ℕ → ℕ → Work (Unit {0})
write z a v = write_at z a v (give tt)

abbrev pub load : ℕ → Work ℕ
load a = read_at word a (λ v. give v)

abbrev pub store : ℕ → ℕ → Work (Unit {0})
store a v = write_at word a v (give tt)

abbrev pub load_byte : ℕ → Work ℕ
load_byte a = read_at byte a (λ v. give v)

abbrev pub store_byte : ℕ → ℕ → Work (Unit {0})
store_byte a v = write_at byte a v (give tt)

-- ---- work after work

infixl 10 ◌>>=◌
infixl 10 ◌>>◌
unfoldable pub ◌>>=◌ : {A B : Type 0} → Work A → (A → Work B) → Work B
give x >>= f = f x
read_at z a k >>= f = read_at z a (λ v. k v >>= f)
write_at z a v w >>= f = write_at z a v (w >>= f)

abbrev pub ◌>>◌ : {A B : Type 0} → Work A → Work B → Work B
w >> u = w >>= (λ _. u)

-- ---- two images

-- they agree on fitted bytes
abbrev pub Agree : List ℕ → List ℕ → List ℕ → Type 0
Agree map m n = (a : ℕ) → fitted map a ≡ true → get_or m a 0 ≡ get_or n a 0

-- the byte at every address that can't be written, of an unfitted or a read-only page, is the same in both
abbrev pub Untouched : List ℕ → List ℕ → List ℕ → Type 0
Untouched map m n = (a : ℕ) → writable map a ≡ false → get_or n a 0 ≡ get_or m a 0

-- what two calls come to, whose images agreed on fitted bytes: the same answer, fitted bytes that agree, unfitted bytes as lent
pub record Blind {A : Type 0} (map m n : List ℕ) (r q : A) (m' n' : List ℕ) : Type 0 where
  pub answer : r ≡ q
  pub fitted_agree : Agree map m' n'
  pub unfitted_stay : Untouched map m m'
  pub unfitted_stay_too : Untouched map n n'
