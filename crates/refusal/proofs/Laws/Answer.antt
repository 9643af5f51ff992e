-- What a check's answer says of the number: a refusal that `?` passes on is the first met, and where nothing was refused the later one is.
use Rattle.std.proofs.Common.{◌≡◌, ℕ, cond, Result, Ok, Err, eqb, sym, refl, ap, ◌∙◌, arith}
use Rattle.refusal.specs.declared.Refusal.{Refusal}
use Rattle.refusal.specs.Answer.{number, page_of, why_of}
use Rattle.refusal.specs.Page.{first}
use Rattle.refusal.proofs.Laws.Page.{first_some, apart, refused-one, answered-one}

-- no refusal has the number 0
pub number-some : (why : Refusal) → number why ≡ 0 → ⊥
number-some Refusal.ImageLength = λ z. omega arith
number-some Refusal.MapLength = λ z. omega arith
number-some Refusal.MapByte = λ z. omega arith
number-some Refusal.Setup = λ z. omega arith
number-some Refusal.LinesLength = λ z. omega arith
number-some Refusal.LineBit = λ z. omega arith
number-some Refusal.TextShort = λ z. omega arith
number-some Refusal.OutputShort = λ z. omega arith
number-some Refusal.JobEnds = λ z. omega arith
number-some Refusal.ManyPages = λ z. omega arith
number-some Refusal.PageNotRising = λ z. omega arith
number-some Refusal.ManyWords = λ z. omega arith
number-some Refusal.AddressOdd = λ z. omega arith
number-some Refusal.AddressNotRising = λ z. omega arith
number-some Refusal.AddressUnfitted = λ z. omega arith
number-some Refusal.ManyLines = λ z. omega arith
number-some Refusal.JobLineBit = λ z. omega arith
number-some Refusal.BytesLeft = λ z. omega arith
number-some Refusal.ReadOnlyPage = λ z. omega arith
number-some Refusal.NoState = λ z. omega arith
number-some Refusal.NoStretch = λ z. omega arith
number-some Refusal.WordsOdd = λ z. omega arith
number-some Refusal.SourceLines = λ z. omega arith
number-some Refusal.UnknownText = λ z. omega arith
number-some Refusal.LabelAgain = λ z. omega arith
number-some Refusal.LabelMissing = λ z. omega arith
number-some Refusal.OutOfReach = λ z. omega arith
number-some Refusal.OutOfPlace = λ z. omega arith
number-some Refusal.TraceCut = λ z. omega arith
number-some Refusal.ReadingOutOfRange = λ z. omega arith
number-some Refusal.ScansFull = λ z. omega arith
number-some Refusal.NoChannel = λ z. omega arith

pub refused-first : (why : Refusal) (a b : ℕ) → number why ≡ a → number why ≡ first a b
refused-first why a b e = e ∙ first_some a b (λ z. number-some why (e ∙ z))

-- ---- a page of an answer, read back

-- the refusal of a number
abbrev of_number : ℕ → Refusal
of_number n =
    cond (eqb n 1) Refusal.ImageLength (
    cond (eqb n 2) Refusal.MapLength (
    cond (eqb n 3) Refusal.MapByte (
    cond (eqb n 35) Refusal.Setup (
    cond (eqb n 4) Refusal.LinesLength (
    cond (eqb n 5) Refusal.LineBit (
    cond (eqb n 8) Refusal.TextShort (
    cond (eqb n 10) Refusal.OutputShort (
    cond (eqb n 11) Refusal.JobEnds (
    cond (eqb n 12) Refusal.ManyPages (
    cond (eqb n 13) Refusal.PageNotRising (
    cond (eqb n 14) Refusal.ManyWords (
    cond (eqb n 15) Refusal.AddressOdd (
    cond (eqb n 16) Refusal.AddressNotRising (
    cond (eqb n 17) Refusal.AddressUnfitted (
    cond (eqb n 18) Refusal.ManyLines (
    cond (eqb n 19) Refusal.JobLineBit (
    cond (eqb n 20) Refusal.BytesLeft (
    cond (eqb n 22) Refusal.ReadOnlyPage (
    cond (eqb n 21) Refusal.NoState (
    cond (eqb n 23) Refusal.NoStretch (
    cond (eqb n 38) Refusal.WordsOdd (
    cond (eqb n 36) Refusal.SourceLines (
    cond (eqb n 24) Refusal.UnknownText (
    cond (eqb n 25) Refusal.LabelAgain (
    cond (eqb n 26) Refusal.LabelMissing (
    cond (eqb n 27) Refusal.OutOfReach (
    cond (eqb n 28) Refusal.OutOfPlace (
    cond (eqb n 29) Refusal.TraceCut (
    cond (eqb n 33) Refusal.ReadingOutOfRange (
    cond (eqb n 37) Refusal.ScansFull (
    Refusal.NoChannel)))))))))))))))))))))))))))))))

back : (why : Refusal) → of_number (number why) ≡ why
back Refusal.ImageLength = refl
back Refusal.MapLength = refl
back Refusal.MapByte = refl
back Refusal.Setup = refl
back Refusal.LinesLength = refl
back Refusal.LineBit = refl
back Refusal.TextShort = refl
back Refusal.OutputShort = refl
back Refusal.JobEnds = refl
back Refusal.ManyPages = refl
back Refusal.PageNotRising = refl
back Refusal.ManyWords = refl
back Refusal.AddressOdd = refl
back Refusal.AddressNotRising = refl
back Refusal.AddressUnfitted = refl
back Refusal.ManyLines = refl
back Refusal.JobLineBit = refl
back Refusal.BytesLeft = refl
back Refusal.ReadOnlyPage = refl
back Refusal.NoState = refl
back Refusal.NoStretch = refl
back Refusal.WordsOdd = refl
back Refusal.SourceLines = refl
back Refusal.UnknownText = refl
back Refusal.LabelAgain = refl
back Refusal.LabelMissing = refl
back Refusal.OutOfReach = refl
back Refusal.OutOfPlace = refl
back Refusal.TraceCut = refl
back Refusal.ReadingOutOfRange = refl
back Refusal.ScansFull = refl
back Refusal.NoChannel = refl

pub number-one : (why other : Refusal) → number why ≡ number other → why ≡ other
number-one why other e = sym (back why) ∙ ap of_number e ∙ back other

-- one page, one answer: what is told of what was asked for tells it whole
pub page-one : {A B : Type 0} {f : A → B} → ((x y : A) → f x ≡ f y → x ≡ y) → (r q : Result A Refusal) → page_of f r ≡ page_of f q → r ≡ q
page-one once (Ok a) (Ok b) e = ap Ok (once a b (answered-one e))
page-one once (Ok a) (Err why) e = absurd (apart e)
page-one once (Err why) (Ok a) e = absurd (apart (sym e))
page-one once (Err why) (Err other) e = ap Err (number-one why other (refused-one e))

-- one number, one answer: what is told of a check, 0 or the refusal's number, tells the check's whole answer
pub why-one : (r q : Result (Unit {0}) Refusal) → why_of r ≡ why_of q → r ≡ q
why-one (Ok a) (Ok b) e = refl
why-one (Ok a) (Err why) e = absurd (number-some why (sym e))
why-one (Err why) (Ok a) e = absurd (number-some why e)
why-one (Err why) (Err other) e = ap Err (number-one why other e)
