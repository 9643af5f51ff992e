-- WHAT A CALL ANSWERS AND LEAVES: one shape for every call. 0 is no refusal.
use Rattle.std.specs.Prelude.{ℕ, zero, suc}

-- ---- refusals in their order

-- the first refusal met
abbrev pub first : ℕ → ℕ → ℕ
first zero later = later
first (suc why) later = suc why

-- what is right where nothing is refused, and what where something is
abbrev pub unless : {A : Type 0} → ℕ → A → A → A
unless zero a b = a
unless (suc why) a b = b

-- ---- a call

-- a refusal's number alone; the number with its place, a line or a column; or what was asked for
pub data Page (A : Type 0) : Type 0 where
  refused : ℕ → Page A
  refused_at : ℕ → ℕ → Page A
  answered : A → Page A

-- the page, and what was lent for writing as it is after the call
pub record Left (A B : Type 0) : Type 0 where
  pub page : Page A
  pub lent : B

abbrev pub left : {A B : Type 0} → Page A → B → Left A B
left p b = record { page = p; lent = b }

-- where nothing is lent for writing
abbrev pub nothing : Unit {0}
nothing = tt

-- where `why` is not 0, that number alone and everything as lent; else what is right
abbrev pub call : {A B : Type 0} → ℕ → Left A B → B → Left A B
call zero right lent = right
call (suc why) right lent = left (refused (suc why)) lent

-- ---- the same for C: the number, 0 where it is answered, and the lent bytes after the call

pub record Told (B : Type 0) : Type 0 where
  pub number : ℕ
  pub lent : B

abbrev pub told : {B : Type 0} → ℕ → B → Told B
told n b = record { number = n; lent = b }

abbrev pub tells : {A B C : Type 0} → (A → B → C) → (ℕ → B → C) → (B → C) → Page A → B → Told C
tells bytes beside kept (refused why) b = told why (kept b)
tells bytes beside kept (refused_at why place) b = told why (beside place b)
tells bytes beside kept (answered a) b = told 0 (bytes a b)

-- a call as C reads it: `bytes` are those of an answer, `beside` those of a refusal with its place, `kept` those of one without
abbrev pub reading_at : {A B C : Type 0} → (A → B → C) → (ℕ → B → C) → (B → C) → Left A B → Told C
reading_at bytes beside kept l = tells bytes beside kept l.page l.lent

-- a call that tells no place
abbrev pub reading : {A B C : Type 0} → (A → B → C) → (B → C) → Left A B → Told C
reading bytes kept l = reading_at bytes (λ place. kept) kept l
