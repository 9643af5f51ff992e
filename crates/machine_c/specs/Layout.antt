-- The lent bytes of a state, of a tally and of the settings.
use Rattle.std.specs.Prelude.{ℕ, Bool, not, ◌||◌, cond, List, [], ◌∷◌, ◌++◌, length, eqb, ltb}
use Rattle.wordbytes.specs.Words.{byte_at, word_at, bytes_in}
use Rattle.state.specs.declared.State.{State}
use Rattle.state.specs.declared.Settings.{Settings}
use Rattle.machine.specs.Numbers.{StatePage, Address, address, nowhere, FirstPage, place, none}
use Rattle.machine.specs.Back.{state_of}

-- ---- 24 bytes: R0 to R5, SP and PC; 16 the indicators; 17 I2; 18 the mode; 19 the cause; 20 the mark of a late IEN;
-- 21 whether an address is told; 22 and 23 that address, 0 where there is none

abbrev pub address_told : Address → ℕ
address_told (address a) = 1
address_told nowhere = 0

abbrev pub word_told : Address → ℕ
word_told (address a) = a
word_told nowhere = 0

unfoldable pub state_bytes : StatePage → ℕ → Address → List ℕ
state_bytes p cause told = bytes_in p.registers ++ (p.indicators ∷ p.i2 ∷ p.mode ∷ cause ∷ p.mark ∷ address_told told ∷ bytes_in (word_told told ∷ []))

-- R0 to R5, SP and PC from their bytes
abbrev pub registers_in : List ℕ → List ℕ
registers_in b = word_at b 0 ∷ word_at b 2 ∷ word_at b 4 ∷ word_at b 6 ∷ word_at b 8 ∷ word_at b 10 ∷ word_at b 12 ∷ word_at b 14 ∷ []

unfoldable pub page_from : List ℕ → StatePage
page_from b = record { registers = registers_in b; indicators = byte_at b 16; i2 = byte_at b 17; mode = byte_at b 18; mark = byte_at b 20 }

-- the state that the bytes hold
abbrev pub state_from : List ℕ → State
state_from b = state_of (page_from b)

-- refused: not 24 bytes, indicators over 15, I2 over 1, a mode over 5, a cause over 9, a mark over 1, byte 21 over 1
abbrev pub state_refused : List ℕ → Bool
state_refused b = ((((ltb 15 (byte_at b 16) || ltb 1 (byte_at b 17)) || ltb 5 (byte_at b 18)) || ltb 9 (byte_at b 19)) || ltb 1 (byte_at b 20)) || ltb 1 (byte_at b 21)

abbrev pub not_state : List ℕ → Bool
not_state b = not (eqb (length b) 24)

unfoldable pub refused_state : List ℕ → Bool
refused_state b = not_state b || state_refused b

-- ---- 6 bytes: the blanks; the place of the first, FFFF where there is none; the address that it told, 0 where there is none

abbrev pub place_number : FirstPage → ℕ
place_number (place p a) = p
place_number none = 65535

abbrev pub place_told : FirstPage → ℕ
place_told (place p a) = a
place_told none = 0

unfoldable pub tally_bytes : ℕ → FirstPage → List ℕ
tally_bytes blanks first = bytes_in (blanks ∷ place_number first ∷ place_told first ∷ [])

abbrev pub not_tally : List ℕ → Bool
not_tally t = not (eqb (length t) 6)

-- ---- 4 bytes: 1 where the third microm is fitted, with the block moves; the jumpers of the power-up option; those of the halt option; the External Address Register

unfoldable pub settings_from : List ℕ → Settings
settings_from w = record { blocks = eqb (byte_at w 0) 1; powerup = byte_at w 1; halt = byte_at w 2; register = byte_at w 3 }

-- refused: not 4 bytes, the first over 1; what is over of the others is 35
unfoldable pub refused_settings : List ℕ → Bool
refused_settings w = not (eqb (length w) 4) || ltb 1 (byte_at w 0)

-- ---- what each call refuses as 21, in one number; power-up only writes the state

unfoldable pub refused_up : List ℕ → List ℕ → Bool
refused_up b w = not_state b || refused_settings w

unfoldable pub refused_step : List ℕ → List ℕ → Bool
refused_step b w = refused_state b || refused_settings w

unfoldable pub refused_run : List ℕ → List ℕ → List ℕ → Bool
refused_run b t w = refused_step b w || not_tally t

-- ---- bytes over a lent buffer of as many; another is left as lent

unfoldable pub laid : List ℕ → List ℕ → List ℕ
laid bytes b = cond (eqb (length b) (length bytes)) bytes b
