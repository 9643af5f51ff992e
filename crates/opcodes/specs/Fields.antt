-- The fields of an op code, as the manual draws them at the head of each format.
use Rattle.std.specs.Prelude.{ℕ, ◌+◌, ◌/◌, ◌%◌}

-- bits 15 to 8, by which the plate gives the format
abbrev pub high_byte : ℕ → ℕ
high_byte op = op / 256

-- ---- DST of formats 7, 9 and 10: MODE in bits 5 to 3, REG in bits 2 to 0

abbrev pub destination_mode : ℕ → ℕ
destination_mode op = op / 8 % 8

abbrev pub destination_register : ℕ → ℕ
destination_register op = op % 8

-- ---- SRC of format 10: MODE in bits 11 to 9, REG in bits 8 to 6

abbrev pub source_mode : ℕ → ℕ
source_mode op = op / 512 % 8

abbrev pub source_register : ℕ → ℕ
source_register op = op / 64 % 8

-- ---- formats 6 and 9: REG in bits 8 to 6

abbrev pub register : ℕ → ℕ
register op = op / 64 % 8

-- format 6: OPC in bits 5 and 4; COUNT, or the number, is bits 3 to 0 plus one
abbrev pub format6_code : ℕ → ℕ
format6_code op = op / 16 % 4

abbrev pub count : ℕ → ℕ
count op = op % 16 + 1

-- format 9: OPC in bits 11 to 9; OFFSET of SOB in bits 5 to 0
abbrev pub format9_code : ℕ → ℕ
format9_code op = op / 512 % 8

abbrev pub offset : ℕ → ℕ
offset op = op % 64

-- ---- format 2: OPC in bits 15 to 3; REG in bits 2 to 0, where the single register stands

abbrev pub format2_code : ℕ → ℕ
format2_code op = op / 8

abbrev pub only_register : ℕ → ℕ
only_register op = op % 8

-- ---- format 4: OPC in bits 15 to 6, ARG in bits 5 to 0

abbrev pub format4_code : ℕ → ℕ
format4_code op = op / 64

abbrev pub argument : ℕ → ℕ
argument op = op % 64

-- ---- format 8: OPC in bits 8 to 6, SRC in bits 5 to 3, DST in bits 2 to 0: registers

abbrev pub format8_code : ℕ → ℕ
format8_code op = op / 64 % 8

abbrev pub block_source : ℕ → ℕ
block_source op = op / 8 % 8

abbrev pub block_destination : ℕ → ℕ
block_destination op = op % 8

-- ---- format 10: OPC in bits 15 to 12

abbrev pub high_digit : ℕ → ℕ
high_digit op = op / 4096
