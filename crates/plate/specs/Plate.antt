-- The plate: formats by high byte.
use Rattle.std.specs.Prelude.{ℕ, Bool, ◌&&◌, cond, eqb, leb}

-- h is one of lo to hi
abbrev within : ℕ → ℕ → ℕ → Bool
within lo hi h = leb lo h && leb h hi

-- 00: formats 1 to 4. 01-07 and 80-87: 5. 08, 09, 88, 89, 8E, 8F: 6. 0A-0D, 8A-8D: 7. 0E, 0F: 8. 70-7F: 9. 10-6F, 90-EF: 10. F0-FF: 11
unfoldable pub format_of : ℕ → ℕ
format_of h =
    cond (eqb h 0x00) 1
    (cond (within 0x01 0x07 h) 5
    (cond (within 0x80 0x87 h) 5
    (cond (within 0x08 0x09 h) 6
    (cond (within 0x88 0x89 h) 6
    (cond (within 0x8e 0x8f h) 6
    (cond (within 0x0a 0x0d h) 7
    (cond (within 0x8a 0x8d h) 7
    (cond (within 0x0e 0x0f h) 8
    (cond (within 0x70 0x7f h) 9
    (cond (within 0x10 0x6f h) 10
    (cond (within 0x90 0xef h) 10
    11)))))))))))
