-- The palette of 256 colours.
use Rattle.std.specs.Prelude.{ℕ, ◌+◌, ◌-◌, ◌*◌, ◌/◌, ◌%◌, List, [], ◌∷◌, nat_lt, slice_index_or, if◌then◌else◌}
use Rattle.xterm_picture.specs.declared.colour_table.Rgb.{Rgb}

-- red, green and blue
abbrev pub rgb : ℕ → ℕ → ℕ → Rgb
rgb red green blue = record { red = red; green = green; blue = blue }

-- colours 0 to 15: black, red, green, yellow, blue, magenta, cyan, white, and the bright ones alike (ours)
abbrev pub first_colours : List Rgb
first_colours =
    rgb 0x00 0x00 0x00 ∷ rgb 0xd6 0x4d 0x4d ∷ rgb 0x3f 0xa3 0x3f ∷ rgb 0xe0 0xbc 0x48
    ∷ rgb 0x35 0x64 0xc8 ∷ rgb 0xb5 0x65 0xb5 ∷ rgb 0x3f 0xb0 0xb0 ∷ rgb 0xcc 0xcc 0xcc
    ∷ rgb 0x76 0x76 0x76 ∷ rgb 0xff 0x80 0x78 ∷ rgb 0x7f 0xd9 0x7f ∷ rgb 0xff 0xe0 0x66
    ∷ rgb 0x8f 0xb8 0xff ∷ rgb 0xe8 0xa0 0xe8 ∷ rgb 0x7f 0xe0 0xe0 ∷ rgb 0xff 0xff 0xff ∷ []

-- the six levels of red, green and blue in colours 16 to 231 (xterm)
abbrev pub levels : List ℕ
levels = 0x00 ∷ 0x5f ∷ 0x87 ∷ 0xaf ∷ 0xd7 ∷ 0xff ∷ []

abbrev pub level : ℕ → ℕ
level n = slice_index_or levels n 0

-- number n of 216, which in base six has the levels of red, green and blue (xterm)
abbrev pub cube : ℕ → Rgb
cube n = rgb (level (n / 36)) (level (n / 6 % 6)) (level (n % 6))

-- number n of 24 greys (xterm)
abbrev pub grey : ℕ → Rgb
grey n = rgb (8 + 10 * n) (8 + 10 * n) (8 + 10 * n)

unfoldable pub palette : ℕ → Rgb
palette n =
    if nat_lt n 16 then slice_index_or first_colours n (rgb 0 0 0)
    else (if nat_lt n 232 then cube (n - 16) else grey (n - 232))
