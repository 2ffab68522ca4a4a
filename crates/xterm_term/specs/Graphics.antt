-- The characters of the special graphics set (EK-VT100-UG chapter 3; the choice of characters: ours).
use Rattle.std.specs.Prelude.{ℕ, List, [], ◌∷◌}

-- those of the bytes 95 to 126, in turn
abbrev pub special_graphics : List ℕ
special_graphics =
    0x0020 ∷  -- blank
    0x25C6 ∷  -- diamond
    0x2592 ∷  -- checkerboard
    0x2409 ∷  -- HT
    0x240C ∷  -- FF
    0x240D ∷  -- CR
    0x240A ∷  -- LF
    0x00B0 ∷  -- degree
    0x00B1 ∷  -- plus/minus
    0x2424 ∷  -- NL
    0x240B ∷  -- VT
    0x2518 ∷  -- lower-right corner
    0x2510 ∷  -- upper-right corner
    0x250C ∷  -- upper-left corner
    0x2514 ∷  -- lower-left corner
    0x253C ∷  -- crossing
    0x23BA ∷  -- scan 1
    0x23BB ∷  -- scan 3
    0x2500 ∷  -- scan 5
    0x23BC ∷  -- scan 7
    0x23BD ∷  -- scan 9
    0x251C ∷  -- left T
    0x2524 ∷  -- right T
    0x2534 ∷  -- bottom T
    0x252C ∷  -- top T
    0x2502 ∷  -- vertical bar
    0x2264 ∷  -- less or equal
    0x2265 ∷  -- greater or equal
    0x03C0 ∷  -- pi
    0x2260 ∷  -- not equal
    0x00A3 ∷  -- pound
    0x00B7 ∷  -- centred dot
    []
