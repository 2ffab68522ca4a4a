-- The outlines of the characters that are drawn, written by assets/make_outlines.py (ours).
use Rattle.std.specs.Prelude.{ℕ, List, [], ◌∷◌, codes, ◌==◌, if◌then◌else◌}

-- the characters U+23B0 to U+23BF that are drawn
unfoldable pub block_23b : List (ℕ × List ℕ)
block_23b =
    (0x23BA, codes "m0 1h10v2h-10z") ∷  -- ⎺
    (0x23BB, codes "m0 5h10v2h-10z") ∷  -- ⎻
    (0x23BC, codes "m0 13h10v2h-10z") ∷  -- ⎼
    (0x23BD, codes "m0 17h10v2h-10z") ∷  -- ⎽
    []

-- the characters U+2500 to U+250F that are drawn
unfoldable pub block_250 : List (ℕ × List ℕ)
block_250 =
    (0x2500, codes "m0 9h10v2h-10z") ∷  -- ─
    (0x2501, codes "m0 8h10v4h-10z") ∷  -- ━
    (0x2502, codes "m4 0h2v20h-2z") ∷  -- │
    (0x2503, codes "m3 0h4v20h-4z") ∷  -- ┃
    (0x2504, codes "m1 9h2v2h-2zm3 0h2v2h-2zm3 0h2v2h-2z") ∷  -- ┄
    (0x2505, codes "m1 8h2v4h-2zm3 0h2v4h-2zm3 0h2v4h-2z") ∷  -- ┅
    (0x2506, codes "m4 1h2v4h-2zm0 7h2v4h-2zm0 7h2v4h-2z") ∷  -- ┆
    (0x2507, codes "m3 1h4v4h-4zm0 7h4v4h-4zm0 7h4v4h-4z") ∷  -- ┇
    (0x2508, codes "m.5 9h1.5v2h-1.5zm2.5 0h1.5v2h-1.5zm2.5 0h1.5v2h-1.5zm2.5 0h1.5v2h-1.5z") ∷  -- ┈
    (0x2509, codes "m.5 8h1.5v4h-1.5zm2.5 0h1.5v4h-1.5zm2.5 0h1.5v4h-1.5zm2.5 0h1.5v4h-1.5z") ∷  -- ┉
    (0x250A, codes "m4 1h2v3h-2zm0 5h2v3h-2zm0 5h2v3h-2zm0 5h2v3h-2z") ∷  -- ┊
    (0x250B, codes "m3 1h4v3h-4zm0 5h4v3h-4zm0 5h4v3h-4zm0 5h4v3h-4z") ∷  -- ┋
    (0x250C, codes "m4 9h6v2h-4v9h-2z") ∷  -- ┌
    (0x250D, codes "m4 8h6v4h-4v8h-2z") ∷  -- ┍
    (0x250E, codes "m3 9h7v2h-3v9h-4z") ∷  -- ┎
    (0x250F, codes "m3 8h7v4h-3v8h-4z") ∷  -- ┏
    []

-- the characters U+2510 to U+251F that are drawn
unfoldable pub block_251 : List (ℕ × List ℕ)
block_251 =
    (0x2510, codes "m0 9h6v11h-2v-9h-4z") ∷  -- ┐
    (0x2511, codes "m0 8h6v12h-2v-8h-4z") ∷  -- ┑
    (0x2512, codes "m0 9h7v11h-4v-9h-3z") ∷  -- ┒
    (0x2513, codes "m0 8h7v12h-4v-8h-3z") ∷  -- ┓
    (0x2514, codes "m4 0h2v9h4v2h-6z") ∷  -- └
    (0x2515, codes "m4 0h2v8h4v4h-6z") ∷  -- ┕
    (0x2516, codes "m3 0h4v9h3v2h-7z") ∷  -- ┖
    (0x2517, codes "m3 0h4v8h3v4h-7z") ∷  -- ┗
    (0x2518, codes "m0 9h4v-9h2v11h-6z") ∷  -- ┘
    (0x2519, codes "m4 0h2v12h-6v-4h4z") ∷  -- ┙
    (0x251A, codes "m3 0h4v11h-7v-2h3z") ∷  -- ┚
    (0x251B, codes "m3 0h4v12h-7v-4h3z") ∷  -- ┛
    (0x251C, codes "m4 0h2v9h4v2h-4v9h-2z") ∷  -- ├
    (0x251D, codes "m4 0h2v8h4v4h-4v8h-2z") ∷  -- ┝
    (0x251E, codes "m3 0h4v9h3v2h-4v9h-2v-9h-1z") ∷  -- ┞
    (0x251F, codes "m4 0h2v9h4v2h-3v9h-4v-11h1z") ∷  -- ┟
    []

-- the characters U+2520 to U+252F that are drawn
unfoldable pub block_252 : List (ℕ × List ℕ)
block_252 =
    (0x2520, codes "m3 0h4v9h3v2h-3v9h-4z") ∷  -- ┠
    (0x2521, codes "m3 0h4v8h3v4h-4v8h-2v-8h-1z") ∷  -- ┡
    (0x2522, codes "m4 0h2v8h4v4h-3v8h-4v-12h1z") ∷  -- ┢
    (0x2523, codes "m3 0h4v8h3v4h-3v8h-4z") ∷  -- ┣
    (0x2524, codes "m4 0h2v20h-2v-9h-4v-2h4z") ∷  -- ┤
    (0x2525, codes "m4 0h2v20h-2v-8h-4v-4h4z") ∷  -- ┥
    (0x2526, codes "m3 0h4v11h-1v9h-2v-9h-4v-2h3z") ∷  -- ┦
    (0x2527, codes "m4 0h2v9h1v11h-4v-9h-3v-2h4z") ∷  -- ┧
    (0x2528, codes "m3 0h4v20h-4v-9h-3v-2h3z") ∷  -- ┨
    (0x2529, codes "m3 0h4v12h-1v8h-2v-8h-4v-4h3z") ∷  -- ┩
    (0x252A, codes "m4 0h2v8h1v12h-4v-8h-3v-4h4z") ∷  -- ┪
    (0x252B, codes "m3 0h4v20h-4v-8h-3v-4h3z") ∷  -- ┫
    (0x252C, codes "m0 9h10v2h-4v9h-2v-9h-4z") ∷  -- ┬
    (0x252D, codes "m0 8h6v1h4v2h-4v9h-2v-8h-4z") ∷  -- ┭
    (0x252E, codes "m4 8h6v4h-4v8h-2v-9h-4v-2h4z") ∷  -- ┮
    (0x252F, codes "m0 8h10v4h-4v8h-2v-8h-4z") ∷  -- ┯
    []

-- the characters U+2530 to U+253F that are drawn
unfoldable pub block_253 : List (ℕ × List ℕ)
block_253 =
    (0x2530, codes "m0 9h10v2h-3v9h-4v-9h-3z") ∷  -- ┰
    (0x2531, codes "m0 8h7v1h3v2h-3v9h-4v-8h-3z") ∷  -- ┱
    (0x2532, codes "m3 8h7v4h-3v8h-4v-9h-3v-2h3z") ∷  -- ┲
    (0x2533, codes "m0 8h10v4h-3v8h-4v-8h-3z") ∷  -- ┳
    (0x2534, codes "m4 0h2v9h4v2h-10v-2h4z") ∷  -- ┴
    (0x2535, codes "m4 0h2v9h4v2h-4v1h-6v-4h4z") ∷  -- ┵
    (0x2536, codes "m4 0h2v8h4v4h-6v-1h-4v-2h4z") ∷  -- ┶
    (0x2537, codes "m4 0h2v8h4v4h-10v-4h4z") ∷  -- ┷
    (0x2538, codes "m3 0h4v9h3v2h-10v-2h3z") ∷  -- ┸
    (0x2539, codes "m3 0h4v9h3v2h-3v1h-7v-4h3z") ∷  -- ┹
    (0x253A, codes "m3 0h4v8h3v4h-7v-1h-3v-2h3z") ∷  -- ┺
    (0x253B, codes "m3 0h4v8h3v4h-10v-4h3z") ∷  -- ┻
    (0x253C, codes "m4 0h2v9h4v2h-4v9h-2v-9h-4v-2h4z") ∷  -- ┼
    (0x253D, codes "m4 0h2v9h4v2h-4v9h-2v-8h-4v-4h4z") ∷  -- ┽
    (0x253E, codes "m4 0h2v8h4v4h-4v8h-2v-9h-4v-2h4z") ∷  -- ┾
    (0x253F, codes "m4 0h2v8h4v4h-4v8h-2v-8h-4v-4h4z") ∷  -- ┿
    []

-- the characters U+2540 to U+254F that are drawn
unfoldable pub block_254 : List (ℕ × List ℕ)
block_254 =
    (0x2540, codes "m3 0h4v9h3v2h-4v9h-2v-9h-4v-2h3z") ∷  -- ╀
    (0x2541, codes "m4 0h2v9h4v2h-3v9h-4v-9h-3v-2h4z") ∷  -- ╁
    (0x2542, codes "m3 0h4v9h3v2h-3v9h-4v-9h-3v-2h3z") ∷  -- ╂
    (0x2543, codes "m3 0h4v9h3v2h-3v1h-1v8h-2v-8h-4v-4h3z") ∷  -- ╃
    (0x2544, codes "m3 0h4v8h3v4h-4v8h-2v-8h-1v-1h-3v-2h3z") ∷  -- ╄
    (0x2545, codes "m4 0h2v8h1v1h3v2h-3v9h-4v-8h-3v-4h4z") ∷  -- ╅
    (0x2546, codes "m4 0h2v8h4v4h-3v8h-4v-9h-3v-2h3v-1h1z") ∷  -- ╆
    (0x2547, codes "m3 0h4v8h3v4h-4v8h-2v-8h-4v-4h3z") ∷  -- ╇
    (0x2548, codes "m4 0h2v8h4v4h-3v8h-4v-8h-3v-4h4z") ∷  -- ╈
    (0x2549, codes "m3 0h4v9h3v2h-3v9h-4v-8h-3v-4h3z") ∷  -- ╉
    (0x254A, codes "m3 0h4v8h3v4h-3v8h-4v-9h-3v-2h3z") ∷  -- ╊
    (0x254B, codes "m3 0h4v8h3v4h-3v8h-4v-8h-3v-4h3z") ∷  -- ╋
    (0x254C, codes "m1 9h3v2h-3zm5 0h3v2h-3z") ∷  -- ╌
    (0x254D, codes "m1 8h3v4h-3zm5 0h3v4h-3z") ∷  -- ╍
    (0x254E, codes "m4 2h2v6h-2zm0 10h2v6h-2z") ∷  -- ╎
    (0x254F, codes "m3 2h4v6h-4zm0 10h4v6h-4z") ∷  -- ╏
    []

-- the characters U+2550 to U+255F that are drawn
unfoldable pub block_255 : List (ℕ × List ℕ)
block_255 =
    (0x2550, codes "m0 7h10v2h-10zm0 4h10v2h-10z") ∷  -- ═
    (0x2551, codes "m2 0h2v20h-2zm4 0h2v20h-2z") ∷  -- ║
    (0x2552, codes "m4 7h6v2h-4v2h4v2h-4v7h-2z") ∷  -- ╒
    (0x2553, codes "m2 9h8v2h-2v9h-2v-9h-2v9h-2z") ∷  -- ╓
    (0x2554, codes "m2 7h8v2h-6v11h-2zm4 4h4v2h-2v7h-2z") ∷  -- ╔
    (0x2555, codes "m0 7h6v13h-2v-7h-4v-2h4v-2h-4z") ∷  -- ╕
    (0x2556, codes "m0 9h8v11h-2v-9h-2v9h-2v-9h-2z") ∷  -- ╖
    (0x2557, codes "m0 7h8v13h-2v-11h-6zm0 4h4v9h-2v-7h-2z") ∷  -- ╗
    (0x2558, codes "m4 0h2v7h4v2h-4v2h4v2h-6z") ∷  -- ╘
    (0x2559, codes "m2 0h2v9h2v-9h2v9h2v2h-8z") ∷  -- ╙
    (0x255A, codes "m2 0h2v11h6v2h-8zm4 0h2v7h2v2h-4z") ∷  -- ╚
    (0x255B, codes "m4 0h2v13h-6v-2h4v-2h-4v-2h4z") ∷  -- ╛
    (0x255C, codes "m2 0h2v9h2v-9h2v11h-8v-2h2z") ∷  -- ╜
    (0x255D, codes "m2 0h2v9h-4v-2h2zm4 0h2v13h-8v-2h6z") ∷  -- ╝
    (0x255E, codes "m4 0h2v7h4v2h-4v2h4v2h-4v7h-2z") ∷  -- ╞
    (0x255F, codes "m2 0h2v20h-2zm4 0h2v9h2v2h-2v9h-2z") ∷  -- ╟
    []

-- the characters U+2560 to U+256F that are drawn
unfoldable pub block_256 : List (ℕ × List ℕ)
block_256 =
    (0x2560, codes "m2 0h2v20h-2zm4 0h2v7h2v2h-4zm0 11h4v2h-2v7h-2z") ∷  -- ╠
    (0x2561, codes "m4 0h2v20h-2v-7h-4v-2h4v-2h-4v-2h4z") ∷  -- ╡
    (0x2562, codes "m2 0h2v20h-2v-9h-2v-2h2zm4 0h2v20h-2z") ∷  -- ╢
    (0x2563, codes "m2 0h2v9h-4v-2h2zm4 0h2v20h-2zm-6 11h4v9h-2v-7h-2z") ∷  -- ╣
    (0x2564, codes "m0 7h10v2h-10zm0 4h10v2h-4v7h-2v-7h-4z") ∷  -- ╤
    (0x2565, codes "m0 9h10v2h-2v9h-2v-9h-2v9h-2v-9h-2z") ∷  -- ╥
    (0x2566, codes "m0 7h10v2h-10zm0 4h4v9h-2v-7h-2zm6 0h4v2h-2v7h-2z") ∷  -- ╦
    (0x2567, codes "m4 0h2v7h4v2h-10v-2h4zm-4 11h10v2h-10z") ∷  -- ╧
    (0x2568, codes "m2 0h2v9h2v-9h2v9h2v2h-10v-2h2z") ∷  -- ╨
    (0x2569, codes "m2 0h2v9h-4v-2h2zm4 0h2v7h2v2h-4zm-6 11h10v2h-10z") ∷  -- ╩
    (0x256A, codes "m4 0h2v7h4v2h-4v2h4v2h-4v7h-2v-7h-4v-2h4v-2h-4v-2h4z") ∷  -- ╪
    (0x256B, codes "m2 0h2v9h2v-9h2v9h2v2h-2v9h-2v-9h-2v9h-2v-9h-2v-2h2z") ∷  -- ╫
    (0x256C, codes "m2 0h2v9h-4v-2h2zm4 0h2v7h2v2h-4zm-6 11h4v9h-2v-7h-2zm6 0h4v2h-2v7h-2z") ∷  -- ╬
    (0x256D, codes "m4 20v-5q0-6 6-6v2q-4 0-4 4v5z") ∷  -- ╭
    (0x256E, codes "m0 9q6 0 6 6v5h-2v-5q0-4-4-4z") ∷  -- ╮
    (0x256F, codes "m0 9q4 0 4-4v-5h2v5q0 6-6 6z") ∷  -- ╯
    []

-- the characters U+2570 to U+257F that are drawn
unfoldable pub block_257 : List (ℕ × List ℕ)
block_257 =
    (0x2570, codes "m4 0h2v5q0 4 4 4v2q-6 0-6-6z") ∷  -- ╰
    (0x2571, codes "m9 0h2l-10 20h-2z") ∷  -- ╱
    (0x2572, codes "m-1 0h2l10 20h-2z") ∷  -- ╲
    (0x2573, codes "m9 0h2l-10 20h-2zm-10 0h2l10 20h-2z") ∷  -- ╳
    (0x2574, codes "m0 9h5v2h-5z") ∷  -- ╴
    (0x2575, codes "m4 0h2v10h-2z") ∷  -- ╵
    (0x2576, codes "m5 9h5v2h-5z") ∷  -- ╶
    (0x2577, codes "m4 10h2v10h-2z") ∷  -- ╷
    (0x2578, codes "m0 8h5v4h-5z") ∷  -- ╸
    (0x2579, codes "m3 0h4v10h-4z") ∷  -- ╹
    (0x257A, codes "m5 8h5v4h-5z") ∷  -- ╺
    (0x257B, codes "m3 10h4v10h-4z") ∷  -- ╻
    (0x257C, codes "m5 8h5v4h-5v-1h-5v-2h5z") ∷  -- ╼
    (0x257D, codes "m4 0h2v10h1v10h-4v-10h1z") ∷  -- ╽
    (0x257E, codes "m0 8h5v1h5v2h-5v1h-5z") ∷  -- ╾
    (0x257F, codes "m3 0h4v10h-1v10h-2v-10h-1z") ∷  -- ╿
    []

-- the characters U+2580 to U+258F that are drawn
unfoldable pub block_258 : List (ℕ × List ℕ)
block_258 =
    (0x2580, codes "m0 0h10v10h-10z") ∷  -- ▀
    (0x2581, codes "m0 17.5h10v2.5h-10z") ∷  -- ▁
    (0x2582, codes "m0 15h10v5h-10z") ∷  -- ▂
    (0x2583, codes "m0 12.5h10v7.5h-10z") ∷  -- ▃
    (0x2584, codes "m0 10h10v10h-10z") ∷  -- ▄
    (0x2585, codes "m0 7.5h10v12.5h-10z") ∷  -- ▅
    (0x2586, codes "m0 5h10v15h-10z") ∷  -- ▆
    (0x2587, codes "m0 2.5h10v17.5h-10z") ∷  -- ▇
    (0x2588, codes "m0 0h10v20h-10z") ∷  -- █
    (0x2589, codes "m0 0h8.75v20h-8.75z") ∷  -- ▉
    (0x258A, codes "m0 0h7.5v20h-7.5z") ∷  -- ▊
    (0x258B, codes "m0 0h6.25v20h-6.25z") ∷  -- ▋
    (0x258C, codes "m0 0h5v20h-5z") ∷  -- ▌
    (0x258D, codes "m0 0h3.75v20h-3.75z") ∷  -- ▍
    (0x258E, codes "m0 0h2.5v20h-2.5z") ∷  -- ▎
    (0x258F, codes "m0 0h1.25v20h-1.25z") ∷  -- ▏
    []

-- the characters U+2590 to U+259F that are drawn
unfoldable pub block_259 : List (ℕ × List ℕ)
block_259 =
    (0x2590, codes "m5 0h5v20h-5z") ∷  -- ▐
    (0x2591, codes "m0 0h5v5h-5zm5 10h5v5h-5z") ∷  -- ░
    (0x2592, codes "m0 0h5v5h-5zm5 5h5v5h-5zm-5 5h5v5h-5zm5 5h5v5h-5z") ∷  -- ▒
    (0x2593, codes "m0 0h10v5h-5v5h5v10h-5v-5h-5z") ∷  -- ▓
    (0x2594, codes "m0 0h10v2.5h-10z") ∷  -- ▔
    (0x2595, codes "m8.75 0h1.25v20h-1.25z") ∷  -- ▕
    (0x2596, codes "m0 10h5v10h-5z") ∷  -- ▖
    (0x2597, codes "m5 10h5v10h-5z") ∷  -- ▗
    (0x2598, codes "m0 0h5v10h-5z") ∷  -- ▘
    (0x2599, codes "m0 0h5v10h5v10h-10z") ∷  -- ▙
    (0x259A, codes "m0 0h5v10h-5zm5 10h5v10h-5z") ∷  -- ▚
    (0x259B, codes "m0 0h10v10h-5v10h-5z") ∷  -- ▛
    (0x259C, codes "m0 0h10v20h-5v-10h-5z") ∷  -- ▜
    (0x259D, codes "m5 0h5v10h-5z") ∷  -- ▝
    (0x259E, codes "m5 0h5v10h-5zm-5 10h5v10h-5z") ∷  -- ▞
    (0x259F, codes "m5 0h5v20h-10v-10h5z") ∷  -- ▟
    []

-- the characters U+25C0 to U+25CF that are drawn
unfoldable pub block_25c : List (ℕ × List ℕ)
block_25c =
    (0x25C6, codes "m5 5l4 5-4 5-4-5z") ∷  -- ◆
    []

-- the characters U+E0B0 to U+E0BF that are drawn
unfoldable pub block_e0b : List (ℕ × List ℕ)
block_e0b =
    (0xE0B0, codes "m0 0l10 10-10 10z") ∷  -- an arrow of prompts
    (0xE0B1, codes "m0 0h2l8 10-8 10h-2l8-10z") ∷  -- an arrow of prompts
    (0xE0B2, codes "m10 0v20l-10-10z") ∷  -- an arrow of prompts
    (0xE0B3, codes "m8 0h2l-8 10 8 10h-2l-8-10z") ∷  -- an arrow of prompts
    []

-- the block of this number: the characters from 16 times the number on
unfoldable pub block : ℕ → List (ℕ × List ℕ)
block number =
    if number == 0x23B then block_23b
    else (if number == 0x250 then block_250
    else (if number == 0x251 then block_251
    else (if number == 0x252 then block_252
    else (if number == 0x253 then block_253
    else (if number == 0x254 then block_254
    else (if number == 0x255 then block_255
    else (if number == 0x256 then block_256
    else (if number == 0x257 then block_257
    else (if number == 0x258 then block_258
    else (if number == 0x259 then block_259
    else (if number == 0x25C then block_25c
    else (if number == 0xE0B then block_e0b
    else []))))))))))))
