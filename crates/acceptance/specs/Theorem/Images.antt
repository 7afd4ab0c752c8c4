-- The images of document 01's cases (g) to (j) and of two more, (o) and (p), byte by byte: header, conditions, then a node a line. H's stand in configure's
-- Vectors.
use Rattle.std.specs.Prelude.{[], ◌∷◌}
use Rattle.image.specs.Bytes.{Bytes}

-- (g): "try (choice: throw 9, else skip) catch 1 with variable 2 := 1"
unfoldable pub G : Bytes
G =
    1 ∷ 16 ∷ 1 ∷ 0 ∷ 112 ∷ 0 ∷ 0 ∷ 0  -- 7 nodes
    ∷ 32 ∷ 0 ∷ 0 ∷ 0  -- condition 0, option 0
    ∷ 0 ∷ 0 ∷ 0 ∷ 0 ∷ 0 ∷ 0 ∷ 0 ∷ 9  -- 0 number 9
    ∷ 84 ∷ 0 ∷ 0 ∷ 0 ∷ 0 ∷ 0 ∷ 0 ∷ 0  -- 1 throw 0
    ∷ 64 ∷ 0 ∷ 0 ∷ 0 ∷ 0 ∷ 0 ∷ 0 ∷ 0  -- 2 skip
    ∷ 92 ∷ 0 ∷ 0 ∷ 0 ∷ 16 ∷ 2 ∷ 0 ∷ 0  -- 3 choice condition 0 of 1, 2
    ∷ 0 ∷ 0 ∷ 0 ∷ 0 ∷ 0 ∷ 0 ∷ 0 ∷ 1  -- 4 number 1
    ∷ 68 ∷ 32 ∷ 4 ∷ 0 ∷ 0 ∷ 0 ∷ 0 ∷ 0  -- 5 assign variable 2 from 4
    ∷ 88 ∷ 16 ∷ 3 ∷ 0 ∷ 80 ∷ 0 ∷ 0 ∷ 0  -- 6 try 3, variable 1, handler 5
    ∷ []

-- (h): "while variable 0 < (choice: 2, else 1) add 1 to it"
unfoldable pub L : Bytes
L =
    1 ∷ 16 ∷ 1 ∷ 0 ∷ 160 ∷ 0 ∷ 0 ∷ 0  -- 10 nodes
    ∷ 32 ∷ 0 ∷ 0 ∷ 0  -- condition 0, option 0
    ∷ 4 ∷ 0 ∷ 0 ∷ 0 ∷ 0 ∷ 0 ∷ 0 ∷ 0  -- 0 variable 0
    ∷ 0 ∷ 0 ∷ 0 ∷ 0 ∷ 0 ∷ 0 ∷ 0 ∷ 2  -- 1 number 2
    ∷ 0 ∷ 0 ∷ 0 ∷ 0 ∷ 0 ∷ 0 ∷ 0 ∷ 1  -- 2 number 1
    ∷ 16 ∷ 0 ∷ 0 ∷ 0 ∷ 16 ∷ 2 ∷ 0 ∷ 0  -- 3 choice condition 0 of 1, 2
    ∷ 48 ∷ 0 ∷ 0 ∷ 0 ∷ 48 ∷ 0 ∷ 0 ∷ 0  -- 4 less 0, 3
    ∷ 4 ∷ 0 ∷ 0 ∷ 0 ∷ 0 ∷ 0 ∷ 0 ∷ 0  -- 5 variable 0
    ∷ 0 ∷ 0 ∷ 0 ∷ 0 ∷ 0 ∷ 0 ∷ 0 ∷ 1  -- 6 number 1
    ∷ 8 ∷ 0 ∷ 5 ∷ 0 ∷ 96 ∷ 0 ∷ 0 ∷ 0  -- 7 sum 5, 6
    ∷ 68 ∷ 0 ∷ 7 ∷ 0 ∷ 0 ∷ 0 ∷ 0 ∷ 0  -- 8 assign variable 0 from 7
    ∷ 80 ∷ 0 ∷ 4 ∷ 0 ∷ 128 ∷ 0 ∷ 0 ∷ 0  -- 9 while 4, 8
    ∷ []

-- (i): "2147483647 + 1", put into variable 0
unfoldable pub I : Bytes
I =
    1 ∷ 0 ∷ 0 ∷ 0 ∷ 64 ∷ 0 ∷ 0 ∷ 0  -- 4 nodes
    ∷ 0 ∷ 0 ∷ 0 ∷ 0 ∷ 127 ∷ 255 ∷ 255 ∷ 255  -- 0 number 2147483647
    ∷ 0 ∷ 0 ∷ 0 ∷ 0 ∷ 0 ∷ 0 ∷ 0 ∷ 1  -- 1 number 1
    ∷ 8 ∷ 0 ∷ 0 ∷ 0 ∷ 16 ∷ 0 ∷ 0 ∷ 0  -- 2 sum 0, 1
    ∷ 68 ∷ 0 ∷ 2 ∷ 0 ∷ 0 ∷ 0 ∷ 0 ∷ 0  -- 3 assign variable 0 from 2
    ∷ []

-- (j): "an uncaught throw 0"
unfoldable pub J : Bytes
J =
    1 ∷ 0 ∷ 0 ∷ 0 ∷ 32 ∷ 0 ∷ 0 ∷ 0  -- 2 nodes
    ∷ 0 ∷ 0 ∷ 0 ∷ 0 ∷ 0 ∷ 0 ∷ 0 ∷ 0  -- 0 number 0
    ∷ 84 ∷ 0 ∷ 0 ∷ 0 ∷ 0 ∷ 0 ∷ 0 ∷ 0  -- 1 throw 0
    ∷ []

-- (o): every kind of expression and of condition, over four settings. Variable 0 gets x + y: x is 5 with both options, else -4 with option 0 and 3 without; y is
-- 10 where the test holds, else 20. The test is (one option or the other) and (not option 0): setting 2 alone. So 3 + 20, -4 + 20, 3 + 10 and 5 + 20
unfoldable pub E : Bytes
E =
    1 ∷ 32 ∷ 7 ∷ 1 ∷ 160 ∷ 0 ∷ 0 ∷ 0  -- 2 options, 7 conditions, 26 nodes
    ∷ 32 ∷ 0 ∷ 0 ∷ 0  -- condition 0, option 0: settings 1 and 3
    ∷ 33 ∷ 0 ∷ 0 ∷ 0  -- condition 1, option 1: settings 2 and 3
    ∷ 64 ∷ 0 ∷ 0 ∷ 1  -- condition 2, 0 and 1: setting 3
    ∷ 80 ∷ 0 ∷ 0 ∷ 1  -- condition 3, 0 or 1: settings 1, 2 and 3
    ∷ 48 ∷ 0 ∷ 0 ∷ 0  -- condition 4, not 0: settings 0 and 2
    ∷ 0 ∷ 0 ∷ 0 ∷ 0  -- condition 5, false
    ∷ 16 ∷ 0 ∷ 0 ∷ 0  -- condition 6, true
    ∷ 0 ∷ 0 ∷ 0 ∷ 0 ∷ 0 ∷ 0 ∷ 0 ∷ 5  -- 0 number 5
    ∷ 0 ∷ 0 ∷ 0 ∷ 0 ∷ 255 ∷ 255 ∷ 255 ∷ 252  -- 1 number -4
    ∷ 0 ∷ 0 ∷ 0 ∷ 0 ∷ 0 ∷ 0 ∷ 0 ∷ 3  -- 2 number 3
    ∷ 16 ∷ 0 ∷ 0 ∷ 0 ∷ 16 ∷ 2 ∷ 0 ∷ 0  -- 3 choice condition 0 of 1, 2
    ∷ 16 ∷ 0 ∷ 2 ∷ 0 ∷ 0 ∷ 3 ∷ 0 ∷ 0  -- 4 choice condition 2 of 0, 3
    ∷ 0 ∷ 0 ∷ 0 ∷ 0 ∷ 0 ∷ 0 ∷ 3 ∷ 232  -- 5 number 1000
    ∷ 36 ∷ 0 ∷ 0 ∷ 0 ∷ 0 ∷ 0 ∷ 0 ∷ 0  -- 6 true
    ∷ 4 ∷ 16 ∷ 0 ∷ 0 ∷ 0 ∷ 0 ∷ 0 ∷ 0  -- 7 variable 1
    ∷ 4 ∷ 32 ∷ 0 ∷ 0 ∷ 0 ∷ 0 ∷ 0 ∷ 0  -- 8 variable 2
    ∷ 48 ∷ 0 ∷ 7 ∷ 0 ∷ 128 ∷ 0 ∷ 0 ∷ 0  -- 9 less 7, 8
    ∷ 52 ∷ 0 ∷ 3 ∷ 0 ∷ 96 ∷ 9 ∷ 0 ∷ 0  -- 10 choice condition 3 of 6, 9
    ∷ 0 ∷ 0 ∷ 0 ∷ 0 ∷ 0 ∷ 0 ∷ 0 ∷ 1  -- 11 number 1
    ∷ 4 ∷ 48 ∷ 0 ∷ 0 ∷ 0 ∷ 0 ∷ 0 ∷ 0  -- 12 variable 3
    ∷ 48 ∷ 0 ∷ 11 ∷ 0 ∷ 192 ∷ 0 ∷ 0 ∷ 0  -- 13 less 11, 12
    ∷ 40 ∷ 0 ∷ 13 ∷ 0 ∷ 0 ∷ 0 ∷ 0 ∷ 0  -- 14 not 13
    ∷ 32 ∷ 0 ∷ 0 ∷ 0 ∷ 0 ∷ 0 ∷ 0 ∷ 0  -- 15 false
    ∷ 52 ∷ 0 ∷ 4 ∷ 0 ∷ 224 ∷ 15 ∷ 0 ∷ 0  -- 16 choice condition 4 of 14, 15
    ∷ 44 ∷ 0 ∷ 10 ∷ 1 ∷ 0 ∷ 0 ∷ 0 ∷ 0  -- 17 and 10, 16
    ∷ 0 ∷ 0 ∷ 0 ∷ 0 ∷ 0 ∷ 0 ∷ 0 ∷ 10  -- 18 number 10
    ∷ 0 ∷ 0 ∷ 0 ∷ 0 ∷ 0 ∷ 0 ∷ 0 ∷ 20  -- 19 number 20
    ∷ 12 ∷ 0 ∷ 17 ∷ 1 ∷ 32 ∷ 19 ∷ 0 ∷ 0  -- 20 pick 17, 18, 19
    ∷ 16 ∷ 0 ∷ 5 ∷ 0 ∷ 80 ∷ 20 ∷ 0 ∷ 0  -- 21 choice condition 5 of 5, 20
    ∷ 8 ∷ 0 ∷ 4 ∷ 1 ∷ 80 ∷ 0 ∷ 0 ∷ 0  -- 22 sum 4, 21
    ∷ 0 ∷ 0 ∷ 0 ∷ 0 ∷ 0 ∷ 0 ∷ 7 ∷ 208  -- 23 number 2000
    ∷ 16 ∷ 0 ∷ 6 ∷ 1 ∷ 96 ∷ 23 ∷ 0 ∷ 0  -- 24 choice condition 6 of 22, 23
    ∷ 68 ∷ 0 ∷ 24 ∷ 0 ∷ 0 ∷ 0 ∷ 0 ∷ 0  -- 25 assign variable 0 from 24
    ∷ []

-- (p): every kind of statement, over four settings. The while counts variable 0 to 2 with option 1, else to 1. Then option 0 throws that number; without it
-- 1 passes and 2 throws 8. The handler has the fault in variable 1 and puts it into variable 2, but with both options it throws it on
unfoldable pub S : Bytes
S =
    1 ∷ 32 ∷ 3 ∷ 1 ∷ 176 ∷ 0 ∷ 0 ∷ 0  -- 2 options, 3 conditions, 27 nodes
    ∷ 32 ∷ 0 ∷ 0 ∷ 0  -- condition 0, option 0
    ∷ 33 ∷ 0 ∷ 0 ∷ 0  -- condition 1, option 1
    ∷ 64 ∷ 0 ∷ 0 ∷ 1  -- condition 2, 0 and 1
    ∷ 4 ∷ 0 ∷ 0 ∷ 0 ∷ 0 ∷ 0 ∷ 0 ∷ 0  -- 0 variable 0
    ∷ 0 ∷ 0 ∷ 0 ∷ 0 ∷ 0 ∷ 0 ∷ 0 ∷ 2  -- 1 number 2
    ∷ 0 ∷ 0 ∷ 0 ∷ 0 ∷ 0 ∷ 0 ∷ 0 ∷ 1  -- 2 number 1
    ∷ 16 ∷ 0 ∷ 1 ∷ 0 ∷ 16 ∷ 2 ∷ 0 ∷ 0  -- 3 choice condition 1 of 1, 2
    ∷ 48 ∷ 0 ∷ 0 ∷ 0 ∷ 48 ∷ 0 ∷ 0 ∷ 0  -- 4 less 0, 3
    ∷ 4 ∷ 0 ∷ 0 ∷ 0 ∷ 0 ∷ 0 ∷ 0 ∷ 0  -- 5 variable 0
    ∷ 0 ∷ 0 ∷ 0 ∷ 0 ∷ 0 ∷ 0 ∷ 0 ∷ 1  -- 6 number 1
    ∷ 8 ∷ 0 ∷ 5 ∷ 0 ∷ 96 ∷ 0 ∷ 0 ∷ 0  -- 7 sum 5, 6
    ∷ 68 ∷ 0 ∷ 7 ∷ 0 ∷ 0 ∷ 0 ∷ 0 ∷ 0  -- 8 assign variable 0 from 7
    ∷ 80 ∷ 0 ∷ 4 ∷ 0 ∷ 128 ∷ 0 ∷ 0 ∷ 0  -- 9 while 4, 8
    ∷ 4 ∷ 0 ∷ 0 ∷ 0 ∷ 0 ∷ 0 ∷ 0 ∷ 0  -- 10 variable 0
    ∷ 84 ∷ 0 ∷ 10 ∷ 0 ∷ 0 ∷ 0 ∷ 0 ∷ 0  -- 11 throw 10
    ∷ 4 ∷ 0 ∷ 0 ∷ 0 ∷ 0 ∷ 0 ∷ 0 ∷ 0  -- 12 variable 0
    ∷ 0 ∷ 0 ∷ 0 ∷ 0 ∷ 0 ∷ 0 ∷ 0 ∷ 2  -- 13 number 2
    ∷ 48 ∷ 0 ∷ 12 ∷ 0 ∷ 208 ∷ 0 ∷ 0 ∷ 0  -- 14 less 12, 13
    ∷ 64 ∷ 0 ∷ 0 ∷ 0 ∷ 0 ∷ 0 ∷ 0 ∷ 0  -- 15 skip
    ∷ 0 ∷ 0 ∷ 0 ∷ 0 ∷ 0 ∷ 0 ∷ 0 ∷ 8  -- 16 number 8
    ∷ 84 ∷ 0 ∷ 16 ∷ 0 ∷ 0 ∷ 0 ∷ 0 ∷ 0  -- 17 throw 16
    ∷ 76 ∷ 0 ∷ 14 ∷ 0 ∷ 240 ∷ 17 ∷ 0 ∷ 0  -- 18 if 14, 15, 17
    ∷ 92 ∷ 0 ∷ 0 ∷ 0 ∷ 176 ∷ 18 ∷ 0 ∷ 0  -- 19 choice condition 0 of 11, 18
    ∷ 72 ∷ 0 ∷ 9 ∷ 1 ∷ 48 ∷ 0 ∷ 0 ∷ 0  -- 20 sequence 9, 19
    ∷ 4 ∷ 16 ∷ 0 ∷ 0 ∷ 0 ∷ 0 ∷ 0 ∷ 0  -- 21 variable 1
    ∷ 84 ∷ 0 ∷ 21 ∷ 0 ∷ 0 ∷ 0 ∷ 0 ∷ 0  -- 22 throw 21
    ∷ 4 ∷ 16 ∷ 0 ∷ 0 ∷ 0 ∷ 0 ∷ 0 ∷ 0  -- 23 variable 1
    ∷ 68 ∷ 32 ∷ 23 ∷ 0 ∷ 0 ∷ 0 ∷ 0 ∷ 0  -- 24 assign variable 2 from 23
    ∷ 92 ∷ 0 ∷ 2 ∷ 1 ∷ 96 ∷ 24 ∷ 0 ∷ 0  -- 25 choice condition 2 of 22, 24
    ∷ 88 ∷ 16 ∷ 20 ∷ 1 ∷ 144 ∷ 0 ∷ 0 ∷ 0  -- 26 try 20, variable 1, handler 25
    ∷ []
