-- Document 01's routine H as bytes: "Header 01 10 01 00 C0 00 00 00, condition 20 00 00 00, node 3 is 44 00 02 00 00 00 00 00; 108 bytes."
use Rattle.std.specs.Prelude.{[], ◌∷◌}
use Rattle.image.specs.Bytes.{Bytes}

-- header, condition 0, then nodes 0 to 11
abbrev pub H : Bytes
H =
    1 ∷ 16 ∷ 1 ∷ 0 ∷ 192 ∷ 0 ∷ 0 ∷ 0
    ∷ 32 ∷ 0 ∷ 0 ∷ 0
    ∷ 0 ∷ 0 ∷ 0 ∷ 0 ∷ 0 ∷ 0 ∷ 1 ∷ 124
    ∷ 0 ∷ 0 ∷ 0 ∷ 0 ∷ 0 ∷ 0 ∷ 1 ∷ 54
    ∷ 16 ∷ 0 ∷ 0 ∷ 0 ∷ 0 ∷ 1 ∷ 0 ∷ 0
    ∷ 68 ∷ 0 ∷ 2 ∷ 0 ∷ 0 ∷ 0 ∷ 0 ∷ 0
    ∷ 0 ∷ 0 ∷ 0 ∷ 0 ∷ 0 ∷ 0 ∷ 1 ∷ 94
    ∷ 4 ∷ 0 ∷ 0 ∷ 0 ∷ 0 ∷ 0 ∷ 0 ∷ 0
    ∷ 48 ∷ 0 ∷ 4 ∷ 0 ∷ 80 ∷ 0 ∷ 0 ∷ 0
    ∷ 0 ∷ 0 ∷ 0 ∷ 0 ∷ 0 ∷ 0 ∷ 0 ∷ 7
    ∷ 84 ∷ 0 ∷ 7 ∷ 0 ∷ 0 ∷ 0 ∷ 0 ∷ 0
    ∷ 64 ∷ 0 ∷ 0 ∷ 0 ∷ 0 ∷ 0 ∷ 0 ∷ 0
    ∷ 76 ∷ 0 ∷ 6 ∷ 0 ∷ 128 ∷ 9 ∷ 0 ∷ 0
    ∷ 72 ∷ 0 ∷ 3 ∷ 0 ∷ 160 ∷ 0 ∷ 0 ∷ 0
    ∷ []
