-- An input that ended before its space was full is all of its stream.
use Rattle.std.specs.Prelude.{◌≡◌, ℕ, ◌≤◌, ◌<◌, length, take}
use Rattle.std.proofs.Common.{◌∙◌, ap, arith, length-take, take_all, length-take-le}
use Rattle.image.specs.Bytes.{Bytes}

pub whole : (space stream : Bytes) (n : ℕ) → n < length space → take n space ≡ take (length space) stream → take n space ≡ stream
whole space stream n h same =
    let short : length stream ≤ length space =
    omega (arith, ap length same, length-take-le n space (omega arith), length-take (length space) stream) in
    same ∙ take_all (length space) stream short
