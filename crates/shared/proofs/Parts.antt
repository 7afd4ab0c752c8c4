-- The parts of the store, sixteen numbers for each setting: a part that is lent comes back in its place, and the others are as they were.
use mathlib.Core.Path.{◌≡◌, sym, ◌∙◌, ap}
use mathlib.Core.List.{List, ◌++◌}
use Prim.Native.Nat.{ℕ, ◌+◌, ◌-◌, ◌*◌, ◌≤◌, ◌<◌}
use native.Mathlib.Decide.{dec_lt}
use native.Mathlib.Omega.{arith}
use lib.IntN.{ℤ}
use lib.ListN.{length, take, drop, take-append-drop, length-drop}
use lib.Seq.{length-take-le, take_at, drop_at, take-append-le, drop-append-le, drop-drop}
use borrow.Rule.Slice.PartMut.{put_mid, post_of, same_len_mid, mid_len, drop_put}
use Rattle.shared.specs.Lent.{part}

-- sixteen of a list's beginning
in-front : (p q : List ℤ) (m : ℕ) → m + 16 ≤ length p → take 16 (drop m (p ++ q)) ≡ take 16 (drop m p)
in-front p q m h =
    ap (take 16) (drop-append-le m p q (omega (arith, h)))
    ∙ take-append-le 16 (drop m p) q (rw (length-drop m p) (omega (arith, h)))

-- sixteen of a list's end
behind : (xs ys : List ℤ) (e m : ℕ) → e ≤ m → drop e xs ≡ drop e ys → take 16 (drop m xs) ≡ take 16 (drop m ys)
behind xs ys e m h same =
    let sum : e + (m - e) ≡ m = omega (arith, h) in
    ap (take 16) (from xs sum ∙ ap (drop (m - e)) same ∙ sym (from ys sum))
  where
    from : (zs : List ℤ) → e + (m - e) ≡ m → drop m zs ≡ drop (m - e) (drop e zs)
    from zs sum = ap (λ n. drop n zs) (sym sum) ∙ sym (drop-drop (m - e) e zs)

-- setting s has a part, and it is lent
module _ (xs : List ℤ) (N s : ℕ) (whole : length xs ≡ N * 16) (below : s < N) where
  abbrev first : ℕ
  first = s * 16

  abbrev count : ℕ
  count = (s * 16 + 16) - s * 16

  sixteen : count ≡ 16
  sixteen = omega arith

  ends : s * 16 + 16 ≤ length xs
  ends = omega (arith, whole, below)

  pub part_is : take count (drop first xs) ≡ part xs s
  unfolding part
  part_is = ap (λ n. take n (drop first xs)) sixteen

  pub part_length : length (take count (drop first xs)) ≡ 16
  part_length = mid_len first (s * 16 + 16) xs ends ∙ sixteen

  -- it comes back as ys
  module _ (ys : List ℤ) (back : length ys ≡ 16) where
    abbrev after : List ℤ
    after = put_mid first count xs ys

    pub back_length : length after ≡ N * 16
    back_length = same_len_mid first count xs ys (back ∙ sym part_length) ∙ whole

    before_length : length (take first xs) ≡ first
    before_length = length-take-le first xs (omega (arith, ends))

    pub back_here : part after s ≡ ys
    unfolding part
    back_here =
        ap (take 16) (drop_at (take first xs) (ys ++ post_of first count xs) first before_length)
        ∙ take_at ys (post_of first count xs) 16 back

    pub back_other : (t : ℕ) → (t ≡ s → ⊥) → part after t ≡ part xs t
    unfolding part
    back_other t other = go (dec_lt t s)
      where
        go : Dec (t < s) → take 16 (drop (t * 16) after) ≡ take 16 (drop (t * 16) xs)
        go (yes h) =
            let room : t * 16 + 16 ≤ length (take first xs) = rw before_length (omega (arith, h)) in
            in-front (take first xs) (ys ++ post_of first count xs) (t * 16) room
            ∙ sym (in-front (take first xs) (drop first xs) (t * 16) room)
            ∙ ap (λ zs. take 16 (drop (t * 16) zs)) (take-append-drop first xs)
        go (no h) =
            behind after xs (s * 16 + 16) (t * 16) (omega (arith, h, other))
            (drop_put first (s * 16 + 16) xs ys (omega arith) ends (back ∙ sym sixteen))
