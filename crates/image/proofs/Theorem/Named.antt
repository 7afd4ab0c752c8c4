-- Who names a node: over a stretch of nodes the names add up, and a term names each of its nodes but its root just once.
use Rattle.std.proofs.Math.Path.{◌≡◌, refl}
use Rattle.std.proofs.Common.{◌∙◌, ap, arith}
use Rattle.std.specs.Prelude.{ℕ, zero, suc, ◌+◌, ◌≤◌, ◌<◌, Bool, ◌&&◌, cond, List, eqb, leb}
use Rattle.std.proofs.Math.Bool.{true, false}
use Rattle.std.proofs.Math.Decide.{dec_lt, ℕ_discrete}
use Rattle.std.proofs.Math.Dec.{ltb}
use borrow.Author.Tests.{eq-eqb, ne_eqb, lt-ltb, le-ltb, le-leb, lt-leb}
use Rattle.image.specs.Records.{node}
use Rattle.image.specs.Rows.{node_names, names}

-- how often the n nodes from `at` name k
unfoldable pub names_from : List ℕ → ℕ → ℕ → ℕ → ℕ
names_from l at zero k = 0
names_from l at (suc n) k = names_from l at n k + node_names (node l (at + n)) k

-- 1 if k is one of the n numbers from `at`, and if it is r
unfoldable pub here : ℕ → ℕ → ℕ → ℕ
here at n k = cond (leb at k && ltb k (at + n)) 1 0

unfoldable pub same : ℕ → ℕ → ℕ
same r k = cond (eqb r k) 1 0

pub names_all : (l : List ℕ) (n k : ℕ) → names_from l 0 n k ≡ names l n k
unfolding names_from names
names_all l zero k = refl
names_all l (suc n) k = omega (arith, names_all l n k, ap (λ i. node_names (node l i) k) (zero_left n))
  where
    zero_left : (n : ℕ) → 0 + n ≡ n
    zero_left n = omega arith

pub names_split : (l : List ℕ) (at n m k : ℕ) → names_from l at (n + m) k ≡ names_from l at n k + names_from l (at + n) m k
unfolding names_from
names_split l at n zero k =
    let e : n + 0 ≡ n = omega arith in
    rw e (omega arith)
names_split l at n (suc m) k =
    let e : n + suc m ≡ suc (n + m) = omega arith in
    let f : at + (n + m) ≡ at + n + m = omega arith in
    rw (e, f) (omega (arith, names_split l at n m k))

-- ---- where a number is

module _ (at n k : ℕ) where
  pub here_in : at ≤ k → k < at + n → here at n k ≡ 1
  unfolding here
  here_in h i = rw (le-leb at k h, lt-ltb k (at + n) i)

  pub here_low : k < at → here at n k ≡ 0
  unfolding here
  here_low h = rw (lt-leb at k h)

  pub here_high : at + n ≤ k → here at n k ≡ 0
  unfolding here
  here_high h = go (leb at k)
    where
      go : (u : Bool) → ◌≡◌ {A = ℕ} (cond (u && ltb k (at + n)) 1 0) 0
      go true = rw (le-ltb k (at + n) h)
      go false = refl

pub here_split : (at n m k : ℕ) → here at (n + m) k ≡ here at n k + here (at + n) m k
here_split at n m k = go (dec_lt k at) (dec_lt k (at + n)) (dec_lt k (at + n + m))
  where
    go : Dec (k < at) → Dec (k < at + n) → Dec (k < at + n + m) → here at (n + m) k ≡ here at n k + here (at + n) m k
    go (yes p) q r = omega (arith, here_low at (n + m) k p, here_low at n k p, here_low (at + n) m k (omega arith))
    go (no p) (yes q) r = omega (arith, here_in at (n + m) k (omega arith) (omega arith), here_in at n k (omega arith) q, here_low (at + n) m k q)
    go (no p) (no q) (yes r) = omega (arith, here_in at (n + m) k (omega arith) (omega arith), here_high at n k (omega arith), here_in (at + n) m k (omega arith) r)
    go (no p) (no q) (no r) = omega (arith, here_high at (n + m) k (omega arith), here_high at n k (omega arith), here_high (at + n) m k (omega arith))

pub here_one : (at k : ℕ) → here at 1 k ≡ same at k
unfolding same
here_one at k = go (ℕ_discrete at k)
  where
    go : Dec (at ≡ k) → here at 1 k ≡ cond (eqb at k) 1 0
    go (yes p) = here_in at 1 k (omega arith) (omega arith) ∙ rw (eq-eqb at k p)
    go (no p) = other (dec_lt k at) ∙ rw (ne_eqb at k p)
      where
        other : Dec (k < at) → here at 1 k ≡ 0
        other (yes q) = here_low at 1 k q
        other (no q) = here_high at 1 k (omega arith)

-- three stretches and the node after them, of which each stretch's root is named by that node
pub named_join : (l : List ℕ) (at na nb nc own j xa xb xc : ℕ) → at + na + nb + nc ≡ own → node_names (node l own) j ≡ xa + (xb + xc)
    → names_from l at na j + xa ≡ here at na j → names_from l (at + na) nb j + xb ≡ here (at + na) nb j
    → names_from l (at + na + nb) nc j + xc ≡ here (at + na + nb) nc j
    → names_from l at (suc (na + nb + nc)) j + same own j ≡ here at (suc (na + nb + nc)) j
unfolding names_from
named_join l at na nb nc own j xa xb xc q e ea eb ec =
    let more : suc (na + nb + nc) ≡ na + nb + nc + 1 = omega arith in
    let to-c : at + (na + nb) ≡ at + na + nb = omega arith in
    let to-own : at + (na + nb + nc) ≡ own = omega arith in
    let names-c : names_from l at (na + nb + nc) j ≡ names_from l at (na + nb) j + names_from l (at + na + nb) nc j = rw to-c at (names_split l at (na + nb) nc j) in
    let here-c : here at (na + nb + nc) j ≡ here at (na + nb) j + here (at + na + nb) nc j = rw to-c at (here_split at (na + nb) nc j) in
    let here-own : here at (na + nb + nc + 1) j ≡ here at (na + nb + nc) j + here own 1 j = rw to-own at (here_split at (na + nb + nc) 1 j) in
    rw to-own (omega (
      arith,
      names-c,
      names_split l at na nb j,
      here-c,
      here_split at na nb j,
      here-own,
      here_one own j,
      ap (λ n. here at n j) more,
    ))
