-- The first token over a limit, by what the tokens before it have opened: none while the limits are kept, and then the one that breaks them.
use mathlib.Core.Path.{◌≡◌, refl, sym, ◌∙◌, ap, ap₂}
use Prim.Native.Nat.{ℕ, zero, suc, ◌+◌, ◌-◌, ◌≤◌}
use mathlib.Core.Bool.{false, ◌&&◌}
use mathlib.Core.List.{List, [], ◌∷◌, ◌++◌, reverse, append-nil}
use mathlib.Core.Logic.{◌⊎◌, inl, inr}
use mathlib.Core.Option.{Option, none, some}
use native.Mathlib.Omega.{arith}
use lib.Dec.{leb}
use Rattle.image.specs.Bytes.{Bytes}
use Rattle.written.specs.Token.{Opens, nothing, node, record_of, Spot}
use Rattle.written.specs.Limits.{NODES, RECORDS, first_over_by, first_over, first_too_many, whole_in}
use Rattle.written.specs.Answer.{Answer, by_whole, limited}
use Rattle.written.proofs.Theorem.Scan.{reversed}
use Rattle.reading.specs.Inner.Way.{node_of, record_in, nodes_in, records_in}

nodes_append : (a b : List Spot) → nodes_in (a ++ b) ≡ nodes_in a + nodes_in b
unfolding nodes_in
nodes_append [] b = omega arith
nodes_append (m ∷ a) b = omega (arith, nodes_append a b)

records_append : (a b : List Spot) → records_in (a ++ b) ≡ records_in a + records_in b
unfolding records_in
records_append [] b = omega arith
records_append (m ∷ a) b = omega (arith, records_append a b)

nodes_reverse : (a : List Spot) → nodes_in (reverse a) ≡ nodes_in a
unfolding nodes_in
nodes_reverse [] = refl
nodes_reverse (m ∷ a) = ap nodes_in (reversed a (m ∷ [])) ∙ omega (arith, nodes_append (reverse a) (m ∷ []), nodes_reverse a)

records_reverse : (a : List Spot) → records_in (reverse a) ≡ records_in a
unfolding records_in
records_reverse [] = refl
records_reverse (m ∷ a) = ap records_in (reversed a (m ∷ [])) ∙ omega (arith, records_append (reverse a) (m ∷ []), records_reverse a)

-- tokens within the limits leave what they have not used to those behind them
by_opens : (o : Opens) (n k i j : ℕ) (m : Spot) (f g : ℕ → ℕ → Option Spot) → node_of o + i ≤ n → record_in o + j ≤ k
    → ((n k : ℕ) → i ≤ n → j ≤ k → f n k ≡ g (n - i) (k - j)) → first_over_by o n k m f ≡ g (n - (node_of o + i)) (k - (record_in o + j))
by_opens nothing n k i j m f g h l e = e n k (omega arith) (omega arith) ∙ ap₂ g (omega arith) (omega arith)
by_opens node zero k i j m f g h l e = absurd (omega arith)
by_opens node (suc n) k i j m f g h l e = e n k (omega arith) (omega arith) ∙ ap₂ g (omega arith) (omega arith)
by_opens record_of n zero i j m f g h l e = absurd (omega arith)
by_opens record_of n (suc k) i j m f g h l e = e n k (omega arith) (omega arith) ∙ ap₂ g (omega arith) (omega arith)

over_append : (a b : List Spot) (n k : ℕ) → nodes_in a ≤ n → records_in a ≤ k → first_over n k (a ++ b) ≡ first_over (n - nodes_in a) (k - records_in a) b
unfolding first_over nodes_in records_in
over_append [] b n k h g = ap₂ (λ n k. first_over n k b) (omega arith) (omega arith)
over_append (m ∷ a) b n k h g =
    by_opens m.does n k (nodes_in a) (records_in a) m (λ n k. first_over n k (a ++ b)) (λ n k. first_over n k b) h g (λ n k i j. over_append a b n k i j)

module _ (ms : List Spot) (h : nodes_in ms ≤ NODES) (k : records_in ms ≤ RECORDS) where
  -- the limits are kept
  pub within_limits : first_too_many (reverse ms) ≡ none
  unfolding first_over
  within_limits =
      ap first_too_many (sym (append-nil (reverse ms)))
      ∙ over_append (reverse ms) [] NODES RECORDS (omega (arith, nodes_reverse ms)) (omega (arith, records_reverse ms))

  one_more : (m : Spot) → first_too_many (reverse (m ∷ ms)) ≡ first_over (NODES - nodes_in ms) (RECORDS - records_in ms) (m ∷ [])
  one_more m =
      ap first_too_many (reversed ms (m ∷ []))
      ∙ over_append (reverse ms) (m ∷ []) NODES RECORDS (omega (arith, nodes_reverse ms)) (omega (arith, records_reverse ms))
      ∙ ap₂ (λ i j. first_over (NODES - i) (RECORDS - j) (m ∷ [])) (nodes_reverse ms) (records_reverse ms)

  -- with one token more it is that token, or none
  pub it_or_none : (m : Spot) → (first_too_many (reverse (m ∷ ms)) ≡ some m) ⊎ (first_too_many (reverse (m ∷ ms)) ≡ none)
  unfolding first_over
  it_or_none m = go m.does (NODES - nodes_in ms) (RECORDS - records_in ms) (one_more m)
    where
      go : (o : Opens) (n k : ℕ) → first_too_many (reverse (m ∷ ms)) ≡ first_over_by o n k m (λ n k. none) → (first_too_many (reverse (m ∷ ms)) ≡ some m) ⊎ (first_too_many (reverse (m ∷ ms)) ≡ none)
      go nothing n k e = inr e
      go node zero k e = inl e
      go node (suc n) k e = inr e
      go record_of n zero e = inl e
      go record_of n (suc k) e = inr e

  -- it is that token where a limit is broken
  pub breaks : (m : Spot) → (nodes_in (m ∷ ms) ≤ NODES → records_in (m ∷ ms) ≤ RECORDS → ⊥) → first_too_many (reverse (m ∷ ms)) ≡ some m
  unfolding first_over nodes_in records_in
  breaks m broken = one_more m ∙ go m.does (NODES - nodes_in ms) (RECORDS - records_in ms) refl refl broken
    where
      go : (o : Opens) (i j : ℕ) → i ≡ NODES - nodes_in ms → j ≡ RECORDS - records_in ms → (node_of o + nodes_in ms ≤ NODES → record_in o + records_in ms ≤ RECORDS → ⊥)
          → first_over_by o i j m (λ n k. none) ≡ some m
      go nothing i j p q b = absurd (b (omega arith) (omega arith))
      go node zero j p q b = refl
      go node (suc i) j p q b = absurd (b (omega arith) (omega arith))
      go record_of i zero p q b = refl
      go record_of i (suc j) p q b = absurd (b (omega arith) (omega arith))

-- ---- what a limit makes of Refusal 17

-- nothing, where no token is over one
pub none_limits : (text : Bytes) (n : ℕ) (a : Answer) (o : Option Spot) → o ≡ none → limited o text n a ≡ a
none_limits text n a o e = ap (λ o. limited o text n a) e

-- nor where the token that is has not ended, or goes on
pub not_yet : (text : Bytes) (n : ℕ) (a : Answer) (m : Spot) (o : Option Spot) → (o ≡ some m) ⊎ (o ≡ none) → (leb m.upto n && whole_in m text) ≡ false → limited o text n a ≡ a
not_yet text n a m o (inl e) h = ap (λ o. limited o text n a) e ∙ ap (λ u. by_whole u m a) h
not_yet text n a m o (inr e) h = none_limits text n a o e
