-- The configured term of a node is made from those of the nodes that it names.
use Rattle.std.specs.Prelude.{◌≡◌, refl, ℕ, zero, suc, ◌<◌, Bool, true, false, cond, List, eqb}
use Rattle.std.proofs.Common.{ap, not-suc-le-zero, arith, eq-eqb, ne_eqb}
use Rattle.std.proofs.Math.Decide.{ℕ_discrete}
use Rattle.imp.specs.Condition.{holds}
use Rattle.image.specs.Records.{node}
use Rattle.image.specs.Layout.{layout, a_digit, b_digit, c_digit, names_node, is_choice}
use Rattle.image.specs.Tree.{condition}
use Rattle.image.specs.Term.{Term, term, some}
use Rattle.configure.specs.Inner.Term.{hang, configuring, term_below, term_at}

-- a node below n has the same term, whatever n is
pub term_same : (l : List ℕ) (s n k : ℕ) → k < n → term_below l s n k ≡ term_at l s k
unfolding term_below term_at
term_same l s zero k h = absurd (not-suc-le-zero h)
term_same l s (suc n) k h = go (ℕ_discrete k n) (term_same l s n k)
  where
    go : Dec (k ≡ n) → (k < n → term_below l s n k ≡ term_at l s k) → term_below l s (suc n) k ≡ term_at l s k
    go (yes p) ih = rw (eq-eqb k n p, p)
    go (no p) ih = rw (ne_eqb k n p) (ih (omega arith))

hang_same : (u : Bool) (f g : ℕ → Term) (x : ℕ) → (u ≡ true → f x ≡ g x) → hang u f x ≡ hang u g x
unfolding hang
hang_same true f g x e = ap some (e refl)
hang_same false f g x e = refl

-- a choice is its chosen part
pub choice_term : (l : List ℕ) (s n : ℕ) → is_choice (node l n).kind ≡ true → (node l n).b < n → (node l n).c < n
    → term_at l s n ≡ term_at l s (cond (holds (condition l (node l n).a) s) (node l n).b (node l n).c)
unfolding term_at configuring
choice_term l s n e hb hc = rw e (go (holds (condition l (node l n).a) s))
  where
    go : (u : Bool) → term_below l s n (cond u (node l n).b (node l n).c) ≡ term_at l s (cond u (node l n).b (node l n).c)
    go true = term_same l s n (node l n).b hb
    go false = term_same l s n (node l n).c hc

-- any other node keeps its kind and its variable, and its children are configured
pub node_term : (l : List ℕ) (s n : ℕ) → is_choice (node l n).kind ≡ false
    → (names_node (a_digit (layout (node l n).kind)) ≡ true → (node l n).a < n)
    → (names_node (b_digit (layout (node l n).kind)) ≡ true → (node l n).b < n)
    → (names_node (c_digit (layout (node l n).kind)) ≡ true → (node l n).c < n)
    → term_at l s n ≡ term (node l n).kind (node l n).variable (cond (eqb (node l n).kind 0) (node l n).value 0)
    (hang (names_node (a_digit (layout (node l n).kind))) (term_at l s) (node l n).a)
    (hang (names_node (b_digit (layout (node l n).kind))) (term_at l s) (node l n).b)
    (hang (names_node (c_digit (layout (node l n).kind))) (term_at l s) (node l n).c)
unfolding term_at configuring
node_term l s n e ha hb hc = rw (
  e,
  hang_same _ (term_below l s n) (term_at l s) (node l n).a (λ u. term_same l s n (node l n).a (ha u)),
  hang_same _ (term_below l s n) (term_at l s) (node l n).b (λ u. term_same l s n (node l n).b (hb u)),
  hang_same _ (term_below l s n) (term_at l s) (node l n).c (λ u. term_same l s n (node l n).c (hc u)),
)
