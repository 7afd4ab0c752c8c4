-- What is seen of the settings below s, where the store is taken off sixteen numbers at a time: each next sixteen are the part of the next setting.
use Rattle.std.specs.Prelude.{◌≡◌, refl, Bool, true, ◌&&◌, List, ◌++◌, ℕ, suc, ◌+◌, ◌-◌, ◌*◌, ◌≤◌, ◌<◌, leb, ℤ, pos, length, get_or, take, drop}
use Rattle.std.proofs.Common.{sym, ◌∙◌, ap, subst, arith, length-append, length-drop, take_at, drop_at}
use Rattle.std.proofs.lemmas.List.{drop-drop}
use mir.Syntax.{w32}
use mir.Val.{SFits, of_z, to_z}
use mir.Facts.{to_z-of_z}
use Rattle.imp.specs.Shared.{total}
use Rattle.image.specs.Bytes.{Bytes}
use Rattle.shared.specs.Lent.{Tally, progress, part}
use Rattle.acceptance.specs.Inner.Comparing.{every, setting_holds, all_hold}
use Rattle.acceptance.specs.Theorem.Same.{every_next}

total_next : (n : ℕ) (f : ℕ → ℕ) (m : ℕ) → m ≡ total n f → m + f n ≡ total (n + 1) f
unfolding total
total_next n f m e = let next : n + 1 ≡ suc n = omega arith in rw next (omega (arith, e))

module _ (l : Bytes) (set budget visits : ℕ) (xs : List ℤ) (T : Tally) where
  abbrev holds : ℕ → Bool
  holds s = setting_holds l set budget visits s (progress T s) (part xs s)

  abbrev steps : ℕ → ℕ
  steps s = get_or T.steps s 0

  -- `rest` is what is left of the store
  pub record Seen (s : ℕ) (rest : List ℤ) (sum : ℕ) (good : Bool) : Type 0 where
    pub rest_is : rest ≡ drop (s * 16) xs
    pub few : s ≤ length T.outcomes
    pub within : sum ≤ s * 4294967296
    pub sum_is : sum ≡ total s steps
    pub good_is : good ≡ every s holds

  pub none_yet : (s : ℕ) (rest : List ℤ) → s ≡ 0 → rest ≡ xs → Seen s rest 0 true
  unfolding total every
  none_yet s rest z e = record {
    rest_is = rw z e;
    few = omega arith;
    within = omega arith;
    sum_is = rw z refl;
    good_is = rw z refl;
  }

  -- what is told of setting t: whether it holds, by these numbers, and its steps
  pub record Told (t : ℕ) (chunk : List ℤ) (u : Bool) (k : ℕ) : Type 0 where
    pub fits : SFits w32 (get_or T.codes t (pos 0))
    pub holds_is : u ≡ setting_holds l set budget visits t
        (record { outcome = get_or T.outcomes t 0; code = to_z w32 (of_z w32 (get_or T.codes t (pos 0))); steps = steps t }) chunk
    pub steps_are : k ≡ steps t
    pub small : k < 4294967296

  module _ (long : length xs ≡ length T.outcomes * 16) {s : ℕ} {rest : List ℤ} {sum : ℕ} {good : Bool} (seen : Seen s rest sum good) where
    left_of_it : length rest ≡ length T.outcomes * 16 - s * 16
    left_of_it = ap length seen.rest_is ∙ length-drop (s * 16) xs ∙ ap (λ n. n - s * 16) long

    -- the next sixteen, of setting s
    own : {chunk more : List ℤ} {u : Bool} {k : ℕ} → rest ≡ chunk ++ more → length chunk ≡ 16 → Told s chunk u k → Seen (s + 1) more (sum + k) (good && u)
    unfolding progress part
    own {chunk} {more} {u} {k} e sixteen told =
        let front : take 16 rest ≡ chunk = ap (take 16) e ∙ take_at chunk more 16 sixteen in
        let part_is : chunk ≡ take 16 (drop (s * 16) xs) = sym front ∙ ap (take 16) seen.rest_is in
        let code_is = to_z-of_z told.fits in
        let behind : s * 16 + 16 ≡ (s + 1) * 16 = omega arith in
        let enough : 16 ≤ length rest = omega (arith, ap length e, length-append chunk more, sixteen) in
        record {
          rest_is = sym (drop_at chunk more 16 sixteen) ∙ ap (drop 16) (sym e ∙ seen.rest_is) ∙ drop-drop 16 (s * 16) xs ∙ ap (λ n. drop n xs) behind;
          few = omega (arith, left_of_it, enough, seen.few);
          within = omega (arith, seen.within, told.small);
          sum_is = ap (λ n. sum + n) told.steps_are ∙ total_next s steps sum seen.sum_is;
          good_is = every_next s holds good u seen.good_is (told.holds_is ∙ λ i.
              setting_holds l set budget visits s (record { outcome = get_or T.outcomes s 0; code = code_is i; steps = steps s }) (part_is i));
        }

    pub next : {t s' : ℕ} {chunk more : List ℤ} {u : Bool} {k : ℕ} → t ≡ s → s' ≡ s + 1 → rest ≡ chunk ++ more → length chunk ≡ 16 → Told t chunk u k
        → Seen s' more (sum + k) (good && u)
    next {chunk = chunk} {more = more} {u = u} {k = k} same one_more e sixteen told =
        subst (λ n. Seen n more (sum + k) (good && u)) (sym one_more) (own e sixteen (subst (λ n. Told n chunk u k) same told))

    -- nothing is left
    pub all_seen : length rest < 16 → good && leb visits sum ≡ all_hold l set budget visits xs T
    unfolding all_hold
    all_seen none =
        let all : s ≡ length T.outcomes = omega (arith, left_of_it, seen.few) in
        (λ i. seen.good_is i && leb visits (seen.sum_is i)) ∙ ap (λ n. every n holds && leb visits (total n steps)) all
