-- The first byte of a condition tells how it begins: each way to begin leads to what its kind still wants.
use mathlib.Core.Path.{◌≡◌, refl, sym, ◌∙◌, ap, ap₂, subst}
use Prim.Native.Nat.{ℕ, zero, suc, ◌+◌, ◌-◌, ◌≤◌}
use mathlib.Core.Bool.{false, true≢false}
use mathlib.Core.List.{[], ◌∷◌, reverse}
use mathlib.Core.Option.{none, some}
use native.Mathlib.Omega.{arith}
use lib.Dec.{eqb}
use lib.ListN.{drop, get_or}
use borrow.Author.Tests.{eq-eqb, ne_eqb, eqb-false}
use Rattle.imp.specs.Condition.{Condition, option}
use Rattle.image.specs.declared.kinds.ConditionKind.{ConditionKind}
use Rattle.image.specs.declared.kinds.ConditionKind.TheVariants as kind
use Rattle.image.specs.Kinds.{condition_kind_number}
use Rattle.std.specs.Prelude.{Result, Ok, Err}
use Rattle.image.specs.declared.refusals.Refusal.{Refusal}
use Rattle.image.specs.declared.refusals.Refusal.TheVariants.{TextWrong}
use mathlib.Core.Logic.{inl, inr}
use Rattle.image.specs.Bytes.{Bytes}
use Rattle.written.specs.Token.{Lexeme, record_of}
use Rattle.written.specs.Word.{TRUE, FALSE, NOT, LEFT}
use Rattle.written.specs.Machine.{conditions, Stack, done, want, Log, led, lexed, option_leads, leads, counted, look, begin, plain, first, final}
use Rattle.written.specs.Limits.{first_too_many}
use Rattle.written.specs.Answer.{so_far, refused_17, from}
use Rattle.written.specs.Count.{sizeᶜ}
use Rattle.written.specs.Image.{wordsᶜ}
use Rattle.reading.specs.declared.cursor.Cursor.{Cursor}
use Rattle.reading.specs.declared.lead.Lead.{Lead}
use Rattle.reading.specs.Inner.Way.{Logged, Way}
use Rattle.reading.specs.Inner.Between.{Met, Meets}
use Rattle.reading.specs.Inner.Token.{word_to, number_to}
use Rattle.reading.specs.Inner.ConditionLead.{RecordLead, OptionLead, leaf, rest_of, OneRecord, ConditionFrom}
use Rattle.reading.proofs.Counts.{within_limits, none_limits}
use Rattle.reading.proofs.Tokens.{nothing_read, stuck, steps, enters}
use Rattle.reading.proofs.Digits.{begun_at}
use Rattle.reading.proofs.Opening.{OneToken, Leads}
use Rattle.reading.proofs.Spelled.{by_first, word_leads, NumberLeads, number_leads}
use Rattle.reading.proofs.Ways.{then, then_refused}
use Rattle.reading.proofs.Leading.{opened_then}
use Rattle.reading.proofs.Classes.{Unfit, none_begins}

pub any : Condition → Stack
any k = done nothing_read

-- no option begins with another byte than o, and none at all where F is 0
no_option : (w : Log) (F : ℕ) (h : Condition → Stack) (b : ℕ) → (b ≡ 111 → F ≡ 0) → Unfit (option_leads w F h) b
no_option w zero h b n = tt
no_option w (suc k) h b n = (ne_eqb b 111 (λ e. omega (arith, n e)), tt)

an_option : (w : Log) (F : ℕ) (h : Condition → Stack) → (F ≡ 0 → ⊥) → begin w (want F conditions h) 111 ≡ some (first (led w record_of) false (F - 1) λ k. h (option k))
unfolding look leads
an_option w zero h n = absurd (n refl)
an_option w (suc k) h n = let e : k ≡ suc k - 1 = omega arith in ap (λ i. some (first (led w record_of) false i λ k. h (option k))) e

-- ---- behind the spaces

pub condition_on : (text : Bytes) (F : ℕ) (c₀ c : Cursor) → Meets text c₀ c → (r : Result (Lead ConditionKind) Refusal) → ConditionFrom text F c r → ConditionFrom text F c₀ r
condition_on text F c₀ c M (Ok l) h = record {
  way = λ f. then (M.a_part F conditions f) (h.way f);
  opened = opened_then M.opened h.opened;
  further = omega (arith, (M.a_part F conditions any).forth, h.further);
  is_leaf = h.is_leaf;
  kind_small = h.kind_small;
  small = h.small;
}
condition_on text F c₀ c M (Err e) h = λ f. then_refused e (M.a_part F conditions f) (h f)

module _ (text : Bytes) (F : ℕ) (c : Cursor) (M : Met text c) where
  abbrev byte : ℕ
  byte = get_or text c.at 0

  abbrev wanted : (Condition → Stack) → Stack
  wanted h = want F conditions h

  -- by a word or mark
  by_word : (x : Lexeme) (k : ConditionKind) (r : Result (Lead ConditionKind) Refusal)
      → ((h : Condition → Stack) → Leads text c (wanted h) (rest_of F (condition_kind_number k) 0 h) record_of (word_to text c (x.head ∷ x.rest) record_of)) → RecordLead text c (x.head ∷ x.rest) k r
      → ((condition_kind_number k ≡ 3 → ⊥) → (condition_kind_number k ≡ 4 → ⊥) → OneRecord (leaf (condition_kind_number k) 0) (condition_kind_number k) 0) → condition_kind_number k ≤ 4
      → ConditionFrom text F c r
  by_word x k (Ok l) L q o f =
      let N : (h : Condition → Stack) → OneToken text c (wanted h) (rest_of F (condition_kind_number k) 0 h) record_of l.cursor =
      λ h. subst (Leads text c (wanted h) (rest_of F (condition_kind_number k) 0 h) record_of) q.0 (L h) in
      record {
        way = λ h. subst (Way text c l.cursor (wanted h)) (ap₂ (λ k v. rest_of F (condition_kind_number k) v h) (sym q.1) (sym q.2)) (N h).way;
        opened = (N any).opened;
        further = (N any).further;
        is_leaf = told (sym q.1) (sym q.2);
        kind_small = subst (λ k. condition_kind_number k ≤ 4) (sym q.1) f;
        small = omega (arith, q.2);
      }
    where
      told : {k' : ConditionKind} {v : ℕ} → k ≡ k' → 0 ≡ v → (condition_kind_number k' ≡ 3 → ⊥) → (condition_kind_number k' ≡ 4 → ⊥)
          → OneRecord (leaf (condition_kind_number k') v) (condition_kind_number k') v
      told {k'} {v} i j m n =
          subst (λ v. OneRecord (leaf (condition_kind_number k') v) (condition_kind_number k') v) j
          (subst (λ k. (condition_kind_number k ≡ 3 → ⊥) → (condition_kind_number k ≡ 4 → ⊥) → OneRecord (leaf (condition_kind_number k) 0) (condition_kind_number k) 0) i o m n)
  by_word x k (Err e) L q o f = λ h. subst (Leads text c (wanted h) (rest_of F (condition_kind_number k) 0 h) record_of) q (L h)

  word_from : (x : Lexeme) (k : ConditionKind) (r : Result (Lead ConditionKind) Refusal) → RecordLead text c (x.head ∷ x.rest) k r → byte ≡ x.head
      → ((h : Condition → Stack) (w : Log) → begin w (wanted h) x.head ≡ some (lexed w record_of x (rest_of F (condition_kind_number k) 0 h)))
      → ((condition_kind_number k ≡ 3 → ⊥) → (condition_kind_number k ≡ 4 → ⊥) → OneRecord (leaf (condition_kind_number k) 0) (condition_kind_number k) 0) → condition_kind_number k ≤ 4
      → ConditionFrom text F c r
  word_from x k r q e hit o f =
      by_word x k r
      (λ h. word_leads text c M.good (wanted h) M.faces x record_of (rest_of F (condition_kind_number k) 0 h)
      (by_first text c M.good (wanted h) M.faces x record_of (rest_of F (condition_kind_number k) 0 h) (hit h)) (λ w n. absurd (true≢false (sym (eq-eqb byte x.head e) ∙ n))))
      q o f

  pub true_from : (r : Result (Lead ConditionKind) Refusal) → RecordLead text c (TRUE.head ∷ TRUE.rest) kind.True r → byte ≡ 116 → ConditionFrom text F c r
  unfolding look leads sizeᶜ wordsᶜ
  true_from r q e = word_from TRUE kind.True r q e (λ h w. refl) (λ m n. record { size_is = refl; words_are = λ n r. refl }) (omega arith)

  pub false_from : (r : Result (Lead ConditionKind) Refusal) → RecordLead text c (FALSE.head ∷ FALSE.rest) kind.False r → byte ≡ 102 → ConditionFrom text F c r
  unfolding look leads sizeᶜ wordsᶜ
  false_from r q e = word_from FALSE kind.False r q e (λ h w. refl) (λ m n. record { size_is = refl; words_are = λ n r. refl }) (omega arith)

  pub not_from : (r : Result (Lead ConditionKind) Refusal) → RecordLead text c (NOT.head ∷ NOT.rest) kind.Not r → byte ≡ 110 → ConditionFrom text F c r
  unfolding look leads
  not_from r q e = word_from NOT kind.Not r q e (λ h w. refl) (λ m n. absurd (m refl)) (omega arith)

  pub bracket_from : (r : Result (Lead ConditionKind) Refusal) → RecordLead text c (LEFT.head ∷ LEFT.rest) kind.And r → byte ≡ 40 → ConditionFrom text F c r
  unfolding look leads
  bracket_from r q e = word_from LEFT kind.And r q e (λ h w. refl) (λ m n. absurd (n refl)) (omega arith)

  -- no condition begins so
  pub none_from : (b : ℕ) → b ≡ byte → (b ≡ 116 → ⊥) → (b ≡ 102 → ⊥) → (b ≡ 110 → ⊥) → (b ≡ 40 → ⊥) → (b ≡ 111 → F ≡ 0) → ConditionFrom text F c (Err (TextWrong c.at))
  unfolding final so_far leads counted
  none_from b e n1 n2 n3 n4 n5 = λ h. record {
    forth = omega arith;
    inside = M.good.inside;
    says = λ w k.
        stuck text (plain w [] c.tight (wanted h)) c.at (record {
          inside = M.good.inside;
          no_step = λ i. enters text w c.tight (wanted h) byte M.faces.no_space M.faces.apart
              ∙ subst (λ b. begin w (wanted h) b ≡ none) e (none_begins w F conditions h b (λ d. refl)
              (ne_eqb b 116 n1, (ne_eqb b 102 n2, (ne_eqb b 110 n3, (ne_eqb b 40 n4, no_option w F h b n5)))));
          no_end = λ i. absurd (omega (arith, i, M.faces.before_end));
          no_limit = none_limits text (c.at + 0) (refused_17 c.at) (first_too_many (reverse w.spots))
              (within_limits w.spots (omega (arith, k.nodes_are, M.good.few_nodes)) (omega (arith, k.records_are, M.good.few_records)));
        });
  }

  -- ---- an option, below F

  behind_o : (hi : ℕ) (A : Stack) (f : ℕ → Stack) → byte ≡ 111 → ((w : Log) → begin w A 111 ≡ some (first (led w record_of) false hi f)) → (w : Log) → Logged c w
      → from text (drop c.at text) (plain w [] c.tight A) c.at ≡ from text (drop (suc c.at) text) (first (begun_at w record_of (suc c.at)) false hi f) (suc c.at)
  behind_o hi A f e hit w k =
      let q : w.at + 1 ≡ suc c.at = omega (arith, k.at_is) in
      steps text (plain w [] c.tight A) (first (led w record_of) false hi f) c.at M.faces.before_end
      (enters text w c.tight A byte M.faces.no_space M.faces.apart ∙ ap (begin w A) e ∙ hit w)
      ∙ ap (λ i. from text (drop (suc c.at) text) (first (begun_at w record_of i) false hi f) (suc c.at)) q

  an_o : byte ≡ 111 → (F ≡ 0 → ⊥) → (h : Condition → Stack) → NumberLeads text c (wanted h) (λ v. h (option v)) record_of (number_to text c (suc c.at) false (F - 1) record_of)
  an_o e n h =
      number_leads text c M.good (wanted h) (suc c.at) false (F - 1) record_of (λ v. h (option v)) (omega arith) (omega (arith, M.faces.before_end))
      (behind_o (F - 1) (wanted h) (λ v. h (option v)) e (λ w. an_option w F h n))

  pub option_from : (r : Result (Lead ConditionKind) Refusal) → OptionLead text F c r → byte ≡ 111 → F ≤ 6 → ConditionFrom text F c r
  unfolding sizeᶜ wordsᶜ
  option_from (Ok l) q e f =
      let N : (h : Condition → Stack) → OneToken text c (wanted h) (h (option l.value)) record_of l.cursor =
      λ h. subst (NumberLeads text c (wanted h) (λ v. h (option v)) record_of) q.number_is (an_o e q.some h) in
      record {
        way = λ h. subst (Way text c l.cursor (wanted h)) (ap (λ k. rest_of F k l.value h) (sym q.kind_is)) (N h).way;
        opened = (N any).opened;
        further = (N any).further;
        is_leaf = λ m n. subst (λ k. OneRecord (leaf k l.value) k l.value) (sym q.kind_is) (record { size_is = refl; words_are = λ n r. refl });
        kind_small = omega (arith, q.kind_is);
        small = omega (arith, q.small, f);
      }
  option_from (Err d) q e f = by q
    where
      not_it : (b : ℕ) → eqb 111 b ≡ false → byte ≡ b → ⊥
      not_it b n i = eqb-false 111 b n (sym e ∙ i)

      by : OptionLead text F c (Err d) → ConditionFrom text F c (Err d)
      by (inl z) = subst (λ d. ConditionFrom text F c (Err d)) (sym z.1) (none_from byte refl (not_it 116 refl) (not_it 102 refl) (not_it 110 refl) (not_it 40 refl) (λ i. z.0))
      by (inr z) = λ h. subst (NumberLeads text c (wanted h) (λ v. h (option v)) record_of) z.1 (an_o e z.0 h)
