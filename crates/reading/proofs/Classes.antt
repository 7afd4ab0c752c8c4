-- How each class begins: a first byte, and the kind that it tells.
use mathlib.Core.Path.{◌≡◌, refl, sym, ◌∙◌, ap, subst}
use Prim.Native.Nat.{ℕ, suc}
use mathlib.Core.Bool.{Bool, true, false, true≢false}
use mathlib.Core.List.{[], ◌∷◌}
use mathlib.Core.Option.{none}
use lib.Dec.{eqb}
use lib.ListN.{get_or}
use borrow.Author.Tests.{ne_eqb, eqb-true, eqb-false}
use Rattle.std.specs.Prelude.{Result, Err}
use Rattle.image.specs.declared.refusals.Refusal.{Refusal}
use Rattle.image.specs.declared.refusals.Refusal.TheVariants.{TextWrong}
use Rattle.image.specs.Bytes.{Bytes}
use Rattle.image.specs.declared.kinds.Kind.{Kind}
use Rattle.image.specs.Layout.{kinds, layout}
use Rattle.image.specs.Tree.{kind_of}
use Rattle.written.specs.Byte.{is_digit}
use Rattle.written.specs.Word.{SKIP, BRACE, IF, WHILE, THROW, TRY, BRACKET, LEFT, PICK, TRUE, FALSE, NOT, BOTH}
use Rattle.written.specs.Machine.{arithmetics, booleans, statements, Value, Class, Stack, want, Log, Leads, found, look, leads, counted, digit_step, begin_class, begin, step}
use Rattle.reading.specs.declared.cursor.Cursor.{Cursor}
use Rattle.reading.specs.declared.lead.Lead.{Lead}
use Rattle.reading.specs.Inner.Between.{Met}
use Rattle.reading.specs.Inner.Parts.{an_arithmetic, a_boolean, a_statement, slot_of, mark_table, marks_of, made_of, follow}
use Rattle.reading.specs.Inner.Lead.{WordLead, VariableLead, NumberLead, ForkLead, LeadFrom}
use Rattle.reading.proofs.Leading.{word_from, entered_from, variable_from, minus_from, digit_from, nothing_from}
use Rattle.reading.proofs.Forking.{throw_entered, try_entered}

opened : Unit {0}
unfolding follow layout kinds marks_of mark_table kind_of made_of slot_of look leads counted
opened = tt

-- ---- a byte that nothing begins with

abbrev pub Unfit : Leads → ℕ → Type 0
Unfit [] b = Unit {0}
Unfit (x ∷ xs) b = (eqb b x.0 ≡ false) × Unfit xs b

look_none : (xs : Leads) (b : ℕ) → Unfit xs b → look xs b ≡ none
unfolding look
look_none [] b h = refl
look_none (x ∷ xs) b h = ap (λ u. found u x.1 (look xs b)) h.0 ∙ look_none xs b h.1

pub none_begins : (w : Log) (F : ℕ) (k : Class) (f : Value k → Stack) (b : ℕ) → (is_digit b ≡ true → digit_step (counted w k f) b ≡ none) → Unfit (leads w F k f) b → begin w (want F k f) b ≡ none
none_begins w F k f b d h = by (is_digit b) refl
  where
    by : (u : Bool) → is_digit b ≡ u → begin_class w u F k f b ≡ none
    by true e = d e
    by false e = look_none (leads w F k f) b h

-- ---- statements

module _ (text : Bytes) (c : Cursor) (M : Met text c) where
  pub skip_from : (r : Result (Lead Kind) Refusal) → WordLead text c (SKIP.head ∷ SKIP.rest) 16 r → get_or text c.at 0 ≡ 115 → LeadFrom text 3 c r
  unfolding opened
  skip_from r h e = word_from text 3 c M SKIP 16 r h e refl (λ F g w. refl)

  pub sequence_from : (r : Result (Lead Kind) Refusal) → WordLead text c (BRACE.head ∷ BRACE.rest) 18 r → get_or text c.at 0 ≡ 123 → LeadFrom text 3 c r
  unfolding opened
  sequence_from r h e = word_from text 3 c M BRACE 18 r h e refl (λ F g w. refl)

  pub if_from : (r : Result (Lead Kind) Refusal) → WordLead text c (IF.head ∷ IF.rest) 19 r → get_or text c.at 0 ≡ 105 → LeadFrom text 3 c r
  unfolding opened
  if_from r h e = word_from text 3 c M IF 19 r h e refl (λ F g w. refl)

  pub while_from : (r : Result (Lead Kind) Refusal) → WordLead text c (WHILE.head ∷ WHILE.rest) 20 r → get_or text c.at 0 ≡ 119 → LeadFrom text 3 c r
  unfolding opened
  while_from r h e = word_from text 3 c M WHILE 20 r h e refl (λ F g w. refl)

  pub choice_from : (r : Result (Lead Kind) Refusal) → WordLead text c (BRACKET.head ∷ BRACKET.rest) 23 r → get_or text c.at 0 ≡ 91 → LeadFrom text 3 c r
  unfolding opened
  choice_from r h e = word_from text 3 c M BRACKET 23 r h e refl (λ F g w. refl)

  pub assign_from : (r : Result (Lead Kind) Refusal) → VariableLead text c 17 r → get_or text c.at 0 ≡ 118 → LeadFrom text 3 c r
  unfolding opened
  assign_from r h e = variable_from text 3 c M 17 r h e refl (λ F g w. refl)

  pub throw_from : (b : ℕ) (r : Result (Lead Kind) Refusal) → WordLead text c (THROW.head ∷ THROW.rest) 21 r → get_or text c.at 0 ≡ 116 → b ≡ get_or text (suc c.at) 0 → b ≡ 104 → LeadFrom text 3 c r
  unfolding opened
  throw_from b r h e k i =
      entered_from text 3 c M THROW 21 r h e refl (λ F f. throw_entered text c M.good M.faces F (λ x. f (a_statement x)) e (sym k ∙ i))

  pub try_from : (b : ℕ) (r : Result (Lead Kind) Refusal) → WordLead text c (TRY.head ∷ TRY.rest) 22 r → get_or text c.at 0 ≡ 116 → b ≡ get_or text (suc c.at) 0 → (b ≡ 104 → ⊥) → LeadFrom text 3 c r
  unfolding opened
  try_from b r h e k i =
      entered_from text 3 c M TRY 22 r h e refl (λ F f. try_entered text c M.good M.faces F (λ x. f (a_statement x)) e (λ j. i (k ∙ j)))

  pub fork_from : (r : Result (Lead Kind) Refusal) → ForkLead text c r → get_or text c.at 0 ≡ 116 → LeadFrom text 3 c r
  fork_from r h e = by (eqb h.second 104) refl
    where
      by : (u : Bool) → eqb h.second 104 ≡ u → LeadFrom text 3 c r
      by true k = let i = eqb-true h.second 104 k in throw_from h.second r (h.throws i) e h.second_is i
      by false k = let n = eqb-false h.second 104 k in try_from h.second r (h.tries n) e h.second_is n

  pub no_statement : (b : ℕ) → b ≡ get_or text c.at 0 → (b ≡ 115 → ⊥) → (b ≡ 118 → ⊥) → (b ≡ 123 → ⊥) → (b ≡ 105 → ⊥) → (b ≡ 119 → ⊥) → (b ≡ 116 → ⊥) → (b ≡ 91 → ⊥)
      → LeadFrom text 3 c (Err (TextWrong c.at))
  unfolding opened
  no_statement b e n1 n2 n3 n4 n5 n6 n7 =
      nothing_from text 3 c M (λ F h w. subst (λ b. begin w (want F statements λ x. h (a_statement x)) b ≡ none) e
      (none_begins w F statements (λ x. h (a_statement x)) b (λ d. refl)
      (ne_eqb b 115 n1, (ne_eqb b 118 n2, (ne_eqb b 123 n3, (ne_eqb b 105 n4, (ne_eqb b 119 n5, (ne_eqb b 116 n6, (ne_eqb b 91 n7, tt)))))))))

-- ---- booleans

module _ (text : Bytes) (c : Cursor) (M : Met text c) where
  pub true_from : (r : Result (Lead Kind) Refusal) → WordLead text c (TRUE.head ∷ TRUE.rest) 9 r → get_or text c.at 0 ≡ 116 → LeadFrom text 2 c r
  unfolding opened
  true_from r h e = word_from text 2 c M TRUE 9 r h e refl (λ F g w. refl)

  pub false_from : (r : Result (Lead Kind) Refusal) → WordLead text c (FALSE.head ∷ FALSE.rest) 8 r → get_or text c.at 0 ≡ 102 → LeadFrom text 2 c r
  unfolding opened
  false_from r h e = word_from text 2 c M FALSE 8 r h e refl (λ F g w. refl)

  pub not_from : (r : Result (Lead Kind) Refusal) → WordLead text c (NOT.head ∷ NOT.rest) 10 r → get_or text c.at 0 ≡ 110 → LeadFrom text 2 c r
  unfolding opened
  not_from r h e = word_from text 2 c M NOT 10 r h e refl (λ F g w. refl)

  pub both_from : (r : Result (Lead Kind) Refusal) → WordLead text c (BOTH.head ∷ BOTH.rest) 11 r → get_or text c.at 0 ≡ 98 → LeadFrom text 2 c r
  unfolding opened
  both_from r h e = word_from text 2 c M BOTH 11 r h e refl (λ F g w. refl)

  pub less_from : (r : Result (Lead Kind) Refusal) → WordLead text c (LEFT.head ∷ LEFT.rest) 12 r → get_or text c.at 0 ≡ 40 → LeadFrom text 2 c r
  unfolding opened
  less_from r h e = word_from text 2 c M LEFT 12 r h e refl (λ F g w. refl)

  pub test_choice_from : (r : Result (Lead Kind) Refusal) → WordLead text c (BRACKET.head ∷ BRACKET.rest) 13 r → get_or text c.at 0 ≡ 91 → LeadFrom text 2 c r
  unfolding opened
  test_choice_from r h e = word_from text 2 c M BRACKET 13 r h e refl (λ F g w. refl)

  pub no_boolean : (b : ℕ) → b ≡ get_or text c.at 0 → (b ≡ 116 → ⊥) → (b ≡ 102 → ⊥) → (b ≡ 110 → ⊥) → (b ≡ 98 → ⊥) → (b ≡ 40 → ⊥) → (b ≡ 91 → ⊥)
      → LeadFrom text 2 c (Err (TextWrong c.at))
  unfolding opened
  no_boolean b e n1 n2 n3 n4 n5 n6 =
      nothing_from text 2 c M (λ F h w. subst (λ b. begin w (want F booleans λ x. h (a_boolean x)) b ≡ none) e
      (none_begins w F booleans (λ x. h (a_boolean x)) b (λ d. refl)
      (ne_eqb b 116 n1, (ne_eqb b 102 n2, (ne_eqb b 110 n3, (ne_eqb b 98 n4, (ne_eqb b 40 n5, (ne_eqb b 91 n6, tt))))))))

-- ---- arithmetics

module _ (text : Bytes) (c : Cursor) (M : Met text c) where
  pub sum_from : (r : Result (Lead Kind) Refusal) → WordLead text c (LEFT.head ∷ LEFT.rest) 2 r → get_or text c.at 0 ≡ 40 → LeadFrom text 1 c r
  unfolding opened
  sum_from r h e = word_from text 1 c M LEFT 2 r h e refl (λ F g w. refl)

  pub pick_from : (r : Result (Lead Kind) Refusal) → WordLead text c (PICK.head ∷ PICK.rest) 3 r → get_or text c.at 0 ≡ 112 → LeadFrom text 1 c r
  unfolding opened
  pick_from r h e = word_from text 1 c M PICK 3 r h e refl (λ F g w. refl)

  pub value_choice_from : (r : Result (Lead Kind) Refusal) → WordLead text c (BRACKET.head ∷ BRACKET.rest) 4 r → get_or text c.at 0 ≡ 91 → LeadFrom text 1 c r
  unfolding opened
  value_choice_from r h e = word_from text 1 c M BRACKET 4 r h e refl (λ F g w. refl)

  pub named_from : (r : Result (Lead Kind) Refusal) → VariableLead text c 1 r → get_or text c.at 0 ≡ 118 → LeadFrom text 1 c r
  unfolding opened
  named_from r h e = variable_from text 1 c M 1 r h e refl (λ F g w. refl)

  pub negative_from : (r : Result (Lead Kind) Refusal) → NumberLead text c (suc c.at) true r → get_or text c.at 0 ≡ 45 → LeadFrom text 1 c r
  unfolding opened
  negative_from r h e = minus_from text 1 c M r h e refl (λ F g w. refl)

  pub counted_from : (b : ℕ) (u : Bool) (r : Result (Lead Kind) Refusal) → NumberLead text c c.at false r → b ≡ get_or text c.at 0 → u ≡ is_digit b → u ≡ true → LeadFrom text 1 c r
  unfolding opened step
  counted_from b u r h e k t =
      digit_from text 1 c M r h refl
      (λ F g w. ap (λ v. begin_class w v F arithmetics (λ x. g (an_arithmetic x)) (get_or text c.at 0)) (ap is_digit (sym e) ∙ sym k ∙ t))

  pub no_arithmetic : (b : ℕ) (u : Bool) → b ≡ get_or text c.at 0 → u ≡ is_digit b → u ≡ false → (b ≡ 45 → ⊥) → (b ≡ 118 → ⊥) → (b ≡ 40 → ⊥) → (b ≡ 112 → ⊥) → (b ≡ 91 → ⊥)
      → LeadFrom text 1 c (Err (TextWrong c.at))
  unfolding opened
  no_arithmetic b u e k t n1 n2 n3 n4 n5 =
      nothing_from text 1 c M (λ F h w. subst (λ b. begin w (want F arithmetics λ x. h (an_arithmetic x)) b ≡ none) e
      (none_begins w F arithmetics (λ x. h (an_arithmetic x)) b (λ d. absurd (true≢false (sym d ∙ sym k ∙ t)))
      (ne_eqb b 45 n1, (ne_eqb b 118 n2, (ne_eqb b 40 n3, (ne_eqb b 112 n4, (ne_eqb b 91 n5, tt)))))))
