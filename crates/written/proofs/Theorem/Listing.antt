-- What the lister prints is a written form of the tree, so that reading it gives back F and the tree. Each part of a listing stands behind a mark or a
-- space, and what follows it begins with one, so that it fits behind a word and behind a mark alike.
use Rattle.std.specs.Prelude.{◌≡◌, refl, ℕ, zero, suc, ◌+◌, ◌*◌, ◌≤◌, Bool, true, false, not, cond, ◌&&◌, List, [], ◌∷◌, ◌++◌, T, ltb, length}
use Rattle.std.proofs.Common.{sym, subst, append_assoc}
use Rattle.imp.specs.Condition.{Condition, falseᶜ, trueᶜ, option, notᶜ, andᶜ, orᶜ}
use Rattle.imp.specs.Routine.{Arithmetic, number, variable, sum, pick, choiceᵃ, Boolean, falseᵇ, trueᵇ, notᵇ, andᵇ, less, choiceᵇ, Statement, skip, assign, sequence, if, while, throw, try, choice}
use Rattle.imp.specs.Valid.{Validᵃ, Validᵇ, Valid}
use Rattle.image.specs.Bytes.{Bytes}
use Rattle.text.specs.Decimal.{decimal, signed_decimal}
use Rattle.written.specs.Byte.{is_space, is_wordy}
use Rattle.written.specs.Token.{Token, Lexeme, Opens, nothing, node, record_of, fixed, count, tight, Spells, Spot, Spaced, end, space, next}
use Rattle.written.specs.Token as Of
use Rattle.written.specs.Word.{OPTIONS, SKIP, IF, THEN, ELSE, WHILE, DO, THROW, TRY, CATCH, WITH, TRUE, FALSE, NOT, BOTH, PICK, AND, OR, GETS, LEFT, RIGHT, PLUS, BELOW, BRACE, SEMI, UNBRACE, ASK, COLON, BRACKET, UNBRACKET}
use Rattle.written.specs.Grammar.{of_condition, of_arithmetic, of_boolean, of_statement, of_routine, Placed, Reads}
use Rattle.written.specs.Under.{Underᶜ, Underᵃ, Underᵇ, Under}
use Rattle.written.specs.Lister.{listedᶜ, listedᵃ, listedᵇ, DEEPEST, spaces, line, gap, short, listedˢ, listed}
use Rattle.written.proofs.Theorem.Spelled.{variable_spelled, option_spelled, count_spelled, number_spelled}

-- ---- texts of tokens

-- some spacing of the tokens, wherever they stand
abbrev Some : ℕ → Bool → List Token → Bytes → Type 0
Some at g ts l = (ms : List Spot) × Spaced at g ts l ms

-- behind a mark or a space
record Sits (ts : List Token) (l : Bytes) : Type 0 where
  here : (at : ℕ) → Some at false ts l

-- behind a word or number too
record Goes (ts : List Token) (l : Bytes) : Type 0 where
  on : (at : ℕ) (g : Bool) → Some at g ts l

still : {ts : List Token} {l : Bytes} → Goes ts l → Sits ts l
still d = record { here = λ at. d.on at false }

ended : Goes [] []
ended = record { on = λ at g. ([], end) }

spaced : {ts : List Token} {l : Bytes} (c : ℕ) → T (is_space c) → Sits ts l → Goes ts (c ∷ l)
spaced c h d = record { on = λ at g. (_, space h (d.here (suc at)).1) }

token : {ts : List Token} {l : Bytes} (t : Token) (s : Bytes) → Spells t s → Goes ts l → Sits (t ∷ ts) (s ++ l)
token {ts} {l} t s p d = record { here = λ at. (_, next s l tt p refl (d.on (at + length s) (tight t)).1) }

word : {ts : List Token} {l : Bytes} (o : Opens) (x : Lexeme) → Goes ts l → Sits (fixed o x ∷ ts) ((x.head ∷ x.rest) ++ l)
unfolding Spells
word o x d = token (fixed o x) (x.head ∷ x.rest) refl d

apart : (g v : Bool) → v ≡ false → T (not (g && v))
apart true v e = rw e tt
apart false v e = tt

mark : {ts : List Token} {l : Bytes} (o : Opens) (x : Lexeme) → is_wordy x.head ≡ false → Sits ts l → Goes (fixed o x ∷ ts) ((x.head ∷ x.rest) ++ l)
unfolding Spells tight
mark {ts} {l} o x e d =
    let s : Bytes = x.head ∷ x.rest in
    record { on = λ at g. let m = d.here (at + length s) in (_, next s l (apart g (is_wordy x.head) e) refl refl (subst (λ u. Spaced (at + length s) u ts l m.0) (sym e) m.1)) }

-- a text of two parts, and then
joined : {ts : List Token} (u v l : Bytes) → Sits ts (u ++ (v ++ l)) → Sits ts ((u ++ v) ++ l)
joined {ts} u v l d = subst (Sits ts) (sym (append_assoc u v l)) d

joins : {ts : List Token} (u v l : Bytes) → Goes ts (u ++ (v ++ l)) → Goes ts ((u ++ v) ++ l)
joins {ts} u v l d = subst (Goes ts) (sym (append_assoc u v l)) d

-- ---- gaps

indented : {ts : List Token} {l : Bytes} (n : ℕ) → Sits ts l → Sits ts (spaces n ++ l)
unfolding spaces
indented zero d = d
indented (suc n) d = still (spaced 32 tt (indented n d))

on_line : {ts : List Token} {l : Bytes} (level : ℕ) → Sits ts l → Goes ts (line level ++ l)
unfolding line
on_line level d = spaced 10 tt (indented (2 * cond (ltb level DEEPEST) level DEEPEST) d)

parted : {ts : List Token} {l : Bytes} (flat : Bool) (level : ℕ) → Sits ts l → Goes ts (gap flat level ++ l)
unfolding gap
parted true level d = spaced 32 tt d
parted false level d = on_line level d

-- ---- conditions and expressions

asked : {ts : List Token} {l : Bytes} → Sits ts l → Goes (fixed nothing ASK ∷ ts) (32 ∷ 63 ∷ 32 ∷ l)
asked d = spaced 32 tt (still (mark nothing ASK refl (still (spaced 32 tt d))))

told : {ts : List Token} {l : Bytes} → Sits ts l → Goes (fixed nothing COLON ∷ ts) (32 ∷ 58 ∷ 32 ∷ l)
told d = spaced 32 tt (still (mark nothing COLON refl (still (spaced 32 tt d))))

sitsᶜ : (F : ℕ) → F ≤ 6 → (c : Condition) → Underᶜ F c → {ts : List Token} (l : Bytes) → Goes ts l → Sits (of_condition F c ts) (listedᶜ c ++ l)
unfolding of_condition Underᶜ listedᶜ
sitsᶜ F h trueᶜ u l d = word record_of TRUE d
sitsᶜ F h falseᶜ u l d = word record_of FALSE d
sitsᶜ F h (option k) u l d = token (Of.option F k) (111 ∷ decimal k) (option_spelled F k h u) d
sitsᶜ F h (notᶜ c) u l d = word record_of NOT (spaced 32 tt (sitsᶜ F h c u l d))
sitsᶜ F h (andᶜ c e) u l d =
    still (mark record_of LEFT refl (joined (listedᶜ c) _ l (sitsᶜ F h c u.0 _
    (spaced 32 tt (word nothing AND (spaced 32 tt (joined (listedᶜ e) _ l (sitsᶜ F h e u.1 _ (mark nothing RIGHT refl (still d))))))))))
sitsᶜ F h (orᶜ c e) u l d =
    still (mark record_of LEFT refl (joined (listedᶜ c) _ l (sitsᶜ F h c u.0 _
    (spaced 32 tt (word nothing OR (spaced 32 tt (joined (listedᶜ e) _ l (sitsᶜ F h e u.1 _ (mark nothing RIGHT refl (still d))))))))))

mutual
  unfolding of_arithmetic Validᵃ Underᵃ listedᵃ

  sitsᵃ : (F : ℕ) → F ≤ 6 → (a : Arithmetic Condition) → Validᵃ a → Underᵃ F a → {ts : List Token} (l : Bytes) → Goes ts l → Sits (of_arithmetic F a ts) (listedᵃ a ++ l)
  sitsᵃ F h (number z) v u l d = token (Of.number z) (signed_decimal z) (number_spelled z v) d
  sitsᵃ F h (variable n) v u l d = token (Of.variable node n) (118 ∷ decimal n) (variable_spelled node n v) d
  sitsᵃ F h (sum a b) v u l d =
      still (mark node LEFT refl (joined (listedᵃ a) _ l (sitsᵃ F h a v.0 u.0 _
      (spaced 32 tt (still (mark nothing PLUS refl (still (spaced 32 tt (joined (listedᵃ b) _ l (sitsᵃ F h b v.1 u.1 _ (mark nothing RIGHT refl (still d))))))))))))
  sitsᵃ F h (pick e a b) v u l d =
      word node PICK (spaced 32 tt (still (mark nothing LEFT refl (joined (listedᵇ e) _ l (sitsᵇ F h e v.0 u.0 _
      (asked (joined (listedᵃ a) _ l (sitsᵃ F h a v.1 u.1 _ (told (joined (listedᵃ b) _ l (sitsᵃ F h b v.2 u.2 _ (mark nothing RIGHT refl (still d)))))))))))))
  sitsᵃ F h (choiceᵃ c a b) v u l d =
      still (mark node BRACKET refl (joined (listedᶜ c) _ l (sitsᶜ F h c u.0 _
      (asked (joined (listedᵃ a) _ l (sitsᵃ F h a v.0 u.1 _ (told (joined (listedᵃ b) _ l (sitsᵃ F h b v.1 u.2 _ (mark nothing UNBRACKET refl (still d)))))))))))

  sitsᵇ : (F : ℕ) → F ≤ 6 → (e : Boolean Condition) → Validᵇ e → Underᵇ F e → {ts : List Token} (l : Bytes) → Goes ts l → Sits (of_boolean F e ts) (listedᵇ e ++ l)
  sitsᵇ F h trueᵇ v u l d = word node TRUE d
  sitsᵇ F h falseᵇ v u l d = word node FALSE d
  sitsᵇ F h (notᵇ e) v u l d = word node NOT (spaced 32 tt (sitsᵇ F h e v u l d))
  sitsᵇ F h (andᵇ e f) v u l d =
      word node BOTH (spaced 32 tt (still (mark nothing LEFT refl (joined (listedᵇ e) _ l (sitsᵇ F h e v.0 u.0 _
      (spaced 32 tt (word nothing AND (spaced 32 tt (joined (listedᵇ f) _ l (sitsᵇ F h f v.1 u.1 _ (mark nothing RIGHT refl (still d))))))))))))
  sitsᵇ F h (less a b) v u l d =
      still (mark node LEFT refl (joined (listedᵃ a) _ l (sitsᵃ F h a v.0 u.0 _
      (spaced 32 tt (still (mark nothing BELOW refl (still (spaced 32 tt (joined (listedᵃ b) _ l (sitsᵃ F h b v.1 u.1 _ (mark nothing RIGHT refl (still d))))))))))))
  sitsᵇ F h (choiceᵇ c e f) v u l d =
      still (mark node BRACKET refl (joined (listedᶜ c) _ l (sitsᶜ F h c u.0 _
      (asked (joined (listedᵇ e) _ l (sitsᵇ F h e v.0 u.1 _ (told (joined (listedᵇ f) _ l (sitsᵇ F h f v.1 u.2 _ (mark nothing UNBRACKET refl (still d)))))))))))

-- ---- statements

sits : (F : ℕ) → F ≤ 6 → (level : ℕ) (t : Statement Condition) → Valid t → Under F t → {ts : List Token} (l : Bytes) → Goes ts l
    → Sits (of_statement F t ts) (listedˢ level t ++ l)
unfolding of_statement Valid Under listedˢ
sits F h n skip v u l d = word node SKIP d
sits F h n (assign k a) v u l d =
    joined (118 ∷ decimal k) _ l (token (Of.variable node k) (118 ∷ decimal k) (variable_spelled node k v.0)
    (spaced 32 tt (still (mark nothing GETS refl (still (spaced 32 tt (sitsᵃ F h a v.1 u l d)))))))
sits F h n (sequence x y) v u l d =
    still (mark node BRACE refl (joined (listedˢ n x) _ l (sits F h n x v.0 u.0 _
    (spaced 32 tt (still (mark nothing SEMI refl (still (joins (line n) _ l (on_line n (joined (listedˢ n y) _ l (sits F h n y v.1 u.1 _
    (mark nothing UNBRACE refl (still d)))))))))))))
sits F h n (if e x y) v u l d =
    let flat : Bool = short x && short y in
    word node IF (spaced 32 tt (joined (listedᵇ e) _ l (sitsᵇ F h e v.0 u.0 _
    (spaced 32 tt (word nothing THEN (joins (gap flat (suc n)) _ l (parted flat (suc n) (joined (listedˢ (suc n) x) _ l (sits F h (suc n) x v.1 u.1 _
    (joins (gap flat n) _ l (parted flat n (word nothing ELSE
    (joins (gap flat (suc n)) _ l (parted flat (suc n) (sits F h (suc n) y v.2 u.2 l d)))))))))))))))
sits F h n (while e x) v u l d =
    word node WHILE (spaced 32 tt (joined (listedᵇ e) _ l (sitsᵇ F h e v.0 u.0 _
    (spaced 32 tt (word nothing DO (joins (gap (short x) (suc n)) _ l (parted (short x) (suc n) (sits F h (suc n) x v.1 u.1 l d))))))))
sits F h n (throw a) v u l d = word node THROW (spaced 32 tt (sitsᵃ F h a v u l d))
sits F h n (try x k y) v u l d =
    let flat : Bool = short x && short y in
    word node TRY (joins (gap flat (suc n)) _ l (parted flat (suc n) (joined (listedˢ (suc n) x) _ l (sits F h (suc n) x v.0 u.0 _
    (joins (gap flat n) _ l (parted flat n (word nothing CATCH (spaced 32 tt
    (joined (118 ∷ decimal k) _ l (token (Of.variable nothing k) (118 ∷ decimal k) (variable_spelled nothing k v.1) (spaced 32 tt (word nothing WITH
    (joins (gap flat (suc n)) _ l (parted flat (suc n) (sits F h (suc n) y v.2 u.1 l d)))))))))))))))
sits F h n (choice c x y) v u l d =
    let flat : Bool = short x && short y in
    still (mark node BRACKET refl (joined (listedᶜ c) _ l (sitsᶜ F h c u.0 _
    (spaced 32 tt (still (mark nothing ASK refl (still (joins (gap flat (suc n)) _ l (parted flat (suc n) (joined (listedˢ (suc n) x) _ l (sits F h (suc n) x v.0 u.1 _
    (joins (gap flat n) _ l (parted flat n (still (mark nothing COLON refl (still
    (joins (gap flat (suc n)) _ l (parted flat (suc n) (joined (listedˢ (suc n) y) _ l (sits F h (suc n) y v.1 u.2 _ (mark nothing UNBRACKET refl (still d))))))))))))))))))))))

-- ---- routines

-- (d) what is listed is a written form of F and the tree
pub listed_is : (F : ℕ) (t : Statement Condition) → F ≤ 6 → Valid t → Under F t → Reads (listed F t) F t
unfolding listed Reads Placed of_routine
listed_is F t h v u =
    (word nothing OPTIONS (spaced 32 tt (token (count F) (decimal F) (count_spelled F h)
    (spaced 10 tt (sits F h 0 t v u (10 ∷ []) (spaced 10 tt (still ended))))))).here 0
