-- The reader's answer by the grammar alone is one answer, there always is one, and it is that of the machine.
use Rattle.std.specs.Prelude.{◌≡◌, refl, ℕ, ◌≤◌, ◌<◌, length}
use Rattle.std.proofs.Common.{◌∙◌, ap, arith}
use Rattle.std.proofs.Math.Decide.{dec_lt}
use Rattle.imp.specs.Condition.{Condition}
use Rattle.imp.specs.Routine.{Statement}
use Rattle.image.specs.Bytes.{Bytes}
use Rattle.image.specs.Rows.{Answer, refused, answer}
use Rattle.written.specs.Grammar.{Reads}
use Rattle.written.specs.Machine.{Result}
use Rattle.written.specs.Limits.{Refused18}
use Rattle.written.specs.Answer.{gives, refused_17, refused_18}
use Rattle.written.specs.Answer as Machine
use Rattle.written.specs.Image.{written_image}
use Rattle.written.specs.Told.{Holds, Told, text_wrong, too_many, no_space, read_as}
use Rattle.written.proofs.Theorem.Reader.{unique}
use Rattle.written.proofs.Theorem.Places.{one_place}
use Rattle.written.proofs.Theorem.Answers.{one_18, refuses_18, refuses_17, gives_reading}
use Rattle.written.proofs.Theorem.Earlier.{earlier}
use Rattle.written.proofs.Theorem.Sizes.{gives_within}

-- ---- one answer

-- "Every reading is unique"
pub reads_one : (text : Bytes) (F F' : ℕ) (t t' : Statement Condition) → Reads text F t → Reads text F' t' → (F ≡ F') × (t ≡ t')
unfolding Reads
reads_one text F F' t t' h h' =
    let k = unique text F F' t t' h.0 h'.0 h.1 h'.1 in
    (k.0, k.1)

one_image : (text : Bytes) (F F' : ℕ) (t t' : Statement Condition) → Holds text F t → Holds text F' t' → written_image F t ≡ written_image F' t'
one_image text F F' t t' h h' =
    let k = reads_one text F F' t t' h.reads h'.reads in
    ap (λ F. written_image F t) k.0 ∙ ap (written_image F') k.1

-- what keeps the limits has no token over one
holds_within : (text : Bytes) (F : ℕ) (t : Statement Condition) (p : ℕ) → Holds text F t → Refused18 text p → ⊥
unfolding Reads
holds_within text F t p h r =
    let ms = h.reads.0 in
    let e = (gives_within text F t ms).0 (h.reads.1, h.few_nodes, h.few_records) in
    ((gives_reading text F t ms).1 e).1 p r

-- an image cannot be too long for the space and fit into it
no_room : (text : Bytes) (space F F' : ℕ) (t t' : Statement Condition) → Holds text F t → Holds text F' t' → space < length (written_image F t)
    → length (written_image F' t') ≤ space → ⊥
no_room text space F F' t t' h h' a b = absurd (omega (arith, ap length (one_image text F F' t t' h h')))

pub told_one : {text : Bytes} {space : ℕ} {a b : Answer Bytes} → Told text space a → Told text space b → a ≡ b
told_one {text} (text_wrong p w f) (text_wrong q w' g) = ap (refused 17) (one_place text p q w w')
told_one (text_wrong p w f) (too_many q r g) = absurd (omega (arith, f q r, g p w))
told_one (text_wrong p w f) (no_space F t h a) = absurd (w.not_of_it F t h.reads)
told_one (text_wrong p w f) (read_as F t h a) = absurd (w.not_of_it F t h.reads)
told_one (too_many p r f) (text_wrong q w g) = absurd (omega (arith, f q w, g p r))
told_one {text} (too_many p r f) (too_many q r' g) = ap (refused 18) (one_18 text p q r r')
told_one {text} (too_many p r f) (no_space F t h a) = absurd (holds_within text F t p h r)
told_one {text} (too_many p r f) (read_as F t h a) = absurd (holds_within text F t p h r)
told_one (no_space F t h a) (text_wrong p w f) = absurd (w.not_of_it F t h.reads)
told_one {text} (no_space F t h a) (too_many p r f) = absurd (holds_within text F t p h r)
told_one (no_space F t h a) (no_space F' t' h' a') = refl
told_one {text} {space} (no_space F t h a) (read_as F' t' h' a') = absurd (no_room text space F F' t t' h h' a a')
told_one (read_as F t h a) (text_wrong p w f) = absurd (w.not_of_it F t h.reads)
told_one {text} (read_as F t h a) (too_many p r f) = absurd (holds_within text F t p h r)
told_one {text} {space} (read_as F t h a) (no_space F' t' h' a') = absurd (no_room text space F' F t' t h' h a' a)
told_one {text} (read_as F t h a) (read_as F' t' h' a') = ap answer (one_image text F F' t t' h h')

-- ---- by the machine

pub told_17 : (text : Bytes) (space p : ℕ) → Machine.answer text ≡ refused_17 p → Told text space (refused 17 p)
told_17 text space p e =
    let k = (refuses_17 text p).1 e in
    text_wrong p k.0 (λ q r. absurd (k.1 q r))

pub told_18 : (text : Bytes) (space p : ℕ) → Machine.answer text ≡ refused_18 p → Told text space (refused 18 p)
told_18 text space p e =
    let r = (refuses_18 text p).1 e in
    too_many p r (λ q w. earlier text p q r w)

pub told_holds : (text : Bytes) (R : Result) → Machine.answer text ≡ gives R → Holds text R.reading.options R.reading.tree
unfolding Reads
told_holds text R e =
    let k = (gives_within text R.reading.options R.reading.tree R.placed).1 e in
    record { reads = (R.placed, k.0); few_nodes = k.1; few_records = k.2 }

-- ---- there is one

holds_told : (text : Bytes) (space F : ℕ) (t : Statement Condition) → Holds text F t → (a : Answer Bytes) × Told text space a
holds_told text space F t h = go (dec_lt space (length (written_image F t)))
  where
    go : Dec (space < length (written_image F t)) → (a : Answer Bytes) × Told text space a
    go (yes k) = (refused 14 0, no_space F t h k)
    go (no k) = (answer (written_image F t), read_as F t h (omega arith))

pub told_some : (text : Bytes) (space : ℕ) → (a : Answer Bytes) × Told text space a
told_some text space = go (Machine.answer text) refl
  where
    go : (A : Machine.Answer) → Machine.answer text ≡ A → (a : Answer Bytes) × Told text space a
    go (gives R) e = holds_told text space R.reading.options R.reading.tree (told_holds text R e)
    go (refused_17 p) e = (refused 17 p, told_17 text space p e)
    go (refused_18 p) e = (refused 18 p, told_18 text space p e)
