-- Closed cases of reading, by computation: document 01's routine H written out, other spacings, and places of refusals 17 and 18.
use Rattle.std.specs.Prelude.{◌≡◌, refl, ℕ, zero, suc, List, [], ◌∷◌, ◌++◌, map, pos, negsuc}
use Prim.Native.String.{String}
use Rattle.imp.specs.Condition.{Condition, option, trueᶜ, falseᶜ, andᶜ, orᶜ, notᶜ}
use Rattle.imp.specs.Routine.{number, variable, sum, pick, falseᵇ, trueᵇ, notᵇ, andᵇ, less, choiceᵇ, Statement, skip, assign, if, while, throw, try, choice}
use Rattle.image.specs.Bytes.{Bytes}
use Rattle.written.specs.Machine.{Outcome, read, refused, outcome, go, step, between, look, leads, forks, counted, first_step, final, start}
use Rattle.imp.proofs.Theorem.Table.{H}
use Rattle.imp.specs.Numbers.{low32}
use Rattle.image.specs.Listing.{sizeᵃ, sizeˢ}
use Rattle.image.specs.Term.{head_word, condition_word, node_word, bytes_of, all_bytes}
use Rattle.written.specs.Count.{sizeᶜ, recordsᵃ, recordsˢ}
use Rattle.written.specs.Image.{wordsᶜ, choicesᵃ, choicesˢ, nodesᵃ, nodesˢ, record_bytes, written_image}
use Rattle.written.specs.Limits.{first_over}
use Rattle.written.specs.Answer.{so_far, last, reach, Answer, refused_17, refused_18, answer}
use Rattle.written.specs.Word.{bytes}

opened : Unit {0}
unfolding answer first_over so_far last reach outcome go step between look leads forks counted first_step final start
opened = tt

-- a reading without the places of its tokens, or the place of a refusal
data Told : Type 0 where
  tree_of : ℕ → Statement Condition → Told
  refuses : ℕ → Told

abbrev told : Outcome → Told
told (read r) = tree_of r.reading.options r.reading.tree
told (refused p) = refuses p

abbrev says : String → Told
says text = told (outcome (bytes text))

-- the routine H of document 01
h_read : says "options 1 {v0 := [o0 ? 380 : 310] ; if (350 < v0) then throw 7 else skip}" ≡ tree_of 1 H
unfolding opened H
h_read = refl

good : List String
good =
    "options 0 skip"
    ∷ "  options 6\nthrow(1+-2) "
    ∷ "options 0 throw -2147483648"
    ∷ "options 0 if[true?true:false]then skip else[false?skip:skip]"
    ∷ "options 2 try while both(not true and(v15<0))do skip catch v10 with[((o0 and o1)or not o0)?v1:=pick(false?1:v2):skip]"
    ∷ []

good_read : map says good
    ≡ tree_of 0 skip
    ∷ tree_of 6 (throw (sum (number (pos 1)) (number (negsuc 1))))
    ∷ tree_of 0 (throw (number (negsuc 2147483647)))
    ∷ tree_of 0 (if (choiceᵇ trueᶜ trueᵇ falseᵇ) skip (choice falseᶜ skip skip))
    ∷ (tree_of 2 (try (while (andᵇ (notᵇ trueᵇ) (less (variable 15) (number (pos 0)))) skip) 10 (choice (orᶜ (andᶜ (option 0) (option 1)) (notᶜ (option 0))) (assign 1 (pick falseᵇ (number (pos 1)) (variable 2))) skip))) ∷ []
unfolding opened good
good_read = refl

bad : List String
bad =
    "options 7 skip"
    ∷ "options 0 whale"
    ∷ "options 0 v16 := 1"
    ∷ "options 0 v1 := 01"
    ∷ "options 0 throw -0"
    ∷ "options 0 throw 2147483648"
    ∷ "options 0 throw -2147483649"
    ∷ "options 3 [o3 ? skip : skip]"
    ∷ "options 0 [o0 ? skip : skip]"
    ∷ "options 0 throw-5"
    ∷ "options 0 ski"
    ∷ "options 0 skipx"
    ∷ "options 0 skip !"
    ∷ "options 0 throw 12 13"
    ∷ "options 0 v3=1"
    ∷ "options 0 { skip ; skip ]"
    ∷ ""
    ∷ "options 0 if true then skip elsewhere"
    ∷ "options 0 tray"
    ∷ []

bad_places : map says bad ≡ map refuses (8 ∷ 12 ∷ 12 ∷ 17 ∷ 17 ∷ 25 ∷ 26 ∷ 12 ∷ 11 ∷ 15 ∷ 13 ∷ 14 ∷ 15 ∷ 19 ∷ 12 ∷ 24 ∷ 0 ∷ 32 ∷ 12 ∷ [])
unfolding opened bad
bad_places = refl

-- ---- limits

-- n times the word not, in a condition, and then
nots : ℕ → Bytes → Bytes
nots zero l = l
nots (suc n) l = bytes "not " ++ nots n l

-- "options 0 [" and so many conditions
many : ℕ → Bytes → Bytes
many n l = bytes "options 0 [" ++ nots n l

ends : List Answer
ends =
    answer (many 256 (bytes "true ?"))
    ∷ answer (many 256 (bytes "tru"))
    ∷ answer (many 256 (bytes "trueX"))
    ∷ answer (many 256 (bytes "true!"))
    ∷ answer (many 256 (bytes "o"))
    ∷ answer (many 255 (bytes "true!"))
    ∷ answer (bytes "options 0 while " ++ nots 1023 (bytes "true!"))
    ∷ []

ends_are : ends ≡ refused_18 1035 ∷ refused_17 1038 ∷ refused_17 1039 ∷ refused_18 1035 ∷ refused_17 1035 ∷ refused_17 1035 ∷ refused_18 4108 ∷ []
unfolding opened ends many nots
ends_are = refl

-- ---- the image of H is document 01's

h_image : Bytes
h_image =
    1 ∷ 16 ∷ 1 ∷ 0 ∷ 192 ∷ 0 ∷ 0 ∷ 0 ∷ 32 ∷ 0 ∷ 0 ∷ 0 ∷ 0 ∷ 0 ∷ 0 ∷ 0 ∷ 0 ∷ 0 ∷ 1 ∷ 124 ∷ 0 ∷ 0 ∷ 0 ∷ 0 ∷ 0 ∷ 0 ∷ 1 ∷ 54 ∷ 16 ∷ 0 ∷ 0 ∷ 0 ∷ 0 ∷ 1 ∷ 0 ∷ 0 ∷ 68 ∷ 0 ∷ 2 ∷ 0 ∷ 0 ∷ 0 ∷ 0 ∷ 0 ∷ 0 ∷ 0 ∷ 0 ∷ 0 ∷ 0 ∷ 0 ∷ 1 ∷ 94 ∷ 4 ∷ 0 ∷ 0 ∷ 0 ∷ 0 ∷ 0 ∷ 0 ∷ 0 ∷ 48 ∷ 0 ∷ 4 ∷ 0 ∷ 80 ∷ 0 ∷ 0 ∷ 0 ∷ 0 ∷ 0 ∷ 0 ∷ 0 ∷ 0 ∷ 0 ∷ 0 ∷ 7 ∷ 84 ∷ 0 ∷ 7 ∷ 0 ∷ 0 ∷ 0 ∷ 0 ∷ 0 ∷ 64 ∷ 0 ∷ 0 ∷ 0 ∷ 0 ∷ 0 ∷ 0 ∷ 0 ∷ 76 ∷ 0 ∷ 6 ∷ 0 ∷ 128 ∷ 9 ∷ 0 ∷ 0 ∷ 72 ∷ 0 ∷ 3 ∷ 0 ∷ 160 ∷ 0 ∷ 0 ∷ 0 ∷ []

h_written : written_image 1 H ≡ h_image
unfolding h_image H low32 sizeᵃ sizeˢ node_word bytes_of all_bytes sizeᶜ recordsᵃ recordsˢ condition_word wordsᶜ choicesᵃ choicesˢ nodesᵃ nodesˢ record_bytes head_word written_image
h_written = refl
