-- What a condition's own record adds: it is stored behind those of its operands, and the way goes on.
use mathlib.Core.Path.{◌≡◌, sym, ◌∙◌, ap, subst}
use Prim.Native.Nat.{ℕ, suc, ◌+◌, ◌<◌}
use mathlib.Core.List.{List, [], ◌∷◌, ◌++◌, append_assoc}
use lib.ListN.{length, take, set, length-set}
use lib.Seq.{take-suc-set}
use Rattle.imp.specs.Condition.{Condition}
use Rattle.std.specs.Prelude.{Ok}
use Rattle.image.specs.Bytes.{Bytes}
use Rattle.image.specs.Term.{condition_word}
use Rattle.written.specs.Machine.{conditions, Stack, want}
use Rattle.written.specs.Count.{sizeᶜ}
use Rattle.written.specs.Image.{wordsᶜ}
use Rattle.reading.specs.declared.cursor.Cursor.{Cursor}
use Rattle.reading.specs.Inner.Way.{Way}
use Rattle.reading.specs.Inner.Storing.{written_on, Stores}
use Rattle.reading.specs.Inner.Conditions.{WroteCondition, ReadsCondition}

-- a store at the end of what has been written
pub take_store : (T : List ℕ) (n w : ℕ) (r : List ℕ) → n < length T → take n T ++ (w ∷ r) ≡ take (suc n) (set T n w) ++ r
take_store T n w r h = sym (append_assoc (take n T) (w ∷ []) r) ∙ ap (λ l. l ++ r) (sym (take-suc-set T n w h))

-- the machine does not know what has been written
written_way : {text : Bytes} {c d : Cursor} {A B : Stack} → Way text c d A B → Way text c (written_on d) A B
written_way p = record {
  forth = p.forth;
  good = record { inside = p.good.inside; few_nodes = p.good.few_nodes; few_records = p.good.few_records };
  goes = λ w h. let x = p.goes w h in (x.0, record { at_is = x.1.at_is; nodes_are = x.1.nodes_are; records_are = x.1.records_are }, x.2);
}

-- all but its own record has been written
pub record Ends (k : Condition) (c d : Cursor) (T T₁ : List ℕ) (word : ℕ) : Type 0 where
  pub nodes_kept : d.nodes ≡ c.nodes
  pub node_kept : d.node ≡ c.node
  pub records_opened : d.records ≡ c.records + sizeᶜ k
  pub condition_is : suc d.condition ≡ c.condition + sizeᶜ k
  pub room : d.condition < length T₁
  pub words_are : (r : List ℕ) → take c.condition T ++ wordsᶜ k c.condition r ≡ take d.condition T₁ ++ (word ∷ r)

module _ {kind option left right : ℕ} {d r : Cursor} {T₁ T' : List ℕ} (S : Stores d kind option left right T₁ T' r) where
  stored_wrote : (k : Condition) (c : Cursor) (T : List ℕ) → Ends k c d T T₁ (condition_word kind option left right) → WroteCondition k c (written_on d) T T'
  stored_wrote k c T E = record {
    nodes_kept = E.nodes_kept;
    node_kept = E.node_kept;
    records_opened = E.records_opened;
    condition_is = E.condition_is;
    records_are = λ r. E.words_are r ∙ take_store T₁ d.condition (condition_word kind option left right) r E.room ∙ ap (λ T. take (suc d.condition) T ++ r) (sym S.writes);
  }

  -- a condition whose own record was all that was left
  pub reads_all : (text : Bytes) (F : ℕ) (c : Cursor) (k : Condition) (T : List ℕ) → ((h : Condition → Stack) → Way text c d (want F conditions h) (h k))
      → Ends k c d T T₁ (condition_word kind option left right) → length T₁ ≡ length T → ReadsCondition text F c (Ok r) T T'
  reads_all text F c k T p E s =
      subst (λ r. ReadsCondition text F c (Ok r) T T') (sym S.goes_on)
      (record {
        read = record { condition = k; way = λ h. written_way (p h); wrote = stored_wrote k c T E };
        same_space = ap length S.writes ∙ length-set T₁ d.condition (condition_word kind option left right) ∙ s;
      })
