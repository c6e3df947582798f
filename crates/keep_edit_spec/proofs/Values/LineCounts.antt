-- A line more, of one key or of several: a document has one value more by it and those in the value, and a key part
-- more for each of its keys and for each of those in the value.
--
-- What a document says with the line is what it says without it, and what the line says: that is one mention of a
-- value, one of each key before the last, and what is said in the value. So the counts, which are those of the mentions
-- that state a value and of the marks, go up by so much.
--
-- Theorems: `value_counts`; `line_counts`: with nothing in the value.
use Rattle.std.proofs.Common.{◌≡◌, ℕ, suc, ◌+◌, List, [], ◌∷◌, ◌++◌, length, map, sym, ap, ◌∙◌, append_assoc, arith}
use Rattle.std.proofs.Common.{refl}
use Rattle.keep_syntax.specs.Numbered.{part_count, value_count}
use Rattle.keep_syntax.specs.Tree.{Document, Entries, none}
use Rattle.keep_meaning.specs.Counts.{statements_in}
use Rattle.keep_meaning.specs.Fact.{Fact}
use Rattle.keep_meaning.specs.Marks.{Mention, Reading, Statement, below, keyval, mentions, mentions_from, next_reading}
use Rattle.keep_meaning.specs.Marks.{reading_after, start, statement_mentions, value}
use Rattle.keep_meaning.specs.Meaning.{entries_mentions, keyed_mentions, mentions_in, valued_mentions}
use Rattle.keep_meaning.specs.OtherValues.{totals_of}
use Rattle.keep_meaning.proofs.Shared.{marked, marked-append, marked-below, marked-entries, marked-keyed, marked-parts}
use Rattle.keep_meaning.proofs.Shared.{mentions_in-statements, valued, valued-append, valued-below, valued-entries}
use Rattle.keep_meaning.proofs.Shared.{valued-keyed}
use Rattle.keep_edit_spec.proofs.Set.SetValue.{valued-values}

-- one value more, and so many key parts
pub record HasMore (d more : Document) (count : ℕ) : Type 0 where
  pub values : (totals_of more).values ≡ suc (totals_of d).values
  pub keys : (totals_of more).keys ≡ (totals_of d).keys + count

-- one value more with these entries in it, and so many key parts with theirs
pub record HasMoreWith (d more : Document) (count : ℕ) (nested : Entries) : Type 0 where
  pub values : (totals_of more).values ≡ suc (totals_of d).values + value_count nested
  pub keys : (totals_of more).keys ≡ (totals_of d).keys + (count + part_count nested)

-- statements after others
said-append : (r : Reading) (xs ys : List Statement)
    → mentions_from r (xs ++ ys) ≡ mentions_from r xs ++ mentions_from (reading_after r xs) ys
said-append r [] ys = refl
said-append r (x ∷ xs) ys =
    let q : Reading = next_reading r x in
    ap (λ (ms : List Mention). statement_mentions r x ++ ms) (said-append q xs ys)
    ∙ sym (append_assoc (statement_mentions r x) (mentions_from q xs) (mentions_from (reading_after q xs) ys))

module _ (d more : Document) (before after : List Statement) (first : List ℕ) (further : List (List ℕ)) (fact : Fact)
    (nested : Entries) (old : statements_in d ≡ before ++ after)
    (new : statements_in more
    ≡ before ++ keyval (keyed_mentions (first ∷ further) (valued_mentions (value fact) (entries_mentions 0 nested)))
    ∷ after) where
  abbrev at : Reading
  at = reading_after start before

  abbrev last : List Mention
  last = valued_mentions (value fact) (entries_mentions 0 nested)

  abbrev own : List Mention
  own = keyed_mentions (first ∷ further) last

  abbrev left : List Mention
  left = mentions_from start before

  abbrev right : List Mention
  right = mentions_from at after

  said_without : mentions_in d ≡ left ++ right
  said_without = mentions_in-statements d ∙ ap mentions old ∙ said-append start before after

  said_with : mentions_in more ≡ left ++ (map (below at.body) own ++ right)
  said_with = mentions_in-statements more ∙ ap mentions new ∙ said-append start before (keyval own ∷ after)

  own_values : valued (map (below at.body) own) ≡ 1 + value_count nested
  own_values =
      omega (arith, valued-below at.body own, valued-keyed first further last, valued-entries 0 nested)

  own_keys : marked (map (below at.body) own) ≡ suc (length further) + part_count nested
  own_keys = omega (arith, marked-below at.body own, marked-keyed first further last, marked-entries 0 nested)

  pub value_counts : HasMoreWith d more (suc (length further)) nested
  value_counts = record {
    values = omega (
      arith,
      valued-values d,
      valued-values more,
      ap valued said_without,
      ap valued said_with,
      valued-append left right,
      valued-append left (map (below at.body) own ++ right),
      valued-append (map (below at.body) own) right,
      own_values,
    );
    keys = omega (
      arith,
      marked-parts d,
      marked-parts more,
      ap marked said_without,
      ap marked said_with,
      marked-append left right,
      marked-append left (map (below at.body) own ++ right),
      marked-append (map (below at.body) own) right,
      own_keys,
    );
  }

pub line_counts : (d more : Document) (before after : List Statement) (first : List ℕ) (further : List (List ℕ))
    (fact : Fact)
    → statements_in d ≡ before ++ after
    → statements_in more
    ≡ before ++ keyval (keyed_mentions (first ∷ further) (record { path = []; kind = value fact } ∷ [])) ∷ after
    → HasMore d more (suc (length further))
line_counts d more before after first further fact old new =
    let counts : HasMoreWith d more (suc (length further)) none =
    value_counts d more before after first further fact none old new in
    record { values = omega (arith, counts.values); keys = omega (arith, counts.keys) }
