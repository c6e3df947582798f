-- An insert of several new keys at the end of a body adds a line.
--
-- The first of the keys is new (KeysAtEnd), so nothing is said at its path or under it (`fresh_disjoint`).
--
-- Theorem: `insert_adds_keys`.
use Rattle.std.proofs.Common.{◌≡◌, ℕ, List, [], ◌∷◌, ◌++◌, map, take, drop, refl, sym, ap, subst, ◌∙◌, append_assoc}
use Rattle.std.proofs.Common.{Some, None}
use Rattle.std.specs.Prelude.{IsUtf8}
use Rattle.std.specs.List.{AllByRecursion}
use Rattle.std.proofs.lemmas.List.{take-append-drop}
use Rattle.keep_types.specs.declared.leaf.Profile.{Profile}
use Rattle.keep_syntax.specs.Tree.{Value, Line, Document}
use Rattle.keep_path.specs.Path.{Part, key}
use Rattle.keep_meaning.specs.Counts.{statements_in}
use Rattle.keep_meaning.specs.KeysMore.{IsUnsaid}
use Rattle.keep_meaning.specs.LinesMore.{path_after}
use Rattle.keep_meaning.specs.Marks as marks
use Rattle.keep_meaning.specs.Marks.{start, value as kinds_value}
use Rattle.keep_meaning.specs.Meaning.{body_fact, entries_mentions, keyed_mentions, lines, mentions_in}
use Rattle.keep_meaning.specs.Meaning.{valued_mentions}
use Rattle.keep_edit_spec.specs.Edits.{edited_document, end_of, insert}
use Rattle.keep_edit_spec.specs.KeyvalLines.{HasKeysAt, InsertAddsKeys}
use Rattle.keep_edit_spec.specs.Look.{holder, keys_in}
use Rattle.keep_edit_spec.specs.Refusals.{refusal}
use Rattle.keep_edit_spec.proofs.Common.BodyEnd.{IsBodyEnd}
use Rattle.keep_edit_spec.proofs.Common.InsertLaw.{fresh_disjoint}
use Rattle.keep_edit_spec.proofs.Common.LineStatements.{reading_statements, statements-append, statements_of}
use Rattle.keep_edit_spec.proofs.Common.UnsaidPaths.{unsaid_below}
use Rattle.keep_edit_spec.proofs.Insert.KeysAtEnd as keys
use Rattle.keep_edit_spec.proofs.Insert.LineAtEnd as line
use Rattle.keep_edit_spec.proofs.Values.LineCounts.{HasMoreWith, value_counts}

-- The path is new, and in the document are the lines of the body that it goes into, up to line n.
module _ (profile : Profile) (limit : ℕ) (s : Document) (path : List Part) (first next : List ℕ)
    (further : List (List ℕ)) (value : Value) (n : ℕ) (utf8 : AllByRecursion IsUtf8 (keys_in path))
    (allowed : refusal profile limit s (insert path value) ≡ None)
    (new : path ≡ holder path (mentions_in s) ++ map key (first ∷ next ∷ further))
    (ends : end_of s (holder path (mentions_in s)) ≡ Some n) where
  abbrev a : List Part
  a = holder path (mentions_in s)

  abbrev then : Document
  then = edited_document s (insert path value)

  abbrev before : List Line
  before = take n (lines s)

  abbrev after : List Line
  after = drop n (lines s)

  end : IsBodyEnd s a n
  end = keys.end profile limit s path first (next ∷ further) value n utf8 allowed new ends

  first_path : path_after (statements_of before) first ≡ a ++ key first ∷ []
  first_path =
      ap (λ (r : marks.Reading). r.body ++ key first ∷ []) (reading_statements start before)
      ∙ ap (λ (p : List Part). p ++ key first ∷ []) end.body

  unsaid : IsUnsaid s (path_after (statements_of before) first)
  unsaid =
      subst (λ (p : List Part). IsUnsaid s p) (sym first_path)
      (unsaid_below s a first
      (fresh_disjoint (a ++ key first ∷ []) (lines s) (a, first, refl)
      (keys.unsaid profile limit s path first (next ∷ further) value n utf8 allowed new ends)))

  old : statements_in s ≡ statements_of before ++ statements_of after
  old = ap statements_of (sym (take-append-drop n (lines s))) ∙ statements-append before after

  edited : statements_in then
      ≡ statements_of before
      ++ marks.keyval (keyed_mentions (first ∷ next ∷ further)
      (valued_mentions (kinds_value (body_fact value.body)) (entries_mentions 0 value.nested)))
      ∷ statements_of after
  edited = line.edited_with profile limit s path first (next ∷ further) value n utf8 allowed new ends

  keys_added : HasKeysAt s then path value before
  keys_added =
      let counts : HasMoreWith s then _ value.nested =
      value_counts s then (statements_of before) (statements_of after) first (next ∷ further) (body_fact value.body)
      value.nested old edited in
      record {
        line = record {
          before = statements_of before;
          after = statements_of after;
          first = first;
          next = next;
          further = further;
          fact = body_fact value.body;
          nested = value.nested;
          old = old;
          new = edited;
          values = counts.values;
          keys = counts.keys;
        };
        after = refl;
        place = ap (λ (p : List Part). p ++ map key (next ∷ further)) first_path
            ∙ append_assoc a (key first ∷ []) (map key (next ∷ further)) ∙ sym new;
        gives = refl;
        holds = refl;
        unsaid = unsaid;
      }

pub insert_adds_keys : InsertAddsKeys
insert_adds_keys profile limit s path first next further value n utf8 allowed new ends =
    keys_added profile limit s path first next further value n utf8 allowed new ends
