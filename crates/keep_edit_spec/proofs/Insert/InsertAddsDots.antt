-- An insert of new keys into a table that dotted keys make adds a line, whose key passes that table.
--
-- The line comes after the last one that leads through the holder of the path (`dotted_line`). The key of that one goes
-- from its body on to the holder, and so does the new one: those keys are passed, and the new ones come after them
-- (`dotted_path`). Nothing is said at the path of the first new key or under it (`fresh_disjoint`).
--
-- Theorem: `insert_adds_dots`.
use Rattle.std.proofs.Common.{◌≡◌, ℕ, suc, ◌-◌, ◌≤◌, List, [], ◌∷◌, ◌++◌, length, map, take, drop, refl, sym, ap}
use Rattle.std.proofs.Common.{subst, ◌∙◌, append_assoc, length-append, arith, Some, None}
use Rattle.std.specs.Prelude.{IsUtf8}
use Rattle.std.specs.List.{AllByRecursion}
use Rattle.std.proofs.lemmas.List.{length-map, take-append-drop}
use Rattle.keep_types.specs.declared.leaf.Profile.{Profile}
use Rattle.keep_syntax.specs.Tree.{Value, Line, Document, keyval}
use Rattle.keep_path.specs.Path.{Part, key}
use Rattle.keep_meaning.specs.Counts.{statements_in}
use Rattle.keep_meaning.specs.DotsMore.{new_path}
use Rattle.keep_meaning.specs.KeysMore.{IsUnsaid}
use Rattle.keep_meaning.specs.Marks as marks
use Rattle.keep_meaning.specs.Marks.{reading_after, start, value as kinds_value}
use Rattle.keep_meaning.specs.Meaning.{body_fact, entries_mentions, keyed_mentions, keys_of, line_of, lines}
use Rattle.keep_meaning.specs.Meaning.{mentions_in, valued_mentions}
use Rattle.keep_edit_spec.specs.Edits.{at_line, change, edited_document, end_of, insert, name_with}
use Rattle.keep_edit_spec.specs.KeyvalLines.{HasDotsAt, InsertAddsDots}
use Rattle.keep_edit_spec.specs.Lines.{last_line, leads_dotted, reading_at}
use Rattle.keep_edit_spec.specs.Look.{holder, keys_in}
use Rattle.keep_edit_spec.specs.Refusals.{refusal}
use Rattle.keep_edit_spec.proofs.Common.InsertLaw.{fresh_disjoint}
use Rattle.keep_edit_spec.proofs.Common.LineStatements.{reading_statements, statements-append, statements_of}
use Rattle.keep_edit_spec.proofs.Common.NewLines.{key_means}
use Rattle.keep_edit_spec.proofs.Common.UnsaidPaths.{unsaid_below}
use Rattle.keep_edit_spec.proofs.Insert.InsertDotted.{IsDottedLine, dotted_change, dotted_line, dotted_path}
use Rattle.keep_edit_spec.proofs.Insert.InsertLine.{later_keys}
use Rattle.keep_edit_spec.proofs.Insert.LinePut as line
use Rattle.keep_edit_spec.proofs.Insert.NewKeys as keys
use Rattle.keep_edit_spec.proofs.Rename.KeyTexts.{key_texts}
use Rattle.keep_edit_spec.proofs.Values.LineCounts.{HasMoreWith, value_counts}

-- The path is new, and in the document are the lines up to the last one that leads through its holder, number i.
module _ (profile : Profile) (limit : ℕ) (s : Document) (path : List Part) (first : List ℕ) (further : List (List ℕ))
    (value : Value) (i : ℕ) (utf8 : AllByRecursion IsUtf8 (keys_in path))
    (allowed : refusal profile limit s (insert path value) ≡ None)
    (new : path ≡ holder path (mentions_in s) ++ map key (first ∷ further))
    (ends : end_of s (holder path (mentions_in s)) ≡ None)
    (found : last_line (leads_dotted (holder path (mentions_in s))) start (lines s) ≡ Some i) where
  abbrev a : List Part
  a = holder path (mentions_in s)

  abbrev body : List Part
  body = (reading_at i (lines s)).body

  abbrev then : Document
  then = edited_document s (insert path value)

  abbrev before : List Line
  before = take (suc i) (lines s)

  abbrev after : List Line
  after = drop (suc i) (lines s)

  there : IsDottedLine s a i
  there = dotted_line s a i found

  abbrev passed : List (List ℕ)
  passed = there.first ∷ there.prefix

  -- ---- the line

  changes : (v : Value)
      → change s (insert path v) ≡ at_line s (suc i) (keyval (name_with (passed ++ first ∷ further)) v ∷ [])
  changes v =
      dotted_change s path i first further there new v
      (keys.no_item profile limit s path first further value allowed new) ends found

  few : suc i ≤ suc (length s.ended)
  few = omega (arith, there.few, length-append (map line_of s.ended) (s.last ∷ []), length-map s.ended line_of)

  means : keys_of (name_with (passed ++ first ∷ further)).key ≡ passed ++ first ∷ further
  means =
      key_means profile there.first (there.prefix ++ first ∷ further)
      (later_keys profile body path (passed ++ first ∷ further) (dotted_path s path i first further there new)
      (key_texts profile (keys_in path) utf8))

  old : statements_in s ≡ statements_of before ++ statements_of after
  old = ap statements_of (sym (take-append-drop (suc i) (lines s))) ∙ statements-append before after

  edited : statements_in then
      ≡ statements_of before
      ++ marks.keyval (keyed_mentions (passed ++ first ∷ further)
      (valued_mentions (kinds_value (body_fact value.body)) (entries_mentions 0 value.nested)))
      ∷ statements_of after
  edited = line.edited_with s path there.first (there.prefix ++ first ∷ further) value (suc i) changes few means value

  -- ---- its keys

  holder_is : (reading_after start (statements_of before)).body ++ map key passed ≡ a
  holder_is =
      ap (λ (r : marks.Reading). r.body ++ map key passed) (reading_statements start before)
      ∙ ap (λ (p : List Part). p ++ map key passed) there.at_body ∙ sym there.whole

  first_path : new_path (statements_of before) passed first ≡ a ++ key first ∷ []
  first_path = ap (λ (p : List Part). p ++ key first ∷ []) holder_is

  unsaid : IsUnsaid s (new_path (statements_of before) passed first)
  unsaid =
      subst (λ (p : List Part). IsUnsaid s p) (sym first_path)
      (unsaid_below s a first
      (fresh_disjoint (a ++ key first ∷ []) (lines s) (a, first, refl)
      (keys.unsaid profile limit s path first further value allowed new)))

  so_many : length passed ≡ length a - length body
  so_many = omega (
    arith,
    ap (λ (p : List Part). length p) there.whole,
    length-append body (map key passed),
    length-map passed key,
  )

  dots_added : HasDotsAt s then path value (length a - length body) before
  dots_added =
      let counts : HasMoreWith s then _ value.nested =
      value_counts s then (statements_of before) (statements_of after) there.first (there.prefix ++ first ∷ further)
      (body_fact value.body) value.nested old edited in
      record {
        line = record {
          before = statements_of before;
          after = statements_of after;
          passed = passed;
          first = first;
          further = further;
          fact = body_fact value.body;
          nested = value.nested;
          old = old;
          new = edited;
          values = counts.values;
          keys = counts.keys;
        };
        after = refl;
        place = ap (λ (p : List Part). p ++ map key further) first_path
            ∙ append_assoc a (key first ∷ []) (map key further) ∙ sym new;
        count = so_many;
        gives = refl;
        holds = refl;
        unsaid = unsaid;
      }

pub insert_adds_dots : InsertAddsDots
insert_adds_dots profile limit s path first further value i utf8 allowed new ends found =
    dots_added profile limit s path first further value i utf8 allowed new ends found
