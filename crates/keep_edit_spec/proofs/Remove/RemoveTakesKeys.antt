-- A remove of a keyval's line whose key has several parts takes it, where the first of them is named nowhere else.
--
-- All other statements stay (LineTaken). The line continues by dots from its first key. One key part alone names that
-- path, and the rules hold, so no other mention is at it, but of an element by the way (`once_counted`). Then nothing
-- is said under it, either, by what is before the line or after it (`lines_closed`).
--
-- Theorem: `remove_takes_keys`.
use Rattle.std.proofs.Common.{◌≡◌, ℕ, List, [], ◌∷◌, ◌++◌, map, refl, sym, ap, subst, ◌∙◌, append_assoc, arith}
use Rattle.std.proofs.Common.{inl}
use Rattle.std.specs.List.{cons_option}
use Rattle.keep_syntax.specs.Tree.{Content, Further, Value, Line, Document}
use Rattle.keep_path.specs.Path.{Part, key}
use Rattle.keep_meaning.specs.Counts.{statements_in}
use Rattle.keep_meaning.specs.KeysMore.{IsUnsaid}
use Rattle.keep_meaning.specs.LinesMore.{path_after}
use Rattle.keep_meaning.specs.Marks as marks
use Rattle.keep_meaning.specs.Marks.{Mention, Reading, Statement, below, start, value as kinds_value}
use Rattle.keep_meaning.specs.Meaning.{body_fact, entries_mentions, further_value, key_value, keyed_mentions}
use Rattle.keep_meaning.specs.Meaning.{keyval_mentions, lines_mentions, mentions_in, reading_after_lines}
use Rattle.keep_meaning.specs.Meaning.{statement_of, valued_mentions}
use Rattle.keep_meaning.specs.Nodes.{mark_count}
use Rattle.keep_meaning.specs.Rules.{ObeysRules}
use Rattle.keep_edit_spec.specs.Edits.{edited_document, remove}
use Rattle.keep_edit_spec.specs.KeyvalLines.{HasKeysAt, IsKeysLineOf, RemoveTakesKeys}
use Rattle.keep_edit_spec.proofs.Common.LineLaws.{EndsInKey, lines_closed, never_root}
use Rattle.keep_edit_spec.proofs.Common.LineStatements.{reading_statements, statements-append, statements_of}
use Rattle.keep_edit_spec.proofs.Common.Runs.{AllOf, IsDisjoint, Rules, SomeOf, all_join, some_left}
use Rattle.keep_edit_spec.proofs.Common.SetDocument.{from_closed, longer, whole_mentions}
use Rattle.keep_edit_spec.proofs.Common.SetLaw.{IsSolidAt}
use Rattle.keep_edit_spec.proofs.Common.UnsaidPaths.{unsaid_below}
use Rattle.keep_edit_spec.proofs.Remove.LineTaken.{rules, said_left, statements_left}
use Rattle.keep_edit_spec.proofs.Rename.RenameOnce.{Once, once_after, once_counted, once_right}
use Rattle.keep_edit_spec.proofs.Values.LineCounts.{HasMoreWith, value_counts}

module _ (s : Document) (path : List Part) (before : List Line) (value : Value)
    (obeys : ObeysRules (marks.marks (mentions_in s))) (h : IsKeysLineOf s path before value)
    (once : mark_count ((reading_after_lines start before).body ++ key (key_value h.name.key.first) ∷ [])
    (mentions_in s) ≡ 1) where
  abbrev r : Reading
  r = reading_after_lines start before

  abbrev now : Document
  now = edited_document s (remove path)

  abbrev first : List ℕ
  first = key_value h.name.key.first

  abbrev next : List ℕ
  next = further_value h.next

  abbrev further : List (List ℕ)
  further = map further_value h.further

  abbrev first_path : List Part
  first_path = r.body ++ key first ∷ []

  others : statements_in now ≡ statements_of (before ++ h.after)
  others = statements_left s path before h.after h.line h.name value obeys h.here h.content h.place

  -- ---- what the document says

  abbrev left : List Mention
  left = lines_mentions start before

  abbrev own : List Mention
  own = map (below r.body) (keyval_mentions h.name value)

  abbrev right : List Mention
  right = lines_mentions r h.after

  said_now : mentions_in now ≡ left ++ right
  said_now = said_left s path before h.after h.line h.name value obeys h.here h.content h.place now others

  said_were : lines_mentions start (before ++ h.line ∷ h.after) ≡ left ++ (own ++ right)
  said_were = whole_mentions before h.after h.line h.name value h.content

  -- ---- nothing else is said at the first key's path, or under it

  own_there : SomeOf (IsSolidAt first_path) own
  own_there =
      let inner : List Mention =
      valued_mentions (kinds_value (body_fact value.body)) (entries_mentions 0 value.nested) in
      subst (λ (fs : List Further).
      SomeOf (IsSolidAt first_path) (map (below r.body) (keyed_mentions (first ∷ map further_value fs) inner)))
      (sym h.several) (inl (record { path = refl; kind = refl }))

  one_alone : Once first_path (left ++ (own ++ right))
  one_alone =
      let counted : mark_count first_path (left ++ (own ++ right)) ≡ 1 =
      ap (mark_count first_path) (sym (ap (lines_mentions start) h.here ∙ said_were)) ∙ once in
      once_counted first_path (left ++ (own ++ right))
      (subst Rules said_were (rules s path before h.after h.line h.name value obeys h.here h.content h.place))
      (omega (arith, counted))

  ends : EndsInKey first_path
  ends = (r.body, first, refl)

  beside : AllOf (IsDisjoint first_path) (left ++ right)
  beside =
      all_join (IsDisjoint first_path) left right
      (from_closed first_path [] left (lines_closed first_path start before ends)
      (λ v. never_root first_path ends v)
      (λ there. once_after first_path left (own ++ right) one_alone there
      (some_left (IsSolidAt first_path) own right own_there)))
      (from_closed first_path r.body right (lines_closed first_path r h.after ends)
      (λ v. longer r.body (key first) [] v)
      (λ there. once_after first_path own right (once_right first_path left (own ++ right) one_alone) own_there there))

  first_is : path_after (statements_of before) first ≡ first_path
  first_is = ap (λ (x : Reading). x.body ++ key first ∷ []) (reading_statements start before)

  unsaid : IsUnsaid now (path_after (statements_of before) first)
  unsaid =
      subst (λ (p : List Part). IsUnsaid now p) (sym first_is)
      (unsaid_below now r.body first (subst (AllOf (IsDisjoint first_path)) (sym said_now) beside))

  -- ---- the line

  abbrev said_with : List Further → Statement
  said_with fs =
      marks.keyval (keyed_mentions (first ∷ map further_value fs)
      (valued_mentions (kinds_value (body_fact value.body)) (entries_mentions 0 value.nested)))

  old : statements_in now ≡ statements_of before ++ statements_of h.after
  old = others ∙ statements-append before h.after

  new : statements_in s
      ≡ statements_of before
      ++ marks.keyval (keyed_mentions (first ∷ next ∷ further)
      (valued_mentions (kinds_value (body_fact value.body)) (entries_mentions 0 value.nested)))
      ∷ statements_of h.after
  new =
      ap statements_of h.here ∙ statements-append before (h.line ∷ h.after)
      ∙ ap (λ (c : Content). statements_of before ++ cons_option (statement_of c) (statements_of h.after)) h.content
      ∙ ap (λ (fs : List Further). statements_of before ++ said_with fs ∷ statements_of h.after) h.several

  keys_taken : HasKeysAt now s path value before
  keys_taken =
      let counts : HasMoreWith now s _ value.nested =
      value_counts now s (statements_of before) (statements_of h.after) first (next ∷ further) (body_fact value.body)
      value.nested old new in
      record {
        line = record {
          before = statements_of before;
          after = statements_of h.after;
          first = first;
          next = next;
          further = further;
          fact = body_fact value.body;
          nested = value.nested;
          old = old;
          new = new;
          values = counts.values;
          keys = counts.keys;
        };
        after = refl;
        place = ap (λ (p : List Part). p ++ map key (next ∷ further)) first_is
            ∙ append_assoc r.body (key first ∷ []) (map key (next ∷ further))
            ∙ ap (λ (fs : List Further). r.body ++ key first ∷ map key (map further_value fs)) (sym h.several)
            ∙ h.place;
        gives = refl;
        holds = refl;
        unsaid = unsaid;
      }

pub remove_takes_keys : RemoveTakesKeys
remove_takes_keys s path before value obeys h once = keys_taken s path before value obeys h once
