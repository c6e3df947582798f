-- A remove of a keyval's line takes it, where one of its keys is named nowhere else: the keys before that one are
-- passed.
--
-- All other statements stay (LineTaken). The line names the path of that key, and one key part alone names it, and the
-- rules hold, so no other mention is at it, but of an element by the way (`once_counted`). Then nothing is said under
-- it, either, by what is before the line or after it (`lines_closed`).
--
-- Theorems: `beside`, `said_now`, `said_were`: what is said without the line, and with it; `remove_takes_dots`.
use Rattle.std.proofs.Common.{◌≡◌, ℕ, ◌<◌, List, [], ◌∷◌, ◌++◌, length, map, refl, sym, ap, subst, ◌∙◌, append_assoc}
use Rattle.std.proofs.Common.{length-append, arith, inl}
use Rattle.std.specs.List.{cons_option}
use Rattle.std.proofs.lemmas.List.{map-append}
use Rattle.keep_syntax.specs.Tree.{Content, Value, Line, Document}
use Rattle.keep_path.specs.Path.{Part, key}
use Rattle.keep_meaning.specs.Counts.{statements_in}
use Rattle.keep_meaning.specs.DotsMore.{new_path}
use Rattle.keep_meaning.specs.Fact.{Fact}
use Rattle.keep_meaning.specs.KeysMore.{IsUnsaid}
use Rattle.keep_meaning.specs.Marks as marks
use Rattle.keep_meaning.specs.Marks.{Mention, Reading, Statement, below, start, value as kinds_value}
use Rattle.keep_meaning.specs.Meaning.{body_fact, entries_mentions, further_value, key_value, keyed_mentions}
use Rattle.keep_meaning.specs.Meaning.{keys_of, keyval_mentions, lines_mentions, mentions_in, reading_after_lines}
use Rattle.keep_meaning.specs.Meaning.{statement_of, valued_mentions}
use Rattle.keep_meaning.specs.Nodes.{mark_count}
use Rattle.keep_meaning.specs.Rules.{ObeysRules}
use Rattle.keep_edit_spec.specs.Edits.{edited_document, remove}
use Rattle.keep_edit_spec.specs.KeyvalLines.{HasDotsAt, IsDotsLineOf, RemoveTakesDots, first_path}
use Rattle.keep_edit_spec.proofs.Common.LineLaws.{EndsInKey, Reaches, lines_closed, never_root}
use Rattle.keep_edit_spec.proofs.Common.LineStatements.{reading_statements, statements-append, statements_of}
use Rattle.keep_edit_spec.proofs.Common.Runs.{AllOf, IsDisjoint, Rules, SomeOf, all_join, some_left, some_right}
use Rattle.keep_edit_spec.proofs.Common.Runs.{strip-sound}
use Rattle.keep_edit_spec.proofs.Common.SetDocument.{from_closed, whole_mentions}
use Rattle.keep_edit_spec.proofs.Common.SetLaw.{IsSolidAt, some_below}
use Rattle.keep_edit_spec.proofs.Common.Stops.{keyed_stops, stops}
use Rattle.keep_edit_spec.proofs.Common.UnsaidPaths.{unsaid_below}
use Rattle.keep_edit_spec.proofs.Remove.LineTaken.{rules, said_left, statements_left}
use Rattle.keep_edit_spec.proofs.Rename.RenameOnce.{Once, once_after, once_counted, once_right}
use Rattle.keep_edit_spec.proofs.Values.LineCounts.{HasMoreWith, value_counts}

-- a path is no prefix of a shorter one
shorter : (p q : List Part) → length q < length p → Reaches p q → ⊥
shorter p q less u =
    omega (arith, less, ap (λ (l : List Part). length l) (strip-sound p q u.0 u.1), length-append p u.0)

-- a key names the path of its first part
first_named : (k : List ℕ) (ks : List (List ℕ)) (f : Fact) (ms : List Mention)
    → SomeOf (IsSolidAt (key k ∷ [])) (keyed_mentions (k ∷ ks) (valued_mentions (kinds_value f) ms))
first_named k [] f ms = inl (record { path = refl; kind = refl })
first_named k (l ∷ ks) f ms = inl (record { path = refl; kind = refl })

module _ (s : Document) (path : List Part) (before : List Line) (value : Value)
    (obeys : ObeysRules (marks.marks (mentions_in s))) (h : IsDotsLineOf s path before value)
    (once : mark_count (first_path before h.passed h.first) (mentions_in s) ≡ 1) where
  abbrev r : Reading
  r = reading_after_lines start before

  abbrev now : Document
  now = edited_document s (remove path)

  abbrev table : List Part
  table = r.body ++ map key h.passed

  abbrev its_path : List Part
  its_path = first_path before h.passed h.first

  others : statements_in now ≡ statements_of (before ++ h.after)
  others = statements_left s path before h.after h.line h.name value obeys h.here h.content h.place

  -- ---- what the document says

  abbrev pub left : List Mention
  left = lines_mentions start before

  abbrev inner : List Mention
  inner = valued_mentions (kinds_value (body_fact value.body)) (entries_mentions 0 value.nested)

  abbrev pub own : List Mention
  own = map (below r.body) (keyval_mentions h.name value)

  abbrev pub right : List Mention
  right = lines_mentions r h.after

  pub said_now : mentions_in now ≡ left ++ right
  said_now = said_left s path before h.after h.line h.name value obeys h.here h.content h.place now others

  pub said_were : mentions_in s ≡ left ++ (own ++ right)
  said_were = ap (lines_mentions start) h.here ∙ whole_mentions before h.after h.line h.name value h.content

  pub its_rules : Rules (left ++ (own ++ right))
  its_rules =
      subst Rules (whole_mentions before h.after h.line h.name value h.content)
      (rules s path before h.after h.line h.name value obeys h.here h.content h.place)

  -- ---- nothing else is said at the first key's path, or under it

  pub own_is : own
      ≡ map (below r.body)
      (stops h.passed ++ map (below (map key h.passed)) (keyed_mentions (h.first ∷ h.further) inner))
  own_is =
      ap (λ (ks : List (List ℕ)). map (below r.body) (keyed_mentions ks inner)) h.parts
      ∙ ap (map (below r.body)) (keyed_stops h.passed h.first h.further inner)

  own_there : SomeOf (IsSolidAt its_path) own
  own_there =
      let run : List Mention = keyed_mentions (h.first ∷ h.further) inner in
      let path_is : r.body ++ (map key h.passed ++ key h.first ∷ []) ≡ its_path =
      sym (append_assoc r.body (map key h.passed) (key h.first ∷ [])) in
      subst (λ (ms : List Mention). SomeOf (IsSolidAt its_path) ms) (sym own_is)
      (subst (λ (p : List Part).
      SomeOf (IsSolidAt p) (map (below r.body) (stops h.passed ++ map (below (map key h.passed)) run))) path_is
      (some_below r.body (map key h.passed ++ key h.first ∷ []) (stops h.passed ++ map (below (map key h.passed)) run)
      (some_right (IsSolidAt (map key h.passed ++ key h.first ∷ [])) (stops h.passed)
      (map (below (map key h.passed)) run)
      (some_below (map key h.passed) (key h.first ∷ []) run
      (first_named h.first h.further (body_fact value.body) (entries_mentions 0 value.nested))))))

  one_alone : Once its_path (left ++ (own ++ right))
  one_alone =
      let counted : mark_count its_path (left ++ (own ++ right)) ≡ 1 =
      ap (mark_count its_path) (sym said_were) ∙ once in
      once_counted its_path (left ++ (own ++ right)) its_rules (omega (arith, counted))

  ends : EndsInKey its_path
  ends = (table, h.first, refl)

  pub beside_left : AllOf (IsDisjoint its_path) left
  beside_left =
      from_closed its_path [] left (lines_closed its_path start before ends)
      (λ v. never_root its_path ends v)
      (λ there. once_after its_path left (own ++ right) one_alone there
      (some_left (IsSolidAt its_path) own right own_there))

  beside_right : AllOf (IsDisjoint its_path) right
  beside_right =
      from_closed its_path r.body right (lines_closed its_path r h.after ends)
      (λ v. shorter its_path r.body
      (omega (arith, length-append table (key h.first ∷ []), length-append r.body (map key h.passed))) v)
      (λ there. once_after its_path own right (once_right its_path left (own ++ right) one_alone) own_there there)

  pub beside : AllOf (IsDisjoint its_path) (left ++ right)
  beside = all_join (IsDisjoint its_path) left right beside_left beside_right

  path_is : new_path (statements_of before) h.passed h.first ≡ its_path
  path_is =
      ap (λ (x : Reading). (x.body ++ map key h.passed) ++ key h.first ∷ []) (reading_statements start before)

  pub unsaid : IsUnsaid now (new_path (statements_of before) h.passed h.first)
  unsaid =
      subst (λ (p : List Part). IsUnsaid now p) (sym path_is)
      (unsaid_below now table h.first (subst (AllOf (IsDisjoint its_path)) (sym said_now) beside))

  -- ---- the line

  abbrev said_of : List (List ℕ) → List Statement
  said_of ks =
      statements_of before
      ++ marks.keyval (keyed_mentions ks
      (valued_mentions (kinds_value (body_fact value.body)) (entries_mentions 0 value.nested)))
      ∷ statements_of h.after

  pub old : statements_in now ≡ statements_of before ++ statements_of h.after
  old = others ∙ statements-append before h.after

  new_keys : statements_in s ≡ said_of (keys_of h.name.key)
  new_keys =
      ap statements_of h.here ∙ statements-append before (h.line ∷ h.after)
      ∙ ap (λ (c : Content). statements_of before ++ cons_option (statement_of c) (statements_of h.after)) h.content

  pub new : statements_in s ≡ said_of (h.passed ++ h.first ∷ h.further)
  new = new_keys ∙ ap said_of h.parts

  pub counts : HasMoreWith now s (length (h.passed ++ h.first ∷ h.further)) value.nested
  counts =
      subst (λ (n : ℕ). HasMoreWith now s n value.nested) (ap (λ (ks : List (List ℕ)). length ks) h.parts)
      (value_counts now s (statements_of before) (statements_of h.after) (key_value h.name.key.first)
      (map further_value h.name.key.more) (body_fact value.body) value.nested old new_keys)

  taken : HasDotsAt now s path value (length h.passed) before
  taken =
      record {
        line = record {
          before = statements_of before;
          after = statements_of h.after;
          passed = h.passed;
          first = h.first;
          further = h.further;
          fact = body_fact value.body;
          nested = value.nested;
          old = old;
          new = new;
          values = counts.values;
          keys = counts.keys;
        };
        after = refl;
        place = ap (λ (p : List Part). p ++ map key h.further) path_is
            ∙ append_assoc table (key h.first ∷ []) (map key h.further)
            ∙ append_assoc r.body (map key h.passed) (map key (h.first ∷ h.further))
            ∙ ap (λ (p : List Part). r.body ++ p) (sym (map-append key h.passed (h.first ∷ h.further)))
            ∙ ap (λ (ks : List (List ℕ)). r.body ++ map key ks) (sym h.parts)
            ∙ h.place;
        count = refl;
        gives = refl;
        holds = refl;
        unsaid = unsaid;
      }

pub remove_takes_dots : RemoveTakesDots
remove_takes_dots s path before value obeys h once = taken s path before value obeys h once
