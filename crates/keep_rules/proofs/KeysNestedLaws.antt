-- With a line of several keys more, of which the first is new, the nodes are nested as before, and so they are without
-- it (`keys_are_nested`, `keys_leave_nested`).
--
-- What the line says is a run of its first key's path and of paths below it, of which nothing else is said. The first
-- key's path is one step below the table that the line is in, which is a node and no array of tables.
--
-- Theorems: `keys_are_nested` and `keys_leave_nested`.
use Rattle.std.proofs.Common.{◌≡◌, ◌<◌, true, false, List, [], ◌∷◌, ◌++◌, refl, sym, ap, subst, ◌∙◌}
use Rattle.std.specs.List.{AllByRecursion}
use Rattle.keep_syntax.specs.Tree.{Document}
use Rattle.keep_path.specs.Path.{Part, key}
use Rattle.keep_meaning.specs.Counts.{statements_in}
use Rattle.keep_meaning.specs.KeysMore.{HasKeysMore, IsUnsaid}
use Rattle.keep_meaning.specs.LinesMore.{path_after}
use Rattle.keep_meaning.specs.Marks.{Mention, dotted, elements_of, entered_path, marks, mentions_from, reading_after}
use Rattle.keep_meaning.specs.Marks.{start, value}
use Rattle.keep_meaning.specs.Meaning.{entries_mentions, keyed_mentions, mentions_in, valued_mentions}
use Rattle.keep_meaning.specs.Nodes.{is_child, is_node}
use Rattle.keep_meaning.specs.Rules.{ObeysRules}
use Rattle.keep_meaning.proofs.Shared.{body_has_no_element, body_is_node}
use Rattle.keep_rules.specs.LinesNested.{KeysAreNested, KeysLeaveNested}
use Rattle.keep_rules.specs.Nested.{AreNested}
use Rattle.keep_rules.proofs.InsideValueLemmas.{AreClosed, IsInside, closed_keys, inside_closed, inside_keys}
use Rattle.keep_rules.proofs.InsideValueLemmas.{inside_known}
use Rattle.keep_rules.proofs.KeyWalkLemmas.{below-below}
use Rattle.keep_rules.proofs.RunLemmas.{run}
use Rattle.keep_rules.proofs.RunNestedLemmas.{child_of_none, elements_named, nested_less, nested_more, said_new}
use Rattle.keep_rules.proofs.RunNestedLemmas.{said_old as said_without, tables_named, tables_same}

module _ (d more : Document) (line : HasKeysMore d more) (unsaid : IsUnsaid d (path_after line.before line.first))
    (obeys : ObeysRules (marks (mentions_in d))) where
  abbrev path : List Part
  path = path_after line.before line.first

  abbrev body : List Part
  body = (reading_after start line.before).body

  abbrev tables : List (List Part)
  tables = (reading_after start (statements_in d)).tables

  abbrev mx : List Mention
  mx = mentions_from start line.before

  abbrev my : List Mention
  my = mentions_from (reading_after start line.before) line.after

  -- what is in the value
  abbrev inner : List Mention
  inner = entries_mentions 0 line.nested

  abbrev valued : List Mention
  valued = valued_mentions (value line.fact) inner

  -- what the line says below its first key
  abbrev further : List Mention
  further = keyed_mentions (line.next ∷ line.further) valued

  abbrev said : List Mention
  said = keyed_mentions (line.first ∷ line.next ∷ line.further) valued

  said_old : mentions_in d ≡ mx ++ my
  said_old = said_without d line.before line.after line.old

  said_more : mentions_in more ≡ mx ++ (run path dotted further ++ my)
  said_more =
      said_new d line.before line.after line.old more said line.new
      ∙ ap (λ (ms : List Mention). mx ++ ((record { path = path; kind = dotted } ∷ ms) ++ my))
      (below-below body (key line.first ∷ []) further)

  tables_are : (reading_after start (statements_in more)).tables ≡ tables
  tables_are = tables_same d line.before line.after line.old more said line.new

  known : AllByRecursion IsInside further
  known = inside_keys line.next line.further line.fact inner (inside_known 0 line.nested)

  closed : AreClosed further
  closed = closed_keys line.next line.further line.fact inner (inside_closed 0 line.nested)

  nothing : (r : List Part) → is_node (path ++ r) (mx ++ my) ≡ false
  nothing r = ap (is_node (path ++ r)) (sym said_old) ∙ unsaid r

  holder : is_node body (mx ++ my) ≡ true
  holder = ap (is_node body) (sym said_old) ∙ body_is_node d line.before line.after line.old

  named : (t : List Part) → 0 < elements_of t tables → is_node t (mx ++ my) ≡ true
  named t some = ap (is_node t) (sym said_old) ∙ tables_named d t some

  last_named : (t : List Part) → 0 < elements_of t tables → is_node (entered_path tables t) (mx ++ my) ≡ true
  last_named t some = ap (is_node (entered_path tables t)) (sym said_old) ∙ elements_named d t some

  not_child : (t : List Part) → 0 < elements_of t tables → is_child t path ≡ false
  not_child t some =
      child_of_none tables body line.first (body_has_no_element d line.before line.after line.old obeys) t some

  nested_with : AreNested (mentions_in d) tables
      → AreNested (mentions_in more) (reading_after start (statements_in more)).tables
  nested_with nested =
      subst (AreNested (mentions_in more)) (sym tables_are)
      (subst (λ (ms : List Mention). AreNested ms tables) (sym said_more)
      (nested_more path mx my dotted further known closed refl refl nothing body (key line.first) refl holder tables
      named last_named not_child (subst (λ (ms : List Mention). AreNested ms tables) said_old nested)))

  nested_without : AreNested (mentions_in more) (reading_after start (statements_in more)).tables
      → AreNested (mentions_in d) tables
  nested_without nested =
      subst (λ (ms : List Mention). AreNested ms tables) (sym said_old)
      (nested_less path mx my dotted further known closed refl refl nothing body (key line.first) refl holder tables
      named last_named not_child
      (subst (λ (ms : List Mention). AreNested ms tables) said_more
      (subst (AreNested (mentions_in more)) tables_are nested)))

pub keys_are_nested : KeysAreNested
keys_are_nested d more line unsaid obeys nested = nested_with d more line unsaid obeys nested

pub keys_leave_nested : KeysLeaveNested
keys_leave_nested d more line unsaid obeys nested = nested_without d more line unsaid obeys nested
