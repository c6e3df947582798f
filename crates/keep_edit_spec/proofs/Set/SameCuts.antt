-- Two acts that cut the same bytes out of each value cut the same bytes out of a document.
--
-- `SameCut` says of two changes that both are there or neither, with the same text before and the same old text. An act
-- is applied by a search that goes along the path through lines, entries and values, the same for both acts. At a value
-- both give the same cut (`AreSameActs`). Each step of the search adds the same text before it (`cut_within`), or takes
-- the first of two changes that is there (`cut_or_else`). So the cut stays the same: in entries (`cut_entries`), in a
-- value (`value_by`), in a line (`cut_line`) and in all lines (`cut_lines`).
--
-- Theorem: `cut_nested`.
use Rattle.std.proofs.Common.{◌≡◌, ℕ, ◌+◌, List, [], ◌∷◌, ◌++◌, ap, Option, Some, None}
use Rattle.std.specs.Prelude.{⊤}
use Rattle.keep_syntax.specs.Tree.{Gap, Name, Body, Entries, none, entry, Value, named_leaves, opening, closing}
use Rattle.keep_syntax.specs.Tree.{comma_leaves, text_of, Content, blank, keyval, header, element, Line, Ended}
use Rattle.keep_syntax.specs.Tree.{Document, name_leaves, comment_leaves, bom_leaves, ended_leaves}
use Rattle.keep_path.specs.Path.{Part}
use Rattle.keep_meaning.specs.Marks.{Reading, start}
use Rattle.keep_meaning.specs.Meaning.{step, after_line}
use Rattle.keep_edit_spec.specs.Look.{strip}
use Rattle.keep_edit_spec.specs.Changed.{Changed, within, or_else}
use Rattle.keep_edit_spec.specs.Values.{Act, in_entries, in_value, entry_prefix, entry_back}
use Rattle.keep_edit_spec.specs.Lines.{Page, page_text, in_content, in_line, in_lines, with_page}
use Rattle.keep_edit_spec.specs.Edits.{nested}

abbrev pub SameCut : {A : Type 0} → Option (Changed A) → Option (Changed A) → Type 0
SameCut None None = ⊤
SameCut None (Some d) = ⊥
SameCut (Some c) None = ⊥
SameCut (Some c) (Some d) = (c.before ≡ d.before) × (c.old ≡ d.old)

abbrev pub AreSameActs : Act → Act → Type 0
AreSameActs act other = (more : List Part) (v : Value) → SameCut (act more v) (other more v)

cut_within : {A B : Type 0} (outer : A → B) (left right : List ℕ) (o p : Option (Changed A)) → SameCut o p
    → SameCut (within outer left right o) (within outer left right p)
cut_within outer left right None None h = tt
cut_within outer left right None (Some d) h = absurd h
cut_within outer left right (Some c) None h = absurd h
cut_within outer left right (Some c) (Some d) h = (ap (λ t. left ++ t) h.0, h.1)

cut_or_else : {A : Type 0} (o p o' p' : Option (Changed A)) → SameCut o p → SameCut o' p'
    → SameCut (or_else o o') (or_else p p')
cut_or_else None None o' p' h g = g
cut_or_else None (Some d) o' p' h g = absurd h
cut_or_else (Some c) None o' p' h g = absurd h
cut_or_else (Some c) (Some d) o' p' h g = h

-- ---- in a value

value_by : (act other : Act) → AreSameActs act other → (more : List Part) (body : Body) (es : Entries)
    → SameCut (in_entries act more 0 es) (in_entries other more 0 es) → SameCut {A = Value}
    (or_else (within (λ fs. record { body = body; nested = fs }) (text_of (opening body)) (text_of (closing body))
    (in_entries act more 0 es)) (act more (record { body = body; nested = es })))
    (or_else (within (λ fs. record { body = body; nested = fs }) (text_of (opening body)) (text_of (closing body))
    (in_entries other more 0 es)) (other more (record { body = body; nested = es })))
value_by act other same more body es h =
    let outer : Entries → Value = λ fs. record { body = body; nested = fs } in
    let left = text_of (opening body) in
    let right = text_of (closing body) in
    cut_or_else (within outer left right (in_entries act more 0 es))
    (within outer left right (in_entries other more 0 es)) (act more (record { body = body; nested = es }))
    (other more (record { body = body; nested = es }))
    (cut_within outer left right (in_entries act more 0 es) (in_entries other more 0 es) h)
    (same more (record { body = body; nested = es }))

entries_by : (act other : Act) → AreSameActs act other
    → (path : List Part) (n : ℕ) (name : Option Name) (body : Body) (nested : Entries) (after : Gap)
    (comma : Option Gap) (rest : Entries)
    → SameCut (in_entries act path (n + 1) rest) (in_entries other path (n + 1) rest)
    → ((more : List Part) → SameCut (in_entries act more 0 nested) (in_entries other more 0 nested))
    → (o : Option (List Part))
    → SameCut {A = Entries} (elim o [
      | None ↦
          within (entry name body nested after comma)
          (entry_prefix name body nested ++ (text_of after ++ text_of (comma_leaves comma))) []
          (in_entries act path (n + 1) rest)
      | Some more ↦
          within (λ v. entry name v.body v.nested after comma rest) (text_of (named_leaves name))
          (entry_back after comma rest)
          (or_else (within (λ es. record { body = body; nested = es }) (text_of (opening body)) (text_of (closing body))
          (in_entries act more 0 nested))
          (act more (record { body = body; nested = nested })))
    ]) (elim o [
      | None ↦
          within (entry name body nested after comma)
          (entry_prefix name body nested ++ (text_of after ++ text_of (comma_leaves comma))) []
          (in_entries other path (n + 1) rest)
      | Some more ↦
          within (λ v. entry name v.body v.nested after comma rest) (text_of (named_leaves name))
          (entry_back after comma rest)
          (or_else (within (λ es. record { body = body; nested = es }) (text_of (opening body)) (text_of (closing body))
          (in_entries other more 0 nested))
          (other more (record { body = body; nested = nested })))
    ])
entries_by act other same path n name body nested after comma rest further deeper None =
    cut_within (entry name body nested after comma)
    (entry_prefix name body nested ++ (text_of after ++ text_of (comma_leaves comma))) []
    (in_entries act path (n + 1) rest) (in_entries other path (n + 1) rest) further
entries_by act other same path n name body nested after comma rest further deeper (Some more) =
    cut_within (λ v. entry name v.body v.nested after comma rest) (text_of (named_leaves name))
    (entry_back after comma rest) _ _ (value_by act other same more body nested (deeper more))

cut_entries : (act other : Act) → AreSameActs act other → (path : List Part) (n : ℕ) (es : Entries)
    → SameCut (in_entries act path n es) (in_entries other path n es)
cut_entries act other same path n none = tt
cut_entries act other same path n (entry name body nested after comma rest) =
    entries_by act other same path n name body nested after comma rest (cut_entries act other same path (n + 1) rest)
    (λ more. cut_entries act other same more 0 nested) (strip (step n name) path)

-- ---- in lines

cut_content : (act other : Act) → AreSameActs act other → (body path : List Part) (c : Content)
    → SameCut (in_content act body path c) (in_content other body path c)
cut_content act other same body path blank = tt
cut_content act other same body path (header b k a) = tt
cut_content act other same body path (element b k a) = tt
cut_content act other same body path (keyval name v) = by (strip (body ++ step 0 (Some name)) path)
  where
    by : (o : Option (List Part))
        → SameCut {A =
        Content} (elim o [
          | None ↦ None
          | Some more ↦
              within (keyval name) (text_of (name_leaves name)) [] (in_value act more v)
        ])
        (elim o [
          | None ↦ None
          | Some more ↦
              within (keyval name) (text_of (name_leaves name)) [] (in_value other more v)
        ])
    by None = tt
    by (Some more) =
        cut_within (keyval name) (text_of (name_leaves name)) [] (in_value act more v) (in_value other more v)
        (value_by act other same more v.body v.nested (cut_entries act other same more 0 v.nested))

cut_line : (act other : Act) → AreSameActs act other → (path : List Part) (r : Reading) (l : Line)
    → SameCut (in_line act path r l) (in_line other path r l)
cut_line act other same path r l =
    cut_within (λ c. record l { content = c }) (text_of l.before)
    (text_of l.after ++ text_of (comment_leaves l.comment)) (in_content act r.body path l.content)
    (in_content other r.body path l.content)
    (cut_content act other same r.body path l.content)

cut_lines : (act other : Act) → AreSameActs act other → (path : List Part) (r : Reading) (es : List Ended) (last : Line)
    → SameCut (in_lines (in_line act path) r es last) (in_lines (in_line other path) r es last)
cut_lines act other same path r [] last =
    cut_within (λ l. record { ended = []; last = l }) [] [] (in_line act path r last) (in_line other path r last)
    (cut_line act other same path r last)
cut_lines act other same path r (e ∷ es) last =
    let here : Line → Page = λ l. record { ended = record { line = l; newline = e.newline } ∷ es; last = last } in
    let there : Page → Page = λ b. record { ended = e ∷ b.ended; last = b.last } in
    let right = e.newline.text ++ page_text (record { ended = es; last = last }) in
    let left = text_of (ended_leaves e) in
    let next : Reading = after_line r e.line in
    cut_or_else (within here [] right (in_line act path r e.line)) (within here [] right (in_line other path r e.line))
    (within there left [] (in_lines (in_line act path) next es last))
    (within there left [] (in_lines (in_line other path) next es last))
    (cut_within here [] right (in_line act path r e.line) (in_line other path r e.line)
    (cut_line act other same path r e.line))
    (cut_within there left [] (in_lines (in_line act path) next es last) (in_lines (in_line other path) next es last)
    (cut_lines act other same path next es last))

pub cut_nested : (act other : Act) → AreSameActs act other → (path : List Part) (s : Document)
    → SameCut (nested act path s) (nested other path s)
cut_nested act other same path s =
    cut_within (with_page s) (text_of (bom_leaves s.bom)) [] (in_lines (in_line act path) start s.ended s.last)
    (in_lines (in_line other path) start s.ended s.last) (cut_lines act other same path start s.ended s.last)
