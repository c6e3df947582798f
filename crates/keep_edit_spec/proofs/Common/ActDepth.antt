-- What makes no value deeper makes no document deeper.
--
-- Theorems: `line_depths`: in a line; `pages_depth`: in all lines; `in_document_depth`: in the document.
use Rattle.std.proofs.Common.{ℕ, ◌+◌, ◌≤◌, List, [], ◌∷◌, ◌++◌, arith, Option, Some, None}
use Rattle.keep_syntax.specs.Tree.{Gap, Name, Body, scalar, array, inline, Entries, none, entry, Value, named_leaves}
use Rattle.keep_syntax.specs.Tree.{opening, closing, comma_leaves, text_of, around, entries_depth, value_depth}
use Rattle.keep_syntax.specs.Tree.{content_depth, depth, Content, blank, keyval, header, element, Line, Ended, Document}
use Rattle.keep_syntax.specs.Tree.{name_leaves, comment_leaves, bom_leaves, ended_leaves}
use Rattle.keep_path.specs.Path.{Part}
use Rattle.keep_meaning.specs.Marks.{Reading}
use Rattle.keep_meaning.specs.Meaning.{step, after_line}
use Rattle.keep_edit_spec.specs.Look.{strip}
use Rattle.keep_edit_spec.specs.Changed.{Changed, within, or_else}
use Rattle.keep_edit_spec.specs.Values.{Act, in_entries, in_value, entry_prefix, entry_back}
use Rattle.keep_edit_spec.specs.Lines.{Page, page_of, in_content, in_line, in_lines, in_document, with_page, page_text}
use Rattle.keep_edit_spec.proofs.Common.SetLaw.{EachTo, to_within, to_or_else}
use Rattle.keep_edit_spec.proofs.Common.DoneInDocument.{page_depth}

abbrev pub NoDeeper : Value → Value → Type 0
NoDeeper v v' = value_depth v' ≤ value_depth v

abbrev pub NoDeeperIn : Entries → Entries → Type 0
NoDeeperIn es es' = entries_depth es' ≤ entries_depth es

abbrev pub NoDeeperLine : Line → Line → Type 0
NoDeeperLine l l' = content_depth l'.content ≤ content_depth l.content

abbrev pub NoDeeperPage : Page → Page → Type 0
NoDeeperPage p p' = page_depth p' ≤ page_depth p

-- an act that makes no value deeper
abbrev pub IsActFlat : Act → Type 0
IsActFlat act = (more : List Part) (v : Value) → EachTo (NoDeeper v) (act more v)

-- ---- in a value

pub around_less : (b : Body) (m n : ℕ) → m ≤ n → around b m ≤ around b n
around_less (scalar w) m n h = omega arith
around_less (array first) m n h = omega (arith, h)
around_less (inline first) m n h = omega (arith, h)

value_by : (act : Act) → IsActFlat act → (more : List Part) (body : Body) (es : Entries)
    → EachTo (NoDeeperIn es) (in_entries act more 0 es) → EachTo (NoDeeper (record { body = body; nested = es }))
    (or_else (within (λ fs. record { body = body; nested = fs }) (text_of (opening body)) (text_of (closing body))
    (in_entries act more 0 es)) (act more (record { body = body; nested = es })))
value_by act flat more body es h =
    to_or_else (NoDeeper (record { body = body; nested = es }))
    (within (λ fs. record { body = body; nested = fs }) (text_of (opening body)) (text_of (closing body))
    (in_entries act more 0 es)) (act more (record { body = body; nested = es }))
    (to_within (NoDeeperIn es) (NoDeeper (record { body = body; nested = es }))
    (λ fs. record { body = body; nested = fs }) (text_of (opening body)) (text_of (closing body))
    (in_entries act more 0 es)
    (λ fs k. around_less body (entries_depth fs) (entries_depth es) k) h)
    (flat more (record { body = body; nested = es }))

entries_by : (act : Act) → IsActFlat act
    → (path : List Part) (n : ℕ) (name : Option Name) (body : Body) (nested : Entries) (after : Gap)
    (comma : Option Gap) (rest : Entries)
    → EachTo (NoDeeperIn rest) (in_entries act path (n + 1) rest)
    → ((more : List Part) → EachTo (NoDeeperIn nested) (in_entries act more 0 nested))
    → (o : Option (List Part))
    → EachTo (NoDeeperIn (entry name body nested after comma rest)) (elim o [
      | None ↦
          within (entry name body nested after comma)
          (entry_prefix name body nested ++ (text_of after ++ text_of (comma_leaves comma))) []
          (in_entries act path (n + 1) rest)
      | Some more ↦
          within (λ v. entry name v.body v.nested after comma rest) (text_of (named_leaves name))
          (entry_back after comma rest)
          (or_else (within (λ es. record { body = body; nested = es }) (text_of (opening body)) (text_of (closing body))
          (in_entries act more 0 nested))
          (act more (record { body = body; nested = nested })))
    ])
entries_by act flat path n name body nested after comma rest further deeper None =
    to_within (NoDeeperIn rest) (NoDeeperIn (entry name body nested after comma rest))
    (entry name body nested after comma)
    (entry_prefix name body nested ++ (text_of after ++ text_of (comma_leaves comma))) []
    (in_entries act path (n + 1) rest) (λ es h. omega (arith, h)) further
entries_by act flat path n name body nested after comma rest further deeper (Some more) =
    to_within (NoDeeper (record { body = body; nested = nested }))
    (NoDeeperIn (entry name body nested after comma rest)) (λ v. entry name v.body v.nested after comma rest)
    (text_of (named_leaves name)) (entry_back after comma rest)
    _ (λ v h. omega (arith, h)) (value_by act flat more body nested (deeper more))

in_entries_depth : (act : Act) → IsActFlat act → (path : List Part) (n : ℕ) (es : Entries)
    → EachTo (NoDeeperIn es) (in_entries act path n es)
in_entries_depth act flat path n none = tt
in_entries_depth act flat path n (entry name body nested after comma rest) =
    entries_by act flat path n name body nested after comma rest (in_entries_depth act flat path (n + 1) rest)
    (λ more. in_entries_depth act flat more 0 nested) (strip (step n name) path)

-- ---- in lines

abbrev NoDeeperContent : Content → Content → Type 0
NoDeeperContent c c' = content_depth c' ≤ content_depth c

content_depths : (act : Act) → IsActFlat act → (body path : List Part) (c : Content)
    → EachTo (NoDeeperContent c) (in_content act body path c)
content_depths act flat body path blank = tt
content_depths act flat body path (header b k a) = tt
content_depths act flat body path (element b k a) = tt
content_depths act flat body path (keyval name v) = by (strip (body ++ step 0 (Some name)) path)
  where
    by : (o : Option (List Part))
        → EachTo {A = Content} (NoDeeperContent (keyval name v))
        (elim o [
          | None ↦ None
          | Some more ↦
              within (keyval name) (text_of (name_leaves name)) [] (in_value act more v)
        ])
    by None = tt
    by (Some more) =
        to_within (NoDeeper v) (NoDeeperContent (keyval name v)) (keyval name) (text_of (name_leaves name)) []
        (in_value act more v) (λ v' h. h)
        (value_by act flat more v.body v.nested (in_entries_depth act flat more 0 v.nested))

pub line_depths : (act : Act) → IsActFlat act → (path : List Part) (r : Reading) (l : Line)
    → EachTo (NoDeeperLine l) (in_line act path r l)
line_depths act flat path r l =
    to_within (NoDeeperContent l.content) (NoDeeperLine l) (λ c. record l { content = c }) (text_of l.before)
    (text_of l.after ++ text_of (comment_leaves l.comment)) (in_content act r.body path l.content)
    (λ c h. h) (content_depths act flat r.body path l.content)

pub pages_depth : (f : Reading → Line → Option (Changed Line))
    → ((r : Reading) (l : Line) → EachTo (NoDeeperLine l) (f r l)) → (r : Reading) (es : List Ended) (last : Line)
    → EachTo (NoDeeperPage (record { ended = es; last = last })) (in_lines f r es last)
pages_depth f h r [] last =
    to_within (NoDeeperLine last) (NoDeeperPage (record { ended = []; last = last }))
    (λ l. record { ended = []; last = l }) [] [] (f r last) (λ l k. omega (arith, k)) (h r last)
pages_depth f h r (e ∷ es) last =
    let whole : Page = record { ended = e ∷ es; last = last } in
    let rest : Page = record { ended = es; last = last } in
    let here : Line → Page = λ l. record { ended = record { line = l; newline = e.newline } ∷ es; last = last } in
    let there : Page → Page = λ b. record { ended = e ∷ b.ended; last = b.last } in
    to_or_else (NoDeeperPage whole) (within here [] (e.newline.text ++ page_text rest) (f r e.line))
    (within there (text_of (ended_leaves e)) [] (in_lines f (after_line r e.line) es last))
    (to_within (NoDeeperLine e.line) (NoDeeperPage whole) here [] (e.newline.text ++ page_text rest) (f r e.line)
    (λ l k. omega (arith, k)) (h r e.line))
    (to_within (NoDeeperPage rest) (NoDeeperPage whole) there (text_of (ended_leaves e)) []
    (in_lines f (after_line r e.line) es last) (λ b k. omega (arith, k))
    (pages_depth f h (after_line r e.line) es last))

-- ---- in the document

pub in_document_depth : (s : Document) (o : Option (Changed Page)) → EachTo (NoDeeperPage (page_of s)) o
    → EachTo (λ s'. depth s' ≤ depth s) (in_document s o)
in_document_depth s o h =
    to_within (NoDeeperPage (page_of s)) (λ s'. depth s' ≤ depth s) (with_page s) (text_of (bom_leaves s.bom)) [] o
    (λ b k. k) h
