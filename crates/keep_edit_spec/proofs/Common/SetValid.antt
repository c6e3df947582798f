-- After `set` the tree is a document of the grammar.
--
-- The proof follows the search for the value: if an act makes a valid value of a valid one (`IsActValid`), then
-- entries, values and lines in which it is done stay valid (`valid_entries`, `valid_in_value`, `valid_line`). The
-- grammar looks at each part by itself, but for two places. Whether a comma must come after an entry depends on whether
-- an entry follows, so the induction over entries also says that there are some after the act exactly if there were
-- some before (`SameEnd`, `comma_preserved`). What may come after a line's content depends on its kind, so a keyval
-- stays a keyval (`SameKind`, `after_preserved`). To replace a value by a valid one is such an act (`valid_replaced`).
--
-- Theorems: `valid_line`: a line stays valid by such an act; `valid_lines`: all lines do by such a change of one;
-- `valid_set`: the document does by `set`.
use Rattle.std.proofs.Common.{ℕ, ◌+◌, List, [], ◌∷◌, ◌++◌, Option, Some, None}
use Rattle.std.specs.Prelude.{⊤}
use Rattle.std.specs.List.{AllByRecursion}
use Rattle.keep_types.specs.declared.leaf.Profile.{Profile}
use Rattle.keep_syntax.specs.Tree.{Gap, Name, name_leaves, named_leaves, opening, closing, comma_leaves, Body, Entries}
use Rattle.keep_syntax.specs.Tree.{none, entry, Value, Content, blank, keyval, header, element, Line, Ended, Document}
use Rattle.keep_syntax.specs.Tree.{ended_leaves, text_of}
use Rattle.keep_syntax.specs.Grammar.{IsComma, AreEntries, IsValue, IsContent, IsLine, IsEnded, IsDocument, IsAfter}
use Rattle.keep_syntax.specs.Grammar.{Place, place_in}
use Rattle.keep_path.specs.Path.{Part}
use Rattle.keep_meaning.specs.Marks.{Reading, start}
use Rattle.keep_meaning.specs.Meaning.{step, after_line}
use Rattle.keep_edit_spec.specs.Look.{strip}
use Rattle.keep_edit_spec.specs.Changed.{Changed, within, or_else}
use Rattle.keep_edit_spec.specs.Values.{Act, entry_prefix, entry_back, in_entries, in_value, replacement}
use Rattle.keep_edit_spec.specs.Lines.{Page, page_text, in_content, in_line, in_lines, with_page}
use Rattle.keep_edit_spec.specs.Edits.{set, change}
use Rattle.keep_edit_spec.proofs.Common.SetLaw.{EachTo, to_within, to_or_else}

-- both empty or neither
abbrev pub SameEnd : Entries → Entries → Type 0
SameEnd none none = ⊤
SameEnd (entry a b c d e f) (entry a' b' c' d' e' f') = ⊤
SameEnd _ _ = ⊥

pub comma_preserved : (profile : Profile) (place : Place) (comma : Option Gap) (rest rest' : Entries)
    → SameEnd rest rest' → IsComma profile place comma rest → IsComma profile place comma rest'
comma_preserved profile place comma none none s h = h
comma_preserved profile place None (entry a b c d e f) (entry a' b' c' d' e' f') s h = h
comma_preserved profile place (Some g) (entry a b c d e f) (entry a' b' c' d' e' f') s h = h
comma_preserved profile place comma none (entry a' b' c' d' e' f') s h = absurd s
comma_preserved profile place comma (entry a b c d e f) none s h = absurd s

pub record AreStill (profile : Profile) (place : Place) (from to : Entries) : Type 0 where
  pub entries : AreEntries profile place to
  pub end : SameEnd from to

abbrev pub IsActValid : Profile → Act → Type 0
IsActValid profile act = (more : List Part) (v : Value) → IsValue profile v → EachTo (IsValue profile) (act more v)

valid_value-by : (profile : Profile) (act : Act) → IsActValid profile act
    → (more : List Part) (body : Body) (nested : Entries) (left right : List ℕ)
    → IsValue profile (record { body = body; nested = nested })
    → EachTo (AreStill profile (place_in body) nested) (in_entries act more 0 nested)
    → EachTo (IsValue profile) (or_else
    (within (λ es. record { body = body; nested = es }) left right (in_entries act more 0 nested))
    (act more (record { body = body; nested = nested })))
valid_value-by profile act good more body nested left right v h =
    to_or_else (IsValue profile) _ _
    (to_within (AreStill profile (place_in body) nested) (IsValue profile) (λ es. record { body = body; nested = es })
    left right (in_entries act more 0 nested)
    (λ es k. record { body = v.body; nested = k.entries }) h)
    (good more (record { body = body; nested = nested }) v)

valid_entries-by : (profile : Profile) (place : Place) (act : Act) → IsActValid profile act
    → (path : List Part) (n : ℕ) (name : Option Name) (body : Body) (nested : Entries) (after : Gap)
    (comma : Option Gap) (rest : Entries)
    → AreEntries profile place (entry name body nested after comma rest)
    → EachTo (AreStill profile place rest) (in_entries act path (n + 1) rest)
    → ((more : List Part) → EachTo (AreStill profile (place_in body) nested) (in_entries act more 0 nested))
    → (o : Option (List Part)) → EachTo (AreStill profile place (entry name body nested after comma rest)) (elim o [
      | None ↦
          within (entry name body nested after comma)
          (entry_prefix name body nested ++ (text_of after ++ text_of (comma_leaves comma))) []
          (in_entries act path (n + 1) rest)
      | Some more ↦
          within (λ v. entry name v.body v.nested after comma rest) (text_of (named_leaves name))
          (entry_back after comma rest)
          (or_else (within (λ es. record { body = body; nested = es }) (text_of (opening body)) (text_of (closing body))
          (in_entries act more 0 nested))
          (act more (record { body = body; nested = nested })))
    ])
valid_entries-by profile place act good path n name body nested after comma rest (hn, hb, hi, ha, hc, hr) further deeper
    None =
    to_within (AreStill profile place rest) (AreStill profile place (entry name body nested after comma rest))
    (entry name body nested after comma) _ [] (in_entries act path (n + 1) rest)
    (λ es k.
    record { entries = (hn, hb, hi, ha, comma_preserved profile place comma rest es k.end hc, k.entries); end = tt })
    further
valid_entries-by profile place act good path n name body nested after comma rest (hn, hb, hi, ha, hc, hr) further deeper
    (Some more) =
    to_within (IsValue profile) (AreStill profile place (entry name body nested after comma rest))
    (λ v. entry name v.body v.nested after comma rest) _ _ _
    (λ v k. record { entries = (hn, k.body, k.nested, ha, hc, hr); end = tt })
    (valid_value-by profile act good more body nested (text_of (opening body)) (text_of (closing body))
    (record { body = hb; nested = hi }) (deeper more))

valid_entries : (profile : Profile) (place : Place) (act : Act) → IsActValid profile act
    → (path : List Part) (n : ℕ) (es : Entries) → AreEntries profile place es
    → EachTo (AreStill profile place es) (in_entries act path n es)
valid_entries profile place act good path n none h = tt
valid_entries profile place act good path n (entry name body nested after comma rest) (hn, hb, hi, ha, hc, hr) =
    valid_entries-by profile place act good path n name body nested after comma rest (hn, hb, hi, ha, hc, hr)
    (valid_entries profile place act good path (n + 1) rest hr)
    (λ more. valid_entries profile (place_in body) act good more 0 nested hi) (strip (step n name) path)

pub valid_in_value : (profile : Profile) (act : Act) → IsActValid profile act → IsActValid profile (in_value act)
valid_in_value profile act good more v h =
    valid_value-by profile act good more v.body v.nested (text_of (opening v.body)) (text_of (closing v.body)) h
    (valid_entries profile (place_in v.body) act good more 0 v.nested h.nested)

pub valid_replaced : (profile : Profile) (new : Value) → IsValue profile new → IsActValid profile (replacement new)
valid_replaced profile new h [] v k = h
valid_replaced profile new h (p ∷ ps) v k = tt

-- a keyval stays a keyval
abbrev pub SameKind : Content → Content → Type 0
SameKind (keyval a b) (keyval c d) = ⊤
SameKind _ _ = ⊥

after_preserved : (c d : Content) (g : Gap) → SameKind c d → IsAfter c g → IsAfter d g
after_preserved (keyval a b) (keyval c d) g s h = h
after_preserved (keyval a b) blank g s h = absurd s
after_preserved (keyval a b) (header c d e) g s h = absurd s
after_preserved (keyval a b) (element c d e) g s h = absurd s
after_preserved blank d g s h = absurd s
after_preserved (header a b c) d g s h = absurd s
after_preserved (element a b c) d g s h = absurd s

valid_content-by : (profile : Profile) (act : Act) → IsActValid profile act → (name : Name) (v : Value)
    → IsContent profile (keyval name v) → (o : Option (List Part))
    → EachTo (λ c. IsContent profile c × SameKind (keyval name v) c) (elim o [
      | None ↦ None
      | Some more ↦ within (keyval name) (text_of (name_leaves name)) [] (in_value act more v)
    ])
valid_content-by profile act good name v h None = tt
valid_content-by profile act good name v h (Some more) =
    to_within (IsValue profile) (λ c. IsContent profile c × SameKind (keyval name v) c) (keyval name) _ []
    (in_value act more v) (λ w k. ((h.0, k), tt)) (valid_in_value profile act good more v h.1)

valid_content : (profile : Profile) (act : Act) → IsActValid profile act → (body path : List Part) (c : Content)
    → IsContent profile c → EachTo (λ d. IsContent profile d × SameKind c d) (in_content act body path c)
valid_content profile act good body path blank h = tt
valid_content profile act good body path (keyval name v) h =
    valid_content-by profile act good name v h (strip (body ++ step 0 (Some name)) path)
valid_content profile act good body path (header b k a) h = tt
valid_content profile act good body path (element b k a) h = tt

pub valid_line : (profile : Profile) (act : Act) → IsActValid profile act → (path : List Part) (r : Reading) (l : Line)
    → IsLine profile l → EachTo (IsLine profile) (in_line act path r l)
valid_line profile act good path r l h =
    to_within (λ d. IsContent profile d × SameKind l.content d) (IsLine profile) (λ c. record l { content = c }) _ _
    (in_content act r.body path l.content)
    (λ d k. record {
      before = h.before;
      content = k.0;
      after = after_preserved l.content d l.after k.1 h.after;
      comment = h.comment;
    }) (valid_content profile act good r.body path l.content h.content)

pub record IsPage (profile : Profile) (p : Page) : Type 0 where
  pub ended : AllByRecursion (IsEnded profile) p.ended
  pub last : IsLine profile p.last

-- whatever is done in lines that keeps each a line
pub valid_lines : (profile : Profile) (f : Reading → Line → Option (Changed Line))
    → ((r : Reading) (l : Line) → IsLine profile l → EachTo (IsLine profile) (f r l))
    → (r : Reading) (es : List Ended) (last : Line) → AllByRecursion (IsEnded profile) es → IsLine profile last
    → EachTo (IsPage profile) (in_lines f r es last)
valid_lines profile f good r [] last he hl =
    to_within (IsLine profile) (IsPage profile) (λ l. record { ended = []; last = l }) [] [] (f r last)
    (λ l k. record { ended = tt; last = k }) (good r last hl)
valid_lines profile f good r (e ∷ es) last he hl =
    to_or_else (IsPage profile) _ _
    (to_within (IsLine profile) (IsPage profile)
    (λ l. record { ended = record { line = l; newline = e.newline } ∷ es; last = last }) []
    (e.newline.text ++ page_text (record { ended = es; last = last })) (f r e.line)
    (λ l k. record { ended = (record { line = k; kind = he.0.kind; newline = he.0.newline }, he.1); last = hl })
    (good r e.line he.0.line))
    (to_within (IsPage profile) (IsPage profile) (λ b. record { ended = e ∷ b.ended; last = b.last })
    (text_of (ended_leaves e)) [] (in_lines f (after_line r e.line) es last)
    (λ p k. record { ended = (he.0, k.ended); last = k.last })
    (valid_lines profile f good (after_line r e.line) es last he.1 hl))

pub valid_set : (profile : Profile) (s : Document) (path : List Part) (new : Value) → IsDocument profile s
    → IsValue profile new → EachTo (IsDocument profile) (change s (set path new))
valid_set profile s path new h hv =
    to_within (IsPage profile) (IsDocument profile) (with_page s) _ []
    (in_lines (in_line (replacement new) path) start s.ended s.last)
    (λ p k. record { ended = k.ended; last = k.last })
    (valid_lines profile (in_line (replacement new) path)
    (λ r l. valid_line profile (replacement new) (valid_replaced profile new hv) path r l) start s.ended s.last h.ended
    h.last)
