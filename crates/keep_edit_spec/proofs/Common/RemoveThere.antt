-- Where a value is at a path, `remove` has a change.
--
-- That the search for a value succeeds is known (`some_nested`), for an act that is done at the end of any path
-- (`reached`). Here it is carried over to `removal`, which acts one level higher: on the brackets that the value is in.
-- So each step has two outcomes: there is a change inside, or the path names the part that was looked at (`value_by`,
-- `entries_by`, by induction over the entries). An entry that is named can be taken out (`some_take_out`). If the path
-- names a keyval's line, the line itself is cleared or dropped (`some_lines`, `dropped`).
--
-- Theorem: `some_of_value`.
use Rattle.std.proofs.Common.{◌≡◌, ℕ, zero, suc, ◌+◌, Bool, true, false, cond, List, [], ◌∷◌, ◌++◌, map, refl, sym, ap}
use Rattle.std.proofs.Common.{◌∙◌, Option, Some, None, ◌⊎◌, inl, inr}
use Rattle.std.specs.Prelude.{codes, drop}
use Rattle.std.proofs.lemmas.List.{append-nil}
use Rattle.keep_types.specs.declared.leaf.Profile.{Profile}
use Rattle.keep_syntax.specs.Tree.{Written, Gap, Name, Body, scalar, array, inline, Entries, none, entry, Value}
use Rattle.keep_syntax.specs.Tree.{named_leaves, opening, closing, comma_leaves, text_of, Content, blank, keyval}
use Rattle.keep_syntax.specs.Tree.{header, element, Line, Ended, Document, name_leaves, comment_leaves, bom_leaves}
use Rattle.keep_syntax.specs.Tree.{ended_leaves}
use Rattle.keep_syntax.specs.Grammar.{Place, place_in, AreEntries, IsValue, IsContent, IsLine, IsEnded, IsDocument}
use Rattle.std.specs.List.{AllByRecursion}
use Rattle.keep_path.specs.Path.{Part, same_path}
use Rattle.keep_meaning.specs.Marks.{Reading, start}
use Rattle.keep_meaning.specs.Meaning.{step, after_line, lines, line_of, mentions_in}
use Rattle.keep_edit_spec.specs.Look.{strip}
use Rattle.keep_edit_spec.specs.Changed.{Changed, within, or_else}
use Rattle.keep_edit_spec.specs.Values.{Act, replacement, in_entries, in_value, entry_prefix, entry_back, take_out}
use Rattle.keep_edit_spec.specs.Values.{taken_only, taken_first, taken_last, is_last_named, removal, Row}
use Rattle.keep_edit_spec.specs.Lines.{Page, in_content, in_line, in_lines, in_document, with_page, page_text}
use Rattle.keep_edit_spec.specs.Lines.{last_line, begins, body_length}
use Rattle.keep_edit_spec.specs.Edits.{remove, change, nested, is_own, clear_line, without_lines}
use Rattle.keep_edit_spec.proofs.Common.Runs.{SomeOf, Rules, same_path-refl, strip-sound}
use Rattle.keep_edit_spec.proofs.Common.SetLaw.{IsAloneAt}
use Rattle.keep_edit_spec.proofs.Common.ValueThere.{IsSome, some_within, some_first, some_second, some_nested}

-- ---- what comes of less

within_some : {A B : Type 0} (outer : A → B) (left right : List ℕ) (o : Option (Changed A))
    → IsSome (within outer left right o) → IsSome o
within_some outer left right None s = s
within_some outer left right (Some c) s = tt

either_some : {A : Type 0} (o p : Option A) → IsSome (or_else o p) → IsSome o ⊎ IsSome p
either_some None p s = inr s
either_some (Some c) p s = inl tt

-- an act that is done at the end of a path
abbrev pub reached : Act
reached more v = replacement v more v

-- ---- an entry that is named can be taken out

abbrev pub IsNamedIn : List Part → ℕ → Entries → Type 0
IsNamedIn path n none = ⊥
IsNamedIn path n (entry name body nested after comma rest) =
    (same_path (step n name) path ≡ true) ⊎ IsNamedIn path (n + 1) rest

some_two : (path : List Part) (n : ℕ) (gap : Gap) (name : Option Name) (body : Body) (nested : Entries)
    (after next_gap : Gap)
    (name' : Option Name) (body' : Body) (nested' : Entries) (after' : Gap) (comma' : Option Gap) (rest' : Entries)
    (further : Option (Changed Row)) (b c : Bool)
    → (b ≡ true) ⊎ IsSome further
    → IsSome {A = Changed Row} (elim b [
      | true ↦ Some (taken_first gap name body nested after next_gap (entry name' body' nested' after' comma' rest'))
      | false ↦ elim c [
        | true ↦ Some (taken_last gap name body nested after next_gap name' body' nested' after')
        | false ↦ within (λ r. record { gap = gap; entries = entry name body nested after (Some r.gap) r.entries })
            (text_of gap ++ (entry_prefix name body nested ++ (text_of after ++ codes ","))) [] further
      ]
    ])
some_two path n gap name body nested after next_gap name' body' nested' after' comma' rest' further true c s = tt
some_two path n gap name body nested after next_gap name' body' nested' after' comma' rest' further false true s = tt
some_two path n gap name body nested after next_gap name' body' nested' after' comma' rest' further false false
    (inl e) = absurd cc
some_two path n gap name body nested after next_gap name' body' nested' after' comma' rest' further false false
    (inr s) =
    some_within (λ r. record { gap = gap; entries = entry name body nested after (Some r.gap) r.entries })
    (text_of gap ++ (entry_prefix name body nested ++ (text_of after ++ codes ","))) [] further s

some_only : (b : Bool) (c : Changed Row) → (b ≡ true) ⊎ ⊥
    → IsSome {A = Changed Row} (elim b [ true ↦ Some c | false ↦ None ])
some_only true c s = tt
some_only false c (inl e) = absurd cc
some_only false c (inr s) = absurd s

some_take_out : (profile : Profile) (place : Place) (path : List Part) (n : ℕ) (gap : Gap) (es : Entries)
    → AreEntries profile place es → IsNamedIn path n es → IsSome (take_out path n gap es)
some_take_out profile place path n gap none valid s = absurd s
some_take_out profile place path n gap (entry name body nested after None none) valid s =
    some_only (same_path (step n name) path) (taken_only gap name body nested after) s
some_take_out profile place path n gap
    (entry name body nested after None (entry name' body' nested' after' comma' rest')) valid s = absurd valid.4
some_take_out profile place path n gap (entry name body nested after (Some next_gap) none) valid s =
    some_only (same_path (step n name) path) (taken_first gap name body nested after next_gap none) s
some_take_out profile place path n gap
    (entry name body nested after (Some next_gap) (entry name' body' nested' after' comma' rest')) valid s =
    some_two path n gap name body nested after next_gap name' body' nested' after' comma' rest'
    (take_out path (n + 1) next_gap (entry name' body' nested' after' comma' rest'))
    (same_path (step n name) path) (is_last_named path (n + 1) (entry name' body' nested' after' comma' rest'))
    (elim s [
      | inl e ↦ inl e
      | inr k ↦
          inr (some_take_out profile place path (n + 1) next_gap (entry name' body' nested' after' comma' rest') valid.5
          k)
    ])

no_scalar : (profile : Profile) (w : Written) (path : List Part) (es : Entries)
    → IsValue profile (record { body = scalar w; nested = es }) → IsNamedIn path 0 es → ⊥
no_scalar profile w path none valid s = s
no_scalar profile w path (entry None body nested after comma rest) valid s = valid.nested.0
no_scalar profile w path (entry (Some name) body nested after comma rest) valid s = valid.nested.0

pub some_removal : (profile : Profile) (path : List Part) (body : Body) (es : Entries)
    → IsValue profile (record { body = body; nested = es }) → IsNamedIn path 0 es
    → IsSome (removal path (record { body = body; nested = es }))
some_removal profile path (scalar w) es valid s = absurd (no_scalar profile w path es valid s)
some_removal profile path (array first) es valid s =
    some_within (λ r. record { body = array r.gap; nested = r.entries }) (codes "[") (codes "]")
    (take_out path 0 first es) (some_take_out profile _ path 0 first es valid.nested s)
some_removal profile path (inline first) es valid s =
    some_within (λ r. record { body = inline r.gap; nested = r.entries }) (codes "{") (codes "}")
    (take_out path 0 first es) (some_take_out profile _ path 0 first es valid.nested s)

-- ---- in entries

-- the value at the rest of a path is reached, so it can be taken out above, or the path ends there
value_by : (profile : Profile) (more : List Part) (body : Body) (es : Entries)
    → IsValue profile (record { body = body; nested = es })
    → IsSome (or_else (within (λ fs. record { body = body; nested = fs }) (text_of (opening body))
    (text_of (closing body)) (in_entries reached more 0 es)) (reached more (record { body = body; nested = es })))
    → (IsSome (in_entries reached more 0 es) → IsSome (in_entries removal more 0 es) ⊎ IsNamedIn more 0 es)
    → (more ≡ []) ⊎ IsSome (or_else
    (within (λ fs. record { body = body; nested = fs }) (text_of (opening body)) (text_of (closing body))
    (in_entries removal more 0 es)) (removal more (record { body = body; nested = es })))
value_by profile [] body es valid s deeper = inl refl
value_by profile (q ∷ qs) body es valid s deeper =
    let outer : Entries → Value = λ fs. record { body = body; nested = fs } in
    let left = text_of (opening body) in
    let right = text_of (closing body) in
    let more : List Part = q ∷ qs in
    let v : Value = record { body = body; nested = es } in
    elim (either_some (within outer left right (in_entries reached more 0 es)) (reached more v) s) [
      | inl there ↦ inr (elim (deeper (within_some outer left right (in_entries reached more 0 es) there)) [
        | inl inner ↦
            some_first (within outer left right (in_entries removal more 0 es)) (removal more v)
            (some_within outer left right (in_entries removal more 0 es) inner)
        | inr named ↦
            some_second (within outer left right (in_entries removal more 0 es)) (removal more v)
            (some_removal profile more body es valid named)
      ])
      | inr end ↦ absurd end
    ]

entries_by : (profile : Profile) (path : List Part) (n : ℕ) (name : Option Name) (body : Body) (nested : Entries)
    (after : Gap) (comma : Option Gap) (rest : Entries)
    → IsValue profile (record { body = body; nested = nested })
    → (IsSome (in_entries reached path (n + 1) rest)
    → IsSome (in_entries removal path (n + 1) rest) ⊎ IsNamedIn path (n + 1) rest)
    → ((more : List Part) → IsSome (in_entries reached more 0 nested)
    → IsSome (in_entries removal more 0 nested) ⊎ IsNamedIn more 0 nested)
    → (o : Option (List Part)) → strip (step n name) path ≡ o
    → IsSome {A = Changed Entries} (elim o [
      | None ↦
          within (entry name body nested after comma)
          (entry_prefix name body nested ++ (text_of after ++ text_of (comma_leaves comma))) []
          (in_entries reached path (n + 1) rest)
      | Some more ↦
          within (λ v. entry name v.body v.nested after comma rest) (text_of (named_leaves name))
          (entry_back after comma rest)
          (or_else (within (λ es. record { body = body; nested = es }) (text_of (opening body)) (text_of (closing body))
          (in_entries reached more 0 nested))
          (reached more (record { body = body; nested = nested })))
    ])
    → IsSome {A = Changed Entries} (elim o [
      | None ↦
          within (entry name body nested after comma)
          (entry_prefix name body nested ++ (text_of after ++ text_of (comma_leaves comma))) []
          (in_entries removal path (n + 1) rest)
      | Some more ↦
          within (λ v. entry name v.body v.nested after comma rest) (text_of (named_leaves name))
          (entry_back after comma rest)
          (or_else (within (λ es. record { body = body; nested = es }) (text_of (opening body)) (text_of (closing body))
          (in_entries removal more 0 nested))
          (removal more (record { body = body; nested = nested })))
    ]) ⊎ IsNamedIn path n (entry name body nested after comma rest)
entries_by profile path n name body nested after comma rest valid further deeper None e s =
    let outer : Entries → Entries = entry name body nested after comma in
    let left = entry_prefix name body nested ++ (text_of after ++ text_of (comma_leaves comma)) in
    elim (further (within_some outer left [] (in_entries reached path (n + 1) rest) s)) [
      | inl there ↦ inl (some_within outer left [] (in_entries removal path (n + 1) rest) there)
      | inr named ↦ inr (inr named)
    ]
entries_by profile path n name body nested after comma rest valid further deeper (Some more) e s =
    let outer : Value → Entries = λ v. entry name v.body v.nested after comma rest in
    let left = text_of (named_leaves name) in
    let right = entry_back after comma rest in
    elim (value_by profile more body nested valid (within_some outer left right _ s) (deeper more)) [
      | inl end ↦
          (let whole : step n name ≡ path = sym (append-nil (step n name)) ∙ ap (λ q. step n name ++ q) (sym end)
          ∙ sym (strip-sound (step n name) path more e) in
          inr (inl (ap (same_path (step n name)) (sym whole) ∙ same_path-refl (step n name))))
      | inr there ↦ inl (some_within outer left right _ there)
    ]

some_entries : (profile : Profile) (place : Place) (path : List Part) (n : ℕ) (es : Entries)
    → AreEntries profile place es → IsSome (in_entries reached path n es)
    → IsSome (in_entries removal path n es) ⊎ IsNamedIn path n es
some_entries profile place path n none valid s = absurd s
some_entries profile place path n (entry name body nested after comma rest) valid s =
    entries_by profile path n name body nested after comma rest (record { body = valid.1; nested = valid.2 })
    (some_entries profile place path (n + 1) rest valid.5)
    (λ more. some_entries profile (place_in body) more 0 nested valid.2)
    (strip (step n name) path) refl s

some_value : (profile : Profile) (more : List Part) (v : Value) → IsValue profile v → IsSome (in_value reached more v)
    → (more ≡ []) ⊎ IsSome (in_value removal more v)
some_value profile more v valid s =
    value_by profile more v.body v.nested valid s (some_entries profile (place_in v.body) more 0 v.nested valid.nested)

-- ---- in lines

abbrev own : List Part → Reading → Line → Bool
own path r l = is_own path r l.content

pub some_here : (test : Reading → Line → Bool) (r : Reading) (l : Line) (ls : List Line) → test r l ≡ true
    → IsSome (last_line test r (l ∷ ls))
some_here test r l ls e = by (last_line test (after_line r l) ls)
  where
    by : (o : Option ℕ) → IsSome {A = ℕ} (elim o [ Some n ↦ Some (suc n) | None ↦ cond (test r l) (Some zero) None ])
    by (Some n) = tt
    by None = rw e tt

pub some_later : (test : Reading → Line → Bool) (r : Reading) (l : Line) (ls : List Line)
    → IsSome (last_line test (after_line r l) ls) → IsSome (last_line test r (l ∷ ls))
some_later test r l ls s = by (last_line test (after_line r l) ls) s
  where
    by : (o : Option ℕ) → IsSome o
        → IsSome {A = ℕ} (elim o [ Some n ↦ Some (suc n) | None ↦ cond (test r l) (Some zero) None ])
    by (Some n) s = tt
    by None s = absurd s

content_by : (profile : Profile) (body path : List Part) (name : Name) (v : Value) → IsValue profile v
    → (o : Option (List Part)) → strip (body ++ step 0 (Some name)) path ≡ o
    → IsSome {A = Changed Content}
    (elim o [
      | None ↦ None
      | Some more ↦
          within (keyval name) (text_of (name_leaves name)) [] (in_value reached more v)
    ])
    → (same_path (body ++ step 0 (Some name)) path ≡ true)
    ⊎ IsSome {A = Changed Content}
    (elim o [
      | None ↦ None
      | Some more ↦
          within (keyval name) (text_of (name_leaves name)) [] (in_value removal more v)
    ])
content_by profile body path name v valid None e s = absurd s
content_by profile body path name v valid (Some more) e s =
    let p : List Part = body ++ step 0 (Some name) in
    elim (some_value profile more v valid
    (within_some (keyval name) (text_of (name_leaves name)) [] (in_value reached more v) s)) [
      | inl end ↦
          (let whole : p ≡ path = sym (append-nil p) ∙ ap (λ q. p ++ q) (sym end) ∙ sym (strip-sound p path more e) in
          inl (ap (same_path p) (sym whole) ∙ same_path-refl p))
      | inr there ↦ inr (some_within (keyval name) (text_of (name_leaves name)) [] (in_value removal more v) there)
    ]

some_content : (profile : Profile) (r : Reading) (path : List Part) (c : Content) → IsContent profile c
    → IsSome (in_content reached r.body path c) → (is_own path r c ≡ true) ⊎ IsSome (in_content removal r.body path c)
some_content profile r path blank valid s = absurd s
some_content profile r path (header b k a) valid s = absurd s
some_content profile r path (element b k a) valid s = absurd s
some_content profile r path (keyval name v) valid s =
    content_by profile r.body path name v valid.1 (strip (r.body ++ step 0 (Some name)) path) refl s

some_line : (profile : Profile) (path : List Part) (r : Reading) (l : Line) → IsLine profile l
    → IsSome (in_line reached path r l) → (own path r l ≡ true) ⊎ IsSome (in_line removal path r l)
some_line profile path r l valid s =
    let outer : Content → Line = λ c. record l { content = c } in
    let left = text_of l.before in
    let right = text_of l.after ++ text_of (comment_leaves l.comment) in
    elim (some_content profile r path l.content valid.content
    (within_some outer left right (in_content reached r.body path l.content) s)) [
      | inl e ↦ inl e
      | inr there ↦ inr (some_within outer left right (in_content removal r.body path l.content) there)
    ]

some_lines : (profile : Profile) (path : List Part) (r : Reading) (es : List Ended) (last : Line)
    → AllByRecursion (IsEnded profile) es → IsLine profile last → IsSome (in_lines (in_line reached path) r es last)
    → IsSome (last_line (own path) r (map line_of es ++ last ∷ [])) ⊎ IsSome (in_lines (in_line removal path) r es last)
some_lines profile path r [] last each valid s =
    let outer : Line → Page = λ l. record { ended = []; last = l } in
    elim (some_line profile path r last valid (within_some outer [] [] (in_line reached path r last) s)) [
      | inl e ↦ inl (some_here (own path) r last [] e)
      | inr there ↦ inr (some_within outer [] [] (in_line removal path r last) there)
    ]
some_lines profile path r (e ∷ es) last each valid s =
    let here : Line → Page = λ l. record { ended = record { line = l; newline = e.newline } ∷ es; last = last } in
    let there : Page → Page = λ b. record { ended = e ∷ b.ended; last = b.last } in
    let right = e.newline.text ++ page_text (record { ended = es; last = last }) in
    let left = text_of (ended_leaves e) in
    let next : Reading = after_line r e.line in
    elim (either_some (within here [] right (in_line reached path r e.line))
    (within there left [] (in_lines (in_line reached path) next es last)) s) [
      | inl one ↦
          (elim (some_line profile path r e.line each.0.line
          (within_some here [] right (in_line reached path r e.line) one)) [
            | inl k ↦ inl (some_here (own path) r e.line (map line_of es ++ last ∷ []) k)
            | inr k ↦
                inr (some_first (within here [] right (in_line removal path r e.line))
                (within there left [] (in_lines (in_line removal path) next es last))
                (some_within here [] right (in_line removal path r e.line) k))
          ])
      | inr more ↦
          (elim (some_lines profile path next es last each.1 valid
          (within_some there left [] (in_lines (in_line reached path) next es last) more)) [
            | inl k ↦ inl (some_later (own path) r e.line (map line_of es ++ last ∷ []) k)
            | inr k ↦
                inr (some_second (within here [] right (in_line removal path r e.line))
                (within there left [] (in_lines (in_line removal path) next es last))
                (some_within there left [] (in_lines (in_line removal path) next es last) k))
          ])
    ]

-- ---- in the document

pub dropped : (s : Document) (f : ℕ → ℕ) (o : Option ℕ) → IsSome o
    → IsSome {A = Changed Document} (elim o [ None ↦ None | Some i ↦ without_lines s i (f i) ])
dropped s f None h = absurd h
dropped s f (Some i) h = tt

-- A value is at the path.
pub some_of_value : (profile : Profile) (s : Document) (path : List Part) → IsDocument profile s → Rules (mentions_in s)
    → SomeOf (IsAloneAt path) (mentions_in s) → IsSome (change s (remove path))
some_of_value profile s path valid rules alone =
    let there : IsSome (in_lines (in_line reached path) start s.ended s.last) =
    within_some (with_page s) (text_of (bom_leaves s.bom)) [] (in_lines (in_line reached path) start s.ended s.last)
    (some_nested reached (λ v. tt) path s rules alone) in
    let cleared = in_document s (in_lines (clear_line path) start s.ended s.last) in
    let without : Option (Changed Document) =
    elim (last_line (own path) start (lines s)) [ None ↦ None | Some i ↦ without_lines s i 1 ] in
    let section : Option (Changed Document) =
    elim (last_line (begins path) start (lines s)) [
      | None ↦ None
      | Some i ↦
          without_lines s i (suc (body_length (drop (suc i) (lines s))))
    ] in
    elim (some_lines profile path start s.ended s.last valid.ended valid.last there) [
      | inl line ↦
          some_second cleared (or_else without (or_else section (nested removal path s)))
          (some_first without (or_else section (nested removal path s))
          (dropped s (λ i. 1) (last_line (own path) start (lines s)) line))
      | inr inner ↦
          some_second cleared (or_else without (or_else section (nested removal path s)))
          (some_second without (or_else section (nested removal path s)) (some_second section (nested removal path s)
          (some_within (with_page s) (text_of (bom_leaves s.bom)) []
          (in_lines (in_line removal path) start s.ended s.last) inner)))
    ]
