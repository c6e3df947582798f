-- A rename whose change begins where a line does renames the first key of a keyval in that line's body.
--
-- Before any other key part of a line there is the first key, before a header's keys a bracket, and before what is in a
-- value its keys (`rename_found`, `inside_found`). And a change in another line begins elsewhere, since lines have
-- bytes (`lines_found`, by induction over the lines before it).
--
-- Theorem: `renames_first`.
use Rattle.std.proofs.Common.{◌≡◌, ℕ, zero, suc, ◌+◌, ◌<◌, ◌≤◌, Bool, true, false, not, cond, List, [], ◌∷◌, ◌++◌}
use Rattle.std.proofs.Common.{length, map, take, refl, sym, ap, subst, ◌∙◌, length-append, arith, Option, Some, None}
use Rattle.std.specs.Prelude.{codes, nat_lt, position}
use Rattle.std.specs.List.{AllByRecursion, position_or_len}
use Rattle.keep_types.specs.declared.leaf.Profile.{Profile}
use Rattle.keep_syntax.specs.Grammar.{IsEnded}
use Rattle.keep_syntax.specs.Tree.{Content, Document, Ended, Further, Line, Name, Written, blank, bom_leaves}
use Rattle.keep_syntax.specs.Tree.{comment_leaves, element, ended_leaves, further_leaves, header, keyval, name_leaves}
use Rattle.keep_syntax.specs.Tree.{text_of}
use Rattle.keep_path.specs.Path.{Part, key, same_path, strip}
use Rattle.keep_path.proofs.Shared.{path_decides}
use Rattle.keep_meaning.specs.Marks.{Reading, start}
use Rattle.keep_meaning.specs.Meaning.{after_line, keys_of, line_of, lines, reading_after_lines, step}
use Rattle.keep_edit_spec.specs.Changed.{Changed, framed_change, within}
use Rattle.keep_edit_spec.specs.ClearedLines.{line_start}
use Rattle.keep_edit_spec.specs.Edits.{change, key_part, nested, rename}
use Rattle.keep_edit_spec.specs.Laws.{IsEditable}
use Rattle.keep_edit_spec.specs.Lines.{Page, in_content, in_document, in_line, in_lines, key_prefixes, line_text}
use Rattle.keep_edit_spec.specs.Lines.{page_text, part_paths, reading_at, rename_content, rename_line, with_page}
use Rattle.keep_edit_spec.specs.RenamedKeys.{RenamesKey}
use Rattle.keep_edit_spec.specs.TextChanges.{TextChange}
use Rattle.keep_edit_spec.specs.Values.{in_value, rename_further, rename_name, rename_part, renaming}
use Rattle.keep_edit_spec.proofs.Common.DoneAtValue.{EachOf, of_or_else}
use Rattle.keep_edit_spec.proofs.Common.LineEnds.{ended_ends}
use Rattle.keep_edit_spec.proofs.Common.LineTexts.{in_line-is, rename_line-is}
use Rattle.keep_edit_spec.proofs.Common.Texts.{EachIs, renaming-is}
use Rattle.keep_edit_spec.proofs.Lists.PartPlaces.{cut_long, ended_long, name_some}
use Rattle.keep_edit_spec.proofs.Lists.Places.{width, width_more}
use Rattle.keep_edit_spec.proofs.Lists.RenamePlaces.{IsChangeAt, change_at, placed}
use Rattle.keep_edit_spec.proofs.Rename.RenameWhole.{rename_whole}

-- what holds of a change in a part holds of that in the whole
each_within : {A B : Type 0} (Q : Changed B → Type 0) (outer : A → B) (left right : List ℕ) (o : Option (Changed A))
    → ((c : Changed A) → o ≡ Some c → Q (framed_change outer left right c)) → EachOf Q (within outer left right o)
each_within Q outer left right None f = tt
each_within Q outer left right (Some c) f = f c refl

one_of : {A : Type 0} (P : Changed A → Type 0) (o : Option (Changed A)) (c : Changed A) → EachOf P o → o ≡ Some c → P c
one_of P o c all is = subst (EachOf P) is all

-- ---- in a line

-- the path is that of a key of that body, if the change begins with the text
abbrev IsFirst : {A : Type 0} → List Part → List Part → Changed A → Type 0
IsFirst body path c = length c.before ≡ 0 → (k : List ℕ) × (path ≡ body ++ key k ∷ [])

abbrev HasBefore : {A : Type 0} → Changed A → Type 0
HasBefore c = 0 < length c.before

further_found : (new : Written) (n : ℕ) (fs : List Further) → EachOf HasBefore (rename_further new n fs)
further_found new n [] = tt
further_found new zero (f ∷ fs) =
    omega (
      arith,
      length-append (text_of f.before) (codes "." ++ text_of f.after),
      length-append (codes ".") (text_of f.after),
    )
further_found new (suc m) (f ∷ fs) =
    each_within HasBefore (λ gs. f ∷ gs) (text_of (further_leaves f)) [] (rename_further new m fs) (λ c is.
    omega (
      arith,
      length-append (text_of (further_leaves f)) c.before,
      one_of HasBefore (rename_further new m fs) c (further_found new m fs) is,
    ))

-- where a test passes first, it passes
position_first : {A : Type 0} (test : A → Bool) (x : A) (xs : List A) → position test (x ∷ xs) ≡ Some 0 → test x ≡ true
position_first test x xs e = by (test x) refl
  where
    never : (p : ℕ) (b : Bool) → cond b (Some (1 + p)) None ≡ Some 0 → ⊥
    never p true h = (let same : 1 + p ≡ 0 = cc in omega (arith, same))
    never p false h = cc

    by : (b : Bool) → test x ≡ b → test x ≡ true
    by true is = is
    by false is =
        let long : position_or_len test (x ∷ xs) ≡ 1 + position_or_len test xs =
        ap (λ (b : Bool). cond (not b) (1 + position_or_len test xs) 0) is in
        absurd (never (position_or_len test xs) (nat_lt (1 + position_or_len test xs) (length (x ∷ xs)))
        (sym (ap (λ (n : ℕ). cond (nat_lt n (length (x ∷ xs))) (Some n) None) long) ∙ e))

-- the first key part
part_found : (body path : List Part) (new : Written) (name : Name) (n : ℕ)
    → position (same_path path) (map (λ prefix. body ++ map key prefix) (key_prefixes (keys_of name.key))) ≡ Some n
    → EachOf (IsFirst body path) (rename_part new n name.key)
part_found body path new name zero is = λ none. (
  _,
  (path_decides path (body ++ map key (_ ∷ []))).0 (position_first (same_path path) _ _ is),
)
part_found body path new name (suc m) is =
    each_within (IsFirst body path) (λ fs. record name.key { more = fs }) name.key.first.text []
    (rename_further new m name.key.more) (λ c there none.
    absurd (omega (
      arith,
      none,
      length-append name.key.first.text c.before,
      one_of HasBefore (rename_further new m name.key.more) c (further_found new m name.key.more) there,
    )))

content_found : (path : List Part) (new : Written) (r : Reading) (content : Content) (n : ℕ)
    → position (same_path path) (part_paths r content) ≡ Some n
    → EachOf (IsFirst r.body path) (rename_content new n content)
content_found path new r blank n is = tt
content_found path new r (keyval name value) n is =
    each_within (IsFirst r.body path) _ [] _ (rename_name new n name) (λ c there.
    one_of (IsFirst r.body path) (rename_name new n name) c
    (each_within (IsFirst r.body path) _ [] _ (rename_part new n name.key) (λ d here.
    one_of (IsFirst r.body path) (rename_part new n name.key) d (part_found r.body path new name n is) here)) there)
content_found path new r (header before k after) n is =
    each_within (IsFirst r.body path) _ (codes "[" ++ text_of before) _ (rename_part new n k) (λ c there none.
    absurd (omega (
      arith,
      none,
      length-append (codes "[" ++ text_of before) c.before,
      length-append (codes "[") (text_of before),
    )))
content_found path new r (element before k after) n is =
    each_within (IsFirst r.body path) _ (codes "[[" ++ text_of before) _ (rename_part new n k) (λ c there none.
    absurd (omega (
      arith,
      none,
      length-append (codes "[[" ++ text_of before) c.before,
      length-append (codes "[[") (text_of before),
    )))

rename_found : (path : List Part) (new : Written) (r : Reading) (l : Line)
    → EachOf (IsFirst r.body path) (rename_line new path r l)
rename_found path new r l = by (position (same_path path) (part_paths r l.content)) refl
  where
    by : (o : Option ℕ) → position (same_path path) (part_paths r l.content) ≡ o
        → EachOf (IsFirst r.body path) (elim o [
          | None ↦ None
          | Some n ↦ within (λ c. record l { content = c }) (text_of l.before)
              (text_of l.after ++ text_of (comment_leaves l.comment)) (rename_content new n l.content)
        ])
    by None is = tt
    by (Some n) is =
        each_within (IsFirst r.body path) _ (text_of l.before) _ (rename_content new n l.content) (λ c there none.
        one_of (IsFirst r.body path) (rename_content new n l.content) c (content_found path new r l.content n is) there
        (omega (arith, none, length-append (text_of l.before) c.before)))

-- ---- in a value

inside_content : (path : List Part) (new : Written) (r : Reading) (content : Content)
    → EachOf HasBefore (in_content (renaming new) r.body path content)
inside_content path new r blank = tt
inside_content path new r (header before k after) = tt
inside_content path new r (element before k after) = tt
inside_content path new r (keyval name value) = by (strip (r.body ++ step 0 (Some name)) path)
  where
    some : 0 < length (text_of (name_leaves name))
    some = name_some name

    by : (o : Option (List Part)) → EachOf HasBefore (elim o [
      | None ↦ None
      | Some more ↦ within (keyval name) (text_of (name_leaves name)) [] (in_value (renaming new) more value)
    ])
    by None = tt
    by (Some more) =
        each_within HasBefore (keyval name) (text_of (name_leaves name)) [] (in_value (renaming new) more value)
        (λ c there. omega (arith, some, length-append (text_of (name_leaves name)) c.before))

inside_found : (path : List Part) (new : Written) (r : Reading) (l : Line)
    → EachOf (IsFirst r.body path) (in_line (renaming new) path r l)
inside_found path new r l =
    each_within (IsFirst r.body path) _ (text_of l.before) _ (in_content (renaming new) r.body path l.content)
    (λ c there none.
    absurd (omega (
      arith,
      none,
      length-append (text_of l.before) c.before,
      one_of HasBefore (in_content (renaming new) r.body path l.content) c (inside_content path new r l.content) there,
    )))

-- ---- among the lines

-- where the change begins as a line does, that is its line
record IsFirstOf (path : List Part) (r : Reading) (es : List Ended) (last : Line) (c : Changed Page) : Type 0 where
  found : (n : ℕ) → n ≤ length es → length c.before ≡ width (take n es) → 0 < length c.old
      → (k : List ℕ)
      × (path ≡ (reading_after_lines r (take n (map line_of es ++ last ∷ []))).body ++ key k ∷ [])

module _ (profile : Profile) (path : List Part) (f : Reading → Line → Option (Changed Line))
    (cuts : (r : Reading) (l : Line) → EachIs line_text l (f r l))
    (first : (r : Reading) (l : Line) → EachOf (IsFirst r.body path) (f r l)) where
  lines_found : (r : Reading) (es : List Ended) (last : Line) → AllByRecursion (IsEnded profile) es
      → EachOf (IsFirstOf path r es last) (in_lines f r es last)
  lines_found r [] last valid =
      each_within (IsFirstOf path r [] last) _ [] [] (f r last) (λ c is. record {
        found = by c is;
      })
    where
      by : (c : Changed Line) → f r last ≡ Some c → (n : ℕ) → n ≤ 0 → length c.before ≡ width (take n [])
          → 0 < length c.old
          → (k : List ℕ) × (path ≡ (reading_after_lines r (take n (last ∷ []))).body ++ key k ∷ [])
      by c is zero few starts some = one_of (IsFirst r.body path) (f r last) c (first r last) is starts
      by c is (suc n) few starts some = absurd (omega (arith, few))
  lines_found r (e ∷ es) last valid =
      of_or_else (IsFirstOf path r (e ∷ es) last) _ _
      (each_within (IsFirstOf path r (e ∷ es) last) _ []
      (e.newline.text ++ page_text (record { ended = es; last = last })) (f r e.line)
      (λ c is. record { found = here c is }))
      (each_within (IsFirstOf path r (e ∷ es) last) _ (text_of (ended_leaves e)) []
      (in_lines f (after_line r e.line) es last)
      (λ c is. record {
        found = later c
            (one_of (IsFirstOf path (after_line r e.line) es last) (in_lines f (after_line r e.line) es last) c
            (lines_found (after_line r e.line) es last valid.1) is);
      }))
    where
      here : (c : Changed Line) → f r e.line ≡ Some c → (n : ℕ) → n ≤ suc (length es)
          → length c.before ≡ width (take n (e ∷ es)) → 0 < length c.old
          → (k : List ℕ)
          × (path ≡ (reading_after_lines r (take n (e.line ∷ map line_of es ++ last ∷ []))).body ++ key k ∷ [])
      here c is zero few starts some = one_of (IsFirst r.body path) (f r e.line) c (first r e.line) is starts
      here c is (suc n) few starts some =
          let long = cut_long line_text e.line c (subst (EachIs line_text e.line) is (cuts r e.line)) in
          absurd (omega (arith, long.fits, starts, some, width_more e (take n es), ended_long e))

      later : (c : Changed Page) → IsFirstOf path (after_line r e.line) es last c → (n : ℕ) → n ≤ suc (length es)
          → length (text_of (ended_leaves e) ++ c.before) ≡ width (take n (e ∷ es)) → 0 < length c.old
          → (k : List ℕ)
          × (path ≡ (reading_after_lines r (take n (e.line ∷ map line_of es ++ last ∷ []))).body ++ key k ∷ [])
      later c h zero few starts some =
          absurd (omega (
            arith,
            starts,
            length-append (text_of (ended_leaves e)) c.before,
            (ended_ends profile e valid.0).0,
          ))
      later c h (suc n) few starts some =
          h.found n (omega (arith, few))
          (omega (
            arith,
            starts,
            length-append (text_of (ended_leaves e)) c.before,
            width_more e (take n es),
          )) some

-- ---- in a document

-- The change begins as the line with that number does: the path is that of a key of the line's body.
record IsFirstIn (s : Document) (path : List Part) (c : Changed Document) : Type 0 where
  found : (n : ℕ) → n ≤ length s.ended → length c.before ≡ line_start s n → 0 < length c.old
      → (k : List ℕ) × (path ≡ (reading_at n (lines s)).body ++ key k ∷ [])

document_found : (profile : Profile) (limit : ℕ) (s : Document) (path : List Part)
    (f : Reading → Line → Option (Changed Line)) → IsEditable profile limit s
    → ((r : Reading) (l : Line) → EachIs line_text l (f r l))
    → ((r : Reading) (l : Line) → EachOf (IsFirst r.body path) (f r l))
    → EachOf (IsFirstIn s path) (in_document s (in_lines f start s.ended s.last))
document_found profile limit s path f fine cuts first =
    each_within (IsFirstIn s path) (with_page s) (text_of (bom_leaves s.bom)) [] (in_lines f start s.ended s.last)
    (λ c is. record {
      found = λ n few starts some.
          (one_of (IsFirstOf path start s.ended s.last) (in_lines f start s.ended s.last) c
          (lines_found profile path f cuts first start s.ended s.last fine.valid.ended) is).found n few
          (omega (arith, starts, length-append (text_of (bom_leaves s.bom)) c.before)) some;
    })

pub renames_first : (profile : Profile) (limit : ℕ) (s : Document) (path : List Part) (name : List ℕ) (c : TextChange)
    (n : ℕ) → IsEditable profile limit s → RenamesKey profile limit s path name c → n ≤ length s.ended
    → c.at ≡ line_start s n → (k : List ℕ) × (path ≡ (reading_at n (lines s)).body ++ key k ∷ [])
renames_first profile limit s path name c n fine h few starts =
    let new : Written = key_part name in
    let r = rename_whole profile limit s path name fine.valid fine.obeys h.utf8 h.allowed in
    let there : IsChangeAt c r.changed = change_at c r.changed (placed s (rename path name) r.changed c r.is h.is) in
    let all : EachOf (IsFirstIn s path) (change s (rename path name)) =
    of_or_else (IsFirstIn s path) (in_document s (in_lines (rename_line new path) start s.ended s.last))
    (nested (renaming new) path s)
    (document_found profile limit s path (rename_line new path) fine (λ r l. rename_line-is new path r l)
    (rename_found path new))
    (document_found profile limit s path (in_line (renaming new) path) fine
    (λ r l. in_line-is (renaming new) (renaming-is new) path r l) (inside_found path new)) in
    (one_of (IsFirstIn s path) (change s (rename path name)) r.changed all r.is).found n few (there.at ∙ starts)
    (omega (arith, there.size, h.some))
