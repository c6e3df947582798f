-- Changes of lines and of whole documents: each edit is a cut of the text.
--
-- `Texts` has this for changes inside values; here it is brought to lines and documents by the same two lemmas: a
-- change of a part is a change of the whole, and of two choices either may be made. Lines are gone through by induction
-- (`in_lines-is`), and so are lines that are put in or dropped (`put_lines-is`, `drop_prefix-is`, `drop_lines-is`);
-- there the last line is the case to look at, since it has no newline of its own. Each edit is one of these, or a
-- choice of several.
--
-- Theorem: `change-is`: every edit's change is a cut of the text.
use Rattle.std.proofs.Common.{◌≡◌, ℕ, zero, suc, Bool, true, false, cond, List, [], ◌∷◌, ◌++◌, length, map, drop, refl}
use Rattle.std.proofs.Common.{sym, ap, ◌∙◌, append_assoc, Option, Some, None}
use Rattle.std.specs.Prelude.{codes, position}
use Rattle.std.specs.List.{flat_map}
use Rattle.std.proofs.lemmas.Grind.{flat_map-append}
use Rattle.std.proofs.lemmas.List.{append-nil}
use Rattle.keep_syntax.specs.Tree.{Written, Name, Value, Content, blank, keyval, header, element, Line, Ended, Document}
use Rattle.keep_syntax.specs.Tree.{name_leaves, comment_leaves, line_leaves, ended_leaves, bom_leaves, text_of, text}
use Rattle.keep_path.specs.Path.{Part, same_path}
use Rattle.keep_meaning.specs.Marks.{Reading, start}
use Rattle.keep_meaning.specs.Meaning.{step, after_line, lines, mentions_in}
use Rattle.keep_edit_spec.specs.Look.{strip, holder, item_number, keys_in}
use Rattle.keep_edit_spec.specs.Changed.{Changed, IsChangeOf, framed_change, within, or_else}
use Rattle.keep_edit_spec.specs.Values.{Act, text_of_value, in_value, replacement, put_item, put_named, removal}
use Rattle.keep_edit_spec.specs.Values.{renaming, rename_part, rename_name}
use Rattle.keep_edit_spec.specs.Lines.{line_text, ended_text, Page, page_text, with_page, in_document, in_lines}
use Rattle.keep_edit_spec.specs.Lines.{in_content, in_line, rename_content, rename_line, part_paths, put_lines}
use Rattle.keep_edit_spec.specs.Lines.{drop_prefix, drop_lines, last_line, begins, leads_dotted, leads_through}
use Rattle.keep_edit_spec.specs.Lines.{body_length, body_end, reading_at, new_line, newline_of, content_text, is_empty}
use Rattle.keep_edit_spec.specs.Edits.{Edit, set, insert, rename, remove, append_table, append_element, nested, at_line}
use Rattle.keep_edit_spec.specs.Edits.{without_lines, end_of, insert_line, change_insert, is_own, clear_line}
use Rattle.keep_edit_spec.specs.Edits.{change_remove, change_rename, change, key_with, name_with, new_keyval}
use Rattle.keep_edit_spec.specs.Edits.{new_header}
use Rattle.keep_edit_spec.specs.Edits.{key_part}
use Rattle.keep_edit_spec.proofs.Common.Texts.{EachIs, IsAct, within-is, or_else-is, text_of-append, in_value-is}
use Rattle.keep_edit_spec.proofs.Common.Texts.{replacement-is, put_item-is, put_named-is, removal-is, renaming-is}
use Rattle.keep_edit_spec.proofs.Common.Texts.{rename_part-is, rename_name-is, key_text_of, name_text_of}

page-cons : (e : Ended) (y : Page)
    → page_text (record { ended = e ∷ y.ended; last = y.last }) ≡ text_of (ended_leaves e) ++ (page_text y ++ [])
page-cons e y =
    ap (λ t. t ++ line_text y.last) (text_of-append (ended_leaves e) (flat_map ended_leaves y.ended))
    ∙ simp (append_assoc, append-nil) refl

ended-text : (l : Line) (w : Written) (es : List Ended)
    → ended_text (record { line = l; newline = w } ∷ es) ≡ line_text l ++ (w.text ++ ended_text es)
ended-text l w es =
    text_of-append (line_leaves l ++ (w ∷ [])) (flat_map ended_leaves es)
    ∙ ap (λ t. t ++ ended_text es) (text_of-append (line_leaves l) (w ∷ [])) ∙ simp (append_assoc, append-nil) refl

pub in_lines-is : (f : Reading → Line → Option (Changed Line)) → ((r : Reading) (l : Line) → EachIs line_text l (f r l))
    → (r : Reading) (es : List Ended) (last : Line)
    → EachIs page_text (record { ended = es; last = last }) (in_lines f r es last)
in_lines-is f h r [] last =
    within-is line_text page_text (λ l. record { ended = []; last = l }) [] [] last (f r last)
    (λ y. sym (append-nil (line_text y))) (h r last)
in_lines-is f h r (e ∷ es) last =
    or_else-is page_text (record { ended = e ∷ es; last = last }) _ _
    (within-is line_text page_text (λ l. record { ended = record { line = l; newline = e.newline } ∷ es; last = last })
    [] (e.newline.text ++ page_text (record { ended = es; last = last })) e.line (f r e.line)
    (λ y. ap (λ t. t ++ line_text last) (ended-text y e.newline es) ∙ simp append_assoc refl) (h r e.line))
    (within-is page_text page_text (λ b. record { ended = e ∷ b.ended; last = b.last }) (text_of (ended_leaves e)) []
    (record { ended = es; last = last }) (in_lines f (after_line r e.line) es last)
    (λ y. page-cons e y) (in_lines-is f h (after_line r e.line) es last))

in_content-by : (act : Act) → IsAct act → (name : Name) (value : Value) (o : Option (List Part))
    → EachIs content_text (keyval name value) (elim o [
      | None ↦ None
      | Some more ↦ within (keyval name) (text_of (name_leaves name)) [] (in_value act more value)
    ])
in_content-by act h name value None = tt
in_content-by act h name value (Some more) =
    within-is text_of_value content_text (keyval name) (text_of (name_leaves name)) [] value (in_value act more value)
    (λ y. text_of-append (name_leaves name) _
    ∙ ap (λ t. text_of (name_leaves name) ++ t) (sym (append-nil (text_of_value y)))) (in_value-is act h more value)

pub in_content-is : (act : Act) → IsAct act → (body path : List Part) (c : Content)
    → EachIs content_text c (in_content act body path c)
in_content-is act h body path blank = tt
in_content-is act h body path (keyval name value) =
    in_content-by act h name value (strip (body ++ step 0 (Some name)) path)
in_content-is act h body path (header before k after) = tt
in_content-is act h body path (element before k after) = tt

line-text : (l : Line) (y : Content)
    → line_text (record l { content = y }) ≡ text_of l.before
    ++ (content_text y ++ (text_of l.after ++ text_of (comment_leaves l.comment)))
line-text l y = simp text_of-append refl

pub in_line-is : (act : Act) → IsAct act → (path : List Part) (r : Reading) (l : Line)
    → EachIs line_text l (in_line act path r l)
in_line-is act h path r l =
    within-is content_text line_text (λ c. record l { content = c }) (text_of l.before)
    (text_of l.after ++ text_of (comment_leaves l.comment)) l.content (in_content act r.body path l.content)
    (λ y. line-text l y) (in_content-is act h r.body path l.content)

pub rename_content-is : (new : Written) (n : ℕ) (c : Content) → EachIs content_text c (rename_content new n c)
rename_content-is new n blank = tt
rename_content-is new n (keyval name value) =
    within-is name_text_of content_text (λ nm. keyval nm value) [] (text_of_value value) name (rename_name new n name)
    (λ y. text_of-append (name_leaves y) _) (rename_name-is new n name)
rename_content-is new n (header before k after) =
    within-is key_text_of content_text (λ k. header before k after)
    (codes "[" ++ text_of before) (text_of after ++ codes "]") k (rename_part new n k)
    (λ y. simp (text_of-append, append_assoc) refl) (rename_part-is new n k)
rename_content-is new n (element before k after) =
    within-is key_text_of content_text (λ k. element before k after)
    (codes "[[" ++ text_of before) (text_of after ++ codes "]]") k (rename_part new n k)
    (λ y. simp (text_of-append, append_assoc) refl) (rename_part-is new n k)

rename_line-by : (new : Written) (l : Line) (o : Option ℕ) → EachIs line_text l (elim o [
  | None ↦ None
  | Some n ↦
      within (λ c. record l { content = c }) (text_of l.before) (text_of l.after ++ text_of (comment_leaves l.comment))
      (rename_content new n l.content)
])
rename_line-by new l None = tt
rename_line-by new l (Some n) =
    within-is content_text line_text (λ c. record l { content = c }) (text_of l.before)
    (text_of l.after ++ text_of (comment_leaves l.comment)) l.content (rename_content new n l.content)
    (λ y. line-text l y) (rename_content-is new n l.content)

pub rename_line-is : (new : Written) (path : List Part) (r : Reading) (l : Line)
    → EachIs line_text l (rename_line new path r l)
rename_line-is new path r l = rename_line-by new l (position (same_path path) (part_paths r l.content))

-- a line cleared to its comment
abbrev pub cleared : Line → Written → Changed Line
cleared l c = record {
  to = record { before = l.before; content = blank; after = []; comment = Some c };
  before = text_of l.before;
  old = content_text l.content ++ text_of l.after;
  new = [];
  after = c.text;
}

-- what holds of no change, and of a keyval's own line cleared to its comment, holds of what `clear_line` does
pub clear_cases : (P : Option (Changed Line) → Type 0) (path : List Part) (r : Reading) (l : Line) → P None
    → ((c : Written) → l.comment ≡ Some c → is_own path r l.content ≡ true → P (Some (cleared l c)))
    → P (clear_line path r l)
clear_cases P path r l none some = by l.comment refl (is_own path r l.content) refl
  where
    by : (o : Option Written) → l.comment ≡ o → (b : Bool) → is_own path r l.content ≡ b
        → P (elim o [ None ↦ None | Some c ↦ elim b [ false ↦ None | true ↦ Some (cleared l c) ] ])
    by None e b own = none
    by (Some c) e false own = none
    by (Some c) e true own = some c e own

pub clear_line-is : (path : List Part) (r : Reading) (l : Line) → EachIs line_text l (clear_line path r l)
clear_line-is path r l = clear_cases (EachIs line_text l) path r l tt (λ c e own. record {
  was =
      line-text l l.content
      ∙ ap (λ (o : Option Written).
      text_of l.before ++ (content_text l.content ++ (text_of l.after ++ text_of (comment_leaves o)))) e
      ∙ simp (append_assoc, append-nil) refl;
  is = simp (text_of-append, append-nil) refl;
})

-- ---- whole lines

framed_change-is : {A B : Type 0} (f : A → List ℕ) (g : B → List ℕ) (outer : A → B) (left right : List ℕ) (x : A)
    (c : Changed A)
    → ((y : A) → g (outer y) ≡ left ++ (f y ++ right)) → IsChangeOf f x c
    → IsChangeOf g (outer x) (framed_change outer left right c)
framed_change-is f g outer left right x c e h = within-is f g outer left right x (Some c) e h

pub put_lines-is : (n : ℕ) (new : List Ended) (newline : Written) (es : List Ended) (last : Line)
    → IsChangeOf page_text (record { ended = es; last = last }) (put_lines n new newline es last)
put_lines-is zero new newline [] last = record { was = refl; is = refl }
put_lines-is (suc m) new newline [] last = record {
  was = sym (append-nil _);
  is = ap (λ t. t ++ []) (ended-text last newline new) ∙ simp (append_assoc, append-nil) refl;
}
put_lines-is zero new newline (e ∷ es) last = record {
  was = refl;
  is = ap (λ t. t ++ line_text last)
      (ap text_of (flat_map-append ended_leaves new (e ∷ es))
      ∙ text_of-append (flat_map ended_leaves new) (flat_map ended_leaves (e ∷ es)))
      ∙ append_assoc (text_of (flat_map ended_leaves new)) (text_of (flat_map ended_leaves (e ∷ es))) (line_text last);
}
put_lines-is (suc m) new newline (e ∷ es) last =
    framed_change-is page_text page_text (λ b. record { ended = e ∷ b.ended; last = b.last }) (text_of (ended_leaves e))
    [] (record { ended = es; last = last }) (put_lines m new newline es last)
    (λ y. page-cons e y) (put_lines-is m new newline es last)

pub drop_prefix-is : (n : ℕ) (es : List Ended) (last : Line)
    → IsChangeOf page_text (record { ended = es; last = last }) (drop_prefix n es last)
    × ((drop_prefix n es last).before ≡ [])
drop_prefix-is zero [] last = (record { was = refl; is = refl }, refl)
drop_prefix-is (suc m) [] last = (record { was = sym (append-nil _); is = refl }, refl)
drop_prefix-is zero (e ∷ es) last = (record { was = refl; is = refl }, refl)
drop_prefix-is (suc m) (e ∷ es) last =
    let (h, b) = drop_prefix-is m es last in
    let c : Changed Page = drop_prefix m es last in
    let rest : page_text (record { ended = es; last = last }) ≡ c.old ++ c.after =
    h.was ∙ ap (λ t. t ++ (c.old ++ c.after)) b in (
      record {
        was = page-cons e (record { ended = es; last = last }) ∙ ap (λ t. text_of (ended_leaves e) ++ (t ++ [])) rest
            ∙ (let tidy : text_of (ended_leaves e) ++ ((c.old ++ c.after) ++ []) ≡ (text_of (ended_leaves e) ++ c.old)
            ++ c.after = simp (append_assoc, append-nil) refl in tidy)
            ∙ sym (ap (λ t. t ++ ((text_of (ended_leaves e) ++ c.old) ++ c.after)) b);
        is = h.is;
      },
      b,
    )

pub drop_lines-is : (i n : ℕ) (es : List Ended) (last : Line)
    → IsChangeOf page_text (record { ended = es; last = last }) (drop_lines i n es last)
drop_lines-is i n [] last = (drop_prefix-is n [] last).0
drop_lines-is zero n (e ∷ es) last = (drop_prefix-is n (e ∷ es) last).0
drop_lines-is (suc j) n (e ∷ es) last =
    framed_change-is page_text page_text (λ b. record { ended = e ∷ b.ended; last = b.last }) (text_of (ended_leaves e))
    [] (record { ended = es; last = last }) (drop_lines j n es last)
    (λ y. page-cons e y) (drop_lines-is j n es last)

-- ---- the document

document-text : (s : Document) (y : Page) → text (with_page s y) ≡ text_of (bom_leaves s.bom) ++ (page_text y ++ [])
document-text s y = simp (text_of-append, append_assoc) refl

pub in_document-is : (s : Document) (o : Option (Changed Page))
    → EachIs page_text (record { ended = s.ended; last = s.last }) o → EachIs text s (in_document s o)
in_document-is s o h =
    within-is page_text text (with_page s) (text_of (bom_leaves s.bom)) [] (record { ended = s.ended; last = s.last }) o
    (λ y. document-text s y) h

pub nested-is : (act : Act) → IsAct act → (path : List Part) (s : Document) → EachIs text s (nested act path s)
nested-is act h path s =
    in_document-is s (in_lines (in_line act path) start s.ended s.last)
    (in_lines-is (in_line act path) (λ r l. in_line-is act h path r l) start s.ended s.last)

pub at_line-is : (s : Document) (n : ℕ) (contents : List Content) → EachIs text s (at_line s n contents)
at_line-is s n contents =
    in_document-is s (Some (put_lines n (map (new_line (newline_of s)) contents) (newline_of s) s.ended s.last))
    (put_lines-is n (map (new_line (newline_of s)) contents) (newline_of s) s.ended s.last)

pub without_lines-is : (s : Document) (i n : ℕ) → EachIs text s (without_lines s i n)
without_lines-is s i n = in_document-is s (Some (drop_lines i n s.ended s.last)) (drop_lines-is i n s.ended s.last)

-- whichever line it is
with_number : (s : Document) (f : ℕ → Option (Changed Document)) → ((n : ℕ) → EachIs text s (f n))
    → (other : Option (Changed Document)) → EachIs text s other
    → (o : Option ℕ) → EachIs text s (elim o [ Some n ↦ f n | None ↦ other ])
with_number s f h other g None = g
with_number s f h other g (Some n) = h n

pub insert_line-is : (s : Document) (a rest : List Part) (value : Value) → EachIs text s (insert_line s a rest value)
insert_line-is s a rest value =
    with_number s (λ n. at_line s n (new_keyval rest value ∷ [])) (λ n. at_line-is s n (new_keyval rest value ∷ [])) _
    (with_number s (λ i.
    at_line s (suc i) (new_keyval (drop (length (reading_at i (lines s)).body) (a ++ rest)) value ∷ []))
    (λ i. at_line-is s (suc i) (new_keyval (drop (length (reading_at i (lines s)).body) (a ++ rest)) value ∷ [])) _
    (with_number s (λ i. at_line s (body_end i (lines s)) (blank ∷ new_header (keys_in a) ∷ new_keyval rest value ∷ []))
    (λ i. at_line-is s (body_end i (lines s)) (blank ∷ new_header (keys_in a) ∷ new_keyval rest value ∷ [])) None tt
    (last_line (leads_through a) start (lines s)))
    (last_line (leads_dotted a) start (lines s)))
    (end_of s a)

pub change_insert-is : (s : Document) (path : List Part) (value : Value) → EachIs text s (change_insert s path value)
change_insert-is s path value =
    let a : List Part = holder path (mentions_in s) in
    let rest : List Part = drop (length a) path in
    with_number s (λ n. nested (put_item value) path s) (λ n. nested-is (put_item value) (put_item-is value) path s)
    (or_else (insert_line s a rest value) (nested (put_named name_with (length rest) value) path s))
    (or_else-is text s _ _ (insert_line-is s a rest value)
    (nested-is (put_named name_with (length rest) value) (put_named-is name_with (length rest) value) path s))
    (item_number path (mentions_in s))

pub change_remove-is : (s : Document) (path : List Part) → EachIs text s (change_remove s path)
change_remove-is s path =
    or_else-is text s _ _ (in_document-is s (in_lines (clear_line path) start s.ended s.last)
    (in_lines-is (clear_line path) (λ r l. clear_line-is path r l) start s.ended s.last))
    (or_else-is text s _ _ (with_number s (λ i. without_lines s i 1) (λ i. without_lines-is s i 1) None tt
    (last_line (λ r l. is_own path r l.content) start (lines s)))
    (or_else-is text s _ _ (with_number s (λ i. without_lines s i (suc (body_length (drop (suc i) (lines s)))))
    (λ i. without_lines-is s i (suc (body_length (drop (suc i) (lines s))))) None tt
    (last_line (begins path) start (lines s)))
    (nested-is removal removal-is path s)))

pub change_rename-is : (s : Document) (path : List Part) (name : List ℕ) → EachIs text s (change_rename s path name)
change_rename-is s path name =
    or_else-is text s _ _ (in_document-is s (in_lines (rename_line (key_part name) path) start s.ended s.last)
    (in_lines-is (rename_line (key_part name) path) (λ r l. rename_line-is (key_part name) path r l) start s.ended
    s.last))
    (nested-is (renaming (key_part name)) (renaming-is (key_part name)) path s)

if_empty : (s : Document) (b : Bool) (n m : ℕ) (xs ys : List Content)
    → EachIs text s (cond b (at_line s n xs) (at_line s m ys))
if_empty s true n m xs ys = at_line-is s n xs
if_empty s false n m xs ys = at_line-is s m ys

append-by : (s : Document) (content : Content) (es : List Ended) → EachIs text s (elim es [
  | [] ↦ cond (is_empty s.last) (at_line s 0 (content ∷ [])) (at_line s 1 (blank ∷ content ∷ []))
  | e ∷ es ↦
      cond (is_empty s.last) (at_line s (length s.ended) (blank ∷ content ∷ []))
      (at_line s (suc (length s.ended)) (blank ∷ content ∷ []))
])
append-by s content [] = if_empty s (is_empty s.last) 0 1 (content ∷ []) (blank ∷ content ∷ [])
append-by s content (e ∷ es) =
    if_empty s (is_empty s.last) (length s.ended) (suc (length s.ended)) (blank ∷ content ∷ []) (blank ∷ content ∷ [])

-- Every edit's change is a cut of the text.
pub change-is : (s : Document) (e : Edit) → EachIs text s (change s e)
change-is s (set path value) = nested-is (replacement value) (replacement-is value) path s
change-is s (insert path value) = change_insert-is s path value
change-is s (rename path name) = change_rename-is s path name
change-is s (remove path) = change_remove-is s path
change-is s (append_table keys) = append-by s (header [] (key_with keys) []) s.ended
change-is s (append_element keys) = append-by s (element [] (key_with keys) []) s.ended
