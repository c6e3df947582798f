-- Each edit replaces the lines that its place touches: `change_touches`.
--
-- `Touches` is `Swaps` of a whole document. Each edit is a change inside a line (`touches_in_lines`), lines put in
-- (`touches_at_line`) or lines taken out (`touches_without`). A change inside a line is solid: a value comes after `=`,
-- a key of a header after a bracket; a key part that is renamed has bytes, since the document is valid, and a line that
-- is cleared has `=`.
--
-- Theorem: `change_touches`.
use Rattle.std.proofs.Common.{◌≡◌, ℕ, zero, suc, ◌+◌, ◌<◌, ◌≤◌, Bool, true, false, cond, List, [], ◌∷◌, ◌++◌, length}
use Rattle.std.proofs.Common.{map, drop, refl, sym, ap, subst, arith, Option, Some, None, inl, inr, ◌⊎◌}
use Rattle.std.specs.Prelude.{⊤, codes, position}
use Rattle.std.specs.List.{flat_map, AllByRecursion}
use Rattle.std.proofs.lemmas.List.{length-append}
use Rattle.keep_types.specs.declared.leaf.Profile.{Profile}
use Rattle.keep_types.specs.declared.leaf.Profile.TheVariants.{Strict}
use Rattle.keep_types.specs.declared.leaf.Leaf.TheVariants as leaf
use Rattle.keep_token.specs.Leaves.{IsLeaf}
use Rattle.keep_syntax.specs.Tree.{Written, Key, Name, Value, Content, blank, keyval, header, element, Line, Ended}
use Rattle.keep_syntax.specs.Tree.{Document, name_leaves, key_leaves, comment_leaves, line_leaves, ended_leaves}
use Rattle.keep_syntax.specs.Tree.{bom_leaves, value_leaves, text_of, text}
use Rattle.keep_syntax.specs.Grammar.{IsLine, IsEnded, IsDocument, IsContent}
use Rattle.keep_syntax.specs.Numbered.{span}
use Rattle.keep_syntax.proofs.Shared.{text_of-append, part_begins}
use Rattle.keep_path.specs.Path.{Part, same_path}
use Rattle.keep_meaning.specs.Marks.{Reading, start}
use Rattle.keep_meaning.specs.Meaning.{step, lines, mentions_in}
use Rattle.keep_edit_spec.specs.Look.{strip, holder, item_number, keys_in}
use Rattle.keep_edit_spec.specs.Changed.{Changed, within, or_else, place_of}
use Rattle.keep_edit_spec.specs.Values.{Act, in_value, text_of_value, replacement, put_item, put_named, removal}
use Rattle.keep_edit_spec.specs.Values.{renaming, rename_part, rename_further, rename_name}
use Rattle.keep_edit_spec.specs.Lines.{line_text, ended_text, Page, with_page, in_document, in_lines, in_content}
use Rattle.keep_edit_spec.specs.Lines.{in_line, rename_content, rename_line, part_paths, put_lines, drop_lines}
use Rattle.keep_edit_spec.specs.Lines.{last_line, begins, leads_dotted, leads_through, body_length, body_end}
use Rattle.keep_edit_spec.specs.Lines.{reading_at, new_line, newline_of, content_text, is_empty}
use Rattle.keep_edit_spec.specs.Edits.{Edit, set, insert, rename, remove, append_table, append_element, nested, at_line}
use Rattle.keep_edit_spec.specs.Edits.{without_lines, end_of, insert_line, change_insert, is_own, clear_line}
use Rattle.keep_edit_spec.specs.Edits.{change_remove, change_rename, change, key_with, name_with, new_keyval}
use Rattle.keep_edit_spec.specs.Edits.{new_header, key_part}
use Rattle.keep_edit_spec.proofs.Common.Texts.{EachIs, IsAct, replacement-is, put_item-is, put_named-is, removal-is}
use Rattle.keep_edit_spec.proofs.Common.Texts.{renaming-is}
use Rattle.keep_edit_spec.proofs.Common.LineTexts.{in_line-is, rename_line-is, clear_cases, clear_line-is}
use Rattle.keep_syntax.specs.WholeLines.{empty_line, begin, touched, replaced}
use Rattle.keep_edit_spec.proofs.Touched.SwapLaws.{EachSwaps, have_bytes, HaveNewlines, FillPage, EachSolid}
use Rattle.keep_edit_spec.proofs.Touched.SwapLaws.{swaps_lines, swaps_put, swaps_drop}

-- The new document is the old one with the lines that start..end touches replaced.
pub record Touches (s : Document) (start end : ℕ) (to : Document) : Type 0 where
  pub low : begin s ≤ start
  pub lines : Document
  pub bom : lines.bom ≡ false
  pub closed : (lines.last ≡ empty_line) ⊎ ((touched s (span start end)).end ≡ length (text s))
  pub is : to ≡ replaced s (touched s (span start end)) lines

abbrev pub EachTouches : Document → Option (Changed Document) → Type 0
EachTouches s None = ⊤
EachTouches s (Some c) = Touches s (place_of c).start (place_of c).end c.to

touches_or : (s : Document) (o p : Option (Changed Document)) → EachTouches s o → EachTouches s p
    → EachTouches s (or_else o p)
touches_or s None p h g = g
touches_or s (Some c) p h g = h

-- ---- from pages to documents

abbrev Fills : Document → Type 0
Fills s = FillPage (length (text s)) (begin s) s.ended s.last

touches_at : (s t : Document) (a a' b b' : ℕ) → a ≡ a' → b ≡ b' → Touches s a b t → Touches s a' b' t
touches_at s t a a' b b' x y h = subst (λ n. Touches s a' n t) y (subst (λ n. Touches s n b t) x h)

of_page : (s : Document) (o : Option (Changed Page)) → EachSwaps (length (text s)) (begin s) s.ended s.last o
    → EachTouches s (in_document s o)
of_page s None h = tt
of_page s (Some c) h =
    let n : length (text_of (bom_leaves s.bom) ++ c.before) ≡ begin s + length c.before =
    length-append (text_of (bom_leaves s.bom)) c.before in
    touches_at s (with_page s c.to) (begin s + length c.before) (length (text_of (bom_leaves s.bom) ++ c.before))
    (begin s + length c.before + length c.old) (length (text_of (bom_leaves s.bom) ++ c.before) + length c.old)
    (sym n) (ap (λ k. k + length c.old) (sym n))
    (record {
      low = omega arith;
      lines = record { bom = false; ended = h.new; last = h.line };
      bom = refl;
      closed = h.closed;
      is = let a = h.ended in let b = h.last_is in cc;
    })

pub document_fills : (s : Document) → Fills s
document_fills s =
    let end : Written = record { leaf = leaf.End; text = [] } in
    omega (
      arith,
      ap length (text_of-append (bom_leaves s.bom)
          (flat_map ended_leaves s.ended ++ (line_leaves s.last ++ (end ∷ [])))),
      length-append (text_of (bom_leaves s.bom))
          (text_of (flat_map ended_leaves s.ended ++ (line_leaves s.last ++ (end ∷ [])))),
      ap length (text_of-append (flat_map ended_leaves s.ended) (line_leaves s.last ++ (end ∷ []))),
      length-append (ended_text s.ended) (text_of (line_leaves s.last ++ (end ∷ []))),
      ap length (text_of-append (line_leaves s.last) (end ∷ [])),
      length-append (line_text s.last) [],
      length-append (ended_text s.ended) (line_text s.last),
    )

-- ---- solid changes of a line

has_equals : (name : Name) → 0 < length (text_of (name_leaves name))
has_equals name =
    let w : Written = record { leaf = leaf.Equals; text = 0x3D ∷ [] } in
    omega (
      arith,
      ap length (text_of-append (key_leaves name.key) (name.before ++ (w ∷ name.after))),
      length-append (text_of (key_leaves name.key)) (text_of (name.before ++ (w ∷ name.after))),
      ap length (text_of-append name.before (w ∷ name.after)),
      length-append (text_of name.before) (text_of (w ∷ name.after)),
    )

-- the change of a content begins after its first byte, or takes a byte
abbrev SomeContent : Option (Changed Content) → Type 0
SomeContent None = ⊤
SomeContent (Some c) = 0 < length c.before + length c.old

solid_content : (l : Line) (o : Option (Changed Content)) → SomeContent o
    → EachIs line_text l (within (λ c. record l { content = c }) (text_of l.before)
    (text_of l.after ++ text_of (comment_leaves l.comment)) o)
    → EachSolid l (within (λ c. record l { content = c }) (text_of l.before)
    (text_of l.after ++ text_of (comment_leaves l.comment)) o)
solid_content l None f i = tt
solid_content l (Some c) f i = record { is = i; some = omega (arith, f, length-append (text_of l.before) c.before) }

some_inner : (name : Name) (o : Option (Changed Value))
    → SomeContent (within (keyval name) (text_of (name_leaves name)) [] o)
some_inner name None = tt
some_inner name (Some c) = omega (arith, has_equals name, length-append (text_of (name_leaves name)) c.before)

some_of : (act : Act) (name : Name) (value : Value) (o : Option (List Part))
    → SomeContent (elim o [
      | None ↦ None
      | Some more ↦
          within (keyval name) (text_of (name_leaves name)) [] (in_value act more value)
    ])
some_of act name value None = tt
some_of act name value (Some more) = some_inner name (in_value act more value)

some_in_content : (act : Act) (body path : List Part) (k : Content) → SomeContent (in_content act body path k)
some_in_content act body path blank = tt
some_in_content act body path (keyval name value) = some_of act name value (strip (body ++ step 0 (Some name)) path)
some_in_content act body path (header a b c) = tt
some_in_content act body path (element a b c) = tt

solid_in_line : (act : Act) → IsAct act → (path : List Part) (r : Reading) (l : Line)
    → EachSolid l (in_line act path r l)
solid_in_line act h path r l =
    solid_content l (in_content act r.body path l.content) (some_in_content act r.body path l.content)
    (in_line-is act h path r l)

-- ---- renaming

abbrev SomePart : {A : Type 0} → Option (Changed A) → Type 0
SomePart None = ⊤
SomePart (Some c) = 0 < length c.before + length c.old

some_within : {A B : Type 0} (outer : A → B) (left right : List ℕ) (o : Option (Changed A)) → SomePart o
    → SomePart (within outer left right o)
some_within outer left right None h = tt
some_within outer left right (Some c) h = omega (arith, h, length-append left c.before)

some_left : {A B : Type 0} (outer : A → B) (left right : List ℕ) (o : Option (Changed A)) → 0 < length left
    → SomePart (within outer left right o)
some_left outer left right None h = tt
some_left outer left right (Some c) h = omega (arith, h, length-append left c.before)

some_part : (new : Written) (n : ℕ) (k : Key) → 0 < length k.first.text → SomePart (rename_part new n k)
some_part new zero k h = omega (arith, h)
some_part new (suc m) k h = some_left (λ fs. record k { more = fs }) k.first.text [] (rename_further new m k.more) h

to_content : (o : Option (Changed Content)) → SomePart o → SomeContent o
to_content None h = tt
to_content (Some c) h = h

some_rename : (profile : Profile) (new : Written) (n : ℕ) (k : Content) → IsContent profile k
    → SomeContent (rename_content new n k)
some_rename profile new n blank h = tt
some_rename profile new n (keyval name value) h =
    to_content _ (some_within (λ nm. keyval nm value) [] (text_of_value value) (rename_name new n name)
    (some_within (λ k. record name { key = k }) [] (text_of name.before ++ (codes "=" ++ text_of name.after))
    (rename_part new n name.key)
    (some_part new n name.key (part_begins profile name.key.first [] h.0.key.first).0)))
some_rename profile new n (header before k after) h =
    to_content _ (some_left (λ k. header before k after) (codes "[" ++ text_of before) (text_of after ++ codes "]")
    (rename_part new n k) (omega arith))
some_rename profile new n (element before k after) h =
    to_content _ (some_left (λ k. element before k after) (codes "[[" ++ text_of before) (text_of after ++ codes "]]")
    (rename_part new n k) (omega arith))

solid_renamed : (profile : Profile) (new : Written) (l : Line) → IsLine profile l → (o : Option ℕ)
    → EachIs line_text l (elim o [
      | None ↦ None
      | Some n ↦
          within (λ c. record l { content = c }) (text_of l.before)
          (text_of l.after ++ text_of (comment_leaves l.comment)) (rename_content new n l.content)
    ])
    → EachSolid l (elim o [
      | None ↦ None
      | Some n ↦
          within (λ c. record l { content = c }) (text_of l.before)
          (text_of l.after ++ text_of (comment_leaves l.comment)) (rename_content new n l.content)
    ])
solid_renamed profile new l h None i = tt
solid_renamed profile new l h (Some n) i =
    solid_content l (rename_content new n l.content) (some_rename profile new n l.content h.content) i

solid_rename : (profile : Profile) (new : Written) (path : List Part) (r : Reading) (l : Line) → IsLine profile l
    → EachSolid l (rename_line new path r l)
solid_rename profile new path r l h =
    solid_renamed profile new l h (position (same_path path) (part_paths r l.content)) (rename_line-is new path r l)

-- ---- a line cleared

some_own : (path : List Part) (r : Reading) (k : Content) → is_own path r k ≡ true → 0 < length (content_text k)
some_own path r blank h = absurd cc
some_own path r (keyval name value) h =
    omega (
      arith,
      has_equals name,
      ap length (text_of-append (name_leaves name) (value_leaves value)),
      length-append (text_of (name_leaves name)) (text_of_value value),
    )
some_own path r (header a b c) h = absurd cc
some_own path r (element a b c) h = absurd cc

solid_clear : (path : List Part) (r : Reading) (l : Line) → EachSolid l (clear_line path r l)
solid_clear path r l =
    clear_cases (λ (o : Option (Changed Line)). EachIs line_text l o → EachSolid l o) path r l (λ i. tt)
    (λ c e own i. record {
      is = i;
      some = omega (arith, some_own path r l.content own, length-append (content_text l.content) (text_of l.after));
    }) (clear_line-is path r l)

-- ---- documents

newline_some : (t : List ℕ) → IsLeaf Strict leaf.Newline t → 0 < length t
newline_some t (inl e) = omega (arith, ap length e)
newline_some t (inr e) = omega (arith, ap length e)

pub have_newlines : (profile : Profile) (es : List Ended) → AllByRecursion (IsEnded profile) es → HaveNewlines es
have_newlines profile [] h = tt
have_newlines profile (e ∷ es) h = (newline_some e.newline.text h.0.newline, have_newlines profile es h.1)

all_lines : (profile : Profile) (es : List Ended) → AllByRecursion (IsEnded profile) es
    → AllByRecursion (λ e. IsLine profile e.line) es
all_lines profile [] h = tt
all_lines profile (e ∷ es) h = (h.0.line, all_lines profile es h.1)

touches_in_lines : (profile : Profile) (s : Document) (f : Reading → Line → Option (Changed Line))
    → IsDocument profile s → ((r : Reading) (l : Line) → EachIs line_text l (f r l))
    → ((r : Reading) (l : Line) → IsLine profile l → EachSolid l (f r l))
    → EachTouches s (in_document s (in_lines f start s.ended s.last))
touches_in_lines profile s f h is solid =
    of_page s (in_lines f start s.ended s.last)
    (swaps_lines (IsLine profile) f is solid (length (text s)) (begin s) start s.ended s.last
    (all_lines profile s.ended h.ended) h.last (have_newlines profile s.ended h.ended) (document_fills s))

touches_nested : (profile : Profile) (act : Act) → IsAct act → (path : List Part) (s : Document) → IsDocument profile s
    → EachTouches s (nested act path s)
touches_nested profile act a path s h =
    touches_in_lines profile s (in_line act path) h (λ r l. in_line-is act a path r l)
    (λ r l k. solid_in_line act a path r l)

touches_at_line : (profile : Profile) (s : Document) (n : ℕ) (contents : List Content) → IsDocument profile s
    → EachTouches s (at_line s n contents)
touches_at_line profile s n contents h =
    of_page s (Some (put_lines n (map (new_line (newline_of s)) contents) (newline_of s) s.ended s.last))
    (swaps_put (length (text s)) (begin s) n (map (new_line (newline_of s)) contents) (newline_of s) s.ended s.last
    (have_bytes s.ended (have_newlines profile s.ended h.ended)) (document_fills s))

touches_without : (profile : Profile) (s : Document) (i n : ℕ) → IsDocument profile s
    → EachTouches s (without_lines s i n)
touches_without profile s i n h =
    of_page s (Some (drop_lines i n s.ended s.last))
    (swaps_drop (length (text s)) (begin s) i n s.ended s.last
    (have_bytes s.ended (have_newlines profile s.ended h.ended)) (document_fills s))

-- whichever line it is
with_number : (s : Document) (f : ℕ → Option (Changed Document)) → ((n : ℕ) → EachTouches s (f n))
    → (other : Option (Changed Document)) → EachTouches s other
    → (o : Option ℕ) → EachTouches s (elim o [ Some n ↦ f n | None ↦ other ])
with_number s f h other g None = g
with_number s f h other g (Some n) = h n

touches_insert_line : (profile : Profile) (s : Document) (a rest : List Part) (value : Value) → IsDocument profile s
    → EachTouches s (insert_line s a rest value)
touches_insert_line profile s a rest value h =
    with_number s (λ n. at_line s n (new_keyval rest value ∷ []))
    (λ n. touches_at_line profile s n (new_keyval rest value ∷ []) h) _
    (with_number s (λ i.
    at_line s (suc i) (new_keyval (drop (length (reading_at i (lines s)).body) (a ++ rest)) value ∷ []))
    (λ i. touches_at_line profile s (suc i)
    (new_keyval (drop (length (reading_at i (lines s)).body) (a ++ rest)) value ∷ []) h) _
    (with_number s (λ i. at_line s (body_end i (lines s)) (blank ∷ new_header (keys_in a) ∷ new_keyval rest value ∷ []))
    (λ i. touches_at_line profile s (body_end i (lines s)) (blank ∷ new_header (keys_in a) ∷ new_keyval rest value ∷ [])
    h) None tt
    (last_line (leads_through a) start (lines s)))
    (last_line (leads_dotted a) start (lines s)))
    (end_of s a)

touches_insert : (profile : Profile) (s : Document) (path : List Part) (value : Value) → IsDocument profile s
    → EachTouches s (change_insert s path value)
touches_insert profile s path value h =
    let a : List Part = holder path (mentions_in s) in
    let rest : List Part = drop (length a) path in
    with_number s (λ n. nested (put_item value) path s)
    (λ n. touches_nested profile (put_item value) (put_item-is value) path s h)
    (or_else (insert_line s a rest value) (nested (put_named name_with (length rest) value) path s))
    (touches_or s _ _ (touches_insert_line profile s a rest value h)
    (touches_nested profile (put_named name_with (length rest) value) (put_named-is name_with (length rest) value) path
    s h))
    (item_number path (mentions_in s))

touches_remove : (profile : Profile) (s : Document) (path : List Part) → IsDocument profile s
    → EachTouches s (change_remove s path)
touches_remove profile s path h =
    touches_or s _ _ (touches_in_lines profile s (clear_line path) h (λ r l. clear_line-is path r l)
    (λ r l k. solid_clear path r l))
    (touches_or s _ _ (with_number s (λ i. without_lines s i 1) (λ i. touches_without profile s i 1 h) None tt
    (last_line (λ r l. is_own path r l.content) start (lines s)))
    (touches_or s _ _ (with_number s (λ i. without_lines s i (suc (body_length (drop (suc i) (lines s)))))
    (λ i. touches_without profile s i (suc (body_length (drop (suc i) (lines s)))) h) None tt
    (last_line (begins path) start (lines s)))
    (touches_nested profile removal removal-is path s h)))

touches_rename : (profile : Profile) (s : Document) (path : List Part) (name : List ℕ) → IsDocument profile s
    → EachTouches s (change_rename s path name)
touches_rename profile s path name h =
    touches_or s _ _ (touches_in_lines profile s (rename_line (key_part name) path) h
    (λ r l. rename_line-is (key_part name) path r l) (λ r l k. solid_rename profile (key_part name) path r l k))
    (touches_nested profile (renaming (key_part name)) (renaming-is (key_part name)) path s h)

if_empty : (profile : Profile) (s : Document) (b : Bool) (n m : ℕ) (xs ys : List Content) → IsDocument profile s
    → EachTouches s (cond b (at_line s n xs) (at_line s m ys))
if_empty profile s true n m xs ys h = touches_at_line profile s n xs h
if_empty profile s false n m xs ys h = touches_at_line profile s m ys h

append_by : (profile : Profile) (s : Document) (content : Content) → IsDocument profile s → (es : List Ended)
    → EachTouches s (elim es [
      | [] ↦ cond (is_empty s.last) (at_line s 0 (content ∷ [])) (at_line s 1 (blank ∷ content ∷ []))
      | e ∷ es ↦
          cond (is_empty s.last) (at_line s (length s.ended) (blank ∷ content ∷ []))
          (at_line s (suc (length s.ended)) (blank ∷ content ∷ []))
    ])
append_by profile s content h [] = if_empty profile s (is_empty s.last) 0 1 (content ∷ []) (blank ∷ content ∷ []) h
append_by profile s content h (e ∷ es) =
    if_empty profile s (is_empty s.last) (length s.ended) (suc (length s.ended)) (blank ∷ content ∷ [])
    (blank ∷ content ∷ []) h

-- Every edit replaces the lines that its place touches.
pub change_touches : (profile : Profile) (s : Document) (e : Edit) → IsDocument profile s → EachTouches s (change s e)
change_touches profile s (set path value) h = touches_nested profile (replacement value) (replacement-is value) path s h
change_touches profile s (insert path value) h = touches_insert profile s path value h
change_touches profile s (rename path name) h = touches_rename profile s path name h
change_touches profile s (remove path) h = touches_remove profile s path h
change_touches profile s (append_table keys) h = append_by profile s (header [] (key_with keys) []) h s.ended
change_touches profile s (append_element keys) h = append_by profile s (element [] (key_with keys) []) h s.ended
