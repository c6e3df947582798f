-- An insert of another value as the same item writes at the same place, with the other value's text.
--
-- Where `put_item` puts a value is seen from the tree alone. So of two values both changes are there, or none is
-- (`IsAlike`); both take out the same after the same bytes, and differ in the text of the value only (`IsLikeText`):
-- it is alone, has a comma behind it, or one before it. This holds at the array, and in all that encloses it.
--
-- Theorem: `other_placed`: where one value is written as a last item is, so is every other.
use Rattle.std.proofs.Common.{◌≡◌, ℕ, zero, suc, ◌+◌, List, [], ◌∷◌, ◌++◌, length, length-append, refl, sym, ap, subst}
use Rattle.std.proofs.Common.{◌∙◌, arith, Option, Some, None, inl, inr}
use Rattle.std.specs.Prelude.{◌⊎◌, codes}
use Rattle.keep_types.specs.declared.leaf.Profile.{Profile}
use Rattle.keep_syntax.specs.Tree.{name_leaves, named_leaves, opening, closing, comma_leaves, comment_leaves, Body}
use Rattle.keep_syntax.specs.Tree.{scalar, array, inline, Entries, none, entry, Value, Content, blank, keyval, header}
use Rattle.keep_syntax.specs.Tree.{element, Line, Ended, Document, ended_leaves, bom_leaves, text_of, value_text}
use Rattle.keep_syntax.specs.Grammar.{IsValue}
use Rattle.keep_path.specs.Path.{Part, key, index}
use Rattle.keep_meaning.specs.Marks.{Reading, start}
use Rattle.keep_meaning.specs.Meaning.{after_line, mentions_in, step}
use Rattle.keep_edit_spec.specs.Changed.{Changed, Place, place_of, framed_change, within, or_else}
use Rattle.keep_edit_spec.specs.Edits.{change, change_insert, changed_or_same, insert, nested, place}
use Rattle.keep_edit_spec.specs.Insertion.{put_in}
use Rattle.keep_edit_spec.specs.Lines.{page_text, with_page, in_content, in_line, in_lines}
use Rattle.keep_edit_spec.specs.Look.{item_number, strip}
use Rattle.keep_edit_spec.specs.Values.{entry_prefix, entry_back, in_entries, in_value, put_before, put_after, put_item}
use Rattle.keep_edit_spec.specs.AddedItems.{separator}
use Rattle.keep_edit_spec.proofs.Shared.{not_before, not_empty}

module _ (v w : Value) where
  -- ---- two changes

  abbrev IsLikeText : List ℕ → List ℕ → Type 0
  IsLikeText x y =
      ((x ≡ value_text v) × (y ≡ value_text w))
      ⊎ (((x ≡ codes ", " ++ value_text v) × (y ≡ codes ", " ++ value_text w))
      ⊎ (x ≡ value_text v ++ codes ", "))

  record IsAlike {A : Type 0} (c : Changed A) (o : Option (Changed A)) : Type 0 where
    other : Changed A
    is : o ≡ Some other
    before : other.before ≡ c.before
    old : other.old ≡ c.old
    new : IsLikeText c.new other.new

  abbrev Alike : {A : Type 0} → Option (Changed A) → Option (Changed A) → Type 0
  Alike None p = p ≡ None
  Alike (Some c) p = IsAlike c p

  alike_within : {A B : Type 0} (outer : A → B) (left right : List ℕ) (o p : Option (Changed A)) → Alike o p
      → Alike (within outer left right o) (within outer left right p)
  alike_within outer left right None p h = ap (within outer left right) h
  alike_within outer left right (Some c) p h = record {
    other = framed_change outer left right h.other;
    is = ap (within outer left right) h.is;
    before = ap (λ (l : List ℕ). left ++ l) h.before;
    old = h.old;
    new = h.new;
  }

  alike_else : {A : Type 0} (o p o' p' : Option (Changed A)) → Alike o p → Alike o' p'
      → Alike (or_else o o') (or_else p p')
  alike_else {A = A} None p o' p' h k = subst (λ (q : Option (Changed A)). Alike o' (or_else q p')) (sym h) k
  alike_else (Some c) p o' p' h k = record {
    other = h.other;
    is = ap (λ x. or_else x p') h.is;
    before = h.before;
    old = h.old;
    new = h.new;
  }

  -- ---- at the array

  before_alike : (n : ℕ) (es : Entries) → Alike (put_before n v es) (put_before n w es)
  before_alike n none = refl
  before_alike zero (entry name body nested after comma rest) =
      record { other = _; is = refl; before = refl; old = refl; new = inr (inr refl) }
  before_alike (suc m) (entry name body nested after comma rest) =
      alike_within (entry name body nested after comma) _ [] (put_before m v rest) (put_before m w rest)
      (before_alike m rest)

  after_alike : (es : Entries) → Alike (put_after [] None v es) (put_after [] None w es)
  after_alike none = refl
  after_alike (entry name body nested after comma rest) =
      alike_else (within (entry name body nested after comma) _ [] (put_after [] None v rest))
      (within (entry name body nested after comma) _ [] (put_after [] None w rest)) (Some _) (Some _)
      (alike_within (entry name body nested after comma) _ [] (put_after [] None v rest) (put_after [] None w rest)
      (after_alike rest))
      (record { other = _; is = refl; before = refl; old = refl; new = inr (inl (refl, refl)) })

  item_alike : (path : List Part) (x : Value) → Alike {A = Value} (put_item v path x) (put_item w path x)
  item_alike [] x = refl
  item_alike (key k ∷ ps) x = refl
  item_alike (index n ∷ ps) x = by x.body x.nested
    where
      in_some : (body : Body) (left right : List ℕ) (es : Entries)
          → Alike {A = Value} (within (λ ys. record { body = body; nested = ys }) left right
          (or_else (put_before n v es) (put_after [] None v es)))
          (within (λ ys. record { body = body; nested = ys }) left right
          (or_else (put_before n w es) (put_after [] None w es)))
      in_some body left right es =
          alike_within (λ ys. record { body = body; nested = ys }) left right
          (or_else (put_before n v es) (put_after [] None v es)) (or_else (put_before n w es) (put_after [] None w es))
          (alike_else (put_before n v es) (put_before n w es) (put_after [] None v es) (put_after [] None w es)
          (before_alike n es) (after_alike es))

      by : (body : Body) (es : Entries)
          → Alike {A = Value} (put_item v (index n ∷ ps) (record { body = body; nested = es }))
          (put_item w (index n ∷ ps) (record { body = body; nested = es }))
      by (scalar t) es = refl
      by (array gap) none =
          record { other = _; is = refl; before = refl; old = refl; new = inl (refl, refl) }
      by (inline gap) none =
          record { other = _; is = refl; before = refl; old = refl; new = inl (refl, refl) }
      by (array gap) (entry name body nested after comma rest) =
          in_some (array gap) (codes "[" ++ text_of gap) (codes "]") (entry name body nested after comma rest)
      by (inline gap) (entry name body nested after comma rest) =
          in_some (inline gap) (codes "{" ++ text_of gap) (codes "}") (entry name body nested after comma rest)

  -- ---- in a document

  entries_alike : (path : List Part) (n : ℕ) (es : Entries)
      → Alike (in_entries (put_item v) path n es) (in_entries (put_item w) path n es)
  entries_alike path n none = refl
  entries_alike path n (entry name body nested after comma rest) =
      by (strip (step n name) path) (entries_alike path (n + 1) rest) (λ more. entries_alike more 0 nested)
    where
      by : (o : Option (List Part))
          → Alike (in_entries (put_item v) path (n + 1) rest) (in_entries (put_item w) path (n + 1) rest)
          → ((more : List Part) → Alike (in_entries (put_item v) more 0 nested) (in_entries (put_item w) more 0 nested))
          → Alike {A = Entries} (elim o [
            | None ↦
                within (entry name body nested after comma)
                (entry_prefix name body nested ++ (text_of after ++ text_of (comma_leaves comma))) []
                (in_entries (put_item v) path (n + 1) rest)
            | Some more ↦
                within (λ x. entry name x.body x.nested after comma rest) (text_of (named_leaves name))
                (entry_back after comma rest) (in_value (put_item v) more (record { body = body; nested = nested }))
          ]) (elim o [
            | None ↦
                within (entry name body nested after comma)
                (entry_prefix name body nested ++ (text_of after ++ text_of (comma_leaves comma))) []
                (in_entries (put_item w) path (n + 1) rest)
            | Some more ↦
                within (λ x. entry name x.body x.nested after comma rest) (text_of (named_leaves name))
                (entry_back after comma rest) (in_value (put_item w) more (record { body = body; nested = nested }))
          ])
      by None further inner =
          alike_within (entry name body nested after comma) _ [] (in_entries (put_item v) path (n + 1) rest)
          (in_entries (put_item w) path (n + 1) rest) further
      by (Some more) further inner =
          alike_within (λ (x : Value). entry name x.body x.nested after comma rest) (text_of (named_leaves name))
          (entry_back after comma rest) (in_value (put_item v) more (record { body = body; nested = nested }))
          (in_value (put_item w) more (record { body = body; nested = nested }))
          (alike_else
          (within (λ es. record { body = body; nested = es }) (text_of (opening body)) (text_of (closing body))
          (in_entries (put_item v) more 0 nested))
          (within (λ es. record { body = body; nested = es }) (text_of (opening body)) (text_of (closing body))
          (in_entries (put_item w) more 0 nested))
          (put_item v more (record { body = body; nested = nested }))
          (put_item w more (record { body = body; nested = nested }))
          (alike_within (λ es. record { body = body; nested = es }) (text_of (opening body)) (text_of (closing body))
          (in_entries (put_item v) more 0 nested) (in_entries (put_item w) more 0 nested) (inner more))
          (item_alike more (record { body = body; nested = nested })))

  value_alike : (path : List Part) (x : Value)
      → Alike {A = Value} (in_value (put_item v) path x) (in_value (put_item w) path x)
  value_alike path x =
      alike_else
      (within (λ es. record x { nested = es }) (text_of (opening x.body)) (text_of (closing x.body))
      (in_entries (put_item v) path 0 x.nested))
      (within (λ es. record x { nested = es }) (text_of (opening x.body)) (text_of (closing x.body))
      (in_entries (put_item w) path 0 x.nested))
      (put_item v path x) (put_item w path x)
      (alike_within (λ es. record x { nested = es }) (text_of (opening x.body)) (text_of (closing x.body))
      (in_entries (put_item v) path 0 x.nested) (in_entries (put_item w) path 0 x.nested)
      (entries_alike path 0 x.nested))
      (item_alike path x)

  content_alike : (body path : List Part) (c : Content)
      → Alike (in_content (put_item v) body path c) (in_content (put_item w) body path c)
  content_alike body path blank = refl
  content_alike body path (header before k after) = refl
  content_alike body path (element before k after) = refl
  content_alike body path (keyval name x) = by (strip (body ++ step 0 (Some name)) path)
    where
      by : (o : Option (List Part))
          → Alike {A = Content} (elim o [
            | None ↦ None
            | Some more ↦ within (keyval name) (text_of (name_leaves name)) [] (in_value (put_item v) more x)
          ]) (elim o [
            | None ↦ None
            | Some more ↦ within (keyval name) (text_of (name_leaves name)) [] (in_value (put_item w) more x)
          ])
      by None = refl
      by (Some more) =
          alike_within (keyval name) (text_of (name_leaves name)) [] (in_value (put_item v) more x)
          (in_value (put_item w) more x) (value_alike more x)

  line_alike : (path : List Part) (r : Reading) (l : Line)
      → Alike (in_line (put_item v) path r l) (in_line (put_item w) path r l)
  line_alike path r l =
      alike_within (λ c. record l { content = c }) (text_of l.before)
      (text_of l.after ++ text_of (comment_leaves l.comment)) (in_content (put_item v) r.body path l.content)
      (in_content (put_item w) r.body path l.content) (content_alike r.body path l.content)

  lines_alike : (path : List Part) (r : Reading) (es : List Ended) (last : Line)
      → Alike (in_lines (in_line (put_item v) path) r es last) (in_lines (in_line (put_item w) path) r es last)
  lines_alike path r [] last =
      alike_within (λ (l : Line). record { ended = []; last = l }) [] [] (in_line (put_item v) path r last)
      (in_line (put_item w) path r last) (line_alike path r last)
  lines_alike path r (e ∷ es) last =
      alike_else _ _ _ _
      (alike_within (λ l. record { ended = record { line = l; newline = e.newline } ∷ es; last = last }) []
      (e.newline.text ++ page_text (record { ended = es; last = last })) (in_line (put_item v) path r e.line)
      (in_line (put_item w) path r e.line) (line_alike path r e.line))
      (alike_within (λ b. record { ended = e ∷ b.ended; last = b.last }) (text_of (ended_leaves e)) []
      (in_lines (in_line (put_item v) path) (after_line r e.line) es last)
      (in_lines (in_line (put_item w) path) (after_line r e.line) es last)
      (lines_alike path (after_line r e.line) es last))

  nested_alike : (path : List Part) (s : Document)
      → Alike (nested (put_item v) path s) (nested (put_item w) path s)
  nested_alike path s =
      alike_within (with_page s) (text_of (bom_leaves s.bom)) [] (in_lines (in_line (put_item v) path) start s.ended
      s.last) (in_lines (in_line (put_item w) path) start s.ended s.last) (lines_alike path start s.ended s.last)

  -- ---- where one is written as a last item is

  module _ (profile : Profile) (valid : IsValue profile v) (n : ℕ) where
    given : (x y : List ℕ) → x ≡ separator n ++ value_text v → IsLikeText x y → y ≡ separator n ++ value_text w
    given x y e (inl (h, k)) = by n (sym e ∙ h)
      where
        by : (m : ℕ) → separator m ++ value_text v ≡ value_text v → y ≡ separator m ++ value_text w
        by zero g = k
        by (suc m) g =
            absurd (omega (arith, ap (λ (l : List ℕ). length l) g, length-append (codes ", ") (value_text v)))
    given x y e (inr (inl (h, k))) = by n (sym e ∙ h)
      where
        by : (m : ℕ) → separator m ++ value_text v ≡ codes ", " ++ value_text v → y ≡ separator m ++ value_text w
        by zero g =
            absurd (omega (arith, ap (λ (l : List ℕ). length l) g, length-append (codes ", ") (value_text v)))
        by (suc m) g = k
    given x y e (inr (inr h)) = absurd (not_before profile v valid n (sym e ∙ h))

    abbrev placed_by : Document → Option (Changed Document) → Place
    placed_by s o = place_of (changed_or_same s o)

    same_place : (at : ℕ) (s : Document) (o p : Option (Changed Document)) → Alike o p
        → placed_by s o ≡ put_in at (separator n ++ value_text v)
        → placed_by s p ≡ put_in at (separator n ++ value_text w)
    same_place at s None p h e =
        absurd (not_empty profile v valid (separator n) (sym (ap (λ (x : Place). x.new) e)))
    same_place at s (Some c) p h e =
        ap (placed_by s) h.is ∙ put (length h.other.before) (length h.other.before + length h.other.old) h.other.new
        (ap (λ (l : List ℕ). length l) h.before ∙ ap (λ (x : Place). x.start) e)
        (omega (
          arith,
          ap (λ (l : List ℕ). length l) h.before,
          ap (λ (l : List ℕ). length l) h.old,
          ap (λ (x : Place). x.end) e,
        )) (given c.new h.other.new (ap (λ (x : Place). x.new) e) h.new)
      where
        put : (start end : ℕ) (new : List ℕ) → start ≡ at → end ≡ at → new ≡ separator n ++ value_text w
            → ◌≡◌ {A = Place} (record { start = start; end = end; new = new }) (put_in at (separator n ++ value_text w))
        put start end new h k l = cc

    pub other_placed : (s : Document) (path : List Part) (m at : ℕ) → item_number path (mentions_in s) ≡ Some m
        → place s (insert path v) ≡ put_in at (separator n ++ value_text v)
        → place s (insert path w) ≡ put_in at (separator n ++ value_text w)
    other_placed s path m at number e =
        ap (placed_by s) (nested_of w)
        ∙ same_place at s (nested (put_item v) path s) (nested (put_item w) path s) (nested_alike path s)
        (sym (ap (placed_by s) (nested_of v)) ∙ e)
      where
        nested_of : (x : Value) → change s (insert path x) ≡ nested (put_item x) path s
        nested_of x = rw (number, change_insert) refl
