-- An edit that puts a keyval in before line n: what comes of lines that other edits put in.
--
-- A line that came before line m comes a line later from line n on (`few_still`), at the moved place (`place_after`),
-- with the same newline. So an insert at the end of a body adds the same line if its holder stays, it is not refused,
-- and the body ends there (`line_still`).
--
-- Theorems: `line_puts`; `lines_are`, `first_long`, `few_still`, `place_after`; `line_still`.
use Rattle.std.proofs.Common.{◌≡◌, ℕ, suc, ◌+◌, ◌<◌, ◌≤◌, List, [], ◌∷◌, ◌++◌, length, map, take, drop, refl, sym, ap}
use Rattle.std.proofs.Common.{◌∙◌, length-append, arith, None, Some, inl, inr}
use Rattle.std.specs.Prelude.{◌⊎◌}
use Rattle.std.specs.List.{AllByRecursion}
use Rattle.std.proofs.lemmas.List.{length-map, length-take-le, take-append-drop}
use Rattle.keep_types.specs.declared.leaf.Profile.{Profile}
use Rattle.keep_types.specs.declared.leaf.Profile.TheVariants.{Wide}
use Rattle.keep_syntax.specs.Tree.{Body, scalar, array, inline, Entries, Written, Name, Value, Ended, Document}
use Rattle.keep_syntax.specs.Tree.{bom_leaves, ended_leaves, keyval, text_of, value_depth, value_leaves}
use Rattle.keep_syntax.specs.Grammar.{IsEnded, IsValue}
use Rattle.keep_path.specs.Path.{Part, key}
use Rattle.keep_meaning.specs.Meaning.{line_of, lines, mentions_in}
use Rattle.keep_edit_spec.specs.AddedLines.{AddsLine, AddsLineStill}
use Rattle.keep_edit_spec.specs.Edits.{Edit, at_line, change, edited_document, end_of, insert, name_with, place}
use Rattle.keep_edit_spec.specs.Insertion.{put_in}
use Rattle.keep_edit_spec.specs.Laws.{IsEditable}
use Rattle.keep_edit_spec.specs.Lines.{ended_text, first_newline, new_line, newline_of}
use Rattle.keep_edit_spec.specs.Look.{holder}
use Rattle.keep_edit_spec.specs.Refusals.{refusal}
use Rattle.keep_edit_spec.specs.TextChanges.{TextChange, moved, moved_by}
use Rattle.keep_edit_spec.proofs.Lists.BodyEnds.{later_few, later_positive, lines_put}
use Rattle.keep_edit_spec.proofs.Lists.Places.{at_is, changes, edited_is, item_none, later_line, line_is, line_moves}
use Rattle.keep_edit_spec.proofs.Lists.Places.{newline_stays, put_place, scalar_quiet, width, with_line_before}

-- It takes nothing, and the document's newline stays.
pub record PutsKeyval (s now : Document) (n : ℕ) (name : Name) (value : Value) (c : TextChange) : Type 0 where
  pub is : now ≡ with_line_before n (new_line (newline_of s) (keyval name value)) s
  pub few : n ≤ length s.ended
  pub adds : c.size ≡ 0
  pub line : c.new ≡ text_of (ended_leaves (new_line (newline_of s) (keyval name value)))
  pub at : c.at ≡ length (text_of (bom_leaves s.bom)) + width (take n s.ended)
  pub newline : newline_of now ≡ newline_of s

-- ---- an insert at the end of a body

-- a value with no brackets has no newline of the document's in it
quiet_scalar : (body : Body) (nested : Entries) → IsValue Wide (record { body = body; nested = nested })
    → value_depth (record { body = body; nested = nested }) ≡ 0
    → first_newline (value_leaves (record { body = body; nested = nested })) ≡ None
quiet_scalar (scalar w) nested h e = scalar_quiet Wide w nested h
quiet_scalar (array first) nested h e = absurd cc
quiet_scalar (inline first) nested h e = absurd cc

pub line_puts : (profile : Profile) (limit : ℕ) (s : Document) (path : List Part) (value : Value) (c : TextChange)
    → IsEditable profile limit s → (h : AddsLine profile limit s path value c)
    → PutsKeyval s (edited_document s (insert path value)) h.number (name_with (h.text ∷ h.more)) value c
line_puts profile limit s path value c fine h = record {
  is = edited_is profile limit s path value c h;
  few = h.closed;
  adds = h.adds;
  line = line_is profile limit s path value c h;
  at = at_is profile limit s path value c h;
  newline = newline_stays profile limit s path value c h fine (quiet h.newline);
}
  where
    quiet : (0 < h.number) ⊎ (value_depth value ≡ 0) → (first_newline (value_leaves value) ≡ None) ⊎ (0 < h.number)
    quiet (inl some) = inr some
    quiet (inr flat) = inl (quiet_scalar value.body value.nested h.given.valid flat)

-- ---- lines that come after it

module _ (s now : Document) (n : ℕ) (name : Name) (value : Value) (c : TextChange)
    (p : PutsKeyval s now n name value c) where
  abbrev x : Ended
  x = new_line (newline_of s) (keyval name value)

  abbrev bom : List ℕ
  bom = text_of (bom_leaves s.bom)

  pub lines_are : lines now ≡ take n (lines s) ++ x.line ∷ drop n (lines s)
  lines_are = ap lines p.is ∙ lines_put n x s.ended s.last p.few

  pub first_long : length (take n (lines s)) ≡ n
  first_long =
      length-take-le n (lines s)
      (omega (arith, p.few, length-append (map line_of s.ended) (s.last ∷ []), length-map s.ended line_of))

  pub few_still : (m : ℕ) → m ≤ length s.ended → later_line n m ≤ length now.ended
  few_still m few =
      let es : List Ended = s.ended in
      omega (
        arith,
        later_few n m (length es) few,
        ap (λ (d : Document). length d.ended) p.is,
        length-append (take n es) (x ∷ drop n es),
        length-append (take n es) (drop n es),
        ap (λ (fs : List Ended). length fs) (take-append-drop n es),
      )

  -- an edit that put another keyval in before line m
  pub place_after : (profile : Profile) (e : Edit) (its : Name) (more : Value) (m j : ℕ) (d : TextChange)
      → AllByRecursion (IsEnded profile) s.ended → m ≤ length s.ended → j ≡ later_line n m
      → d.new ≡ text_of (ended_leaves (new_line (newline_of s) (keyval its more)))
      → d.at ≡ length bom + width (take m s.ended) → change now e ≡ at_line now j (keyval its more ∷ [])
      → place now e ≡ put_in (moved_by c d.at) d.new
  place_after profile e its more m j d valid few number line at changed =
      let to : ℕ → List Ended = λ m. take m (take n s.ended ++ x ∷ drop n s.ended) in
      let put : Written → List ℕ = λ w. text_of (ended_leaves (new_line w (keyval its more))) in
      let enough : j ≤ length now.ended = omega (arith, number, few_still m few) in
      put_place now e its more j changed enough
      ∙ ap (λ (z : Document). put_in (length (text_of (bom_leaves z.bom) ++ ended_text (take j z.ended)))
      (put (newline_of now))) p.is
      ∙ ap (λ (w : Written). put_in (length (bom ++ ended_text (to j))) (put w)) p.newline
      ∙ ap (put_in (length (bom ++ ended_text (to j)))) (sym line)
      ∙ ap (λ (i : ℕ). put_in (length (bom ++ ended_text (to i))) d.new) number
      ∙ ap (λ (i : ℕ). put_in i d.new)
      (line_moves profile bom s.ended valid n m x c d p.few few p.adds p.line p.at at)

  -- an insert that adds its line at the end of a body
  pub line_still : (profile : Profile) (limit : ℕ) (other : List Part) (more : Value) (d : TextChange)
      → IsEditable profile limit s → (k : AddsLine profile limit s other more d)
      → holder other (mentions_in now) ≡ holder other (mentions_in s)
      → refusal profile limit now (insert other more) ≡ None
      → end_of now (holder other (mentions_in s)) ≡ Some (later_line n k.number)
      → AddsLineStill profile limit s now other more (moved c d)
  line_still profile limit other more d fine k holds allowed ends =
      let j : ℕ = later_line n k.number in
      let new : other ≡ holder other (mentions_in now) ++ map key (k.text ∷ k.more) =
      k.new ∙ ap (λ (a : List Part). a ++ map key (k.text ∷ k.more)) (sym holds) in
      let ends_now : end_of now (holder other (mentions_in now)) ≡ Some j = ap (end_of now) holds ∙ ends in
      let few : j ≤ length now.ended = few_still k.number k.closed in (
        record {
          utf8 = k.utf8;
          given = k.given;
          allowed = allowed;
          text = k.text;
          more = k.more;
          new = new;
          number = j;
          ends = ends_now;
          closed = few;
          newline = elim k.newline [
            | inl some ↦ inl (later_positive n k.number some)
            | inr flat ↦ inr flat
          ];
          adds = k.adds;
          is = place_after profile (insert other more) (name_with (k.text ∷ k.more)) more k.number j d fine.valid.ended
              k.closed refl (line_is profile limit s other more d k) (at_is profile limit s other more d k)
              (changes now other more k.text k.more j
              (item_none other (holder other (mentions_in s)) k.text k.more k.new (mentions_in now)) new ends_now few);
        },
        ap (λ (a : List Part). take (suc (length a)) other) holds,
      )
