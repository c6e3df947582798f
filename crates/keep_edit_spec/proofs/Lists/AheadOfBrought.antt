-- An insert that brings the header of its table brings the same one at the same byte after another insert brought the
-- header of another table there, which does not go through this one.
--
-- Lines begin in the order of their numbers, so both come before the same line of the document (`same_line`). The
-- tables are others (`differs`). So the document says of the second path what it said: the insert is not refused, and
-- its holder is the same (BroughtAllowed). A header goes only through tables above its own (`goes_not`), so the last
-- one that goes through the second table is the same, and its body ends where it did, since an empty line and a header
-- come there (BroughtBodies). So the same lines come where the first of the new ones begins (BroughtAgain).
--
-- Theorem: `brings_ahead`.
use Rattle.std.proofs.Common.{◌≡◌, ◌≢◌, ℕ, Bool, true, false, List, [], ◌∷◌, ◌++◌, refl, sym, ap}
use Rattle.std.proofs.Common.{◌∙◌, arith, None, Some, inl, inr}
use Rattle.std.proofs.lemmas.Bool.{and_parts}
use Rattle.keep_types.specs.declared.leaf.Profile.{Profile}
use Rattle.keep_syntax.specs.Tree.{Document, Line, Value}
use Rattle.keep_path.specs.Path.{Part, strip}
use Rattle.keep_meaning.specs.Marks.{Mention, Reading, define, header_path, header_prefixes}
use Rattle.keep_meaning.specs.Meaning.{keys_of, line_mentions, lines, mentions_in}
use Rattle.keep_meaning.specs.Nodes.{has, is_through}
use Rattle.keep_edit_spec.specs.AddedLines.{first_new}
use Rattle.keep_edit_spec.specs.BroughtHeaders.{BringsHeader, StillBrings}
use Rattle.keep_edit_spec.specs.ClearedLines.{line_start}
use Rattle.keep_edit_spec.specs.Edits.{edited_document, insert, key_with}
use Rattle.keep_edit_spec.specs.HeadersBelow.{StillBringsAhead}
use Rattle.keep_edit_spec.specs.Laws.{IsEditable}
use Rattle.keep_edit_spec.specs.Lines.{body_end, is_header, leads_through}
use Rattle.keep_edit_spec.specs.Look.{holder, keys_in}
use Rattle.keep_edit_spec.specs.TextChanges.{TextChange}
use Rattle.keep_edit_spec.proofs.Common.Doubles.{IsMentioned, has_some}
use Rattle.keep_edit_spec.proofs.Common.Runs.{SomeOf, strip-append}
use Rattle.keep_edit_spec.proofs.Common.ValueThere.{some_cases}
use Rattle.keep_edit_spec.proofs.Insert.HeaderPrefixes.{LeadsThrough, through_prefix}
use Rattle.keep_edit_spec.proofs.Rename.RenamedParts.{strip_self}
use Rattle.keep_edit_spec.proofs.Lists.BroughtAgain.{IsThroughThere, brought_there}
use Rattle.keep_edit_spec.proofs.Lists.BroughtAllowed.{brought_keys, firsts_differ, holder_clear, holder_stays}
use Rattle.keep_edit_spec.proofs.Lists.BroughtAllowed.{refusal_stays}
use Rattle.keep_edit_spec.proofs.Lists.BroughtBodies as bodies
use Rattle.keep_edit_spec.proofs.Lists.BroughtBodies.{new_none, still_before}
use Rattle.keep_edit_spec.proofs.Lists.BroughtEnds.{bare_now, dots_now}
use Rattle.keep_edit_spec.proofs.Lists.BroughtLines as brought
use Rattle.keep_edit_spec.proofs.Lists.BroughtLines.{at_is, length_now, new_start, newline_stays}
use Rattle.keep_edit_spec.proofs.Lists.BroughtWay.{path_is}
use Rattle.keep_edit_spec.proofs.Lists.InsertInPlace.{same_number}
use Rattle.keep_edit_spec.proofs.Lists.LinesAfterBody.{IsLastBefore, bodiless_through}
use Rattle.keep_edit_spec.proofs.Lists.NewPaths.{InsertsKeys}

-- A `[..]` line goes only through paths above its own.
above_own : (tables : List (List Part)) (keys : List (List ℕ)) (a b : List Part) → header_path tables [] keys ≡ a
    → strip b a ≡ None
    → SomeOf (IsMentioned is_through b)
    (header_prefixes tables [] keys ++ record { path = header_path tables [] keys; kind = define } ∷ []) → ⊥
above_own tables keys a b is apart goes =
    let own : List Mention = record { path = header_path tables [] keys; kind = define } ∷ [] in
    elim (some_cases (IsMentioned is_through b) (header_prefixes tables [] keys) own goes) [
      | inl way ↦
          (let g : LeadsThrough tables [] keys b = through_prefix tables [] keys b way in
          let some : strip b a ≡ Some (g.longer.part ∷ g.longer.more) =
          ap (strip b) (sym is ∙ g.longer.is) ∙ strip-append b (g.longer.part ∷ g.longer.more) in
          let no : None ≡ Some (g.longer.part ∷ g.longer.more) = sym apart ∙ some in
          absurd cc)
      | inr end ↦ (elim end [
        | inl x ↦ (let no : is_through define ≡ true = x.1 in absurd cc)
        | inr none ↦ absurd none
      ])
    ]

module _ (profile : Profile) (limit : ℕ) (s : Document) (path : List Part) (value : Value) (c : TextChange)
    (other : List Part) (more : Value) (d : TextChange) (fine : IsEditable profile limit s)
    (h : BringsHeader profile limit s path value c) (k : BringsHeader profile limit s other more d)
    (apart : strip (holder other (mentions_in s)) (holder path (mentions_in s)) ≡ None) (at : c.at ≡ d.at) where
  abbrev now : Document
  now = edited_document s (insert path value)

  abbrev a : List Part
  a = holder path (mentions_in s)

  abbrev b : List Part
  b = holder other (mentions_in s)

  abbrev its : InsertsKeys profile limit s other more
  its = brought_keys profile limit s other more d k

  -- ---- the tables

  differs : a ≢ b
  differs same =
      let some : strip b a ≡ Some [] = ap (strip b) same ∙ strip_self b in
      let no : None ≡ Some [] = sym apart ∙ some in
      absurd cc

  other_keys : first_new s path ≢ first_new s other
  other_keys =
      firsts_differ profile limit s path value other more (brought_keys profile limit s path value c h) its differs

  -- ---- the place

  -- the number of the first new line
  abbrev n : ℕ
  n = brought.n profile limit s path value c h

  -- both come before the same line of the document
  same_line : body_end k.number (lines s) ≡ n
  same_line =
      same_number profile limit s fine (body_end k.number (lines s)) n k.closed h.closed
      (sym (at_is profile limit s other more d k) ∙ sym at ∙ at_is profile limit s path value c h)

  -- ---- the last header that goes through the second table

  abbrev r : Reading
  r = brought.r profile limit s path value c h

  abbrev header : Line
  header = bodies.header profile limit s path value c fine h

  -- the new one doesn't
  goes_not : leads_through b r header ≡ false
  goes_not = by (leads_through b r header) refl
    where
      by : (t : Bool) → leads_through b r header ≡ t → t ≡ false
      by false e = refl
      by true e =
          absurd (above_own r.tables (keys_of (key_with (keys_in a))) a b
          (path_is profile limit s path value c fine h) apart
          (has_some is_through b (line_mentions r header) e))

  before : IsLastBefore (leads_through b) (lines now) n k.number
  before =
      still_before profile limit s path value c fine h (leads_through b) (bodiless_through b)
      (λ x l e. (and_parts (is_header l.content) (has is_through b (line_mentions x l)) e).0)
      (new_none profile limit s path value c fine h (leads_through b) refl goes_not refl) k.number k.last same_line

  there : IsThroughThere s other now k.number
  there = record {
    bare = bare_now profile limit s path value c fine h b differs k.bare;
    no_dots = dots_now profile limit s path value c fine h b
        (holder_clear profile limit s path value c fine h other more its other_keys) k.no_dots;
    last = before.last;
    closed = omega (arith, before.ends, h.closed, length_now profile limit s path value c h);
  }

  brings_now : StillBrings profile limit s now other more d
  brings_now =
      brought_there profile limit s now other more d d k k.number there
      (ap (line_start now) before.ends ∙ new_start profile limit s path value c h ∙ at) k.adds refl
      (newline_stays profile limit s path value c h fine)
      (holder_stays profile limit s path value c fine h other more its other_keys)
      (refusal_stays profile limit s path value c fine h other more its other_keys)

pub brings_ahead : StillBringsAhead
brings_ahead = brings_now
