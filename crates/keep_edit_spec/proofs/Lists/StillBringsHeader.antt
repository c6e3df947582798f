-- An insert that brings the header of its table brings the same after another such insert, of another table and to
-- another place, brought its own.
--
-- The document says of the second path what it said (BroughtAllowed), so the insert is not refused, and its holder is
-- the same. The first insert puts in three lines where the body of a header ends that goes through its own table. They
-- begin no body of the second table, as they begin that of the first; and their keyval does not lead there, as what it
-- says is under the path of the first new key (BroughtSaid). Their header goes through the second table only if that
-- other header does (BroughtWay), and that one is not the last that does, as its body ends at the first insert's place.
-- So the last one is the same, and its body ends where it did (BroughtBodies): the same lines come, at the moved place
-- (BroughtLines).
--
-- Theorem: `still_brings_header`.
use Rattle.std.proofs.Common.{◌≡◌, ◌≢◌, ℕ, ◌+◌, Bool, true, false, List, [], ◌∷◌, ◌++◌, length, map}
use Rattle.std.proofs.Common.{take, refl, sym, ap, ◌∙◌, None, Some, ◌⊎◌, inl, inr}
use Rattle.std.specs.List.{list_any}
use Rattle.std.proofs.lemmas.Bool.{and_parts}
use Rattle.keep_types.specs.declared.leaf.Profile.{Profile}
use Rattle.keep_syntax.specs.Tree.{Document, Line, Value, bom_leaves, text_of}
use Rattle.keep_path.specs.Path.{Part, key}
use Rattle.keep_meaning.specs.Marks.{Mention, Reading, below, start}
use Rattle.keep_meaning.specs.Meaning.{after_line, keyed_mentions, keys_of, line_mentions, lines, mentions_in}
use Rattle.keep_meaning.specs.Meaning.{reading_after_lines}
use Rattle.keep_meaning.specs.Nodes.{has, is_dotted, is_through}
use Rattle.keep_edit_spec.specs.AddedLines.{first_new}
use Rattle.keep_edit_spec.specs.BroughtHeaders.{AreOthers, BringsHeader, StillBrings, StillBringsHeader, brought_at}
use Rattle.keep_edit_spec.specs.Edits.{at_line, change, edited_document, end_of, insert, name_with}
use Rattle.keep_edit_spec.specs.Laws.{IsEditable}
use Rattle.keep_edit_spec.specs.Lines.{begins, body_end, is_header, last_line, leads_dotted, leads_through}
use Rattle.keep_edit_spec.specs.Look.{holder}
use Rattle.keep_edit_spec.specs.TextChanges.{TextChange, moved}
use Rattle.keep_edit_spec.proofs.Common.Runs.{kinds_at-under}
use Rattle.keep_edit_spec.proofs.Lists.BroughtAllowed.{brought_keys, firsts_differ, holder_clear, holder_stays}
use Rattle.keep_edit_spec.proofs.Lists.BroughtAllowed.{refusal_stays}
use Rattle.keep_edit_spec.proofs.Lists.BroughtBodies as bodies
use Rattle.keep_edit_spec.proofs.Lists.BroughtBodies.{new_none, new_there, none_now, not_begun, still_last}
use Rattle.keep_edit_spec.proofs.Lists.BroughtLines as brought
use Rattle.keep_edit_spec.proofs.Lists.BroughtLines.{at_is, brings_at, enough, header_lines, new_is, place_after}
use Rattle.keep_edit_spec.proofs.Lists.BroughtSaid.{run, under}
use Rattle.keep_edit_spec.proofs.Lists.BroughtWay.{goes_before, path_is}
use Rattle.keep_edit_spec.proofs.Lists.DottedAfter.{bare_by}
use Rattle.keep_edit_spec.proofs.Lists.LinesAfterBody.{IsStillLast, bodiless_begins, bodiless_dotted, bodiless_through}
use Rattle.keep_edit_spec.proofs.Lists.NewPaths.{InsertsKeys}
use Rattle.keep_edit_spec.proofs.Lists.Places.{width}

module _ (profile : Profile) (limit : ℕ) (s : Document) (path : List Part) (value : Value) (c : TextChange)
    (other : List Part) (more : Value) (d : TextChange) (fine : IsEditable profile limit s)
    (h : BringsHeader profile limit s path value c) (k : BringsHeader profile limit s other more d)
    (others : AreOthers (brought_at s path c) (brought_at s other d)) where
  abbrev ms : List Mention
  ms = mentions_in s

  abbrev now : Document
  now = edited_document s (insert path value)

  abbrev a : List Part
  a = holder path ms

  abbrev b : List Part
  b = holder other ms

  abbrev its : InsertsKeys profile limit s other more
  its = brought_keys profile limit s other more d k

  other_keys : first_new s path ≢ first_new s other
  other_keys =
      firsts_differ profile limit s path value other more (brought_keys profile limit s path value c h) its
      others.table

  -- ---- the lines

  abbrev n : ℕ
  n = brought.n profile limit s path value c h

  abbrev new : List Line
  new = bodies.new profile limit s path value c fine h

  abbrev r : Reading
  r = brought.r profile limit s path value c h

  abbrev header : Line
  header = bodies.header profile limit s path value c fine h

  abbrev statement : Line
  statement = bodies.statement profile limit s path value c fine h

  -- ---- what none of the new lines does

  not_dotted : leads_dotted b (after_line r header) statement ≡ false
  not_dotted =
      ap (λ (p : List Part).
      has is_dotted b (map (below p) (keyed_mentions (keys_of (name_with (h.text ∷ h.more)).key) [])))
      (path_is profile limit s path value c fine h)
      ∙ ap (list_any is_dotted)
      (kinds_at-under (first_new s path) b (run profile limit s path value c fine h [])
      (under profile limit s path value c fine h [])
      (holder_clear profile limit s path value c fine h other more its other_keys))

  bare_now : end_of now b ≡ None
  bare_now =
      bare_by s now b k.bare
      (none_now profile limit s path value c fine h (begins b) (bodiless_begins b)
      (new_none profile limit s path value c fine h (begins b) refl
      (not_begun profile limit s path value c fine h b others.table) refl))

  dots_now : last_line (leads_dotted b) start (lines now) ≡ None
  dots_now =
      none_now profile limit s path value c fine h (leads_dotted b) (bodiless_dotted b)
      (new_none profile limit s path value c fine h (leads_dotted b) refl refl not_dotted) k.no_dots

  -- ---- the last header that goes through the second table

  abbrev at : Reading
  at = reading_after_lines start (bodies.pre profile limit s path value c fine h)

  abbrev there : Reading
  there = reading_after_lines start (bodies.first profile limit s path value c fine h)

  only : (leads_through b at (bodies.here profile limit s path value c fine h) ≡ true)
      ⊎ (last_line (leads_through b) there new ≡ None)
  only = by (leads_through b r header) refl
    where
      by : (t : Bool) → leads_through b r header ≡ t
          → (leads_through b at (bodies.here profile limit s path value c fine h) ≡ true)
          ⊎ (last_line (leads_through b) there new ≡ None)
      by true e = inl (goes_before profile limit s path value c fine h b e)
      by false e =
          inr (new_there profile limit s path value c fine h (leads_through b)
          (new_none profile limit s path value c fine h (leads_through b) refl e refl))

  -- its body ends elsewhere
  other_end : body_end k.number (lines s) ≢ n
  other_end ends =
      others.at
      (at_is profile limit s path value c h
      ∙ ap (λ (m : ℕ). length (text_of (bom_leaves s.bom)) + width (take m s.ended)) (sym ends)
      ∙ sym (at_is profile limit s other more d k))

  still : IsStillLast (leads_through b) (lines s) (lines now) n 3 k.number
  still =
      still_last profile limit s path value c fine h (leads_through b) (bodiless_through b)
      (λ x l e. (and_parts (is_header l.content) (has is_through b (line_mentions x l)) e).0) only k.number k.last
      other_end

  -- ---- the place

  abbrev m : ℕ
  m = body_end k.number (lines s)

  abbrev j : ℕ
  j = body_end still.number (lines now)

  holds : holder other (mentions_in now) ≡ b
  holds = holder_stays profile limit s path value c fine h other more its other_keys

  new_now : other ≡ holder other (mentions_in now) ++ map key (k.text ∷ k.more)
  new_now = k.new ∙ ap (λ (q : List Part). q ++ map key (k.text ∷ k.more)) (sym holds)

  bare : end_of now (holder other (mentions_in now)) ≡ None
  bare = ap (end_of now) holds ∙ bare_now

  no_dots : last_line (leads_dotted (holder other (mentions_in now))) start (lines now) ≡ None
  no_dots = ap (λ (q : List Part). last_line (leads_dotted q) start (lines now)) holds ∙ dots_now

  last_now : last_line (leads_through (holder other (mentions_in now))) start (lines now) ≡ Some still.number
  last_now =
      ap (λ (q : List Part). last_line (leads_through q) start (lines now)) holds
      ∙ still.last

  changed_now : change now (insert other more) ≡ at_line now j (header_lines b (k.text ∷ k.more) more)
  changed_now =
      brings_at now other more k.text k.more still.number new_now bare no_dots last_now
      ∙ ap (λ (q : List Part). at_line now j (header_lines q (k.text ∷ k.more) more)) holds

  brings : StillBrings profile limit s now other more (moved c d)
  brings = (
    record {
      utf8 = k.utf8;
      given = k.given;
      allowed = refusal_stays profile limit s path value c fine h other more its other_keys;
      text = k.text;
      more = k.more;
      new = new_now;
      bare = bare;
      no_dots = no_dots;
      number = still.number;
      last = last_now;
      closed = enough profile limit s path value c h fine m j k.closed still.ends;
      adds = k.adds;
      is = place_after profile limit s path value c h fine m j k.closed still.ends d (insert other more)
          (header_lines b (k.text ∷ k.more) more) (new_is profile limit s other more d k)
          (at_is profile limit s other more d k) changed_now;
    },
    holds,
  )

pub still_brings_header : StillBringsHeader
still_brings_header = brings
