-- An insert that adds a line to a table which dotted keys make adds the same one after a remove, of another path, took
-- a table or an element with its header.
--
-- A keyval in a body leads through paths alone that begin with the body's, and the holder does not begin with the
-- changed path (`leads_below`). So the last line that leads through the holder is the same one, in the same body
-- (TakenFound), and no header begins a body of the holder (TakenEnds). What the insert adds is beside what goes, so the
-- line is not the one right before the header that goes, and the next begins where it did, or earlier by the bytes that
-- go (`at_now`). Where it comes right before what goes, it is that line, and the next begins where the header did
-- (`at_there`). So the insert adds its own there (DottedAgain).
--
-- Theorems: `dotted_after_taken`, `dotted_before_taken`; `leads_keyval`, `leads_body`, `leads_below`: the test of lines
-- that lead through a path.
use Rattle.std.proofs.Common.{◌≡◌, ◌≢◌, ℕ, suc, ◌+◌, ◌≤◌, Bool, true, false, List, [], ◌∷◌, ◌++◌, length, map, refl}
use Rattle.std.proofs.Common.{sym, ap, subst, ◌∙◌, append_assoc, arith, Some, None, inl, inr}
use Rattle.keep_types.specs.declared.leaf.Profile.{Profile}
use Rattle.keep_syntax.specs.Tree.{Value, Line, Document, blank, keyval, header, element}
use Rattle.keep_path.specs.Path.{Part, key, strip}
use Rattle.keep_meaning.specs.Marks.{Reading, below}
use Rattle.keep_meaning.specs.Meaning.{keyed_mentions, keys_of, mentions_in}
use Rattle.keep_meaning.specs.Nodes.{has, is_dotted}
use Rattle.keep_edit_spec.specs.ClearedLines.{line_start}
use Rattle.keep_edit_spec.specs.DottedLines.{AddsDotted, StillAdds}
use Rattle.keep_edit_spec.specs.ElementRuns.{changed_path}
use Rattle.keep_edit_spec.specs.Laws.{IsEditable}
use Rattle.keep_edit_spec.specs.Lines.{leads_dotted, newline_of}
use Rattle.keep_edit_spec.specs.Look.{holder}
use Rattle.keep_edit_spec.specs.RemovedHeaders.{RemovesHeader}
use Rattle.keep_edit_spec.specs.TextChanges.{IsBeside, TextChange, moved, moved_by}
use Rattle.keep_edit_spec.proofs.Common.Runs.{strip-append, strip-sound}
use Rattle.keep_edit_spec.proofs.Insert.InsertDotted.{IsDotted, dotted_content}
use Rattle.keep_edit_spec.proofs.Lists.DottedAgain.{IsLastThere, dotted_said}
use Rattle.keep_edit_spec.proofs.Lists.DottedLine.{at_is}
use Rattle.keep_edit_spec.proofs.Lists.InsertInPlace.{same_number}
use Rattle.keep_edit_spec.proofs.Lists.NewHolder.{new_clear}
use Rattle.keep_edit_spec.proofs.Lists.SaidBeside.{said_now}
use Rattle.keep_edit_spec.proofs.Lists.SetAllowed.{prefix_clear}
use Rattle.keep_edit_spec.proofs.Lists.TakenEnds.{none_now}
use Rattle.keep_edit_spec.proofs.Lists.TakenFound.{IsFoundStill, AsksBodies, IsOfKeyvals, PassesNoneBelow, found_now}
use Rattle.keep_edit_spec.proofs.Lists.TakenGone as taken
use Rattle.keep_edit_spec.proofs.Lists.TakenKinds.{DottedAfterTaken, DottedBeforeTaken}
use Rattle.keep_edit_spec.proofs.Lists.TakenSearch.{is_keyval}
use Rattle.keep_edit_spec.proofs.Lists.TextChanges.{behind, unmoved}

-- ---- lines that lead through a path

module _ (b : List Part) where
  leading : (r : Reading) (l : Line) → leads_dotted b r l ≡ true → IsDotted b r l.content
  leading r l leads = dotted_content b r l.before l.after l.comment l.content leads

  -- each is a keyval
  pub leads_keyval : IsOfKeyvals (leads_dotted b)
  leads_keyval r l none = by (leads_dotted b r l) refl
    where
      by : (t : Bool) → leads_dotted b r l ≡ t → t ≡ false
      by false e = refl
      by true e =
          let its : IsDotted b r l.content = leading r l e in
          let is : l.content ≡ keyval its.name its.value = its.content in
          let some : is_keyval l.content ≡ true = ap is_keyval is in
          absurd cc

  pub leads_body : AsksBodies (leads_dotted b)
  leads_body r u l same =
      ap (λ (q : List Part). elim l.content [
        | blank ↦ false
        | keyval name value ↦ has is_dotted b (map (below q) (keyed_mentions (keys_of name.key) []))
        | header before k after ↦ false
        | element before k after ↦ false
      ]) same

  -- and the path begins with that of its body
  pub leads_below : (zone : List Part) → strip zone b ≡ None → PassesNoneBelow zone (leads_dotted b)
  leads_below zone clear r l reaches = by (leads_dotted b r l) refl
    where
      by : (t : Bool) → leads_dotted b r l ≡ t → t ≡ false
      by false e = refl
      by true e =
          let its : IsDotted b r l.content = leading r l e in
          let whole : b ≡ zone ++ (reaches.0 ++ its.rest) =
          its.whole
          ∙ ap (λ (q : List Part). q ++ its.rest) (strip-sound zone r.body reaches.0 reaches.1)
          ∙ append_assoc zone reaches.0 its.rest in
          let under : strip zone b ≡ Some (reaches.0 ++ its.rest) =
          ap (strip zone) whole ∙ strip-append zone (reaches.0 ++ its.rest) in
          absurd cc

-- ---- the document without the table or the element

module _ (profile : Profile) (limit : ℕ) (s : Document) (path : List Part) (c : TextChange)
    (other : List Part) (more : Value) (d : TextChange) (fine : IsEditable profile limit s)
    (h : RemovesHeader profile limit s path c) (k : AddsDotted profile limit s other more d)
    (clear : strip (changed_path path) other ≡ None) where
  abbrev now : Document
  now = taken.now profile limit s path c fine h

  abbrev n : ℕ
  n = taken.n profile limit s path c fine h

  abbrev gone : ℕ
  gone = taken.gone profile limit s path c fine h

  abbrev b : List Part
  b = holder other (mentions_in s)

  holder_clear : strip (changed_path path) b ≡ None
  holder_clear = prefix_clear (changed_path path) other b (map key (k.text ∷ k.more)) clear k.new

  -- ---- the last line that leads through the holder

  found : IsFoundStill s now (leads_dotted b) n gone k.number
  found =
      found_now profile limit s path c fine h (leads_dotted b) (leads_keyval b) (leads_body b)
      (leads_below b (changed_path path) holder_clear) k.number k.last

  abbrev j : ℕ
  j = found.number

  closed_now : suc j ≤ length now.ended
  closed_now =
      let few = taken.few profile limit s path c fine h in
      let was = taken.length_was profile limit s path c fine h in
      elim found.place [
        | inl to ↦ omega (arith, to.0, to.1, few, was)
        | inr from ↦ omega (arith, from.1, k.closed, was)
      ]

  there : IsLastThere s other k.number now j
  there = record {
    bare = none_now profile limit s path c fine h b holder_clear k.bare;
    last = found.last;
    body = found.body;
    closed = closed_now;
  }

  -- ---- its place

  d_at : d.at ≡ line_start s (suc k.number)
  d_at = at_is profile limit s other more d k

  -- as this change moves it
  adds_by : (e : TextChange) → line_start now (suc j) ≡ moved_by e d.at → newline_of now ≡ newline_of s
      → StillAdds true profile limit s now other more (moved e d)
  adds_by e at same =
      dotted_said profile limit s now other more e d k j there at same (changed_path path)
      (said_now profile limit s path c fine h) clear

  -- what is added is beside what goes
  module _ (beside : IsBeside c d) where
    next_apart : suc k.number ≢ n
    next_apart e =
        taken.begins_elsewhere profile limit s path c fine h d beside
        (taken.start_is profile limit s path c fine h ∙ ap (line_start s) (sym e) ∙ sym d_at)

    at_now : line_start now (suc j) ≡ moved_by c d.at
    at_now = elim found.place [
      | inl to ↦
          sym (taken.at_before profile limit s path c fine h (suc j) d.at (omega (arith, to.0, to.1, next_apart))
          (d_at ∙ ap (λ (i : ℕ). line_start s (suc i)) to.1))
      | inr from ↦
          let next : suc k.number ≡ suc j + gone = omega (arith, from.1) in
          sym (taken.at_from profile limit s path c fine h (suc j) d.at (omega (arith, from.0))
          (d_at ∙ ap (line_start s) next))
    ]

    adds_now : newline_of now ≡ newline_of s → StillAdds true profile limit s now other more (moved c d)
    adds_now = adds_by c at_now

  -- or right before it
  module _ (starts : c.at ≡ d.at) where
    next : suc k.number ≡ n
    next =
        same_number profile limit s fine (suc k.number) n k.closed
        (omega (arith, taken.few profile limit s path c fine h))
        (sym d_at ∙ sym starts ∙ taken.start_is profile limit s path c fine h)

    same : k.number ≡ j
    same = elim found.place [ inl to ↦ to.1 | inr from ↦ absurd (omega (arith, from.0, from.1, next)) ]

    at_there : line_start now (suc j) ≡ moved_by (behind d.at) d.at
    at_there =
        taken.start_before profile limit s path c fine h (suc j) (omega (arith, same, next))
        ∙ ap (λ (i : ℕ). line_start s (suc i)) (sym same) ∙ sym d_at ∙ sym (unmoved d.at)

    adds_there : newline_of now ≡ newline_of s → StillAdds true profile limit s now other more d
    adds_there newline =
        subst (λ (i : ℕ). StillAdds true profile limit s now other more (record d { at = i })) (unmoved d.at)
        (adds_by (behind d.at) at_there newline)

pub dotted_after_taken : DottedAfterTaken
dotted_after_taken profile limit s path c other more d fine h k apart beside same past =
    let is = taken.is_now profile limit s path c fine h in
    let clear : strip (changed_path path) other ≡ None =
    new_clear s other k.text k.more k.new (changed_path path) apart in
    subst (λ (z : Document). StillAdds true profile limit s z other more (moved c d)) (sym is)
    (adds_now profile limit s path c other more d fine h k clear beside (ap newline_of (sym is) ∙ same))

pub dotted_before_taken : DottedBeforeTaken
dotted_before_taken profile limit s path c other more d fine h k apart starts same =
    let is = taken.is_now profile limit s path c fine h in
    let clear : strip (changed_path path) other ≡ None =
    new_clear s other k.text k.more k.new (changed_path path) apart in
    subst (λ (z : Document). StillAdds true profile limit s z other more d) (sym is)
    (adds_there profile limit s path c other more d fine h k clear starts (ap newline_of (sym is) ∙ same))
