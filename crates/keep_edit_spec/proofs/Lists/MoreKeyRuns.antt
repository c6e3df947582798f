-- Runs of edits of all kinds that go on by a further key of a table that an insert's dotted keys made: the insert added
-- its line at the end of a body, or to such a table, and was the last one made.
--
-- The other insert adds its line behind that one (MoreKeys), wherever the run moves it (`opens`), and so does one more
-- after it, of another key again (`still_open`). After it another edit makes its change as before: it comes after the
-- new line, as it comes after one at the end of a body (`order`).
--
-- Theorems: `run_is_open`, `run_goes_on_inside`.
use Rattle.std.proofs.Common.{◌≡◌, ◌≢◌, ◌∙◌, ℕ, List, [], ◌∷◌, ◌++◌, refl, sym, ap, subst, subst₂}
use Rattle.std.proofs.Common.{All, None, false, true}
use Rattle.std.proofs.lemmas.List.Elements.{All-head, All-nil, All-tail, All-weaker}
use Rattle.keep_types.specs.declared.leaf.Profile.{Profile}
use Rattle.keep_syntax.specs.Tree.{Document, Value, text}
use Rattle.keep_path.specs.Path.{Part, key, without_last}
use Rattle.keep_meaning.specs.Meaning.{mentions_in}
use Rattle.keep_edit_spec.specs.AddedLines.{first_new}
use Rattle.keep_edit_spec.specs.DottedLines.{AddsDotted, AreInOrder, added_at}
use Rattle.keep_edit_spec.specs.Edits.{Edit, append_element, append_table, edited_document, insert, remove, rename, set}
use Rattle.keep_edit_spec.specs.ElementRuns.{IsElementRun, IsElsewhere, KeepsPlaceAmong, changed_path}
use Rattle.keep_edit_spec.specs.InsertKinds.{Added, AddsAs, IsAfterAs, IsAfterLine, added_as, kind_of}
use Rattle.keep_edit_spec.specs.Laws.{IsLawfulEdit}
use Rattle.keep_edit_spec.specs.Look.{holder}
use Rattle.keep_edit_spec.specs.MoreKeys.{GoOnApart, IsOpen, RunGoesOnInside, RunIsOpen, inner_line, key_below}
use Rattle.keep_edit_spec.specs.Refusals.{refusal}
use Rattle.keep_edit_spec.specs.RemovedHeaders.{RemovesHeader, first_path}
use Rattle.keep_edit_spec.specs.Runs.{LeaveNewline, ComesInOrder, IsBeforeHeaders, IsInOrder, IsSeenStill}
use Rattle.keep_edit_spec.specs.Runs.{IsStillPlaced}
use Rattle.keep_edit_spec.specs.Runs.{LeavesAlone, LetsCome, MakesChange, seen}
use Rattle.keep_edit_spec.specs.TextChanges.{IsBeside, TextChange, moved_past, with_change}
use Rattle.keep_edit_spec.specs.declared.line_kind.LineKind.{LineKind}
use Rattle.keep_edit_spec.specs.declared.line_kind.LineKind.TheVariants.{LastInBody, OfDotted, WithHeader}
use Rattle.keep_edit_spec.proofs.Insert.ItemCount.{without_last-snoc}
use Rattle.keep_edit_spec.proofs.Lists.DottedLeads.{at_own}
use Rattle.keep_edit_spec.proofs.Lists.DottedLine as dotted
use Rattle.keep_edit_spec.proofs.Lists.LineKinds.{as_of_kind, kind_is}
use Rattle.keep_edit_spec.proofs.Lists.MadeChanges.{change_allowed, change_lawful}
use Rattle.keep_edit_spec.proofs.Lists.MoreKeys.{adds_more_key, one_holder}
use Rattle.keep_edit_spec.proofs.Lists.PlacesBefore.{among_before}
use Rattle.keep_edit_spec.proofs.Lists.PlacesKept.{change_placed}
use Rattle.keep_edit_spec.proofs.Lists.RunLaws.{same_seen, seen_on}
use Rattle.keep_edit_spec.proofs.Lists.StillAddsLineTo.{still_adds_line_to}
use Rattle.keep_edit_spec.proofs.Lists.StillMakes.{still_makes}
use Rattle.keep_edit_spec.proofs.Lists.StillWithout.{still_removes_after}
use Rattle.keep_edit_spec.proofs.Lists.TextChanges.{beside_past, begins_at_one, moved_with, one_of_all, rest_of_all}
use Rattle.keep_edit_spec.proofs.Lists.TextsAfter.{IsTextAfter, made_puts, of_element_run, text_goes_on}

-- what leaves alone an insert leaves alone one of another value
other_value : (path : List Part) (v w : Value) (f : Edit) → LeavesAlone f (insert path v)
    → LeavesAlone f (insert path w)
other_value path v w (insert other more) h = h
other_value path v w (remove other) h = h
other_value path v w (set other more) h = h
other_value path v w (rename other name) h = h
other_value path v w (append_table keys) h = h
other_value path v w (append_element keys) h = h

-- ---- after the first of them

module _ (profile : Profile) (limit : ℕ) (s : Document) (es : List Edit) (changes : List TextChange)
    (lines : List Added) (now : Document) (r : IsElementRun profile limit s es changes lines [] now) (path : List Part)
    (value : Value) (c : TextChange) (kind : LineKind) (headless : kind ≢ WithHeader)
    (h : AddsAs kind profile limit s path value c)
    (alone : All (λ f. LeavesAlone f (seen s (insert path value))) es) (beside : All (λ x. IsBeside x c) changes)
    (placed : KeepsPlaceAmong s es changes lines (insert path value) c) where
  module _ (other : List Part) (more : Value) (d : TextChange) (k : AddsAs kind profile limit s other more d)
      (same : first_new s path ≡ first_new s other) (side : All (λ x. IsBeside x d) changes) where
    there : (holder other (mentions_in s) ≡ holder path (mentions_in s)) × (d.at ≡ c.at)
    there = one_holder kind profile limit s path value c other more d headless h k same

    kinds : kind_of s other ≡ kind_of s path
    kinds = kind_is kind profile limit s other more d k ∙ sym (kind_is kind profile limit s path value c h)

    alike : added_as s path c ≡ added_as s other d
    alike =
        ap (λ (first : List Part). record { first = first; at = c.at; kind = kind_of s path }) same
        ∙ ap (λ (at : ℕ). record { first = first_new s other; at = at; kind = kind_of s path }) (sym there.1)
        ∙ ap (λ (kind : LineKind). record { first = first_new s other; at = d.at; kind = kind }) (sym kinds)

    made : MakesChange profile limit now (insert other more) (moved_past changes d)
        × IsSeenStill s now (insert other more)
    made =
        r.later (insert other more) d (kind, k)
        (subst (λ (first : List Part). All (λ f. LeavesAlone f (insert first more)) es) same
        (All-weaker (λ f. LeavesAlone f (insert (first_new s path) value))
        (λ f. LeavesAlone f (insert (first_new s path) more)) (other_value (first_new s path) value more) es alone))
        (All-nil (λ (gone : List Part). IsElsewhere (changed_path gone) (seen s (insert other more)))) side
        placed_too
      where
        Lets : ℕ → Type 0
        Lets at =
            LeaveNewline s changes × (All (LetsCome (text s) changes at) changes × IsBeforeHeaders (text s) es at)

        placed_too : KeepsPlaceAmong s es changes lines (insert other more) d
        placed_too =
            (subst (IsInOrder es changes lines) alike placed.0, subst Lets (sym there.1) placed.1)

  opens : IsOpen profile limit s (seen s (insert path value) ∷ es) (with_change changes c)
      (edited_document now (insert path value)) path kind
  opens = record {
    more = λ other more d k same apart left side.
        let others : All (λ x. IsBeside x d) changes = rest_of_all (λ x. IsBeside x d) changes c side in
        let (its_now, its_seen) = made other more d k same others in
        let (own_now, own_seen) =
        r.later (insert path value) c (kind, h) alone
        (All-nil (λ (gone : List Part). IsElsewhere (changed_path gone) (seen s (insert path value)))) beside placed in
        let apart_now : GoOnApart (first_new now path) path other =
        record {
          own = apart.own;
          own_rest = apart.own_rest;
          path_is = apart.path_is ∙ ap (λ (p : List Part). p ++ key apart.own ∷ apart.own_rest) (sym own_seen.0);
          next = apart.next;
          rest = apart.rest;
          other_is = apart.other_is ∙ ap (λ (p : List Part). p ++ key apart.next ∷ apart.rest) (sym own_seen.0);
          differ = apart.differ;
        } in
        let (adds, first) =
        adds_more_key profile limit now path value (moved_past changes c) kind other more (moved_past changes d)
        r.editable headless
        (as_of_kind kind profile limit now path value (moved_past changes c)
        (own_seen.1 ∙ kind_is kind profile limit s path value c h) own_now)
        (as_of_kind kind profile limit now other more (moved_past changes d)
        (its_seen.1 ∙ kind_is kind profile limit s other more d k) its_now)
        (own_seen.0 ∙ same ∙ sym its_seen.0) apart_now in (
          subst (AddsDotted profile limit (edited_document now (insert path value)) other more)
              (sym (moved_with changes c d r.follow beside others (one_of_all (λ x. IsBeside x d) changes c side)))
              adds,
          first ∙ ap (λ (p : List Part). key_below p apart.next) own_seen.0,
        );
  }

-- ---- one more

module _ (profile : Profile) (limit : ℕ) (s : Document) (es : List Edit) (changes : List TextChange)
    (lines : List Added) (now : Document) (r : IsElementRun profile limit s es changes lines [] now) (path : List Part)
    (kind : LineKind) (is_open : IsOpen profile limit s es changes now path kind) (other : List Part) (value : Value)
    (d : TextChange) (k : AddsAs kind profile limit s other value d) (same : first_new s path ≡ first_new s other)
    (apart : GoOnApart (first_new s path) path other)
    (left : All (λ f. LeavesAlone f (insert (key_below (first_new s path) apart.next) value)) es)
    (side : All (λ x. IsBeside x d) changes) where
  abbrev e : Edit
  e = insert other value

  abbrev c : TextChange
  c = moved_past changes d

  abbrev below : List Part
  below = key_below (first_new s path) apart.next

  adds : AddsDotted profile limit now other value c
  adds = (is_open.more other value d k same apart left side).0

  first : first_new now other ≡ below
  first = (is_open.more other value d k same apart left side).1

  makes : MakesChange profile limit now e c
  makes = (OfDotted, adds)

  kind_now : kind_of now other ≡ OfDotted
  kind_now = kind_is OfDotted profile limit now other value c adds

  allowed : refusal profile limit now e ≡ None
  allowed = change_allowed profile limit now e c makes

  lawful : IsLawfulEdit profile limit now e
  lawful = change_lawful profile limit now e c r.editable makes

  still_open : IsOpen profile limit s (insert below value ∷ es) (with_change changes d) (edited_document now e) path
      kind
  still_open = record {
    more = λ another v g its same_too apart_too left_too side_too.
        let others : All (λ x. IsBeside x g) changes = rest_of_all (λ x. IsBeside x g) changes d side_too in
        let next : List Part = key_below (first_new s path) apart_too.next in
        let (adds_too, first_too) =
        is_open.more another v g its same_too apart_too
        (All-tail (λ f. LeavesAlone f (insert next v)) (insert below value) es left_too) others in
        let differs : below ≢ next = All-head (λ f. LeavesAlone f (insert next v)) (insert below value) es left_too in
        let order : AreInOrder (added_at now other c true) (added_at now another (moved_past changes g) true) =
        record {
          other = λ is. differs (sym first ∙ is ∙ first_too);
          table = λ here at. (
            refl,
            at_own (without_last (first_new now other)) (without_last (first_new now another))
                (ap (λ (p : List Part). without_last p) first ∙ without_last-snoc (first_new s path) (key apart.next)
                ∙ sym (ap (λ (p : List Part). without_last p) first_too
                ∙ without_last-snoc (first_new s path) (key apart_too.next))),
          );
        } in
        let (still, first_still) =
        still_adds_line_to profile limit now other value c true another v (moved_past changes g) true r.editable adds
        adds_too order in (
          subst (AddsDotted profile limit (edited_document now e) another v)
              (sym (moved_with changes d g r.follow side others (one_of_all (λ x. IsBeside x g) changes d side_too)))
              still,
          first_still ∙ first_too,
        );
  }

  -- ---- the run with it

  abbrev next_es : List Edit
  next_es = insert below value ∷ es

  -- its line, as one at the end of a body
  abbrev line : Added
  line = inner_line below d.at

  abbrev next_lines : List Added
  next_lines = line ∷ lines

  abbrev then : Document
  then = edited_document now e

  after : IsTextAfter profile limit s (with_change changes d) then
  after =
      text_goes_on profile limit s changes now e d (of_element_run profile limit s es changes lines now [] r)
      (change_placed profile limit s e d r.first (kind, k)).within side
      (made_puts profile limit now e c r.editable makes)

  module _ (f : Edit) (g : TextChange) (others : All (λ x. IsBeside x g) changes) (one : IsBeside d g)
      (seen_there : IsSeenStill s now f) where
    order : KeepsPlaceAmong s next_es (with_change changes d) next_lines f g
        → ComesInOrder now f (moved_past changes g) e c
    order = by f seen_there
      where
        no_header : kind_of now other ≡ WithHeader → {A : Type 0} → A
        no_header is = absurd (let both : OfDotted ≡ WithHeader = sym kind_now ∙ is in cc)

        by : (f : Edit) → IsSeenStill s now f
            → KeepsPlaceAmong s next_es (with_change changes d) next_lines f g
            → ComesInOrder now f (moved_past changes g) e c
        by (insert p v) still placed =
            let its : Added = added_as s p g in
            let behind : IsAfterLine line its = All-head (λ l. IsAfterLine l its) line lines placed.0.after in
            in_kind (kind_of s p) refl behind
          where
            in_kind : (a : LineKind) → kind_of s p ≡ a → IsAfterLine line (added_as s p g)
                → IsAfterLine (added_as now other c) (added_as now p (moved_past changes g))
            in_kind LastInBody is behind =
                subst (λ (b : LineKind). IsAfterAs b (added_as now other c) (added_as now p (moved_past changes g)))
                (sym (still.1 ∙ is))
                (λ at head. no_header head)
            in_kind OfDotted is behind =
                subst (λ (b : LineKind). IsAfterAs b (added_as now other c) (added_as now p (moved_past changes g)))
                (sym (still.1 ∙ is))
                (λ at.
                (let here : d.at ≡ g.at = begins_at_one changes d g r.follow side others at in
                let both : LastInBody ≡ OfDotted =
                (subst (λ (b : LineKind). IsAfterAs b line (added_as s p g)) is behind here).0 in
                absurd cc))
            in_kind WithHeader is behind =
                subst (λ (b : LineKind). IsAfterAs b (added_as now other c) (added_as now p (moved_past changes g)))
                (sym (still.1 ∙ is))
                (λ head. no_header head)
        by (set p v) still placed = tt
        by (rename p text) still placed = tt
        by (remove p) still placed = tt
        by (append_table keys) still placed = λ head. no_header head
        by (append_element keys) still placed = λ head. no_header head

    placed_still : KeepsPlaceAmong s next_es (with_change changes d) next_lines f g
        → IsStillPlaced now e c f (moved_past changes g)
    placed_still placed = (
      λ new. (
        (dotted.puts profile limit now other value c adds r.editable).newline,
        λ no. (let line : true ≡ false = no in absurd cc),
      ),
      order placed,
    )

  later : (f : Edit) (g : TextChange) → MakesChange profile limit s f g
      → All (λ x. LeavesAlone x (seen s f)) next_es
      → All (λ gone. IsElsewhere (changed_path gone) (seen s f)) []
      → All (λ x. IsBeside x g) (with_change changes d)
      → KeepsPlaceAmong s next_es (with_change changes d) next_lines f g
      → MakesChange profile limit then f (moved_past (with_change changes d) g) × IsSeenStill s then f
  later f g its alone elsewhere beside placed =
      let others : All (λ x. IsBeside x g) changes = rest_of_all (λ x. IsBeside x g) changes d beside in
      let one : IsBeside d g = one_of_all (λ x. IsBeside x g) changes d beside in
      let (makes_now, seen_there) =
      r.later f g its (All-tail (λ x. LeavesAlone x (seen s f)) (insert below value) es alone) elsewhere others
      (among_before s next_es es (λ P. All-tail P (insert below value) es) next_lines lines
      (λ P. All-tail P line lines) changes d f g placed) in
      let alone_now : LeavesAlone (seen now e) (seen now f) =
      subst₂ (λ (p : List Part) (b : Edit). LeavesAlone (insert p value) b) (sym first)
      (sym (same_seen s now f seen_there))
      (All-head (λ x. LeavesAlone x (seen s f)) (insert below value) es alone) in
      let (still, same_still) =
      still_makes profile limit now e c f (moved_past changes g) r.editable makes makes_now alone_now
      (beside_past changes d g r.follow side others one) (placed_still f g others one seen_there placed) in (
        subst (MakesChange profile limit then f) (sym (moved_with changes d g r.follow side others one)) still,
        seen_on s now then f seen_there same_still,
      )

  removes : (gone : List Part) (g : TextChange) → RemovesHeader profile limit s (first_path [] gone) g
      → All (IsElsewhere (changed_path gone)) next_es → All (λ x. IsBeside x g) (with_change changes d)
      → RemovesHeader profile limit then gone (moved_past (with_change changes d) g)
  removes gone g its elsewhere beside =
      let others : All (λ x. IsBeside x g) changes = rest_of_all (λ x. IsBeside x g) changes d beside in
      let one : IsBeside d g = one_of_all (λ x. IsBeside x g) changes d beside in
      subst (RemovesHeader profile limit then gone) (sym (moved_with changes d g r.follow side others one))
      (still_removes_after profile limit now e c gone (moved_past changes g) r.editable makes
      (r.removes gone g its (All-tail (IsElsewhere (changed_path gone)) (insert below value) es elsewhere) others)
      (subst (λ (p : List Part). IsElsewhere (changed_path gone) (insert p value)) (sym first)
      (All-head (IsElsewhere (changed_path gone)) (insert below value) es elsewhere))
      (beside_past changes d g r.follow side others one))

  longer : IsElementRun profile limit s next_es (with_change changes d) next_lines [] then
  longer = record {
    first = after.first;
    editable = after.editable;
    follow = after.follow;
    text = after.text;
    kept = after.kept;
    later = later;
    removes = removes;
  }

pub run_is_open : RunIsOpen
run_is_open profile limit s edits changes lines now path value c kind r headless h alone beside placed =
    opens profile limit s edits changes lines now r path value c kind headless h alone beside placed

pub run_goes_on_inside : RunGoesOnInside
run_goes_on_inside profile limit s edits changes lines now path kind other value d r is_open k same apart left side =
    record {
      allowed = allowed profile limit s edits changes lines now r path kind is_open other value d k same apart left
          side;
      lawful = lawful profile limit s edits changes lines now r path kind is_open other value d k same apart left
          side;
      run = longer profile limit s edits changes lines now r path kind is_open other value d k same apart left
          side;
      still = still_open profile limit s edits changes lines now r path kind is_open other value d k same apart left
          side;
    }
