-- A rename finds nothing in the line that a remove took or cleared, where the two changes are beside each other.
--
-- The line is a path's own, and the remove's change is from its key or before it, to its end. One key part names the
-- path of the rename, and if it were in that line, no line before it would say anything of the path (`none_before`).
-- Then the key part that the rename replaces would be that one (`here_changes`), within the place that the other change
-- takes (`not_here`). So the line's own key is not renamed (`misses`). Nothing in its value is, since the path does not
-- begin with the line's (`value_misses`). Where a line says something of the path, one of the two is (`line_there` of
-- RenameFound). So this line says nothing of it (`unmarked`).
--
-- Theorems: `misses`: it finds nothing there; `unmarked`: no key part there names its path. Both ask `IsTaken` of the
-- remove's change. `ended_here`: one of several valid lines.
use Rattle.std.proofs.Common.{◌≡◌, ℕ, zero, suc, ◌+◌, ◌<◌, ◌≤◌, true, List, [], ◌∷◌, ◌++◌, length, map, refl, sym, ap}
use Rattle.std.proofs.Common.{ap₂, subst, ◌∙◌, length-append, arith, Option, Some, None, inl, inr}
use Rattle.std.specs.Prelude.{position}
use Rattle.std.specs.List.{AllByRecursion}
use Rattle.keep_types.specs.declared.leaf.Profile.{Profile}
use Rattle.keep_syntax.specs.Tree.{Written, Content, Line, Ended, Document, bom_leaves, comment_leaves, ended_leaves}
use Rattle.keep_syntax.specs.Tree.{text_of}
use Rattle.keep_syntax.specs.Grammar.{IsEnded}
use Rattle.keep_syntax.specs.Numbered as syntax
use Rattle.keep_syntax.specs.Numbered.{first_line, line_parts}
use Rattle.keep_path.specs.Path.{Part, beside, same_path, strip}
use Rattle.keep_meaning.specs.Counts.{is_mark}
use Rattle.keep_meaning.specs.Marks.{Mention, MentionKind, Reading, begun, passed, start}
use Rattle.keep_meaning.specs.Meaning.{after_line, line_mentions, line_of, lines, lines_mentions, mentions_in}
use Rattle.keep_meaning.specs.Meaning.{reading_after_lines}
use Rattle.keep_meaning.specs.Nodes.{mark_count}
use Rattle.keep_edit_spec.specs.Changed.{Changed, Place, framed_change, or_else, place_of, within}
use Rattle.keep_edit_spec.specs.Edits.{change, changed_or_same, key_part, nested, rename}
use Rattle.keep_edit_spec.specs.Laws.{IsEditable}
use Rattle.keep_edit_spec.specs.Lines.{Page, in_document, in_line, in_lines, last_line, line_text, part_paths}
use Rattle.keep_edit_spec.specs.Lines.{rename_content, rename_line, with_page}
use Rattle.keep_edit_spec.specs.RenamedKeys.{RenamesKey}
use Rattle.keep_edit_spec.specs.TextChanges.{IsBeside, TextChange, place_of_change}
use Rattle.keep_edit_spec.specs.Values.{renaming}
use Rattle.keep_edit_spec.proofs.Common.LineLaws.{EndsInKey}
use Rattle.keep_edit_spec.proofs.Common.LineTexts.{rename_line-is}
use Rattle.keep_edit_spec.proofs.Common.Marks.{rules_of_document}
use Rattle.keep_edit_spec.proofs.Common.Runs.{Allowed, Rules, SomeOf, pairs_split, solid, some_left, some_right}
use Rattle.keep_edit_spec.proofs.Common.SetLaw.{IsSolidAt}
use Rattle.keep_edit_spec.proofs.Common.Texts.{EachIs}
use Rattle.keep_edit_spec.proofs.Common.DoneAtValue.{EachOf}
use Rattle.keep_edit_spec.proofs.Common.ValueThere.{IsSome}
use Rattle.keep_edit_spec.proofs.Lists.LineGone.{behind, right_of, with_line}
use Rattle.keep_edit_spec.proofs.Lists.OwnLine as own
use Rattle.keep_edit_spec.proofs.Lists.Places.{size, width, width_more}
use Rattle.keep_edit_spec.proofs.Lists.RemovedPlaces.{IsCutAt, mine}
use Rattle.keep_edit_spec.proofs.Lists.SetPlaces.{length_cut, past_line}
use Rattle.keep_edit_spec.proofs.Rename.RenameFound.{line_there}
use Rattle.keep_edit_spec.proofs.Rename.RenameOnce.{Once, once_after, once_counted, some_counted}
use Rattle.keep_edit_spec.proofs.Rename.RenamePlace.{IsRenamedIn, renamed_own_line}
use Rattle.keep_edit_spec.proofs.Rename.RenameWhole.{IsRenamable, beside_is, renamable}
use Rattle.keep_edit_spec.proofs.Rename.RenamedPath.{ends_old}

-- ---- a line whose own key is renamed says something of the path

mark_solid : (kind : MentionKind) → is_mark kind ≡ true → solid kind ≡ true
mark_solid begun e = absurd cc
mark_solid passed e = absurd cc
mark_solid other e = refl

pub told : (new : Written) (p : List Part) (n : syntax.Count) (r : Reading) (l : Line) (d : Changed Line)
    → rename_line new p r l ≡ Some d → SomeOf (IsSolidAt p) (line_mentions r l)
told new p n r l d e =
    let x : IsRenamedIn n.at p new.text (line_mentions r l) (line_parts n l) d =
    subst (EachOf (λ (y : Changed Line). IsRenamedIn n.at p new.text (line_mentions r l) (line_parts n l) y)) e
    (renamed_own_line new p r n l) in
    subst (SomeOf (IsSolidAt p)) (sym x.mentioned)
    (some_right (IsSolidAt p) x.earlier (x.mention ∷ x.later)
    (inl (record { path = x.place; kind = mark_solid x.mention.kind x.names })))

-- ---- the first line that can be changed

-- a key part of a line is after the line's leading space
past_space : (new : Written) (p : List Part) (r : Reading) (l : Line)
    → EachOf (λ (y : Changed Line). length (text_of l.before) ≤ length y.before) (rename_line new p r l)
past_space new p r l = by (position (same_path p) (part_paths r l.content))
  where
    right : List ℕ
    right = text_of l.after ++ text_of (comment_leaves l.comment)

    inside : (o : Option (Changed Content))
        → EachOf (λ (y : Changed Line). length (text_of l.before) ≤ length y.before)
        (within (λ c. record l { content = c }) (text_of l.before) right o)
    inside None = tt
    inside (Some c) = omega (arith, length-append (text_of l.before) c.before)

    by : (o : Option ℕ) → EachOf (λ (y : Changed Line). length (text_of l.before) ≤ length y.before) (elim o [
      | None ↦ None
      | Some n ↦ within (λ c. record l { content = c }) (text_of l.before) right (rename_content new n l.content)
    ])
    by None = tt
    by (Some n) = inside (rename_content new n l.content)

-- a change in the line after those lines, after its leading space
record IsInLine (first : List Ended) (e : Ended) (o : Option (Changed Page)) : Type 0 where
  changed : Changed Page
  is : o ≡ Some changed
  from : width first + length (text_of e.line.before) ≤ length changed.before
  to : length changed.before + length changed.old ≤ width first + size e

module _ (new : Written) (p : List Part) (n : syntax.Count) (last : Line) where
  abbrev f : Reading → Line → Option (Changed Line)
  f = rename_line new p

  -- none of the lines before says anything of the path
  here_changes : (r : Reading) (first : List Ended) (e : Ended) (more : List Ended) (d : Changed Line)
      → (SomeOf (IsSolidAt p) (lines_mentions r (map line_of first)) → ⊥)
      → f (reading_after_lines r (map line_of first)) e.line ≡ Some d
      → IsInLine first e (in_lines f r (first ++ e ∷ more) last)
  here_changes r [] e more d none hit =
      let cut : EachIs line_text e.line (Some d) =
      subst (EachIs line_text e.line) hit (rename_line-is new p r e.line) in
      let past : length (text_of e.line.before) ≤ length d.before =
      subst (EachOf (λ (y : Changed Line). length (text_of e.line.before) ≤ length y.before)) hit
      (past_space new p r e.line) in
      record {
        changed = framed_change (with_line last e more) [] (right_of last e more) d;
        is =
            ap (λ (o : Option (Changed Line)).
            or_else (within (with_line last e more) [] (right_of last e more) o)
            (within (behind e) (text_of (ended_leaves e)) [] (in_lines f (after_line r e.line) more last))) hit;
        from = omega (arith, past);
        to = omega (
          arith,
          length_cut (line_text e.line) d.before d.old d.after cut.was,
          ap (λ (t : List ℕ). length t) (past_line e.line e.newline),
          length-append (line_text e.line) e.newline.text,
        );
      }
  here_changes r (x ∷ first) e more d none hit =
      by (f r x.line) refl
      (here_changes (after_line r x.line) first e more d
      (λ s. none (some_right (IsSolidAt p) (line_mentions r x.line)
      (lines_mentions (after_line r x.line) (map line_of first)) s)) hit)
    where
      es : List Ended
      es = first ++ e ∷ more

      later : Option (Changed Page)
      later = in_lines f (after_line r x.line) es last

      by : (o : Option (Changed Line)) → f r x.line ≡ o → IsInLine first e later
          → IsInLine (x ∷ first) e (or_else (within (with_line last x es) [] (right_of last x es) (f r x.line))
          (within (behind x) (text_of (ended_leaves x)) [] later))
      by None fails h =
          let far = length-append (text_of (ended_leaves x)) h.changed.before in
          record {
            changed = framed_change (behind x) (text_of (ended_leaves x)) [] h.changed;
            is =
                ap₂ (λ (o : Option (Changed Line)) (q : Option (Changed Page)).
                or_else (within (with_line last x es) [] (right_of last x es) o)
                (within (behind x) (text_of (ended_leaves x)) [] q)) fails h.is;
            from = omega (arith, far, width_more x first, h.from);
            to = omega (arith, far, width_more x first, h.to);
          }
      by (Some y) hits h =
          absurd (none (some_left (IsSolidAt p) (line_mentions r x.line)
          (lines_mentions (after_line r x.line) (map line_of first)) (told new p n r x.line y hits)))

pub ended_here : (profile : Profile) (first : List Ended) (e : Ended) (more : List Ended)
    → AllByRecursion (IsEnded profile) (first ++ e ∷ more) → IsEnded profile e
ended_here profile [] e more h = h.0
ended_here profile (x ∷ first) e more h = ended_here profile first e more h.1

-- ---- the line that is gone, or cleared

module _ (profile : Profile) (limit : ℕ) (s : Document) (path : List Part) (n : ℕ)
    (fine : IsEditable profile limit s) (has : last_line (mine path) start (lines s) ≡ Some n)
    (closed : n < length s.ended) where
  abbrev t : IsCutAt n s.ended
  t = own.c profile limit s path n fine has closed

  abbrev here : Line
  here = t.here.line

  abbrev bom : List ℕ
  bom = text_of (bom_leaves s.bom)

  -- the change takes the line from its key on
  pub record IsTaken (c : TextChange) : Type 0 where
    pub from : c.at ≤ length bom + width t.first + length (text_of here.before)
    pub to : length bom + width t.first + size t.here ≤ c.at + c.size

  module _ (c : TextChange) (taken : IsTaken c) (other : List Part) (key : List ℕ) (d : TextChange)
      (k : RenamesKey profile limit s other key d) (apart : strip path other ≡ None) (side : IsBeside c d) where
    abbrev r : Reading
    r = own.r profile limit s path n fine has closed

    abbrev earlier : List Mention
    earlier = lines_mentions start (own.before profile limit s path n fine has closed)

    abbrev later : List Mention
    later = lines_mentions r (own.after profile limit s path n fine has closed)

    was : mentions_in s ≡ earlier ++ (line_mentions r here ++ later)
    was = own.said_was profile limit s path n fine has closed

    rules : Rules (mentions_in s)
    rules = rules_of_document s fine.obeys

    named : IsRenamable other key (mentions_in s)
    named = renamable profile limit s other key k.allowed

    none_before : SomeOf (IsSolidAt other) (line_mentions r here) → SomeOf (IsSolidAt other) earlier → ⊥
    none_before some first =
        once_after other earlier (line_mentions r here ++ later)
        (subst (Once other) was (once_counted other (mentions_in s) rules (omega (arith, named.marks)))) first
        (some_left (IsSolidAt other) (line_mentions r here) later some)

    -- the key part that is renamed is not in the line's own key
    not_here : (y : Changed Line) → rename_line (key_part key) other r here ≡ Some y → ⊥
    not_here y hit =
        let f : Reading → Line → Option (Changed Line) = rename_line (key_part key) other in
        let some : SomeOf (IsSolidAt other) (line_mentions r here) =
        told (key_part key) other (first_line s) r here y hit in
        let x : IsInLine t.first t.here (in_lines f start s.ended s.last) =
        subst (λ (es : List Ended). IsInLine t.first t.here (in_lines f start es s.last)) (sym t.was)
        (here_changes (key_part key) other (first_line s) s.last start t.first t.here t.more y (none_before some)
        hit) in
        let z : Changed Document = framed_change (with_page s) bom [] x.changed in
        let made : change s (rename other key) ≡ Some z =
        ap (λ (o : Option (Changed Page)). or_else (in_document s o) (nested (renaming (key_part key)) other s)) x.is in
        let placed : place_of z ≡ place_of_change d =
        ap (λ (o : Option (Changed Document)). place_of (changed_or_same s o)) (sym made) ∙ k.is in
        let at : length (bom ++ x.changed.before) ≡ d.at = ap (λ (p : Place). p.start) placed in
        let end : length (bom ++ x.changed.before) + length x.changed.old ≡ d.at + d.size =
        ap (λ (p : Place). p.end) placed in
        let far = length-append bom x.changed.before in
        let begun : c.at ≤ d.at = omega (arith, at, far, x.from, taken.from) in
        let ended : d.at + d.size ≤ c.at + c.size = omega (arith, end, far, x.to, taken.to) in
        elim side [ inl e ↦ omega (arith, e, ended, k.some) | inr e ↦ omega (arith, e.0, begun) ]

    pub misses : rename_line (key_part key) other r here ≡ None
    misses = by (rename_line (key_part key) other r here) refl
      where
        by : (o : Option (Changed Line)) → rename_line (key_part key) other r here ≡ o → o ≡ None
        by None e = refl
        by (Some y) e = absurd (not_here y e)

    value_misses : in_line (renaming (key_part key)) other r here ≡ None
    value_misses = own.line_misses profile limit s path n fine has closed (renaming (key_part key)) other apart

    silent : SomeOf (IsSolidAt other) (line_mentions r here) → ⊥
    silent some =
        let ends : EndsInKey other =
        ends_old key other (beside other key) (beside_is other key (mentions_in s) named) in
        let all = pairs_split Allowed earlier (line_mentions r here ++ later) (subst Rules was rules) in
        let valid : IsEnded profile t.here =
        ended_here profile t.first t.here t.more (subst (AllByRecursion (IsEnded profile)) t.was fine.valid.ended) in
        elim (line_there profile (key_part key) other ends r here valid.line
        (pairs_split Allowed (line_mentions r here) later all.right).left some) [
          | inl e ↦ subst IsSome misses e
          | inr e ↦ subst IsSome value_misses e
        ]

    pub unmarked : mark_count other (line_mentions r here) ≡ 0
    unmarked = by (mark_count other (line_mentions r here)) refl
      where
        by : (m : ℕ) → mark_count other (line_mentions r here) ≡ m → m ≡ 0
        by zero e = refl
        by (suc m) e = absurd (silent (some_counted other (line_mentions r here) (omega (arith, e))))
