-- The syntax of the text that an edit gives, by the touched lines alone.
--
-- The law of the touched lines gives a document m of the new lines that can replace the touched ones (`can`). With
-- these replaced the document is the one after the edit, so the syntax that is reread for it is that of the new text
-- (`reread_is`).
--
-- Theorems: `is_reread`: what is reread is the syntax of the new text; `holds_after`: with an index of the new
-- document, text, syntax and index are of one tree.
use Rattle.std.proofs.Common.{◌≡◌, ◌∙◌, ℕ, ◌-◌, ◌≤◌, ◌⊎◌, List, length, sym, ap, subst, arith, IsUtf8, Option, Some}
use Rattle.std.proofs.Common.{None}
use Rattle.std.specs.Prelude.{IfSome, OnOk, Result, Ok, Err, slice_range}
use Rattle.keep_types.specs.declared.leaf.Profile.{Profile}
use Rattle.keep_types.specs.declared.syntax.Span.{Span}
use Rattle.keep_syntax.specs.declared.syntax.Syntax.{Syntax}
use Rattle.keep_syntax.specs.Tree.{Document, text}
use Rattle.keep_syntax.specs.Grammar.{Reads}
use Rattle.keep_syntax.specs.Numbered.{span}
use Rattle.keep_syntax.specs.WholeLines.{begin, empty_line, touched, replaced}
use Rattle.keep_syntax.specs.Contract.{CanReplace, IsSpanIn, IsSyntaxOf, IsTextOf, put_at}
use Rattle.keep_syntax.proofs.Shared.{next_high, replaced_text, same_syntax, same_text}
use Rattle.keep_syntax.specs.Undoing.{IsSame}
use Rattle.keep_edit_spec.specs.Changed.{Place, place_of}
use Rattle.keep_edit_spec.specs.TouchedLines.{scanned, touched_by, touched_in_new, TouchesLines}
use Rattle.keep_edit_spec.proofs.Shared.{touched_lines_are_lines, IsCut, touched_in_new_cut}
use Rattle.keep_meaning.specs.Counts.{statements_in}
use Rattle.keep_meaning.specs.Marks.{start, reading_after}
use Rattle.keep_meaning.specs.Meaning.{mentions_in}
use Rattle.keep_path.specs.NodeInfos.{NodeInfos}
use Rattle.keep_edit_plan.specs.Answers.{IsMadeAt, text_after}
use Rattle.keep_edit_plan.specs.declared.text_edit.TextEdit.{TextEdit}
use Rattle.keep_edit_plan.specs.IndexChanges.{CanChange, IsChanged}
use Rattle.keep_edit_plan.specs.declared.plan.IndexChange.{IndexChange}
use Rattle.keep_edit_plan.proofs.Shared.{one_tree, stated_is, text_seen, profile_seen}
use Rattle.keep_rules.specs.Nested.{AreNested}
use Rattle.keep_rules.specs.ReadDocuments.{WasRead, IsIndexOf}
use Rattle.keep_edit_plan.specs.Plans.{IsIndexChanged}
use Rattle.keep_edit.specs.Places.{after, end_by, IsOfEdit, IsPatched, IsScanned}
use Rattle.keep_edit.specs.Reading.{limit, ProfiledText, Holds, IsReadAs, IsSyntaxIn, IsTextOfTree, telling_in, text_in}
use Rattle.keep_edit.proofs.ReadLaws.{read_once}

module _ (old : ProfiledText) (made : TextEdit) (syntax : Syntax) (index : NodeInfos) (h : Holds old syntax index)
    (o : IsOfEdit old made) where
  pub is_syntax : (s : Document) → IsTextOfTree old s → IsSyntaxOf syntax s
  is_syntax s read = subst (λ (d : Document). IsSyntaxOf syntax d) (one_tree old h.tree s h.read read) h.is

  pub touches : TouchesLines old.profile limit o.tree o.changed
  touches =
      touched_lines_are_lines old.profile limit o.tree o.edit o.changed o.read.reads.valid o.is o.new.reads.valid
      o.new.reads.shallow

  pub in_text : IsSpanIn syntax made.place
  in_text =
      let t = touches in
      let e = o.at.0 in
      record {
        document = o.tree;
        is = is_syntax o.tree o.read;
        low = subst (λ (x : Span). begin o.tree ≤ x.start) (sym e) t.low;
        order = subst (λ (x : Span). x.start ≤ x.end) (sym e) (omega arith);
        within = subst (λ (x : Span). x.end ≤ length (text o.tree)) (sym e) t.within;
      }

  -- the touched lines
  module _ (whole : Span) (are : (d : Document) → IsSyntaxOf syntax d → whole ≡ touched d made.place) where
    -- the change ends in them
    pub high : made.place.end ≤ whole.end
    unfolding in_text
    high =
        let i = in_text in
        subst (λ (x : Span). made.place.end ≤ x.end) (sym (are o.tree (is_syntax o.tree o.read)))
        (next_high made.place.end (length (text o.tree)) (begin o.tree) o.tree.ended i.within)

    -- by any place where the text was made
    whole_at : (s : Document) (p : Place) → IsTextOfTree old s → IsMadeAt p made → whole ≡ touched_by s p
    whole_at s p read m = are s (is_syntax s read) ∙ ap (touched s) m.0

    end_at : (s : Document) (p : Place) → IsTextOfTree old s → IsMadeAt p made
        → end_by whole made ≡ (touched_in_new s p).end
    end_at s p read m =
        let from : made.place.start ≡ p.start = ap (λ (x : Span). x.start) m.0 in
        let to : made.place.end ≡ p.end = ap (λ (x : Span). x.end) m.0 in
        let last : whole.end ≡ (touched_by s p).end = ap (λ (x : Span). x.end) (whole_at s p read m) in
        let added = ap length m.1 in
        omega (arith, added, from, to, last, high)

    pub cut : IsCut (text_after old.text made) (span whole.start (end_by whole made))
    cut =
        let spelled = o.new.reads.spelled in
        let p : Place = place_of o.changed in
        let first : whole.start ≡ (touched_in_new o.tree p).start =
        ap (λ (x : Span). x.start) (whole_at o.tree p o.read o.at) in
        let last : end_by whole made ≡ (touched_in_new o.tree p).end = end_at o.tree p o.read o.at in
        let there : IsCut (text o.changed.to) (touched_in_new o.tree p) =
        touched_in_new_cut old.profile o.tree o.edit o.changed o.read.reads.valid
        (subst IsUtf8 o.read.reads.spelled o.read.utf8) o.is (subst IsUtf8 spelled o.new.utf8) in
        subst (λ (x : List ℕ). IsCut x (span whole.start (end_by whole made))) (sym spelled)
        (subst (λ (a : ℕ). IsCut (text o.changed.to) (span a (end_by whole made))) (sym first)
        (subst (λ (b : ℕ). IsCut (text o.changed.to) (span (touched_in_new o.tree p).start b)) (sym last) there))

    can : CanReplace old.profile limit o.tree whole
        (slice_range (text_after old.text made) whole.start (end_by whole made)) touches.lines
    unfolding in_text
    can =
        let t = touches in
        let i = in_text in
        let p : Place = place_of o.changed in
        let first : whole.start ≡ (touched_in_new o.tree p).start =
        ap (λ (x : Span). x.start) (whole_at o.tree p o.read o.at) in
        let last : end_by whole made ≡ (touched_in_new o.tree p).end = end_at o.tree p o.read o.at in
        let bytes : slice_range (text o.changed.to) (touched_in_new o.tree p).start (touched_in_new o.tree p).end
        ≡ slice_range (text_after old.text made) whole.start (end_by whole made) =
        ap (λ (a : ℕ). slice_range (text o.changed.to) a (touched_in_new o.tree p).end) (sym first)
        ∙ ap (λ (b : ℕ). slice_range (text o.changed.to) whole.start b) (sym last)
        ∙ ap (λ (x : List ℕ). slice_range x whole.start (end_by whole made)) (sym o.new.reads.spelled) in
        record {
          valid = o.read.reads.valid;
          span = made.place;
          low = i.low;
          order = i.order;
          within = i.within;
          whole_is = sym (are o.tree (is_syntax o.tree o.read));
          reads = subst (λ (x : List ℕ). Reads old.profile limit x t.lines) bytes t.reads;
          bom = t.bom;
          closed =
              subst (λ (x : Span). (t.lines.last ≡ empty_line) ⊎ (x.end ≡ length (text o.tree)))
              (sym (whole_at o.tree p o.read o.at)) t.closed;
        }

    -- the lines can be replaced, said of bytes and a profile that equal these
    pub can_as : (profile : Profile) (lines : List ℕ) → profile ≡ old.profile
        → lines ≡ slice_range (text_after old.text made) whole.start (end_by whole made)
        → CanReplace profile limit o.tree whole lines touches.lines
    can_as profile lines e f =
        subst (λ (p : Profile). CanReplace p limit o.tree whole lines touches.lines) (sym e)
        (subst (λ (x : List ℕ). CanReplace old.profile limit o.tree whole x touches.lines) (sym f) can)

    -- The syntax of the document with the lines replaced is that of the new text.
    reread_is : (s : Syntax) → IsSyntaxOf s (replaced o.tree whole touches.lines)
        → IsTextOf s (text (replaced o.tree whole touches.lines)) → IsSyntaxIn (after old made) s
    reread_is s is of_text =
        let same : replaced o.tree whole touches.lines ≡ o.changed.to =
        ap (λ (w : Span). replaced o.tree w touches.lines) (whole_at o.tree (place_of o.changed) o.read o.at)
        ∙ sym touches.is in
        record {
          tree = o.changed.to;
          reads = o.new.reads;
          is = subst (λ (d : Document). IsSyntaxOf s d) same is;
          of_text = subst (λ (t : List ℕ). IsTextOf s t) (ap text same ∙ sym o.new.reads.spelled) of_text;
        }

    -- The new lines are those to be scanned.
    pub scanned_is : (u : Document) (p : Place) → IsTextOfTree old u → IsMadeAt p made
        → end_by whole made - whole.start ≡ scanned u p
    scanned_is u p read m =
        let first : whole.start ≡ (touched_by u p).start = ap (λ (x : Span). x.start) (whole_at u p read m) in
        ap (λ (n : ℕ). n - whole.start) (end_at u p read m) ∙ ap (λ (n : ℕ). (touched_in_new u p).end - n) first

    -- by what the call says that gave it, of the new lines as they are in the new text
    pub is_reread : {T E : Type 0} (r : Result T E) (profile : Profile) (lines : List ℕ) (s : Syntax)
        → profile ≡ old.profile → lines ≡ slice_range (text_after old.text made) whole.start (end_by whole made)
        → ((d m : Document) → IsSyntaxOf syntax d → CanReplace profile limit d whole lines m
        → OnOk r (IsSyntaxOf s (replaced d whole m)))
        → ((d m : Document) → IsSyntaxOf syntax d → CanReplace profile limit d whole lines m
        → OnOk r (IsTextOf s (put_at whole lines (text d))))
        → OnOk r (IsSyntaxIn (after old made) s)
    is_reread (Ok x) profile lines s e f reads texts =
        let m : Document = touches.lines in
        let k : CanReplace profile limit o.tree whole lines m = can_as profile lines e f in
        let is : IsSyntaxOf syntax o.tree = is_syntax o.tree o.read in
        reread_is s (reads o.tree m is k) (subst (λ (t : List ℕ). IsTextOf s t) (replaced_text k) (texts o.tree m is k))
    is_reread (Err x) profile lines s e f reads texts = tt

  -- it is the syntax of a document that obeys the rules
  pub read_after : (s : Syntax) → IsSyntaxIn (after old made) s → WasRead (text_after old.text made) s o.changed.to
  read_after s is = read_once is o.new

  -- as which the new text was read
  pub read_as : (s : Syntax) → IsSyntaxIn (after old made) s
      → IsReadAs old.profile (text_after old.text made) s o.changed.to
  read_as s is = record { read = o.new; is = (read_after s is).is }

  -- with the index of the new document
  pub holds_after : (s : Syntax) (fresh : NodeInfos) → IsSyntaxIn (after old made) s → IsIndexOf o.changed.to fresh
      → Holds (after old made) s fresh
  holds_after s fresh is known =
      record {
        tree = o.changed.to;
        read = o.new;
        is = (read_after s is).is;
        of_text = is.of_text;
        stated = known.facts;
        nested = known.nested;
      }

  -- the index where it is all that changes in it
  known_from : (k : IndexChange) → IsIndexChanged old made k → (u : NodeInfos) → IsChanged index o.changed.to k u
      → IsIndexOf o.changed.to u
  known_from k c u by =
      let same : c.to ≡ o.changed.to = one_tree (after old made) c.to o.changed.to c.new o.new in
      record {
        obeys = o.new.obeys;
        nested =
            subst (λ (d : Document). AreNested (mentions_in d) (reading_after start (statements_in d)).tables) same
            c.is.nested;
        facts = c.is.facts u (subst (λ (d : Document). IsChanged (telling_in c.from) d k u) (sym same)
            (subst (λ (t : NodeInfos). IsChanged t o.changed.to k u) (stated_is old syntax index c.from h c.read) by))
            ∙ ap telling_in same;
      }

  pub change_known : (change : Option IndexChange) → IfSome change (IsIndexChanged old made)
      → IfSome change (λ k. (u : NodeInfos) → IsChanged index o.changed.to k u → IsIndexOf o.changed.to u)
  change_known None c = tt
  change_known (Some k) c = known_from k c

  pub change_can : (change : Option IndexChange) → IfSome change (IsIndexChanged old made)
      → IfSome change (CanChange index)
  change_can None c = tt
  change_can (Some k) c =
      subst (λ (t : NodeInfos). CanChange t k) (sym (stated_is old syntax index c.from h c.read)) c.is.can

-- the lines that are cut out of the patched text
pub scanned_as : (old : ProfiledText) (made : TextEdit) (syntax : Syntax) (index : NodeInfos) (profile : Profile)
    (bytes : List ℕ) (whole : Span) (lines : List ℕ)
    → IsPatched old made syntax index (text_in profile bytes)
    → ((d : Document) → IsSyntaxOf syntax d → whole ≡ touched d made.place)
    → lines ≡ slice_range bytes whole.start (end_by whole made)
    → IsScanned old made syntax index whole (text_in profile lines)
scanned_as old made syntax index profile bytes whole lines p are e = record {
  holds = p.holds;
  edit = p.edit;
  touched_are = are;
  profile_is = profile_seen p.is;
  lines_are = e ∙ ap (λ (t : List ℕ). slice_range t whole.start (end_by whole made)) (text_seen p.is);
}

-- what stores the same is of the same text
pub holds_same : (t : ProfiledText) (a b : Syntax) (index : NodeInfos) → IsSame a b → Holds t b index → Holds t a index
holds_same t a b index same h =
    record {
      tree = h.tree;
      read = h.read;
      is = same_syntax same h.is;
      of_text = same_text same h.of_text;
      stated = h.stated;
      nested = h.nested;
    }
