-- One edit more at the end of the text, after a run of edits that are made at once: a header.
--
-- The edits elsewhere are made as before; of what is known of lines only headers become more (`same_base`). The edits
-- at the end write what the blocks do (`written_is`). So where one more comes among them, the text is that of the
-- document with it, and the list is made with it, too (`tail_more`).
--
-- A header makes its change of the document before the run, so it makes it after the edits elsewhere, at the end of
-- their text, and after those at the end, too, as all leave it alone (`end_goes_on`).
--
-- Theorems: `same_base`, `same_tree`: more headers are known; `with_parts`: the parts of a run; `tail_more`: one more
-- among the edits at the end; `appends_one`: a header more.
use Rattle.std.proofs.Common.{[], ◌≡◌, ◌<◌, ◌∷◌, ◌++◌, ℕ, suc, All, IsUtf8, List, length, take, get_or}
use Rattle.std.proofs.Common.{None, Some, refl, sym, ap, ap₂, subst, subst₂, ◌∙◌, append_assoc, arith, inl, inr}
use Rattle.std.proofs.Common.{length-append, map}
use Rattle.std.specs.Prelude.{◌⊎◌, Option, String, false, string_bytes, true, ◌||◌}
use Rattle.std.specs.Borrow.{Bor}
use Rattle.std.specs.Global.{Global}
use Rattle.std.specs.List.{list_any}
use Rattle.std.proofs.lemmas.List.{append-nil}
use Rattle.std.proofs.lemmas.List.Elements.{All-cons, All-head, All-nil, All-tail}
use Rattle.std.proofs.lemmas.List.Elements.{All-weaker}
use Rattle.std.proofs.lemmas.Str.{IsUtf8-append, IsUtf8-nil, IsUtf8-string_bytes}
use Rattle.keep_types.specs.declared.leaf.Profile.{Profile}
use Rattle.keep_syntax.specs.Tree.{Content, Document, element, header, text}
use Rattle.keep_syntax.specs.Grammar.{IsDocument}
use Rattle.keep_path.specs.Path.{Part, key, without_last}
use Rattle.keep_edit_spec.specs.Changed.{Place, place_of, put}
use Rattle.keep_edit_spec.specs.Edits as law
use Rattle.keep_edit_spec.specs.Edits.{append, changed_or_same, edited_document, key_with, place}
use Rattle.keep_edit_spec.specs.ElementRuns.{IsElsewhere, KeepsPlaceAmong, changed_path}
use Rattle.keep_edit_spec.specs.EndEdits.{AreAtEnd, EndEdit, IsAtEnd, IsNoSecondHeader, document_with}
use Rattle.keep_edit_spec.specs.EndEdits.{EndsLeave, end_change}
use Rattle.keep_edit_spec.specs.FirstNewline.{LeavesFirstAtEnd}
use Rattle.keep_edit_spec.specs.InsertKinds.{Added, table_of}
use Rattle.keep_edit_spec.specs.Laws.{IsEditable, IsLawfulEdit}
use Rattle.keep_edit_spec.specs.Lines.{content_text, newline_of}
use Rattle.keep_edit_spec.specs.Refusals.{refusal}
use Rattle.keep_edit_spec.specs.RunLists.{lines_of, seen_of}
use Rattle.keep_edit_spec.specs.Runs as runs
use Rattle.keep_edit_spec.specs.Runs.{IsNoSecond, LeaveNewlineBefore, MakesChange}
use Rattle.keep_edit_spec.specs.TextChanges.{IsBeside, TextChange, change_at, moved_past, place_of_change, text_with}
use Rattle.keep_edit_spec.specs.TextEnds.{blank_line, header_at_end}
use Rattle.keep_edit_spec.specs.declared.line_kind.LineKind.{LineKind}
use Rattle.keep_edit_spec.specs.declared.line_kind.LineKind.TheVariants.{LastInBody, OfDotted, WithHeader}
use Rattle.keep_edit_spec.proofs.Shared.{append_place, change_lawful, change_put, document_joined, end_editable}
use Rattle.keep_edit_spec.proofs.Shared.{end_goes_on, end_text, ends_split, fine_after}
use Rattle.keep_edit_plan.specs.Headers.{key_texts}
use Rattle.keep_edit_plan.specs.Reading.{IsAccepted, IsTextOfTree, ProfiledText, limit, text_in}
use Rattle.keep_edit_plan.specs.TextEdits.{IsChangeIn, change_of}
use Rattle.keep_edit_plan.specs.declared.edit.Edit.{Edit}
use Rattle.keep_edit_runs.specs.AddedLines.{IsCounted, IsHeaderKnown, IsKnownAs, IsKnownAt}
use Rattle.keep_edit_runs.specs.GoneBetween.{HasArray, IsElementRunTo}
use Rattle.keep_edit_runs.specs.KindsRun.{AppendsOne, IsOfHeader}
use Rattle.keep_edit_runs.specs.Lists.{AreMade, IsEdit}
use Rattle.keep_edit_runs.specs.Newlines.{LeavesEndHere, LeavesHere}
use Rattle.keep_edit_runs.specs.Runs.{IsRunTo, LeavesAlone, MakesInRun, outlined, plain}
use Rattle.keep_edit_runs.specs.SeenHeaders.{HasBrought, HasMore}
use Rattle.keep_edit_runs.specs.Tail.{AreBlocks, IsBlock, IsOutlineAdded, bytes_of, keys_of, written}
use Rattle.keep_edit_runs.specs.declared.added_lines.AddedLines.{AddedLines}
use Rattle.keep_edit_runs.specs.declared.at_once.AtOnce.{AtOnce}
use Rattle.keep_edit_runs.specs.declared.gone_between.GoneBetween.{GoneBetween}
use Rattle.keep_edit_runs.specs.declared.kinds_run.KindsRun.{KindsRun}
use Rattle.keep_edit_runs.specs.declared.outline.Outline.{Outline}
use Rattle.keep_edit_runs.specs.declared.seen_headers.SeenHeaders.{SeenHeaders}
use Rattle.keep_edit_runs.specs.declared.tail.Block.{Block}
use Rattle.keep_edit_runs.specs.declared.tail.Tail.{Tail}
use Rattle.keep_edit_runs.proofs.ElementSteps.{AreMadeAmong}
use Rattle.keep_edit_runs.proofs.ElementsGone.{of_one, plain_elsewhere}
use Rattle.keep_edit_runs.proofs.HeaderLaws.{header_differs}
use Rattle.keep_edit_runs.proofs.LineLaws.{headers_stay, with_header}
use Rattle.keep_edit_runs.proofs.MadeMore.{more_made, tree_after}
use Rattle.keep_edit_runs.proofs.NewlineSteps.{leave_here}
use Rattle.keep_edit_runs.proofs.RunSteps.{parts, plain_alone}
use Rattle.keep_edit_runs.proofs.TailNewlines.{ends_leave}
use Rattle.keep_edit_runs.proofs.TailRuns.{AreMadeIn, IsEndClear, IsTableKnown, IsTailTo}

-- ---- the edits elsewhere, where more headers are known

module _ (adds : AddedLines) (more : SeenHeaders) (on : HasMore adds.headers more) where
  abbrev next : AddedLines
  next = record adds { headers = more }

  still_known : (l : Added) → IsKnownAt adds l → IsKnownAt next l
  still_known l known = by l.kind known
    where
      by : (kind : LineKind) → IsKnownAs kind adds l → IsKnownAs kind next l
      by LastInBody h = h
      by OfDotted h = h
      by WithHeader (here, (has, (first, one))) = (here, (has, (first, on.brought (table_of l) one)))

  same_counts : (lines : List Added) (es : List law.Edit) → IsCounted adds lines es → IsCounted next lines es
  same_counts lines es h = record {
    shorter = h.shorter;
    ends = h.ends;
    headed = h.headed;
    appended = h.appended;
  }

  module _ (s : Document) (edits : List Edit) (n : ℕ) (old now : ProfiledText) (before : Document)
      (outlines : List Outline) (changes : List TextChange) where
    same_run : IsRunTo s edits n old now before outlines changes adds
        → IsRunTo s edits n old now before outlines changes next
    same_run h = record {
      made = h.made;
      ms = h.ms;
      alone = h.alone;
      inserts = h.inserts;
      headers = h.headers;
      sets = h.sets;
      renames = h.renames;
      allow = h.allow;
      lines = All-weaker (IsKnownAt adds) (IsKnownAt next) still_known (lines_of before h.ms) h.lines;
      counts = same_counts (lines_of before h.ms) (seen_of before h.ms) h.counts;
      followed = h.followed;
      headed = h.headed;
      headers_known = All-weaker (IsHeaderKnown adds) (IsHeaderKnown next) (headers_stay adds next on)
          (seen_of before h.ms) h.headers_known;
      at_once = h.at_once;
      changes_are = h.changes_are;
      tree_is = h.tree_is;
    }

    abbrev same_among : (arrays gone : List (List Part))
        → IsElementRunTo s edits n old now before outlines changes adds arrays gone
        → IsElementRunTo s edits n old now before outlines changes next arrays gone
    same_among arrays gone h = record {
      made = h.made;
      es = h.es;
      lines = h.lines;
      paths = h.paths;
      alone = h.alone;
      elsewhere = h.elsewhere;
      known = All-weaker (IsKnownAt adds) (IsKnownAt next) still_known h.lines h.known;
      counted = h.counted;
      headers_known = All-weaker (IsHeaderKnown adds) (IsHeaderKnown next) (headers_stay adds next on) h.es
          h.headers_known;
      of_arrays = h.of_arrays;
      leads = h.leads;
      run = h.run;
    }

  module _ (edits : List Edit) (first n : ℕ) (now : ProfiledText) (outlines : List Outline)
      (changes : List TextChange) (gone : GoneBetween)
      (base : AreMadeAmong edits first n now outlines changes adds gone) where
    pub same_base : AreMadeAmong edits first n now outlines changes next gone
    same_base = record {
      made = λ s old h. same_among s edits n old now h.tree outlines changes gone.arrays.items gone.elements
          (base.made s old h);
      none = λ empty.
          let (same, made_to) = base.none empty in (
            same,
            record {
              made = λ s old h. same_run s edits n old now h.tree outlines changes (made_to.made s old h);
              within = made_to.within;
              utf8 = made_to.utf8;
            },
          );
      elsewhere = base.elsewhere;
      within = base.within;
      utf8 = base.utf8;
    }

    -- and the document after them is the same
    pub same_tree : (s : Document) (old : ProfiledText) (h : AreMade s (take first edits) old now)
        → (same_base.made s old h).made.tree ≡ (base.made s old h).made.tree
    unfolding same_base
    same_tree s old h = refl

-- the parts of a run that its edits are known by
pub with_parts : (edits : List Edit) (first end : ℕ) (now : ProfiledText) (run : KindsRun) (so_far : AtOnce)
    (lines : AddedLines) (gone : GoneBetween) → run.so_far ≡ so_far → run.lines ≡ lines → run.gone ≡ gone
    → AreMadeIn edits first end now (record run { so_far = so_far; lines = lines; gone = gone })
    → AreMadeIn edits first end now run
with_parts edits first end now run so_far lines gone s l g h =
    subst (λ (x : GoneBetween). AreMadeIn edits first end now (record run { gone = x })) (sym g)
    (subst₂
    (λ (x : AtOnce) (y : AddedLines).
    AreMadeIn edits first end now (record run { so_far = x; lines = y; gone = gone }))
    (sym s) (sym l) h)

-- ---- the blocks and their edits

-- what they write
written_is : (bs : List Block) (ts : List EndEdit) → AreBlocks bs ts → bytes_of bs ≡ written ts
written_is [] ts is = ap written (sym is)
written_is (b ∷ bs) ts (h, (own, (rest, (is, (one, more))))) =
    ap₂ (λ (x y : List ℕ). x ++ y) one.text (written_is bs rest more)
    ∙ append_assoc h.new (written own) (written rest)
    ∙ ap (λ (x : List ℕ). h.new ++ x) (sym (written_joined own rest)) ∙ ap written (sym is)
  where
    written_joined : (xs ys : List EndEdit) → written (xs ++ ys) ≡ written xs ++ written ys
    written_joined [] ys = refl
    written_joined (x ∷ xs) ys =
        ap (λ (l : List ℕ). x.new ++ l) (written_joined xs ys) ∙ sym (append_assoc x.new (written xs) (written ys))

blocks_utf8 : (bs : List Block) → IsUtf8 (bytes_of bs)
blocks_utf8 [] = IsUtf8-nil
blocks_utf8 (b ∷ bs) =
    IsUtf8-append (string_bytes b.text) (bytes_of bs) (IsUtf8-string_bytes b.text) (blocks_utf8 bs)

-- one block more, with its header alone
block_added : (bs : List Block) (ts : List EndEdit) (b : Block) (t : EndEdit) → AreBlocks bs ts → IsBlock b t []
    → AreBlocks (bs ++ b ∷ []) (ts ++ t ∷ [])
block_added [] ts b t is one = (t, ([], ([], (ap (λ (us : List EndEdit). us ++ t ∷ []) is, (one, refl)))))
block_added (x ∷ bs) ts b t (h, (own, (rest, (is, (first, more))))) one = (
  h,
  (
    own,
    (
      rest ++ t ∷ [],
      (
        ap (λ (us : List EndEdit). us ++ t ∷ []) is
            ∙ ap (λ (us : List EndEdit). h ∷ us) (append_assoc own rest (t ∷ [])),
        (first, block_added bs rest b t more one),
      ),
    ),
  ),
)

-- ---- the text after them

text_of_ends : (profile : Profile) (s : Document) (ts : List EndEdit) → IsEditable profile limit s
    → AreAtEnd profile limit s ts → text (document_with s ts) ≡ text s ++ written ts
text_of_ends profile s [] fine h = sym (append-nil (text s))
text_of_ends profile s (t ∷ ts) fine h =
    text_of_ends profile (edited_document s t.edit) ts (end_editable profile limit s t fine h.0) h.1
    ∙ ap (λ (b : List ℕ). b ++ written ts) (end_text profile limit s t fine h.0)
    ∙ append_assoc (text s) t.new (written ts)

-- ---- one edit more among them

-- what holds of all holds of all with one more that it holds of
all_put : (P : EndEdit → Type 0) (upper later : List EndEdit) (u : EndEdit) → All P (upper ++ later) → P u
    → All P (upper ++ u ∷ later)
all_put P [] later u h its = All-cons P u later its h
all_put P (t ∷ upper) later u h its =
    All-cons P t (upper ++ u ∷ later) (All-head P t (upper ++ later) h)
    (all_put P upper later u (All-tail P t (upper ++ later) h) its)

-- a header, or an insert, leaves alone what leaves it alone
left_back : (e f : law.Edit) → (runs.is_insert e || runs.is_header e) ≡ true → runs.LeavesAlone f (plain e)
    → runs.LeavesAlone e f
left_back (law.insert p v) (law.insert q w) one h = λ same. h (sym same)
left_back (law.insert p v) (law.set q w) one h = (h.1, h.0)
left_back (law.insert p v) (law.rename q name) one h = ((h.0.1, h.0.0), h.1)
left_back (law.insert p v) (law.remove q) one h = (h.1, h.0)
left_back (law.insert p v) (law.append_table ks) one h = h
left_back (law.insert p v) (law.append_element ks) one h = h
left_back (law.append_table ks) (law.insert q w) one h = h
left_back (law.append_table ks) (law.set q w) one h = h
left_back (law.append_table ks) (law.rename q name) one h = h
left_back (law.append_table ks) (law.remove q) one h = h
left_back (law.append_table ks) (law.append_table more) one h = λ same. h (sym same)
left_back (law.append_table ks) (law.append_element more) one h = (h.1, h.0)
left_back (law.append_element ks) (law.insert q w) one h = h
left_back (law.append_element ks) (law.set q w) one h = h
left_back (law.append_element ks) (law.rename q name) one h = h
left_back (law.append_element ks) (law.remove q) one h = h
left_back (law.append_element ks) (law.append_table more) one h = (h.1, h.0)
left_back (law.append_element ks) (law.append_element more) one (inl same) = inl (sym same)
left_back (law.append_element ks) (law.append_element more) one (inr apart) = inr (apart.1, apart.0)
left_back (law.set p v) f one h = absurd cc
left_back (law.rename p name) f one h = absurd cc
left_back (law.remove p) f one h = absurd cc

tables_stay : (old new : AddedLines) → HasMore old.headers new.headers → (e : law.Edit) → IsTableKnown old e
    → IsTableKnown new e
tables_stay old new more (law.insert first value) (begins, has) = (begins, more.brought (without_last first) has)
tables_stay old new more (law.set p v) h = tt
tables_stay old new more (law.rename p name) h = tt
tables_stay old new more (law.remove p) h = tt
tables_stay old new more (law.append_table ks) h = tt
tables_stay old new more (law.append_element ks) h = tt

-- What an edit does that comes among those at the end of the document `tree`: after all of them it is not refused, and
-- what they and it make is what they make with it among them.
pub record IsPutAmong (profile : Profile) (tree : Document) (upper later : List EndEdit) (e : law.Edit) (u : EndEdit)
    : Type 0 where
  pub allowed : refusal profile limit (document_with tree (upper ++ later)) e ≡ None
  pub lawful : IsLawfulEdit profile limit (document_with tree (upper ++ later)) e
  pub ends : AreAtEnd profile limit tree (upper ++ u ∷ later)
  pub same : edited_document (document_with tree (upper ++ later)) e ≡ document_with tree (upper ++ u ∷ later)

-- what is known of it, by its outline
pub record IsKnownEnd (now : ProfiledText) (outlines : List Outline) (o : Outline) (next : AddedLines) (u : EndEdit)
    : Type 0 where
  pub seen_is : plain u.seen ≡ outlined o
  pub anew : (runs.is_insert u.seen || runs.is_header u.seen) ≡ true
  pub alone : All (λ y. LeavesAlone y o) outlines
  pub leaves : LeavesEndHere now u.new
  pub utf8 : IsUtf8 u.new
  pub known : IsHeaderKnown next u.seen
  pub table : IsTableKnown next u.seen

module _ (s : Document) (edits : List Edit) (end : ℕ) (old now : ProfiledText) (tree : Document)
    (outlines : List Outline) (changes : List TextChange) (adds next : AddedLines) (tail new : Tail)
    (t : IsTailTo s edits end old now tree outlines changes adds tail) (fine : IsEditable now.profile limit tree)
    (text_is : text tree ≡ text_with 0 now.text changes) (utf8 : IsUtf8 (text_with 0 now.text changes)) (d x : Edit)
    (lt : end < length edits) (here : get_or edits end d ≡ x) (o : Outline) (e : law.Edit) (given : IsEdit x e)
    (upper later : List EndEdit) (u : EndEdit) (ts_is : t.ts ≡ upper ++ later)
    (among : IsPutAmong now.profile tree upper later e u) (k : IsKnownEnd now outlines o next u)
    (more : HasMore adds.headers next.headers) (outlined_too : IsOutlineAdded tail o new)
    (blocks : AreBlocks new.blocks.items (upper ++ u ∷ later)) where
  abbrev with_it : List ℕ
  with_it = text_with 0 now.text changes ++ bytes_of new.blocks.items

  abbrev without : ProfiledText
  without = text_in now.profile (text_with 0 now.text changes ++ bytes_of tail.blocks.items)

  -- the document before it
  before_is : document_with tree (upper ++ later) ≡ t.made.tree
  before_is = ap (document_with tree) (sym ts_is) ∙ t.tree_is

  lawful : IsLawfulEdit now.profile limit t.made.tree e
  lawful = subst (λ (y : Document). IsLawfulEdit now.profile limit y e) before_is among.lawful

  allowed : refusal now.profile limit t.made.tree e ≡ None
  allowed = subst (λ (y : Document). refusal now.profile limit y e ≡ None) before_is among.allowed

  -- and after it
  after_is : edited_document t.made.tree e ≡ document_with tree (upper ++ u ∷ later)
  after_is = ap (λ (y : Document). edited_document y e) (sym before_is) ∙ among.same

  with_is : with_it ≡ put without.text (place t.made.tree e)
  with_is =
      ap₂ (λ (a b : List ℕ). a ++ b) (sym text_is) (written_is new.blocks.items (upper ++ u ∷ later) blocks)
      ∙ sym (text_of_ends now.profile tree (upper ++ u ∷ later) fine among.ends)
      ∙ ap text (sym after_is) ∙ change_put t.made.tree e
      ∙ ap (λ (b : List ℕ). put b (place t.made.tree e)) (sym t.made.read.reads.spelled)

  with_utf8 : IsUtf8 with_it
  with_utf8 =
      IsUtf8-append (text_with 0 now.text changes) (bytes_of new.blocks.items) utf8 (blocks_utf8 new.blocks.items)

  made_more : AreMade s (take (suc end) edits) old (text_in now.profile with_it)
  made_more =
      more_made without t.made.tree e t.made.read lawful with_it with_utf8 with_is s edits end old d x lt here given
      t.made refl allowed

  tree_more : document_with tree (upper ++ u ∷ later) ≡ made_more.tree
  tree_more =
      sym after_is
      ∙ tree_after without t.made.tree e t.made.read lawful with_it with_utf8 with_is made_more.tree made_more.read

  -- what holds of the others and of it holds of all
  all_with_it : (P : EndEdit → Type 0) → All P t.ts → P u → All P (upper ++ u ∷ later)
  all_with_it P all its = all_put P upper later u (subst (All P) ts_is all) its

  outlines_apart : (P : Outline → Type 0) → All P new.outlines.items → All P tail.outlines.items × P o
  outlines_apart P all = parts P tail.outlines.items o (subst (All P) outlined_too.outlines all)

  apart_too : (os : List Outline) → All (λ y. All (λ w. runs.LeavesAlone w.seen (outlined y)) t.ts) os
      → All (λ y. LeavesAlone y o) os
      → All (λ y. All (λ w. runs.LeavesAlone w.seen (outlined y)) (upper ++ u ∷ later)) os
  apart_too [] all its = All-nil (λ y. All (λ w. runs.LeavesAlone w.seen (outlined y)) (upper ++ u ∷ later))
  apart_too (y ∷ os) all its =
      let Apart : List EndEdit → Outline → Type 0 =
      λ ws z. All (λ (w : EndEdit). runs.LeavesAlone w.seen (outlined z)) ws in
      All-cons (Apart (upper ++ u ∷ later)) y os
      (all_with_it (λ (w : EndEdit). runs.LeavesAlone w.seen (outlined y)) (All-head (Apart t.ts) y os all)
      (left_back u.seen (outlined y) k.anew
      (subst (λ (f : law.Edit). runs.LeavesAlone (outlined y) f) (sym k.seen_is)
      (All-head (λ (z : Outline). LeavesAlone z o) y os its))))
      (apart_too os (All-tail (Apart t.ts) y os all) (All-tail (λ (z : Outline). LeavesAlone z o) y os its))

  pub tail_more : IsTailTo s edits (suc end) old now tree outlines changes next new
  tail_more = record {
    ts = upper ++ u ∷ later;
    is = blocks;
    ends = among.ends;
    made = made_more;
    tree_is = tree_more;
    alone = λ f all.
        let (others, its) = outlines_apart (λ y. runs.LeavesAlone (outlined y) (plain f)) all in
        all_with_it (λ w. runs.LeavesAlone w.seen f) (t.alone f others)
        (plain_alone u.seen f (subst (λ (g : law.Edit). runs.LeavesAlone g (plain f)) (sym k.seen_is) its));
    elsewhere = λ path all.
        let (others, its) = outlines_apart (λ y. IsElsewhere path (outlined y)) all in
        all_with_it (λ w. IsElsewhere path w.seen) (t.elsewhere path others)
        (plain_elsewhere path u.seen (subst (IsElsewhere path) (sym k.seen_is) its));
    apart = apart_too outlines t.apart k.alone;
    leave = all_with_it (λ w. LeavesEndHere now w.new) t.leave k.leaves;
    utf8 = all_with_it (λ w. IsUtf8 w.new) t.utf8 k.utf8;
    known = all_with_it (λ w. IsHeaderKnown next w.seen)
        (All-weaker (λ w. IsHeaderKnown adds w.seen) (λ w. IsHeaderKnown next w.seen)
        (λ w. headers_stay adds next more w.seen) t.ts t.known) k.known;
    tables = all_with_it (λ w. IsTableKnown next w.seen)
        (All-weaker (λ w. IsTableKnown adds w.seen) (λ w. IsTableKnown next w.seen)
        (λ w. tables_stay adds next more w.seen) t.ts t.tables) k.table;
  }

-- ---- the change of a header

-- others see it as it is, and it has no value
header_seen : (s : Document) (e : law.Edit) → runs.is_header e ≡ true → runs.seen s e ≡ e
header_seen s (law.append_table ks) head = refl
header_seen s (law.append_element ks) head = refl
header_seen s (law.insert p v) head = absurd cc
header_seen s (law.set p v) head = absurd cc
header_seen s (law.rename p name) head = absurd cc
header_seen s (law.remove p) head = absurd cc

header_plain : (e : law.Edit) → runs.is_header e ≡ true → plain e ≡ e
header_plain (law.append_table ks) head = refl
header_plain (law.append_element ks) head = refl
header_plain (law.insert p v) head = absurd cc
header_plain (law.set p v) head = absurd cc
header_plain (law.rename p name) head = absurd cc
header_plain (law.remove p) head = absurd cc

-- what is seen as one is that
header_is : (s : Document) (e f : law.Edit) → runs.is_header f ≡ true → plain (runs.seen s e) ≡ f → e ≡ f
header_is s (law.append_table ks) f head is = is
header_is s (law.append_element ks) f head is = is
header_is s (law.insert p v) f head is = absurd (let no : false ≡ true = ap runs.is_header is ∙ head in cc)
header_is s (law.set p v) f head is = absurd (let no : false ≡ true = ap runs.is_header is ∙ head in cc)
header_is s (law.rename p name) f head is = absurd (let no : false ≡ true = ap runs.is_header is ∙ head in cc)
header_is s (law.remove p) f head is = absurd (let no : false ≡ true = ap runs.is_header is ∙ head in cc)

-- It writes some bytes at the end of the text.
record IsLastChange (s : Document) (c : TextChange) : Type 0 where
  at : c.at ≡ length (text s)
  size : c.size ≡ 0
  some : 0 < length c.new

module _ (profile : Profile) (s : Document) (valid : IsDocument profile s) where
  content_last : (content : Content) (c : TextChange) → 0 < length (content_text content) → c.size ≡ 0
      → place_of (changed_or_same s (append s content)) ≡ place_of_change c → IsLastChange s c
  content_last content c some none is =
      let newline : List ℕ = (newline_of s).text in
      let whole : place_of_change c ≡ record {
        start = length (text s);
        end = length (text s);
        new = header_at_end (text s) newline (content_text content);
      } = sym is ∙ append_place profile s valid content in
      let new : length c.new ≡ length (header_at_end (text s) newline (content_text content)) =
      ap (λ (p : Place). length p.new) whole in
      record {
        at = ap (λ (p : Place). p.start) whole;
        size = none;
        some = omega (
          arith,
          some,
          new,
          length-append (blank_line (text s) newline) (content_text content ++ newline),
          length-append (content_text content) newline,
        );
      }

  header_last : (e : law.Edit) (c : TextChange) → runs.is_header e ≡ true → MakesChange profile limit s e c
      → IsLastChange s c
  header_last (law.append_table ks) c head h =
      content_last (header [] (key_with ks) []) c (omega arith) h.adds h.is
  header_last (law.append_element ks) c head h =
      content_last (element [] (key_with ks) []) c (omega arith) h.adds h.is
  header_last (law.insert p v) c head h = absurd cc
  header_last (law.set p v) c head h = absurd cc
  header_last (law.rename p name) c head h = absurd cc
  header_last (law.remove p) c head h = absurd cc

header_allowed : (profile : Profile) (s : Document) (e : law.Edit) (c : TextChange) → runs.is_header e ≡ true
    → MakesChange profile limit s e c → refusal profile limit s e ≡ None
header_allowed profile s (law.append_table ks) c head h = h.allowed
header_allowed profile s (law.append_element ks) c head h = h.allowed
header_allowed profile s (law.insert p v) c head h = absurd cc
header_allowed profile s (law.set p v) c head h = absurd cc
header_allowed profile s (law.rename p name) c head h = absurd cc
header_allowed profile s (law.remove p) c head h = absurd cc

-- so it is at the end
header_at : (profile : Profile) (s : Document) (e : law.Edit) (c : TextChange) → IsEditable profile limit s
    → runs.is_header e ≡ true → MakesChange profile limit s e c
    → IsAtEnd profile limit s (record { edit = e; seen = e; new = c.new })
header_at profile s e c fine head makes =
    let last : IsLastChange s c = header_last profile s fine.valid e c head makes in
    record {
      makes = subst₂ (λ (at size : ℕ). MakesChange profile limit s e (change_at at size c.new)) last.at last.size makes;
      seen_is = header_seen s e head;
      some = last.some;
    }

-- it is a second header of none of the tables that are known
no_second : (adds : AddedLines) (keys : List (List ℕ)) (e f : law.Edit)
    → (e ≡ law.append_table keys) ⊎ (e ≡ law.append_element keys) → ¬ HasBrought adds.headers (map key keys)
    → IsTableKnown adds f → IsNoSecondHeader e f
no_second adds keys e f (inl is) other known =
    subst (λ (g : law.Edit). IsNoSecondHeader g f) (sym is) (by f known)
  where
    by : (g : law.Edit) → IsTableKnown adds g → IsNoSecondHeader (law.append_table keys) g
    by (law.insert first value) has = header_differs adds.headers keys (without_last first) has other
    by (law.set p v) has = tt
    by (law.rename p name) has = tt
    by (law.remove p) has = tt
    by (law.append_table ks) has = tt
    by (law.append_element ks) has = tt
no_second adds keys e f (inr is) other known =
    subst (λ (g : law.Edit). IsNoSecondHeader g f) (sym is) (by f known)
  where
    by : (g : law.Edit) → IsTableKnown adds g → IsNoSecondHeader (law.append_element keys) g
    by (law.insert first value) has = header_differs adds.headers keys (without_last first) has other
    by (law.set p v) has = tt
    by (law.rename p name) has = tt
    by (law.remove p) has = tt
    by (law.append_table ks) has = tt
    by (law.append_element ks) has = tt

-- ---- a header more

module _ (edits : List Edit) (first end : ℕ) (now : ProfiledText) (run new : KindsRun) (d x : Edit)
    (lt : end < length edits) (here : get_or edits end d ≡ x) (so_far : AreMadeIn edits first end now run)
    (one : AppendsOne now run x new) where
  abbrev outlines : List Outline
  outlines = run.so_far.outlines.items

  abbrev changes : List TextChange
  changes = run.so_far.changes

  abbrev its : law.Edit
  its = outlined one.outline

  abbrev c : TextChange
  c = change_of one.change

  abbrev keys : List (List ℕ)
  keys = key_texts one.keys.now

  -- the lines that are known then, and all headers
  abbrev next_lines : AddedLines
  next_lines = record run.lines { headers = new.lines.headers }

  head : runs.is_header its ≡ true
  head = by one.header
    where
      by : IsOfHeader one.outline one.keys → runs.is_header its ≡ true
      by (inl is) = ap runs.is_header is
      by (inr is) = ap runs.is_header is

  more_headers : HasMore run.lines.headers new.lines.headers
  more_headers = one.appended.lines.appends.more

  -- it makes its own change of the document before the run
  module _ (u : Document) (read : IsTextOfTree now u) where
    own_makes : (one.makes.edit ≡ its) × MakesChange now.profile limit u its c
    own_makes = by (one.makes.makes u read)
      where
        its_plain : plain (one.makes.in_run u) ≡ its
        its_plain = one.makes.outline_is u read

        by : MakesInRun now.profile u one.makes.edit (one.makes.in_run u) c one.line
            → (one.makes.edit ≡ its) × MakesChange now.profile limit u its c
        by (inl (is, makes, of)) =
            let same : one.makes.edit ≡ its = header_is u one.makes.edit its head (ap plain (sym is) ∙ its_plain) in
            (same, subst (λ (f : law.Edit). MakesChange now.profile limit u f c) same makes)
        by (inr (holder, value, is, sets)) =
            let no : false ≡ true =
            ap (λ (f : law.Edit). runs.is_header (plain f)) (sym is) ∙ ap runs.is_header its_plain ∙ head in
            absurd cc

    own_last : IsLastChange u c
    own_last = header_last now.profile u read.reads.valid its c head own_makes.1

  -- ---- where the edits before are made

  module _ (s : Document) (old : ProfiledText) (h : AreMade s (take first so_far.own) old now) where
    abbrev b : IsElementRunTo s so_far.own (length so_far.own) old now h.tree outlines changes run.lines
        run.gone.arrays.items run.gone.elements
    b = so_far.base.made s old h

    abbrev tree : Document
    tree = b.made.tree

    abbrev t : IsTailTo s edits end old now (so_far.base.made s old h).made.tree outlines changes run.lines run.tail
    t = so_far.whole s old h

    alone : All (λ f. runs.LeavesAlone f (runs.seen h.tree its)) b.es
    alone =
        subst (λ (g : law.Edit). All (λ f. runs.LeavesAlone f g) b.es) (sym (header_seen h.tree its head))
        (b.alone its
        (subst (λ (g : law.Edit). All (λ y. runs.LeavesAlone (outlined y) g) outlines) (sym (header_plain its head))
        one.alone.edits))

    away : All (λ path. IsElsewhere (changed_path path) (runs.seen h.tree its)) b.paths
    away =
        subst (λ (g : law.Edit). All (λ path. IsElsewhere (changed_path path) g) b.paths)
        (sym (header_seen h.tree its head))
        (All-weaker (λ path. HasArray run.gone.arrays.items (changed_path path))
        (λ path. IsElsewhere (changed_path path) its)
        (λ path has. of_one (λ array. IsElsewhere array its) run.gone.arrays.items (changed_path path)
        one.alone.elsewhere has)
        b.paths b.of_arrays)

    beside : All (λ y. IsBeside y c) changes
    beside =
        let long : length now.text ≡ length (text h.tree) =
        ap (λ (bytes : List ℕ). length bytes) h.read.reads.spelled in
        All-weaker (IsChangeIn now.text) (λ (y : TextChange). IsBeside y c)
        (λ y within. inl (omega (arith, within.ends.0, (own_last h.tree h.read).at, long))) changes so_far.base.within

    no_second_line : All (IsNoSecond keys) b.lines
    no_second_line =
        All-weaker (IsKnownAt run.lines) (IsNoSecond keys)
        (λ l known headed. header_differs run.lines.headers keys (table_of l)
        (with_header run.lines l known headed).1.1 one.appended.lines.appends.other)
        b.lines b.known

    -- the others leave the first newline, and none takes the byte before it
    left_here : All (LeavesHere now) changes × (list_any (runs.takes_up_to c.at) changes ≡ false)
    left_here = one.placed.header head

    left : LeaveNewlineBefore h.tree changes c.at
    left = (leave_here now h.tree h.read changes left_here.0, left_here.1)

    keeps : KeepsPlaceAmong h.tree b.es changes b.lines its c
    keeps = by one.header
      where
        by : IsOfHeader one.outline one.keys → KeepsPlaceAmong h.tree b.es changes b.lines its c
        by (inl is) =
            subst (λ (f : law.Edit). KeepsPlaceAmong h.tree b.es changes b.lines f c) (sym is)
            (no_second_line, left)
        by (inr is) =
            subst (λ (f : law.Edit). KeepsPlaceAmong h.tree b.es changes b.lines f c) (sym is)
            (no_second_line, left)

    -- so it makes it of that after the edits elsewhere, at the end
    abbrev its_end : EndEdit
    its_end = record { edit = its; seen = its; new = string_bytes one.change.new }

    at_end : IsAtEnd now.profile limit tree its_end
    at_end =
        header_at now.profile tree its (moved_past changes c) b.run.editable head
        (b.run.later its c (own_makes h.tree h.read).1 alone away beside keeps).0

    known_first : (first : Option (List ℕ)) × (EndsLeave first tree t.ts
        × LeavesFirstAtEnd first (string_bytes one.change.new))
    known_first =
        ends_leave now h.tree h.read changes tree b.made.read left_here.0 t.ts t.leave (string_bytes one.change.new)
        one.appended.leaves

    -- and after those at the end
    ends_with : AreAtEnd now.profile limit tree (t.ts ++ its_end ∷ [])
    ends_with =
        end_goes_on now.profile limit tree t.ts its_end b.run.editable t.ends at_end head
        (t.alone its
        (subst (λ (g : law.Edit). All (λ y. runs.LeavesAlone (outlined y) g) run.tail.outlines.items)
        (sym (header_plain its head)) one.alone.tail))
        (All-weaker (λ w. IsTableKnown run.lines w.seen) (λ w. IsNoSecondHeader its w.seen)
        (λ w known. no_second run.lines keys its w.seen one.header one.appended.lines.appends.other known) t.ts
        t.tables)
        known_first.0 known_first.1.0

    among : IsPutAmong now.profile tree t.ts [] its its_end
    among =
        let after : IsAtEnd now.profile limit (document_with tree t.ts) its_end =
        (ends_split now.profile limit tree t.ts (its_end ∷ []) ends_with).1.0 in
        let all : Document = document_with tree t.ts in
        let same : document_with tree (t.ts ++ []) ≡ all = ap (document_with tree) (append-nil t.ts) in
        record {
          allowed = subst (λ (y : Document). refusal now.profile limit y its ≡ None) (sym same)
              (header_allowed now.profile all its (end_change all its_end) head after.makes);
          lawful = subst (λ (y : Document). IsLawfulEdit now.profile limit y its) (sym same)
              (change_lawful now.profile limit all its (end_change all its_end)
              (fine_after now.profile limit tree t.ts b.run.editable t.ends) after.makes);
          ends = ends_with;
          same = ap (λ (y : Document). edited_document y its) same ∙ sym (document_joined tree t.ts (its_end ∷ []));
        }

    known_end : IsKnownEnd now outlines one.outline next_lines its_end
    known_end = by one.header
      where
        by : IsOfHeader one.outline one.keys → IsKnownEnd now outlines one.outline next_lines its_end
        by (inl is) = record {
          seen_is = header_plain its head;
          anew = ap (λ (f : law.Edit). runs.is_insert f || runs.is_header f) is;
          alone = one.alone.edits;
          leaves = one.appended.leaves;
          utf8 = IsUtf8-string_bytes one.change.new;
          known = subst (IsHeaderKnown next_lines) (sym is) one.appended.lines.appends.here;
          table = subst (IsTableKnown next_lines) (sym is) tt;
        }
        by (inr is) = record {
          seen_is = header_plain its head;
          anew = ap (λ (f : law.Edit). runs.is_insert f || runs.is_header f) is;
          alone = one.alone.edits;
          leaves = one.appended.leaves;
          utf8 = IsUtf8-string_bytes one.change.new;
          known = subst (IsHeaderKnown next_lines) (sym is) one.appended.lines.appends.here;
          table = subst (IsTableKnown next_lines) (sym is) tt;
        }

    blocks : AreBlocks new.tail.blocks.items (t.ts ++ its_end ∷ [])
    blocks =
        let added = one.appended.added in
        let same : keys_of added.block ≡ keys =
        ap (λ (ks : Bor (List (String Global))). key_texts ks.now) added.keys_are in
        subst (λ (bs : List Block). AreBlocks bs (t.ts ++ its_end ∷ [])) (sym added.blocks)
        (block_added run.tail.blocks.items t.ts added.block its_end t.is (record {
          header = by same one.header;
          seen = refl;
          none = λ none. refl;
          below = λ table is. absurd (let both : None ≡ Some table = sym added.none ∙ is in cc);
          text = ap (λ (y : String Global). string_bytes y) added.text_is
              ∙ sym (append-nil (string_bytes one.change.new));
        }))
      where
        by : keys_of one.appended.added.block ≡ keys → IsOfHeader one.outline one.keys
            → (its ≡ law.append_table (keys_of one.appended.added.block))
            ⊎ (its ≡ law.append_element (keys_of one.appended.added.block))
        by same (inl is) = inl (is ∙ ap law.append_table (sym same))
        by same (inr is) = inr (is ∙ ap law.append_element (sym same))

    tail_with : IsTailTo s edits (suc end) old now tree outlines changes next_lines new.tail
    tail_with =
        tail_more s edits end old now tree outlines changes run.lines next_lines run.tail new.tail t b.run.editable
        (b.run.text ∙ ap (λ (bytes : List ℕ). text_with 0 bytes changes) (sym h.read.reads.spelled)) b.made.read.utf8
        d x lt here one.outline its (subst (IsEdit x) (own_makes h.tree h.read).0 one.makes.is) t.ts [] its_end
        (sym (append-nil t.ts)) among known_end more_headers one.appended.outlines blocks

  -- ---- in all

  end_clear : IsAccepted now → IsEndClear now changes
  end_clear (u, read) =
      let (leave, none) = one.placed.header head in
      let here : c.at ≡ length now.text =
      (own_last u read).at ∙ ap (λ (bytes : List ℕ). length bytes) (sym read.reads.spelled) in
      record {
        leave = leave;
        clear = subst (λ (n : ℕ). list_any (runs.takes_up_to n) changes ≡ false) here none;
      }

  pub appends_one : AreMadeIn edits first (suc end) now new
  appends_one =
      with_parts edits first (suc end) now new run.so_far next_lines run.gone one.same one.appended.lines.rest one.gone
      (record {
        own = so_far.own;
        begins = so_far.begins;
        low = so_far.low;
        no_headers = so_far.no_headers;
        base = same_base run.lines new.lines.headers more_headers so_far.own first (length so_far.own) now outlines
            changes run.gone so_far.base;
        whole = λ s old h.
            subst (λ (y : Document). IsTailTo s edits (suc end) old now y outlines changes next_lines new.tail)
            (sym (same_tree run.lines new.lines.headers more_headers so_far.own first (length so_far.own) now outlines
            changes run.gone so_far.base s old h)) (tail_with s old h);
        clear = λ accepted. inr (end_clear accepted);
      })
