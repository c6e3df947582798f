-- One edit more at the end of the text, after a run of edits that are made at once: an insert below a header.
--
-- By the document before the run it would bring the header of its table elsewhere, and so it would after the edits
-- elsewhere (`brings_later`). It comes below the header below which others into its table came, else below the last
-- that goes through the table, so all others let it come there (`comes`), and what it writes is its header and its
-- line, or its line alone (`writes`). So it is at the end, too (`end_goes_on_below`), as one more of the block's edits.
--
-- Theorem: `puts_below`.
use Rattle.std.proofs.Common.{[], ◌≡◌, ◌≢◌, ◌<◌, ◌∷◌, ◌++◌, ℕ, suc, All, IsUtf8, List, length, take, get_or}
use Rattle.std.proofs.Common.{None, Some, Option, refl, sym, ap, ap₂, subst, subst₂, ◌∙◌, append_assoc, arith, inl, inr}
use Rattle.std.proofs.Common.{length-append, map}
use Rattle.std.specs.Prelude.{◌⊎◌, String, false, string_bytes, true}
use Rattle.std.specs.Borrow.{Bor}
use Rattle.std.specs.Global.{Global}
use Rattle.std.specs.List.{list_any}
use Rattle.std.proofs.lemmas.Bool.{or_parts}
use Rattle.std.proofs.lemmas.List.{append-nil}
use Rattle.std.proofs.lemmas.List.Elements.{All-append, All-cons, All-head, All-nil, All-push, All-tail, All-weaker}
use Rattle.std.proofs.lemmas.Str.{IsUtf8-string_bytes}
use Rattle.keep_types.specs.declared.leaf.Profile.{Profile}
use Rattle.keep_syntax.specs.Tree.{Document, Value, Written}
use Rattle.keep_path.specs.Path.{Part, key, strip, without_last}
use Rattle.keep_path.proofs.Shared.{strip_append}
use Rattle.keep_meaning.specs.Meaning.{mentions_in}
use Rattle.keep_edit_spec.specs.AddedLines.{first_new}
use Rattle.keep_edit_spec.specs.BroughtHeaders.{BringsHeader, BringsLine}
use Rattle.keep_edit_spec.specs.Edits as law
use Rattle.keep_edit_spec.specs.Edits.{edited_document}
use Rattle.keep_edit_spec.specs.ElementRuns.{IsElsewhere, KeepsPlaceAmong, changed_path}
use Rattle.keep_edit_spec.specs.EndEdits.{AreAtEnd, BeginWithHeader, ComesBelow, EndEdit, EndsLeave, GoesThrough}
use Rattle.keep_edit_spec.specs.EndEdits.{IsInto, IsMadeBelow, IsNotOf, document_with, written_below}
use Rattle.keep_edit_spec.specs.FirstNewline.{LeavesFirstAtEnd}
use Rattle.keep_edit_spec.specs.HeadersBelow.{GoThrough}
use Rattle.keep_edit_spec.specs.InsertKinds.{Added, AddsAs, IsAfterAs, IsAfterLine, added_as, kind_of, table_of}
use Rattle.keep_edit_spec.specs.Insertion.{keyed_text}
use Rattle.keep_edit_spec.specs.Lines.{newline_of}
use Rattle.keep_edit_spec.specs.Look.{holder, keys_in}
use Rattle.keep_edit_spec.specs.Runs as runs
use Rattle.keep_edit_spec.specs.Runs.{IsBeforeHeaders, IsInOrder, IsSeenStill, LeaveNewline, LetsCome, LetsTable}
use Rattle.keep_edit_spec.specs.Runs.{MakesChange, PassesBy}
use Rattle.keep_edit_spec.specs.TextChanges.{TextChange, moved_past, text_with}
use Rattle.keep_edit_spec.specs.declared.line_kind.LineKind.{LineKind}
use Rattle.keep_edit_spec.specs.declared.line_kind.LineKind.TheVariants.{WithHeader}
use Rattle.keep_edit_spec.proofs.Lists.KeysThrough.{keys_alone}
use Rattle.keep_edit_spec.proofs.Lists.LineKinds.{keys_of_line, table_is}
use Rattle.keep_edit_spec.proofs.Shared.{end_comes_later, end_goes_on_below, ends_split, kind_is, newline_stays}
use Rattle.keep_edit_plan.proofs.Shared.{editable}
use Rattle.keep_edit_plan.specs.Headers.{key_texts}
use Rattle.keep_edit_plan.specs.Reading.{IsTextOfTree, ProfiledText, limit}
use Rattle.keep_edit_plan.specs.TextEdits.{change_of}
use Rattle.keep_edit_plan.specs.declared.edit.Edit.{Edit}
use Rattle.keep_edit_plan.specs.declared.edit.Edit.TheVariants as edit
use Rattle.keep_edit_plan.specs.declared.text_edit.TextEdit.{TextEdit}
use Rattle.keep_edit_runs.specs.AddedLines.{HasTable, IsKnownAs, IsKnownAt, brought_at}
use Rattle.keep_edit_runs.specs.GoneBetween.{HasArray, IsElementRunTo}
use Rattle.keep_edit_runs.specs.KindsRun.{PutsBelow}
use Rattle.keep_edit_runs.specs.Lists.{AreMade, IsEdit}
use Rattle.keep_edit_runs.specs.Newlines.{LeavesEndHere, LeavesHere}
use Rattle.keep_edit_runs.specs.Runs.{AddsLineAlone, IsOfKind, MakesInRun, no_value, outlined, plain}
use Rattle.keep_edit_runs.specs.SeenHeaders.{HasMore, HasTableOf}
use Rattle.keep_edit_runs.specs.Tail.{AreBelow, AreBlocks, IsBlock, IsBlockFor, IsPutBelow, keys_of}
use Rattle.keep_edit_runs.specs.Tail.{written}
use Rattle.keep_edit_runs.specs.declared.added_lines.AddedLines.{AddedLines}
use Rattle.keep_edit_runs.specs.declared.kinds_run.KindsRun.{KindsRun}
use Rattle.keep_edit_runs.specs.declared.outline.Outline.{Outline}
use Rattle.keep_edit_runs.specs.declared.tail.Block.{Block}
use Rattle.keep_edit_runs.proofs.BlockLaws.{all_of_first, all_of_last}
use Rattle.keep_edit_runs.proofs.ElementsGone.{of_one, plain_elsewhere}
use Rattle.keep_edit_runs.proofs.LineLaws.{with_header}
use Rattle.keep_edit_runs.proofs.NewlineSteps.{leave_here}
use Rattle.keep_edit_runs.proofs.RunSteps.{before_headers}
use Rattle.keep_edit_runs.proofs.TailEnds.{IsKnownEnd, IsPutAmong, same_base, same_tree, tail_more}
use Rattle.keep_edit_runs.proofs.TailEnds.{with_parts}
use Rattle.keep_edit_runs.proofs.TailNewlines.{ends_leave}
use Rattle.keep_edit_runs.proofs.TailRuns.{AreMadeIn, IsClear, IsEndClear, IsTailTo}

-- ---- blocks, apart at one of them

record AreApartAt (before : List Block) (block : Block) (after : List Block) (ts : List EndEdit) : Type 0 where
  upper : List EndEdit
  h : EndEdit
  own : List EndEdit
  later : List EndEdit
  is : ts ≡ upper ++ h ∷ own ++ later
  earlier : AreBlocks before upper
  one : IsBlock block h own
  rest : AreBlocks after later

apart_at : (before : List Block) (block : Block) (after : List Block) (ts : List EndEdit)
    → AreBlocks (before ++ block ∷ after) ts → AreApartAt before block after ts
apart_at [] block after ts (h, (own, (rest, (is, (one, more))))) = record {
  upper = [];
  h = h;
  own = own;
  later = rest;
  is = is;
  earlier = refl;
  one = one;
  rest = more;
}
apart_at (x ∷ before) block after ts (g, (its, (rest, (is, (first, more))))) =
    let a : AreApartAt before block after rest = apart_at before block after rest more in
    record {
      upper = g ∷ its ++ a.upper;
      h = a.h;
      own = a.own;
      later = a.later;
      is = is ∙ ap (λ (us : List EndEdit). g ∷ its ++ us) a.is
          ∙ sym (append_assoc (g ∷ its) (a.upper ++ a.h ∷ a.own) a.later)
          ∙ ap (λ (us : List EndEdit). us ++ a.later) (sym (append_assoc (g ∷ its) a.upper (a.h ∷ a.own)));
      earlier = (g, (its, (a.upper, (refl, (first, a.earlier)))));
      one = a.one;
      rest = a.rest;
    }

-- and together, with that one
blocks_with : (before : List Block) (b : Block) (after : List Block) (upper : List EndEdit) (h : EndEdit)
    (own later : List EndEdit) → AreBlocks before upper → IsBlock b h own → AreBlocks after later
    → AreBlocks (before ++ b ∷ after) (upper ++ h ∷ own ++ later)
blocks_with [] b after upper h own later earlier one rest =
    (h, (own, (later, (ap (λ (us : List EndEdit). us ++ h ∷ own ++ later) earlier, (one, rest)))))
blocks_with (x ∷ before) b after upper h own later (g, (its, (more, (is, (first, earlier))))) one rest = (
  g,
  (
    its,
    (
      more ++ h ∷ own ++ later,
      (
        ap (λ (us : List EndEdit). us ++ h ∷ own ++ later) is
            ∙ ap (λ (us : List EndEdit). us ++ later) (append_assoc (g ∷ its) more (h ∷ own))
            ∙ append_assoc (g ∷ its) (more ++ h ∷ own) later,
        (first, blocks_with before b after more h own later earlier one rest),
      ),
    ),
  ),
)

-- two lists that are one, each apart at the same number
same_parts : (a b : List Block) (x y : Block) (c d : List Block) → a ++ x ∷ c ≡ b ++ y ∷ d → length a ≡ length b
    → (a ≡ b) × ((x ≡ y) × (c ≡ d))
same_parts [] [] x y c d is same = (refl, (cc, cc))
same_parts [] (w ∷ b) x y c d is same = absurd (omega (arith, same))
same_parts (z ∷ a) [] x y c d is same = absurd (omega (arith, same))
same_parts (z ∷ a) (w ∷ b) x y c d is same =
    let first : z ≡ w = cc in
    let rest : a ++ x ∷ c ≡ b ++ y ∷ d = cc in
    let (begins, others) = same_parts a b x y c d rest (omega (arith, same)) in
    (ap₂ (λ (p : Block) (q : List Block). p ∷ q) first begins, others)

-- what holds of all as one and as another holds as both
all_of_both : (P Q : Block → Type 0) (bs : List Block) → All P bs → All Q bs → All (λ b. P b × Q b) bs
all_of_both P Q [] h k = All-nil (λ b. P b × Q b)
all_of_both P Q (x ∷ bs) h k =
    All-cons (λ b. P b × Q b) x bs (All-head P x bs h, All-head Q x bs k)
    (all_of_both P Q bs (All-tail P x bs h) (All-tail Q x bs k))

-- ---- what holds of the edits of blocks

module _ (P : law.Edit → Type 0) (H : Block → Type 0)
    (of_header : (b : Block) → H b → P (law.append_table (keys_of b)) × P (law.append_element (keys_of b)))
    (of_own : (b : Block) → H b → (t : List Part) → b.table ≡ Some t → (e : law.Edit) → IsInto t e → P e) where
  of_head : (b : Block) (h : EndEdit) (own : List EndEdit) → IsBlock b h own → H b → P h.seen
  of_head b h own one holds = by one.header
    where
      by : (h.edit ≡ law.append_table (keys_of b)) ⊎ (h.edit ≡ law.append_element (keys_of b)) → P h.seen
      by (inl is) = subst P (sym (one.seen ∙ is)) (of_header b holds).0
      by (inr is) = subst P (sym (one.seen ∙ is)) (of_header b holds).1

  of_its : (b : Block) (h : EndEdit) (own : List EndEdit) → IsBlock b h own → H b → All (λ t. P t.seen) own
  of_its b h own one holds = by b.table refl
    where
      by : (o : Option (List Part)) → b.table ≡ o → All (λ t. P t.seen) own
      by None is = subst (All (λ (t : EndEdit). P t.seen)) (sym (one.none is)) (All-nil (λ (t : EndEdit). P t.seen))
      by (Some table) is =
          All-weaker (λ (t : EndEdit). IsInto table t.seen) (λ (t : EndEdit). P t.seen)
          (λ t into. of_own b holds table is t.seen into) own (one.below table is).into

  of_all : (bs : List Block) (ts : List EndEdit) → AreBlocks bs ts → All H bs → All (λ t. P t.seen) ts
  of_all [] ts is all = subst (All (λ (t : EndEdit). P t.seen)) (sym is) (All-nil (λ (t : EndEdit). P t.seen))
  of_all (b ∷ bs) ts (h, (own, (rest, (is, (one, more))))) all =
      let its : H b = All-head H b bs all in
      subst (All (λ (t : EndEdit). P t.seen)) (sym is)
      (All-cons (λ (t : EndEdit). P t.seen) h (own ++ rest) (of_head b h own one its)
      (All-append (λ (t : EndEdit). P t.seen) own rest (of_its b h own one its)
      (of_all bs rest more (All-tail H b bs all))))

-- the first of them appends a header
begin_with : (bs : List Block) (ts : List EndEdit) → AreBlocks bs ts → BeginWithHeader ts
begin_with [] ts is = subst BeginWithHeader (sym is) tt
begin_with (b ∷ bs) ts (h, (own, (rest, (is, (one, more))))) = subst BeginWithHeader (sym is) (by one.header)
  where
    by : (h.edit ≡ law.append_table (keys_of b)) ⊎ (h.edit ≡ law.append_element (keys_of b))
        → runs.is_header h.edit ≡ true
    by (inl same) = ap runs.is_header same
    by (inr same) = ap runs.is_header same

-- ---- headers, and a table whose path is of keys alone

module _ (table : List Part) (keys_are : map key (keys_in table) ≡ table) where
  -- what is left of a header's keys after those of the table
  left_of : (keys : List (List ℕ)) (more : List Part) → map key keys ≡ table ++ more
      → strip (map key (keys_in table)) (map key keys) ≡ Some more
  left_of keys more is =
      ap (λ (q : List Part). strip q (map key keys)) keys_are ∙ ap (strip table) is ∙ strip_append table more

  never_both : (keys : List (List ℕ)) (more : List Part) → PassesBy keys table → map key keys ≡ table ++ more → ⊥
  never_both keys more passes is =
      let both : None ≡ Some more = sym passes ∙ left_of keys more is in
      absurd cc

  passes_other : (keys : List (List ℕ)) → PassesBy keys table → map key keys ≢ table
  passes_other keys passes same = never_both keys [] passes (same ∙ sym (append-nil table))

  not_through : (keys : List (List ℕ)) → PassesBy keys table → GoThrough keys table → ⊥
  not_through keys passes (k, (ks, is)) = never_both keys (map key (k ∷ ks)) passes is

  through_other : (keys : List (List ℕ)) → GoThrough keys table → map key keys ≢ table
  through_other keys (k, (ks, is)) same =
      omega (
        arith,
        ap (λ (q : List Part). length q) (sym same ∙ is),
        length-append table (map key (k ∷ ks)),
      )

  other_by : (keys : List (List ℕ)) → PassesBy keys table ⊎ GoThrough keys table → map key keys ≢ table
  other_by keys (inl passes) = passes_other keys passes
  other_by keys (inr goes) = through_other keys goes

  -- an insert into a table that is not that nor below it
  not_of : (t : List Part) (e : law.Edit) → strip table t ≡ None → IsInto t e → IsNotOf table e
  not_of t (law.insert first value) apart into = ap (strip table) into ∙ apart
  not_of t (law.set p v) apart into = tt
  not_of t (law.rename p name) apart into = tt
  not_of t (law.remove p) apart into = tt
  not_of t (law.append_table ks) apart into = absurd into
  not_of t (law.append_element ks) apart into = absurd into

  insert_not_through : (t : List Part) (e : law.Edit) → IsInto t e → GoesThrough table e → ⊥
  insert_not_through t (law.insert first value) into goes = goes
  insert_not_through t (law.set p v) into goes = goes
  insert_not_through t (law.rename p name) into goes = goes
  insert_not_through t (law.remove p) into goes = goes
  insert_not_through t (law.append_table ks) into goes = into
  insert_not_through t (law.append_element ks) into goes = into

  -- the edits of blocks that are not of the table
  abbrev IsOfOther : Block → Type 0
  IsOfOther b =
      (PassesBy (keys_of b) table ⊎ GoThrough (keys_of b) table)
      × ((t : List Part) → b.table ≡ Some t → strip table t ≡ None)

  none_of : (bs : List Block) (ts : List EndEdit) → AreBlocks bs ts → All IsOfOther bs
      → All (λ t. IsNotOf table t.seen) ts
  none_of =
      of_all (IsNotOf table) IsOfOther (λ b h. (other_by (keys_of b) h.0, other_by (keys_of b) h.0))
      (λ b h t is e into. not_of t e (h.1 t is) into)

  none_through : (bs : List Block) (ts : List EndEdit) → AreBlocks bs ts → All (λ b. PassesBy (keys_of b) table) bs
      → All (λ t. GoesThrough table t.seen → ⊥) ts
  none_through =
      of_all (λ e. GoesThrough table e → ⊥) (λ b. PassesBy (keys_of b) table)
      (λ b h. (not_through (keys_of b) h, not_through (keys_of b) h))
      (λ b h t is e into. insert_not_through t e into)

  -- as they are seen, or as they are
  through_seen : (y : Document) (e f : law.Edit) → runs.seen y e ≡ f → GoesThrough table e → GoesThrough table f
  through_seen y (law.append_table ks) f is goes = subst (GoesThrough table) is goes
  through_seen y (law.append_element ks) f is goes = subst (GoesThrough table) is goes
  through_seen y (law.insert p v) f is goes = absurd goes
  through_seen y (law.set p v) f is goes = absurd goes
  through_seen y (law.rename p name) f is goes = absurd goes
  through_seen y (law.remove p) f is goes = absurd goes

  none_go : (profile : Profile) (s : Document) (ts : List EndEdit) → AreAtEnd profile limit s ts
      → All (λ t. GoesThrough table t.seen → ⊥) ts → All (λ t. GoesThrough table t.edit → ⊥) ts
  none_go profile s [] ends none = All-nil (λ (t : EndEdit). GoesThrough table t.edit → ⊥)
  none_go profile s (t ∷ ts) ends none =
      All-cons (λ (u : EndEdit). GoesThrough table u.edit → ⊥) t ts
      (λ goes. All-head (λ (u : EndEdit). GoesThrough table u.seen → ⊥) t ts none
      (through_seen s t.edit t.seen ends.0.seen_is goes))
      (none_go profile (edited_document s t.edit) ts ends.1
      (All-tail (λ (u : EndEdit). GoesThrough table u.seen → ⊥) t ts none))

-- ---- lines and keys

-- where no header is appended, each edit lets the table of a line be
lets_all : (l : Added) (es : List law.Edit) → list_any runs.is_header es ≡ false → All (LetsTable l) es
lets_all l [] none = All-nil (LetsTable l)
lets_all l (e ∷ es) none =
    let (here, others) = or_parts (runs.is_header e) (list_any runs.is_header es) none in
    All-cons (LetsTable l) e es (by e here) (lets_all l es others)
  where
    by : (f : law.Edit) → runs.is_header f ≡ false → LetsTable l f
    by (law.insert p v) is = tt
    by (law.set p v) is = tt
    by (law.rename p name) is = tt
    by (law.remove p) is = tt
    by (law.append_table ks) is = absurd cc
    by (law.append_element ks) is = absurd cc

-- a line with a header after those that are known, of another table and at another place
after_known : (adds : AddedLines) (at : ℕ) (table : List Part) → brought_at adds at ≡ None → ¬ HasTable adds table
    → (l m : Added) → m.kind ≡ WithHeader → m.at ≡ at → table_of m ≡ table → IsKnownAt adds l → IsAfterLine l m
after_known adds at table free first l m kind here of known =
    subst (λ (k : LineKind). IsAfterAs k l m) (sym kind) (λ headed.
    let its : IsKnownAs WithHeader adds l = with_header adds l known headed in (
      λ same.
          (let both : None ≡ Some (table_of l) =
          sym free ∙ subst (λ (n : ℕ). brought_at adds n ≡ Some (table_of l)) (same ∙ here) its.0 in absurd cc),
      λ same. first (subst (HasTable adds) (same ∙ of) its.1.0),
    ))

-- the same keys behind the same path
same_behind : (a b x y : List Part) → a ≡ b → a ++ x ≡ b ++ y → x ≡ y
same_behind [] [] x y same is = is
same_behind [] (q ∷ b) x y same is = absurd cc
same_behind (p ∷ a) [] x y same is = absurd cc
same_behind (p ∷ a) (q ∷ b) x y same is =
    let begins : a ≡ b = cc in
    let rest : a ++ x ≡ b ++ y = cc in
    same_behind a b x y begins rest

same_keys : (ks ls : List (List ℕ)) → map key ks ≡ map key ls → ks ≡ ls
same_keys [] [] is = refl
same_keys [] (l ∷ ls) is = absurd cc
same_keys (k ∷ ks) [] is = absurd cc
same_keys (k ∷ ks) (l ∷ ls) is =
    let parts : key k ∷ map key ks ≡ key l ∷ map key ls = is in
    let first : key k ≡ key l = cc in
    let own : k ≡ l = cc in
    let rest : map key ks ≡ map key ls = cc in
    ap₂ (λ (p : List ℕ) (q : List (List ℕ)). p ∷ q) own (same_keys ks ls rest)

-- what one edit more writes
written_more : (ts : List EndEdit) (u : EndEdit) → written (ts ++ u ∷ []) ≡ written ts ++ u.new
written_more [] u = append-nil u.new
written_more (t ∷ ts) u =
    ap (λ (b : List ℕ). t.new ++ b) (written_more ts u) ∙ sym (append_assoc t.new (written ts) u.new)

-- ---- an insert more

module _ (edits : List Edit) (first end : ℕ) (now : ProfiledText) (run new : KindsRun) (d x : Edit)
    (lt : end < length edits) (here : get_or edits end d ≡ x) (so_far : AreMadeIn edits first end now run)
    (one : PutsBelow now run x new) where
  abbrev outlines : List Outline
  outlines = run.so_far.outlines.items

  abbrev changes : List TextChange
  changes = run.so_far.changes

  abbrev c : TextChange
  c = change_of one.change

  abbrev first_path : List Part
  first_path = one.inserted.first

  abbrev table : List Part
  table = without_last one.inserted.first

  -- the lines that are known then, and all headers
  abbrev next_lines : AddedLines
  next_lines = record run.lines { headers = new.lines.headers }

  -- ---- the blocks

  abbrev found : IsBlockFor run.tail.blocks.items (without_last one.inserted.first) one.inserted.number
  found = one.inserted.block

  abbrev put : IsPutBelow run.tail.blocks.items one.inserted.number (without_last one.inserted.first)
      one.inserted.text new.tail.blocks.items
  put = one.inserted.put

  -- the block below whose header it comes, with it
  abbrev with_it : Block
  with_it = one.inserted.put.now

  same_place : (put.before ≡ found.before) × ((put.block ≡ found.block) × (put.after ≡ found.after))
  same_place =
      same_parts put.before found.before put.block found.block put.after found.after (sym put.was ∙ found.is)
      (put.number ∙ sym found.number)

  blocks_are : new.tail.blocks.items ≡ found.before ++ with_it ∷ found.after
  blocks_are =
      put.is ∙ ap₂ (λ (p q : List Block). p ++ with_it ∷ q) same_place.0 same_place.1.1

  keys_same : keys_of with_it ≡ keys_of found.block
  keys_same =
      ap (λ (ks : Bor (List (String Global))). key_texts ks.now)
      (put.keys_are ∙ ap (λ (b : Block). b.keys) same_place.1.0)

  text_same : string_bytes with_it.text ≡ string_bytes found.block.text ++ one.inserted.text
  text_same = put.text_is ∙ ap (λ (b : Block). string_bytes b.text ++ one.inserted.text) same_place.1.0

  -- ---- it brings the header of its table to the document before the run

  module _ (u : Document) (read : IsTextOfTree now u) where
    record IsBrought : Type 0 where
      path : List Part
      value : Value
      is : one.makes.edit ≡ law.insert path value
      first_is : first_new u path ≡ first_path
      kind : kind_of u path ≡ WithHeader
      brings : BringsHeader now.profile limit u path value c

    its_plain : plain (one.makes.in_run u) ≡ law.insert first_path no_value
    its_plain = one.makes.outline_is u read ∙ one.inserted.is

    brought : IsBrought
    brought = by (one.makes.makes u read)
      where
        never : {A : Type 0} (f : law.Edit) → one.makes.in_run u ≡ f → runs.is_insert (plain f) ≡ false → A
        never f is none =
            let no : false ≡ true =
            sym none ∙ ap (λ (g : law.Edit). runs.is_insert (plain g)) (sym is) ∙ ap runs.is_insert its_plain in
            absurd cc

        itself : (f : law.Edit) → one.makes.edit ≡ f → one.makes.in_run u ≡ runs.seen u f
            → MakesChange now.profile limit u f c → IsOfKind u f one.line → IsBrought
        itself (law.insert p v) same seen_as (kind, adds) of =
            let firsts : law.insert (first_new u p) no_value ≡ law.insert first_path no_value =
            sym (ap plain seen_as) ∙ its_plain in
            let kinds : Some (kind_of u p) ≡ Some WithHeader = sym of ∙ one.inserted.line_is in
            let kind_same : kind_of u p ≡ WithHeader = cc in
            let own : kind ≡ WithHeader = sym (kind_is kind now.profile limit u p v c adds) ∙ kind_same in
            record {
              path = p;
              value = v;
              is = same;
              first_is = cc;
              kind = kind_same;
              brings = subst (λ (k : LineKind). AddsAs k now.profile limit u p v c) own adds;
            }
        itself (law.set p v) same seen_as makes of = never (law.set p v) seen_as refl
        itself (law.rename p name) same seen_as makes of = never (law.rename p name) seen_as refl
        itself (law.remove p) same seen_as makes of = never (law.remove p) seen_as refl
        itself (law.append_table ks) same seen_as makes of = never (law.append_table ks) seen_as refl
        itself (law.append_element ks) same seen_as makes of = never (law.append_element ks) seen_as refl

        by : MakesInRun now.profile u one.makes.edit (one.makes.in_run u) c one.line → IsBrought
        by (inl (is, makes, of)) = itself one.makes.edit refl is makes of
        by (inr (holds, value, is, sets)) = never (law.set holds value) is refl

  -- ---- where the edits before are made

  module _ (s : Document) (old : ProfiledText) (h : AreMade s (take first so_far.own) old now) where
    abbrev b : IsElementRunTo s so_far.own (length so_far.own) old now h.tree outlines changes run.lines
        run.gone.arrays.items run.gone.elements
    b = so_far.base.made s old h

    abbrev tree : Document
    tree = b.made.tree

    abbrev t : IsTailTo s edits end old now (so_far.base.made s old h).made.tree outlines changes run.lines run.tail
    t = so_far.whole s old h

    abbrev w : IsBrought h.tree h.read
    w = brought h.tree h.read

    abbrev e : law.Edit
    e = law.insert w.path w.value

    -- as others see it
    abbrev its : law.Edit
    its = law.insert (first_new h.tree w.path) w.value

    plain_is : plain its ≡ outlined one.outline
    plain_is = ap (λ (p : List Part). law.insert p no_value) w.first_is ∙ sym one.inserted.is

    alone : All (λ f. runs.LeavesAlone f its) b.es
    alone =
        b.alone its
        (subst (λ (g : law.Edit). All (λ y. runs.LeavesAlone (outlined y) g) outlines) (sym plain_is) one.alone.edits)

    away : All (λ path. IsElsewhere (changed_path path) its) b.paths
    away =
        All-weaker (λ path. HasArray run.gone.arrays.items (changed_path path))
        (λ path. IsElsewhere (changed_path path) its)
        (λ path has. plain_elsewhere (changed_path path) its
        (subst (IsElsewhere (changed_path path)) (sym plain_is)
        (of_one (λ array. IsElsewhere array (outlined one.outline)) run.gone.arrays.items (changed_path path)
        one.alone.elsewhere has)))
        b.paths b.of_arrays

    no_header : list_any runs.is_header b.es ≡ false
    no_header = by (before_headers [] b.es 0 run.lines b.counted (inr so_far.no_headers))
      where
        by : IsBeforeHeaders [] b.es 0 → list_any runs.is_header b.es ≡ false
        by (inl none) = none
        by (inr never) = absurd (never refl)

    in_order : IsInOrder b.es changes b.lines (added_as h.tree w.path c)
    in_order = record {
      after = All-weaker (IsKnownAt run.lines) (λ l. IsAfterLine l (added_as h.tree w.path c))
          (λ l. after_known run.lines c.at table one.inserted.lines.free one.inserted.lines.first l
          (added_as h.tree w.path c) w.kind refl (ap without_last w.first_is))
          b.lines b.known;
      stays = λ differs. one.inserted.clear;
      passed = lets_all (added_as h.tree w.path c) b.es no_header;
    }

    placed_here : All (LeavesHere now) changes × All (LetsCome now.text changes c.at) changes
    placed_here = one.placed.insert (ap runs.is_insert one.inserted.is)

    left_here : LeaveNewline h.tree changes
    left_here = leave_here now h.tree h.read changes placed_here.0

    keeps : KeepsPlaceAmong h.tree b.es changes b.lines e c
    keeps = (
      in_order,
      (
        left_here,
        subst (λ (bytes : List ℕ). All (LetsCome bytes changes c.at) changes × IsBeforeHeaders bytes b.es c.at)
            h.read.reads.spelled (placed_here.1, inl no_header),
      ),
    )

    -- so it does to that after the edits elsewhere
    abbrev later : TextChange
    later = moved_past changes c

    makes_later : MakesChange now.profile limit tree e later × IsSeenStill h.tree tree e
    makes_later = b.run.later e c (WithHeader, w.brings) alone away one.inserted.beside keeps

    first_later : first_new tree w.path ≡ first_path
    first_later = makes_later.1.0 ∙ w.first_is

    brings_later : BringsHeader now.profile limit tree w.path w.value later
    brings_later = by makes_later.0
      where
        by : MakesChange now.profile limit tree (law.insert w.path w.value) later
            → BringsHeader now.profile limit tree w.path w.value later
        by (kind, adds) =
            subst (λ (k : LineKind). AddsAs k now.profile limit tree w.path w.value later)
            (sym (kind_is kind now.profile limit tree w.path w.value later adds) ∙ makes_later.1.1 ∙ w.kind) adds

    holder_later : holder w.path (mentions_in tree) ≡ table
    holder_later =
        sym (table_is now.profile limit tree w.path w.value later
        (keys_of_line WithHeader now.profile limit tree w.path w.value later brings_later))
        ∙ ap without_last first_later

    holder_here : holder w.path (mentions_in h.tree) ≡ table
    holder_here =
        sym (table_is now.profile limit h.tree w.path w.value c
        (keys_of_line WithHeader now.profile limit h.tree w.path w.value c w.brings))
        ∙ ap without_last w.first_is

    -- ---- the edits at the end, apart at the header

    a : AreApartAt found.before found.block found.after t.ts
    a =
        apart_at found.before found.block found.after t.ts
        (subst (λ (bs : List Block). AreBlocks bs t.ts) found.is t.is)

    abbrev upper : List EndEdit
    upper = a.upper ++ a.h ∷ a.own

    ends : AreAtEnd now.profile limit tree (a.upper ++ a.h ∷ a.own ++ a.later)
    ends = subst (AreAtEnd now.profile limit tree) a.is t.ends

    ends_later : (y : Document) × AreAtEnd now.profile limit y a.later
    ends_later = (document_with tree upper, (ends_split now.profile limit tree upper a.later ends).1)

    -- where inserts into the table came below the header, it goes through the table, too
    through : GoThrough (keys_of found.block) table
    through = by found.block.table refl
      where
        by : (o : Option (List Part)) → found.block.table ≡ o → GoThrough (keys_of found.block) table
        by None is = (found.last is).0
        by (Some other) is =
            subst (GoThrough (keys_of found.block)) (found.own other is) (a.one.below other is).through

    keys_are : map key (keys_in table) ≡ table
    keys_are = keys_alone (keys_of found.block) table through

    goes_through : GoesThrough table a.h.edit
    goes_through = by a.one.header
      where
        by : (a.h.edit ≡ law.append_table (keys_of found.block)) ⊎ (a.h.edit ≡ law.append_element (keys_of found.block))
            → GoesThrough table a.h.edit
        by (inl is) = subst (GoesThrough table) (sym is) through
        by (inr is) = subst (GoesThrough table) (sym is) through

    into_table : All (λ y. IsInto table y.seen) a.own
    into_table = by found.block.table refl
      where
        by : (o : Option (List Part)) → found.block.table ≡ o → All (λ y. IsInto table y.seen) a.own
        by None is =
            subst (All (λ (y : EndEdit). IsInto table y.seen)) (sym (a.one.none is))
            (All-nil (λ (y : EndEdit). IsInto table y.seen))
        by (Some other) is =
            subst (λ (q : List Part). All (λ (y : EndEdit). IsInto q y.seen) a.own) (found.own other is)
            (a.one.below other is).into

    abbrev IsElseThan : Block → Type 0
    IsElseThan y = (q : List Part) → y.table ≡ Some q → strip table q ≡ None

    abbrev PassesOr : Block → Type 0
    PassesOr y = PassesBy (keys_of y) table ⊎ GoThrough (keys_of y) table

    others_above : All (λ y. IsNotOf table y.seen) a.upper
    others_above =
        none_of table keys_are found.before a.upper a.earlier
        (all_of_both PassesOr IsElseThan found.before (all_of_first PassesOr found.before found.after found.others)
        (all_of_first IsElseThan found.before found.after found.apart))

    others_later : All (λ y. IsNotOf table y.seen) a.later
    others_later =
        none_of table keys_are found.after a.later a.rest
        (all_of_both PassesOr IsElseThan found.after (all_of_last PassesOr found.before found.after found.others)
        (all_of_last IsElseThan found.before found.after found.apart))

    other_header : IsNotOf table a.h.seen
    other_header = by a.one.header
      where
        by : (a.h.edit ≡ law.append_table (keys_of found.block)) ⊎ (a.h.edit ≡ law.append_element (keys_of found.block))
            → IsNotOf table a.h.seen
        by (inl is) =
            subst (IsNotOf table) (sym (a.one.seen ∙ is))
            (through_other table keys_are (keys_of found.block) through)
        by (inr is) =
            subst (IsNotOf table) (sym (a.one.seen ∙ is))
            (through_other table keys_are (keys_of found.block) through)

    -- as others see it there
    abbrev its_later : law.Edit
    its_later = law.insert (first_new tree w.path) w.value

    plain_later : plain its_later ≡ outlined one.outline
    plain_later = ap (λ (p : List Part). law.insert p no_value) first_later ∙ sym one.inserted.is

    alone_later : All (λ y. runs.LeavesAlone y.seen its_later) (a.upper ++ a.h ∷ a.own ++ a.later)
    alone_later =
        subst (All (λ (y : EndEdit). runs.LeavesAlone y.seen its_later)) a.is
        (t.alone its_later
        (subst (λ (g : law.Edit). All (λ y. runs.LeavesAlone (outlined y) g) run.tail.outlines.items)
        (sym plain_later) one.alone.tail))

    -- where none of the table came there, no later header goes through it
    passes : a.own ≡ [] → All (λ y. GoesThrough table y.edit → ⊥) a.later
    passes none = by found.block.table refl
      where
        by : (o : Option (List Part)) → found.block.table ≡ o → All (λ y. GoesThrough table y.edit → ⊥) a.later
        by None is =
            none_go table keys_are now.profile ends_later.0 a.later ends_later.1
            (none_through table keys_are found.after a.later a.rest (found.last is).1)
        by (Some other) is =
            absurd (omega (arith, (a.one.below other is).some, ap (λ (us : List EndEdit). length us) none))

    comes : ComesBelow tree a.upper a.h a.own a.later table e
    comes = record {
      through = goes_through;
      into = into_table;
      passes = passes;
      others = All-append (λ y. IsNotOf table y.seen) a.upper (a.h ∷ a.later) others_above
          (All-cons (λ y. IsNotOf table y.seen) a.h a.later other_header others_later);
      alone = alone_later;
      first = begin_with found.after a.later a.rest;
    }

    known_first : (first : Option (List ℕ)) × (EndsLeave first tree (a.upper ++ a.h ∷ a.own ++ a.later)
        × LeavesFirstAtEnd first later.new)
    known_first =
        ends_leave now h.tree h.read changes tree b.made.read placed_here.0 (a.upper ++ a.h ∷ a.own ++ a.later)
        (subst (All (λ (y : EndEdit). LeavesEndHere now y.new)) a.is t.leave) later.new one.inserted.leaves.1

    abbrev new_bytes : List ℕ
    new_bytes = written_below tree w.value (brings_later.text ∷ brings_later.more) later.new a.own

    abbrev its_end : EndEdit
    its_end = record { edit = e; seen = its_later; new = new_bytes }

    put_below : IsMadeBelow now.profile limit tree upper a.later its_end
    put_below =
        end_goes_on_below end_comes_later now.profile limit tree a.upper a.h a.own a.later w.path w.value later
        b.run.editable ends brings_later
        (subst (λ (q : List Part). ComesBelow tree a.upper a.h a.own a.later q e) (sym holder_later) comes)
        known_first.0 known_first.1.0 known_first.1.1

    -- ---- what it writes

    newline_same : newline_of h.tree ≡ newline_of tree
    newline_same =
        sym (newline_stays now.profile limit h.tree tree (editable now h.tree h.read) b.run.editable changes b.run.text
        left_here)

    -- the line alone, by the document after the edits elsewhere
    line_here : (l : TextChange) → BringsLine now.profile limit h.tree w.path w.value l
        → l.new ≡ keyed_text (brings_later.text ∷ brings_later.more) w.value ++ (newline_of tree).text
    line_here l line =
        let own : w.path ≡ holder w.path (mentions_in h.tree) ++ map key (line.brings.text ∷ line.brings.more) =
        line.brings.new in
        let keys : line.brings.text ∷ line.brings.more ≡ brings_later.text ∷ brings_later.more =
        same_keys (line.brings.text ∷ line.brings.more) (brings_later.text ∷ brings_later.more)
        (same_behind (holder w.path (mentions_in h.tree)) (holder w.path (mentions_in tree))
        (map key (line.brings.text ∷ line.brings.more)) (map key (brings_later.text ∷ brings_later.more))
        (holder_here ∙ sym holder_later) (sym own ∙ brings_later.new)) in
        line.line
        ∙ ap₂ (λ (ks : List (List ℕ)) (n : Written). keyed_text ks w.value ++ n.text) keys newline_same

    line_is : (l : TextEdit) → AddsLineAlone now x l
        → string_bytes l.new
        ≡ keyed_text (brings_later.text ∷ brings_later.more) w.value ++ (newline_of tree).text
    line_is l k = by (subst (λ (y : Edit). IsEdit y one.makes.edit) k.is one.makes.is)
      where
        by : IsEdit (edit.Insert k.path k.given) one.makes.edit
            → string_bytes l.new
            ≡ keyed_text (brings_later.text ∷ brings_later.more) w.value ++ (newline_of tree).text
        by (v, given, is) =
            let same : law.insert k.path v ≡ law.insert w.path w.value = sym is ∙ w.is in
            let path_is : k.path ≡ w.path = cc in
            let value_is : v ≡ w.value = cc in
            line_here (change_of l)
            (subst₂ (λ (p : List Part) (y : Value). BringsLine now.profile limit h.tree p y (change_of l)) path_is
            value_is (k.adds h.tree h.read v given))

    -- some edits are below the header where its block has a table
    abbrev IsText : List EndEdit → Type 0
    IsText us =
        (written_below tree w.value (brings_later.text ∷ brings_later.more) later.new us ≡ one.inserted.text)
        × IsUtf8 one.inserted.text

    writes : IsText a.own
    writes = by found.block.table refl a.own refl
      where
        by : (o : Option (List Part)) → found.block.table ≡ o → (us : List EndEdit) → a.own ≡ us → IsText us
        by None is [] own =
            let whole : one.inserted.text ≡ string_bytes one.change.new = one.inserted.written.first is in
            (sym whole, subst IsUtf8 (sym whole) (IsUtf8-string_bytes one.change.new))
        by None is (y ∷ us) own = absurd (let no : [] ≡ y ∷ us = sym (a.one.none is) ∙ own in cc)
        by (Some other) is [] own =
            absurd (omega (arith, (a.one.below other is).some, ap (λ (us : List EndEdit). length us) own))
        by (Some other) is (y ∷ us) own =
            let (l, (k, text_is)) = one.inserted.written.next other is in
            (sym (line_is l k) ∙ sym text_is, subst IsUtf8 (sym text_is) (IsUtf8-string_bytes l.new))

    -- ---- with it

    known_end : IsKnownEnd now outlines one.outline next_lines its_end
    known_end = record {
      seen_is = plain_later;
      anew = refl;
      alone = one.alone.edits;
      leaves = subst (LeavesEndHere now) (sym writes.0) one.inserted.leaves.0;
      utf8 = subst IsUtf8 (sym writes.0) writes.1;
      known = tt;
      table = subst (λ (p : List Part). HasTableOf new.lines.headers (without_last p)) (sym first_later)
          one.inserted.lines.here;
    }

    among : IsPutAmong now.profile tree upper a.later e its_end
    among = record {
      allowed = put_below.allowed;
      lawful = put_below.lawful;
      ends = put_below.ends;
      same = put_below.same;
    }

    its_block : IsBlock with_it a.h (a.own ++ its_end ∷ [])
    its_block = record {
      header = by a.one.header;
      seen = a.one.seen;
      none = λ none. absurd (let both : None ≡ Some table = sym none ∙ put.table_is in cc);
      below = λ q is. subst (AreBelow with_it (a.own ++ its_end ∷ []))
          (let both : Some table ≡ Some q = sym put.table_is ∙ is in
          let own : table ≡ q = cc in own) (record {
            some = omega (arith, length-append a.own (its_end ∷ []));
            into = All-push (λ y. IsInto table y.seen) a.own its_end into_table (ap without_last first_later);
            through = subst (λ (ks : List (List ℕ)). GoThrough ks table) (sym keys_same) through;
          });
      text = text_same ∙ ap₂ (λ (p q : List ℕ). p ++ q) a.one.text (sym writes.0)
          ∙ append_assoc a.h.new (written a.own) new_bytes
          ∙ ap (λ (p : List ℕ). a.h.new ++ p) (sym (written_more a.own its_end));
    }
      where
        by : (a.h.edit ≡ law.append_table (keys_of found.block)) ⊎ (a.h.edit ≡ law.append_element (keys_of found.block))
            → (a.h.edit ≡ law.append_table (keys_of with_it)) ⊎ (a.h.edit ≡ law.append_element (keys_of with_it))
        by (inl is) = inl (is ∙ ap law.append_table (sym keys_same))
        by (inr is) = inr (is ∙ ap law.append_element (sym keys_same))

    blocks : AreBlocks new.tail.blocks.items (upper ++ its_end ∷ a.later)
    blocks =
        subst (λ (bs : List Block). AreBlocks bs (upper ++ its_end ∷ a.later)) (sym blocks_are)
        (subst (AreBlocks (found.before ++ with_it ∷ found.after)) same
        (blocks_with found.before with_it found.after a.upper a.h (a.own ++ its_end ∷ []) a.later a.earlier its_block
        a.rest))
      where
        same : a.upper ++ a.h ∷ (a.own ++ its_end ∷ []) ++ a.later ≡ upper ++ its_end ∷ a.later
        same =
            ap (λ (us : List EndEdit). us ++ a.later) (sym (append_assoc a.upper (a.h ∷ a.own) (its_end ∷ [])))
            ∙ append_assoc upper (its_end ∷ []) a.later

    tail_with : IsTailTo s edits (suc end) old now tree outlines changes next_lines new.tail
    tail_with =
        tail_more s edits end old now tree outlines changes run.lines next_lines run.tail new.tail t b.run.editable
        (b.run.text ∙ ap (λ (bytes : List ℕ). text_with 0 bytes changes) (sym h.read.reads.spelled)) b.made.read.utf8
        d x lt here one.outline e (subst (IsEdit x) w.is one.makes.is) upper a.later its_end a.is
        among known_end one.inserted.lines.more one.inserted.outlines blocks

  -- ---- in all

  end_clear : IsClear now run → IsEndClear now changes
  end_clear (inr clear) = clear
  end_clear (inl none) =
      absurd (omega (
        arith,
        ap (λ (bs : List Block). length bs) (sym none ∙ found.is),
        length-append found.before (found.block ∷ found.after),
      ))

  pub puts_below : AreMadeIn edits first (suc end) now new
  puts_below =
      let more : HasMore run.lines.headers new.lines.headers = one.inserted.lines.more in
      with_parts edits first (suc end) now new run.so_far next_lines run.gone one.same one.inserted.lines.rest one.gone
      (record {
        own = so_far.own;
        begins = so_far.begins;
        low = so_far.low;
        no_headers = so_far.no_headers;
        base = same_base run.lines new.lines.headers more so_far.own first (length so_far.own) now outlines changes
            run.gone so_far.base;
        whole = λ s old h.
            subst (λ (y : Document). IsTailTo s edits (suc end) old now y outlines changes next_lines new.tail)
            (sym (same_tree run.lines new.lines.headers more so_far.own first (length so_far.own) now outlines changes
            run.gone so_far.base s old h)) (tail_with s old h);
        clear = λ accepted. inr (end_clear (so_far.clear accepted));
      })
