-- Edits that are made at once, of which one follows a header that another brings: its line alone comes, behind what
-- comes at that byte.
--
-- Right after the header was brought its table is open, and the insert, which would bring that header too, adds its
-- line behind what came (`behind_header`, by BroughtOpens); keys and newline are those of the first document, as both
-- documents give the insert the same text (BroughtTexts). After another edit it does so still (`behind_still`): no edit
-- takes the byte before, and no header comes there again. So it adds its line after all edits (`goes_on_with`, over the
-- edits), and with it they are a run (`run_with_line`): what comes at that byte later can't be a line of a table that
-- dotted keys make, since one comes there that has a header by the first document.
--
-- Theorems: `run_behind`: the run, in which such inserts add their lines; `follows_now`: so does one more; `made_now`:
-- each edit makes its change after those before it; `run_goes_on_behind`; `not_both`: an insert that makes its change
-- follows no header.
use Rattle.std.proofs.Common.{◌≡◌, ◌≢◌, ◌⊎◌, ◌+◌, ℕ, zero, suc, List, [], ◌∷◌, ◌++◌, length, All, refl, sym, ap, ap₂}
use Rattle.std.proofs.Common.{subst, ◌∙◌, arith, inl, inr, false}
use Rattle.std.specs.Prelude.{Any, IsTrue}
use Rattle.std.specs.List.{list_any}
use Rattle.std.proofs.lemmas.Bool.{le-ltb}
use Rattle.std.proofs.lemmas.List.Elements.{All-head, All-tail, All-weaker}
use Rattle.keep_types.specs.declared.leaf.Profile.{Profile}
use Rattle.keep_syntax.specs.Tree.{Document, Value, text}
use Rattle.keep_path.specs.Path.{Part, without_last}
use Rattle.keep_meaning.specs.Meaning.{mentions_in}
use Rattle.keep_edit_spec.specs.AddedLines.{AddsLine, AddsLineStill, first_new}
use Rattle.keep_edit_spec.specs.BroughtHeaders.{BringsHeader}
use Rattle.keep_edit_spec.specs.Edits.{Edit, append_element, append_table, edited_document, insert, remove, rename, set}
use Rattle.keep_edit_spec.specs.InsertKinds.{Added, IsAfterAs, IsAfterLine, IsHeaderAt, added_as, kind_of, table_of}
use Rattle.keep_edit_spec.specs.Insertion.{keyed_text}
use Rattle.keep_edit_spec.specs.Laws.{IsEditable}
use Rattle.keep_edit_spec.specs.Lines.{newline_of}
use Rattle.keep_edit_spec.specs.Look.{holder}
use Rattle.keep_edit_spec.specs.RunLists.{AreAtOnce, Follows, FollowsHeader, KeepsBehind, MadeEdit, MakesInPlace}
use Rattle.keep_edit_spec.specs.RunLists.{RunGoesOnBehind, changes_of, document_after, lines_of, seen_of}
use Rattle.keep_edit_spec.specs.Runs.{ComesInOrder, IsRun, IsRunLonger, KeepsPlace, LeavesAlone, LetsTable}
use Rattle.keep_edit_spec.specs.Runs.{LeaveNewline, IsBeforeHeaders, IsSeenStill, LetsCome, MakesChange, PassesBy}
use Rattle.keep_edit_spec.specs.Runs.{is_insert, seen, takes_up_to, with_line}
use Rattle.keep_edit_spec.specs.TextChanges.{IsBeside, TextChange, change_at, moved_by, moved_by_all, moved_past}
use Rattle.keep_edit_spec.specs.TextChanges.{with_change}
use Rattle.keep_edit_spec.specs.declared.line_kind.LineKind.{LineKind}
use Rattle.keep_edit_spec.specs.declared.line_kind.LineKind.TheVariants.{LastInBody, OfDotted, WithHeader}
use Rattle.keep_edit_spec.proofs.Lists.AddedKeys.{same_keys}
use Rattle.keep_edit_spec.proofs.Lists.BroughtOpens.{opens_table}
use Rattle.keep_edit_spec.proofs.Lists.BroughtTexts.{keys_alike, more_than_line, newline_alike}
use Rattle.keep_edit_spec.proofs.Lists.LineKinds.{as_of_kind, keys_of_line, kind_is, table_is}
use Rattle.keep_edit_spec.proofs.Lists.MadeChanges.{change_is_there, within_text}
use Rattle.keep_edit_spec.proofs.Lists.PlacesBefore.{behind_before, placed_before}
use Rattle.keep_edit_spec.proofs.Lists.PlacesKept.{IsPlacedChange, change_placed, stays_behind, stays_placed}
use Rattle.keep_edit_spec.proofs.Lists.RunLaws.{later_placed, none_is_run, run_goes_on, same_seen, seen_on}
use Rattle.keep_edit_spec.proofs.Lists.RunLaws.{text_with_change}
use Rattle.keep_edit_spec.proofs.Lists.TextChanges.{begins_at_one, moved_with, one_of_all, rest_of_all}
use Rattle.keep_edit_spec.proofs.Lists.TextsAfter.{IsTextAfter, of_run}

-- ---- right behind the header

-- a document after edits, in which the insert of the header and that which follows it would each bring the header
module _ (profile : Profile) (limit : ℕ) (s : Document) (changes : List TextChange) (now : Document)
    (r : IsTextAfter profile limit s changes now) (lines : List Added) (path : List Part) (value : Value)
    (c : TextChange) (f : FollowsHeader profile limit s lines path value c)
    (k : BringsHeader profile limit now path value (moved_past changes f.alone.whole))
    (first : first_new now path ≡ first_new s path) (right : All (λ x. IsBeside x c) changes) where
  table_here : table_of (added_as s path c) ≡ holder path (mentions_in s)
  table_here =
      table_is profile limit s path value c
      (keys_of_line WithHeader profile limit s path value f.alone.whole f.alone.brings)

  table_there : table_of (added_as now path c) ≡ holder path (mentions_in now)
  table_there =
      table_is profile limit now path value c
      (keys_of_line WithHeader profile limit now path value (moved_past changes f.alone.whole) k)

  line_is : keyed_text (k.text ∷ k.more) value ++ (newline_of now).text ≡ c.new
  line_is =
      ap₂ (λ (ks : List (List ℕ)) (t : List ℕ). keyed_text ks value ++ t)
      (sym (keys_alike profile limit s now path value f.alone.whole (moved_past changes f.alone.whole) f.alone.brings
      k refl first))
      (sym (newline_alike profile limit s now path value f.alone.whole (moved_past changes f.alone.whole) f.alone.brings
      k refl first))
      ∙ sym f.alone.line

  module _ (other : List Part) (new : Value) (d : TextChange)
      (h : BringsHeader profile limit now other new (moved_past changes d))
      (first_other : first_new now other ≡ first_new s other) (left : All (λ x. IsBeside x d) changes)
      (at : d.at ≡ c.at) (table : table_of (added_as s other d) ≡ holder path (mentions_in s))
      (apart : first_new s other ≢ first_new s path) where
    same_table : holder other (mentions_in now) ≡ holder path (mentions_in now)
    same_table =
        sym (table_is profile limit now other new d
        (keys_of_line WithHeader profile limit now other new (moved_past changes d) h))
        ∙ ap without_last first_other ∙ table ∙ sym table_here ∙ ap without_last (sym first) ∙ table_there

    abbrev behind : TextChange
    behind = moved_past (with_change changes d) c

    place : change_at ((moved_past changes d).at + length d.new) 0
        (keyed_text (k.text ∷ k.more) value ++ (newline_of now).text) ≡ behind
    place =
        let there : ℕ = moved_by_all changes c.at in
        let same : moved_by_all changes d.at ≡ there = ap (moved_by_all changes) at in
        let past : moved_by (moved_past changes d) there ≡ (moved_past changes d).at + length d.new =
        rw (le-ltb there (moved_by_all changes d.at) (omega (arith, same))) (omega (arith, same, h.adds)) in
        sym (moved_with changes d c r.follow left right (inl (omega (arith, at, h.adds)))
        ∙ ap₂ (λ (n m : ℕ). change_at n m c.new) past f.alone.adds
        ∙ ap (change_at ((moved_past changes d).at + length d.new) 0) (sym line_is))

    behind_header : AddsLineStill profile limit s (edited_document now (insert other new)) path value behind
    behind_header =
        let (adds, still) =
        opens_table profile limit now other new (moved_past changes d) path value (moved_past changes f.alone.whole)
        r.editable h k same_table (λ same. apart (sym first_other ∙ same ∙ first)) in (
          subst (AddsLine profile limit (edited_document now (insert other new)) path value) place adds,
          still ∙ first,
        )

-- ---- after another edit

not_header : LastInBody ≢ WithHeader
not_header same = absurd cc

module _ (profile : Profile) (limit : ℕ) (s : Document) (edits : List Edit) (changes : List TextChange)
    (lines : List Added) (now : Document) (r : IsTextAfter profile limit s changes now) (e : Edit) (c : TextChange)
    (there : IsPlacedChange s e c) (left : All (λ x. IsBeside x c) changes)
    (is_now : MakesChange profile limit now e (moved_past changes c)) (same : seen now e ≡ seen s e) (path : List Part)
    (value : Value) (d : TextChange) (adds : AddsLineStill profile limit s now path value (moved_past changes d))
    (beside : All (λ x. IsBeside x d) (with_change changes c)) where
  right : All (λ x. IsBeside x d) changes
  right = rest_of_all (λ x. IsBeside x d) changes c beside

  last_there : kind_of now path ≡ LastInBody
  last_there = kind_is LastInBody profile limit now path value (moved_past changes d) adds.0

  -- the other edit brings no header to the same place
  abbrev BringsNone : Type 0
  BringsNone =
      (other : List Part) (new : Value) → e ≡ insert other new → c.at ≡ d.at → kind_of now other ≢ WithHeader

  line_in_order : BringsNone → ComesInOrder now (insert path value) (moved_past changes d) e (moved_past changes c)
  line_in_order none = by e refl
    where
      by : (f : Edit) → e ≡ f
          → ComesInOrder now (insert path value) (moved_past changes d) f (moved_past changes c)
      by (insert other new) is =
          subst (λ (a : LineKind). IsAfterAs a (added_as now other (moved_past changes c))
          (added_as now path (moved_past changes d))) (sym last_there)
          (λ at. none other new is (begins_at_one changes c d r.follow left right at))
      by (set other new) is = tt
      by (rename other name) is = tt
      by (remove other) is = tt
      by (append_table keys) is = λ head. absurd (not_header (sym last_there ∙ head))
      by (append_element keys) is = λ head. absurd (not_header (sym last_there ∙ head))

  behind_still : BringsNone → LeavesAlone (seen s e) (seen s (insert path value))
      → KeepsBehind s (seen s e ∷ edits) (with_change changes c) d
      → AddsLineStill profile limit s (edited_document now e) path value (moved_past (with_change changes c) d)
  behind_still none alone keeps =
      let next : IsTextAfter profile limit s (with_change changes c) (edited_document now e) =
      text_with_change profile limit s changes now e c r there left is_now in
      let (makes, seen_then) =
      later_placed profile limit s changes now e c r there left is_now (insert path value) d same
      (LastInBody, adds.0) (ap (λ (p : List Part). insert p value) adds.1) alone beside (
        stays_behind profile limit s edits changes lines now r e c path value d there left right
            (one_of_all (λ x. IsBeside x d) changes c beside) next keeps,
        line_in_order none,
      ) in (
        as_of_kind LastInBody profile limit (edited_document now e) path value (moved_past (with_change changes c) d)
            (seen_then.1 ∙ last_there) makes,
        seen_then.0 ∙ adds.1,
      )

-- ---- the edits

-- Any such insert adds its line after these edits.
abbrev LetsFollow : Profile → ℕ → Document → List Edit → List TextChange → List Added → Document → Type 0
LetsFollow profile limit s edits changes lines now =
    (path : List Part) (value : Value) (c : TextChange) → FollowsHeader profile limit s lines path value c
    → All (λ e. LeavesAlone e (seen s (insert path value))) edits → All (λ x. IsBeside x c) changes
    → KeepsBehind s edits changes c → AddsLineStill profile limit s now path value (moved_past changes c)

-- one of the others
pub any_rest : (P : Added → Type 0) (l : Added) (ls : List Added) → Any P (l ∷ ls) → P l ⊎ Any P ls
any_rest P l ls (zero, line, few, same, holds) = inl (subst P (sym same) holds)
any_rest P l ls (suc n, line, few, same, holds) = inr (n, line, omega (arith, few), same, holds)

any_weaker : (P Q : Added → Type 0) → ((l : Added) → P l → Q l) → (ls : List Added) → Any P ls → Any Q ls
any_weaker P Q on ls (n, line, few, same, holds) = (n, line, few, same, on line holds)

-- a header that is asked to come after all of these lines comes to no byte at which one of them has its header
header_apart : (l : Added) (at : ℕ) (table : List Part) (lines : List Added)
    → Any (λ m. IsHeaderAt at m × (table_of m ≡ table)) lines → All (λ m. IsAfterLine m l) lines → l.at ≡ at
    → l.kind ≢ WithHeader
header_apart l at table lines (n, m, few, same, ((there, head), own)) after here is =
    let apart : IsAfterAs WithHeader m l =
    subst (λ (a : LineKind). IsAfterAs a m l) is (subst (λ (x : Added). IsAfterLine x l) same (after n m few)) in
    (apart head).0 (there ∙ sym here)

-- ---- one edit more

module _ (profile : Profile) (limit : ℕ) (s : Document) (edits : List Edit) (changes : List TextChange)
    (lines : List Added) (now : Document) (run : IsRun profile limit s edits changes lines now)
    (lets : LetsFollow profile limit s edits changes lines now) where
  abbrev r : IsTextAfter profile limit s changes now
  r = of_run profile limit s edits changes lines now run

  -- one that goes on, whose header came before the last edit
  abbrev GoesOn : Edit → TextChange → List Part → Value → TextChange → Type 0
  GoesOn e c path value d =
      All (λ f. LeavesAlone f (seen s (insert path value))) (seen s e ∷ edits)
      → All (λ x. IsBeside x d) (with_change changes c) → KeepsBehind s (seen s e ∷ edits) (with_change changes c) d
      → AddsLineStill profile limit s (edited_document now e) path value (moved_past (with_change changes c) d)

  header_before : (e : Edit) (c : TextChange) → IsPlacedChange s e c → All (λ x. IsBeside x c) changes
      → MakesChange profile limit now e (moved_past changes c) → seen now e ≡ seen s e
      → (path : List Part) (value : Value) (d : TextChange) → FollowsHeader profile limit s lines path value d
      → ((other : List Part) (new : Value) → e ≡ insert other new → c.at ≡ d.at → kind_of now other ≢ WithHeader)
      → GoesOn e c path value d
  header_before e c there left is_now same path value d f none alone beside keeps =
      let its : Edit = seen s (insert path value) in
      behind_still profile limit s edits changes lines now r e c there left is_now same path value d
      (lets path value d f (All-tail (λ x. LeavesAlone x its) (seen s e) edits alone)
      (rest_of_all (λ x. IsBeside x d) changes c beside)
      (behind_before s (seen s e ∷ edits) edits (λ P. All-tail P (seen s e) edits) lines lines (λ P h. h) changes c d
      keeps)) beside none (All-head (λ x. LeavesAlone x its) (seen s e) edits alone) keeps

  -- ---- one that makes its change

  module _ (other : List Part) (new : Value) (c : TextChange)
      (makes : MakesChange profile limit s (insert other new) c)
      (alone : All (λ f. LeavesAlone f (seen s (insert other new))) edits) (left : All (λ x. IsBeside x c) changes)
      (placed : KeepsPlace s edits changes lines (insert other new) c) (path : List Part) (value : Value)
      (d : TextChange) (f : FollowsHeader profile limit s (added_as s other c ∷ lines) path value d)
      (there : IsHeaderAt d.at (added_as s other c))
      (table : table_of (added_as s other c) ≡ holder path (mentions_in s)) where
    abbrev own : Added
    own = added_as s other c

    abbrev its : Added
    its = added_as s path f.alone.whole

    at : own.at ≡ its.at
    at = there.0 ∙ f.alone.at

    tables : table_of own ≡ table_of its
    tables =
        table
        ∙ sym (table_is profile limit s path value f.alone.whole
        (keys_of_line WithHeader profile limit s path value f.alone.whole f.alone.brings))

    kind : its.kind ≡ WithHeader
    kind = kind_is WithHeader profile limit s path value f.alone.whole f.alone.brings

    after_its : (l : Added) → IsAfterLine l own → IsAfterLine l its
    after_its l after =
        let apart : IsAfterAs WithHeader l own = subst (λ (a : LineKind). IsAfterAs a l own) there.1 after in
        subst (λ (a : LineKind). IsAfterAs a l its) (sym kind)
        (λ head. (λ same. (apart head).0 (same ∙ sym at), λ same. (apart head).1 (same ∙ sym tables)))

    passes : (e : Edit) → LetsTable own e → LetsTable its e
    passes (insert p v) h = tt
    passes (set p v) h = tt
    passes (rename p n) h = tt
    passes (remove p) h = tt
    passes (append_table keys) h = λ head. subst (PassesBy keys) tables (h there.1)
    passes (append_element keys) h = λ head. subst (PassesBy keys) tables (h there.1)

    -- it would have its place before the header, too
    whole_placed : KeepsPlace s edits changes lines (insert path value) f.alone.whole
    whole_placed = (
      record {
        after = All-weaker (λ l. IsAfterLine l own) (λ l. IsAfterLine l its) after_its lines placed.0.after;
        stays = λ last. subst (λ (n : ℕ). list_any (takes_up_to n) changes ≡ false) at
            (placed.0.stays (λ is. not_header (sym is ∙ there.1)));
        passed = All-weaker (LetsTable own) (LetsTable its) passes edits placed.0.passed;
      },
      subst (λ (n : ℕ). All (λ e. IsTrue (is_insert e)) edits
          ⊎ (LeaveNewline s changes
          × (All (LetsCome (text s) changes n) changes × IsBeforeHeaders (text s) edits n))) at placed.1,
    )

    beside_whole : (x : TextChange) → IsBeside x d → IsBeside x f.alone.whole
    beside_whole x (inl ends) = inl (omega (arith, ends, f.alone.at))
    beside_whole x (inr (less, ends)) =
        inr (omega (arith, less, f.alone.at), omega (arith, ends, f.alone.at, f.alone.adds, f.alone.brings.adds))

    header_here : GoesOn (insert other new) c path value d
    header_here alone' beside keeps =
        let e : Edit = seen s (insert path value) in
        let right : All (λ x. IsBeside x d) changes = rest_of_all (λ x. IsBeside x d) changes c beside in
        let (is_now, seen_now) = run.later (insert other new) c makes alone left placed in
        let (whole_now, seen_whole) =
        run.later (insert path value) f.alone.whole (WithHeader, f.alone.brings)
        (All-tail (λ x. LeavesAlone x e) (seen s (insert other new)) edits alone')
        (All-weaker (λ x. IsBeside x d) (λ x. IsBeside x f.alone.whole) beside_whole changes right) whole_placed in
        behind_header profile limit s changes now r (own ∷ lines) path value d f
        (as_of_kind WithHeader profile limit now path value (moved_past changes f.alone.whole) (seen_whole.1 ∙ kind)
        whole_now)
        seen_whole.0 right other new c
        (as_of_kind WithHeader profile limit now other new (moved_past changes c) (seen_now.1 ∙ there.1) is_now)
        seen_now.0 left there.0 table (All-head (λ x. LeavesAlone x e) (seen s (insert other new)) edits alone')

  -- the insert that follows, where the header came before the last edit
  earlier : (path : List Part) (value : Value) (d : TextChange) (all : List Added)
      → FollowsHeader profile limit s all path value d
      → Any (λ l. IsHeaderAt d.at l × (table_of l ≡ holder path (mentions_in s))) lines
      → FollowsHeader profile limit s lines path value d
  earlier path value d all f header =
      record { alone = f.alone; header = header }

  lets_made : (e : Edit) (c : TextChange) → MakesChange profile limit s e c
      → All (λ f. LeavesAlone f (seen s e)) edits → All (λ x. IsBeside x c) changes
      → KeepsPlace s edits changes lines e c
      → LetsFollow profile limit s (seen s e ∷ edits) (with_change changes c) (with_line s e c lines)
      (edited_document now e)
  lets_made e c makes alone left placed path value d f = by e makes alone placed f
    where
      -- the last edit adds no line
      other_edit : (g : Edit) → MakesChange profile limit s g c → All (λ x. LeavesAlone x (seen s g)) edits
          → KeepsPlace s edits changes lines g c → FollowsHeader profile limit s lines path value d
          → ((other : List Part) (new : Value) → g ≡ insert other new → c.at ≡ d.at → kind_of now other ≢ WithHeader)
          → GoesOn g c path value d
      other_edit g its apart place before none =
          let (is_now, seen_now) = run.later g c its apart left place in
          header_before g c (change_placed profile limit s g c run.first its) left is_now (same_seen s now g seen_now)
          path value d before none

      by : (g : Edit) → MakesChange profile limit s g c → All (λ x. LeavesAlone x (seen s g)) edits
          → KeepsPlace s edits changes lines g c
          → FollowsHeader profile limit s (with_line s g c lines) path value d → GoesOn g c path value d
      by (insert other new) its apart place f =
          elim (any_rest (λ l. IsHeaderAt d.at l × (table_of l ≡ holder path (mentions_in s))) (added_as s other c)
          lines f.header) [
            | inl (there, table) ↦ header_here other new c its apart left place path value d f there table
            | inr header ↦
                other_edit (insert other new) its apart place
                (earlier path value d (added_as s other c ∷ lines) f header)
                (λ p v is at head.
                (let same : other ≡ p = cc in
                header_apart (added_as s other c) d.at (holder path (mentions_in s)) lines header place.0.after at
                (sym (run.later (insert other new) c its apart left place).1.1
                ∙ ap (kind_of now) same ∙ head)))
          ]
      by (set other new) its apart place f = other_edit (set other new) its apart place f (λ p v is at head. absurd cc)
      by (rename other name) its apart place f =
          other_edit (rename other name) its apart place f (λ p v is at head. absurd cc)
      by (remove other) its apart place f = other_edit (remove other) its apart place f (λ p v is at head. absurd cc)
      by (append_table keys) its apart place f =
          other_edit (append_table keys) its apart place f (λ p v is at head. absurd cc)
      by (append_element keys) its apart place f =
          other_edit (append_element keys) its apart place f (λ p v is at head. absurd cc)

  -- ---- one that follows a header

  module _ (other : List Part) (new : Value) (c : TextChange)
      (follows : FollowsHeader profile limit s lines other new c)
      (alone : All (λ f. LeavesAlone f (seen s (insert other new))) edits) (left : All (λ x. IsBeside x c) changes)
      (keeps : KeepsBehind s edits changes c) where
    abbrev e : Edit
    e = insert other new

    adds : AddsLineStill profile limit s now other new (moved_past changes c)
    adds = lets other new c follows alone left keeps

    is_now : MakesChange profile limit now e (moved_past changes c)
    is_now = (LastInBody, adds.0)

    same : seen now e ≡ seen s e
    same = ap (λ (p : List Part). insert p new) adds.1

    last_now : kind_of now other ≡ LastInBody
    last_now = kind_is LastInBody profile limit now other new (moved_past changes c) adds.0

    head_here : kind_of s other ≡ WithHeader
    head_here = kind_is WithHeader profile limit s other new follows.alone.whole follows.alone.brings

    placed_here : IsPlacedChange s e c
    placed_here = record {
      within = omega (
        arith,
        within_text profile limit s (insert other new) follows.alone.whole run.first (WithHeader, follows.alone.brings),
        follows.alone.at,
        follows.alone.adds,
        follows.alone.brings.adds,
      );
      takes = λ line. absurd cc;
    }

    lets_followed : LetsFollow profile limit s (seen s e ∷ edits) (with_change changes c) (added_as s other c ∷ lines)
        (edited_document now e)
    lets_followed path value d f =
        let P : Added → Type 0 = λ l. IsHeaderAt d.at l × (table_of l ≡ holder path (mentions_in s)) in
        header_before e c placed_here left is_now same path value d
        (earlier path value d (added_as s other c ∷ lines) f
        (elim (any_rest P (added_as s other c) lines f.header) [
          | inl (there, table) ↦
              any_weaker (λ l. IsHeaderAt c.at l × (table_of l ≡ holder other (mentions_in s))) P
              (λ l h. ((h.0.0 ∙ there.0, h.0.1), h.1 ∙ sym own_table ∙ table)) lines follows.header
          | inr header ↦ header
        ]))
        (λ p v is at head.
        (let own : other ≡ p = cc in not_header (sym last_now ∙ ap (kind_of now) own ∙ head)))
      where
        own_table : table_of (added_as s other c) ≡ holder other (mentions_in s)
        own_table =
            table_is profile limit s other new c
            (keys_of_line WithHeader profile limit s other new follows.alone.whole follows.alone.brings)

    -- the line comes in order before another edit
    in_order : (f : Edit) (d : TextChange) → IsSeenStill s now f → All (λ x. IsBeside x d) changes
        → KeepsPlace s (seen s e ∷ edits) (with_change changes c) (added_as s other c ∷ lines) f d
        → ComesInOrder now f (moved_past changes d) e (moved_past changes c)
    in_order (insert path value) d seen_f right k =
        subst (λ (a : LineKind). IsAfterAs a here there) (sym seen_f.1)
        (by (kind_of s path) (All-head (λ l. IsAfterLine l (added_as s path d)) (added_as s other c) lines k.0.after))
      where
        here : Added
        here = added_as now other (moved_past changes c)

        there : Added
        there = added_as now path (moved_past changes d)

        by : (a : LineKind) → IsAfterAs a (added_as s other c) (added_as s path d) → IsAfterAs a here there
        by LastInBody h = λ at head. not_header (sym last_now ∙ head)
        by OfDotted h = λ at.
            let dotted = (h (begins_at_one changes c d run.follow left right at)).0 in
            let both : OfDotted ≡ WithHeader = sym dotted ∙ head_here in
            absurd cc
        by WithHeader h = λ head. absurd (not_header (sym last_now ∙ head))
    in_order (append_table keys) d seen_f right k = λ head. absurd (not_header (sym last_now ∙ head))
    in_order (append_element keys) d seen_f right k = λ head. absurd (not_header (sym last_now ∙ head))
    in_order (set path value) d seen_f right k = tt
    in_order (rename path name) d seen_f right k = tt
    in_order (remove path) d seen_f right k = tt

    run_with_line : IsRun profile limit s (seen s e ∷ edits) (with_change changes c) (added_as s other c ∷ lines)
        (edited_document now e)
    run_with_line =
        let after : IsTextAfter profile limit s (with_change changes c) (edited_document now e) =
        text_with_change profile limit s changes now e c r placed_here left is_now in
        record {
          first = after.first;
          editable = after.editable;
          follow = after.follow;
          text = after.text;
          kept = after.kept;
          later = λ f d makes alone' beside placed.
              let right : All (λ x. IsBeside x d) changes = rest_of_all (λ x. IsBeside x d) changes c beside in
              let (makes_now, seen_f) =
              run.later f d makes (All-tail (λ x. LeavesAlone x (seen s f)) (seen s e) edits alone') right
              (placed_before s (seen s e ∷ edits) edits (λ P. All-tail P (seen s e) edits) (added_as s other c ∷ lines)
              lines (λ P. All-tail P (added_as s other c) lines) changes c f d placed) in
              let (still, seen_then) =
              later_placed profile limit s changes now e c r placed_here left is_now f d same makes_now
              (same_seen s now f seen_f) (All-head (λ x. LeavesAlone x (seen s f)) (seen s e) edits alone') beside (
                stays_placed profile limit s edits changes lines now r e c f d placed_here seen_f left right
                    (one_of_all (λ x. IsBeside x d) changes c beside) after placed,
                in_order f d seen_f right placed,
              ) in
              (still, seen_on s now (edited_document now e) f seen_f seen_then);
        }

    longer : IsRunLonger profile limit s edits changes lines now e c
    longer = record {
      allowed = adds.0.allowed;
      is = change_is_there profile limit now e (moved_past changes c) run.editable is_now;
      run = run_with_line;
    }

-- ---- all edits

-- The edits are a run, in which an insert that follows a header adds its line.
pub record IsRunBehind (profile : Profile) (limit : ℕ) (s : Document) (edits : List Edit) (changes : List TextChange)
    (lines : List Added) (now : Document) : Type 0 where
  pub run : IsRun profile limit s edits changes lines now
  lets : LetsFollow profile limit s edits changes lines now

goes_on_with : (profile : Profile) (limit : ℕ) (s : Document) (edits : List Edit) (changes : List TextChange)
    (lines : List Added) (now : Document) (e : Edit) (c : TextChange)
    → IsRunBehind profile limit s edits changes lines now → MakesInPlace profile limit s edits changes lines e c
    → All (λ f. LeavesAlone f (seen s e)) edits → All (λ x. IsBeside x c) changes
    → IsRunBehind profile limit s (seen s e ∷ edits) (with_change changes c) (with_line s e c lines)
    (edited_document now e)
goes_on_with profile limit s edits changes lines now e c before (inl (makes, placed)) alone left = record {
  run = (run_goes_on profile limit s edits changes lines now e c before.run makes alone left placed).run;
  lets = lets_made profile limit s edits changes lines now before.run before.lets e c makes alone left placed;
}
goes_on_with profile limit s edits changes lines now (insert path value) c before (inr (follows, keeps)) alone left =
    record {
      run = run_with_line profile limit s edits changes lines now before.run before.lets path value c follows alone left
          keeps;
      lets = lets_followed profile limit s edits changes lines now before.run before.lets path value c follows alone
          left keeps;
    }
goes_on_with profile limit s edits changes lines now (set path value) c before (inr (f, keeps)) alone left = absurd f
goes_on_with profile limit s edits changes lines now (rename path name) c before (inr (f, keeps)) alone left =
    absurd f
goes_on_with profile limit s edits changes lines now (remove path) c before (inr (f, keeps)) alone left = absurd f
goes_on_with profile limit s edits changes lines now (append_table keys) c before (inr (f, keeps)) alone left =
    absurd f
goes_on_with profile limit s edits changes lines now (append_element keys) c before (inr (f, keeps)) alone left =
    absurd f

pub run_behind : (profile : Profile) (limit : ℕ) (s : Document) (ms : List MadeEdit) → IsEditable profile limit s
    → AreAtOnce profile limit s ms
    → IsRunBehind profile limit s (seen_of s ms) (changes_of ms) (lines_of s ms) (document_after s ms)
run_behind profile limit s [] fine h = record {
  run = none_is_run profile limit s fine;
  lets = λ path value c f alone beside keeps. (let none = f.header.2 in absurd (omega (arith, none)));
}
run_behind profile limit s (m ∷ ms) fine (makes, (alone, (beside, others))) =
    goes_on_with profile limit s (seen_of s ms) (changes_of ms) (lines_of s ms) (document_after s ms) m.edit m.change
    (run_behind profile limit s ms fine others) makes alone beside

pub run_goes_on_behind : RunGoesOnBehind
run_goes_on_behind profile limit s ms path value c fine h follows alone beside keeps =
    let before = run_behind profile limit s ms fine h in
    longer profile limit s (seen_of s ms) (changes_of ms) (lines_of s ms) (document_after s ms) before.run before.lets
    path value c follows alone beside keeps

-- such an insert adds its line at the end of the body of its table, whose header is there after the edits
pub follows_now : (profile : Profile) (limit : ℕ) (s : Document) (ms : List MadeEdit) (path : List Part)
    (value : Value) (c : TextChange)
    → IsEditable profile limit s → AreAtOnce profile limit s ms
    → FollowsHeader profile limit s (lines_of s ms) path value c
    → All (λ e. LeavesAlone e (seen s (insert path value))) (seen_of s ms)
    → All (λ d. IsBeside d c) (changes_of ms) → KeepsBehind s (seen_of s ms) (changes_of ms) c
    → AddsLineStill profile limit s (document_after s ms) path value (moved_past (changes_of ms) c)
follows_now profile limit s ms path value c fine h follows alone beside keeps =
    (run_behind profile limit s ms fine h).lets path value c follows alone beside keeps

-- after those before it each edit makes its change, as others see it
pub made_now : (profile : Profile) (limit : ℕ) (s : Document) (m : MadeEdit) (ms : List MadeEdit)
    → IsEditable profile limit s → AreAtOnce profile limit s (m ∷ ms)
    → MakesChange profile limit (document_after s ms) m.edit (moved_past (changes_of ms) m.change)
    × (seen (document_after s ms) m.edit ≡ seen s m.edit)
made_now profile limit s m ms fine (makes, (alone, (beside, others))) =
    by m.edit m.change makes alone beside
  where
    before : IsRunBehind profile limit s (seen_of s ms) (changes_of ms) (lines_of s ms) (document_after s ms)
    before = run_behind profile limit s ms fine others

    by : (e : Edit) (c : TextChange)
        → MakesInPlace profile limit s (seen_of s ms) (changes_of ms) (lines_of s ms) e c
        → All (λ f. LeavesAlone f (seen s e)) (seen_of s ms) → All (λ x. IsBeside x c) (changes_of ms)
        → MakesChange profile limit (document_after s ms) e (moved_past (changes_of ms) c)
        × (seen (document_after s ms) e ≡ seen s e)
    by e c (inl (its, placed)) apart left =
        let (is_now, seen_now) = before.run.later e c its apart left placed in
        (is_now, same_seen s (document_after s ms) e seen_now)
    by (insert path value) c (inr (follows, keeps)) apart left =
        let adds : AddsLineStill profile limit s (document_after s ms) path value (moved_past (changes_of ms) c) =
        before.lets path value c follows apart left keeps in
        ((LastInBody, adds.0), ap (λ (p : List Part). insert p value) adds.1)
    by (set path value) c (inr (follows, keeps)) apart left = absurd follows
    by (rename path name) c (inr (follows, keeps)) apart left = absurd follows
    by (remove path) c (inr (follows, keeps)) apart left = absurd follows
    by (append_table keys) c (inr (follows, keeps)) apart left = absurd follows
    by (append_element keys) c (inr (follows, keeps)) apart left = absurd follows

-- ---- one or the other

-- What makes its change by the first document brings its header there, and follows none.
pub not_both : (profile : Profile) (limit : ℕ) (s : Document) (lines : List Added) (e : Edit) (c : TextChange)
    → MakesChange profile limit s e c → Follows profile limit s lines e c → ⊥
not_both profile limit s lines (insert path value) c makes f =
    let h : BringsHeader profile limit s path value c =
    as_of_kind WithHeader profile limit s path value c
    (kind_is WithHeader profile limit s path value f.alone.whole f.alone.brings) makes in
    let a : List Part = holder path (mentions_in s) in
    let keys : h.text ∷ h.more ≡ f.alone.brings.text ∷ f.alone.brings.more =
    same_keys path a a (h.text ∷ h.more) (f.alone.brings.text ∷ f.alone.brings.more) h.new f.alone.brings.new refl in
    omega (
      arith,
      more_than_line profile limit s path value c h,
      ap (λ (t : List ℕ). length t) f.alone.line,
      ap (λ (ks : List (List ℕ)). length (keyed_text ks value ++ (newline_of s).text)) keys,
    )
not_both profile limit s lines (set path value) c makes f = f
not_both profile limit s lines (rename path name) c makes f = f
not_both profile limit s lines (remove path) c makes f = f
not_both profile limit s lines (append_table keys) c makes f = f
not_both profile limit s lines (append_element keys) c makes f = f
