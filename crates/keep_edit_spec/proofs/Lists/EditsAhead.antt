-- Edits that are made at once are so still with a line that comes ahead of some of them.
--
-- Those that come behind it are last (GatheredEdits). The line has its place over the others: it comes after their
-- lines (`after`), and none of them appends a header there (`before_headers`). And it goes below those that come behind
-- it: by the kinds of both a line comes after it (`after_before`), and a header passes by its table (`below`).
--
-- Theorem: `still_ahead`.
use Rattle.std.proofs.Common.{◌≡◌, ◌⊎◌, ℕ, Bool, true, false, not, ◌&&◌, List, [], ◌∷◌, ◌++◌, length, All, refl, sym}
use Rattle.std.proofs.Common.{ap, subst, ◌∙◌, arith, inl, inr, get_or}
use Rattle.std.specs.Prelude.{IsTrue, ◌==◌, ◌+◌, nat_lt}
use Rattle.std.specs.List.{list_any}
use Rattle.std.proofs.lemmas.Bool.{and_parts, eq-eqb, eqb-true}
use Rattle.std.proofs.lemmas.List.Elements.{All-cons, All-filter, All-head, All-nil, All-tail, All-weaker}
use Rattle.std.proofs.lemmas.List.Elements.{filter_passes}
use Rattle.std.proofs.lemmas.List.Folds.{list_any_none}
use Rattle.keep_types.specs.declared.leaf.Profile.{Profile}
use Rattle.keep_syntax.specs.Tree.{Document, Value, text}
use Rattle.keep_path.specs.Path.{Part}
use Rattle.keep_edit_spec.specs.Edits.{Edit, append_element, append_table, insert, remove, rename, set}
use Rattle.keep_edit_spec.specs.InsertKinds.{Added, AddsAs, IsAfterAs, IsAfterLine, added_as, kind_of, table_of}
use Rattle.keep_edit_spec.specs.Laws.{IsEditable}
use Rattle.keep_edit_spec.specs.LinesAhead.{ComesAhead, before, behind, comes_before, comes_behind, table_in}
use Rattle.keep_edit_spec.specs.LinesAhead.{with_ahead}
use Rattle.keep_edit_spec.specs.Look.{keys_in}
use Rattle.keep_edit_spec.specs.RunLists.{AreAtOnce, MadeEdit, changes_of, lines_of, made, seen_of}
use Rattle.keep_edit_spec.specs.Runs.{IsBeforeHeaders, IsNoSecond, LeavesAlone, LetsTable, PassesBy, is_header}
use Rattle.keep_edit_spec.specs.Runs.{is_insert, seen, takes_up_to, with_line}
use Rattle.keep_edit_spec.specs.TextChanges.{IsBeside, TextChange}
use Rattle.keep_edit_spec.specs.declared.line_kind.LineKind.{LineKind}
use Rattle.keep_edit_spec.specs.declared.line_kind.LineKind.TheVariants.{LastInBody, OfDotted, WithHeader}
use Rattle.keep_edit_spec.proofs.Lists.BehindLine.{IsBehind, IsNotBehind, below_is, ends_elsewhere}
use Rattle.keep_edit_spec.proofs.Lists.GatheredEdits.{gathered, is_free, none, put_below}
use Rattle.keep_edit_spec.proofs.Lists.LineKinds.{kind_is}
use Rattle.keep_edit_spec.proofs.Lists.OneMoreBelow.{IsBelow, IsFree, LetsUnder, free_moved, let_come}
use Rattle.keep_edit_spec.proofs.Lists.OtherHeader.{apart_differ}
use Rattle.keep_edit_spec.proofs.Lists.OtherOrder.{IsOver, all_sorted, by_changes, by_lines, by_seen, of_changes}
use Rattle.keep_edit_spec.proofs.Lists.OtherOrder.{of_lines, of_seen, own_lines}
use Rattle.keep_edit_spec.specs.FirstNewline.{LeavesNewline}

-- A line comes after one that comes before it by their kinds.
after_before : (l m : Added) → comes_before l.kind (table_of l) m.kind (table_of m) ≡ true → IsAfterLine l m
after_before l m = by l.kind m.kind refl
  where
    by : (a b : LineKind) → l.kind ≡ a → comes_before a (table_of l) b (table_of m) ≡ true → IsAfterAs b l m
    by OfDotted LastInBody is h = λ same head. (let both : OfDotted ≡ WithHeader = sym is ∙ head in absurd cc)
    by OfDotted WithHeader is h = λ head. (let both : OfDotted ≡ WithHeader = sym is ∙ head in absurd cc)
    by LastInBody WithHeader is h = λ head. (let both : LastInBody ≡ WithHeader = sym is ∙ head in absurd cc)
    by OfDotted OfDotted is h = λ same. (is, below_is (table_of l) (table_of m) h)
    by LastInBody OfDotted is h = absurd cc
    by LastInBody LastInBody is h = absurd cc
    by WithHeader b is h = absurd cc

none_true : (b : Bool) → not b ≡ true → b ≡ false
none_true true h = absurd cc
none_true false h = refl

module _ (profile : Profile) (limit : ℕ) (s : Document) (ms : List MadeEdit) (path : List Part) (value : Value)
    (kind : LineKind) (c : TextChange) (fine : IsEditable profile limit s)
    (adds : AddsAs kind profile limit s path value c)
    (alone : All (λ f. LeavesAlone f (seen s (insert path value))) (seen_of s ms))
    (beside : All (λ d. IsBeside d c) (changes_of ms)) (ahead : ComesAhead s ms kind (added_as s path c) c) where
  abbrev e : Edit
  e = insert path value

  abbrev own : MadeEdit
  own = made e c

  abbrev line : Added
  line = added_as s path c

  abbrev table : List Part
  table = table_in s path

  abbrev later : List MadeEdit
  later = behind s kind table c.at ms

  abbrev earlier : List MadeEdit
  earlier = before s kind table c.at ms

  own_kind : kind_of s path ≡ kind
  own_kind = kind_is kind profile limit s path value c adds

  zero_size : c.size ≡ 0
  zero_size = none profile limit s ms path value kind c fine adds beside ahead

  free : IsFree s c ms
  free = is_free profile limit s ms path value kind c fine adds beside ahead

  fewer : (P : MadeEdit → Type 0) → All P ms → All P earlier
  fewer P = All-filter (λ m. not (comes_behind s kind table c.at m)) P ms

  not_behind : All (IsNotBehind s kind table c.at) earlier
  not_behind =
      All-weaker (λ m. not (comes_behind s kind table c.at m) ≡ true) (IsNotBehind s kind table c.at)
      (λ m. none_true (comes_behind s kind table c.at m)) earlier
      (filter_passes (λ m. not (comes_behind s kind table c.at m)) ms)

  -- ---- the line over those that don't come behind it

  abbrev ComesAfter : Added → Type 0
  ComesAfter l = IsAfterLine l line

  abbrev Allowed : Added → Type 0
  Allowed l = IsAfterLine l line ⊎ ((l.at ≡ c.at) × (comes_before kind table l.kind (table_of l) ≡ true))

  after_one : (m : MadeEdit) → IsNotBehind s kind table c.at m → All Allowed (own_lines s m)
      → All ComesAfter (own_lines s m)
  after_one m = by m.edit
    where
      by : (f : Edit) → IsNotBehind s kind table c.at (made f m.change) → All Allowed (with_line s f m.change [])
          → All ComesAfter (with_line s f m.change [])
      by (insert other more) differs h =
          let its : Added = added_as s other m.change in
          All-cons ComesAfter its []
          (elim (All-head Allowed its [] h) [
            | inl after ↦ after
            | inr (at, first) ↦
                (let there : (m.change.at == c.at) && comes_before kind table (kind_of s other) (table_in s other)
                ≡ true = rw (eq-eqb m.change.at c.at at, first) refl in absurd cc)
          ])
          (All-nil ComesAfter)
      by (set other more) differs h = All-nil ComesAfter
      by (rename other name) differs h = All-nil ComesAfter
      by (remove other) differs h = All-nil ComesAfter
      by (append_table keys) differs h = All-nil ComesAfter
      by (append_element keys) differs h = All-nil ComesAfter

  after : All ComesAfter (lines_of s earlier)
  after =
      by_lines s ComesAfter earlier
      (λ n x few. after_one (get_or earlier n x) (not_behind n x few)
      (fewer (λ m. All Allowed (own_lines s m)) (of_lines s Allowed ms ahead.after) n x few))

  clear : list_any (takes_up_to c.at) (changes_of earlier) ≡ false
  clear =
      list_any_none (takes_up_to c.at) (changes_of earlier)
      (by_changes s (λ x. takes_up_to c.at x ≡ false) earlier
      (fewer (λ m. takes_up_to c.at m.change ≡ false) free.clear))

  before_headers : IsBeforeHeaders (text s) (seen_of s earlier) c.at
  before_headers = by (c.at == length (text s)) refl
    where
      no_header : c.at ≡ length (text s) → (m : MadeEdit) → IsNotBehind s kind table c.at m
          → is_header (seen s m.edit) ≡ false
      no_header end m differs = which (is_header (seen s m.edit)) refl
        where
          which : (b : Bool) → is_header (seen s m.edit) ≡ b → is_header (seen s m.edit) ≡ false
          which true is = absurd (ends_elsewhere profile limit s fine kind table c zero_size m differs is end)
          which false is = is

      by : (b : Bool) → (c.at == length (text s)) ≡ b → IsBeforeHeaders (text s) (seen_of s earlier) c.at
      by true is =
          inl
          (list_any_none is_header (seen_of s earlier)
          (by_seen s (λ f. is_header f ≡ false) earlier
          (All-weaker (IsNotBehind s kind table c.at) (λ m. is_header (seen s m.edit) ≡ false)
          (no_header (eqb-true c.at (length (text s)) is)) earlier not_behind)))
      by false is = inr (λ same. (let there = eq-eqb c.at (length (text s)) same in absurd cc))

  over : IsOver profile limit s own earlier
  over = (
    inl (
      (kind, adds),
      (
        record {
          after = after;
          stays = λ last. clear;
          passed = by_seen s (LetsTable line) earlier
              (fewer (λ m. LetsTable line (seen s m.edit)) (of_seen s (LetsTable line) ms ahead.lets));
        },
        let_come s (seen_of s earlier) (changes_of earlier) c.at clear
            (elim (free_moved s c ms earlier fewer free).alike [
              | inl inserts ↦ inl (by_seen s (λ f. IsTrue (is_insert f)) earlier inserts)
              | inr leave ↦ inr (by_changes s (LeavesNewline s) earlier leave, before_headers)
            ]),
      ),
    ),
    (
      by_seen s (λ f. LeavesAlone f (seen s e)) earlier
          (fewer (λ m. LeavesAlone (seen s m.edit) (seen s e)) (of_seen s (λ f. LeavesAlone f (seen s e)) ms alone)),
      by_changes s (λ x. IsBeside x c) earlier (fewer (λ m. IsBeside m.change c) free.beside),
    ),
  )

  -- ---- and below those that do

  below : (b : MadeEdit) → IsBehind s kind table c.at b → LetsTable line (seen s b.edit)
      → IsBelow s (line ∷ []) (seen s e) b.edit b.change
  below b = by b.edit
    where
      no_second : (keys : List (List ℕ)) → (line.kind ≡ WithHeader → PassesBy keys (table_of line))
          → All (IsNoSecond keys) (line ∷ [])
      no_second keys passes =
          All-cons (IsNoSecond keys) line []
          (λ head same. apart_differ (keys_in (table_of line)) keys (passes head) (sym same))
          (All-nil (IsNoSecond keys))

      by : (f : Edit) → IsBehind s kind table c.at (made f b.change) → LetsTable line (seen s f)
          → IsBelow s (line ∷ []) (seen s e) f b.change
      by (insert other more) is lets =
          let its : Added = added_as s other b.change in
          let first : comes_before kind table its.kind (table_of its) ≡ true =
          (and_parts (b.change.at == c.at) (comes_before kind table (kind_of s other) (table_in s other)) is).1 in (
            All-cons (λ l. IsAfterLine l its) line []
                (after_before line its
                (subst (λ (a : LineKind). comes_before a table its.kind (table_of its) ≡ true) (sym own_kind) first))
                (All-nil (λ l. IsAfterLine l its)),
            tt,
          )
      by (append_table keys) is lets = no_second keys lets
      by (append_element keys) is lets = no_second keys lets
      by (set other more) is lets = tt
      by (rename other name) is lets = tt
      by (remove other) is lets = tt

  under : All (LetsUnder profile limit s own) later
  under n x few =
      let test : MadeEdit → Bool = comes_behind s kind table c.at in
      let b : MadeEdit = get_or later n x in
      record {
        left = All-filter test (λ m. LeavesAlone (seen s m.edit) (seen s e)) ms
            (of_seen s (λ f. LeavesAlone f (seen s e)) ms alone) n x few;
        below = λ makes. below b (filter_passes test ms n x few)
            (All-filter test (λ m. LetsTable line (seen s m.edit)) ms (of_seen s (LetsTable line) ms ahead.lets) n x
            few);
      }

  free_with : IsFree s c (own ∷ ms)
  free_with = record {
    beside = All-cons (λ m. IsBeside m.change c) own ms (inl (omega (arith, zero_size))) free.beside;
    clear = All-cons (λ m. takes_up_to c.at m.change ≡ false) own ms
        (ap (λ (n : ℕ). nat_lt 0 n && (c.at + n == c.at)) zero_size) free.clear;
    alike = elim ahead.alike [
      | inl inserts ↦ inl
          (All-cons (λ m. IsTrue (is_insert (seen s m.edit))) own ms refl
          (of_seen s (λ f. IsTrue (is_insert f)) ms inserts))
      | inr (leave, its) ↦ inr
          (All-cons (λ m. LeavesNewline s m.change) own ms its (of_changes s (LeavesNewline s) ms leave))
    ];
  }

  pub still_ahead : AreAtOnce profile limit s ms
      → AreAtOnce profile limit s (with_ahead s kind (table_in s path) ms (made e c))
  still_ahead all =
      let test : MadeEdit → Bool = comes_behind s kind table c.at in
      put_below profile limit s fine kind table c zero_size own (λ head. absurd cc) later earlier
      (filter_passes test ms) under (free_moved s c (own ∷ ms) (own ∷ later ++ earlier)
      (λ P h. All-cons P own (later ++ earlier) (All-head P own ms h) (all_sorted test P ms (All-tail P own ms h)))
      free_with)
      (gathered profile limit s ms path value kind c fine adds beside ahead all).0 over
