-- What is written where an insert goes is the edit's place.
--
-- There are six spots where an insert may go: before an item, after an entry, in empty brackets, after a body, after a
-- line, and in a new section. For each the code needs three facts: what it looks up is there (`.._there`), the place is
-- within the text (`.._within`), and the bytes that it writes there are those of the edit's place (`.._put`). In
-- brackets the place comes from a stored value, and there is one value of a number (`one_info`); elsewhere it is an end
-- that was found in the statements (`put_line`). A place is between characters, since an ASCII byte or nothing comes
-- after it (`put_low`).
--
-- Theorems: `inserted_at`: what was written is the edit; `before_put`, `after_put`, `empty_put`, `body_put`,
-- `line_put`, `section_put`: the place of each spot.
use Rattle.std.proofs.Common.{◌≡◌, ℕ, suc, ◌<◌, ◌≤◌, false, List, [], ◌++◌, length, take, drop, slice_get, refl, sym}
use Rattle.std.proofs.Common.{ap, subst, ◌∙◌, append_assoc, arith, Option, Some, None, Ok, inl, inr}
use Rattle.std.specs.Prelude.{IsCharBoundary, codes}
use Rattle.std.specs.List.{list_any}
use Rattle.std.specs.Option.{option_map}
use Rattle.std.proofs.lemmas.Option.{slice_get_within}
use Rattle.keep_types.specs.declared.leaf.Profile.TheVariants.{Wide}
use Rattle.keep_types.specs.declared.syntax.ValueInfo.{ValueInfo}
use Rattle.keep_syntax.specs.declared.syntax.Syntax.{Syntax}
use Rattle.keep_syntax.specs.Tree.{Value, Document, text}
use Rattle.keep_syntax.specs.Contract.{values_of}
use Rattle.keep_syntax.specs.Numbered as syntax_of
use Rattle.keep_path.specs.Path.{Part, AreUtf8}
use Rattle.keep_meaning.specs.Meaning.{mentions_in}
use Rattle.keep_path.specs.NodeInfos.{NodeInfos}
use Rattle.keep_edit_spec.specs.Changed as changed
use Rattle.keep_edit_spec.specs.Edits.{insert}
use Rattle.keep_edit_spec.specs.Insertion.{before_item, after_entry, in_empty, put_in, keyed_text}
use Rattle.keep_edit_spec.specs.Laws.{IsGivenValue, IsLawfulEdit}
use Rattle.keep_edit_spec.specs.Look.{holder, is_index, item_number, keys_in}
use Rattle.keep_edit_spec.specs.Values.{text_of_value}
use Rattle.keep_edit_spec.specs.Refusals.{refusal}
use Rattle.keep_edit_spec.proofs.Shared.{IsLowPlace, insert_lawful, plain_rest, holder_prefix}
use Rattle.keep_edit_plan.specs.Reading.{limit, ProfiledText, IsTextOfTree, IsTextOfValue, Holds}
use Rattle.keep_edit_plan.specs.Answers.{IsSpanOf}
use Rattle.keep_edit_plan.specs.Places.{IsDoneAt}
use Rattle.keep_edit_plan.specs.PutLines.{body_end_of, keyval_end_of, new_section_at}
use Rattle.keep_edit_plan.specs.Inserting.{IsInsertionOf, IsItemSpot, IsKeyvalSpot, IsPutIn, new_line_at, spot_place}
use Rattle.keep_edit_plan.specs.declared.insert.Insertion.{Insertion}
use Rattle.keep_edit_plan.specs.declared.insert.Spot.{Spot}
use Rattle.keep_edit_plan.specs.declared.insert.Spot.TheVariants as spot
use Rattle.keep_edit_plan.proofs.AnswerLaws.{tree_is}
use Rattle.keep_edit_plan.proofs.BracketPlaces.{IsInBrackets, IsLowSpot, item_placed, braces_placed}
use Rattle.keep_edit_plan.proofs.EditedLaws.{editable}
use Rattle.keep_edit_plan.proofs.KeysLaws.{base_keys, keys_utf8}
use Rattle.keep_edit_plan.proofs.KeyvalSteps.{no_index_left}
use Rattle.keep_edit_plan.proofs.LineSpots.{IsPutAt, IsBodyReady, IsLineReady, IsSectionReady, body_ready, line_ready}
use Rattle.keep_edit_plan.proofs.LineSpots.{section_ready}
use Rattle.keep_edit_plan.proofs.RemoveCut.{low_boundary}

-- an option that is mapped to something is something
mapped_some : (f : ValueInfo → changed.Place) (o : Option ValueInfo) (p : changed.Place) → option_map f o ≡ Some p
    → (info : ValueInfo) × (o ≡ Some info) × (f info ≡ p)
mapped_some f None p e = absurd cc
mapped_some f (Some info) p e = (info, refl, cc)

module _ (d : ProfiledText) (syntax : Syntax) (index_of : NodeInfos) (path : List Part) (s : Document) (v : Value)
    (bytes : List ℕ) (i : Insertion) (holds : Holds d syntax index_of) (read : IsTextOfTree d s)
    (value : IsTextOfValue bytes v)
    (there : IsInsertionOf d.profile path v s (Ok i)) (utf8 : AreUtf8 path) where
  given : IsGivenValue Wide v
  given = record { valid = value.reads.valid; obeys = value.obeys }

  allowed : refusal d.profile limit s (insert path v) ≡ None
  allowed = there.0

  pub insert_law : IsLawfulEdit d.profile limit s (insert path v)
  insert_law = insert_lawful d.profile limit s path v (editable d s read) given (keys_utf8 path utf8) allowed

  abbrev SpotBy : Option ℕ → Type 0
  SpotBy o = elim o [
    | Some n ↦ (i.from ≡ length path) × IsItemSpot path n s i.spot
    | None ↦ IsKeyvalSpot (holder path (mentions_in s)) s i.from i.spot
  ]

  -- ---- in brackets

  low_spot : IsInBrackets i.spot → IsLowSpot path s v i
  low_spot in_brackets = by (item_number path (mentions_in s)) refl there.1
    where
      by : (o : Option ℕ) → item_number path (mentions_in s) ≡ o → SpotBy o → IsLowSpot path s v i
      by (Some n) at (from, here) = item_placed d path s v read given allowed n at i.from from i.spot here
      by None at here =
          braces_placed d path s v read given allowed (keys_utf8 path utf8) at i.from i.spot in_brackets here

  rest_keys : item_number path (mentions_in s) ≡ None
      → list_any is_index (drop (length (holder path (mentions_in s))) path) ≡ false
  rest_keys none = plain_rest d.profile limit s path v read.reads.valid none allowed

  at_holder : (from : ℕ) → from ≡ length (holder path (mentions_in s)) → item_number path (mentions_in s) ≡ None
      → list_any is_index (drop from path) ≡ false
  at_holder from e none = ap (λ (n : ℕ). list_any is_index (drop n path)) e ∙ rest_keys none

  keyval_keys : item_number path (mentions_in s) ≡ None → (from : ℕ) (at : Spot) → IsInBrackets at
      → IsKeyvalSpot (holder path (mentions_in s)) s from at → list_any is_index (drop from path) ≡ false
  keyval_keys none from (spot.InEmpty b) in_brackets (of_value, base, e) = at_holder from base none
  keyval_keys none from (spot.AfterEntry w) in_brackets (inl (b, of_value, base, e)) = at_holder from base none
  keyval_keys none from (spot.AfterEntry w) in_brackets (inr (b, dotted, base, of_value)) =
      base_keys path (holder path (mentions_in s)) s from
      (holder_prefix d.profile limit s path v read.reads.valid none allowed) base (rest_keys none)
  keyval_keys none from (spot.BeforeItem w) in_brackets h = absurd h
  keyval_keys none from (spot.AfterBody o) in_brackets h = absurd in_brackets
  keyval_keys none from (spot.AfterLine w) in_brackets h = absurd in_brackets
  keyval_keys none from (spot.NewSection w) in_brackets h = absurd in_brackets

  pub entry_keys : IsInBrackets i.spot → list_any is_index (drop i.from path) ≡ false
  entry_keys in_brackets = by (item_number path (mentions_in s)) refl there.1
    where
      by : (o : Option ℕ) → item_number path (mentions_in s) ≡ o → SpotBy o
          → list_any is_index (drop i.from path) ≡ false
      by (Some n) at (from, here) = no_index_left path i.from (omega (arith, from))
      by None at here = keyval_keys at i.from i.spot in_brackets here

  values_are : values_of syntax ≡ syntax_of.values s
  values_are = holds.is.values ∙ ap syntax_of.values (tree_is d syntax index_of s holds read)

  -- the value that the spot names, and the place there
  record IsThere (f : ValueInfo → changed.Place) (w : ℕ) : Type 0 where
    info : ValueInfo
    here : slice_get (syntax_of.values s) w ≡ Some info
    low : IsLowPlace s (insert path v) (f info)

  find : (f : ValueInfo → changed.Place) (w : ℕ) → IsInBrackets i.spot
      → spot_place s path v i ≡ option_map f (slice_get (syntax_of.values s) w) → IsThere f w
  find f w in_brackets is =
      let low : IsLowSpot path s v i = low_spot in_brackets in
      let (info, here, same) = mapped_some f (slice_get (syntax_of.values s) w) low.place (sym is ∙ low.is) in
      record { info = info; here = here; low = subst (IsLowPlace s (insert path v)) (sym same) low.low }

  within_values : (f : ValueInfo → changed.Place) (w : ℕ) → IsThere f w → w < length (values_of syntax)
  within_values f w h =
      slice_get_within (values_of syntax) w h.info (ap (λ (l : List ValueInfo). slice_get l w) values_are ∙ h.here)

  one_info : (f : ValueInfo → changed.Place) (w : ℕ) (info : ValueInfo) → IsThere f w
      → slice_get (values_of syntax) w ≡ Some info → IsLowPlace s (insert path v) (f info)
  one_info f w info h is =
      let same : Some h.info ≡ Some info =
      sym h.here ∙ ap (λ (l : List ValueInfo). slice_get l w) (sym values_are) ∙ is in
      subst (λ (x : ValueInfo). IsLowPlace s (insert path v) (f x)) (let e : h.info ≡ info = cc in e) h.low

  span_at : (at : ℕ) → at ≤ length (text s) → IsCharBoundary (text s) at → IsSpanOf d.text (syntax_of.span at at)
  span_at at within boundary =
      let nested : IsCharBoundary d.text at =
      subst (λ (t : List ℕ). IsCharBoundary t at) (sym read.reads.spelled) boundary in
      record {
        ordered = omega arith;
        within = omega (arith, within, ap (λ (t : List ℕ). length t) read.reads.spelled);
        starts = nested;
        ends = nested;
      }

  put_low : (at : ℕ) (fresh old new : List ℕ) → IsLowPlace s (insert path v) (put_in at fresh) → new ≡ old ++ fresh
      → IsPutIn path v s d.text at old new
  put_low at fresh old new h e = (fresh, e, h.placed, span_at at h.within (low_boundary (text s) at h.within h.low))

  spelled : bytes ≡ text_of_value v
  spelled = value.reads.spelled

  -- ---- before an item

  before_there : (w : ℕ) → i.spot ≡ spot.BeforeItem w → IsThere (λ (x : ValueInfo). before_item x v) w
  before_there w e = find (λ (x : ValueInfo). before_item x v) w (subst IsInBrackets (sym e) tt) (by i.spot e)
    where
      by : (at : Spot) → at ≡ spot.BeforeItem w
          → spot_place s path v (record { spot = at; from = i.from })
          ≡ option_map (λ (x : ValueInfo). before_item x v) (slice_get (syntax_of.values s) w)
      by at e = ap (λ (x : Spot). spot_place s path v (record { spot = x; from = i.from })) e

  pub before_within : (w : ℕ) → i.spot ≡ spot.BeforeItem w → w < length (values_of syntax)
  before_within w e = within_values (λ (x : ValueInfo). before_item x v) w (before_there w e)

  pub before_put : (w : ℕ) (info : ValueInfo) (old one new : List ℕ) → i.spot ≡ spot.BeforeItem w
      → slice_get (values_of syntax) w ≡ Some info → one ≡ old ++ bytes → new ≡ one ++ codes ", "
      → IsPutIn path v s d.text info.whole.start old new
  before_put w info old one new e is h1 h2 =
      put_low info.whole.start (text_of_value v ++ codes ", ") old new
      (one_info (λ (x : ValueInfo). before_item x v) w info (before_there w e) is)
      (h2 ∙ ap (λ (t : List ℕ). t ++ codes ", ") (h1 ∙ ap (λ (t : List ℕ). old ++ t) spelled)
      ∙ append_assoc old (text_of_value v) (codes ", "))

  -- ---- after an entry

  after_there : (w : ℕ) → i.spot ≡ spot.AfterEntry w
      → IsThere (λ (x : ValueInfo). after_entry x (keys_in (drop i.from path)) v) w
  after_there w e =
      find (λ (x : ValueInfo). after_entry x (keys_in (drop i.from path)) v) w (subst IsInBrackets (sym e) tt)
      (ap (λ (x : Spot). spot_place s path v (record { spot = x; from = i.from })) e)

  pub after_within : (w : ℕ) → i.spot ≡ spot.AfterEntry w → w < length (values_of syntax)
  after_within w e = within_values (λ (x : ValueInfo). after_entry x (keys_in (drop i.from path)) v) w (after_there w e)

  pub after_keys : (w : ℕ) → i.spot ≡ spot.AfterEntry w → list_any is_index (drop i.from path) ≡ false
  after_keys w e = entry_keys (subst IsInBrackets (sym e) tt)

  pub after_put : (w : ℕ) (info : ValueInfo) (old one new : List ℕ) → i.spot ≡ spot.AfterEntry w
      → slice_get (values_of syntax) w ≡ Some info → one ≡ old ++ codes ", "
      → new ≡ one ++ keyed_text (keys_in (drop i.from path)) v
      → IsPutIn path v s d.text info.span.end old new
  after_put w info old one new e is h1 h2 =
      put_low info.span.end (codes ", " ++ keyed_text (keys_in (drop i.from path)) v) old new
      (one_info (λ (x : ValueInfo). after_entry x (keys_in (drop i.from path)) v) w info (after_there w e) is)
      (h2 ∙ ap (λ (t : List ℕ). t ++ keyed_text (keys_in (drop i.from path)) v) h1
      ∙ append_assoc old (codes ", ") (keyed_text (keys_in (drop i.from path)) v))

  -- ---- in empty brackets

  empty_there : (w : ℕ) → i.spot ≡ spot.InEmpty w
      → IsThere (λ (x : ValueInfo). in_empty x (keys_in (drop i.from path)) v) w
  empty_there w e =
      find (λ (x : ValueInfo). in_empty x (keys_in (drop i.from path)) v) w (subst IsInBrackets (sym e) tt)
      (ap (λ (x : Spot). spot_place s path v (record { spot = x; from = i.from })) e)

  pub empty_within : (w : ℕ) → i.spot ≡ spot.InEmpty w → w < length (values_of syntax)
  empty_within w e = within_values (λ (x : ValueInfo). in_empty x (keys_in (drop i.from path)) v) w (empty_there w e)

  pub empty_keys : (w : ℕ) → i.spot ≡ spot.InEmpty w → list_any is_index (drop i.from path) ≡ false
  empty_keys w e = entry_keys (subst IsInBrackets (sym e) tt)

  empty_low : (w : ℕ) (info : ValueInfo) → i.spot ≡ spot.InEmpty w → slice_get (values_of syntax) w ≡ Some info
      → IsLowPlace s (insert path v) (in_empty info (keys_in (drop i.from path)) v)
  empty_low w info e is =
      one_info (λ (x : ValueInfo). in_empty x (keys_in (drop i.from path)) v) w info (empty_there w e) is

  -- the byte after the bracket is one of the text's
  pub empty_nested : (w : ℕ) (info : ValueInfo) → i.spot ≡ spot.InEmpty w → slice_get (values_of syntax) w ≡ Some info
      → suc info.span.start ≤ length d.text
  empty_nested w info e is =
      omega (arith, (empty_low w info e is).within, ap (λ (t : List ℕ). length t) read.reads.spelled)

  pub empty_put : (w : ℕ) (info : ValueInfo) (at : ℕ) (old new : List ℕ) → i.spot ≡ spot.InEmpty w
      → slice_get (values_of syntax) w ≡ Some info → at ≡ suc info.span.start
      → new ≡ old ++ keyed_text (keys_in (drop i.from path)) v
      → IsPutIn path v s d.text at old new
  empty_put w info at old new e is next h =
      subst (λ (n : ℕ). IsPutIn path v s d.text n old new) (sym next)
      (put_low (suc info.span.start) (keyed_text (keys_in (drop i.from path)) v) old new (empty_low w info e is) h)

  -- ---- lines

  pub keyval_only : (at : Spot) → i.spot ≡ at → ((n : ℕ) → IsItemSpot path n s at → ⊥)
      → (item_number path (mentions_in s) ≡ None) × IsKeyvalSpot (holder path (mentions_in s)) s i.from at
  keyval_only at e never = by (item_number path (mentions_in s)) refl there.1
    where
      by : (o : Option ℕ) → item_number path (mentions_in s) ≡ o → SpotBy o
          → (item_number path (mentions_in s) ≡ None) × IsKeyvalSpot (holder path (mentions_in s)) s i.from at
      by (Some n) k (from, here) = absurd (never n (subst (IsItemSpot path n s) e here))
      by None k here = (k, subst (IsKeyvalSpot (holder path (mentions_in s)) s i.from) e here)

  put_line : (from at : ℕ) (p : changed.Place) (fresh old new : List ℕ) → IsPutAt path v s from at p
      → p ≡ put_in at fresh → new ≡ old ++ fresh → IsPutIn path v s d.text at old new
  put_line from at p fresh old new h e k = (fresh, k, h.placed ∙ e, span_at at h.within h.boundary)

  pub body_there : (header : Option ℕ) → i.spot ≡ spot.AfterBody header → IsBodyReady path v s i.from header
  body_there header e =
      let (none, here) = keyval_only (spot.AfterBody header) e (λ n h. absurd h) in
      body_ready d path v s read allowed none i.from header here

  pub line_there : (w : ℕ) → i.spot ≡ spot.AfterLine w → IsLineReady path v s i.from w
  line_there w e =
      let (none, here) = keyval_only (spot.AfterLine w) e (λ n h. absurd h) in
      line_ready d path v s read allowed none i.from w here

  pub section_there : (header : ℕ) → i.spot ≡ spot.NewSection header → IsSectionReady path v s i.from header
  section_there header e =
      let (none, here) = keyval_only (spot.NewSection header) e (λ n h. absurd h) in
      section_ready d path v s read allowed none i.from header here

  within_text : (from at : ℕ) (p : changed.Place) → IsPutAt path v s from at p → at ≤ length d.text
  within_text from at p h = omega (arith, h.within, ap (λ (t : List ℕ). length t) read.reads.spelled)

  -- ---- after a body

  body_at : (header : Option ℕ) (at : ℕ) → i.spot ≡ spot.AfterBody header → at ≡ body_end_of s header
      → IsPutAt path v s i.from at (new_line_at s at (keys_in (drop i.from path)) v)
  body_at header at e is =
      subst (λ (n : ℕ). IsPutAt path v s i.from n (new_line_at s n (keys_in (drop i.from path)) v)) (sym is)
      (body_there header e).put

  pub body_within : (header : Option ℕ) (at : ℕ) → i.spot ≡ spot.AfterBody header → at ≡ body_end_of s header
      → at ≤ length d.text
  body_within header at e is =
      within_text i.from at (new_line_at s at (keys_in (drop i.from path)) v) (body_at header at e is)

  pub body_put : (header : Option ℕ) (at : ℕ) (old new : List ℕ) → i.spot ≡ spot.AfterBody header
      → at ≡ body_end_of s header → new ≡ old ++ (new_line_at s at (keys_in (drop i.from path)) v).new
      → IsPutIn path v s d.text at old new
  body_put header at old new e is k =
      put_line i.from at (new_line_at s at (keys_in (drop i.from path)) v)
      (new_line_at s at (keys_in (drop i.from path)) v).new old new (body_at header at e is) refl k

  -- ---- after a keyval

  line_at_end : (w at : ℕ) → i.spot ≡ spot.AfterLine w → keyval_end_of s w ≡ Some at
      → IsPutAt path v s i.from at (new_line_at s at (keys_in (drop i.from path)) v)
  line_at_end w at e is =
      let l : IsLineReady path v s i.from w = line_there w e in
      let same : Some l.at ≡ Some at = sym l.ends ∙ is in
      subst (λ (n : ℕ). IsPutAt path v s i.from n (new_line_at s n (keys_in (drop i.from path)) v))
      (let k : l.at ≡ at = cc in k) l.put

  pub line_within : (w at : ℕ) → i.spot ≡ spot.AfterLine w → keyval_end_of s w ≡ Some at → at ≤ length d.text
  line_within w at e is =
      within_text i.from at (new_line_at s at (keys_in (drop i.from path)) v) (line_at_end w at e is)

  pub line_put : (w at : ℕ) (old new : List ℕ) → i.spot ≡ spot.AfterLine w → keyval_end_of s w ≡ Some at
      → new ≡ old ++ (new_line_at s at (keys_in (drop i.from path)) v).new → IsPutIn path v s d.text at old new
  line_put w at old new e is k =
      put_line i.from at (new_line_at s at (keys_in (drop i.from path)) v)
      (new_line_at s at (keys_in (drop i.from path)) v).new old new (line_at_end w at e is) refl k

  -- ---- in a new section

  section_at_end : (header at : ℕ) → i.spot ≡ spot.NewSection header → at ≡ body_end_of s (Some header)
      → IsPutAt path v s i.from at (new_section_at s at (keys_in (take i.from path)) (keys_in (drop i.from path)) v)
  section_at_end header at e is =
      subst (λ (n : ℕ).
      IsPutAt path v s i.from n (new_section_at s n (keys_in (take i.from path)) (keys_in (drop i.from path)) v))
      (sym is) (section_there header e).put

  pub section_within : (header at : ℕ) → i.spot ≡ spot.NewSection header → at ≡ body_end_of s (Some header)
      → at ≤ length d.text
  section_within header at e is =
      within_text i.from at (new_section_at s at (keys_in (take i.from path)) (keys_in (drop i.from path)) v)
      (section_at_end header at e is)

  pub section_put : (header at : ℕ) (old new : List ℕ) → i.spot ≡ spot.NewSection header
      → at ≡ body_end_of s (Some header)
      → new ≡ old ++ (new_section_at s at (keys_in (take i.from path)) (keys_in (drop i.from path)) v).new
      → IsPutIn path v s d.text at old new
  section_put header at old new e is k =
      put_line i.from at (new_section_at s at (keys_in (take i.from path)) (keys_in (drop i.from path)) v)
      (new_section_at s at (keys_in (take i.from path)) (keys_in (drop i.from path)) v).new old new
      (section_at_end header at e is) refl k

  pub section_header : (header : ℕ) → i.spot ≡ spot.NewSection header → Some header ≡ Some header → (h : ℕ)
      → Some header ≡ Some h → h < length (syntax_of.statements s)
  section_header header e k h same =
      subst (λ (n : ℕ). n < length (syntax_of.statements s)) (let t : header ≡ h = cc in t)
      (section_there header e).within

  -- ---- the edit

  -- where it is done
  pub inserted_at : (at : ℕ) (old new : List ℕ) → old ≡ [] → IsPutIn path v s d.text at old new
      → IsDoneAt s (insert path v) d new (Ok (syntax_of.span at at))
  inserted_at at old new none (fresh, is, placed, span) =
      let same : fresh ≡ new = sym (is ∙ ap (λ (t : List ℕ). t ++ fresh) none) in
      (allowed, placed ∙ ap (put_in at) same, span)
