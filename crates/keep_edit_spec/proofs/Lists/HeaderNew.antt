-- A header that obeys the rules after a document is of no table or element whose body begins there or which dotted keys
-- make, nor is the array that it names such a table.
--
-- A body is begun by the line that defines it. The path of a header ends in a key, so it is of no element, and a table
-- that is defined is neither defined again nor named an array (`begun_before`, by the rules). Nor is one that dotted
-- keys make (`dotted_before`), which is no element. Elements are counted: one that is begun has a lesser number than a
-- new one (`counts`, by induction over the lines). What a header says of the paths on its way states nothing. So of a
-- path that is made before the header says neither what it is nor that it is an array, and it is a table as before
-- (`table_stays`).
--
-- Theorems: `table_new`, `element_new`; `table_stays`, `not_stated`.
use Rattle.std.proofs.Common.{◌≡◌, ℕ, ◌<◌, Bool, true, false, cond, not, ◌&&◌, ◌||◌, List, [], ◌∷◌, ◌++◌, length, map}
use Rattle.std.proofs.Common.{refl, sym, ap, ap₂, subst, ◌∙◌, length-append, arith, Option, ◌⊎◌, None, inl, inr}
use Rattle.std.specs.List.{filter_map, list_any}
use Rattle.std.proofs.Math.Bool.{or-false}
use Rattle.std.proofs.lemmas.List.{append-nil}
use Rattle.std.proofs.lemmas.List.Elements.{filter_map-append}
use Rattle.std.proofs.lemmas.List.Folds.{list_any-append}
use Rattle.std.proofs.lemmas.List.Sums.{sum_by-append}
use Rattle.keep_syntax.specs.Tree.{Written, Gap, Content, blank, keyval, header, element, Line, Document}
use Rattle.keep_path.specs.Path.{Part, index, same_path}
use Rattle.keep_meaning.specs.Fact.{Fact}
use Rattle.keep_meaning.specs.Marks as marks_of
use Rattle.keep_meaning.specs.Marks.{Mention, MentionKind, Reading, start, begun, define, dotted, elements_of, fact_of}
use Rattle.keep_meaning.specs.Marks.{header_path, header_prefixes, statement_mentions}
use Rattle.keep_meaning.specs.Meaning.{after_line, further_value, key_value, keys_of, line_mentions, lines}
use Rattle.keep_meaning.specs.Meaning.{lines_mentions, mentions_in, reading_after_lines}
use Rattle.keep_meaning.specs.Nodes.{fact_at, first_of, has, is_at, is_begun, is_define, is_dotted, is_element}
use Rattle.keep_meaning.specs.Nodes.{kinds_at}
use Rattle.keep_edit_spec.specs.Lines.{begins}
use Rattle.keep_edit_spec.specs.Look.{is_table, is_table_fact, strip, without_last}
use Rattle.keep_edit_spec.specs.Refusals.{end_reading, tables_in}
use Rattle.keep_edit_spec.proofs.Append.AppendTable.{none_prefixes, silent_prefixes, tables_stated}
use Rattle.keep_edit_spec.proofs.Common.BodyEnd.{IsStated}
use Rattle.keep_edit_spec.proofs.Common.Cuts.{without_last-snoc}
use Rattle.keep_edit_spec.proofs.Common.Doubles.{IsMentioned}
use Rattle.keep_edit_spec.proofs.Common.FromMarks.{ends_disjoint}
use Rattle.keep_edit_spec.proofs.Common.FromMarksLines.{path_ends}
use Rattle.keep_edit_spec.proofs.Common.InsertLaw.{or_true}
use Rattle.keep_edit_spec.proofs.Common.LineLaws.{EndsInKey, last_from, last_snoc, never_root}
use Rattle.keep_edit_spec.proofs.Common.Runs.{Across, AllOf, Allowed, Rules, SomeOf, all_join, all_right, kinds_allow}
use Rattle.keep_edit_spec.proofs.Common.Runs.{kinds_at-append, meet, pairs_split, same_path-refl, same_path-sound}
use Rattle.keep_edit_spec.proofs.Common.ValueThere.{some_cases}
use Rattle.keep_edit_spec.proofs.Lists.RenamedEnds.{headed, heads, silent_starts}
use Rattle.keep_edit_spec.proofs.Remove.RemoveRefusal.{NotBegun, lines_begun}

-- the root, or a path whose body begins by a line
abbrev pub IsBegunIn : List Part → List Mention → Type 0
IsBegunIn a ms = (a ≡ []) ⊎ SomeOf (IsStated a) ms

-- such a path, or that of a table which dotted keys make
abbrev pub IsMadeIn : List Part → List Mention → Type 0
IsMadeIn a ms = IsBegunIn a ms ⊎ (EndsInKey a × SomeOf (IsMentioned is_dotted a) ms)

-- of that path it states nothing, and no array
abbrev pub StatesNothing : List Part → Mention → Type 0
StatesNothing a m = m.path ≡ a → (fact_of m.kind ≡ None) × (is_element m.kind ≡ false)

pub not_stated : (a : List Part) (m : Mention) → IsStated a m → StatesNothing a m → ⊥
not_stated a m stated other =
    let none : (is_define m.kind || is_begun m.kind) ≡ false = silent_starts m.kind (other stated.0).0 in
    let some : (is_define m.kind || is_begun m.kind) ≡ true = stated.1 in
    absurd cc

-- ---- a path that ends in a key

begun_define : (k : MentionKind) → (is_define k || is_begun k) ≡ true → is_begun k ≡ false → k ≡ define
begun_define define h g = refl
begun_define begun h g = absurd cc
begun_define _ h g = absurd cc

kind_dotted : (k : MentionKind) → is_dotted k ≡ true → k ≡ dotted
kind_dotted dotted h = refl
kind_dotted _ h = absurd cc

-- what is said of the path before bars that this is said of it
barred : (x : Mention) (p : List Part) (was kind : MentionKind) → kinds_allow was kind ≡ false
    → (way more : List Mention) → AllOf (Allowed x) (way ++ record { path = p; kind = kind } ∷ more) → x.path ≡ p
    → x.kind ≡ was → ⊥
barred x p was kind bars way more allowed there is =
    let yes : kinds_allow x.kind kind ≡ true =
    (all_right (Allowed x) way (record { path = p; kind = kind } ∷ more) allowed).0 there in
    let both : false ≡ true = sym bars ∙ ap (λ (k : MentionKind). kinds_allow k kind) (sym is) ∙ yes in
    absurd cc

clash : (p : List Part) (kind : MentionKind) → kinds_allow define kind ≡ false → (ms way more : List Mention)
    → Across Allowed ms (way ++ record { path = p; kind = kind } ∷ more) → AllOf (NotBegun p) ms
    → SomeOf (IsStated p) ms → ⊥
clash p kind bars [] way more across none s = absurd s
clash p kind bars (x ∷ ms) way more across none (inr s) = clash p kind bars ms way more across.1 none.1 s
clash p kind bars (x ∷ ms) way more across none (inl s) =
    barred x p define kind bars way more across.0 s.0 (begun_define x.kind s.1 (none.0 s.0))

begun_before : (s : Document) (p : List Part) (kind : MentionKind) → EndsInKey p → kinds_allow define kind ≡ false
    → (way more : List Mention) → Rules (mentions_in s ++ (way ++ record { path = p; kind = kind } ∷ more))
    → IsBegunIn p (mentions_in s) → ⊥
begun_before s p kind ends bars way more rules (inl e) = never_root p ends ([], ap (λ (q : List Part). strip q []) e)
begun_before s p kind ends bars way more rules (inr some) =
    clash p kind bars (mentions_in s) way more
    (pairs_split Allowed (mentions_in s) (way ++ record { path = p; kind = kind } ∷ more) rules).across
    (lines_begun p ends start (lines s)) some

dotted_before : (s : Document) (p : List Part) (kind : MentionKind) → kinds_allow dotted kind ≡ false
    → (way more : List Mention) → Rules (mentions_in s ++ (way ++ record { path = p; kind = kind } ∷ more))
    → SomeOf (IsMentioned is_dotted p) (mentions_in s) → ⊥
dotted_before s p kind bars way more rules some =
    let new : List Mention = way ++ record { path = p; kind = kind } ∷ more in
    let (x, said, allowed) =
    meet (IsMentioned is_dotted p) (λ (m : Mention). AllOf (Allowed m) new) (mentions_in s) some
    (pairs_split Allowed (mentions_in s) new rules).across in
    barred x p dotted kind bars way more allowed said.0 (kind_dotted x.kind said.1)

made_before : (s : Document) (p : List Part) (kind : MentionKind) → EndsInKey p → kinds_allow define kind ≡ false
    → kinds_allow dotted kind ≡ false → (way more : List Mention)
    → Rules (mentions_in s ++ (way ++ record { path = p; kind = kind } ∷ more)) → IsMadeIn p (mentions_in s) → ⊥
made_before s p kind ends bars bars_dotted way more rules (inl by_line) =
    begun_before s p kind ends bars way more rules by_line
made_before s p kind ends bars bars_dotted way more rules (inr by_dots) =
    dotted_before s p kind bars_dotted way more rules by_dots.1

-- ---- an element

any_heads : (a : List Part) (ms : List Mention) → SomeOf (IsStated a) ms
    → list_any (heads (λ (q : List Part). same_path q a)) ms ≡ true
any_heads a [] s = absurd s
any_heads a (m ∷ ms) (inl s) =
    let here : same_path m.path a ≡ true =
    subst (λ (q : List Part). same_path m.path q ≡ true) s.0 (same_path-refl m.path) in
    ap₂ (λ (x y : Bool). (x && y) || list_any (heads (λ (q : List Part). same_path q a)) ms) s.1 here
any_heads a (m ∷ ms) (inr s) =
    or_true (heads (λ (q : List Part). same_path q a) m) (list_any (heads (λ (q : List Part). same_path q a)) ms)
    (any_heads a ms s)

-- a line that begins an element makes it one of those that are counted
begins_counts : (q : List Part) (n : ℕ) (r : Reading) (before after' : Gap) (comment : Option Written) (c : Content)
    → (let l : Line = record { before = before; content = c; after = after'; comment = comment } in
    begins (q ++ index n ∷ []) r l ≡ true → n < elements_of q (after_line r l).tables)
begins_counts q n r before after' comment blank e = absurd cc
begins_counts q n r before after' comment (keyval name v) e = absurd cc
begins_counts q n r before after' comment (header x k y) e =
    let path : List Part = header_path r.tables [] (keys_of k) in
    absurd (ends_disjoint path (q ++ index n ∷ [])
    (path_ends r.tables [] (key_value k.first) (map further_value k.more)) (q, n, refl)
    (same_path-sound path (q ++ index n ∷ []) e))
begins_counts q n r before after' comment (element x k y) e =
    let at : List Part = header_path r.tables [] (keys_of k) in
    let m : ℕ = elements_of at r.tables in
    let same : at ++ index m ∷ [] ≡ q ++ index n ∷ [] = same_path-sound (at ++ index m ∷ []) (q ++ index n ∷ []) e in
    let array : at ≡ q =
    sym (without_last-snoc at (index m)) ∙ ap without_last same ∙ without_last-snoc q (index n) in
    let last : index m ≡ index n =
    sym (last_snoc (index 0) (index m) at) ∙ ap (last_from (index 0)) same ∙ last_snoc (index 0) (index n) q in
    let number : m ≡ n = cc in
    let here : same_path at q ≡ true =
    subst (λ (p : List Part). same_path at p ≡ true) array (same_path-refl at) in
    let one : elements_of q (at ∷ []) ≡ 1 = rw here refl in
    omega (
      arith,
      sum_by-append (λ (t : List Part). cond {A = ℕ} (same_path t q) 1 0) r.tables (at ∷ []),
      one,
      number,
      ap (λ (p : List Part). elements_of p r.tables) array,
    )

counts : (q : List Part) (n : ℕ) (r : Reading) (ls : List Line)
    → SomeOf (IsStated (q ++ index n ∷ [])) (lines_mentions r ls) → n < elements_of q (reading_after_lines r ls).tables
counts q n r [] s = absurd s
counts q n r (l ∷ ls) s =
    let a : List Part = q ++ index n ∷ [] in
    let next : Reading = after_line r l in
    elim (some_cases (IsStated a) (line_mentions r l) (lines_mentions next ls) s) [
      | inl here ↦
          (let counted : n < elements_of q next.tables =
          begins_counts q n r l.before l.after l.comment l.content
          (headed (λ (p : List Part). same_path p a) r l.content ∙ any_heads a (line_mentions r l) here) in
          omega (
            arith,
            counted,
            ap (elements_of q) (tables_stated next ls),
            sum_by-append (λ (t : List Part). cond {A = ℕ} (same_path t q) 1 0) next.tables
                (tables_in (lines_mentions next ls)),
          ))
      | inr later ↦ counts q n next ls later
    ]

not_begun : (s : Document) (p : List Part)
    → IsBegunIn (p ++ index (elements_of p (tables_in (mentions_in s))) ∷ []) (mentions_in s) → ⊥
not_begun s p (inl e) =
    let n : ℕ = elements_of p (tables_in (mentions_in s)) in
    omega (arith, ap (λ (l : List Part). length l) e, length-append p (index n ∷ []))
not_begun s p (inr some) =
    let n : ℕ = elements_of p (tables_in (mentions_in s)) in
    let less : n < elements_of p (reading_after_lines start (lines s)).tables = counts p n start (lines s) some in
    omega (arith, less, ap (elements_of p) (tables_stated start (lines s)))

not_made : (s : Document) (p : List Part)
    → IsMadeIn (p ++ index (elements_of p (tables_in (mentions_in s))) ∷ []) (mentions_in s) → ⊥
not_made s p (inl by_line) = not_begun s p by_line
not_made s p (inr by_dots) =
    let n : ℕ = elements_of p (tables_in (mentions_in s)) in
    ends_disjoint (p ++ index n ∷ []) (p ++ index n ∷ []) by_dots.0 (p, n, refl) refl

-- ---- what a header says

pub way_states : (a : List Part) (ms : List Mention) → AllOf (λ (m : Mention). fact_of m.kind ≡ None) ms
    → AllOf (λ (m : Mention). is_element m.kind ≡ false) ms → AllOf (StatesNothing a) ms
way_states a [] h g = tt
way_states a (m ∷ ms) h g = ((λ e. (h.0, g.0)), way_states a ms h.1 g.1)

module _ (s : Document) (k : List ℕ) (ks : List (List ℕ)) (a : List Part) (made : IsMadeIn a (mentions_in s))
  where
    abbrev ms : List Mention
    ms = mentions_in s

    abbrev tables : List (List Part)
    tables = tables_in ms

    abbrev way : List Mention
    way = header_prefixes tables [] (k ∷ ks)

    abbrev path : List Part
    path = header_path tables [] (k ∷ ks)

    way_nothing : AllOf (StatesNothing a) way
    way_nothing = way_states a way (silent_prefixes tables [] (k ∷ ks)) (none_prefixes tables [] (k ∷ ks))

    at_path : (q : List Part) → q ≡ a → IsMadeIn q ms
    at_path q e = subst (λ (x : List Part). IsMadeIn x ms) (sym e) made

    pub table_new : Rules (ms ++ statement_mentions (end_reading ms) (marks_of.header (k ∷ ks)))
        → AllOf (StatesNothing a) (statement_mentions (end_reading ms) (marks_of.header (k ∷ ks)))
    table_new rules =
        all_join (StatesNothing a) way (record { path = path; kind = define } ∷ []) way_nothing (
          (λ e. absurd (made_before s path define (path_ends tables [] k ks) refl refl way [] rules (at_path path e))),
          tt,
        )

    pub element_new : Rules (ms ++ statement_mentions (end_reading ms) (marks_of.element_header (k ∷ ks)))
        → AllOf (StatesNothing a) (statement_mentions (end_reading ms) (marks_of.element_header (k ∷ ks)))
    element_new rules =
        let new : Mention = record { path = path ++ index (elements_of path tables) ∷ []; kind = begun } in
        all_join (StatesNothing a) way (record { path = path; kind = marks_of.element } ∷ new ∷ []) way_nothing (
          (λ e.
              absurd (made_before s path marks_of.element (path_ends tables [] k ks) refl refl way (new ∷ []) rules
              (at_path path e))),
          ((λ e. absurd (not_made s path (at_path new.path e))), tt),
        )

-- ---- the table stays

module _ (a : List Part) (ms own : List Mention) (nothing : AllOf (StatesNothing a) own) where
  said : (more : List Mention) → AllOf (StatesNothing a) more
      → (filter_map fact_of (kinds_at a more) ≡ []) × (list_any is_element (kinds_at a more) ≡ false)
  said [] h = (refl, refl)
  said (m ∷ more) h = by (is_at a m) refl (said more h.1)
    where
      by : (b : Bool) → is_at a m ≡ b
          → (filter_map fact_of (kinds_at a more) ≡ []) × (list_any is_element (kinds_at a more) ≡ false)
          → (filter_map fact_of (kinds_at a (m ∷ more)) ≡ [])
          × (list_any is_element (kinds_at a (m ∷ more)) ≡ false)
      by false e k = rw e k
      by true e k =
          let (fact, plain) = h.0 (same_path-sound m.path a e) in
          (rw (e, fact) k.0, rw (e, plain) k.1)

  fact_stays : fact_at a (ms ++ own) ≡ fact_at a ms
  fact_stays =
      ap (λ (kinds : List MentionKind). first_of (filter_map fact_of kinds)) (kinds_at-append a ms own)
      ∙ ap first_of (filter_map-append fact_of (kinds_at a ms) (kinds_at a own)
      ∙ ap (λ (l : List Fact). filter_map fact_of (kinds_at a ms) ++ l) (said own nothing).0
      ∙ append-nil (filter_map fact_of (kinds_at a ms)))

  array_stays : has is_element a (ms ++ own) ≡ has is_element a ms
  array_stays =
      ap (list_any is_element) (kinds_at-append a ms own)
      ∙ list_any-append is_element (kinds_at a ms) (kinds_at a own)
      ∙ ap (λ (b : Bool). has is_element a ms || b) (said own nothing).1 ∙ or-false (has is_element a ms)

  pub table_stays : is_table a (ms ++ own) ≡ is_table a ms
  table_stays = ap₂ (λ (f : Option Fact) (b : Bool). is_table_fact f && not b) fact_stays array_stays
