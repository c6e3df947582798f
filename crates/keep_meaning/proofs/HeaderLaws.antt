-- A header at the end of a document: what it names is named before, or is new.
--
-- A path of a `[[..]]` ends in a key (`table_ends`), and its elements so far are nodes (`element_is_node`). The element
-- that one more `[[..]]` begins is none of them, and no item of a value: a keyval would state the value at the path
-- that the `[[..]]` names, against the rules.
--
-- Theorems: `header_has_key`, `table_is_node`, `element_is_node` and `element_is_new`.
use Rattle.std.proofs.Common.{◌≡◌, ℕ, ◌<◌, Bool, true, false, ◌||◌, List, [], ◌∷◌, ◌++◌, refl, sym, ap, ap₂, subst, ◌∙◌}
use Rattle.std.proofs.Common.{◌⊎◌, inl, inr, arith, Some}
use Rattle.std.specs.List.{list_any}
use Rattle.std.proofs.lemmas.Bool.{le-ltb, lt-ltb, or_right, false_from_ne_true}
use Rattle.keep_types.specs.declared.role.Role.TheVariants as role
use Rattle.keep_syntax.specs.Tree.{Document}
use Rattle.keep_path.specs.Path.{Part, index}
use Rattle.keep_path.proofs.Shared.{path_decides}
use Rattle.keep_meaning.specs.Counts.{is_mark, statements_in}
use Rattle.keep_meaning.specs.Marks.{Mention, Statement, begun, element, element_header, elements_of, header}
use Rattle.keep_meaning.specs.Marks.{header_path, header_prefixes, marks, reading_after, start, statement_mentions}
use Rattle.keep_meaning.specs.Meaning.{mentions_in}
use Rattle.keep_meaning.specs.Nodes.{is_at, is_begun, is_node, is_passed, is_root}
use Rattle.keep_meaning.specs.Rules.{ObeysRules}
use Rattle.keep_meaning.specs.StatementsMore.{HasStatementMore, reading_at_end}
use Rattle.keep_meaning.proofs.BodyLaws.{said_ends, some_any}
use Rattle.keep_meaning.proofs.CountLemmas.{mentions_in-statements}
use Rattle.keep_meaning.proofs.ElementLemmas.{Begins, IsSaid, IsSound, IsSoundStatement, header_ends, is_reached}
use Rattle.keep_meaning.proofs.ElementLemmas.{no_longer, none_reached, reached_pushed, said_all, sound_from}
use Rattle.keep_meaning.proofs.ElementLemmas.{sound_statements}
use Rattle.keep_meaning.proofs.FoundLemmas.{allowed, unmarked}
use Rattle.keep_meaning.proofs.LineNumberLemmas.{AllOf, all_right}
use Rattle.keep_meaning.proofs.NamedLemmas.{Says, SomeOf, base, base_none, base_whole, ends, ends_below, is_item}
use Rattle.keep_meaning.proofs.NamedLemmas.{some_right}

-- ---- the last statement

last_is_sound : (d more : Document) (s : Statement) → HasStatementMore d s more → IsSoundStatement s
last_is_sound d more s last =
    (all_right IsSoundStatement (statements_in d) (s ∷ [])
    (subst (AllOf IsSoundStatement) last (sound_statements more))).0

-- a header has a key
pub header_has_key : (d more : Document) → HasStatementMore d (header []) more → ⊥
header_has_key d more last = let fits : ends [] ≡ Some true = (last_is_sound d more (header []) last start).fits.0 in cc

pub element_has_key : (d more : Document) → HasStatementMore d (element_header []) more → ⊥
element_has_key d more last =
    let fits : ends [] ≡ Some true = (last_is_sound d more (element_header []) last start).fits.0 in cc

-- ---- the arrays of tables so far

not_root : (p : List Part) (x : Part) → is_root (p ++ x ∷ []) ≡ false
not_root [] x = refl
not_root (a ∷ p) x = refl

-- no mention has the path
none_any : (q : List Part) (P : Mention → Type 0) → ((m : Mention) → P m → m.path ≡ q → ⊥) → (ms : List Mention)
    → AllOf P ms → list_any (is_at q) ms ≡ false
none_any q P none [] h = refl
none_any q P none (m ∷ ms) h =
    ap₂ (λ (a b : Bool). a || b) (false_from_ne_true (is_at q m) (λ e. none m h.0 ((path_decides m.path q).0 e)))
    (none_any q P none ms h.1)

module _ (d : Document) where
  abbrev tables : List (List Part)
  tables = (reading_at_end d).tables

  whole : IsSound start (reading_at_end d) (mentions_in d)
  whole = subst (IsSound start (reading_after start (statements_in d))) (sym (mentions_in-statements d))
      (sound_from start (statements_in d) (sound_statements d))

  table_said : (t : List Part) → 0 < elements_of t tables → SomeOf (Says role.Element t) (mentions_in d)
  table_said t h = by (whole.tables t h)
    where
      by : (0 < elements_of t []) ⊎ SomeOf (Says role.Element t) (mentions_in d)
          → SomeOf (Says role.Element t) (mentions_in d)
      by (inl none) = absurd (omega (arith, none))
      by (inr s) = s

  -- the path of an array of tables ends in a key
  table_ends : (t : List Part) → 0 < elements_of t tables → ends t ≡ Some true
  table_ends t h = said_ends role.Element t (mentions_in d) whole.fits (table_said t h)

  pub root_has_no_element : 0 < elements_of [] tables → ⊥
  root_has_no_element h = let keyed : ends [] ≡ Some true = table_ends [] h in cc

  pub element_has_no_element : (t : List Part) (n : ℕ) → 0 < elements_of (t ++ index n ∷ []) tables → ⊥
  element_has_no_element t n h =
      let clash : Some true ≡ Some false =
      sym (table_ends (t ++ index n ∷ []) h) ∙ ends_below t (index n ∷ []) false refl in
      cc

  pub table_is_node : (t : List Part) → 0 < elements_of t tables → is_node t (mentions_in d) ≡ true
  table_is_node t h = or_right (is_root t) (list_any (is_at t) (mentions_in d))
      (some_any (Says role.Element t) t (λ m g. g.1) (mentions_in d) (table_said t h))

  pub element_is_node : (t : List Part) (n : ℕ) → n < elements_of t tables
      → is_node (t ++ index n ∷ []) (mentions_in d) ≡ true
  element_is_node t n low = by (whole.begins own (reached_pushed tables t n ∙ lt-ltb n (elements_of t tables) low))
    where
      own : List Part
      own = t ++ index n ∷ []

      by : (is_reached start.tables own ≡ true) ⊎ SomeOf (Begins own) (mentions_in d)
          → is_node own (mentions_in d) ≡ true
      by (inl old) = absurd (no_longer (is_reached [] own) old (none_reached own))
      by (inr s) = or_right (is_root own) (list_any (is_at own) (mentions_in d))
          (some_any (Begins own) own (λ m g. g.1) (mentions_in d) s)

-- ---- the element that a header begins

module _ (d : Document) (k : List ℕ) (ks : List (List ℕ))
    (obeys : ObeysRules (marks
    (mentions_in d ++ statement_mentions (reading_at_end d) (element_header (k ∷ ks))))) where
  abbrev path : List Part
  path = header_path (reading_at_end d).tables [] (k ∷ ks)

  abbrev number : ℕ
  number = elements_of path (reading_at_end d).tables

  abbrev new : List Part
  new = path ++ index number ∷ []

  path_ends : ends path ≡ Some true
  path_ends = header_ends (reading_at_end d).tables [] k ks

  none_valued : SomeOf (Says role.Value path) (mentions_in d) → ⊥
  none_valued h =
      let last : List Mention = record { path = path; kind = element } ∷ record { path = new; kind = begun } ∷ [] in
      let way : List Mention = header_prefixes (reading_at_end d).tables [] (k ∷ ks) in
      let more : List Mention = statement_mentions (reading_at_end d) (element_header (k ∷ ks)) in
      let listed : SomeOf (Says role.Element path) more =
      some_right (Says role.Element path) way last (inl (refl, refl)) in
      let yes = allowed (mentions_in d) more path role.Value role.Element obeys h listed in
      cc

  not_said : (m : Mention) → IsSaid start (reading_at_end d) (mentions_in d) m → m.path ≡ new → ⊥
  not_said m said at = by (unmarked m.kind bare)
    where
      bare : is_mark m.kind ≡ false
      bare =
          let same : Some (is_mark m.kind) ≡ Some false =
          sym said.fits ∙ ap ends at ∙ ends_below path (index number ∷ []) false refl in
          cc

      by : (is_item m.kind ≡ true) ⊎ ((is_begun m.kind || is_passed m.kind) ≡ true) → ⊥
      by (inl is) =
          let named : base m.path ≡ path =
          ap base at ∙ base_none path (index number ∷ []) refl ∙ base_whole path path_ends in
          none_valued (subst (λ (q : List Part). SomeOf (Says role.Value q) (mentions_in d)) named (said.item is))
      by (inr is) =
          no_longer (is_reached (reading_at_end d).tables new)
          (ap (is_reached (reading_at_end d).tables) (sym at) ∙ said.there is)
          (reached_pushed (reading_at_end d).tables path number ∙ le-ltb number number (omega arith))

  pub element_is_new : is_node new (mentions_in d) ≡ false
  element_is_new =
      ap₂ (λ (a b : Bool). a || b) (not_root path (index number))
      (none_any new (IsSaid start (reading_at_end d) (mentions_in d)) not_said (mentions_in d)
      (said_all start (reading_at_end d) (mentions_in d) (whole d)))
