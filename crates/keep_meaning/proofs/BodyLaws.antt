-- The table that a line's keyval is in: it is a node, and no array of tables.
--
-- Its path is the root's, or a header opens it (`body_said`). An array of tables is named by a `[[..]]`
-- (`tables_said`), and the rules do not let one path be both (`apart`).
--
-- Theorems: `apart`; `tables_are_nodes`, `body_is_node` and `body_has_no_element`.
use Rattle.std.proofs.Common.{◌≡◌, ℕ, ◌<◌, ◌≤◌, true, false, ◌||◌, List, [], ◌∷◌, ◌++◌, length, get_or, map, refl, sym}
use Rattle.std.proofs.Common.{ap, ap₂, subst, ◌∙◌, ◌⊎◌, inl, inr, arith, Some, None}
use Rattle.std.specs.List.{list_any}
use Rattle.std.proofs.lemmas.Bool.{cases_lt, or_left, or_right}
use Rattle.keep_types.specs.declared.role.Role.{Role}
use Rattle.keep_types.specs.declared.role.Role.TheVariants as role
use Rattle.keep_syntax.specs.Tree.{Document}
use Rattle.keep_path.specs.Path.{Part}
use Rattle.keep_path.proofs.Shared.{path_decides}
use Rattle.keep_meaning.specs.Counts.{is_mark, no_count, statements_in}
use Rattle.keep_meaning.specs.Marks.{MentionKind, through, past, define, element, dotted, value, begun, passed, item}
use Rattle.keep_meaning.specs.Marks.{Mention, Statement, elements_of, marks}
use Rattle.keep_meaning.specs.Marks.{mentions_from, reading_after, role_of, start}
use Rattle.keep_meaning.specs.Meaning.{mentions_in}
use Rattle.keep_meaning.specs.Nodes.{is_at, is_begun, is_define, is_node, is_root, mention_of}
use Rattle.keep_meaning.specs.Rules.{Mark, ObeysRules, allows}
use Rattle.keep_meaning.proofs.CountLemmas.{mentions-numbered_from, mentions_in-statements}
use Rattle.keep_meaning.proofs.ElementLemmas.{IsSound, IsSoundStatement, Opens, no_longer, sound_from}
use Rattle.keep_meaning.proofs.ElementLemmas.{sound_statements}
use Rattle.keep_meaning.proofs.FoundLemmas.{marked_at}
use Rattle.keep_meaning.proofs.LineLaws.{after_line, mentions_old}
use Rattle.keep_meaning.proofs.LineNumberLemmas.{AllOf, all_left}
use Rattle.keep_meaning.proofs.NamedLemmas.{Fits, Says, SomeOf, ends, some_left}

-- ---- what is said of one path

pub some_any : (P : Mention → Type 0) (q : List Part) → ((m : Mention) → P m → m.path ≡ q) → (ms : List Mention)
    → SomeOf P ms → list_any (is_at q) ms ≡ true
some_any P q at [] h = absurd h
some_any P q at (m ∷ ms) (inl h) = or_left (is_at q m) (list_any (is_at q) ms) ((path_decides m.path q).1 (at m h))
some_any P q at (m ∷ ms) (inr h) = or_right (is_at q m) (list_any (is_at q) ms) (some_any P q at ms h)

role_marked : (k : MentionKind) (r : Role) → role_of k ≡ Some r → is_mark k ≡ true
role_marked through r h = refl
role_marked past r h = refl
role_marked define r h = refl
role_marked element r h = refl
role_marked dotted r h = refl
role_marked (value f) r h = refl
role_marked begun r h = absurd cc
role_marked passed r h = absurd cc
role_marked (item f) r h = absurd cc

pub said_ends : (r : Role) (q : List Part) (ms : List Mention) → AllOf Fits ms → SomeOf (Says r q) ms
    → ends q ≡ Some true
said_ends r q [] f h = absurd h
said_ends r q (m ∷ ms) f (inl h) = ap ends (sym h.1) ∙ f.0 ∙ ap Some (role_marked m.kind r h.0)
said_ends r q (m ∷ ms) f (inr h) = said_ends r q ms f.1 h

-- `[..]` opens a table of keys, `[[..]]` one with a number
opening : (k : MentionKind) → (is_define k || is_begun k) ≡ true → (role_of k ≡ Some role.Define) ⊎ (is_mark k ≡ false)
opening through h = absurd cc
opening past h = absurd cc
opening define h = inl refl
opening element h = absurd cc
opening dotted h = absurd cc
opening (value f) h = absurd cc
opening begun h = inr refl
opening passed h = absurd cc
opening (item f) h = absurd cc

opened : (q : List Part) (ms : List Mention) → AllOf Fits ms → SomeOf (Opens q) ms
    → SomeOf (Says role.Define q) ms ⊎ (ends q ≡ Some false)
opened q [] f h = absurd h
opened q (m ∷ ms) f (inl h) = by (opening m.kind h.0)
  where
    by : (role_of m.kind ≡ Some role.Define) ⊎ (is_mark m.kind ≡ false)
        → SomeOf (Says role.Define q) (m ∷ ms) ⊎ (ends q ≡ Some false)
    by (inl is) = inl (inl (is, h.1))
    by (inr not) = inr (ap ends (sym h.1) ∙ f.0 ∙ ap Some not)
opened q (m ∷ ms) f (inr h) = by (opened q ms f.1 h)
  where
    by : SomeOf (Says role.Define q) ms ⊎ (ends q ≡ Some false)
        → SomeOf (Says role.Define q) (m ∷ ms) ⊎ (ends q ≡ Some false)
    by (inl g) = inl (inr g)
    by (inr e) = inr e

-- no path has two roles of which neither allows the other
pub apart : (q : List Part) (ms : List Mention) (r s : Role) → allows r s ≡ false → allows s r ≡ false → (r ≡ s → ⊥)
    → ObeysRules (marks ms) → SomeOf (Says r q) ms → SomeOf (Says s q) ms → ⊥
apart q ms r s refused turned differ obeys h g = by (cases_lt one.0 other.0)
  where
    one : (k : ℕ) × (k < length (marks ms)) × ((d : Mark) → get_or (marks ms) k d ≡ record { role = r; path = q })
    one = marked_at r q ms h

    other : (k : ℕ) × (k < length (marks ms)) × ((d : Mark) → get_or (marks ms) k d ≡ record { role = s; path = q })
    other = marked_at s q ms g

    pair : (i j : ℕ) (a b : Mark) → i < j → j < length (marks ms) → ((d : Mark) → get_or (marks ms) i d ≡ a)
        → ((d : Mark) → get_or (marks ms) j d ≡ b) → a.path ≡ b.path → allows a.role b.role ≡ true
    pair i j a b low within left right same =
        let yes = obeys i j a low within in
        sym (ap₂ (λ (x y : Mark). allows x.role y.role) (left a) (right a))
        ∙ yes (ap (λ (m : Mark). m.path) (left a) ∙ same ∙ sym (ap (λ (m : Mark). m.path) (right a)))

    by : (one.0 < other.0) ⊎ (other.0 ≤ one.0) → ⊥
    by (inl low) =
        no_longer (allows r s)
        (pair one.0 other.0 (record { role = r; path = q }) (record { role = s; path = q }) low other.1 one.2 other.2
        refl) refused
    by (inr high) = last (cases_lt other.0 one.0)
      where
        last : (other.0 < one.0) ⊎ (one.0 ≤ other.0) → ⊥
        last (inl low) =
            no_longer (allows s r)
            (pair other.0 one.0 (record { role = s; path = q }) (record { role = r; path = q }) low one.1 other.2 one.2
            refl) turned
        last (inr same) =
            let d : Mark = record { role = r; path = q } in
            let number : one.0 ≡ other.0 = omega (arith, high, same) in
            differ (ap (λ (m : Mark). m.role)
            (sym (one.2 d) ∙ ap (λ (k : ℕ). get_or (marks ms) k d) number ∙ other.2 d))

-- ---- a document and some statement of it

module _ (d : Document) (before after : List Statement) (old : statements_in d ≡ before ++ after) where
  abbrev body : List Part
  body = (reading_after start before).body

  abbrev tables : List (List Part)
  tables = (reading_after start (statements_in d)).tables

  whole : IsSound start (reading_after start (statements_in d)) (mentions_in d)
  whole = subst (IsSound start (reading_after start (statements_in d))) (sym (mentions_in-statements d))
      (sound_from start (statements_in d) (sound_statements d))

  tables_said : (t : List Part) → 0 < elements_of t tables → SomeOf (Says role.Element t) (mentions_in d)
  tables_said t h = by (whole.tables t h)
    where
      by : (0 < elements_of t []) ⊎ SomeOf (Says role.Element t) (mentions_in d)
          → SomeOf (Says role.Element t) (mentions_in d)
      by (inl none) = absurd (omega (arith, none))
      by (inr s) = s

  said_are : mentions_in d ≡ mentions_from start before ++ map mention_of (after_line d before after old)
  said_are =
      mentions_old d before after old
      ∙ ap (λ (ms : List Mention). ms ++ map mention_of (after_line d before after old))
      (mentions-numbered_from no_count start before)

  body_said : (body ≡ []) ⊎ SomeOf (Opens body) (mentions_in d)
  body_said = by (first.body body refl)
    where
      first : IsSound start (reading_after start before) (mentions_from start before)
      first =
          sound_from start before (all_left IsSoundStatement before after
          (subst (AllOf IsSoundStatement) old (sound_statements d)))

      by : (start.body ≡ body) ⊎ SomeOf (Opens body) (mentions_from start before)
          → (body ≡ []) ⊎ SomeOf (Opens body) (mentions_in d)
      by (inl root) = inl (sym root)
      by (inr s) =
          inr (subst (SomeOf (Opens body)) (sym said_are)
          (some_left (Opens body) (mentions_from start before) (map mention_of (after_line d before after old)) s))

  -- a path with elements is named
  pub tables_are_nodes : (t : List Part) → 0 < elements_of t tables → is_node t (mentions_in d) ≡ true
  tables_are_nodes t h =
      or_right (is_root t) (list_any (is_at t) (mentions_in d))
      (some_any (Says role.Element t) t (λ m g. g.1) (mentions_in d) (tables_said t h))

  -- so is the table that a keyval after those before is in
  pub body_is_node : is_node body (mentions_in d) ≡ true
  body_is_node = by body_said
    where
      by : (body ≡ []) ⊎ SomeOf (Opens body) (mentions_in d) → is_node body (mentions_in d) ≡ true
      by (inl root) = ap (λ (q : List Part). is_node q (mentions_in d)) root
      by (inr s) =
          or_right (is_root body) (list_any (is_at body) (mentions_in d))
          (some_any (Opens body) body (λ m g. g.1) (mentions_in d) s)

  -- and it is no array of tables
  pub body_has_no_element : ObeysRules (marks (mentions_in d)) → 0 < elements_of body tables → ⊥
  body_has_no_element obeys h = by body_said
    where
      named : SomeOf (Says role.Element body) (mentions_in d)
      named = tables_said body h

      keyed : ends body ≡ Some true
      keyed = said_ends role.Element body (mentions_in d) whole.fits named

      by : (body ≡ []) ⊎ SomeOf (Opens body) (mentions_in d) → ⊥
      by (inl root) = let clash : Some true ≡ None = sym keyed ∙ ap ends root in cc
      by (inr s) = which (opened body (mentions_in d) whole.fits s)
        where
          which : SomeOf (Says role.Define body) (mentions_in d) ⊎ (ends body ≡ Some false) → ⊥
          which (inl g) =
              apart body (mentions_in d) role.Define role.Element refl refl (λ e. cc) obeys g named
          which (inr e) = let clash : Some true ≡ Some false = sym keyed ∙ e in cc
