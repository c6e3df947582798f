-- What a line says where a key is renamed: the same mentions, with their paths changed.
--
-- Lines that stay say what they said, but the paths that the tables before them have are the changed ones. The steps of
-- a header go on from them as before (`way_moved`), since no table has a path at or under the new one (`AreClear`). The
-- line that is renamed says what it said with one key replaced: for each kind of content `RenamedParts` finds the key
-- part and changes the paths (`content_renamed`).
--
-- Theorems: `content_preserved` and `content_renamed`.
use Rattle.std.proofs.Common.{◌≡◌, ℕ, List, [], ◌∷◌, ◌++◌, length, map, refl, sym, ap, subst, ◌∙◌, length-append, arith}
use Rattle.std.proofs.Common.{Some, None, ◌⊎◌, inl, inr}
use Rattle.std.specs.Prelude.{codes, position}
use Rattle.std.specs.Option.{is_some}
use Rattle.std.proofs.lemmas.List.{map-append}
use Rattle.keep_types.specs.declared.leaf.Profile.{Profile}
use Rattle.keep_syntax.specs.Tree.{Gap, Key, Content, blank, keyval, header, element, content_depth, text_of}
use Rattle.keep_syntax.specs.Grammar.{IsContent, IsAfter}
use Rattle.keep_path.specs.Path.{Part, key, index, same_path, moved_path}
use Rattle.keep_meaning.specs.Marks.{MentionKind, define, element as kinds_element, begun, value, Mention, below}
use Rattle.keep_meaning.specs.Marks.{Reading, elements_of, header_path, header_prefixes, statement_mentions}
use Rattle.keep_meaning.specs.Marks.{next_reading}
use Rattle.keep_meaning.specs.Meaning.{keys_of, body_fact, entries_mentions, keyval_mentions, statement_of}
use Rattle.keep_edit_spec.specs.Look.{strip}
use Rattle.keep_edit_spec.specs.Values.{rename_part, rename_name, text_of_value}
use Rattle.keep_edit_spec.specs.Lines.{plain_line, part_paths, rename_content}
use Rattle.keep_edit_spec.specs.Edits.{key_part}
use Rattle.keep_edit_spec.proofs.Common.Runs.{AllOf, SomeOf, all_left, all_right, some_left, some_right, IsDisjoint}
use Rattle.keep_edit_spec.proofs.Common.Runs.{none_or_some}
use Rattle.keep_edit_spec.proofs.Common.SetLaw.{IsSolidAt, EachTo, to_within}
use Rattle.keep_edit_spec.proofs.Common.SetDocument.{from_closed}
use Rattle.keep_edit_spec.proofs.Common.LineLaws.{EndsInKey, line_closed}
use Rattle.keep_edit_spec.proofs.Common.Moves.{moved}
use Rattle.keep_edit_spec.proofs.Common.NewLines.{IsKeyText}
use Rattle.keep_edit_spec.proofs.Rename.RenamedPath.{IsBeside, ends_old, disjoint_renamed, renamed_index}
use Rattle.keep_edit_spec.proofs.Rename.RenamedPath.{short_disjoint, moved_disjoint, moved_under}
use Rattle.keep_edit_spec.proofs.Rename.RenamedKeys.{AreClear, AreRenamed, elements_renamed, header_renamed}
use Rattle.keep_edit_spec.proofs.Rename.RenamedKeys.{keys_preserved}
use Rattle.keep_edit_spec.proofs.Rename.RenamedParts.{keys_renamed, part_solid, keyed_solid, part_reaches}
use Rattle.keep_edit_spec.proofs.Rename.RenamedParts.{keyed_renamed, header_position, keyval_position}
use Rattle.keep_edit_spec.proofs.Rename.RenameKey.{IsKeyRenamed, IsNameRenamed, key_renamed, name_renamed}

-- what a line with this content says, and how the reading is after it
abbrev pub content_mentions : Reading → Content → List Mention
content_mentions r c = elim (statement_of c) [ None ↦ [] | Some s ↦ statement_mentions r s ]

abbrev pub content_after : Reading → Content → Reading
content_after r c = elim (statement_of c) [ None ↦ r | Some s ↦ next_reading r s ]

abbrev pub moved_reading : (List Part → List Part) → Reading → Reading
moved_reading f r = record { tables = map f r.tables; body = f r.body }

pub record IsContentMoved (p b : List Part) (r : Reading) (c c' : Content) : Type 0 where
  pub stated : is_some (statement_of c') ≡ is_some (statement_of c)
  pub mentioned : content_mentions (moved_reading (moved_path p b) r) c'
      ≡ map (moved (moved_path p b)) (content_mentions r c)
  pub after : content_after (moved_reading (moved_path p b) r) c' ≡ moved_reading (moved_path p b) (content_after r c)

-- ---- a header

pub root_renamed : (p b : List Part) → EndsInKey p → moved_path p b [] ≡ []
root_renamed p b ends =
    disjoint_renamed p b [] (short_disjoint p []
    (omega (arith, ap length ends.2, length-append ends.0 (key ends.1 ∷ []))))

record IsWayMoved (p b : List Part) (tables : List (List Part)) (keys keys' : List (List ℕ)) : Type 0 where
  path : header_path (map (moved_path p b) tables) [] keys' ≡ moved_path p b (header_path tables [] keys)
  prefixes : header_prefixes (map (moved_path p b) tables) [] keys'
      ≡ map (moved (moved_path p b)) (header_prefixes tables [] keys)

way_moved : (p b : List Part) (tables : List (List Part)) (keys keys' : List (List ℕ)) → EndsInKey p → AreClear b tables
    → AllOf (IsDisjoint b) (header_prefixes tables [] keys)
    → AreRenamed p b tables [] keys keys' → IsWayMoved p b tables keys keys'
way_moved p b tables keys keys' ends clear prefixes h =
    let f : List Part → List Part = moved_path p b in
    let m = header_renamed p b tables [] keys keys' ends clear prefixes h in
    let root : [] ≡ f [] = sym (root_renamed p b ends) in
    record {
      path = ap (λ x. header_path (map f tables) x keys') root ∙ m.path;
      prefixes = ap (λ x. header_prefixes (map f tables) x keys') root ∙ m.prefixes;
    }

header_moved : (p b : List Part) (r : Reading) (x y : Gap) (k k' : Key) → EndsInKey p → AreClear b r.tables
    → AllOf (IsDisjoint b) (content_mentions r (header x k y))
    → AreRenamed p b r.tables [] (keys_of k) (keys_of k') → IsContentMoved p b r (header x k y) (header x k' y)
header_moved p b r x y k k' ends clear disjoint h =
    let f : List Part → List Part = moved_path p b in
    let path : List Part = header_path r.tables [] (keys_of k) in
    let prefixes : List Mention = header_prefixes r.tables [] (keys_of k) in
    let m = way_moved p b r.tables (keys_of k) (keys_of k') ends clear
    (all_left (IsDisjoint b) prefixes (record { path = path; kind = define } ∷ []) disjoint) h in
    record {
      stated = refl;
      mentioned =
          ap (λ (q : List Part).
          header_prefixes (map f r.tables) [] (keys_of k') ++ record { path = q; kind = define } ∷ []) m.path
          ∙ ap (λ (l : List Mention). l ++ record { path = f path; kind = define } ∷ []) m.prefixes
          ∙ sym (map-append (moved f) prefixes (record { path = path; kind = define } ∷ []));
      after = ap (λ (q : List Part). record { tables = map f r.tables; body = q }) m.path;
    }

element_moved : (p b : List Part) (r : Reading) (x y : Gap) (k k' : Key) → EndsInKey p → AreClear b r.tables
    → AllOf (IsDisjoint b) (content_mentions r (element x k y))
    → AreRenamed p b r.tables [] (keys_of k) (keys_of k') → IsContentMoved p b r (element x k y) (element x k' y)
element_moved p b r x y k k' ends clear disjoint h =
    let f : List Part → List Part = moved_path p b in
    let path : List Part = header_path r.tables [] (keys_of k) in
    let path' : List Part = header_path (map f r.tables) [] (keys_of k') in
    let n : ℕ = elements_of path r.tables in
    let prefixes : List Mention = header_prefixes r.tables [] (keys_of k) in
    let end : List Mention =
    record { path = path; kind = kinds_element } ∷ record { path = path ++ index n ∷ []; kind = begun } ∷ [] in
    let m = way_moved p b r.tables (keys_of k) (keys_of k') ends clear (all_left (IsDisjoint b) prefixes end disjoint)
    h in
    let number : elements_of path' (map f r.tables) ≡ n =
    ap (λ q. elements_of q (map f r.tables)) m.path
    ∙ elements_renamed p b r.tables path clear (all_right (IsDisjoint b) prefixes end disjoint).0 in
    let begins : path' ++ index (elements_of path' (map f r.tables)) ∷ [] ≡ f (path ++ index n ∷ []) =
    ap (λ i. path' ++ index i ∷ []) number ∙ ap (λ q. q ++ index n ∷ []) m.path ∙ sym (renamed_index p b path n ends) in
    record {
      stated = refl;
      mentioned =
          ap (λ (q : List Part).
          header_prefixes (map f r.tables) [] (keys_of k') ++ record { path = path'; kind = kinds_element }
          ∷ record { path = q; kind = begun } ∷ []) begins
          ∙ ap (λ (q : List Part).
          header_prefixes (map f r.tables) [] (keys_of k') ++ record { path = q; kind = kinds_element }
          ∷ record { path = f (path ++ index n ∷ []); kind = begun } ∷ []) m.path
          ∙ ap (λ (l : List Mention). l ++ map (moved f) end) m.prefixes
          ∙ sym (map-append (moved f) prefixes end);
      after = ap (λ (q : List Part). record { tables = map f r.tables ++ path' ∷ []; body = q }) begins
          ∙ ap (λ (q : List Part). record { tables = map f r.tables ++ q ∷ []; body = f (path ++ index n ∷ []) }) m.path
          ∙ ap (λ (l : List (List Part)). record { tables = l; body = f (path ++ index n ∷ []) })
          (sym (map-append f r.tables (path ∷ [])));
    }

-- ---- lines that stay

header_never : (p : List Part) (tables : List (List Part)) (keys : List (List ℕ)) (mention_kind : MentionKind)
    (more : List Mention) → (SomeOf (IsSolidAt p) (record { path = p; kind = mention_kind } ∷ []))
    → (SomeOf (IsSolidAt p) (header_prefixes tables [] keys
    ++ record { path = header_path tables [] keys; kind = mention_kind } ∷ more) → ⊥) → header_path tables [] keys ≡ p
    → ⊥
header_never p tables keys mention_kind more self never e =
    never (some_right (IsSolidAt p) (header_prefixes tables [] keys)
    (record { path = header_path tables [] keys; kind = mention_kind } ∷ more)
    (subst (λ (q : List Part). SomeOf (IsSolidAt p) (record { path = q; kind = mention_kind } ∷ more)) (sym e)
    (some_left (IsSolidAt p) (record { path = p; kind = mention_kind } ∷ []) more self)))

pub content_preserved : (p b : List Part) (r : Reading) → EndsInKey p → AreClear b r.tables → (c : Content)
    → AllOf (IsDisjoint b) (content_mentions r c) → (SomeOf (IsSolidAt p) (content_mentions r c) → ⊥)
    → IsContentMoved p b r c c
content_preserved p b r ends clear blank disjoint never = record { stated = refl; mentioned = refl; after = refl }
content_preserved p b r ends clear (keyval name v) disjoint never =
    record { stated = refl; mentioned = by (none_or_some (strip p r.body)); after = refl }
  where
    by : (strip p r.body ≡ None) ⊎ ((u : List Part) × (strip p r.body ≡ Some u))
        → map (below (moved_path p b r.body)) (keyval_mentions name v)
        ≡ map (moved (moved_path p b)) (map (below r.body) (keyval_mentions name v))
    by (inr u) = sym (moved_under p b r.body (keyval_mentions name v) u)
    by (inl e) =
        let ms : List Mention = map (below r.body) (keyval_mentions name v) in
        ap (λ q. map (below q) (keyval_mentions name v)) (disjoint_renamed p b r.body e)
        ∙ sym (moved_disjoint p b ms (from_closed p r.body ms (line_closed p r (plain_line (keyval name v)) ends).each
        (λ u. absurd (let k : None ≡ Some u.0 = sym e ∙ u.1 in cc)) never))
content_preserved p b r ends clear (header x k y) disjoint never =
    header_moved p b r x y k k ends clear disjoint
    (keys_preserved p b r.tables [] (keys_of k)
    (λ s. never (some_left (IsSolidAt p) (header_prefixes r.tables [] (keys_of k)) _ s))
    (header_never p r.tables (keys_of k) define [] (inl (record { path = refl; kind = refl })) never))
content_preserved p b r ends clear (element x k y) disjoint never =
    element_moved p b r x y k k ends clear disjoint
    (keys_preserved p b r.tables [] (keys_of k)
    (λ s. never (some_left (IsSolidAt p) (header_prefixes r.tables [] (keys_of k)) _ s))
    (header_never p r.tables (keys_of k) kinds_element _ (inl (record { path = refl; kind = refl })) never))

-- ---- the line that is renamed

pub record IsContentRenamed (profile : Profile) (p b : List Part) (r : Reading) (c c' : Content) : Type 0 where
  pub some : SomeOf (IsSolidAt p) (content_mentions r c)
  pub moves : AreClear b r.tables → AllOf (IsDisjoint b) (content_mentions r c) → IsContentMoved p b r c c'
  pub valid : IsContent profile c → IsContent profile c'
  pub after : (g : Gap) → IsAfter c g → IsAfter c' g
  pub deep : content_depth c' ≡ content_depth c

pub content_renamed : (profile : Profile) (t : List ℕ) (p b : List Part) (r : Reading) → IsKeyText profile t
    → IsBeside t p b → (n : ℕ) (c : Content) → position (same_path p) (part_paths r c) ≡ Some n
    → EachTo (IsContentRenamed profile p b r c) (rename_content (key_part t) n c)
content_renamed profile t p b r text beside n blank e = tt
content_renamed profile t p b r text beside n (keyval name v) e =
    let part = keyval_position p r.body n (keys_of name.key) e in
    let reach = part_reaches p r.body n (keys_of name.key) part in
    to_within (IsNameRenamed profile t n name) (IsContentRenamed profile p b r (keyval name v)) (λ nm. keyval nm v) []
    (text_of_value v) (rename_name (key_part t) n name)
    (λ nm h. record {
      some = keyed_solid p r.body n (keys_of name.key) (value (body_fact v.body)) (entries_mentions 0 v.nested) refl
          part;
      moves = λ clear disjoint. record {
        stated = refl;
        mentioned = sym (keyed_renamed p b r.body (keys_of name.key) (keys_of nm.key) _
            (subst (AreRenamed p b [] r.body (keys_of name.key)) (sym h.keys)
            (keys_renamed t p b [] r.body n (keys_of name.key) beside part)) reach);
        after = refl;
      };
      valid = λ w. (h.valid w.0, w.1);
      after = λ g w. w;
      deep = refl;
    }) (name_renamed profile t text n name)
content_renamed profile t p b r text beside n (header x k y) e =
    let part = header_position p r.tables n (keys_of k) e in
    to_within (IsKeyRenamed profile t n k) (IsContentRenamed profile p b r (header x k y)) (λ k. header x k y)
    (codes "[" ++ text_of x) (text_of y ++ codes "]") (rename_part (key_part t) n k)
    (λ k' h. record {
      some = part_solid p r.tables [] n (keys_of k) define refl part;
      moves = λ clear disjoint. header_moved p b r x y k k' (ends_old t p b beside) clear disjoint
          (subst (AreRenamed p b r.tables [] (keys_of k)) (sym h.keys)
          (keys_renamed t p b r.tables [] n (keys_of k) beside part));
      valid = λ w. (w.0, h.valid w.1, w.2);
      after = λ g w. w;
      deep = refl;
    }) (key_renamed profile t text n k)
content_renamed profile t p b r text beside n (element x k y) e =
    let part = header_position p r.tables n (keys_of k) e in
    let prefixes : List Mention = header_prefixes r.tables [] (keys_of k) in
    let path : List Part = header_path r.tables [] (keys_of k) in
    to_within (IsKeyRenamed profile t n k) (IsContentRenamed profile p b r (element x k y)) (λ k. element x k y)
    (codes "[[" ++ text_of x) (text_of y ++ codes "]]") (rename_part (key_part t) n k)
    (λ k' h. record {
      some = longer prefixes (record { path = path; kind = kinds_element }) _
          (part_solid p r.tables [] n (keys_of k) kinds_element refl part);
      moves = λ clear disjoint. element_moved p b r x y k k' (ends_old t p b beside) clear disjoint
          (subst (AreRenamed p b r.tables [] (keys_of k)) (sym h.keys)
          (keys_renamed t p b r.tables [] n (keys_of k) beside part));
      valid = λ w. (w.0, h.valid w.1, w.2);
      after = λ g w. w;
      deep = refl;
    }) (key_renamed profile t text n k)
  where
    longer : (prefixes : List Mention) (m : Mention) (more : List Mention) → SomeOf (IsSolidAt p) (prefixes ++ m ∷ [])
        → SomeOf (IsSolidAt p) (prefixes ++ m ∷ more)
    longer [] m more (inl s) = inl s
    longer [] m more (inr s) = absurd s
    longer (x ∷ prefixes) m more (inl s) = inl s
    longer (x ∷ prefixes) m more (inr s) = inr (longer prefixes m more s)
