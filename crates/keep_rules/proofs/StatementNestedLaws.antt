-- With a header more, as the last statement, the nodes are nested as the headers say (`statement_is_nested`).
--
-- A header goes from the root, key by key (`walk`). Each key's path, and so the last one's, which a `[..]` defines, is
-- one step below a node that is no array of tables: the root, a table that the header goes through, or an element that
-- it enters. The element that a `[[..]]` begins is new, and the last one of its array.
--
-- Theorem: `statement_is_nested`.
use Rattle.std.proofs.Common.{◌≡◌, ℕ, ◌-◌, ◌<◌, Bool, true, false, cond, List, [], ◌∷◌, ◌++◌, refl, sym, ap, subst, ◌∙◌}
use Rattle.std.proofs.Common.{arith, append_assoc, append-nil, Some}
use Rattle.std.specs.Prelude.{◌==◌}
use Rattle.std.specs.List.{cons_option, list_any}
use Rattle.std.proofs.lemmas.Bool.{false_from_ne_true}
use Rattle.std.proofs.lemmas.Bool.Decides.{nat_tests}
use Rattle.keep_syntax.specs.Tree.{Document}
use Rattle.keep_path.specs.Path.{Part, key, index, last_part, same_path}
use Rattle.keep_path.proofs.Shared.{last_pushed, path_decides}
use Rattle.keep_meaning.specs.Counts.{statements_in}
use Rattle.keep_meaning.specs.Marks.{Mention, Reading, Statement, begun, define, element, element_header, elements_of}
use Rattle.keep_meaning.specs.Marks.{entered_path, header, header_path, header_prefixes, keyval, marks, mentions_from}
use Rattle.keep_meaning.specs.Marks.{next_reading, passed, passing_mentions, past, reading_after, role_of, start}
use Rattle.keep_meaning.specs.Marks.{statement_mentions, through}
use Rattle.keep_meaning.specs.Meaning.{mentions_in}
use Rattle.keep_meaning.specs.Nodes.{node_paths, paths_with}
use Rattle.keep_meaning.specs.Rules.{ObeysRules}
use Rattle.keep_meaning.specs.StatementsMore.{HasStatementMore, reading_at_end}
use Rattle.keep_meaning.proofs.Shared.{element_has_key, element_has_no_element, element_is_new, element_is_node}
use Rattle.keep_meaning.proofs.Shared.{header_has_key, mentions_in-statements, node_met, root_has_no_element}
use Rattle.keep_meaning.proofs.Shared.{table_is_node}
use Rattle.keep_rules.specs.LinesNested.{NodesAreNested}
use Rattle.keep_rules.specs.Nested.{AreNested}
use Rattle.keep_rules.specs.StatementsNested.{StatementIsNested}
use Rattle.keep_rules.specs.StatementsKnown.{IsHeader}
use Rattle.keep_rules.proofs.AllInfoLemmas.{met_own, met_with}
use Rattle.keep_rules.proofs.LineNestedLaws.{differ, may_follow, reading_after-append}
use Rattle.keep_rules.proofs.NestedGrowthLemmas.{AreEntered, AreListed, AreMet, IsClosed, IsThere, closed_push}
use Rattle.keep_rules.proofs.NestedGrowthLemmas.{entered_begun, entered_push, listed_push, paths_push, there_before}
use Rattle.keep_rules.proofs.NestedLemmas.{enters}
use Rattle.keep_rules.proofs.ReadLemmas.{mentions_from-append}
use Rattle.keep_rules.proofs.TablesLemmas.{elements_here, elements_other}

-- no path ends in a key and in a number
key_or_index : (p q : List Part) (k : List ℕ) (n : ℕ) → p ++ key k ∷ [] ≡ q ++ index n ∷ [] → ⊥
key_or_index p q k n e =
    let clash : Some (key k) ≡ Some (index n) =
    sym (last_pushed p (key k)) ∙ ap last_part e ∙ last_pushed q (index n) in
    cc

-- what a header says of a path on its way
abbrev gone_through : List Part → Mention
gone_through p = record { path = p; kind = through }

abbrev gone_past : List Part → Mention
gone_past p = record { path = p; kind = past }

abbrev gone_to : List (List Part) → List Part → Mention
gone_to tables p = record { path = entered_path tables p; kind = passed }

-- what holds of the paths with one more, if it holds where the path is there and where it is new
each_with : (ps : List (List Part)) (p : List Part) (P : List (List Part) → Type 0) → (IsThere ps p → P ps)
    → (list_any (same_path p) ps ≡ false → P (ps ++ p ∷ [])) → P (paths_with ps p)
each_with ps p P old new = by (list_any (same_path p) ps) refl
  where
    by : (b : Bool) → list_any (same_path p) ps ≡ b → P (cond b ps (ps ++ p ∷ []))
    by true is = old is
    by false is = new is

-- ---- the header's mentions, one after another

module _ (first : List Mention) (tables : List (List Part))
    (bare_elements : (t : List Part) (n : ℕ) → 0 < elements_of (t ++ index n ∷ []) tables → ⊥) where
  -- the paths so far; no item or element is among them that was none of the first
  record IsShaped (ms : List Mention) : Type 0 where
    closed : IsClosed (node_paths ms)
    entered : AreEntered (node_paths ms) tables
    met : AreMet (node_paths ms) tables
    kept : (q : List Part) (n : ℕ) → list_any (same_path (q ++ index n ∷ [])) (node_paths first) ≡ false
        → list_any (same_path (q ++ index n ∷ [])) (node_paths ms) ≡ false

  -- a key below a node that is no array of tables
  shaped_key : (ms : List Mention) (m : Mention) (at : List Part) (k : List ℕ) → IsShaped ms → m.path ≡ at ++ key k ∷ []
      → IsThere (node_paths ms) at → (0 < elements_of at tables → ⊥) → IsShaped (ms ++ m ∷ [])
  shaped_key ms m at k h is there bare =
      let ps : List (List Part) = node_paths ms in
      let p : List Part = at ++ key k ∷ [] in
      let paths : node_paths (ms ++ m ∷ []) ≡ paths_with ps p = paths_push ms m ∙ ap (paths_with ps) is in
      record {
        closed = subst IsClosed (sym paths)
            (each_with ps p IsClosed (λ old. h.closed) (λ new. closed_push ps at (key k) h.closed there));
        entered = subst (λ (l : List (List Part)). AreEntered l tables) (sym paths)
            (each_with ps p (λ l. AreEntered l tables) (λ old. h.entered)
            (λ new. entered_push ps tables at (key k) h.entered h.met new bare));
        met = record {
          named = λ t some. subst (λ (l : List (List Part)). IsThere l t) (sym paths)
              (met_with ps t p (h.met.named t some));
          begun = λ t some. subst (λ (l : List (List Part)). IsThere l (entered_path tables t)) (sym paths)
              (met_with ps (entered_path tables t) p (h.met.begun t some));
        };
        kept = λ q n none.
            let y : List Part = q ++ index n ∷ [] in
            let other : same_path y p ≡ false =
            false_from_ne_true (same_path y p) (λ e. key_or_index at q k n (sym ((path_decides y p).0 e))) in
            ap (list_any (same_path y)) paths
            ∙ false_from_ne_true (list_any (same_path y) (paths_with ps p))
            (λ e. differ (list_any (same_path y) ps) (there_before ps p y other e) (h.kept q n none));
      }

  -- a path that is there
  shaped_there : (ms : List Mention) (m : Mention) → IsShaped ms → IsThere (node_paths ms) m.path
      → IsShaped (ms ++ m ∷ [])
  shaped_there ms m h there =
      let ps : List (List Part) = node_paths ms in
      let paths : ps ≡ node_paths (ms ++ m ∷ []) =
      sym (paths_push ms m ∙ ap (λ (b : Bool). cond b ps (ps ++ m.path ∷ [])) there) in
      record {
        closed = subst IsClosed paths h.closed;
        entered = subst (λ (l : List (List Part)). AreEntered l tables) paths h.entered;
        met = subst (λ (l : List (List Part)). AreMet l tables) paths h.met;
        kept = λ q n none. subst (λ (l : List (List Part)). list_any (same_path (q ++ index n ∷ [])) l ≡ false) paths
            (h.kept q n none);
      }

  there_own : (ms : List Mention) (m : Mention) → IsThere (node_paths (ms ++ m ∷ [])) m.path
  there_own ms m = subst (λ (l : List (List Part)). IsThere l m.path) (sym (paths_push ms m))
      (met_own (node_paths ms) m.path)

  record Holds (ms : List Mention) : Type 0 where
    shaped : IsShaped ms
    listed : AreListed ms tables

  nested_by : (ms : List Mention) → Holds ms → AreNested ms tables
  nested_by ms h = record { closed = h.shaped.closed; listed = h.listed; entered = h.shaped.entered }

  holds_key : (ms : List Mention) (m : Mention) (at : List Part) (k : List ℕ) → Holds ms → m.path ≡ at ++ key k ∷ []
      → IsThere (node_paths ms) at → (0 < elements_of at tables → ⊥)
      → (may_follow (cons_option (role_of m.kind) []) ≡ true → 0 < elements_of m.path tables) → Holds (ms ++ m ∷ [])
  holds_key ms m at k h is there bare open_to = record {
    shaped = shaped_key ms m at k h.shaped is there bare;
    listed = listed_push ms m tables tables h.listed (λ t some. some) (λ path l e. open_to);
  }

  -- ---- the keys before the last

  -- the header goes on from a node that is no array of tables
  record IsPassed (ms : List Mention) (q : List Part) : Type 0 where
    holds : Holds (ms ++ passing_mentions tables q)
    there : IsThere (node_paths (ms ++ passing_mentions tables q)) (entered_path tables q)
    bare : 0 < elements_of (entered_path tables q) tables → ⊥

  none_by : (p : List Part) → (0 == elements_of p tables) ≡ true → 0 < elements_of p tables → ⊥
  none_by p e some = grind (arith, nat_tests)

  some_by : (p : List Part) → (0 == elements_of p tables) ≡ false → 0 < elements_of p tables
  some_by p e = grind (arith, nat_tests)

  passing : (ms : List Mention) (at : List Part) (k : List ℕ) → Holds ms → IsThere (node_paths ms) at
      → (0 < elements_of at tables → ⊥) → IsPassed ms (at ++ key k ∷ [])
  passing ms at k h there bare = by (0 == elements_of (at ++ key k ∷ []) tables) refl
    where
      by : (b : Bool) → (0 == elements_of (at ++ key k ∷ []) tables) ≡ b → IsPassed ms (at ++ key k ∷ [])
      by true e =
          let p : List Part = at ++ key k ∷ [] in
          let on : Mention = gone_through p in
          let shape : on ∷ [] ≡ passing_mentions tables p =
          sym (ap (λ (b : Bool). cond b (on ∷ []) (gone_past p ∷ gone_to tables p ∷ [])) e) in
          let same : p ≡ entered_path tables p =
          sym (ap (λ (b : Bool). cond b p (p ++ index (elements_of p tables - 1) ∷ [])) e) in
          record {
            holds = subst (λ (l : List Mention). Holds (ms ++ l)) shape
                (holds_key ms on at k h refl there bare (λ open_to. absurd cc));
            there = subst (λ (l : List Mention). IsThere (node_paths (ms ++ l)) (entered_path tables p)) shape
                (subst (IsThere (node_paths (ms ++ on ∷ []))) same (there_own ms on));
            bare = λ some. none_by p e (subst (λ (l : List Part). 0 < elements_of l tables) (sym same) some);
          }
      by false e =
          let p : List Part = at ++ key k ∷ [] in
          let top : Mention = gone_past p in
          let last : Mention = gone_to tables p in
          let some : 0 < elements_of p tables = some_by p e in
          let shape : top ∷ last ∷ [] ≡ passing_mentions tables p =
          sym (ap (λ (b : Bool). cond b (gone_through p ∷ []) (top ∷ last ∷ [])) e) in
          let whole : (ms ++ top ∷ []) ++ last ∷ [] ≡ ms ++ passing_mentions tables p =
          append_assoc ms (top ∷ []) (last ∷ []) ∙ ap (λ (l : List Mention). ms ++ l) shape in
          let way : entered_path tables p ≡ p ++ index (elements_of p tables - 1) ∷ [] =
          enters tables p (elements_of p tables) refl some in
          let one : Holds (ms ++ top ∷ []) = holds_key ms top at k h refl there bare (λ open_to. some) in
          let two : Holds ((ms ++ top ∷ []) ++ last ∷ []) = record {
            shaped = shaped_there (ms ++ top ∷ []) last one.shaped (one.shaped.met.begun p some);
            listed = listed_push (ms ++ top ∷ []) last tables tables one.listed (λ t h. h)
                (λ path l e open_to. absurd (key_or_index path p l (elements_of p tables - 1) (sym e ∙ way)));
          } in
          let all : Holds (ms ++ passing_mentions tables p) = subst Holds whole two in
          record {
            holds = all;
            there = all.shaped.met.begun p some;
            bare = λ h. bare_elements p (elements_of p tables - 1)
                (subst (λ (l : List Part). 0 < elements_of l tables) way h);
          }

  -- before the last key, whose path is one step below such a node
  record IsWalked (ms : List Mention) (path : List Part) : Type 0 where
    holds : Holds ms
    parent : List Part
    last : List ℕ
    is : path ≡ parent ++ key last ∷ []
    there : IsThere (node_paths ms) parent
    bare : 0 < elements_of parent tables → ⊥

  walk : (ms : List Mention) (at : List Part) (k : List ℕ) (ks : List (List ℕ)) → Holds ms → IsThere (node_paths ms) at
      → (0 < elements_of at tables → ⊥)
      → IsWalked (ms ++ header_prefixes tables at (k ∷ ks)) (header_path tables at (k ∷ ks))
  walk ms at k [] h there bare = record {
    holds = subst Holds (sym (append-nil ms)) h;
    parent = at;
    last = k;
    is = refl;
    there = subst (λ (l : List Mention). IsThere (node_paths l) at) (sym (append-nil ms)) there;
    bare = bare;
  }
  walk ms at k (l ∷ ks) h there bare =
      let q : List Part = at ++ key k ∷ [] in
      let on : IsPassed ms q = passing ms at k h there bare in
      subst (λ (all : List Mention). IsWalked all (header_path tables (entered_path tables q) (l ∷ ks)))
      (append_assoc ms (passing_mentions tables q) (header_prefixes tables (entered_path tables q) (l ∷ ks)))
      (walk (ms ++ passing_mentions tables q) (entered_path tables q) l ks on.holds on.there on.bare)

-- ---- a document with a header more

module _ (d : Document) where
  abbrev tables : List (List Part)
  tables = (reading_at_end d).tables

  abbrev ms : List Mention
  ms = mentions_in d

  bare_elements : (t : List Part) (n : ℕ) → 0 < elements_of (t ++ index n ∷ []) tables → ⊥
  bare_elements t n some = element_has_no_element d t n some

  -- before the header
  begin : AreNested ms tables → Holds ms tables bare_elements ms
  begin nested = record {
    shaped = record {
      closed = nested.closed;
      entered = nested.entered;
      met = record {
        named = λ t some. node_met t ms ∙ table_is_node d t some;
        begun = λ t some.
            ap (λ (p : List Part). list_any (same_path p) (node_paths ms))
            (enters tables t (elements_of t tables) refl some)
            ∙ node_met (t ++ index (elements_of t tables - 1) ∷ []) ms
            ∙ element_is_node d t (elements_of t tables - 1) (omega (arith, some));
      };
      kept = λ q n none. none;
    };
    listed = nested.listed;
  }

  -- before its last key
  walked : (k : List ℕ) (ks : List (List ℕ)) → AreNested ms tables
      → IsWalked ms tables bare_elements (ms ++ header_prefixes tables [] (k ∷ ks)) (header_path tables [] (k ∷ ks))
  walked k ks nested = walk ms tables bare_elements ms [] k ks (begin nested) (node_met [] ms) (root_has_no_element d)

  table_nested : (k : List ℕ) (ks : List (List ℕ)) → AreNested ms tables
      → AreNested (ms ++ statement_mentions (reading_at_end d) (header (k ∷ ks))) tables
  table_nested k ks nested =
      let way : List Mention = header_prefixes tables [] (k ∷ ks) in
      let last : Mention = record { path = header_path tables [] (k ∷ ks); kind = define } in
      let w = walked k ks nested in
      subst (λ (l : List Mention). AreNested l tables) (append_assoc ms way (last ∷ []))
      (nested_by ms tables bare_elements ((ms ++ way) ++ last ∷ [])
      (holds_key ms tables bare_elements (ms ++ way) last w.parent w.last w.holds w.is w.there w.bare
      (λ open_to. absurd cc)))

  element_nested : (k : List ℕ) (ks : List (List ℕ))
      → ObeysRules (marks (ms ++ statement_mentions (reading_at_end d) (element_header (k ∷ ks)))) → AreNested ms tables
      → AreNested (ms ++ statement_mentions (reading_at_end d) (element_header (k ∷ ks)))
      (tables ++ header_path tables [] (k ∷ ks) ∷ [])
  element_nested k ks obeys nested =
      let path : List Part = header_path tables [] (k ∷ ks) in
      let n : ℕ = elements_of path tables in
      let new : List Part = path ++ index n ∷ [] in
      let later : List (List Part) = tables ++ path ∷ [] in
      let way : List Mention = header_prefixes tables [] (k ∷ ks) in
      let top : Mention = record { path = path; kind = element } in
      let last : Mention = record { path = new; kind = begun } in
      let w = walked k ks nested in
      let xs : List Mention = (ms ++ way) ++ top ∷ [] in
      let s : IsShaped ms tables bare_elements xs =
      shaped_key ms tables bare_elements (ms ++ way) top w.parent w.last w.holds.shaped w.is w.there w.bare in
      let fresh : list_any (same_path new) (node_paths xs) ≡ false =
      s.kept path n (node_met new ms ∙ element_is_new d k ks obeys) in
      let paths : node_paths xs ++ new ∷ [] ≡ node_paths (xs ++ last ∷ []) =
      sym (paths_push xs last ∙ ap (λ (b : Bool). cond b (node_paths xs) (node_paths xs ++ new ∷ [])) fresh) in
      let listed : AreListed xs later =
      listed_push (ms ++ way) top tables later w.holds.listed (λ t some. more path t some)
      (λ at l e open_to. omega (arith, elements_here path tables)) in
      let all : AreNested (xs ++ last ∷ []) later = record {
        closed = subst IsClosed paths
            (closed_push (node_paths xs) path (index n) s.closed (there_own ms tables bare_elements (ms ++ way) top));
        listed = listed_push xs last later later listed (λ t some. some)
            (λ at l e open_to. absurd (key_or_index at path l n (sym e)));
        entered = subst (λ (ps : List (List Part)). AreEntered ps later) paths
            (entered_begun (node_paths xs) tables path s.entered s.met fresh);
      } in
      subst (λ (l : List Mention). AreNested l later)
      (append_assoc (ms ++ way) (top ∷ []) (last ∷ []) ∙ append_assoc ms way (top ∷ last ∷ [])) all
    where
      more : (path t : List Part) → 0 < elements_of t tables → 0 < elements_of t (tables ++ path ∷ [])
      more path t some = by (same_path path t) refl
        where
          by : (b : Bool) → same_path path t ≡ b → 0 < elements_of t (tables ++ path ∷ [])
          by true e = subst (λ (q : List Part). 0 < elements_of q (tables ++ path ∷ [])) ((path_decides path t).0 e)
              (omega (arith, elements_here path tables))
          by false e = omega (
            arith,
            some,
            elements_other t path tables
                (λ same. differ (same_path path t) ((path_decides path t).1 same) e),
          )

-- ---- the law

pub statement_is_nested : StatementIsNested
statement_is_nested d more s is last obeys nested = by s is last
  where
    said : (s : Statement) → HasStatementMore d s more
        → mentions_in d ++ statement_mentions (reading_at_end d) s ≡ mentions_in more
    said s last =
        let ss : List Statement = statements_in d in
        let own : List Mention = statement_mentions (reading_at_end d) s in
        sym (mentions_in-statements more ∙ ap (mentions_from start) last ∙ mentions_from-append start ss (s ∷ [])
        ∙ ap (λ (l : List Mention). mentions_from start ss ++ l) (append-nil own)
        ∙ ap (λ (l : List Mention). l ++ own) (sym (mentions_in-statements d)))

    tables_are : (s : Statement) → HasStatementMore d s more
        → (next_reading (reading_at_end d) s).tables ≡ (reading_at_end more).tables
    tables_are s last =
        sym (ap (λ (ss : List Statement). (reading_after start ss).tables) last
        ∙ ap (λ (r : Reading). r.tables) (reading_after-append start (statements_in d) (s ∷ [])))

    whole : (s : Statement) → HasStatementMore d s more
        → AreNested (mentions_in d ++ statement_mentions (reading_at_end d) s)
        (next_reading (reading_at_end d) s).tables → NodesAreNested more
    whole s last h =
        subst (λ (l : List Mention). AreNested l (reading_at_end more).tables) (said s last)
        (subst (AreNested (mentions_in d ++ statement_mentions (reading_at_end d) s)) (tables_are s last) h)

    by : (s : Statement) → IsHeader s → HasStatementMore d s more → NodesAreNested more
    by (header []) is last = absurd (header_has_key d more last)
    by (header (k ∷ ks)) is last = whole (header (k ∷ ks)) last (table_nested d k ks nested)
    by (element_header []) is last = absurd (element_has_key d more last)
    by (element_header (k ∷ ks)) is last =
        whole (element_header (k ∷ ks)) last
        (element_nested d k ks
        (subst (λ (l : List Mention). ObeysRules (marks l)) (sym (said (element_header (k ∷ ks)) last)) obeys) nested)
    by (keyval inner) is last = absurd is
