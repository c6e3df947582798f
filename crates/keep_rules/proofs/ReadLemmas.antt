-- Statements, one after another.
--
-- What a call does for the keys of a statement is put together to what the statement does: the keys but the last are a
-- descent, and then the last one defines a table or begins an element. The mentions of a header are those of the
-- descent and that of the last key, so the nodes represent one statement more (`header_reads`, `element_reads`,
-- `keyval_reads`). From there on it is an induction over the list of statements, with one more at its end
-- (`read_more`), which begins with the root alone, where no mention is represented (`root_represents`).
--
-- Theorems: `read_more`: one statement more; `root_reads`: none yet; `read_obeys`: what was read obeys the rules.
use Rattle.std.proofs.Common.{◌≡◌, ℕ, zero, suc, ◌<◌, false, List, [], ◌∷◌, ◌++◌, length, get_or, refl, sym, ◌∙◌, ap}
use Rattle.std.proofs.Common.{subst, arith, length-append, true, cond, Option, Some, None}
use Rattle.std.proofs.lemmas.List.{append_assoc, append-nil}
use Rattle.keep_syntax.specs.Tree.{Name, Value}
use Rattle.keep_types.specs.declared.role.Role.{Role}
use Rattle.keep_types.specs.declared.role.Role.TheVariants.{Define}
use Rattle.keep_path.specs.Path.{Part, key, index}
use Rattle.keep_meaning.specs.Rules.{ObeysRules}
use Rattle.keep_meaning.specs.Marks as marks
use Rattle.keep_meaning.specs.Marks.{Mention, Statement, Reading, statement_mentions, next_reading, mentions_from}
use Rattle.keep_meaning.specs.Marks.{reading_after, mentions, start, elements_of, header, element_header, keyval}
use Rattle.keep_meaning.specs.Marks.{define}
use Rattle.keep_meaning.specs.Meaning.{keyval_mentions}
use Rattle.keep_index_store.specs.Trie.{TrieNode, by_key, path_at, state_at, children_of}
use Rattle.keep_meaning.specs.State.{IsState}
use Rattle.keep_rules.specs.RoleStates.{IsIndexOf}
use Rattle.keep_rules.specs.Tables.{is_tables, IsShaped}
use Rattle.keep_rules.specs.Represents.{Keeps, IsDefined, Represents, IsOpen, Begins}
use Rattle.keep_rules.specs.Descents.{descent_path, descent_mentions}
use Rattle.keep_rules.specs.Steps.{HeaderDescent}
use Rattle.keep_rules.specs.NestedValues.{all_nested_mentions, body_nesting, keyval_nested}
use Rattle.keep_rules.specs.Reads.{IsReading, Reads}
use Rattle.keep_rules.proofs.KeyWalkLemmas.{header_prefixes-split, header_path-split}
use Rattle.keep_rules.proofs.PassLemmas.{represents_marked}
use Rattle.keep_rules.proofs.StepLemmas.{keeps_then, stays_open}
use Rattle.keep_rules.proofs.NestedValueLemmas.{keyval_nested-mentions}

-- `[..]`
pub header_reads : (old mid new : List TrieNode) (at to : ℕ) (leading : List (List ℕ)) (last : List ℕ)
    → HeaderDescent old mid at leading → IsDefined mid new (path_at mid at ++ key last ∷ []) Define by_key to
    → (body : ℕ) → Reads old body new to (header (leading ++ last ∷ []))
header_reads old mid new at to leading last walked marked body ms r reading =
    let ts : List (List Part) = r.tables in
    let p : List Part = descent_path ts [] leading ++ key last ∷ [] in
    let before = walked.represents ms ts reading.represents in
    let full : path_at mid at ++ key last ∷ [] ≡ p =
    ap (λ q. q ++ key last ∷ []) (walked.is_open ms ts reading.represents).here in
    let full' : p ≡ marks.header_path ts [] (leading ++ last ∷ []) = sym (header_path-split ts [] leading last) in
    let step : IsIndexOf new ((ms ++ descent_mentions ts [] leading) ++ record { path = p; kind = define } ∷ []) =
    subst (λ (q : List Part).
    IsIndexOf new ((ms ++ descent_mentions ts [] leading) ++ record { path = q; kind = define } ∷ [])) full
    (marked.index (ms ++ descent_mentions ts [] leading) define refl before.index) in
    let whole : (ms ++ descent_mentions ts [] leading) ++ record { path = p; kind = define } ∷ [] ≡ ms
    ++ statement_mentions r (header (leading ++ last ∷ [])) =
    append_assoc ms (descent_mentions ts [] leading) (record { path = p; kind = define } ∷ [])
    ∙ ap (λ w. ms ++ (w ++ record { path = p; kind = define } ∷ [])) (sym (header_prefixes-split ts [] leading last))
    ∙ ap (λ q. ms ++ (marks.header_prefixes ts [] (leading ++ last ∷ []) ++ record { path = q; kind = define } ∷ []))
    full' in
    record {
      represents =
          subst (λ (w : List Mention). Represents new w ts) whole
          (represents_marked marked refl (ms ++ descent_mentions ts [] leading)
          (record { path = p; kind = define } ∷ []) ts step before);
      rooted = (keeps_then walked.keeps marked.keeps).holdings 0 reading.represents.index.trie.root ∙ reading.rooted;
      is_open = record {
        nested = marked.nested;
        here = marked.here ∙ full ∙ full';
        open_to = marked.opened refl;
      };
    }

-- `[[..]]`
pub element_reads : (old mid new : List TrieNode) (at to : ℕ) (leading : List (List ℕ)) (last : List ℕ)
    → HeaderDescent old mid at leading → Begins mid new at to last
    → (body : ℕ) → Reads old body new to (element_header (leading ++ last ∷ []))
element_reads old mid new at to leading last walked begun body ms r reading =
    let ts : List (List Part) = r.tables in
    let p : List Part = descent_path ts [] leading ++ key last ∷ [] in
    let hp : List Part = marks.header_path ts [] (leading ++ last ∷ []) in
    let before = walked.represents ms ts reading.represents in
    let full : path_at mid at ++ key last ∷ [] ≡ hp =
    ap (λ q. q ++ key last ∷ []) (walked.is_open ms ts reading.represents).here
    ∙ sym (header_path-split ts [] leading last) in
    let two : List Part → List Mention =
    λ q. record { path = q; kind = marks.element }
    ∷ record { path = q ++ index (elements_of q ts) ∷ []; kind = marks.begun } ∷ [] in
    let step : Represents new ((ms ++ descent_mentions ts [] leading) ++ two hp) (ts ++ hp ∷ []) =
    subst (λ (q : List Part). Represents new ((ms ++ descent_mentions ts [] leading) ++ two q) (ts ++ q ∷ [])) full
    (begun.represents (ms ++ descent_mentions ts [] leading) ts before) in
    let whole : (ms ++ descent_mentions ts [] leading) ++ two hp ≡ ms
    ++ statement_mentions r (element_header (leading ++ last ∷ [])) =
    append_assoc ms (descent_mentions ts [] leading) (two hp)
    ∙ ap (λ w. ms ++ (w ++ two hp)) (sym (header_prefixes-split ts [] leading last)) in
    record {
      represents = subst (λ (w : List Mention). Represents new w (ts ++ hp ∷ [])) whole step;
      rooted = (keeps_then walked.keeps begun.keeps).holdings 0 reading.represents.index.trie.root ∙ reading.rooted;
      is_open =
          subst (λ (q : List Part). IsOpen new to (q ++ index (elements_of q ts) ∷ [])) full
          (begun.is_open (ms ++ descent_mentions ts [] leading) ts before);
    }

-- a keyval, whose values were all read
pub keyval_reads : (old new : List TrieNode) (body : ℕ) (name : Name) (v : Value) → Keeps old new
    → ((ms : List Mention) (r : Reading) → IsReading old body ms r
    → Represents new (ms ++ all_nested_mentions (body_nesting r.body) (keyval_nested name v)) r.tables)
    → Reads old body new body (keyval (keyval_mentions name v))
keyval_reads old new body name v keeps represents ms r reading = record {
  represents =
      subst (λ (w : List Mention). Represents new (ms ++ w) r.tables) (keyval_nested-mentions r.body name v)
      (represents ms r reading);
  rooted = keeps.holdings 0 reading.represents.index.trie.root ∙ reading.rooted;
  is_open = stays_open keeps reading.is_open;
}

-- ---- statement after statement

pub mentions_from-append : (r : Reading) (ss ts : List Statement)
    → mentions_from r (ss ++ ts) ≡ mentions_from r ss ++ mentions_from (reading_after r ss) ts
mentions_from-append r [] ts = refl
mentions_from-append r (s ∷ ss) ts =
    ap (λ w. statement_mentions r s ++ w) (mentions_from-append (next_reading r s) ss ts)
    ∙ sym (append_assoc (statement_mentions r s) (mentions_from (next_reading r s) ss)
    (mentions_from (reading_after (next_reading r s) ss) ts))

pub reading_after-push : (r : Reading) (ss : List Statement) (s : Statement)
    → reading_after r (ss ++ s ∷ []) ≡ next_reading (reading_after r ss) s
reading_after-push r [] s = refl
reading_after-push r (t ∷ ss) s = reading_after-push (next_reading r t) ss s

abbrev pub IsReadTo : List TrieNode → ℕ → List Statement → Type 0
IsReadTo nodes body ss = IsReading nodes body (mentions_from start ss) (reading_after start ss)

pub read_more : (old new : List TrieNode) (body to : ℕ) (ss : List Statement) (s : Statement) → IsReadTo old body ss
    → Reads old body new to s → IsReadTo new to (ss ++ s ∷ [])
read_more old new body to ss s before reads =
    let r : Reading = reading_after start ss in
    let step : IsReading new to (mentions_from start ss ++ statement_mentions r s) (next_reading r s) =
    reads (mentions_from start ss) r before in
    let mentioned : mentions_from start ss ++ statement_mentions r s ≡ mentions_from start (ss ++ s ∷ []) =
    ap (λ w. mentions_from start ss ++ w) (sym (append-nil (statement_mentions r s)))
    ∙ sym (mentions_from-append start ss (s ∷ [])) in
    let one : IsReading new to (mentions_from start (ss ++ s ∷ [])) (next_reading r s) =
    subst (λ (w : List Mention). IsReading new to w (next_reading r s)) mentioned step in
    subst (λ (x : Reading). IsReading new to (mentions_from start (ss ++ s ∷ [])) x)
    (sym (reading_after-push start ss s)) one

pub read_obeys : (nodes : List TrieNode) (body : ℕ) (ss : List Statement) → IsReadTo nodes body ss
    → ObeysRules (marks.marks (mentions ss))
read_obeys nodes body ss reading = reading.represents.index.states_represent.obeys

-- ---- before any statement

root_state : (i : ℕ) (t : TrieNode) → t.state ≡ None → i < 1 → state_at (t ∷ []) i ≡ None
root_state zero t e h = e
root_state (suc i) t e h = absurd (omega arith)

state_of_none : (s : Option Role) → s ≡ None → IsState s []
state_of_none s e = subst (λ (o : Option Role). IsState o []) (sym e) refl

root_shaped : (t : TrieNode) → t.state ≡ None → IsShaped (t ∷ [])
root_shaped t none = record {
  elements = λ i k h l low. absurd (omega arith);
  plain = λ i k h l low. absurd (omega arith);
  marked = λ i p k h is. absurd (root_path i p k h is);
  fits = λ i s h is. absurd (let no : None ≡ Some s = sym (root_state i t none h) ∙ is in cc);
}
  where
    root_path : (i : ℕ) (p : List Part) (k : List ℕ) → i < 1 → get_or ([] ∷ []) i [] ≡ p ++ key k ∷ [] → ⊥
    root_path zero p k h is = absurd (omega (arith, ap length is, length-append p (key k ∷ [])))
    root_path (suc i) p k h is = absurd (omega arith)

-- the root alone, with no mention or with one that is no mark
pub root_represents : (t : TrieNode) → t.state ≡ None → Represents (t ∷ []) [] []
root_represents t none = record {
  index = record {
    trie = record {
      root = omega arith;
      parents = λ i d low h. absurd (omega arith);
      distinct = λ i j d low h e. absurd (omega arith);
    };
    states_represent = record {
      paths_are = refl;
      many = refl;
      states_are = λ i h. state_of_none (state_at (t ∷ []) i) (root_state i t none h);
      silent = λ p no. refl;
      obeys = λ i j d low h. absurd (omega arith);
    };
  };
  shaped = root_shaped t none;
  tables_are = record {
    counts = λ i h. sym (ap (λ o. cond (is_tables o) (length (children_of (t ∷ []) i)) 0) (root_state i t none h));
    unmet = λ p no. refl;
  };
  begun = λ i h l. absurd (let no : true ≡ false = sym l ∙ ap is_tables (root_state i t none h) in cc);
}

pub root_reads : (t : TrieNode) → t.state ≡ None → t.holds ≡ by_key → IsReading (t ∷ []) 0 [] start
root_reads t none keyed = record {
  represents = root_represents t none;
  rooted = keyed;
  is_open = record { nested = omega arith; here = refl; open_to = keyed };
}
