-- A header goes past a key.
--
-- There are two cases, by whether the path has elements. If not, the key is marked as one that a header goes through,
-- and the header goes on in its node (`passes_marked`). If it has, it is an array of tables, and the header goes on in
-- the node of its last element (`passes_element`); then no node changes at all. For this the array has to stay what it
-- is: a role that allows elements also allows `Past`, and allows the same with one `Past` more (`lets_past`, `as_past`,
-- one case for each pair of roles). The node of the last element is at the path that the definition enters
-- (`element_place`).
--
-- Theorems: `passes_marked` and `passes_element`: where the header goes on, and with which mentions.
use Rattle.std.proofs.Common.{◌≡◌, ℕ, ◌-◌, ◌<◌, Bool, true, false, cond, ◌&&◌, List, [], ◌∷◌, ◌++◌, length, get_or}
use Rattle.std.proofs.Common.{refl, sym, ◌∙◌, ap, subst, arith, Option, Some, None, inl, inr}
use Rattle.std.specs.Prelude.{Contains, ◌==◌}
use Rattle.std.specs.List.{list_all}
use Rattle.std.proofs.lemmas.List.{append-nil, append_assoc}
use Rattle.std.proofs.lemmas.List.Folds.{list_all-append}
use Rattle.std.proofs.lemmas.Bool.Decides.{Decides-eqb}
use Rattle.std.proofs.lemmas.Bool.{cases_Bool}
use Rattle.keep_syntax.specs.declared.fault.Why.{Why}
use Rattle.keep_syntax.specs.declared.fault.Why.TheVariants.{NotATable}
use Rattle.keep_types.specs.declared.role.Role.{Role}
use Rattle.keep_types.specs.declared.role.Role.TheVariants.{Through, Past, Define, Element, Dotted, Value}
use Rattle.keep_path.specs.Path.{Part, key, index}
use Rattle.keep_meaning.specs.Rules.{allows}
use Rattle.keep_meaning.specs.Marks.{through, past, passed, Mention, elements_of, passing_mentions, entered_path}
use Rattle.keep_index_store.specs.Trie.{TrieNode, Holding, by_key, IsTrie, paths_of, path_at, states_of, state_at}
use Rattle.keep_index_store.specs.Trie.{holds_at, children_of}
use Rattle.keep_meaning.specs.State.{IsState}
use Rattle.keep_rules.specs.declared.definitions.DefineFault.{DefineFault}
use Rattle.keep_rules.specs.declared.definitions.DefineFault.TheVariants as fault
use Rattle.keep_rules.specs.DefineFaults.{FaultMeets}
use Rattle.keep_rules.specs.Tables.{is_tables, IsShaped, IsTable}
use Rattle.keep_rules.specs.RoleStates.{mention_roles, StatesRepresent, IsIndexOf}
use Rattle.keep_rules.specs.Represents.{Keeps, IsDefined, Represents, Enters, IsLastElement, HasNoElement, IsRefusedAt}
use Rattle.keep_rules.specs.Represents.{IsEntryRefusedAt, WasRefused}
use Rattle.keep_index_store.proofs.Shared.{length-paths_of, child_at, first}
use Rattle.keep_rules.proofs.RoleStateLemmas.{represented_same, obeys_push, obeys_bare, false_ne}
use Rattle.keep_rules.proofs.TablesLemmas.{tables_listed}
use Rattle.keep_rules.proofs.MarkLemmas.{state_represents}

-- the mentions of a header that passes a path without elements, and one with some
pub passing-none : (tables : List (List Part)) (path : List Part) → elements_of path tables ≡ 0
    → passing_mentions tables path ≡ record { path = path; kind = through } ∷ []
passing-none tables path none =
    ap (λ c.
    cond (0 == c) (record { path = path; kind = through } ∷ [])
    (record { path = path; kind = past } ∷ record { path = entered_path tables path; kind = passed } ∷ [])) none

pub entered-none : (tables : List (List Part)) (path : List Part) → elements_of path tables ≡ 0
    → entered_path tables path ≡ path
entered-none tables path none = ap (λ c. cond (0 == c) path (path ++ index (c - 1) ∷ [])) none

not_zero : (c : ℕ) → 0 < c → (0 == c) ≡ false
not_zero c h = false_ne (0 == c) (λ t. absurd (omega (arith, (Decides-eqb 0 c).0 t, h)))

pub passing-some : (tables : List (List Part)) (path : List Part) → 0 < elements_of path tables
    → passing_mentions tables path ≡ record { path = path; kind = past }
    ∷ record { path = entered_path tables path; kind = passed } ∷ []
passing-some tables path some =
    ap (λ b.
    cond b (record { path = path; kind = through } ∷ [])
    (record { path = path; kind = past } ∷ record { path = entered_path tables path; kind = passed } ∷ []))
    (not_zero _ some)

pub entered-some : (tables : List (List Part)) (path : List Part) → 0 < elements_of path tables
    → entered_path tables path ≡ path ++ index (elements_of path tables - 1) ∷ []
entered-some tables path some =
    ap (λ b. cond b path (path ++ index (elements_of path tables - 1) ∷ [])) (not_zero _ some)

-- a mark that names no array of tables
pub represents_marked : {old new : List TrieNode} {path : List Part} {role : Role} {holds : Holding} {id : ℕ}
    → IsDefined old new path role holds id → allows role Element ≡ false
    → (ms w : List Mention) (tables : List (List Part)) → IsIndexOf new (ms ++ w) → Represents old ms tables
    → Represents new (ms ++ w) tables
represents_marked marked other ms w tables known represents = record {
  index = known;
  shaped = marked.shaped;
  tables_are = marked.tables tables represents.tables_are;
  begun = marked.begun other represents.begun;
}

-- a key without elements
pub passes_marked : (old new : List TrieNode) (parent id : ℕ) (k : List ℕ)
    → IsDefined old new (path_at old parent ++ key k ∷ []) Through by_key id
    → HasNoElement old (path_at old parent ++ key k ∷ []) → Enters old new parent id k
passes_marked old new parent id k marked none =
    let p : List Part = path_at old parent ++ key k ∷ [] in
    record {
      keeps = marked.keeps;
      table = record { within = marked.nested; keyed = marked.opened refl };
      represents = λ ms tables represents.
          let zero : elements_of p tables ≡ 0 = none tables represents.tables_are represents.begun in
          let grown : IsIndexOf new (ms ++ record { path = p; kind = through } ∷ []) =
          marked.index ms through refl represents.index in
          represents_marked marked refl ms (passing_mentions tables p) tables
          (subst (λ (w : List Mention). IsIndexOf new (ms ++ w)) (sym (passing-none tables p zero)) grown) represents;
      is_open = λ ms tables represents.
          let zero : elements_of p tables ≡ 0 = none tables represents.tables_are represents.begun in
          record {
            nested = marked.nested;
            here = marked.here ∙ sym (entered-none tables p zero);
            open_to = marked.opened refl;
          };
    }

-- an array of tables stays one after `Past`
as_past : (s r : Role) → allows s Element ≡ true → allows s r ≡ (allows s r && allows Past r)
as_past Through r h = cc
as_past Define r h = cc
as_past Dotted r h = cc
as_past Value r h = cc
as_past Past Through h = refl
as_past Past Past h = refl
as_past Past Define h = refl
as_past Past Element h = refl
as_past Past Dotted h = refl
as_past Past Value h = refl
as_past Element Through h = refl
as_past Element Past h = refl
as_past Element Define h = refl
as_past Element Element h = refl
as_past Element Dotted h = refl
as_past Element Value h = refl

lets_past : (s : Role) → allows s Element ≡ true → allows s Past ≡ true
lets_past Through h = cc
lets_past Define h = cc
lets_past Dotted h = cc
lets_past Value h = cc
lets_past Past h = refl
lets_past Element h = refl

and_true : (b : Bool) → b ≡ (b && true)
and_true true = refl
and_true false = refl

state_past : (o : Option Role) (roles : List Role) → is_tables o ≡ true → IsState o roles
    → IsState o (roles ++ Past ∷ [])
state_past None roles t is = cc
state_past (Some s) roles t is = λ r.
    as_past s r t ∙ ap (λ b. b && allows Past r) (is r)
    ∙ ap (λ b. list_all (λ e. allows e r) roles && b) (and_true (allows Past r))
    ∙ sym (list_all-append (λ e. allows e r) roles (Past ∷ []))

all_past : (o : Option Role) (roles : List Role) → is_tables o ≡ true → IsState o roles
    → list_all (λ e. allows e Past) roles ≡ true
all_past None roles t is = cc
all_past (Some s) roles t is = sym (is Past) ∙ lets_past s t

pub keeps_same : (nodes : List TrieNode) → Keeps nodes nodes
keeps_same nodes = record { longer = omega arith; paths = λ i h. refl; holdings = λ i h. refl; kinds = λ i h. refl }

-- the elements of an array of tables, and the node of the last of them
pub elements_there : (nodes : List TrieNode) (p : List Part) (child to : ℕ) → IsLastElement nodes p child to
    → (ms : List Mention) (tables : List (List Part)) → Represents nodes ms tables
    → elements_of p tables ≡ length (children_of nodes child)
elements_there nodes p child to last ms tables represents =
    ap (λ q. elements_of q tables) (sym last.here) ∙ represents.tables_are.counts child last.nested
    ∙ ap (λ t. cond t (length (children_of nodes child)) 0) last.tables

pub element_place : (nodes : List TrieNode) (p : List Part) (child to : ℕ) → IsLastElement nodes p child to
    → (ms : List Mention) (tables : List (List Part)) → Represents nodes ms tables
    → path_at nodes to ≡ entered_path tables p
element_place nodes p child to last ms tables represents =
    let kids : ℕ = length (children_of nodes child) in
    let low : kids - 1 < kids = omega (arith, last.some) in
    let counted : elements_of p tables ≡ kids = elements_there nodes p child to last ms tables represents in
    ap (path_at nodes) last.last
    ∙ represents.shaped.elements child (kids - 1) last.nested
    (tables_listed nodes represents.shaped child last.nested last.tables) low
    ∙ ap (λ q. q ++ index (kids - 1) ∷ []) last.here ∙ ap (λ c. p ++ index (c - 1) ∷ []) (sym counted)
    ∙ sym (entered-some tables p (omega (arith, last.some, counted)))

-- the last element comes after the array of tables
pub element_later : (nodes : List TrieNode) → IsTrie nodes → (p : List Part) (child to : ℕ)
    → IsLastElement nodes p child to → child < to
element_later nodes trie p child to last =
    let d : TrieNode = first nodes trie in
    let one =
    child_at nodes trie child (length (children_of nodes child) - 1) d last.nested (omega (arith, last.some)) in
    subst (λ (x : ℕ). child < x) (sym last.last) (omega (arith, one.parent d, trie.parents _ d one.later one.nested))

-- past an array of tables to its last element
pub passes_element : (nodes : List TrieNode) (parent child to : ℕ) (k : List ℕ)
    → IsLastElement nodes (path_at nodes parent ++ key k ∷ []) child to → Enters nodes nodes parent to k
passes_element nodes parent child to k last =
    let kids : ℕ = length (children_of nodes child) in
    let p : List Part = path_at nodes parent ++ key k ∷ [] in
    let counted : (tables : List (List Part)) (ms : List Mention) → Represents nodes ms tables
    → elements_of p tables ≡ kids = λ tables ms represents. elements_there nodes p child to last ms tables represents in
    let placed : (tables : List (List Part)) (ms : List Mention) → Represents nodes ms tables
    → path_at nodes to ≡ entered_path tables p =
    λ tables ms represents. element_place nodes p child to last ms tables represents in
    record {
      keeps = keeps_same nodes;
      table = last.table;
      represents = λ ms tables represents.
          let trie : IsTrie nodes = represents.index.trie in
          let some : 0 < elements_of p tables = omega (arith, last.some, counted tables ms represents) in
          let goal_path = placed tables ms represents in
          let m1 : Mention = record { path = p; kind = past } in
          let m2 : Mention = record { path = entered_path tables p; kind = passed } in
          let own : IsState (state_at nodes child) (mention_roles p ms) =
          state_represents nodes ms represents.index child p last.nested last.here in
          let size : length (paths_of nodes) ≡ length nodes = length-paths_of nodes trie.root in
          let one : StatesRepresent (paths_of nodes) (states_of nodes) (ms ++ m1 ∷ []) =
          represented_same (paths_of nodes) (states_of nodes) ms m1 child represents.index.states_represent
          trie.distinct (omega (arith, last.nested)) (sym last.here)
          (state_past (state_at nodes child) (mention_roles p ms) last.tables own)
          (obeys_push ms m1 Past refl (all_past (state_at nodes child) (mention_roles p ms) last.tables own)
          represents.index.states_represent.obeys) in
          let rest : IsState (state_at nodes to) (mention_roles (entered_path tables p) (ms ++ m1 ∷ [])) =
          subst (λ (q : List Part). IsState (state_at nodes to) (mention_roles q (ms ++ m1 ∷ []))) goal_path
          (one.states_are to (omega (arith, last.table.within))) in
          let two : StatesRepresent (paths_of nodes) (states_of nodes) ((ms ++ m1 ∷ []) ++ m2 ∷ []) =
          represented_same (paths_of nodes) (states_of nodes) (ms ++ m1 ∷ []) m2 to one trie.distinct
          (omega (arith, last.table.within)) (sym goal_path)
          (subst (λ (rs : List Role). IsState (state_at nodes to) rs)
          (sym (append-nil (mention_roles (entered_path tables p) (ms ++ m1 ∷ [])))) rest)
          (obeys_bare (ms ++ m1 ∷ []) m2 refl one.obeys) in
          let whole : (ms ++ m1 ∷ []) ++ m2 ∷ [] ≡ ms ++ passing_mentions tables p =
          append_assoc ms (m1 ∷ []) (m2 ∷ []) ∙ ap (λ w. ms ++ w) (sym (passing-some tables p some)) in
          record {
            index = record {
              trie = trie;
              states_represent =
                  subst (λ (w : List Mention). StatesRepresent (paths_of nodes) (states_of nodes) w) whole two;
            };
            shaped = represents.shaped;
            tables_are = represents.tables_are;
            begun = represents.begun;
          };
      is_open = λ ms tables represents.
          record { nested = last.table.within; here = placed tables ms represents; open_to = last.table.keyed };
    }

pub none_unmet : (nodes : List TrieNode) (path : List Part) → (Contains (paths_of nodes) path → ⊥)
    → HasNoElement nodes path
none_unmet nodes path fresh = λ ts are begun. are.unmet path fresh

pub none_plain : (nodes : List TrieNode) (path : List Part) (child : ℕ) → child < length nodes
    → path_at nodes child ≡ path → is_tables (state_at nodes child) ≡ false → HasNoElement nodes path
none_plain nodes path child h here plain = λ ts are begun.
    ap (λ p. elements_of p ts) (sym here) ∙ are.counts child h
    ∙ ap (λ t. cond t (length (children_of nodes child)) 0) plain

pub none_empty : (nodes : List TrieNode) (path : List Part) (child : ℕ) → child < length nodes
    → path_at nodes child ≡ path → length (children_of nodes child) ≡ 0 → HasNoElement nodes path
none_empty nodes path child h here empty = λ ts are begun.
    elim (cases_Bool (is_tables (state_at nodes child))) [
      | inl t ↦ absurd (omega (arith, begun child h t, empty))
      | inr f ↦ none_plain nodes path child h here f ts are begun
    ]

-- the last element is a table
pub element_table : (nodes : List TrieNode) → IsShaped nodes → (child to : ℕ) → child < length nodes
    → is_tables (state_at nodes child) ≡ true → 0 < length (children_of nodes child)
    → to ≡ get_or (children_of nodes child) (length (children_of nodes child) - 1) 0 → to < length nodes
    → IsTable nodes to
element_table nodes shaped child to h tables some last within =
    let low : length (children_of nodes child) - 1 < length (children_of nodes child) = omega (arith, some) in
    record {
      within = within;
      keyed = ap (holds_at nodes) last
          ∙ (shaped.plain child (length (children_of nodes child) - 1) h tables low).1;
    }

-- the key part at which it stops
pub entry_stops : (f : DefineFault) (nodes : List TrieNode) (path : List Part) (part : ℕ) → HasNoElement nodes path
    → FaultMeets f (IsRefusedAt nodes path Through part) → FaultMeets f (IsEntryRefusedAt nodes path part)
entry_stops (fault.Refused n w) nodes path part plain stops = record { stops = stops; plain = plain }
entry_stops fault.Memory nodes path part plain stops = tt

-- what follows where a header's key part stops
pub entry_weaker : (f : DefineFault) (nodes : List TrieNode) (path : List Part) (part at : ℕ) (P : ℕ → Why → Type 0)
    → part ≡ at → (WasRefused nodes path Through → HasNoElement nodes path → P at NotATable)
    → FaultMeets f (IsEntryRefusedAt nodes path part) → FaultMeets f P
entry_weaker (fault.Refused n w) nodes path part at P is h stop =
    subst (λ (m : ℕ). P m w) (sym (stop.stops.place ∙ is))
    (subst (λ (y : Why). P at y) (sym stop.stops.reason) (h stop.stops.refused stop.plain))
entry_weaker fault.Memory nodes path part at P is h stop = tt
