-- A mark at a new node and at one that is there.
--
-- A mark of a key is made in two ways. If the path has no node, one is added to its parent, which is a table
-- (`marked_new`). If it has one, that node gets another state (`marked_existing`), or the mark is refused
-- (`was_refused`). In both the invariants of the nodes have to hold again; `TablesLemmas` has most of them. For an
-- existing node the new state must say what the old one and the new role say together (`one_then`), and must fit what
-- the node holds: a state that lets headers pass comes from one that let them pass (`opens`, one case for each pair of
-- roles).
--
-- Theorems: `marked_new` and `marked_existing`: the mark is in the nodes; `was_refused`: the rules refuse it.
use Rattle.std.proofs.Common.{◌≡◌, ℕ, ◌<◌, Bool, true, false, ◌&&◌, List, [], ◌∷◌, ◌++◌, length, get_or, refl, sym, ◌∙◌}
use Rattle.std.proofs.Common.{ap, subst, arith, Option, Some, None}
use Rattle.std.specs.Prelude.{IsSome}
use Rattle.std.specs.List.{list_all, cons_option}
use Rattle.keep_types.specs.declared.role.Role.{Role}
use Rattle.keep_types.specs.declared.role.Role.TheVariants.{Through, Past, Define, Element, Dotted, Value}
use Rattle.keep_path.specs.Path.{Part, key}
use Rattle.keep_meaning.specs.Rules.{allows}
use Rattle.keep_meaning.specs.Marks.{Mention}
use Rattle.keep_index_store.specs.Trie.{TrieNode, Holding, by_key, by_index, paths_of, path_at, states_of, state_at}
use Rattle.keep_index_store.specs.Trie.{holds_at, children_of}
use Rattle.keep_index_store.specs.Growth.{Grows, Restates}
use Rattle.keep_meaning.specs.State.{IsState}
use Rattle.keep_rules.specs.RoleStates.{mention_roles, StatesRepresent, IsIndexOf}
use Rattle.keep_rules.specs.Tables.{is_tables, Fits, IsShaped}
use Rattle.keep_rules.specs.Represents.{Keeps, KeepsItems, IsDefined, WasRefused}
use Rattle.keep_index_store.proofs.Shared.{length-paths_of, no_children_past_end, first, longer, path_below, path_last}
use Rattle.keep_index_store.proofs.Shared.{state_below, state_last, holds_below, holds_last, children_other}
use Rattle.keep_rules.proofs.TablesLemmas.{Joins, key_plain, shaped_grown, tables_joined, begun_joined, begun_others}
use Rattle.keep_rules.proofs.TablesLemmas.{state_same, kind_same, holds_same, tables_restated, shaped_restated}
use Rattle.keep_rules.proofs.TablesLemmas.{begun_existing, kind_preserved, kind_made}
use Rattle.keep_rules.proofs.RoleStateLemmas.{represented_new, represented_existing, refused, obeys_push}

pub represented_along : (ps qs : List (List Part)) (ss ts : List (Option Role)) (ms : List Mention) → ps ≡ qs → ss ≡ ts
    → StatesRepresent qs ts ms → StatesRepresent ps ss ms
represented_along ps qs ss ts ms e f h =
    subst (λ (x : List (List Part)). StatesRepresent x ss ms) (sym e)
    (subst (λ (x : List (Option Role)). StatesRepresent qs x ms) (sym f) h)

and_true : (b : Bool) → b ≡ (b && true)
and_true true = refl
and_true false = refl

-- ---- a new node

pub keeps_grown : {old new : List TrieNode} {parent : ℕ} {path : List Part} {state : Option Role} {holds : Holding}
    → (g : Grows old new parent path state holds) → Keeps old new
keeps_grown g = record {
  longer = omega (arith, longer g);
  paths = path_below g;
  holdings = holds_below g;
  kinds = λ i h. ap is_tables (state_below g i h);
}

differs_from : (nodes : List TrieNode) (parent i : ℕ) → holds_at nodes parent ≡ by_key → holds_at nodes i ≡ by_index
    → i ≡ parent → ⊥
differs_from nodes parent i k h e = no (sym k ∙ ap (holds_at nodes) (sym e) ∙ h)
  where
    no : by_key ≡ by_index → ⊥
    no e = cc

pub items_grown : {old new : List TrieNode} {parent : ℕ} {path : List Part} {state : Option Role} {holds : Holding}
    → (g : Grows old new parent path state holds) → holds_at old parent ≡ by_key → KeepsItems old new
items_grown {old = old} {parent = parent} g k i h listed = children_other g i (differs_from old parent i k listed)

-- a key with a mark is added to a table
key_joins : (old : List TrieNode) (parent : ℕ) (k : List ℕ) (role : Role) (holds : Holding) → IsShaped old
    → parent < length old → holds_at old parent ≡ by_key → Fits role holds
    → Joins old parent (path_at old parent ++ key k ∷ []) (Some role) holds
key_joins old parent k role holds shaped h keyed fits = record {
  ends = λ listed. absurd (differs_from old parent parent keyed listed refl);
  bare = λ t. absurd (let no : true ≡ false = sym t ∙ key_plain old shaped parent h keyed in cc);
  named = λ p k is. refl;
  fits = λ s is. subst (λ (r : Role). Fits r holds) (let own : role ≡ s = cc in own) fits;
}

pub marked_new : (old new : List TrieNode) (parent : ℕ) (k : List ℕ) (role : Role) (holds : Holding) (id : ℕ)
    → Grows old new parent (path_at old parent ++ key k ∷ []) (Some role) holds → IsShaped old
    → holds_at old parent ≡ by_key → Fits role holds
    → id ≡ length old → IsDefined old new (path_at old parent ++ key k ∷ []) role holds id
marked_new old new parent k role holds id g shaped keyed fits last =
    let path : List Part = path_at old parent ++ key k ∷ [] in
    let plain : is_tables (state_at old parent) ≡ false = key_plain old shaped parent g.within keyed in
    record {
      trie = g.trie';
      shaped = shaped_grown g (key_joins old parent k role holds shaped g.within keyed fits) shaped;
      keeps = keeps_grown g;
      items = items_grown g keyed;
      nested = omega (arith, longer g);
      here = ap (path_at new) last ∙ path_last g;
      index = λ ms mention_kind is known.
          record {
            trie = g.trie';
            states_represent = represented_along _ _ _ _ _ g.paths g.states
                (represented_new (paths_of old) (states_of old) ms (record { path = path; kind = mention_kind })
                (Some role) known.states_represent g.fresh
                (subst (λ (o : Option Role). IsState (Some role) (cons_option o [])) (sym is)
                (λ r. and_true (allows role r))));
          };
      kind = ap (λ i. is_tables (state_at new i)) last ∙ ap is_tables (state_last g);
      opened = λ t. ap (holds_at new) last ∙ holds_last g ∙ fits.opened t;
      valued = λ is. (
        ap (holds_at new) last ∙ holds_last g,
        ap (children_of new) last ∙ children_other g (length old) (λ e. absurd (omega (arith, g.within, e)))
            ∙ no_children_past_end old g.trie (first old g.trie) (length old) (omega arith),
        omega arith,
      );
      tables = λ ts are. tables_joined g plain ts are;
      begun = λ other begun. begun_joined g plain other begun;
      begun_others = λ begun i h ne. begun_others g plain begun i h (λ e. ne (e ∙ sym last));
    }

-- ---- a node that is there

pub state_represents : (nodes : List TrieNode) (ms : List Mention) → IsIndexOf nodes ms → (id : ℕ) (path : List Part)
    → id < length nodes → path_at nodes id ≡ path → IsState (state_at nodes id) (mention_roles path ms)
state_represents nodes ms known id path h here =
    subst (λ (p : List Part). IsState (state_at nodes id) (mention_roles p ms)) here
    (known.states_represent.states_are id (omega (arith, length-paths_of nodes known.trie.root)))

-- a state that lets headers pass comes from one that let them pass
opens : (s role : Role) → allows s role ≡ true → allows role Through ≡ true → allows s Through ≡ true
opens Through role h g = refl
opens Define role h g = refl
opens Dotted role h g = refl
opens Value role h g = cc
opens Past Through h g = cc
opens Past Define h g = cc
opens Past Dotted h g = cc
opens Past Past h g = cc
opens Past Element h g = cc
opens Past Value h g = cc
opens Element Through h g = cc
opens Element Define h g = cc
opens Element Dotted h g = cc
opens Element Past h g = cc
opens Element Element h g = cc
opens Element Value h g = cc

no_value : (s : Role) → allows s Value ≡ true → ⊥
no_value Through h = cc
no_value Past h = cc
no_value Define h = cc
no_value Element h = cc
no_value Dotted h = cc
no_value Value h = cc

-- what the new state fits
still_fits : (s next role : Role) (holds : Holding) → allows s role ≡ true
    → ((r : Role) → allows next r ≡ (allows s r && allows role r)) → Fits s holds → Fits next holds
still_fits s next role holds h same fits = record {
  listed = λ t. fits.listed (left (allows s Element) (allows role Element) (sym (same Element) ∙ t));
  opened = λ t. fits.opened (left (allows s Through) (allows role Through) (sym (same Through) ∙ t));
}
  where
    left : (a b : Bool) → (a && b) ≡ true → a ≡ true
    left true b e = refl
    left false b e = cc

-- a node that a key names has a state
pub named_state : (old : List TrieNode) → IsShaped old → (id : ℕ) (before : List Part) (k : List ℕ) → id < length old
    → path_at old id ≡ before ++ key k ∷ [] → (s : Role) × (state_at old id ≡ Some s)
named_state old shaped id before k h here = by_state (state_at old id) refl (shaped.marked id before k h here)
  where
    by_state : (o : Option Role) → state_at old id ≡ o → IsSome o → (s : Role) × (state_at old id ≡ Some s)
    by_state None e some = cc
    by_state (Some s) e some = (s, e)

one_allowed : (o : Option Role) (s role : Role) → o ≡ Some s
    → ((roles : List Role) → IsState o roles → list_all (λ e. allows e role) roles ≡ true) → allows s role ≡ true
one_allowed o s role is allowed =
    let pass : (allows s role && true) ≡ true =
    allowed (s ∷ []) (subst (λ (x : Option Role). IsState x (s ∷ [])) (sym is) (λ r. and_true (allows s r))) in
    and_true (allows s role) ∙ pass

one_then : (o : Option Role) (s next role : Role) → o ≡ Some s
    → ((roles : List Role) → IsState o roles → IsState (Some next) (roles ++ role ∷ [])) → (r : Role)
    → allows next r ≡ (allows s r && allows role r)
one_then o s next role is then r =
    then (s ∷ []) (subst (λ (x : Option Role). IsState x (s ∷ [])) (sym is) (λ r. and_true (allows s r))) r
    ∙ ap (λ b. allows s r && b) (sym (and_true (allows role r)))

pub keeps_restated : {old new : List TrieNode} {id : ℕ} {next : Role} → Restates old new id next
    → allows next Element ≡ is_tables (state_at old id) → Keeps old new
keeps_restated g kind = record {
  longer = omega (arith, g.many);
  paths = λ i h. ap (λ ps. get_or ps i []) g.paths;
  holdings = λ i h. holds_same g i;
  kinds = λ i h. kind_same g kind i;
}

pub marked_existing : (old new : List TrieNode) (before : List Part) (k : List ℕ) (role next : Role) (holds : Holding)
    (id : ℕ) → Restates old new id next → IsShaped old → path_at old id ≡ before ++ key k ∷ []
    → ((roles : List Role) → IsState (state_at old id) roles → list_all (λ e. allows e role) roles ≡ true)
    → ((roles : List Role) → IsState (state_at old id) roles → IsState (Some next) (roles ++ role ∷ []))
    → IsDefined old new (before ++ key k ∷ []) role holds id
marked_existing old new before k role next holds id g shaped here allowed then =
    let path : List Part = before ++ key k ∷ [] in
    let named = named_state old shaped id before k g.within here in
    let may : allows named.0 role ≡ true = one_allowed (state_at old id) named.0 role named.1 allowed in
    let same = one_then (state_at old id) named.0 next role named.1 then in
    let fits : Fits named.0 (holds_at old id) = shaped.fits id named.0 g.within named.1 in
    let preserved = kind_preserved (state_at old id) next role (shaped.marked id before k g.within here) allowed then in
    record {
      trie = g.trie';
      shaped =
          shaped_restated before k here g preserved (still_fits named.0 next role (holds_at old id) may same fits)
          shaped;
      keeps = keeps_restated g preserved;
      items = λ i h listed. g.children i;
      nested = omega (arith, g.within, g.many);
      here = ap (λ ps. get_or ps id []) g.paths ∙ here;
      index = λ ms mention_kind is known.
          let m : Mention = record { path = path; kind = mention_kind } in
          let own : IsState (state_at old id) (mention_roles path ms) =
          state_represents old ms known id path g.within here in
          record {
            trie = g.trie';
            states_represent = represented_along _ _ _ _ _ g.paths g.states
                (represented_existing (paths_of old) (states_of old) ms m id (Some next) known.states_represent
                g.trie.distinct (omega (arith, g.within, length-paths_of old g.trie.root)) (sym here)
                (subst (λ (o : Option Role). IsState (Some next) (mention_roles path ms ++ cons_option o [])) (sym is)
                (then (mention_roles path ms) own))
                (obeys_push ms m role is (allowed (mention_roles path ms) own) known.states_represent.obeys));
          };
      kind = ap is_tables (state_same g) ∙ kind_made (state_at old id) next role allowed then;
      opened = λ t. holds_same g id ∙ fits.opened (opens named.0 role may t);
      valued = λ is. absurd (no_value named.0 (ap (allows named.0) (sym is) ∙ may));
      tables = λ ts are. tables_restated g preserved ts are;
      begun = λ other begun. begun_existing g preserved begun;
      begun_others = λ begun i h ne t. begun_existing g preserved begun i h t;
    }

pub was_refused : (old : List TrieNode) (path : List Part) (role : Role) (id : ℕ) → id < length old
    → path_at old id ≡ path
    → ((roles : List Role) → IsState (state_at old id) roles → list_all (λ e. allows e role) roles ≡ false)
    → WasRefused old path role
was_refused old path role id h here none =
    λ ms known. refused ms path role (none (mention_roles path ms) (state_represents old ms known id path h here))
