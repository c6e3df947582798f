-- Where `set` puts a value without entries in place of a value with no nodes below it, the nodes stay as they are, but
-- for the kind of the one at the path.
--
-- By `fact_set` one mention has another fact then, all others stay with their numbers, and nothing else is said at its
-- path or under it. So the node at the path is that of this mention alone (`one_there`), and of such a node only the
-- kind depends on the fact (`one_node`). At other paths the mention is passed over (`none_there`), so their nodes are
-- as before. The path and the role of the mention do not depend on the fact, so the same paths are mentioned in the
-- same order (`paths_by`), with the same roles (`roles_by`). `kind_of_fact_set` puts this together.
--
-- Theorem: `kind_set`.
use Rattle.std.proofs.Common.{◌≡◌, Bool, true, false, List, [], ◌∷◌, ◌++◌, map, refl, sym, ap, ◌∙◌, Option, Some, None}
use Rattle.std.specs.List.{filter_map, cons_option}
use Rattle.std.proofs.lemmas.List.{append-nil, map-append}
use Rattle.std.proofs.lemmas.List.Elements.{filter-append, filter_map-append}
use Rattle.keep_syntax.specs.Tree.{Name, none, Value, Document}
use Rattle.keep_path.specs.Path.{Part, same_path}
use Rattle.keep_types.specs.declared.node.Kind.{Kind}
use Rattle.keep_meaning.specs.Fact.{Fact}
use Rattle.keep_meaning.specs.Marks.{Mention, role_of, Reading, reading_after, start}
use Rattle.keep_meaning.specs.Meaning.{body_fact, mentions_in}
use Rattle.keep_meaning.specs.Counts.{Count, Numbered, statements_in, numbered_in}
use Rattle.keep_meaning.specs.Nodes.{is_at, kinds_at, node_paths, children, fact_kind, is_numbered_at, numbered_at}
use Rattle.keep_meaning.specs.Nodes.{mention_of, mentioned_node, Node, node_at}
use Rattle.keep_meaning.proofs.Shared.{mentions-numbered_in}
use Rattle.keep_edit_spec.specs.Look.{strip}
use Rattle.keep_edit_spec.specs.Changed.{Changed}
use Rattle.keep_edit_spec.specs.Edits.{set, change}
use Rattle.keep_edit_spec.proofs.Common.Runs.{AllOf, Rules, IsDisjoint, same_path-refl, strip-append, is_at-disjoint}
use Rattle.keep_edit_spec.proofs.Common.Runs.{kinds_at-append}
use Rattle.keep_edit_spec.proofs.Common.SetLaw.{tag_of}
use Rattle.keep_edit_spec.proofs.Set.SetNumbers.{value_mention, numbered_value, IsFactSet, fact_set}

-- After the edit the nodes are the same, and one has another kind.
pub record IsKindSet (path : List Part) (k : Kind) (s s' : Document) : Type 0 where
  -- the same paths are mentioned, in the same order
  pub met : map (λ (m : Mention). m.path) (mentions_in s') ≡ map (λ (m : Mention). m.path) (mentions_in s)
  -- the node at the path has this kind, and all else of it is as before
  pub here : node_at (numbered_in s') path ≡ record (node_at (numbered_in s) path) { kind = k }
  -- each other node is as before
  pub elsewhere : (p : List Part) → same_path path p ≡ false → node_at (numbered_in s') p ≡ node_at (numbered_in s) p
  -- the key parts that name a path have the same roles
  pub roles : (p : List Part)
      → filter_map role_of (kinds_at p (mentions_in s')) ≡ filter_map role_of (kinds_at p (mentions_in s))
  -- the full paths of the `[[..]]` lines are the same
  pub tables : (reading_after start (statements_in s')).tables ≡ (reading_after start (statements_in s)).tables

-- ---- the mentions, by the numbered ones

mentions_by : (s : Document) (before after : List Numbered) (n : Numbered) → numbered_in s ≡ before ++ n ∷ after
    → mentions_in s ≡ map mention_of before ++ n.mention ∷ map mention_of after
mentions_by s before after n e =
    sym (mentions-numbered_in s) ∙ ap (map mention_of) e ∙ map-append mention_of before (n ∷ after)

paths_by : (path : List Part) (name : Option Name) (f : Fact) (before after : List Mention)
    → map (λ (m : Mention). m.path) (before ++ value_mention path name f ∷ after)
    ≡ map (λ (m : Mention). m.path) before ++ path ∷ map (λ (m : Mention). m.path) after
paths_by path name f before after = map-append (λ (m : Mention). m.path) before (value_mention path name f ∷ after)

-- the key part that names a value has the same role, whatever the fact
same_role : (name : Option Name) (f g : Fact) → role_of (tag_of name f) ≡ role_of (tag_of name g)
same_role None f g = refl
same_role (Some name) f g = refl

roles_first : (p path : List Part) (name : Option Name) (f g : Fact) (after : List Mention)
    → filter_map role_of (kinds_at p (value_mention path name f ∷ after))
    ≡ filter_map role_of (kinds_at p (value_mention path name g ∷ after))
roles_first p path name f g after = by (same_path path p) refl
  where
    by : (b : Bool) → same_path path p ≡ b
        → filter_map role_of (kinds_at p (value_mention path name f ∷ after))
        ≡ filter_map role_of (kinds_at p (value_mention path name g ∷ after))
    by true e = rw e (ap (λ o. cons_option o (filter_map role_of (kinds_at p after))) (same_role name f g))
    by false e = rw e refl

roles_by : (p path : List Part) (name : Option Name) (f g : Fact) (before after : List Mention)
    → filter_map role_of (kinds_at p (before ++ value_mention path name f ∷ after))
    ≡ filter_map role_of (kinds_at p (before ++ value_mention path name g ∷ after))
roles_by p path name f g before after =
    split f ∙ ap (λ l. filter_map role_of (kinds_at p before) ++ l) (roles_first p path name f g after) ∙ sym (split g)
  where
    split : (h : Fact) → filter_map role_of (kinds_at p (before ++ value_mention path name h ∷ after))
        ≡ filter_map role_of (kinds_at p before) ++ filter_map role_of (kinds_at p (value_mention path name h ∷ after))
    split h = ap (filter_map role_of) (kinds_at-append p before (value_mention path name h ∷ after))
        ∙ filter_map-append role_of (kinds_at p before) (kinds_at p (value_mention path name h ∷ after))

-- ---- the nodes

none_disjoint : (path : List Part) (ns : List Numbered) → AllOf (IsDisjoint path) (map mention_of ns)
    → numbered_at path ns ≡ []
none_disjoint path [] h = refl
none_disjoint path (n ∷ ns) h =
    let itself : strip path path ≡ Some [] = ap (strip path) (sym (append-nil path)) ∙ strip-append path [] in
    rw (is_at-disjoint path n.mention path [] h.0 itself (is_at path n.mention) refl) (none_disjoint path ns h.1)

-- at the path there is the value's mention alone
one_there : (path : List Part) (name : Option Name) (c : Count) (f : Fact) (before after : List Numbered)
    → AllOf (IsDisjoint path) (map mention_of before) → AllOf (IsDisjoint path) (map mention_of after)
    → numbered_at path (before ++ numbered_value path name c f ∷ after) ≡ numbered_value path name c f ∷ []
one_there path name c f before after hb hh =
    filter-append (is_numbered_at path) before (numbered_value path name c f ∷ after)
    ∙ ap (λ l. l ++ numbered_at path (numbered_value path name c f ∷ after)) (none_disjoint path before hb)
    ∙ rw (same_path-refl path) (ap (λ l. numbered_value path name c f ∷ l) (none_disjoint path after hh))

-- at other paths it is passed over
none_there : (p path : List Part) (name : Option Name) (c : Count) (f : Fact) (before after : List Numbered)
    → same_path path p ≡ false
    → numbered_at p (before ++ numbered_value path name c f ∷ after) ≡ numbered_at p before ++ numbered_at p after
none_there p path name c f before after e =
    filter-append (is_numbered_at p) before (numbered_value path name c f ∷ after)
    ∙ ap (λ l. numbered_at p before ++ l) (past e)
  where
    past : same_path path p ≡ false → numbered_at p (numbered_value path name c f ∷ after) ≡ numbered_at p after
    past e = rw e refl

-- another fact at a path, and nothing else: another kind
one_node : (path : List Part) (name : Option Name) (c : Count) (f g : Fact)
    → mentioned_node path (numbered_value path name c g ∷ [])
    ≡ record (mentioned_node path (numbered_value path name c f ∷ [])) { kind = fact_kind g }
one_node path None c f g = refl
one_node path (Some name) c f g = refl

-- A document where one mention has another fact.
pub kind_of_fact_set : (path : List Part) (g : Fact) (s s' : Document) → IsFactSet path g s s'
    → IsKindSet path (fact_kind g) s s'
kind_of_fact_set path g s s' h =
    let before : List Mention = map mention_of h.before in
    let after : List Mention = map mention_of h.after in
    let was : mentions_in s ≡ before ++ value_mention path h.name h.fact ∷ after =
    mentions_by s h.before h.after (numbered_value path h.name h.count h.fact) h.was in
    let is : mentions_in s' ≡ before ++ value_mention path h.name g ∷ after =
    mentions_by s' h.before h.after (numbered_value path h.name h.count g) h.is in
    let node_was : node_at (numbered_in s) path ≡ mentioned_node path (numbered_value path h.name h.count h.fact ∷ []) =
    ap (λ ns. node_at ns path) h.was
    ∙ ap (mentioned_node path) (one_there path h.name h.count h.fact h.before h.after h.disjoint_before
    h.disjoint_after) in
    let node_is : node_at (numbered_in s') path ≡ mentioned_node path (numbered_value path h.name h.count g ∷ []) =
    ap (λ ns. node_at ns path) h.is
    ∙ ap (mentioned_node path) (one_there path h.name h.count g h.before h.after h.disjoint_before h.disjoint_after) in
    record {
      met = ap (map (λ (m : Mention). m.path)) is ∙ paths_by path h.name g before after
          ∙ sym (ap (map (λ (m : Mention). m.path)) was ∙ paths_by path h.name h.fact before after);
      here = node_is ∙ one_node path h.name h.count h.fact g
          ∙ ap (λ (n : Node). record n { kind = fact_kind g }) (sym node_was);
      elsewhere = λ p other.
          ap (λ ns. node_at ns p) h.is
          ∙ ap (mentioned_node p) (none_there p path h.name h.count g h.before h.after other
          ∙ sym (none_there p path h.name h.count h.fact h.before h.after other))
          ∙ sym (ap (λ ns. node_at ns p) h.was);
      roles = λ p.
          ap (λ ms. filter_map role_of (kinds_at p ms)) is ∙ roles_by p path h.name g h.fact before after
          ∙ sym (ap (λ ms. filter_map role_of (kinds_at p ms)) was);
      tables = ap (λ (r : Reading). r.tables) h.reading;
    }

-- The law: `set` of a value without entries, in place of a value with no nodes below it, leaves the nodes as they are,
-- but for the kind of the one at the path.
pub kind_set : (s : Document) (path : List Part) (new : Value) (c : Changed Document)
    → Rules (mentions_in s) → change s (set path new) ≡ Some c → new.nested ≡ none
    → children path (node_paths (mentions_in s)) ≡ [] → IsKindSet path (fact_kind (body_fact new.body)) s c.to
kind_set s path new c rules e plain childless_here =
    kind_of_fact_set path (body_fact new.body) s c.to (fact_set s path new c rules e plain childless_here)
