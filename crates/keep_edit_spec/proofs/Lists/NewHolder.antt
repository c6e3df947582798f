-- The holder of an insert of new keys, in a document that says nothing at the path of the first of them.
--
-- Then the document says nothing under that path (`nothing_under`), so no prefix of the insert's path that goes through
-- it is a node (`no_node`). The longest prefix that is a node is the one right before it, if that is one
-- (`holder_of_node`). It is one where a body of it ends (`body_node`), a line's key leads through it (`lead_node`), or
-- a header does (`through_node`).
--
-- Theorems: `nothing_under`, `no_node`, `path_new`, `holder_of_node`; `body_node`, `lead_node`, `through_node`;
-- `new_clear`, `apart_clear`: the path does not begin with one that is apart from the first new key's; `clear_longer`:
-- a path that begins with neither of two paths; `apart_differs`, `clear_under`, `apart_under`: what does not begin with
-- a path is not that path, and does not begin with a longer one; and what is apart from a path is apart from a longer
-- one.
use Rattle.std.proofs.Common.{◌≡◌, ◌≢◌, ℕ, Bool, true, false, cond, ◌||◌, List, [], ◌∷◌, ◌++◌, map, refl, sym, ap}
use Rattle.std.proofs.Common.{subst, ◌∙◌, append_assoc, Option, Some, None, ◌⊎◌, inl, inr}
use Rattle.std.specs.List.{list_any}
use Rattle.std.proofs.lemmas.Bool.{and_parts}
use Rattle.std.proofs.lemmas.List.{append-nil}
use Rattle.keep_types.specs.declared.leaf.Profile.{Profile}
use Rattle.keep_syntax.specs.Tree.{Document, Value}
use Rattle.keep_path.specs.Path.{Part, key, strip}
use Rattle.keep_meaning.specs.Marks.{Mention, MentionKind, Reading, start}
use Rattle.keep_meaning.specs.Meaning.{after_line, line_mentions, lines, lines_mentions, mentions_in}
use Rattle.keep_meaning.specs.Meaning.{reading_after_lines}
use Rattle.keep_meaning.specs.Nodes.{has, is_at, is_begun, is_define, is_dotted, is_node, is_root, is_through}
use Rattle.keep_edit_spec.specs.AddedLines.{AddsLine, first_new}
use Rattle.keep_edit_spec.specs.Edits.{end_of}
use Rattle.keep_edit_spec.specs.Lines.{is_header, last_line, leads_dotted, leads_through}
use Rattle.keep_edit_spec.specs.Look.{holder, last_passing, prefixes}
use Rattle.keep_edit_spec.specs.Runs.{AreApart}
use Rattle.keep_edit_spec.specs.TextChanges.{TextChange}
use Rattle.keep_edit_spec.proofs.Common.BodyEnd.{IsLast, IsStated, end_is, last_found}
use Rattle.keep_edit_spec.proofs.Common.Doubles.{IsMentioned, has_some}
use Rattle.keep_edit_spec.proofs.Common.InsertLaw.{fresh_disjoint, or_true}
use Rattle.keep_edit_spec.proofs.Common.LineLaws.{beyond, lines_mentions-append, prefix_cases, within_first}
use Rattle.keep_edit_spec.proofs.Common.Runs.{AllOf, IsDisjoint, SomeOf, kinds_at-disjoint, same_path-refl}
use Rattle.keep_edit_spec.proofs.Common.Runs.{some_left, some_right, strip-append, strip_shorter}
use Rattle.keep_edit_spec.proofs.Insert.InsertDotted.{dotted_line}
use Rattle.keep_edit_spec.proofs.Insert.KeysAtEnd.{path_goes_on}
use Rattle.keep_edit_spec.proofs.Insert.NewPath.{mapped, passing_map}
use Rattle.keep_edit_spec.proofs.Remove.Shift.{not_reached, unreached}
use Rattle.keep_edit_spec.proofs.Lists.SaidOfPrefixes.{node_kinds, node_of}

-- what begins with one of two paths, neither of which begins with the other, does not begin with the other
pub clear_longer : (path other rest : List Part) → strip path other ≡ None → strip other path ≡ None
    → strip path (other ++ rest) ≡ None
clear_longer path other rest clear back = unreached path (other ++ rest) (λ u.
    elim (prefix_cases path other rest u.0 u.1) [
      | within_first v ↦ not_reached path other clear v
      | beyond b bs e v ↦
          (let no : None ≡ Some (b ∷ bs) = sym back ∙ ap (strip other) e ∙ strip-append other (b ∷ bs) in absurd cc)
    ])

pub apart_differs : (path other : List Part) → strip path other ≡ None → path ≢ other
apart_differs path other clear same =
    let k : None ≡ Some [] = sym clear ∙ ap (strip path) (sym same ∙ sym (append-nil path)) ∙ strip-append path [] in
    absurd cc

-- what begins with a longer path begins with that path
pub clear_under : (path rest other : List Part) → strip path other ≡ None → strip (path ++ rest) other ≡ None
clear_under path rest other clear =
    unreached (path ++ rest) other
    (λ u. not_reached path other clear (rest ++ u.0, strip_shorter path rest other u.0 u.1))

-- so what is apart from a path is apart from a longer one
pub apart_under : (path rest other : List Part) → AreApart path other → AreApart (path ++ rest) other
apart_under path rest other apart =
    (clear_under path rest other apart.0, clear_longer other path rest apart.1 apart.0)

-- ---- the longest prefix that passes, where none that is longer does

none_passes : (T : List Part → Bool) → ((q : List Part) → T q ≡ false) → (xs : List (List Part))
    → last_passing T xs ≡ None
none_passes T h [] = refl
none_passes T h (x ∷ xs) = rw (none_passes T h xs, h x) refl

last_whole : (T : List Part → Bool) (a : List Part) (p : Part) (ps : List Part) → T a ≡ true
    → ((q : List Part) → T (a ++ p ∷ q) ≡ false) → last_passing T (prefixes (a ++ p ∷ ps)) ≡ Some a
last_whole T [] p ps e none =
    ap (λ (o : Option (List Part)). elim o [ Some y ↦ Some y | None ↦ cond (T []) (Some []) None ])
    (passing_map T (λ q. p ∷ q) (prefixes ps)
    ∙ ap (mapped (λ q. p ∷ q)) (none_passes (λ q. T (p ∷ q)) none (prefixes ps)))
    ∙ ap (λ (b : Bool). cond b (Some []) None) e
last_whole T (x ∷ a) p ps e none =
    ap (λ (o : Option (List Part)). elim o [ Some y ↦ Some y | None ↦ cond (T []) (Some []) None ])
    (passing_map T (λ q. x ∷ q) (prefixes (a ++ p ∷ ps))
    ∙ ap (mapped (λ q. x ∷ q)) (last_whole (λ q. T (x ∷ q)) a p ps e none))

holder_whole : (a : List Part) (p : Part) (ps : List Part) (ms : List Mention) → is_node a ms ≡ true
    → ((q : List Part) → is_node (a ++ p ∷ q) ms ≡ false) → holder (a ++ p ∷ ps) ms ≡ a
holder_whole a p ps ms e none =
    ap (λ (o : Option (List Part)). elim o [ Some q ↦ q | None ↦ [] ])
    (last_whole (λ q. is_node q ms) a p ps e none)

-- ---- a path whose body ends somewhere is a node, and so is one through which a line's key leads

-- what is mentioned is a node
mentioned_said : (test : MentionKind → Bool) (a : List Part) (ms : List Mention) → SomeOf (IsMentioned test a) ms
    → list_any (is_at a) ms ≡ true
mentioned_said test a [] h = absurd h
mentioned_said test a (m ∷ ms) (inl h) =
    let here : is_at a m ≡ true = subst (λ (q : List Part). is_at q m ≡ true) h.0 (same_path-refl m.path) in
    rw here refl
mentioned_said test a (m ∷ ms) (inr h) =
    or_true (is_at a m) (list_any (is_at a) ms) (mentioned_said test a ms h)

mentioned_node : (test : MentionKind → Bool) (a : List Part) (ms : List Mention) → SomeOf (IsMentioned test a) ms
    → is_node a ms ≡ true
mentioned_node test a ms h = or_true (is_root a) (list_any (is_at a) ms) (mentioned_said test a ms h)

pub body_node : (s : Document) (a : List Part) (n : ℕ) → end_of s a ≡ Some n → is_node a (mentions_in s) ≡ true
body_node s a n ends = by (end_is s a n ends).stated
  where
    by : (a ≡ []) ⊎ SomeOf (IsStated a) (mentions_in s) → is_node a (mentions_in s) ≡ true
    by (inl e) = ap (λ (q : List Part). is_node q (mentions_in s)) e
    by (inr some) = mentioned_node (λ (k : MentionKind). is_define k || is_begun k) a (mentions_in s) some

pub lead_node : (s : Document) (a : List Part) (n : ℕ) → last_line (leads_dotted a) start (lines s) ≡ Some n
    → is_node a (mentions_in s) ≡ true
lead_node s a n last = mentioned_node is_dotted a (mentions_in s) (dotted_line s a n last).dotted

pub through_node : (s : Document) (a : List Part) (n : ℕ) → last_line (leads_through a) start (lines s) ≡ Some n
    → is_node a (mentions_in s) ≡ true
through_node s a n last =
    let f : IsLast (leads_through a) start (lines s) n = last_found (leads_through a) start (lines s) n last in
    let r : Reading = reading_after_lines start f.pre in
    let own : List Mention = line_mentions r f.here in
    let before : List Mention = lines_mentions start f.pre in
    let after : List Mention = lines_mentions (after_line r f.here) f.post in
    let all : mentions_in s ≡ before ++ (own ++ after) =
    ap (lines_mentions start) f.was ∙ lines_mentions-append start f.pre (f.here ∷ f.post) in
    let said : has is_through a own ≡ true =
    (and_parts (is_header f.here.content) (has is_through a own) f.passes).1 in
    let goes : SomeOf (IsMentioned is_through a) (before ++ (own ++ after)) =
    some_right (IsMentioned is_through a) before (own ++ after)
    (some_left (IsMentioned is_through a) own after (has_some is_through a own said)) in
    mentioned_node is_through a (mentions_in s) (subst (SomeOf (IsMentioned is_through a)) (sym all) goes)

-- ---- the path, and its holder

no_root : (a : List Part) (p : Part) (r : List Part) → is_root ((a ++ p ∷ []) ++ r) ≡ false
no_root [] p r = refl
no_root (x ∷ a) p r = refl

module _ (s : Document) (path a : List Part) (text : List ℕ) (more : List (List ℕ))
    (new : path ≡ a ++ map key (text ∷ more)) (none : list_any (is_at (a ++ key text ∷ [])) (mentions_in s) ≡ false)
  where
    abbrev first : List Part
    first = a ++ key text ∷ []

    pub nothing_under : AllOf (IsDisjoint first) (mentions_in s)
    nothing_under = fresh_disjoint first (lines s) (a, text, refl) none

    pub no_node : (r : List Part) → is_node (first ++ r) (mentions_in s) ≡ false
    no_node r =
        node_kinds (first ++ r) (mentions_in s)
        ∙ ap (node_of (first ++ r))
        (kinds_at-disjoint first (first ++ r) r (mentions_in s) nothing_under (strip-append first r))
        ∙ ap (λ (b : Bool). b || false) (no_root a (key text) r)

    pub path_new : is_node path (mentions_in s) ≡ false
    path_new =
        ap (λ (q : List Part). is_node q (mentions_in s))
        (new ∙ sym (append_assoc a (key text ∷ []) (map key more)))
        ∙ no_node (map key more)

    pub holder_of_node : is_node a (mentions_in s) ≡ true → holder path (mentions_in s) ≡ a
    holder_of_node node =
        ap (λ (q : List Part). holder q (mentions_in s)) new
        ∙ holder_whole a (key text) (map key more) (mentions_in s) node
        (λ q. ap (λ (p : List Part). is_node p (mentions_in s)) (sym (append_assoc a (key text ∷ []) q)) ∙ no_node q)

-- ---- of an insert of new keys

pub new_clear : (s : Document) (path : List Part) (text : List ℕ) (more : List (List ℕ))
    → path ≡ holder path (mentions_in s) ++ map key (text ∷ more)
    → (other : List Part) → AreApart other (first_new s path) → strip other path ≡ None
new_clear s path text more new other apart =
    subst (λ (p : List Part). strip other p ≡ None) (sym (path_goes_on s path text more new))
    (clear_longer other (first_new s path) (map key more) apart.0 apart.1)

-- ---- of one that adds a line

module _ (profile : Profile) (limit : ℕ) (s : Document) (path : List Part) (value : Value) (c : TextChange)
    (h : AddsLine profile limit s path value c) where
  pub apart_clear : (other : List Part) → AreApart other (first_new s path) → strip other path ≡ None
  apart_clear other apart = new_clear s path h.text h.more h.new other apart
