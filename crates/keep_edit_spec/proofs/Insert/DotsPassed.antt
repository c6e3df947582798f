-- The keys of a line that an insert adds after the last one that leads through the holder of its path: they go from the
-- body of that line on to the holder, and then come the new ones. The paths of the former are named before the line.
--
-- Theorems: `passed_to_holder`, `passed_are_named`.
use Rattle.std.proofs.Common.{◌≡◌, ℕ, suc, ◌-◌, ◌<◌, Bool, true, false, ◌||◌, List, [], ◌∷◌, ◌++◌, length, map, take}
use Rattle.std.proofs.Common.{append_assoc, length-append, arith, Some, inl, inr, refl, sym, ap, subst, ◌∙◌}
use Rattle.std.specs.List.{filter_map, list_any}
use Rattle.std.proofs.lemmas.List.{append_cancel_left, length-map}
use Rattle.keep_syntax.specs.Tree.{Document, Value}
use Rattle.keep_path.specs.KeysAlone.{paths_below}
use Rattle.keep_path.specs.Path.{Part, key, same_path}
use Rattle.keep_meaning.specs.Counts.{line_statement}
use Rattle.keep_meaning.specs.DotsMore.{HasDotsMore, new_path, passed_paths}
use Rattle.keep_meaning.specs.Marks.{Mention, Reading, Statement, below, mentions, reading_after, start}
use Rattle.keep_meaning.specs.Meaning.{lines, lines_mentions, mentions_in}
use Rattle.keep_meaning.specs.Nodes.{is_at, is_node}
use Rattle.keep_meaning.proofs.KeyChainLemmas.{below_below}
use Rattle.keep_meaning.proofs.Shared.{lines_mentions-statements}
use Rattle.keep_edit_spec.specs.KeyvalLines.{HasDotsAt}
use Rattle.keep_edit_spec.specs.Lines.{last_line, leads_dotted, reading_at}
use Rattle.keep_edit_spec.specs.Look.{holder, keys_in}
use Rattle.keep_edit_spec.proofs.Common.Doubles.{IsDoubleOf, IsSame}
use Rattle.keep_edit_spec.proofs.Common.LineStatements.{reading_statements}
use Rattle.keep_edit_spec.proofs.Common.Runs.{AllOf, SomeOf, same_path-refl}
use Rattle.keep_edit_spec.proofs.Common.Stops.{stops}
use Rattle.keep_edit_spec.proofs.Insert.InsertDotted.{IsDottedLine, dotted_line}
use Rattle.keep_edit_spec.proofs.Insert.NewPath.{keys_of_map}
use Rattle.keep_edit_spec.proofs.Rename.MovedLines.{split_even}

-- From this body the line's keys go on to that path, and then come these.
pub record PassesTo (s more : Document) (body a : List Part) (first : List ℕ) (further : List (List ℕ))
    (line : HasDotsMore s more) : Type 0 where
  pub from : (reading_after start line.before).body ≡ body
  pub to : body ++ map key line.passed ≡ a
  pub within : length body < length a
  pub first_is : line.first ≡ first
  pub further_is : line.further ≡ further
  pub path_is : new_path line.before line.passed line.first ≡ a ++ key first ∷ []

one_first : (k l : List ℕ) (ks ls : List (List ℕ)) → k ∷ ks ≡ l ∷ ls → (k ≡ l) × (ks ≡ ls)
one_first k l ks ls e = (let first : k ≡ l = cc in first, let rest : ks ≡ ls = cc in rest)

pub passed_to_holder : (s more : Document) (path : List Part) (first : List ℕ) (further : List (List ℕ))
    (value : Value) (i : ℕ) → path ≡ holder path (mentions_in s) ++ map key (first ∷ further)
    → last_line (leads_dotted (holder path (mentions_in s))) start (lines s) ≡ Some i
    → (added : HasDotsAt s more path value
    (length (holder path (mentions_in s)) - length (reading_at i (lines s)).body) (take (suc i) (lines s)))
    → PassesTo s more (reading_at i (lines s)).body (holder path (mentions_in s)) first further added.line
passed_to_holder s more path first further value i new found added =
    let a : List Part = holder path (mentions_in s) in
    let body : List Part = (reading_at i (lines s)).body in
    let there : IsDottedLine s a i = dotted_line s a i found in
    let keys : List (List ℕ) = there.first ∷ there.prefix in
    let line : HasDotsMore s more = added.line in
    let from : (reading_after start line.before).body ≡ body =
    ap (λ (ss : List Statement). (reading_after start ss).body) added.after
    ∙ ap (λ (r : Reading). r.body) (reading_statements start (take (suc i) (lines s))) ∙ there.at_body in
    let whole : (body ++ map key line.passed) ++ map key (line.first ∷ line.further) ≡ a ++ map key (first ∷ further) =
    ap (λ (b : List Part). (b ++ map key line.passed) ++ map key (line.first ∷ line.further)) (sym from)
    ∙ sym (append_assoc ((reading_after start line.before).body ++ map key line.passed) (key line.first ∷ [])
    (map key line.further)) ∙ added.place ∙ new in
    let sizes : length a ≡ length (body ++ map key keys) = ap (λ (p : List Part). length p) there.whole in
    let even : length (body ++ map key line.passed) ≡ length a =
    omega (
      arith,
      added.count,
      sizes,
      length-append body (map key keys),
      length-append body (map key line.passed),
      length-map line.passed key,
    ) in
    let both =
    split_even (body ++ map key line.passed) a (map key (line.first ∷ line.further)) (map key (first ∷ further)) even
    whole in
    let same : (line.first ≡ first) × (line.further ≡ further) =
    one_first line.first first line.further further
    (sym (keys_of_map (line.first ∷ line.further)) ∙ ap keys_in both.1 ∙ keys_of_map (first ∷ further)) in
    record {
      from = from;
      to = both.0;
      within = omega (arith, sizes, length-append body (map key keys), length-map keys key);
      first_is = same.0;
      further_is = same.1;
      path_is = ap (λ (b : List Part). (b ++ map key line.passed) ++ key line.first ∷ []) from
          ∙ ap (λ (p : List Part). p ++ key line.first ∷ []) both.0
          ∙ ap (λ (k : List ℕ). a ++ key k ∷ []) same.0;
    }

-- ---- what is named before the line

some_at : (q : List Part) (m : Mention) (ms : List Mention) → m.path ≡ q → SomeOf (IsSame m) ms
    → list_any (is_at q) ms ≡ true
some_at q m [] e h = absurd h
some_at q m (x ∷ ms) e (inl h) =
    ap (λ (b : Bool). b || list_any (is_at q) ms)
    (ap (λ (p : List Part). same_path p q) (h.path ∙ e) ∙ same_path-refl q)
some_at q m (x ∷ ms) e (inr h) = by (is_at q x) (some_at q m ms e h)
  where
    by : (b : Bool) → list_any (is_at q) ms ≡ true → (b || list_any (is_at q) ms) ≡ true
    by true more = refl
    by false more = more

named_by : (q : List Part) (ms : List Mention) → list_any (is_at q) ms ≡ true → is_node q ms ≡ true
named_by [] ms h = refl
named_by (p ∷ q) ms h = h

abbrev pub IsNamed : List Mention → List Part → Type 0
IsNamed ms q = is_node q ms ≡ true

stops_named : (ms : List Mention) (at : List Part) (ks : List (List ℕ))
    → AllOf (IsDoubleOf ms) (map (below at) (stops ks)) → AllOf (IsNamed ms) (paths_below at ks)
stops_named ms at [] h = tt
stops_named ms at (k ∷ ks) h = (
  named_by (at ++ key k ∷ []) ms (some_at (at ++ key k ∷ []) _ ms refl h.0.same),
  stops_named ms (at ++ key k ∷ []) ks
      (subst (AllOf (IsDoubleOf ms)) (below_below at (key k ∷ []) (stops ks)) h.1),
)

-- the line's keys up to the holder are those of the last line that leads through it
pub passed_are_named : (s more : Document) (a : List Part) (first : List ℕ) (further : List (List ℕ)) (i : ℕ)
    (line : HasDotsMore s more) → last_line (leads_dotted a) start (lines s) ≡ Some i
    → line.before ≡ filter_map line_statement (take (suc i) (lines s))
    → PassesTo s more (reading_at i (lines s)).body a first further line
    → AllOf (IsNamed (mentions line.before)) (passed_paths line.before line.passed)
passed_are_named s more a first further i line found after passes =
    let body : List Part = (reading_at i (lines s)).body in
    let there : IsDottedLine s a i = dotted_line s a i found in
    let keys : List (List ℕ) = there.first ∷ there.prefix in
    let same : line.passed ≡ keys =
    sym (keys_of_map line.passed)
    ∙ ap keys_in (append_cancel_left body (map key line.passed) (map key keys) (passes.to ∙ there.whole))
    ∙ keys_of_map keys in
    let said : lines_mentions start (take (suc i) (lines s)) ≡ mentions line.before =
    lines_mentions-statements start (take (suc i) (lines s)) ∙ ap mentions (sym after) in
    subst (λ (p : List Part). AllOf (IsNamed (mentions line.before)) (paths_below p line.passed)) (sym passes.from)
    (subst (λ (ks : List (List ℕ)). AllOf (IsNamed (mentions line.before)) (paths_below body ks)) (sym same)
    (stops_named (mentions line.before) body keys
    (subst (λ (ms : List Mention). AllOf (IsDoubleOf ms) (map (below body) (stops keys))) said there.doubles)))
