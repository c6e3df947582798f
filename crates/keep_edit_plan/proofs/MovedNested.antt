-- A change of the nodes' paths where steps stay steps: the nodes are nested as before (`nested_moved`).
--
-- A node of the new document is one of the old, at its new path (`old_node`). One step above a new path is the new path
-- of what was one step above (`step_back`). So what is asked of a new path is asked of an old one, whose answer is
-- known. Below a path without a node there is none, one step after another (`closed_moved`). A node of a key that a
-- further header of an element may name has elements, since a step by a key was one by a key (`key_step`) and the roles
-- are the same (`roles_moved`, `listed_moved`). The last node below an array of tables is the element that a header
-- enters: the nodes below it are the old ones in the same order (`children_moved`, `entered_nested`).
--
-- Theorem: `nested_moved`.
use Rattle.std.proofs.Common.{◌≡◌, ℕ, ◌-◌, ◌<◌, true, List, [], ◌∷◌, ◌++◌, length, get_or, map, refl, sym, ap, subst}
use Rattle.std.proofs.Common.{◌∙◌, append_assoc, arith, length-append, Option, Some, None, slice_get}
use Rattle.std.specs.List.{filter_map, list_all}
use Rattle.std.specs.Option.{option_and_then}
use Rattle.std.proofs.lemmas.List.{append-nil, length-map, get_or-map}
use Rattle.std.proofs.lemmas.Option.{slice_get-map}
use Rattle.keep_types.specs.declared.role.Role.{Role}
use Rattle.keep_types.specs.declared.role.Role.TheVariants.{Element}
use Rattle.keep_path.specs.Path.{Part, key, index}
use Rattle.keep_meaning.specs.Marks.{Mention, role_of, elements_of, entered_path}
use Rattle.keep_meaning.specs.Nodes.{children, is_child, node_number, node_paths}
use Rattle.keep_meaning.specs.Rules.{allows}
use Rattle.keep_rules.specs.Nested.{AreNested}
use Rattle.keep_rules.specs.RoleStates.{mention_roles}
use Rattle.keep_rules.proofs.Shared.{number_is}
use Rattle.keep_edit_spec.specs.Look.{last_part, without_last}
use Rattle.keep_edit_spec.proofs.Shared.{AllOf, KeepsSteps, last_part-snoc, mentions_moved, moved, snoc_of}
use Rattle.keep_edit_spec.proofs.Shared.{without_last-snoc}
use Rattle.keep_edit_plan.proofs.MovedNodes.{all_at, all_filter, all_get, all_paths, children_moved, elements_moved}
use Rattle.keep_edit_plan.proofs.MovedNodes.{entered_fits, entered_moved, found_moved, number_moved, paths_moved}

module _ (P : List Part → Type 0) (f : List Part → List Part) (keeps : KeepsSteps P f) where
  -- ---- a node of the new document is one of the old

  record IsOldNode (ps : List (List Part)) (q : List Part) (i : ℕ) : Type 0 where
    old : List Part
    fits : P old
    number : node_number ps old ≡ Some i
    is : q ≡ f old

  old_node : (ps : List (List Part)) (q : List Part) (i : ℕ) → AllOf P ps → node_number (map f ps) q ≡ Some i
      → IsOldNode ps q i
  old_node ps q i h e =
      let r = number_is (map f ps) q i e in
      let low : i < length ps = omega (arith, r.0, length-map ps f) in
      let hz : P (get_or ps i []) = all_at P ps i [] low h in
      let is : q ≡ f (get_or ps i []) = sym r.1 ∙ get_or-map f ps i [] [] low in
      record {
        old = get_or ps i [];
        fits = hz;
        number = sym (number_moved P f keeps (get_or ps i []) ps hz h)
            ∙ ap (node_number (map f ps)) (sym is) ∙ e;
        is = is;
      }

  -- the path that was one step above
  record IsStep (path : List Part) (m : Part) (z : List Part) : Type 0 where
    above : List Part
    last : Part
    was : z ≡ above ++ last ∷ []
    fits : P above
    is : f above ≡ path

  step_back : (path : List Part) (m : Part) (z : List Part) → P z → path ++ m ∷ [] ≡ f z → IsStep path m z
  step_back path m [] hz e = absurd (omega (arith, ap length (e ∙ keeps.root), length-append path (m ∷ [])))
  step_back path m (c ∷ cs) hz e =
      let (above, last, was) = snoc_of c cs in
      let (now, step) = keeps.step above last in
      record {
        above = above;
        last = last;
        was = was;
        fits = keeps.fits_before above last (subst P was hz);
        is = sym (without_last-snoc (f above) now) ∙ ap without_last (sym (e ∙ ap f was ∙ step))
            ∙ without_last-snoc path m;
      }

  -- a step by a key was one by a key
  key_step : (path above : List Part) (k : List ℕ) (last : Part) (z : List Part) → z ≡ above ++ last ∷ []
      → path ++ key k ∷ [] ≡ f z → (old : List ℕ) × (z ≡ above ++ key old ∷ [])
  key_step path above k (key old) z was e = (old, was)
  key_step path above k (index n) z was e =
      let same : Some (key k) ≡ Some (index n) =
      sym (last_part-snoc path (key k)) ∙ ap last_part (e ∙ ap f was ∙ keeps.numbered above n)
      ∙ last_part-snoc (f above) (index n) in
      absurd cc

  -- ---- they are nested as before

  module _ (ms : List Mention) (tables : List (List Part)) (all : AllOf (λ (m : Mention). P m.path) ms)
      (tables_fit : AllOf P tables) (nested : AreNested ms tables) where
    abbrev ps : List (List Part)
    ps = node_paths ms

    fit : AllOf P (node_paths ms)
    fit = all_paths P f keeps ms all

    closed_step : (path : List Part) (m : Part) → node_number (map f ps) path ≡ None
        → node_number (map f ps) (path ++ m ∷ []) ≡ None
    closed_step path m none = by (node_number (map f ps) (path ++ m ∷ [])) refl
      where
        by : (o : Option ℕ) → node_number (map f ps) (path ++ m ∷ []) ≡ o → o ≡ None
        by None e = refl
        by (Some i) e =
            let n = old_node ps (path ++ m ∷ []) i fit e in
            let b = step_back path m n.old n.fits n.is in
            let above : node_number ps b.above ≡ None =
            sym (number_moved P f keeps b.above ps b.fits fit) ∙ ap (node_number (map f ps)) b.is ∙ none in
            let whole : node_number ps (b.above ++ b.last ∷ []) ≡ Some i = ap (node_number ps) (sym b.was) ∙ n.number in
            sym whole ∙ nested.closed b.above (b.last ∷ []) above

    closed_moved : (more path : List Part) → node_number (map f ps) path ≡ None
        → node_number (map f ps) (path ++ more) ≡ None
    closed_moved [] path none = ap (node_number (map f ps)) (append-nil path) ∙ none
    closed_moved (m ∷ more) path none =
        ap (node_number (map f ps)) (sym (append_assoc path (m ∷ []) more))
        ∙ closed_moved more (path ++ m ∷ []) (closed_step path m none)

    roles_moved : (q z : List Part) → P z → q ≡ f z → mention_roles q (map (moved f) ms) ≡ mention_roles z ms
    roles_moved q z hz is =
        ap (λ (x : List Part). mention_roles x (map (moved f) ms)) is
        ∙ ap (filter_map role_of) (mentions_moved P f keeps.different z hz ms all)

    listed_at : (z above : List Part) (old : List ℕ) (i : ℕ) → z ≡ above ++ key old ∷ [] → node_number ps z ≡ Some i
        → list_all (λ role. allows role Element) (mention_roles z ms) ≡ true → 0 < elements_of z tables
    listed_at z above old i was =
        subst (λ (x : List Part). node_number ps x ≡ Some i
        → list_all (λ role. allows role Element) (mention_roles x ms) ≡ true → 0 < elements_of x tables) (sym was)
        (nested.listed above old i)

    elements_at : (q z : List Part) → P z → q ≡ f z → elements_of q (map f tables) ≡ elements_of z tables
    elements_at q z hz is =
        ap (λ (x : List Part). elements_of x (map f tables)) is ∙ elements_moved P f keeps z tables hz tables_fit

    listed_moved : (path : List Part) (k : List ℕ) (i : ℕ) → node_number (map f ps) (path ++ key k ∷ []) ≡ Some i
        → list_all (λ role. allows role Element) (mention_roles (path ++ key k ∷ []) (map (moved f) ms)) ≡ true
        → 0 < elements_of (path ++ key k ∷ []) (map f tables)
    listed_moved path k i e open_to =
        let n = old_node ps (path ++ key k ∷ []) i fit e in
        let b = step_back path (key k) n.old n.fits n.is in
        let (old, was) = key_step path b.above k b.last n.old b.was n.is in
        let open_then : list_all (λ role. allows role Element) (mention_roles n.old ms) ≡ true =
        subst (λ (roles : List Role). list_all (λ role. allows role Element) roles ≡ true)
        (roles_moved (path ++ key k ∷ []) n.old n.fits n.is) open_to in
        subst (λ (many : ℕ). 0 < many) (sym (elements_at (path ++ key k ∷ []) n.old n.fits n.is))
        (listed_at n.old b.above old i was n.number open_then)

    entered_nested : (path : List Part) (i : ℕ) → node_number (map f ps) path ≡ Some i
        → 0 < elements_of path (map f tables)
        → option_and_then (node_number (map f ps))
        (slice_get (children path (map f ps)) (length (children path (map f ps)) - 1))
        ≡ node_number (map f ps) (entered_path (map f tables) path)
    entered_nested path i e some =
        let n = old_node ps path i fit e in
        let z : List Part = n.old in
        let cs : List (List Part) = children z ps in
        let many : 0 < elements_of z tables = subst (λ (many : ℕ). 0 < many) (elements_at path z n.fits n.is) some in
        ap (λ (q : List Part).
        option_and_then (node_number (map f ps))
        (slice_get (children q (map f ps)) (length (children q (map f ps)) - 1))) n.is
        ∙ ap (λ (l : List (List Part)). option_and_then (node_number (map f ps)) (slice_get l (length l - 1)))
        (children_moved P f keeps z ps n.fits fit)
        ∙ ap (λ (m : ℕ). option_and_then (node_number (map f ps)) (slice_get (map f cs) (m - 1))) (length-map cs f)
        ∙ ap (option_and_then (node_number (map f ps))) (slice_get-map f cs (length cs - 1))
        ∙ found_moved P f keeps ps (slice_get cs (length cs - 1)) fit
        (all_get P cs (length cs - 1) (all_filter P (is_child z) ps fit))
        ∙ nested.entered z i n.number many
        ∙ sym (number_moved P f keeps (entered_path tables z) ps (entered_fits P f keeps z tables n.fits) fit)
        ∙ ap (node_number (map f ps)) (sym (entered_moved P f keeps z tables n.fits tables_fit))
        ∙ ap (λ (q : List Part). node_number (map f ps) (entered_path (map f tables) q)) (sym n.is)

    pub nested_moved : AreNested (map (moved f) ms) (map f tables)
    nested_moved =
        let paths : map f ps ≡ node_paths (map (moved f) ms) = sym (paths_moved P f keeps ms all) in
        record {
          closed = λ path more none.
              subst (λ (qs : List (List Part)). node_number qs (path ++ more) ≡ None) paths
              (closed_moved more path (ap (λ (qs : List (List Part)). node_number qs path) paths ∙ none));
          listed =
              λ path k i is open_to.
              listed_moved path k i (ap (λ (qs : List (List Part)). node_number qs (path ++ key k ∷ [])) paths ∙ is)
              open_to;
          entered = λ path i is some.
              subst (λ (qs : List (List Part)).
              option_and_then (node_number qs) (slice_get (children path qs) (length (children path qs) - 1))
              ≡ node_number qs (entered_path (map f tables) path)) paths
              (entered_nested path i (ap (λ (qs : List (List Part)). node_number qs path) paths ∙ is) some);
        }
