-- A run of mentions in a document, as a value with a key says it: which paths there are with it (`paths_are`), and what
-- is said at each (`here`, `elsewhere`, `inside`).
--
-- A run is a mention by a key part, and then those at longer paths. What is said before the run and after it is said of
-- other paths. So the paths of a run are met together, right after its own, and those met after it are the same with
-- any run there (`further`). What is said in a run is what it alone says, with its path before each path and with the
-- numbers that it has there (`run_moved`). The facts about a node go by what is said of it, in its order: with other
-- numbers for that they have these numbers, and nothing else changes (`info_moved`).
--
-- Theorems: `paths_are`: the paths with a run; `inside`: below its path is said what the run alone says; `info_moved`:
-- with other numbers nothing else changes in the facts.
use Rattle.std.proofs.Common.{◌≡◌, ℕ, suc, ◌+◌, ◌-◌, ◌<◌, ◌≤◌, Bool, true, false, cond, ◌||◌, List, [], ◌∷◌, ◌++◌, map}
use Rattle.std.proofs.Common.{refl, sym, ap, ap₂, ◌∙◌, arith, append-nil, append_assoc, Option, Some, None}
use Rattle.std.specs.Prelude.{fold, if◌then◌else◌}
use Rattle.std.specs.List.{list_any, AllByRecursion}
use Rattle.std.specs.Option.{option_map}
use Rattle.std.proofs.lemmas.Bool.{lt-ltb, le-ltb, or_parts}
use Rattle.std.proofs.lemmas.List.{map-append}
use Rattle.std.proofs.lemmas.List.Elements.{filter-append}
use Rattle.std.proofs.lemmas.List.Folds.{list_any-append}
use Rattle.std.proofs.lemmas.List.Sums.{fold-append}
use Rattle.keep_types.specs.declared.node.NodeInfo.{NodeInfo}
use Rattle.keep_types.specs.declared.node.Origin.{Origin}
use Rattle.keep_syntax.specs.Tree.{Name, Entries, none, entry}
use Rattle.keep_path.specs.NodeInfos.{renumbered_origin}
use Rattle.keep_path.specs.NodesBelow.{shifted}
use Rattle.keep_path.specs.Path.{Part, key, index, same_path, strip}
use Rattle.keep_path.proofs.Shared.{path_decides, strip_append}
use Rattle.keep_meaning.specs.Fact.{Fact}
use Rattle.keep_meaning.specs.Marks.{MentionKind, Mention, below, dotted, value as mentions_value}
use Rattle.keep_meaning.specs.Meaning.{key_value, further_value, body_fact, keyed_mentions, entry_mentions}
use Rattle.keep_meaning.specs.Meaning.{entries_mentions}
use Rattle.keep_meaning.specs.Counts.{Count, Numbered, is_value, is_mark, one_if, count_with_mention, numbered_mentions}
use Rattle.keep_meaning.specs.Nodes.{is_begun, is_define, is_dotted, is_element, is_numbered_at, is_passed, is_root}
use Rattle.keep_meaning.specs.Nodes.{is_through, first_number, last_number, key_number, mention_kind_of, mention_of}
use Rattle.keep_meaning.specs.Nodes.{mentioned_kind, mentioned_node, mentioned_origin, node_info, node_paths}
use Rattle.keep_meaning.specs.Nodes.{numbered_at, paths_with, statement_number, value_number}
use Rattle.keep_meaning.specs.OtherValues.{IsApart}
use Rattle.keep_meaning.proofs.CountLemmas.{mentions-numbered_mentions}
use Rattle.keep_meaning.proofs.LineNodeLemmas.{fitting, fitting_later, map_twice, path_of}
use Rattle.keep_meaning.proofs.LineNumberLemmas.{AllOf, all_join, all_of}
use Rattle.keep_meaning.proofs.MetLemmas.{same_turned}

pub all_again : {A : Type 0} (P : A → Type 0) (xs : List A) → AllByRecursion P xs → AllOf P xs
all_again P [] h = tt
all_again P (x ∷ xs) h = (h.0, all_again P xs h.1)

-- ---- a path that is not at or below another

abbrev pub IsOff : List Part → List Part → Type 0
IsOff path q = strip path q ≡ None

pub off_not : (path q more : List Part) → IsOff path q → q ≡ path ++ more → ⊥
off_not path q more h e = let is : strip path q ≡ Some more = ap (strip path) e ∙ strip_append path more in absurd cc

off_differs : (path q more : List Part) → IsOff path q → same_path q (path ++ more) ≡ false
off_differs path q more h = by (same_path q (path ++ more)) refl
  where
    by : (b : Bool) → same_path q (path ++ more) ≡ b → b ≡ false
    by false e = refl
    by true e = absurd (off_not path q more h ((path_decides q (path ++ more)).0 e))

pub off_turned : (path q more : List Part) → IsOff path q → same_path (path ++ more) q ≡ false
off_turned path q more h = same_turned (path ++ more) q ∙ off_differs path q more h

off_self : (path q : List Part) → IsOff path q → same_path q path ≡ false
off_self path q h = ap (same_path q) (sym (append-nil path)) ∙ off_differs path q [] h

-- two paths with the same first steps
same_below : (path p q : List Part) → same_path (path ++ p) (path ++ q) ≡ same_path p q
same_below path p q = by (same_path (path ++ p) (path ++ q)) (same_path p q) there back
  where
    by : (a b : Bool) → (a ≡ true → b ≡ true) → (b ≡ true → a ≡ true) → a ≡ b
    by true b f g = sym (f refl)
    by false true f g = g refl
    by false false f g = refl

    there : same_path (path ++ p) (path ++ q) ≡ true → same_path p q ≡ true
    there e =
        let both : path ++ p ≡ path ++ q = (path_decides (path ++ p) (path ++ q)).0 e in
        let some : Some p ≡ Some q = sym (strip_append path p) ∙ ap (strip path) both ∙ strip_append path q in
        let one : p ≡ q = cc in
        (path_decides p q).1 one

    back : same_path p q ≡ true → same_path (path ++ p) (path ++ q) ≡ true
    back e = (path_decides (path ++ p) (path ++ q)).1 (ap (λ (r : List Part). path ++ r) ((path_decides p q).0 e))

pub same_self : (p : List Part) → same_path p p ≡ true
same_self p = (path_decides p p).1 refl

not_root : (p : List Part) → is_root p ≡ false → same_path p [] ≡ false
not_root [] h = absurd cc
not_root (x ∷ p) h = refl

deeper_not : (path p : List Part) → is_root p ≡ false → same_path (path ++ p) path ≡ false
deeper_not path p h = ap (same_path (path ++ p)) (sym (append-nil path)) ∙ same_below path p [] ∙ not_root p h

-- ---- paths that are met after others

-- those that are met after the ones in front
abbrev pub further_with : List (List Part) → List (List Part) → List Part → List (List Part)
further_with front met q = if list_any (same_path q) (front ++ met) then met else met ++ q ∷ []

abbrev pub further : List (List Part) → List (List Part) → List (List Part)
further front qs = fold (further_with front) [] qs

met_after : (front met qs : List (List Part))
    → fold paths_with (front ++ met) qs ≡ front ++ fold (further_with front) met qs
met_after front met [] = refl
met_after front met (q ∷ qs) = by (list_any (same_path q) (front ++ met)) (λ more. met_after front more qs)
  where
    by : (b : Bool)
        → ((more : List (List Part)) → fold paths_with (front ++ more) qs ≡ front ++ fold (further_with front) more qs)
        → fold paths_with (cond b (front ++ met) ((front ++ met) ++ q ∷ [])) qs ≡ front
        ++ fold (further_with front) (cond b met (met ++ q ∷ [])) qs
    by true more = more met
    by false more =
        ap (λ (l : List (List Part)). fold paths_with l qs) (append_assoc front met (q ∷ [])) ∙ more (met ++ q ∷ [])

pub all_further : (P : List Part → Type 0) (front met qs : List (List Part)) → AllOf P met → AllOf P qs
    → AllOf P (fold (further_with front) met qs)
all_further P front met [] h g = h
all_further P front met (q ∷ qs) h g =
    by (list_any (same_path q) (front ++ met)) (λ more r. all_further P front more qs r g.1)
  where
    by : (b : Bool) → ((more : List (List Part)) → AllOf P more → AllOf P (fold (further_with front) more qs))
        → AllOf P (fold (further_with front) (cond b met (met ++ q ∷ [])) qs)
    by true more = more met h
    by false more = more (met ++ q ∷ []) (all_join P met (q ∷ []) h (g.0, tt))

-- some in front that none of the later ones is
abbrev IsNoneOf : List (List Part) → List Part → Type 0
IsNoneOf ps q = list_any (same_path q) ps ≡ false

without_middle : (front middle met : List (List Part)) (q : List Part) → IsNoneOf middle q
    → list_any (same_path q) ((front ++ middle) ++ met) ≡ list_any (same_path q) (front ++ met)
without_middle front middle met q h =
    list_any-append (same_path q) (front ++ middle) met
    ∙ ap (λ (b : Bool). b || list_any (same_path q) met)
    (list_any-append (same_path q) front middle ∙ ap (λ (b : Bool). list_any (same_path q) front || b) h
    ∙ or_none (list_any (same_path q) front))
    ∙ sym (list_any-append (same_path q) front met)
  where
    or_none : (b : Bool) → (b || false) ≡ b
    or_none true = refl
    or_none false = refl

further_same : (front middle met qs : List (List Part)) → AllOf (IsNoneOf middle) qs
    → fold (further_with (front ++ middle)) met qs ≡ fold (further_with front) met qs
further_same front middle met [] h = refl
further_same front middle met (q ∷ qs) h =
    ap (λ (b : Bool). fold (further_with (front ++ middle)) (cond b met (met ++ q ∷ [])) qs)
    (without_middle front middle met q h.0)
    ∙ further_same front middle (cond (list_any (same_path q) (front ++ met)) met (met ++ q ∷ [])) qs h.1

-- ---- the paths of a run

-- the path itself is met last, after others
pub record FirstMet (path : List Part) (before : List (List Part)) : Type 0 where
  pub front : List (List Part)
  pub off : AllOf (IsOff path) front
  pub met : fold paths_with ([] ∷ []) (before ++ path ∷ []) ≡ front ++ path ∷ []

none_is : (path : List Part) (ps : List (List Part)) → AllOf (IsOff path) ps → (more : List Part)
    → IsNoneOf ps (path ++ more)
none_is path [] h more = refl
none_is path (p ∷ ps) h more = ap₂ (λ (a b : Bool). a || b) (off_turned path p more h.0) (none_is path ps h.1 more)

pub first_met : (path : List Part) (before : List (List Part)) → AllOf (IsOff path) before → FirstMet path before
first_met [] [] h = record { front = []; off = tt; met = refl }
first_met [] (b ∷ before) h = absurd (let e = h.0 in cc)
first_met (p ∷ path) before h =
    let front : List (List Part) = fold paths_with ([] ∷ []) before in
    let off : AllOf (IsOff (p ∷ path)) front = all_further (IsOff (p ∷ path)) [] ([] ∷ []) before (refl, tt) h in
    let new : list_any (same_path (p ∷ path)) front ≡ false =
    ap (λ (q : List Part). list_any (same_path q) front) (sym (append-nil (p ∷ path)))
    ∙ none_is (p ∷ path) front off [] in
    record {
      front = front;
      off = off;
      met = fold-append paths_with ([] ∷ []) before ((p ∷ path) ∷ [])
          ∙ ap (λ (b : Bool). cond b front (front ++ (p ∷ path) ∷ [])) new;
    }

any_below : (path r : List Part) (rs : List (List Part))
    → list_any (same_path (path ++ r)) (map (λ (x : List Part). path ++ x) rs) ≡ list_any (same_path r) rs
any_below path r [] = refl
any_below path r (x ∷ rs) = ap₂ (λ (a b : Bool). a || b) (same_below path r x) (any_below path r rs)

-- the paths below it are met as they are alone
met_below : (path : List Part) (front rs qs : List (List Part)) → AllOf (IsOff path) front
    → fold paths_with (front ++ map (λ (x : List Part). path ++ x) rs) (map (λ (x : List Part). path ++ x) qs) ≡ front
    ++ map (λ (x : List Part). path ++ x) (fold paths_with rs qs)
met_below path front rs [] h = refl
met_below path front rs (q ∷ qs) h =
    ap (λ (b : Bool). fold paths_with (cond b (front ++ under rs) ((front ++ under rs) ++ (path ++ q) ∷ [])) (under qs))
    known
    ∙ by (list_any (same_path q) rs) (λ more. met_below path front more qs h)
  where
    under : List (List Part) → List (List Part)
    under l = map (λ (x : List Part). path ++ x) l

    known : list_any (same_path (path ++ q)) (front ++ under rs) ≡ list_any (same_path q) rs
    known =
        list_any-append (same_path (path ++ q)) front (under rs)
        ∙ ap₂ (λ (a b : Bool). a || b) (none_is path front h q) (any_below path q rs)

    by : (b : Bool)
        → ((more : List (List Part))
        → fold paths_with (front ++ under more) (under qs) ≡ front ++ under (fold paths_with more qs))
        → fold paths_with (cond b (front ++ under rs) ((front ++ under rs) ++ (path ++ q) ∷ [])) (under qs) ≡ front
        ++ under (fold paths_with (cond b rs (rs ++ q ∷ [])) qs)
    by true more = more rs
    by false more =
        ap (λ (l : List (List Part)). fold paths_with l (under qs))
        (append_assoc front (under rs) ((path ++ q) ∷ [])
        ∙ ap (λ (l : List (List Part)). front ++ l) (sym (map-append (λ (x : List Part). path ++ x) rs (q ∷ []))))
        ∙ more (rs ++ q ∷ [])

-- the paths below the root that are met, of these
abbrev pub deeper : List (List Part) → List (List Part)
deeper qs = further ([] ∷ []) qs

pub paths_alone : (ms : List Mention) → node_paths ms ≡ [] ∷ deeper (map path_of ms)
paths_alone ms = met_after ([] ∷ []) [] (map path_of ms)

none_below : (path : List Part) (rs : List (List Part)) (q : List Part) → IsOff path q
    → IsNoneOf (map (λ (x : List Part). path ++ x) rs) q
none_below path [] q h = refl
none_below path (r ∷ rs) q h = ap₂ (λ (a b : Bool). a || b) (off_differs path q r h) (none_below path rs q h)

pub run_paths : (path : List Part) (before after inner : List (List Part)) (first : FirstMet path before)
    → AllOf (IsOff path) after
    → fold paths_with ([] ∷ []) (before ++ (path ∷ (map (λ (x : List Part). path ++ x) inner ++ after))) ≡ first.front
    ++ (path ∷ (map (λ (x : List Part). path ++ x) (deeper inner) ++ further first.front after))
run_paths path before after inner first off =
    let under : List (List Part) → List (List Part) = λ (l : List (List Part)). map (λ (x : List Part). path ++ x) l in
    let run : List (List Part) = [] ∷ deeper inner in
    let front : List (List Part) = first.front in
    ap (fold paths_with ([] ∷ [])) (sym (append_assoc before (path ∷ []) (under inner ++ after)))
    ∙ fold-append paths_with ([] ∷ []) (before ++ path ∷ []) (under inner ++ after)
    ∙ ap (λ (l : List (List Part)). fold paths_with l (under inner ++ after))
    (first.met ∙ ap (λ (p : List Part). front ++ p ∷ []) (sym (append-nil path)))
    ∙ fold-append paths_with (front ++ (path ++ []) ∷ []) (under inner) after
    ∙ ap (λ (l : List (List Part)). fold paths_with l after)
    (met_below path front ([] ∷ []) inner first.off
    ∙ ap (λ (l : List (List Part)). front ++ under l) (met_after ([] ∷ []) [] inner))
    ∙ ap (λ (l : List (List Part)). fold paths_with l after) (sym (append-nil (front ++ under run)))
    ∙ met_after (front ++ under run) [] after
    ∙ ap (λ (l : List (List Part)). (front ++ under run) ++ l)
    (further_same front (under run) [] after
    (all_of (IsOff path) (IsNoneOf (under run)) (none_below path run) after off))
    ∙ append_assoc front (under run) (further front after)
    ∙ ap (λ (p : List Part). front ++ (p ∷ (under (deeper inner) ++ further front after))) (append-nil path)

-- ---- what is in a value

-- nothing that a header says
abbrev pub is_of_header : MentionKind → Bool
is_of_header k = is_element k || (is_begun k || (is_define k || is_through k))

abbrev pub IsOfBody : Mention → Type 0
IsOfBody m = is_of_header m.kind ≡ false

-- and not said of the value itself
abbrev pub IsDeeper : Mention → Type 0
IsDeeper m = (is_root m.path ≡ false) × IsOfBody m

deeper_under : (p : Part) (ms : List Mention) → AllOf IsOfBody ms → AllOf IsDeeper (map (below (p ∷ [])) ms)
deeper_under p [] h = tt
deeper_under p (m ∷ ms) h = ((refl, h.0), deeper_under p ms h.1)

of_body : (ms : List Mention) → AllOf IsDeeper ms → AllOf IsOfBody ms
of_body ms h = all_of IsDeeper IsOfBody (λ m g. g.1) ms h

pub deeper_keys : (k : List ℕ) (ks : List (List ℕ)) (ms : List Mention) → AllOf IsOfBody ms
    → AllOf IsDeeper (keyed_mentions (k ∷ ks) ms)
deeper_keys k [] ms h = deeper_under (key k) ms h
deeper_keys k (l ∷ ks) ms h =
    deeper_under (key k) (record { path = []; kind = dotted } ∷ keyed_mentions (l ∷ ks) ms)
    (refl, of_body (keyed_mentions (l ∷ ks) ms) (deeper_keys l ks ms h))

deeper_entry : (n : ℕ) (name : Option Name) (f : Fact) (nested : List Mention) → AllOf IsDeeper nested
    → AllOf IsDeeper (entry_mentions n name f nested)
deeper_entry n None f nested h = ((refl, refl), deeper_under (index n) nested (of_body nested h))
deeper_entry n (Some name) f nested h =
    deeper_keys (key_value name.key.first) (map further_value name.key.more)
    (record { path = []; kind = mentions_value f } ∷ nested) (refl, of_body nested h)

pub deeper_inside : (n : ℕ) (es : Entries) → AllOf IsDeeper (entries_mentions n es)
deeper_inside n none = tt
deeper_inside n (entry name body nested after comma rest) =
    all_join IsDeeper (entry_mentions n name (body_fact body) (entries_mentions 0 nested))
    (entries_mentions (n + 1) rest)
    (deeper_entry n name (body_fact body) (entries_mentions 0 nested) (deeper_inside 0 nested))
    (deeper_inside (n + 1) rest)

all_paths : (ms : List Mention) → AllOf IsDeeper ms → AllOf (λ (q : List Part). is_root q ≡ false) (map path_of ms)
all_paths [] h = tt
all_paths (m ∷ ms) h = (h.0.0, all_paths ms h.1)

-- so the paths that are met in it are longer ones
pub deeper_met : (ms : List Mention) → AllOf IsDeeper ms
    → AllOf (λ (q : List Part). is_root q ≡ false) (deeper (map path_of ms))
deeper_met ms deep =
    all_further (λ (q : List Part). is_root q ≡ false) ([] ∷ []) [] (map path_of ms) tt (all_paths ms deep)

pub all_numbered : (P : Mention → Type 0) (c : Count) (ms : List Mention) → AllOf P ms
    → AllOf (λ (n : Numbered). P n.mention) (numbered_mentions c ms)
all_numbered P c [] h = tt
all_numbered P c (m ∷ ms) h = (h.0, all_numbered P (count_with_mention c m) ms h.1)

-- ---- other numbers

module _ (at : List Part) (statement value key_part : ℕ → ℕ) where
  abbrev pub moved_count : Count → Count
  moved_count c = record { statements = statement c.statements; values = value c.values; keys = key_part c.keys }

  -- said below a path, with other numbers
  abbrev pub moved : Numbered → Numbered
  moved n = record { mention = below at n.mention; before = moved_count n.before }

  abbrev pub moved_info : NodeInfo → NodeInfo
  moved_info i = record i { key = option_map key_part i.key; origin = renumbered_origin statement value i.origin }

  abbrev known_by : (MentionKind → Bool) → (Count → ℕ) → Option ℕ → Numbered → Option ℕ
  known_by is number known n = cond (is n.mention.kind) (Some (number n.before)) known

  last_moved : (is : MentionKind → Bool) (number : Count → ℕ) (f : ℕ → ℕ)
      → ((c : Count) → number (moved_count c) ≡ f (number c)) → (ns : List Numbered) (known : Option ℕ)
      → fold (known_by is number) (option_map f known) (map moved ns)
      ≡ option_map f (fold (known_by is number) known ns)
  last_moved is number f other [] known = refl
  last_moved is number f other (n ∷ ns) known =
      ap (λ (k : Option ℕ). fold (known_by is number) k (map moved ns)) (by (is n.mention.kind))
      ∙ last_moved is number f other ns (known_by is number known n)
    where
      by : (b : Bool)
          → cond b (Some (number (moved_count n.before))) (option_map f known)
          ≡ option_map f (cond b (Some (number n.before)) known)
      by true = ap Some (other n.before)
      by false = refl

  first_moved : (is : MentionKind → Bool) (ns : List Numbered)
      → first_number is key_number (map moved ns) ≡ option_map key_part (first_number is key_number ns)
  first_moved is [] = refl
  first_moved is (n ∷ ns) = by (is n.mention.kind) (first_moved is ns)
    where
      by : (b : Bool) → first_number is key_number (map moved ns) ≡ option_map key_part (first_number is key_number ns)
          → cond b (Some (key_part n.before.keys)) (first_number is key_number (map moved ns))
          ≡ option_map key_part (cond b (Some n.before.keys) (first_number is key_number ns))
      by true rest = refl
      by false rest = rest

  kinds_moved : (ns : List Numbered) → map mention_kind_of (map moved ns) ≡ map mention_kind_of ns
  kinds_moved [] = refl
  kinds_moved (n ∷ ns) = ap (λ (l : List MentionKind). n.mention.kind ∷ l) (kinds_moved ns)

  passed_moved : (ns : List Numbered)
      → list_any (λ (n : Numbered). is_passed n.mention.kind) (map moved ns)
      ≡ list_any (λ (n : Numbered). is_passed n.mention.kind) ns
  passed_moved [] = refl
  passed_moved (n ∷ ns) = ap (λ (b : Bool). is_passed n.mention.kind || b) (passed_moved ns)

  abbrev marks_by : ℕ → Numbered → ℕ
  marks_by n m = n + cond (is_mark m.mention.kind) 1 0

  marks_moved : (n : ℕ) (ns : List Numbered) → fold marks_by n (map moved ns) ≡ fold marks_by n ns
  marks_moved n [] = refl
  marks_moved n (m ∷ ns) = marks_moved (marks_by n m) ns

  origin_moved : (ns : List Numbered)
      → mentioned_origin (map moved ns) ≡ renumbered_origin statement value (mentioned_origin ns)
  origin_moved ns =
      let ms : List Numbered = map moved ns in
      let s : (is : MentionKind → Bool)
      → last_number is statement_number ms ≡ option_map statement (last_number is statement_number ns) =
      λ is. last_moved is statement_number statement (λ c. refl) ns None in
      let v : (is : MentionKind → Bool)
      → last_number is value_number ms ≡ option_map value (last_number is value_number ns) =
      λ is. last_moved is value_number value (λ c. refl) ns None in
      ap₂ (λ (o p : Option ℕ).
      fitting o p (last_number is_begun statement_number ms) (last_number is_define statement_number ms)
      (last_number is_dotted value_number ms) (last_number is_through statement_number ms)) (v is_value) (s is_element)
      ∙ ap₂ (λ (o p : Option ℕ).
      fitting (option_map value (last_number is_value value_number ns))
      (option_map statement (last_number is_element statement_number ns)) o p (last_number is_dotted value_number ms)
      (last_number is_through statement_number ms)) (s is_begun) (s is_define)
      ∙ ap₂ (λ (o p : Option ℕ).
      fitting (option_map value (last_number is_value value_number ns))
      (option_map statement (last_number is_element statement_number ns))
      (option_map statement (last_number is_begun statement_number ns))
      (option_map statement (last_number is_define statement_number ns)) o p) (v is_dotted) (s is_through)
      ∙ fitting_later statement value (last_number is_value value_number ns)
      (last_number is_element statement_number ns) (last_number is_begun statement_number ns)
      (last_number is_define statement_number ns) (last_number is_dotted value_number ns)
      (last_number is_through statement_number ns)

  pub info_moved : (q p : List Part) (ns : List Numbered)
      → node_info (mentioned_node q (map moved ns)) ≡ moved_info (node_info (mentioned_node p ns))
  info_moved q p ns =
      let new : NodeInfo = node_info (mentioned_node q (map moved ns)) in
      let old : NodeInfo = node_info (mentioned_node p ns) in
      ap (λ (ks : List MentionKind).
      record { kind = mentioned_kind ks; key = new.key; marks = new.marks; passed = new.passed; origin = new.origin })
      (kinds_moved ns)
      ∙ ap₂ (λ (k : Option ℕ) (m : ℕ).
      record { kind = old.kind; key = k; marks = m; passed = new.passed; origin = new.origin }) (first_moved is_mark ns)
      (marks_moved 0 ns)
      ∙ ap₂ (λ (b : Bool) (o : Origin).
      record { kind = old.kind; key = option_map key_part old.key; marks = old.marks; passed = b; origin = o })
      (passed_moved ns) (origin_moved ns)

  -- those at one path are those at another
  pub numbered_moved : (q p : List Part) → ((m : Mention) → same_path (at ++ m.path) q ≡ same_path m.path p)
      → (ns : List Numbered) → numbered_at q (map moved ns) ≡ map moved (numbered_at p ns)
  numbered_moved q p same [] = refl
  numbered_moved q p same (n ∷ ns) =
      ap (λ (b : Bool). cond b (moved n ∷ numbered_at q (map moved ns)) (numbered_at q (map moved ns))) (same n.mention)
      ∙ by (same_path n.mention.path p) (numbered_moved q p same ns)
    where
      by : (b : Bool) → numbered_at q (map moved ns) ≡ map moved (numbered_at p ns)
          → cond b (moved n ∷ numbered_at q (map moved ns)) (numbered_at q (map moved ns))
          ≡ map moved (cond b (n ∷ numbered_at p ns) (numbered_at p ns))
      by true e = ap (λ (l : List Numbered). moved n ∷ l) e
      by false e = e

-- where nothing is said by headers, no number of a statement shows
none_last : (is : MentionKind → Bool) (ns : List Numbered) → AllOf (λ (n : Numbered). is n.mention.kind ≡ false) ns
    → last_number is statement_number ns ≡ None
none_last is [] h = refl
none_last is (n ∷ ns) h =
    ap (λ (b : Bool).
    fold (λ (known : Option ℕ) (m : Numbered). cond (is m.mention.kind) (Some (statement_number m.before)) known)
    (cond b (Some n.before.statements) None) ns) h.0 ∙ none_last is ns h.1

body_origin : (s t v : ℕ → ℕ) (value dot : Option ℕ)
    → renumbered_origin s v (fitting value None None None dot None)
    ≡ renumbered_origin t v (fitting value None None None dot None)
body_origin s t v (Some n) dot = refl
body_origin s t v None (Some n) = refl
body_origin s t v None None = refl

body_parts : (k : MentionKind) → is_of_header k ≡ false
    → (is_element k ≡ false) × (is_begun k ≡ false) × (is_define k ≡ false) × (is_through k ≡ false)
body_parts k h =
    let e = or_parts (is_element k) (is_begun k || (is_define k || is_through k)) h in
    let b = or_parts (is_begun k) (is_define k || is_through k) e.1 in
    let d = or_parts (is_define k) (is_through k) b.1 in
    (e.0, b.0, d.0, d.1)

pub statements_unseen : (s t v : ℕ → ℕ) (ns : List Numbered) → AllOf (λ (n : Numbered). IsOfBody n.mention) ns
    → renumbered_origin s v (mentioned_origin ns) ≡ renumbered_origin t v (mentioned_origin ns)
statements_unseen s t v ns h =
    let value : Option ℕ = last_number is_value value_number ns in
    let dot : Option ℕ = last_number is_dotted value_number ns in
    let is : mentioned_origin ns ≡ fitting value None None None dot None =
    ap₂ (λ (o p : Option ℕ).
    fitting value o p (last_number is_define statement_number ns) dot (last_number is_through statement_number ns))
    (none is_element (λ k e. (body_parts k e).0)) (none is_begun (λ k e. (body_parts k e).1))
    ∙ ap₂ (λ (o p : Option ℕ). fitting value None None o dot p) (none is_define (λ k e. (body_parts k e).2))
    (none is_through (λ k e. (body_parts k e).3)) in
    ap (renumbered_origin s v) is ∙ body_origin s t v value dot ∙ ap (renumbered_origin t v) (sym is)
  where
    none : (is : MentionKind → Bool) → ((k : MentionKind) → is_of_header k ≡ false → is k ≡ false)
        → last_number is statement_number ns ≡ None
    none is never =
        none_last is ns (all_of (λ (n : Numbered). IsOfBody n.mention) (λ (n : Numbered). is n.mention.kind ≡ false)
        (λ n e. never n.mention.kind e) ns h)

-- ---- numbers beside a value, and in it

pub low_stays : (from old new n : ℕ) → n < from → shifted from old new n ≡ n
low_stays from old new n low = ap (λ (b : Bool). cond b n ((n + new) - old)) (lt-ltb n from low)

pub high_shifts : (from old new n : ℕ) → from ≤ n → shifted from old new n ≡ (n + new) - old
high_shifts from old new n high = ap (λ (b : Bool). cond b n ((n + new) - old)) (le-ltb n from high)

pub inner_grows : (more n : ℕ) → shifted 0 0 more n ≡ n + more
inner_grows more n = let same : (n + more) - 0 ≡ n + more = omega arith in high_shifts 0 0 more n (omega arith) ∙ same

-- ---- one document with a run: a mention by a key part, and what is said below its path

-- what comes before that which is said below, alone: the value, if the first mention states one
abbrev pub count_alone : MentionKind → Count
count_alone k = record { statements = 0; values = one_if (is_value k); keys = 0 }

-- a run of this path, after so much
abbrev pub said_by_run : Count → List Part → MentionKind → List Mention → List Numbered
said_by_run c path k nested = numbered_mentions c (record { path = path; kind = k } ∷ map (below path) nested)

-- none of these is said of the path
abbrev IsNotAt : List Part → Numbered → Type 0
IsNotAt q n = is_numbered_at q n ≡ false

none_said : (q : List Part) (ns : List Numbered) → AllOf (IsNotAt q) ns → numbered_at q ns ≡ []
none_said q [] h = refl
none_said q (n ∷ ns) h = ap (λ (b : Bool). cond b (n ∷ numbered_at q ns) (numbered_at q ns)) h.0 ∙ none_said q ns h.1

pub none_under : (q path : List Part) (P : Mention → Type 0)
    → ((m : Mention) → P m → same_path (path ++ m.path) q ≡ false)
    → (c : Count) (ms : List Mention) → AllOf P ms → numbered_at q (numbered_mentions c (map (below path) ms)) ≡ []
none_under q path P apart c [] h = refl
none_under q path P apart c (m ∷ ms) h =
    let rest : List Numbered = numbered_mentions (count_with_mention c (below path m)) (map (below path) ms) in
    ap (λ (b : Bool). cond b (record { mention = below path m; before = c } ∷ numbered_at q rest) (numbered_at q rest))
    (apart m h.0)
    ∙ none_under q path P apart (count_with_mention c (below path m)) ms h.1

all_any : {A : Type 0} (P : A → Type 0) → ((x : A) → P x) → (xs : List A) → AllOf P xs
all_any P f [] = tt
all_any P f (x ∷ xs) = (f x, all_any P f xs)

pub off_paths : (path : List Part) (ns : List Numbered) → AllOf (IsApart path) ns
    → AllOf (IsOff path) (map path_of (map mention_of ns))
off_paths path [] h = tt
off_paths path (n ∷ ns) h = (h.0, off_paths path ns h.1)

-- in the run of this path, after so much
module _ (path : List Part) (c : Count) where
  abbrev pub in_run : Numbered → Numbered
  in_run = moved path (λ (s : ℕ). c.statements) (shifted 0 0 c.values) (shifted 0 0 (suc c.keys))

  abbrev pub count_in_run : Count → Count
  count_in_run = moved_count path (λ (s : ℕ). c.statements) (shifted 0 0 c.values) (shifted 0 0 (suc c.keys))

  count_grows : (d : Count) (m : Mention)
      → count_with_mention (count_in_run d) (below path m) ≡ count_in_run (count_with_mention d m)
  count_grows d m =
      let v : ℕ = one_if (is_value m.kind) in
      let k : ℕ = one_if (is_mark m.kind) in
      let values : shifted 0 0 c.values d.values + v ≡ shifted 0 0 c.values (d.values + v) =
      omega (arith, inner_grows c.values d.values, inner_grows c.values (d.values + v)) in
      let keys : shifted 0 0 (suc c.keys) d.keys + k ≡ shifted 0 0 (suc c.keys) (d.keys + k) =
      omega (arith, inner_grows (suc c.keys) d.keys, inner_grows (suc c.keys) (d.keys + k)) in
      ap₂ (λ (v k : ℕ). record { statements = c.statements; values = v; keys = k }) values keys

  run_from : (d : Count) (ms : List Mention)
      → numbered_mentions (count_in_run d) (map (below path) ms) ≡ map in_run (numbered_mentions d ms)
  run_from d [] = refl
  run_from d (m ∷ ms) =
      ap (λ (ns : List Numbered). record { mention = below path m; before = count_in_run d } ∷ ns)
      (ap (λ (e : Count). numbered_mentions e (map (below path) ms)) (count_grows d m)
      ∙ run_from (count_with_mention d m) ms)

  abbrev own : MentionKind → Mention
  own k = record { path = path; kind = k }

  run_moved : (k : MentionKind) → is_mark k ≡ true → (ms : List Mention)
      → numbered_mentions (count_with_mention c (own k)) (map (below path) ms)
      ≡ map in_run (numbered_mentions (count_alone k) ms)
  run_moved k marked ms =
      let more : ℕ = one_if (is_value k) in
      let values : c.values + more ≡ shifted 0 0 c.values more = omega (arith, inner_grows c.values more) in
      let keys : c.keys + one_if (is_mark k) ≡ shifted 0 0 (suc c.keys) 0 =
      omega (arith, inner_grows (suc c.keys) 0, ap one_if marked) in
      ap₂ (λ (v n : ℕ).
      numbered_mentions (record { statements = c.statements; values = v; keys = n }) (map (below path) ms)) values keys
      ∙ run_from (count_alone k) ms

  module _ (k : MentionKind) (marked : is_mark k ≡ true) (nested : List Mention) (deep : AllOf IsDeeper nested)
      (xs ys : List Numbered) (off_xs : AllOf (IsApart path) xs) (off_ys : AllOf (IsApart path) ys) where
    abbrev pub all_said : List Numbered
    all_said = xs ++ (said_by_run c path k nested ++ ys)

    abbrev first : Numbered
    first = record { mention = own k; before = c }

    abbrev rest : List Numbered
    rest = numbered_mentions (count_with_mention c (own k)) (map (below path) nested)

    parts_at : (q : List Part)
        → numbered_at q all_said ≡ numbered_at q xs ++ (numbered_at q (said_by_run c path k nested) ++ numbered_at q ys)
    parts_at q =
        filter-append (is_numbered_at q) xs (said_by_run c path k nested ++ ys)
        ∙ ap (λ (l : List Numbered). numbered_at q xs ++ l)
        (filter-append (is_numbered_at q) (said_by_run c path k nested) ys)

    off_numbered : (more : List Part) (ns : List Numbered) → AllOf (IsApart path) ns
        → numbered_at (path ++ more) ns ≡ []
    off_numbered more ns h =
        none_said (path ++ more) ns (all_of (IsApart path) (IsNotAt (path ++ more)) (λ n g.
        off_differs path n.mention.path more g) ns h)

    off_own : (ns : List Numbered) → AllOf (IsApart path) ns → numbered_at path ns ≡ []
    off_own ns h = none_said path ns (all_of (IsApart path) (IsNotAt path) (λ n g. off_self path n.mention.path g) ns h)

    -- of the path only its first mention says something
    pub here : numbered_at path all_said ≡ first ∷ []
    here =
        parts_at path
        ∙ ap₂ (λ (l m : List Numbered). l ++ (numbered_at path (said_by_run c path k nested) ++ m)) (off_own xs off_xs)
        (off_own ys off_ys)
        ∙ append-nil (numbered_at path (said_by_run c path k nested))
        ∙ ap (λ (b : Bool). cond b (first ∷ numbered_at path rest) (numbered_at path rest)) (same_self path)
        ∙ ap (λ (l : List Numbered). first ∷ l)
        (none_under path path IsDeeper (λ m g. deeper_not path m.path g.0) (count_with_mention c (own k)) nested
        deep)

    -- of another path that is not below it, the run says nothing
    pub elsewhere : (q : List Part) → IsOff path q → numbered_at q all_said ≡ numbered_at q xs ++ numbered_at q ys
    elsewhere q off =
        let differs : same_path path q ≡ false =
        ap (λ (p : List Part). same_path p q) (sym (append-nil path)) ∙ off_turned path q [] off in
        parts_at q
        ∙ ap (λ (l : List Numbered). numbered_at q xs ++ (l ++ numbered_at q ys))
        (ap (λ (b : Bool). cond b (first ∷ numbered_at q rest) (numbered_at q rest)) differs
        ∙ none_under q path (λ (m : Mention). same_path (path ++ m.path) q ≡ false) (λ m g. g)
        (count_with_mention c (own k)) nested
        (all_any (λ (m : Mention). same_path (path ++ m.path) q ≡ false) (λ m. off_turned path q m.path off) nested))

    -- of a path below it, what the run alone says
    pub inside : (more : List Part) → is_root more ≡ false
        → numbered_at (path ++ more) all_said ≡ map in_run (numbered_at more (numbered_mentions (count_alone k) nested))
    inside more longer =
        let q : List Part = path ++ more in
        let differs : same_path path q ≡ false = same_turned path q ∙ deeper_not path more longer in
        parts_at q
        ∙ ap₂ (λ (l m : List Numbered). l ++ (numbered_at q (said_by_run c path k nested) ++ m))
        (off_numbered more xs off_xs) (off_numbered more ys off_ys)
        ∙ append-nil (numbered_at q (said_by_run c path k nested))
        ∙ ap (λ (b : Bool). cond b (first ∷ numbered_at q rest) (numbered_at q rest)) differs
        ∙ ap (numbered_at q) (run_moved k marked nested)
        ∙ numbered_moved path (λ (s : ℕ). c.statements) (shifted 0 0 c.values) (shifted 0 0 (suc c.keys)) q more
        (λ m. same_below path m.path more) (numbered_mentions (count_alone k) nested)

    said_paths : map mention_of all_said ≡ map mention_of xs ++ (own k ∷ (map (below path) nested ++ map mention_of ys))
    said_paths =
        map-append mention_of xs (said_by_run c path k nested ++ ys)
        ∙ ap (λ (l : List Mention). map mention_of xs ++ l) (map-append mention_of (said_by_run c path k nested) ys)
        ∙ ap (λ (l : List Mention). map mention_of xs ++ (own k ∷ (l ++ map mention_of ys)))
        (mentions-numbered_mentions (count_with_mention c (own k)) (map (below path) nested))

    -- the paths in the run are met together, after its own
    pub paths_are : (met : FirstMet path (map path_of (map mention_of xs)))
        → node_paths (map mention_of all_said) ≡ met.front
        ++ (path ∷ (map (λ (x : List Part). path ++ x) (deeper (map path_of nested))
        ++ further met.front (map path_of (map mention_of ys))))
    paths_are met =
        let before : List (List Part) = map path_of (map mention_of xs) in
        let after : List (List Part) = map path_of (map mention_of ys) in
        ap node_paths said_paths
        ∙ ap (fold paths_with ([] ∷ [])) (
        map-append path_of (map mention_of xs) (own k ∷ (map (below path) nested ++ map mention_of ys))
        ∙ ap (λ (l : List (List Part)). before ++ (path ∷ l))
        (map-append path_of (map (below path) nested) (map mention_of ys))
        ∙ ap (λ (l : List (List Part)). before ++ (path ∷ (l ++ after)))
        (map_twice path_of (below path) nested ∙ sym (map_twice (λ (x : List Part). path ++ x) path_of nested)))
        ∙ run_paths path before after (map path_of nested) met (off_paths path ys off_ys)
