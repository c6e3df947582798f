-- Another run of mentions in the place of one, at one path and below it, gives the nodes of the new one in the place of
-- those in the old one, which are met together (`nodes_given`). A value with a key says such a run, and so does a line
-- of several keys, whose first key has a path of which nothing else is said.
--
-- With either run the nodes are those met before it, its own, those in it, and those met after it. Of a node beside the
-- run the same is said, with other numbers after the run (`elsewhere_info`); of its own node, what the run's first
-- mention says (`old_here`, `new_here`); of a node in it, what the run alone says there (`inside_info`).
--
-- Theorems: `nodes_given`; `below_run`: which nodes go.
use Rattle.std.proofs.Common.{◌≡◌, ◌≢◌, ℕ, zero, suc, ◌+◌, ◌-◌, ◌<◌, ◌≤◌, true, false, List, [], ◌∷◌, ◌++◌, length, map}
use Rattle.std.proofs.Common.{refl, sym, ap, ap₂, subst, ◌∙◌, ◌⊎◌, inl, inr, arith, append-nil, append_assoc, Some}
use Rattle.std.proofs.Common.{Bool, None, cond}
use Rattle.std.specs.Prelude.{take, drop, get_or, nat_lt, not, slice_set}
use Rattle.std.specs.List.{prefix_len}
use Rattle.std.proofs.lemmas.Bool.{cases_lt, lt-ltb}
use Rattle.std.proofs.lemmas.List.{map-append, length-append, length-map, get_or_append_left, get_or-append-add}
use Rattle.std.proofs.lemmas.List.{get_or-map}
use Rattle.std.proofs.lemmas.List.Quantifiers.{position-Some}
use Rattle.std.proofs.Math.Seq.{take-append-add, drop-append-add, drop-append_seam, get_or-append_seam, set-append_seam}
use Rattle.keep_types.specs.declared.node.Kind.{Kind}
use Rattle.keep_types.specs.declared.node.NodeInfo.{NodeInfo}
use Rattle.keep_types.specs.declared.node.Origin.{Origin}
use Rattle.keep_path.specs.NodeInfos.{NodeInfos, no_info, renumbered_origin}
use Rattle.keep_path.specs.NodesBelow.{AreBelow, Totals, info_beside, info_inside, shifted, spliced, value_of}
use Rattle.keep_path.specs.NodesBelow.{with_numbers, with_value}
use Rattle.keep_path.specs.Path.{Part, same_path}
use Rattle.keep_path.proofs.Shared.{path_decides}
use Rattle.keep_meaning.specs.Counts.{Count, Numbered, is_mark, numbered_mentions}
use Rattle.keep_meaning.specs.Marks.{Mention, MentionKind}
use Rattle.keep_meaning.specs.Nodes.{is_numbered_at, is_root, mention_of, mentioned_node, node_at, node_info}
use Rattle.keep_meaning.specs.Nodes.{node_number, node_paths, nodes_of, numbered_at}
use Rattle.keep_meaning.specs.OtherValues.{IsApart, IsSaidBefore, IsSaidPast}
use Rattle.keep_meaning.proofs.CountLemmas.{mentions-numbered_mentions, paths-nodes}
use Rattle.keep_meaning.proofs.LineNodeLemmas.{all_filter, infos_of, map_same, map_twice, path_of}
use Rattle.keep_meaning.proofs.LineNumberLemmas.{AllOf, all_of}
use Rattle.keep_meaning.proofs.NamedLemmas.{all_map}
use Rattle.keep_meaning.proofs.RunLemmas.{FirstMet, IsDeeper, IsOfBody, IsOff, all_further}
use Rattle.keep_meaning.proofs.RunLemmas.{all_numbered, all_said, count_alone, deeper, deeper_met}
use Rattle.keep_meaning.proofs.RunLemmas.{elsewhere, first_met, further, here, high_shifts, info_moved, inside}
use Rattle.keep_meaning.proofs.RunLemmas.{low_stays, moved, numbered_moved, off_not, off_paths, off_turned}
use Rattle.keep_meaning.proofs.RunLemmas.{paths_alone, paths_are, statements_unseen}

-- ---- a run

-- a place that has the number of a value: of its own, or of that of the last keyval that continues from it
pub record IsPlace (place : ℕ → Origin) : Type 0 where
  pub moves : (f : ℕ → ℕ) (v : ℕ) → renumbered_origin (λ (s : ℕ). s) f (place v) ≡ place (f v)
  pub number : (i : NodeInfo) (v : ℕ) → value_of (record i { origin = place v }) ≡ v

-- the facts about the node of a run's path
abbrev pub named : Count → (ℕ → Origin) → Kind → NodeInfo
named c place k = record { kind = k; key = Some c.keys; marks = 1; passed = false; origin = place c.values }

-- What a key part says of a path, after so much, and what is said below it.
pub record Run (path : List Part) (c : Count) (place : ℕ → Origin) : Type 0 where
  pub said : MentionKind
  pub marked : is_mark said ≡ true
  pub nested : List Mention
  pub deep : AllOf IsDeeper nested
  pub kind : Kind
  pub stated : node_info (mentioned_node path (record { mention = record { path = path; kind = said }; before = c }
      ∷ [])) ≡ named c place kind

-- ---- a part of a list gives place to another

spliced_at : {A : Type 0} (xs : List A) (x : A) (old rest new : List A) (at gone : ℕ) → length xs ≡ at
    → length old ≡ gone → spliced (suc at) gone new (xs ++ (x ∷ (old ++ rest))) ≡ xs ++ (x ∷ (new ++ rest))
spliced_at xs x old rest new at gone many few =
    let taken : suc at ≡ length xs + 1 = omega (arith, many) in
    let dropped : suc at + gone ≡ length xs + suc (length old) = omega (arith, many, few) in
    ap₂ (λ us vs. us ++ (new ++ vs))
    (ap (λ (n : ℕ). take n (xs ++ (x ∷ (old ++ rest)))) taken ∙ take-append-add xs (x ∷ (old ++ rest)) 1)
    (ap (λ (n : ℕ). drop n (xs ++ (x ∷ (old ++ rest)))) dropped
    ∙ drop-append-add xs (x ∷ (old ++ rest)) (suc (length old)) ∙ drop-append_seam old rest)
    ∙ append_assoc xs (x ∷ []) (new ++ rest)

seam : {A : Type 0} (xs : List A) (x d : A) (rest : List A) (at : ℕ) → length xs ≡ at
    → get_or (xs ++ (x ∷ rest)) at d ≡ x
seam xs x d rest at many = ap (λ (n : ℕ). get_or (xs ++ (x ∷ rest)) n d) (sym many) ∙ get_or-append_seam xs x rest d

module _ (ps below rest inner : List (List Part)) (path root : List Part) (is beneath later nested : List NodeInfo)
    (own first : NodeInfo) (i gone : ℕ) (old new : Totals) (k : Kind) (many : length ps ≡ i)
    (many_infos : length is ≡ i) (few : length below ≡ gone) (few_infos : length beneath ≡ gone) where
  abbrev beside : NodeInfo → NodeInfo
  beside = info_beside own old new

  abbrev before : NodeInfos
  before = record { paths = ps ++ (path ∷ (below ++ rest)); infos = is ++ (own ∷ (beneath ++ later)) }

  put_infos : (o : NodeInfo) → o ≡ own
      → spliced (suc i) gone (map (info_inside o) nested)
      (map (info_beside o old new) (slice_set before.infos i (record o { kind = k })))
      ≡ map beside is ++ (beside (record own { kind = k }) ∷ (map (info_inside own) nested ++ map beside later))
  put_infos o same =
      let x : NodeInfo = record own { kind = k } in
      ap (λ (o : NodeInfo).
      spliced (suc i) gone (map (info_inside o) nested)
      (map (info_beside o old new) (slice_set before.infos i (record o { kind = k })))) same
      ∙ ap (λ (l : List NodeInfo). spliced (suc i) gone (map (info_inside own) nested) (map beside l))
      (ap (λ (n : ℕ). slice_set before.infos n x) (sym many_infos) ∙ set-append_seam is own (beneath ++ later) x)
      ∙ ap (spliced (suc i) gone (map (info_inside own) nested))
      (map-append beside is (x ∷ (beneath ++ later))
      ∙ ap (λ (l : List NodeInfo). map beside is ++ (beside x ∷ l)) (map-append beside beneath later))
      ∙ spliced_at (map beside is) (beside x) (map beside beneath) (map beside later) (map (info_inside own) nested) i
      gone (length-map is beside ∙ many_infos) (length-map beneath beside ∙ few_infos)

  value_put : with_value before i gone old new (record { paths = root ∷ inner; infos = first ∷ nested }) k
      ≡ record {
        paths = ps ++ (path ∷ (map (λ (p : List Part). path ++ p) inner ++ rest));
        infos = map beside is ++ (beside (record own { kind = k })
            ∷ (map (info_inside own) nested ++ map beside later));
      }
  value_put =
      ap₂ (λ (us : List (List Part)) (vs : List NodeInfo). record { paths = us; infos = vs })
      (ap (λ (q : List Part). spliced (suc i) gone (map (λ (p : List Part). q ++ p) inner) before.paths)
      (seam ps path [] (below ++ rest) i many)
      ∙ spliced_at ps path below rest (map (λ (p : List Part). path ++ p) inner) i gone many few)
      (put_infos (get_or before.infos i no_info) (seam is own no_info (beneath ++ later) i many_infos))

-- ---- where the nodes are

all_at : {A : Type 0} (P : A → Type 0) (xs : List A) (i : ℕ) (d : A) → AllOf P xs → i < length xs → P (get_or xs i d)
all_at P [] i d h low = absurd (omega (arith, low))
all_at P (x ∷ xs) zero d h low = h.0
all_at P (x ∷ xs) (suc i) d h low = all_at P xs i d h.1 (omega (arith, low))

others_first : (path : List Part) (front rest : List (List Part))
    → AllOf (λ (q : List Part). same_path path q ≡ false) front
    → prefix_len (λ (q : List Part). not (same_path path q)) (front ++ path ∷ rest) ≡ length front
others_first path [] rest off = ap (λ (b : Bool).
    cond (not b) (1 + prefix_len (λ (q : List Part). not (same_path path q)) rest) 0) ((path_decides path path).1 refl)
others_first path (q ∷ front) rest off =
    let next : 1 + length front ≡ suc (length front) = omega arith in
    ap₂ (λ (b : Bool) (n : ℕ). cond (not b) (1 + n) 0) off.0 (others_first path front rest off.1) ∙ next

-- a path after others has the number of these
pub first_number : (path : List Part) (front rest : List (List Part))
    → AllOf (λ (q : List Part). same_path path q ≡ false) front
    → node_number (front ++ path ∷ rest) path ≡ Some (length front)
first_number path front rest off =
    let all : List (List Part) = front ++ path ∷ rest in
    ap (λ (n : ℕ). cond (nat_lt n (length all)) (Some n) None) (others_first path front rest off)
    ∙ ap (λ (b : Bool). cond b (Some (length front)) None)
    (lt-ltb (length front) (length all) (omega (arith, length-append front (path ∷ rest))))

module _ (path : List Part) (front inner later : List (List Part)) (off : AllOf (IsOff path) front)
    (off_later : AllOf (IsOff path) later) (longer : AllOf (λ (q : List Part). is_root q ≡ false) inner) where
  abbrev under : List (List Part)
  under = map (λ (p : List Part). path ++ p) inner

  abbrev all : List (List Part)
  all = front ++ (path ∷ (under ++ later))

  after_path : (m : ℕ) → get_or all (length front + suc m) [] ≡ get_or (under ++ later) m []
  after_path m = get_or-append-add front (path ∷ (under ++ later)) (suc m) []

  total : length all ≡ length front + suc (length inner + length later)
  total = omega (
    arith,
    length-append front (path ∷ (under ++ later)),
    length-append under later,
    length-map inner (λ (p : List Part). path ++ p),
  )

  here_at : get_or all (length front) [] ≡ path
  here_at = seam front path [] (under ++ later) (length front) refl

  is_below : (j : ℕ) → length front < j → j ≤ length front + length inner
      → (more : List Part) × (more ≢ []) × (get_or all j [] ≡ get_or all (length front) [] ++ more)
  is_below j high low =
      let m : ℕ = j - suc (length front) in
      let few : m < length inner = omega (arith, high, low) in
      let place : j ≡ length front + suc m = omega (arith, high) in
      let more : List Part = get_or inner m [] in
      let root : is_root more ≡ false = all_at (λ (q : List Part). is_root q ≡ false) inner m [] longer few in (
        more,
        (λ (e : more ≡ []). absurd (let no : true ≡ false = ap is_root (sym e) ∙ root in cc)),
        ap (λ (n : ℕ). get_or all n []) place ∙ after_path m
            ∙ get_or_append_left under later [] m (omega (arith, few, length-map inner (λ (p : List Part). path ++ p)))
            ∙ get_or-map (λ (p : List Part). path ++ p) inner m [] [] few
            ∙ ap (λ (p : List Part). p ++ more) (sym here_at),
      )

  is_other : (j : ℕ) → length front + length inner < j → j < length all → (more : List Part)
      → get_or all j [] ≡ get_or all (length front) [] ++ more → ⊥
  is_other j high low more e =
      let m : ℕ = j - suc (length front + length inner) in
      let place : j ≡ length front + suc (length under + m) =
      omega (arith, high, length-map inner (λ (p : List Part). path ++ p)) in
      let few : m < length later = omega (arith, high, low, total) in
      let is : get_or all j [] ≡ get_or later m [] =
      ap (λ (n : ℕ). get_or all n []) place ∙ after_path (length under + m) ∙ get_or-append-add under later m [] in
      off_not path (get_or later m []) more (all_at (IsOff path) later m [] off_later few)
      (sym is ∙ e ∙ ap (λ (p : List Part). p ++ more) here_at)

  are_below : AreBelow all (length front) (length inner)
  are_below = record { within = omega (arith, total); below = is_below; others = is_other }

  -- its own path has that number
  pub number_there : node_number all path ≡ Some (length front)
  number_there =
      first_number path front (under ++ later)
      (all_of (IsOff path) (λ (q : List Part). same_path path q ≡ false)
      (λ q h. ap (λ (p : List Part). same_path p q) (sym (append-nil path)) ∙ off_turned path q [] h) front off)

  number_is : (i : ℕ) → node_number all path ≡ Some i → length front ≡ i
  number_is i e = by (cases_lt i (length front)) (cases_lt (length front) i)
    where
      found : (i < length all) × (same_path path (get_or all i []) ≡ true)
          × ((k : ℕ) → k < i → same_path path (get_or all k []) ≡ false)
      found = position-Some (same_path path) all i [] e

      by : (i < length front) ⊎ (length front ≤ i) → (length front < i) ⊎ (i ≤ length front) → length front ≡ i
      by (inl low) either = absurd (
          let is : get_or all i [] ≡ get_or front i [] = get_or_append_left front (path ∷ (under ++ later)) [] i low in
          let none : same_path path (get_or front i []) ≡ false =
          ap (λ (p : List Part). same_path p (get_or front i [])) (sym (append-nil path))
          ∙ off_turned path (get_or front i []) [] (all_at (IsOff path) front i [] off low) in
          let both : true ≡ false = sym found.1 ∙ ap (same_path path) is ∙ none in
          cc
          )
      by (inr high) (inl past) = absurd (
          let both : true ≡ false =
          sym ((path_decides path path).1 refl) ∙ ap (same_path path) (sym here_at) ∙ found.2 (length front) past in
          cc
          )
      by (inr high) (inr low) = omega (arith, high, low)

-- ---- what is known of the nodes

-- what comes before that which follows a run, after so many further values and key parts
abbrev pub past : Count → ℕ → ℕ → Count
past c values keys = record c { values = suc (c.values + values); keys = suc (c.keys + keys) }

-- what follows a run, where so many values and key parts give place to so many
abbrev pub shifted_past : ℕ → ℕ → ℕ → ℕ → Numbered → Numbered
shifted_past v k v' k' n = record n {
  before = record n.before { values = (n.before.values + v') - v; keys = (n.before.keys + k') - k };
}

module _ (path : List Part) (c : Count) (place : ℕ → Origin) (is_place : IsPlace place) (run run' : Run path c place)
    (v k v' k' : ℕ) (xs ys : List Numbered) (old_totals new_totals : Totals) (low : AllOf (IsSaidBefore c) xs)
    (high : AllOf (IsSaidPast (past c v k)) ys) (off_xs : AllOf (IsApart path) xs) (off_ys : AllOf (IsApart path) ys)
    (values : new_totals.values + v ≡ old_totals.values + v') (keys : new_totals.keys + k ≡ old_totals.keys + k')
  where
    abbrev own : NodeInfo
    own = named c place run.kind

    own_value : value_of own ≡ c.values
    own_value = is_place.number own c.values

    abbrev value : ℕ → ℕ
    value = shifted (suc c.values) old_totals.values new_totals.values

    abbrev key_part : ℕ → ℕ
    key_part = shifted (suc c.keys) old_totals.keys new_totals.keys

    abbrev renumber : Numbered → Numbered
    renumber = moved [] (λ (s : ℕ). s) value key_part

    stays : (ns : List Numbered) → AllOf (IsSaidBefore c) ns → ns ≡ map renumber ns
    stays [] h = refl
    stays (n ∷ ns) h =
        ap₂ (λ (m : Numbered) (ms : List Numbered). m ∷ ms)
        (ap₂ (λ (a b : ℕ).
        record { mention = n.mention; before = record { statements = n.before.statements; values = a; keys = b } })
        (sym (low_stays (suc c.values) old_totals.values new_totals.values n.before.values (omega (arith, h.0.values))))
        (sym (low_stays (suc c.keys) old_totals.keys new_totals.keys n.before.keys (omega (arith, h.0.keys)))))
        (stays ns h.1)

    moves : (n from few many old now : ℕ) → from + few ≤ n → now + few ≡ old + many
        → (n + many) - few ≡ shifted from old now n
    moves n from few many old now far same =
        let e : (n + many) - few ≡ (n + now) - old = omega (arith, far, same) in
        e ∙ sym (high_shifts from old now n (omega (arith, far)))

    goes : (ns : List Numbered) → AllOf (IsSaidPast (past c v k)) ns
        → map (shifted_past v k v' k') ns ≡ map renumber ns
    goes [] h = refl
    goes (n ∷ ns) h =
        ap₂ (λ (m : Numbered) (ms : List Numbered). m ∷ ms)
        (ap₂ (λ (a b : ℕ).
        record { mention = n.mention; before = record { statements = n.before.statements; values = a; keys = b } })
        (moves n.before.values (suc c.values) v v' old_totals.values new_totals.values (omega (arith, h.0.values))
        values)
        (moves n.before.keys (suc c.keys) k k' old_totals.keys new_totals.keys (omega (arith, h.0.keys)) keys))
        (goes ns h.1)

    abbrev after : List Numbered
    after = map (shifted_past v k v' k') ys

    pub off_after : AllOf (IsApart path) after
    off_after = all_map (IsApart path) (IsApart path) (shifted_past v k v' k') (λ n h. h) ys off_ys

    abbrev old_said : List Numbered
    old_said = all_said path c run.said run.marked run.nested run.deep xs ys off_xs off_ys

    abbrev new_said : List Numbered
    new_said = all_said path c run'.said run'.marked run'.nested run'.deep xs after off_xs off_after

    abbrev old_info : List Part → NodeInfo
    old_info q = node_info (node_at old_said q)

    abbrev new_info : List Part → NodeInfo
    new_info q = node_info (node_at new_said q)

    abbrev alone_info : List Part → NodeInfo
    alone_info q = node_info (node_at (numbered_mentions (count_alone run'.said) run'.nested) q)

    abbrev beside_own : NodeInfo → NodeInfo
    beside_own = info_beside own old_totals new_totals

    beside_is : (i : NodeInfo) → with_numbers value key_part i ≡ beside_own i
    beside_is i = ap (λ (n : ℕ).
        with_numbers (shifted (suc n) old_totals.values new_totals.values)
        (shifted (suc c.keys) old_totals.keys new_totals.keys) i) (sym own_value)

    -- of a node beside the value
    elsewhere_info : (q : List Part) → IsOff path q → new_info q ≡ beside_own (old_info q)
    elsewhere_info q off =
        let at : List Numbered → List Numbered = numbered_at q in
        ap (λ (l : List Numbered). node_info (mentioned_node q l)) (
        elsewhere path c run'.said run'.marked run'.nested run'.deep xs after off_xs off_after q off
        ∙ ap₂ (λ (l m : List Numbered). l ++ m) (ap at (stays xs low) ∙ renumbered xs)
        (ap at (goes ys high) ∙ renumbered ys)
        ∙ sym (map-append renumber (at xs) (at ys))
        ∙ ap (map renumber) (sym (elsewhere path c run.said run.marked run.nested run.deep xs ys off_xs off_ys q off)))
        ∙ info_moved [] (λ (s : ℕ). s) value key_part q q (at old_said)
        ∙ beside_is (old_info q)
      where
        renumbered : (ns : List Numbered) → numbered_at q (map renumber ns) ≡ map renumber (numbered_at q ns)
        renumbered ns = numbered_moved [] (λ (s : ℕ). s) value key_part q q (λ m. refl) ns

    -- of its own node
    old_here : old_info path ≡ own
    old_here =
        ap (λ (l : List Numbered). node_info (mentioned_node path l))
        (here path c run.said run.marked run.nested run.deep xs ys off_xs off_ys)
        ∙ run.stated

    new_here : new_info path ≡ beside_own (record own { kind = run'.kind })
    new_here =
        ap (λ (l : List Numbered). node_info (mentioned_node path l))
        (here path c run'.said run'.marked run'.nested run'.deep xs after off_xs off_after)
        ∙ run'.stated
        ∙ ap₂ (λ (a b : ℕ). record { kind = run'.kind; key = Some b; marks = 1; passed = false; origin = place a })
        (sym (low_stays (suc c.values) old_totals.values new_totals.values c.values (omega arith)))
        (sym (low_stays (suc c.keys) old_totals.keys new_totals.keys c.keys (omega arith)))
        ∙ ap (λ (o : Origin).
        record { kind = run'.kind; key = Some (key_part c.keys); marks = 1; passed = false; origin = o })
        (sym (is_place.moves value c.values))
        ∙ beside_is (named c place run'.kind)

    -- of a node in it
    inside_info : (q : List Part) → is_root q ≡ false → new_info (path ++ q) ≡ info_inside own (alone_info q)
    inside_info q longer =
        let ns : List Numbered = numbered_mentions (count_alone run'.said) run'.nested in
        let said : List Numbered = numbered_at q ns in
        let i : NodeInfo = node_info (mentioned_node q said) in
        let of_body : AllOf (λ (n : Numbered). IsOfBody n.mention) said =
        all_filter (λ (n : Numbered). IsOfBody n.mention) (is_numbered_at q) ns
        (all_numbered IsOfBody (count_alone run'.said) run'.nested
        (all_of IsDeeper IsOfBody (λ m h. h.1) run'.nested run'.deep)) in
        ap (λ (l : List Numbered). node_info (mentioned_node (path ++ q) l))
        (inside path c run'.said run'.marked run'.nested run'.deep xs after off_xs off_after q longer)
        ∙ info_moved path (λ (s : ℕ). c.statements) (shifted 0 0 c.values) (shifted 0 0 (suc c.keys)) (path ++ q) q said
        ∙ ap (λ (o : Origin). record (with_numbers (shifted 0 0 c.values) (shifted 0 0 (suc c.keys)) i) { origin = o })
        (statements_unseen (λ (s : ℕ). c.statements) (λ (s : ℕ). s) (shifted 0 0 c.values) said of_body)
        ∙ ap (λ (n : ℕ). with_numbers (shifted 0 0 n) (shifted 0 0 (suc c.keys)) i) (sym own_value)

    -- ---- all nodes

    met : FirstMet path (map path_of (map mention_of xs))
    met = first_met path (map path_of (map mention_of xs)) (off_paths path xs off_xs)

    abbrev front : List (List Part)
    front = met.front

    abbrev beyond : List (List Part)
    beyond = further front (map path_of (map mention_of ys))

    abbrev met_in : List Mention → List (List Part)
    met_in inner = deeper (map path_of inner)

    abbrev below_path : List (List Part) → List (List Part)
    below_path ps = map (λ (p : List Part). path ++ p) ps

    abbrev all_paths : List Mention → List (List Part)
    all_paths inner = front ++ (path ∷ (below_path (met_in inner) ++ beyond))

    off_beyond : AllOf (IsOff path) beyond
    off_beyond = all_further (IsOff path) front [] (map path_of (map mention_of ys)) tt (off_paths path ys off_ys)

    old_paths : node_paths (map mention_of old_said) ≡ all_paths run.nested
    old_paths = paths_are path c run.said run.marked run.nested run.deep xs ys off_xs off_ys met

    new_paths : node_paths (map mention_of new_said) ≡ all_paths run'.nested
    new_paths =
        paths_are path c run'.said run'.marked run'.nested run'.deep xs after off_xs off_after met
        ∙ ap (λ (ms : List Mention).
        front ++ (path ∷ (below_path (met_in run'.nested) ++ further front (map path_of ms))))
        (map_twice mention_of (shifted_past v k v' k') ys)

    split : (info : List Part → NodeInfo) (inner : List Mention)
        → map info (all_paths inner) ≡ map info front
        ++ (info path ∷ (map info (below_path (met_in inner)) ++ map info beyond))
    split info inner =
        map-append info front (path ∷ (below_path (met_in inner) ++ beyond))
        ∙ ap (λ (l : List NodeInfo). map info front ++ (info path ∷ l))
        (map-append info (below_path (met_in inner)) beyond)

    infos_at : (ns : List Numbered)
        → map node_info (nodes_of ns)
        ≡ map (λ (q : List Part). node_info (node_at ns q)) (node_paths (map mention_of ns))
    infos_at ns = map_twice node_info (node_at ns) (node_paths (map mention_of ns))

    old_nodes : infos_of old_said ≡ record {
      paths = all_paths run.nested;
      infos = map old_info front ++ (own ∷ (map old_info (below_path (met_in run.nested)) ++ map old_info beyond));
    }
    old_nodes =
        ap₂ (λ (ps : List (List Part)) (is : List NodeInfo). record { paths = ps; infos = is })
        (paths-nodes old_said (node_paths (map mention_of old_said)) ∙ old_paths)
        (infos_at old_said ∙ ap (map old_info) old_paths ∙ split old_info run.nested
        ∙ ap (λ (i : NodeInfo).
        map old_info front ++ (i ∷ (map old_info (below_path (met_in run.nested)) ++ map old_info beyond))) old_here)

    infos_beside : (ps : List (List Part)) → AllOf (IsOff path) ps → map new_info ps ≡ map beside_own (map old_info ps)
    infos_beside ps off =
        map_same new_info (λ (q : List Part). beside_own (old_info q)) ps
        (all_of (IsOff path) (λ (q : List Part). new_info q ≡ beside_own (old_info q)) elsewhere_info ps off)
        ∙ sym (map_twice beside_own old_info ps)

    infos_inside : map new_info (below_path (met_in run'.nested))
        ≡ map (info_inside own) (map alone_info (met_in run'.nested))
    infos_inside =
        map_twice new_info (λ (p : List Part). path ++ p) (met_in run'.nested)
        ∙ map_same (λ (q : List Part). new_info (path ++ q)) (λ (q : List Part). info_inside own (alone_info q))
        (met_in run'.nested)
        (all_of (λ (q : List Part). is_root q ≡ false)
        (λ (q : List Part). new_info (path ++ q) ≡ info_inside own (alone_info q)) inside_info (met_in run'.nested)
        (deeper_met run'.nested run'.deep))
        ∙ sym (map_twice (info_inside own) alone_info (met_in run'.nested))

    new_nodes : infos_of new_said ≡ record {
      paths = all_paths run'.nested;
      infos = map beside_own (map old_info front)
          ++ (beside_own (record own { kind = run'.kind })
          ∷ (map (info_inside own) (map alone_info (met_in run'.nested)) ++ map beside_own (map old_info beyond)));
    }
    new_nodes =
        ap₂ (λ (ps : List (List Part)) (is : List NodeInfo). record { paths = ps; infos = is })
        (paths-nodes new_said (node_paths (map mention_of new_said)) ∙ new_paths)
        (infos_at new_said ∙ ap (map new_info) new_paths ∙ split new_info run'.nested
        ∙ ap₂ (λ (l : List NodeInfo) (i : NodeInfo).
        l ++ (i ∷ (map new_info (below_path (met_in run'.nested)) ++ map new_info beyond)))
        (infos_beside front met.off) new_here
        ∙ ap₂ (λ (l m : List NodeInfo).
        map beside_own (map old_info front) ++ (beside_own (record own { kind = run'.kind }) ∷ (l ++ m))) infos_inside
        (infos_beside beyond off_beyond))

    abbrev alone_said : List Numbered
    alone_said = numbered_mentions (count_alone run'.said) run'.nested

    alone_nodes : infos_of alone_said
        ≡ record { paths = [] ∷ met_in run'.nested; infos = alone_info [] ∷ map alone_info (met_in run'.nested) }
    alone_nodes =
        let paths : node_paths (map mention_of alone_said) ≡ [] ∷ met_in run'.nested =
        ap node_paths (mentions-numbered_mentions (count_alone run'.said) run'.nested)
        ∙ paths_alone run'.nested in
        ap₂ (λ (ps : List (List Part)) (is : List NodeInfo). record { paths = ps; infos = is })
        (paths-nodes alone_said (node_paths (map mention_of alone_said)) ∙ paths)
        (infos_at alone_said ∙ ap (map alone_info) paths)

    module _ (i : ℕ) (number : node_number (infos_of old_said).paths path ≡ Some i) where
      paths_old : (infos_of old_said).paths ≡ all_paths run.nested
      paths_old = ap (λ (t : NodeInfos). t.paths) old_nodes

      at : length front ≡ i
      at = number_is path front (met_in run.nested) beyond met.off off_beyond (deeper_met run.nested run.deep) i
          (subst (λ (ps : List (List Part)). node_number ps path ≡ Some i) paths_old number)

      abbrev gone : ℕ
      gone = length (met_in run.nested)

      pub below_run : AreBelow (infos_of old_said).paths i gone
      below_run =
          subst (λ (ps : List (List Part)). AreBelow ps i gone) (sym paths_old)
          (subst (λ (n : ℕ).
          AreBelow (all_paths run.nested) n gone) at
          (are_below path front (met_in run.nested) beyond met.off off_beyond (deeper_met run.nested run.deep)))

      pub nodes_given : infos_of new_said
          ≡ with_value (infos_of old_said) i gone old_totals new_totals (infos_of alone_said) (run'.kind)
      nodes_given =
          let few : length (below_path (met_in run.nested)) ≡ gone =
          length-map (met_in run.nested) (λ (p : List Part). path ++ p) in
          new_nodes
          ∙ sym (value_put front (below_path (met_in run.nested)) beyond (met_in run'.nested) path []
          (map old_info front) (map old_info (below_path (met_in run.nested))) (map old_info beyond)
          (map alone_info (met_in run'.nested)) own (alone_info [])
          i gone old_totals new_totals (run'.kind)
          at (length-map front old_info ∙ at) few (length-map (below_path (met_in run.nested)) old_info ∙ few))
          ∙ ap₂ (λ (t u : NodeInfos). with_value t i gone old_totals new_totals u (run'.kind)) (sym old_nodes)
          (sym alone_nodes)

      -- its own path has the number that it had
      pub number_kept : node_number (infos_of new_said).paths path ≡ Some i
      number_kept =
          ap (λ (t : NodeInfos). node_number t.paths path) new_nodes
          ∙ number_there path front (met_in run'.nested) beyond met.off off_beyond (deeper_met run'.nested run'.deep)
          ∙ ap Some at
