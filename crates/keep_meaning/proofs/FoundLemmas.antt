-- What the facts about one node state, by what is said of it before a line and after it.
--
-- A path that key parts name has the number of the first one, by which it is said before the line or not (`marked_low`,
-- `marked_high`). Any other path is that of an item or an element, and its facts have the number of the last mention.
-- That will do too if, once one is said before the line, none is said after it (`bare_low`), and if else one is said
-- after it (`bare_high`). MetLineLemmas shows that this is so.
--
-- Theorems: these four, and `allowed`: of two key parts of one path, the earlier allows the later.
use Rattle.std.proofs.Common.{◌≡◌, ℕ, suc, ◌+◌, ◌<◌, ◌≤◌, Bool, true, false, cond, ◌||◌, List, [], ◌∷◌, ◌++◌, length}
use Rattle.std.proofs.Common.{get_or, map, refl, sym, ap, ap₂, subst, ◌∙◌, ◌⊎◌, inl, inr, arith, Option, Some, None}
use Rattle.std.specs.Prelude.{⊤, fold, nat_le}
use Rattle.std.specs.List.{cons_option, list_any}
use Rattle.std.proofs.lemmas.Bool.Decides.{nat_tests}
use Rattle.std.proofs.lemmas.List.{get_or_append_left, get_or-append-add, length-append}
use Rattle.std.proofs.lemmas.List.Elements.{filter_map-append}
use Rattle.keep_types.specs.declared.node.Origin.{Origin}
use Rattle.keep_types.specs.declared.role.Role.{Role}
use Rattle.keep_types.specs.declared.role.Role.TheVariants as role
use Rattle.keep_path.specs.NodeInfos.{LineNumbers}
use Rattle.keep_path.specs.Path.{Part, same_path}
use Rattle.keep_path.proofs.Shared.{path_decides}
use Rattle.keep_meaning.specs.Counts.{Count, Numbered, is_mark, is_value}
use Rattle.keep_meaning.specs.LinesMore.{is_met_from, is_origin_from}
use Rattle.keep_meaning.specs.Marks.{MentionKind, through, past, define, element, dotted, value, begun, passed, item}
use Rattle.keep_meaning.specs.Marks.{Mention, mark_of, marks, role_of, with_path}
use Rattle.keep_meaning.specs.Nodes.{is_at, is_begun, is_define, is_dotted, is_element, is_passed, is_through}
use Rattle.keep_meaning.specs.Nodes.{first_number, key_number, last_number, mention_of, mentioned_node}
use Rattle.keep_meaning.specs.Nodes.{mentioned_origin, node_info, numbered_at, statement_number, value_number}
use Rattle.keep_meaning.specs.Rules.{Mark, ObeysRules, allows}
use Rattle.keep_meaning.proofs.ElementLemmas.{Begins, no_longer}
use Rattle.keep_meaning.proofs.LineNodeLemmas.{fitting, line_of}
use Rattle.keep_meaning.proofs.LineNumberLemmas.{AllOf, IsHigher, IsLower, all_join, all_of}
use Rattle.keep_meaning.proofs.NamedLemmas.{IsElementNamed, Says, SomeOf, base, is_item}

not_le : (at n : ℕ) → n < at → nat_le at n ≡ false
not_le at n low = grind (arith, nat_tests)

is_le : (at n : ℕ) → at ≤ n → nat_le at n ≡ true
is_le at n high = grind (arith, nat_tests)

-- ---- two key parts of one path

pub marked_at : (r : Role) (q : List Part) (ms : List Mention) → SomeOf (Says r q) ms
    → (k : ℕ) × (k < length (marks ms)) × ((d : Mark) → get_or (marks ms) k d ≡ record { role = r; path = q })
marked_at r q [] h = absurd h
marked_at r q (m ∷ ms) (inl h) = own (role_of m.kind) h.0
  where
    own : (o : Option Role) → o ≡ Some r
        → (k : ℕ) × (k < length (cons_option (with_path m.path o) (marks ms)))
        × ((d : Mark) → get_or (cons_option (with_path m.path o) (marks ms)) k d ≡ record { role = r; path = q })
    own None e = absurd cc
    own (Some s) e =
        let same : s ≡ r = cc in
        (0, omega arith, λ d. ap₂ (λ (x : Role) (p : List Part). record { role = x; path = p }) same h.1)
marked_at r q (m ∷ ms) (inr h) = let g = marked_at r q ms h in rest (role_of m.kind) g.0 g.1 g.2
  where
    rest : (o : Option Role) (k : ℕ) → k < length (marks ms)
        → ((d : Mark) → get_or (marks ms) k d ≡ record { role = r; path = q })
        → (k : ℕ) × (k < length (cons_option (with_path m.path o) (marks ms)))
        × ((d : Mark) → get_or (cons_option (with_path m.path o) (marks ms)) k d ≡ record { role = r; path = q })
    rest None k low is = (k, low, is)
    rest (Some s) k low is = (suc k, omega (arith, low), is)

pub allowed : (xs ys : List Mention) (q : List Part) (r s : Role) → ObeysRules (marks (xs ++ ys)) → SomeOf (Says r q) xs
    → SomeOf (Says s q) ys → allows r s ≡ true
allowed xs ys q r s obeys h g =
    let one = marked_at r q xs h in
    let other = marked_at s q ys g in
    let d : Mark = record { role = r; path = q } in
    let both : marks (xs ++ ys) ≡ marks xs ++ marks ys = filter_map-append mark_of xs ys in
    let i : ℕ = one.0 in
    let j : ℕ = length (marks xs) + other.0 in
    let left : get_or (marks (xs ++ ys)) i d ≡ record { role = r; path = q } =
    ap (λ (l : List Mark). get_or l i d) both ∙ get_or_append_left (marks xs) (marks ys) d i one.1 ∙ one.2 d in
    let right : get_or (marks (xs ++ ys)) j d ≡ record { role = s; path = q } =
    ap (λ (l : List Mark). get_or l j d) both ∙ get_or-append-add (marks xs) (marks ys) other.0 d ∙ other.2 d in
    let yes =
    obeys i j d (omega (arith, one.1)) (omega (arith, other.1, ap length both, length-append (marks xs) (marks ys))) in
    sym (ap₂ (λ (a b : Mark). allows a.role b.role) left right)
    ∙ yes (ap (λ (m : Mark). m.path) left ∙ sym (ap (λ (m : Mark). m.path) right))

-- ---- what is said at a path

pub at_all : (P : Mention → Type 0) (p : List Part) (ns : List Numbered) → AllOf P (map mention_of ns)
    → AllOf (λ (n : Numbered). P n.mention × (n.mention.path ≡ p)) (numbered_at p ns)
at_all P p [] h = tt
at_all P p (n ∷ ns) h = by (same_path n.mention.path p) refl (at_all P p ns h.1)
  where
    by : (b : Bool) → same_path n.mention.path p ≡ b
        → AllOf (λ (m : Numbered). P m.mention × (m.mention.path ≡ p)) (numbered_at p ns)
        → AllOf (λ (m : Numbered). P m.mention × (m.mention.path ≡ p))
        (cond b (n ∷ numbered_at p ns) (numbered_at p ns))
    by true e more = ((h.0, (path_decides n.mention.path p).0 e), more)
    by false e more = more

pub begun_at : (p : List Part) (ns : List Numbered) → SomeOf (Begins p) (map mention_of ns)
    → SomeOf (λ (n : Numbered). is_begun n.mention.kind ≡ true) (numbered_at p ns)
begun_at p [] h = h
begun_at p (n ∷ ns) h = by (same_path n.mention.path p) refl h (begun_at p ns)
  where
    by : (b : Bool) → same_path n.mention.path p ≡ b → SomeOf (Begins p) (map mention_of (n ∷ ns))
        → (SomeOf (Begins p) (map mention_of ns)
        → SomeOf (λ (m : Numbered). is_begun m.mention.kind ≡ true) (numbered_at p ns))
        → SomeOf (λ (m : Numbered). is_begun m.mention.kind ≡ true) (cond b (n ∷ numbered_at p ns) (numbered_at p ns))
    by true e (inl g) more = inl g.0
    by true e (inr g) more = inr (more g)
    by false e (inl g) more = absurd (no_longer (same_path n.mention.path p) ((path_decides n.mention.path p).1 g.1) e)
    by false e (inr g) more = more g

pub some_at : (p : List Part) (ns : List Numbered) → list_any (is_at p) (map mention_of ns) ≡ true
    → SomeOf (λ (n : Numbered). ⊤) (numbered_at p ns)
some_at p [] h = absurd cc
some_at p (n ∷ ns) h = by (same_path n.mention.path p) h (some_at p ns)
  where
    by : (b : Bool) → (b || list_any (is_at p) (map mention_of ns)) ≡ true
        → (list_any (is_at p) (map mention_of ns) ≡ true → SomeOf (λ (n : Numbered). ⊤) (numbered_at p ns))
        → SomeOf (λ (n : Numbered). ⊤) (cond b (n ∷ numbered_at p ns) (numbered_at p ns))
    by true h more = inl tt
    by false h more = more h

pub element_named : (p : List Part) (ms all : List Mention) → AllOf (IsElementNamed all) ms → SomeOf (Begins p) ms
    → SomeOf (Says role.Element (base p)) all
element_named p [] all h g = absurd g
element_named p (m ∷ ms) all h (inl g) =
    subst (λ (q : List Part). SomeOf (Says role.Element (base q)) all) g.1 (h.0 g.0)
element_named p (m ∷ ms) all h (inr g) = element_named p ms all h.1 g

-- ---- kinds that no key part states

pub unmarked : (k : MentionKind) → is_mark k ≡ false → (is_item k ≡ true) ⊎ ((is_begun k || is_passed k) ≡ true)
unmarked through h = absurd cc
unmarked past h = absurd cc
unmarked define h = absurd cc
unmarked element h = absurd cc
unmarked dotted h = absurd cc
unmarked (value f) h = absurd cc
unmarked begun h = inr refl
unmarked passed h = inr refl
unmarked (item f) h = inl refl

-- none of these
abbrev pub IsBare : MentionKind → Type 0
IsBare k =
    (is_element k ≡ false) × (is_define k ≡ false) × (is_dotted k ≡ false) × (is_through k ≡ false)
    × (is_item k ≡ is_value k)

pub bare : (k : MentionKind) → is_mark k ≡ false → IsBare k
bare through h = absurd cc
bare past h = absurd cc
bare define h = absurd cc
bare element h = absurd cc
bare dotted h = absurd cc
bare (value f) h = absurd cc
bare begun h = (refl, refl, refl, refl, refl)
bare passed h = (refl, refl, refl, refl, refl)
bare (item f) h = (refl, refl, refl, refl, refl)

-- ---- the last number of a kind

abbrev pub known_by : (MentionKind → Bool) → (Count → ℕ) → Option ℕ → Numbered → Option ℕ
known_by is number known n = cond (is n.mention.kind) (Some (number n.before)) known

last_none : (is : MentionKind → Bool) (number : Count → ℕ) (ns : List Numbered) (known : Option ℕ)
    → AllOf (λ (n : Numbered). is n.mention.kind ≡ false) ns → fold (known_by is number) known ns ≡ known
last_none is number [] known h = refl
last_none is number (n ∷ ns) known h =
    ap (λ (b : Bool). fold (known_by is number) (cond b (Some (number n.before)) known) ns) h.0
    ∙ last_none is number ns known h.1

pub last_holds : (P : ℕ → Type 0) (is : MentionKind → Bool) (number : Count → ℕ) (ns : List Numbered) (known : Option ℕ)
    → ((m : ℕ) → known ≡ Some m → P m)
    → AllOf (λ (n : Numbered). is n.mention.kind ≡ true → P (number n.before)) ns → (m : ℕ)
    → fold (known_by is number) known ns ≡ Some m → P m
last_holds P is number [] known was h m e = was m e
last_holds P is number (n ∷ ns) known was h m e =
    last_holds P is number ns (known_by is number known n) (by (is n.mention.kind) refl) h.1 m e
  where
    by : (b : Bool) → is n.mention.kind ≡ b → (m : ℕ) → cond b (Some (number n.before)) known ≡ Some m → P m
    by true k m e = let same : number n.before ≡ m = cc in subst P same (h.0 k)
    by false k m e = was m e

pub last_some : (is : MentionKind → Bool) (number : Count → ℕ) (ns : List Numbered) (known : Option ℕ)
    → (known ≡ None → SomeOf (λ (n : Numbered). is n.mention.kind ≡ true) ns)
    → fold (known_by is number) known ns ≡ None → ⊥
last_some is number [] known h e = h e
last_some is number (n ∷ ns) known h e =
    last_some is number ns (known_by is number known n) (by (is n.mention.kind) refl) e
  where
    by : (b : Bool) → is n.mention.kind ≡ b → cond b (Some (number n.before)) known ≡ None
        → SomeOf (λ (n : Numbered). is n.mention.kind ≡ true) ns
    by true k e = absurd cc
    by false k e = rest (h e)
      where
        rest : SomeOf (λ (n : Numbered). is n.mention.kind ≡ true) (n ∷ ns)
            → SomeOf (λ (n : Numbered). is n.mention.kind ≡ true) ns
        rest (inl g) = absurd (no_longer (is n.mention.kind) g k)
        rest (inr g) = g

-- ---- where an item or an element comes from

origin_low : (line : LineNumbers) (v t e h d s : Option ℕ) → t ≡ None → h ≡ None → d ≡ None → s ≡ None
    → ((m : ℕ) → v ≡ Some m → m < line.value) → ((m : ℕ) → e ≡ Some m → m < line.statement)
    → is_origin_from line (fitting v t e h d s) ≡ false
origin_low line (Some v) t e h d s not not' not'' not''' low low' = not_le line.value v (low v refl)
origin_low line None (Some t) e h d s not not' not'' not''' low low' = absurd cc
origin_low line None None (Some e) h d s not not' not'' not''' low low' = not_le line.statement e (low' e refl)
origin_low line None None None (Some h) d s not not' not'' not''' low low' = absurd cc
origin_low line None None None None (Some d) s not not' not'' not''' low low' = absurd cc
origin_low line None None None None None (Some s) not not' not'' not''' low low' = absurd cc
origin_low line None None None None None None not not' not'' not''' low low' = refl

origin_high : (line : LineNumbers) (v t e h d s : Option ℕ) → t ≡ None → ((m : ℕ) → v ≡ Some m → line.value ≤ m)
    → ((m : ℕ) → e ≡ Some m → line.statement ≤ m) → (v ≡ None → e ≡ None → ⊥)
    → is_origin_from line (fitting v t e h d s) ≡ true
origin_high line (Some v) t e h d s not high high' some = is_le line.value v (high v refl)
origin_high line None (Some t) e h d s not high high' some = absurd cc
origin_high line None None (Some e) h d s not high high' some = is_le line.statement e (high' e refl)
origin_high line None None None h d s not high high' some = absurd (some refl refl)

-- ---- the node of a path

-- by the number of a key part, or else by the origin
abbrev met_by : LineNumbers → Option ℕ → Origin → Bool
met_by line k o = elim k [ Some n ↦ nat_le line.key n | None ↦ is_origin_from line o ]

abbrev pub met_at : LineNumbers → List Part → List Numbered → Bool
met_at line p ns = is_met_from line (node_info (mentioned_node p ns))

abbrev IsBareAt : Numbered → Type 0
IsBareAt n = IsBare n.mention.kind

key_none : (ns : List Numbered) → AllOf (λ (n : Numbered). is_mark n.mention.kind ≡ false) ns
    → first_number is_mark key_number ns ≡ None
key_none [] h = refl
key_none (n ∷ ns) h =
    ap (λ (b : Bool). cond b (Some (key_number n.before)) (first_number is_mark key_number ns)) h.0 ∙ key_none ns h.1

bare_none : (is : MentionKind → Bool) (number : Count → ℕ) (ns : List Numbered)
    → ((k : MentionKind) → is_mark k ≡ false → is k ≡ false)
    → AllOf (λ (n : Numbered). is_mark n.mention.kind ≡ false) ns → last_number is number ns ≡ None
bare_none is number ns f h =
    last_none is number ns None (all_of (λ (n : Numbered). is_mark n.mention.kind ≡ false)
    (λ (n : Numbered). is n.mention.kind ≡ false) (λ n e. f n.mention.kind e) ns h)

-- what is said of a path that key parts name
marked_is : (line : LineNumbers) (p : List Part) (n : Numbered) (ns : List Numbered) → is_mark n.mention.kind ≡ true
    → met_at line p (n ∷ ns) ≡ nat_le line.key n.before.keys
marked_is line p n ns h =
    ap (λ (b : Bool).
    met_by line (cond b (Some n.before.keys) (first_number is_mark key_number ns)) (mentioned_origin (n ∷ ns))) h

-- and of any other
bare_is : (line : LineNumbers) (p : List Part) (ns : List Numbered)
    → AllOf (λ (n : Numbered). is_mark n.mention.kind ≡ false) ns
    → met_at line p ns ≡ is_origin_from line (mentioned_origin ns)
bare_is line p ns h = ap (λ (k : Option ℕ). met_by line k (mentioned_origin ns)) (key_none ns h)

module _ (c : Count) (zs ws : List Numbered) (low : AllOf (IsLower c) zs) (high : AllOf (IsHigher c) ws)
    (p : List Part) where
  abbrev line : LineNumbers
  line = line_of c

  pub marked_low : AllOf (λ (n : Numbered). is_mark n.mention.kind ≡ true) zs → SomeOf (λ (n : Numbered). ⊤) zs
      → met_at line p (zs ++ ws) ≡ false
  marked_low marked some = by zs low marked some
    where
      by : (ns : List Numbered) → AllOf (IsLower c) ns → AllOf (λ (n : Numbered). is_mark n.mention.kind ≡ true) ns
          → SomeOf (λ (n : Numbered). ⊤) ns → met_at line p (ns ++ ws) ≡ false
      by [] l m s = absurd s
      by (n ∷ ns) l m s = marked_is line p n (ns ++ ws) m.0 ∙ not_le c.keys n.before.keys (l.0.key m.0)

  pub marked_high : AllOf (λ (n : Numbered). is_mark n.mention.kind ≡ true) ws → SomeOf (λ (n : Numbered). ⊤) ws
      → met_at line p ws ≡ true
  marked_high marked some = by ws high marked some
    where
      by : (ns : List Numbered) → AllOf (IsHigher c) ns → AllOf (λ (n : Numbered). is_mark n.mention.kind ≡ true) ns
          → SomeOf (λ (n : Numbered). ⊤) ns → met_at line p ns ≡ true
      by [] l m s = absurd s
      by (n ∷ ns) l m s = marked_is line p n ns m.0 ∙ is_le c.keys n.before.keys l.0.key

  -- no item is said after the line, and no element is begun
  pub bare_low : AllOf (λ (n : Numbered). is_mark n.mention.kind ≡ false) (zs ++ ws)
      → AllOf (λ (n : Numbered). (is_value n.mention.kind ≡ false) × (is_begun n.mention.kind ≡ false)) ws
      → met_at line p (zs ++ ws) ≡ false
  bare_low unmarked none =
      let ns : List Numbered = zs ++ ws in
      let lower : (is : MentionKind → Bool) (number : Count → ℕ) (at : ℕ)
      → ((n : Numbered) → IsLower c n → is n.mention.kind ≡ true → number n.before < at)
      → ((n : Numbered) → (is_value n.mention.kind ≡ false) × (is_begun n.mention.kind ≡ false)
      → is n.mention.kind ≡ false) → (m : ℕ) → last_number is number ns ≡ Some m → m < at = λ is number at f g.
      last_holds (λ (m : ℕ). m < at) is number ns None (λ m e. absurd cc)
      (all_join (λ (n : Numbered). is n.mention.kind ≡ true → number n.before < at) zs ws
      (all_of (IsLower c) (λ (n : Numbered). is n.mention.kind ≡ true → number n.before < at) f zs low)
      (all_of (λ (n : Numbered). (is_value n.mention.kind ≡ false) × (is_begun n.mention.kind ≡ false))
      (λ (n : Numbered). is n.mention.kind ≡ true → number n.before < at) (λ n e is. absurd (no_longer _ is (g n e))) ws
      none)) in
      bare_is line p ns unmarked
      ∙ origin_low line (last_number is_value value_number ns) (last_number is_element statement_number ns)
      (last_number is_begun statement_number ns) (last_number is_define statement_number ns)
      (last_number is_dotted value_number ns) (last_number is_through statement_number ns)
      (bare_none is_element statement_number ns (λ k e. (bare k e).0) unmarked)
      (bare_none is_define statement_number ns (λ k e. (bare k e).1) unmarked)
      (bare_none is_dotted value_number ns (λ k e. (bare k e).2) unmarked)
      (bare_none is_through statement_number ns (λ k e. (bare k e).3) unmarked)
      (lower is_value value_number c.values (λ n h e. h.value (ap (λ (b : Bool). b || is_dotted n.mention.kind) e))
      (λ n e. e.0))
      (lower is_begun statement_number c.statements (λ n h e. h.statement) (λ n e. e.1))

  pub bare_high : AllOf (λ (n : Numbered). is_mark n.mention.kind ≡ false) ws
      → SomeOf (λ (n : Numbered). is_value n.mention.kind ≡ true) ws
      ⊎ SomeOf (λ (n : Numbered). is_begun n.mention.kind ≡ true) ws → met_at line p ws ≡ true
  bare_high unmarked some =
      let higher : (is : MentionKind → Bool) (number : Count → ℕ) (at : ℕ)
      → ((n : Numbered) → IsHigher c n → at ≤ number n.before) → (m : ℕ) → last_number is number ws ≡ Some m → at ≤ m =
      λ is number at f.
      last_holds (λ (m : ℕ). at ≤ m) is number ws None (λ m e. absurd cc)
      (all_of (IsHigher c) (λ (n : Numbered). is n.mention.kind ≡ true → at ≤ number n.before) (λ n h e. f n h) ws
      high) in
      bare_is line p ws unmarked
      ∙ origin_high line (last_number is_value value_number ws) (last_number is_element statement_number ws)
      (last_number is_begun statement_number ws) (last_number is_define statement_number ws)
      (last_number is_dotted value_number ws) (last_number is_through statement_number ws)
      (bare_none is_element statement_number ws (λ k e. (bare k e).0) unmarked)
      (higher is_value value_number c.values (λ n h. h.value))
      (higher is_begun statement_number c.statements (λ n h. h.statement))
      (λ none none'. by some none none')
    where
      by : SomeOf (λ (n : Numbered). is_value n.mention.kind ≡ true) ws
          ⊎ SomeOf (λ (n : Numbered). is_begun n.mention.kind ≡ true) ws → last_number is_value value_number ws ≡ None
          → last_number is_begun statement_number ws ≡ None → ⊥
      by (inl s) none none' = last_some is_value value_number ws None (λ e. s) none
      by (inr s) none none' = last_some is_begun statement_number ws None (λ e. s) none'
