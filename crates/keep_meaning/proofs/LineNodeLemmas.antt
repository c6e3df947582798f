-- One line more: what is known of the nodes is what was known, with the line's node (`node_more`).
--
-- What the line says, or its first key part, is one mention, of a new path, between what is said before it and after
-- it. So the path is met
-- after those before, and the others in the order that they had (`paths_put`). Of another node the same is said, and
-- each number that the facts have of it is that of before, or greater by one, as it is lower than the line's or not
-- (`info_later`).
--
-- Theorem: `node_more`.
use Rattle.std.proofs.Common.{◌≡◌, ℕ, suc, ◌<◌, ◌≤◌, Bool, true, false, cond, List, [], ◌∷◌, ◌++◌, length, map, filter}
use Rattle.std.proofs.Common.{refl, sym, ap, ap₂, ◌∙◌, append_assoc, Option, Some, None}
use Rattle.std.specs.Prelude.{◌||◌, ◌+◌, drop, fold, take}
use Rattle.std.specs.List.{list_any, insert}
use Rattle.std.specs.Option.{option_map}
use Rattle.std.proofs.lemmas.Bool.{lt-ltb, le-ltb, or_parts}
use Rattle.std.proofs.lemmas.List.{map-append, append-nil, take-map, drop-map}
use Rattle.std.proofs.lemmas.List.Elements.{filter-append}
use Rattle.std.proofs.lemmas.List.Folds.{list_any-append}
use Rattle.std.proofs.lemmas.List.Sums.{fold-append}
use Rattle.std.proofs.Math.Seq.{take-append_seam, drop-append_seam}
use Rattle.keep_types.specs.declared.node.NodeInfo.{NodeInfo}
use Rattle.keep_types.specs.declared.node.Origin.{Origin}
use Rattle.keep_types.specs.declared.node.Origin.TheVariants as origin
use Rattle.keep_path.specs.NodeInfos.{NodeInfos, LineNumbers, later_number, renumbered, renumbered_origin}
use Rattle.keep_path.specs.Path.{Part, same_path}
use Rattle.keep_path.proofs.Shared.{path_decides}
use Rattle.keep_meaning.specs.Marks.{MentionKind, Mention}
use Rattle.keep_meaning.specs.Counts.{Count, Numbered, is_value, is_mark}
use Rattle.keep_meaning.specs.Nodes.{is_at, is_begun, is_define, is_dotted, is_element, is_node, is_passed, is_root}
use Rattle.keep_meaning.specs.Nodes.{is_through, first_number, first_that_fits, last_number, key_number}
use Rattle.keep_meaning.specs.Nodes.{mention_kind_of, mention_of, mentioned_kind, mentioned_node, mentioned_origin}
use Rattle.keep_meaning.specs.Nodes.{node_at, node_info, node_path, node_paths, nodes_of, numbered_at, is_numbered_at}
use Rattle.keep_meaning.specs.Nodes.{paths_with, statement_number, value_number}
use Rattle.keep_meaning.proofs.CountLemmas.{paths-nodes}
use Rattle.keep_meaning.proofs.LineNumberLemmas.{AllOf, IsHigher, IsLower, all_of, later, later_numbered}
use Rattle.keep_meaning.proofs.LineNumberLemmas.{with_count}
use Rattle.keep_meaning.proofs.MetLemmas.{node_met}

-- ---- a number of a node

pub low_stays : (at n : ℕ) → n < at → later_number at n ≡ n
low_stays at n low = ap (λ (b : Bool). cond b n (suc n)) (lt-ltb n at low)

pub high_grows : (at n : ℕ) → at ≤ n → later_number at n ≡ suc n
high_grows at n high = ap (λ (b : Bool). cond b n (suc n)) (le-ltb n at high)

-- numbers that are others from one on
module _ (is : MentionKind → Bool) (number : Count → ℕ) (at : ℕ) (f : ℕ → ℕ) (other : Count → Count)
    (stays : (n : ℕ) → n < at → f n ≡ n) (grows : (c : Count) → at ≤ number c → number (other c) ≡ f (number c)) where
  abbrev IsLow : Numbered → Type 0
  IsLow n = is n.mention.kind ≡ true → number n.before < at

  abbrev IsHigh : Numbered → Type 0
  IsHigh n = at ≤ number n.before

  abbrev known_by : Option ℕ → Numbered → Option ℕ
  known_by known n = cond (is n.mention.kind) (Some (number n.before)) known

  last_low : (ns : List Numbered) (known : Option ℕ) → option_map f known ≡ known → AllOf IsLow ns
      → option_map f (fold known_by known ns) ≡ fold known_by known ns
  last_low [] known e h = e
  last_low (n ∷ ns) known e h = last_low ns (known_by known n) (by (is n.mention.kind) refl) h.1
    where
      by : (b : Bool) → is n.mention.kind ≡ b
          → option_map f (cond b (Some (number n.before)) known) ≡ cond b (Some (number n.before)) known
      by true k = ap Some (stays (number n.before) (h.0 k))
      by false k = e

  last_high : (ns : List Numbered) (known : Option ℕ) → AllOf IsHigh ns
      → fold known_by (option_map f known) (map (with_count other) ns)
      ≡ option_map f (fold known_by known ns)
  last_high [] known h = refl
  last_high (n ∷ ns) known h =
      ap (λ (k : Option ℕ). fold known_by k (map (with_count other) ns)) (by (is n.mention.kind))
      ∙ last_high ns (known_by known n) h.1
    where
      by : (b : Bool)
          → cond b (Some (number (other n.before))) (option_map f known)
          ≡ option_map f (cond b (Some (number n.before)) known)
      by true = ap Some (grows n.before h.0)
      by false = refl

  last_later : (xs ys : List Numbered) → AllOf IsLow xs → AllOf IsHigh ys
      → last_number is number (xs ++ map (with_count other) ys)
      ≡ option_map f (last_number is number (xs ++ ys))
  last_later xs ys low high =
      fold-append known_by None xs (map (with_count other) ys)
      ∙ ap (λ (k : Option ℕ). fold known_by k (map (with_count other) ys)) (sym (last_low xs None refl low))
      ∙ last_high ys (fold known_by None xs) high
      ∙ ap (option_map f) (sym (fold-append known_by None xs ys))

  first_high : (ys : List Numbered) → AllOf IsHigh ys
      → first_number is number (map (with_count other) ys) ≡ option_map f (first_number is number ys)
  first_high [] h = refl
  first_high (n ∷ ys) h = by (is n.mention.kind) (first_high ys h.1)
    where
      by : (b : Bool)
          → first_number is number (map (with_count other) ys) ≡ option_map f (first_number is number ys)
          → cond b (Some (number (other n.before))) (first_number is number (map (with_count other) ys))
          ≡ option_map f (cond b (Some (number n.before)) (first_number is number ys))
      by true rest = ap Some (grows n.before h.0)
      by false rest = rest

  first_later : (xs ys : List Numbered) → AllOf IsLow xs → AllOf IsHigh ys
      → first_number is number (xs ++ map (with_count other) ys)
      ≡ option_map f (first_number is number (xs ++ ys))
  first_later [] ys low high = first_high ys high
  first_later (n ∷ xs) ys low high = by (is n.mention.kind) refl (first_later xs ys low.1 high)
    where
      by : (b : Bool) → is n.mention.kind ≡ b
          → first_number is number (xs ++ map (with_count other) ys)
          ≡ option_map f (first_number is number (xs ++ ys))
          → cond b (Some (number n.before)) (first_number is number (xs ++ map (with_count other) ys))
          ≡ option_map f (cond b (Some (number n.before)) (first_number is number (xs ++ ys)))
      by true e rest = ap Some (sym (stays (number n.before) (low.0 e)))
      by false e rest = rest

-- ---- what has no number

kinds_later : (other : Count → Count) (xs ys : List Numbered)
    → map mention_kind_of (xs ++ map (with_count other) ys) ≡ map mention_kind_of (xs ++ ys)
kinds_later other [] [] = refl
kinds_later other [] (y ∷ ys) = ap (λ (l : List MentionKind). y.mention.kind ∷ l) (kinds_later other [] ys)
kinds_later other (x ∷ xs) ys = ap (λ (l : List MentionKind). x.mention.kind ∷ l) (kinds_later other xs ys)

passed_later : (other : Count → Count) (xs ys : List Numbered)
    → list_any (λ (n : Numbered). is_passed n.mention.kind) (xs ++ map (with_count other) ys)
    ≡ list_any (λ (n : Numbered). is_passed n.mention.kind) (xs ++ ys)
passed_later other [] [] = refl
passed_later other [] (y ∷ ys) = ap (λ (b : Bool). is_passed y.mention.kind || b) (passed_later other [] ys)
passed_later other (x ∷ xs) ys = ap (λ (b : Bool). is_passed x.mention.kind || b) (passed_later other xs ys)

abbrev marks_by : ℕ → Numbered → ℕ
marks_by n m = n + cond (is_mark m.mention.kind) 1 0

marks_later : (other : Count → Count) (n : ℕ) (xs ys : List Numbered)
    → fold marks_by n (xs ++ map (with_count other) ys) ≡ fold marks_by n (xs ++ ys)
marks_later other n [] [] = refl
marks_later other n [] (y ∷ ys) = marks_later other (marks_by n y) [] ys
marks_later other n (x ∷ xs) ys = marks_later other (marks_by n x) xs ys

-- ---- the facts about a node

-- where it comes from, by the numbers that there are
abbrev pub fitting : Option ℕ → Option ℕ → Option ℕ → Option ℕ → Option ℕ → Option ℕ → Origin
fitting v t e h d s =
    first_that_fits (option_map origin.Value v ∷ option_map (λ i. origin.Tables) t ∷ option_map origin.Element e
    ∷ option_map origin.Header h ∷ option_map origin.Dotted d ∷ option_map origin.Through s ∷ [])

pub fitting_later : (f g : ℕ → ℕ) (v t e h d s : Option ℕ)
    → fitting (option_map g v) (option_map f t) (option_map f e) (option_map f h) (option_map g d) (option_map f s)
    ≡ renumbered_origin f g (fitting v t e h d s)
fitting_later f g (Some v) t e h d s = refl
fitting_later f g None (Some t) e h d s = refl
fitting_later f g None None (Some e) h d s = refl
fitting_later f g None None None (Some h) d s = refl
fitting_later f g None None None None (Some d) s = refl
fitting_later f g None None None None None (Some s) = refl
fitting_later f g None None None None None None = refl

abbrev pub line_of : Count → LineNumbers
line_of c = record { statement = c.statements; value = c.values; key = c.keys }

-- said by a value, or by a key part from which a keyval continues
either_left : (m : MentionKind) → is_value m ≡ true → (is_value m || is_dotted m) ≡ true
either_left m e = ap (λ (b : Bool). b || is_dotted m) e

either_right : (m : MentionKind) → is_dotted m ≡ true → (is_value m || is_dotted m) ≡ true
either_right m e = ap (λ (b : Bool). is_value m || b) e ∙ or_true (is_value m)
  where
    or_true : (b : Bool) → (b || true) ≡ true
    or_true true = refl
    or_true false = refl

-- Other numbers from a count on: those of statements, values and key parts.
pub record Renumbering (c : Count) : Type 0 where
  pub count : Count → Count
  pub statement : ℕ → ℕ
  pub value : ℕ → ℕ
  pub key : ℕ → ℕ
  pub statement_stays : (n : ℕ) → n < c.statements → statement n ≡ n
  pub value_stays : (n : ℕ) → n < c.values → value n ≡ n
  pub key_stays : (n : ℕ) → n < c.keys → key n ≡ n
  pub statement_grows : (d : Count) → c.statements ≤ d.statements → (count d).statements ≡ statement d.statements
  pub value_grows : (d : Count) → c.values ≤ d.values → (count d).values ≡ value d.values
  pub key_grows : (d : Count) → c.keys ≤ d.keys → (count d).keys ≡ key d.keys

-- with a line more, of one key part
abbrev pub one_later : (c : Count) → Renumbering c
one_later c = record {
  count = later;
  statement = later_number c.statements;
  value = later_number c.values;
  key = later_number c.keys;
  statement_stays = low_stays c.statements;
  value_stays = low_stays c.values;
  key_stays = low_stays c.keys;
  statement_grows = λ d h. sym (high_grows c.statements d.statements h);
  value_grows = λ d h. sym (high_grows c.values d.values h);
  key_grows = λ d h. sym (high_grows c.keys d.keys h);
}

abbrev pub with_renumbering : {c : Count} → Renumbering c → NodeInfo → NodeInfo
with_renumbering by i =
    record i { key = option_map by.key i.key; origin = renumbered_origin by.statement by.value i.origin }

module _ (c : Count) (by : Renumbering c) (xs ys : List Numbered) (low : AllOf (IsLower c) xs)
    (high : AllOf (IsHigher c) ys) where
  statement_later : (is : MentionKind → Bool)
      → last_number is statement_number (xs ++ map (with_count by.count) ys)
      ≡ option_map by.statement (last_number is statement_number (xs ++ ys))
  statement_later is =
      last_later is statement_number c.statements by.statement by.count by.statement_stays by.statement_grows xs ys
      (all_of (IsLower c)
      (IsLow is statement_number c.statements by.statement by.count by.statement_stays by.statement_grows)
      (λ n h e. h.statement) xs low)
      (all_of (IsHigher c)
      (IsHigh is statement_number c.statements by.statement by.count by.statement_stays by.statement_grows)
      (λ n h. h.statement) ys high)

  value_later : (is : MentionKind → Bool) → ((m : MentionKind) → is m ≡ true → (is_value m || is_dotted m) ≡ true)
      → last_number is value_number (xs ++ map (with_count by.count) ys)
      ≡ option_map by.value (last_number is value_number (xs ++ ys))
  value_later is either =
      last_later is value_number c.values by.value by.count by.value_stays by.value_grows xs ys
      (all_of (IsLower c) (IsLow is value_number c.values by.value by.count by.value_stays by.value_grows)
      (λ n h e. h.value (either n.mention.kind e)) xs
      low)
      (all_of (IsHigher c) (IsHigh is value_number c.values by.value by.count by.value_stays by.value_grows)
      (λ n h. h.value) ys high)

  key_later : first_number is_mark key_number (xs ++ map (with_count by.count) ys)
      ≡ option_map by.key (first_number is_mark key_number (xs ++ ys))
  key_later =
      first_later is_mark key_number c.keys by.key by.count by.key_stays by.key_grows xs ys
      (all_of (IsLower c) (IsLow is_mark key_number c.keys by.key by.count by.key_stays by.key_grows)
      (λ n h e. h.key e) xs low)
      (all_of (IsHigher c) (IsHigh is_mark key_number c.keys by.key by.count by.key_stays by.key_grows)
      (λ n h. h.key) ys high)

  origin_later : mentioned_origin (xs ++ map (with_count by.count) ys)
      ≡ renumbered_origin by.statement by.value (mentioned_origin (xs ++ ys))
  origin_later =
      let zs : List Numbered = xs ++ ys in
      let f : ℕ → ℕ = by.statement in
      let g : ℕ → ℕ = by.value in
      ap (λ (o : Option ℕ).
      fitting o (last_number is_element statement_number (xs ++ map (with_count by.count) ys))
      (last_number is_begun statement_number (xs ++ map (with_count by.count) ys))
      (last_number is_define statement_number (xs ++ map (with_count by.count) ys))
      (last_number is_dotted value_number (xs ++ map (with_count by.count) ys))
      (last_number is_through statement_number (xs ++ map (with_count by.count) ys))) (value_later is_value either_left)
      ∙ ap₂ (λ (o p : Option ℕ).
      fitting (option_map g (last_number is_value value_number zs)) o p
      (last_number is_define statement_number (xs ++ map (with_count by.count) ys))
      (last_number is_dotted value_number (xs ++ map (with_count by.count) ys))
      (last_number is_through statement_number (xs ++ map (with_count by.count) ys))) (statement_later is_element)
      (statement_later is_begun)
      ∙ ap₂ (λ (o p : Option ℕ).
      fitting (option_map g (last_number is_value value_number zs))
      (option_map f (last_number is_element statement_number zs))
      (option_map f (last_number is_begun statement_number zs)) o p
      (last_number is_through statement_number (xs ++ map (with_count by.count) ys))) (statement_later is_define)
      (value_later is_dotted either_right)
      ∙ ap (λ (o : Option ℕ).
      fitting (option_map g (last_number is_value value_number zs))
      (option_map f (last_number is_element statement_number zs))
      (option_map f (last_number is_begun statement_number zs))
      (option_map f (last_number is_define statement_number zs)) (option_map g (last_number is_dotted value_number zs))
      o) (statement_later is_through)
      ∙ fitting_later f g (last_number is_value value_number zs) (last_number is_element statement_number zs)
      (last_number is_begun statement_number zs) (last_number is_define statement_number zs)
      (last_number is_dotted value_number zs) (last_number is_through statement_number zs)

  info_later : (q : List Part)
      → node_info (mentioned_node q (xs ++ map (with_count by.count) ys))
      ≡ with_renumbering by (node_info (mentioned_node q (xs ++ ys)))
  info_later q =
      let new : NodeInfo = node_info (mentioned_node q (xs ++ map (with_count by.count) ys)) in
      let old : NodeInfo = node_info (mentioned_node q (xs ++ ys)) in
      ap (λ (ks : List MentionKind).
      record { kind = mentioned_kind ks; key = new.key; marks = new.marks; passed = new.passed; origin = new.origin })
      (kinds_later by.count xs ys)
      ∙ ap₂ (λ (k : Option ℕ) (m : ℕ).
      record { kind = old.kind; key = k; marks = m; passed = new.passed; origin = new.origin }) key_later
      (marks_later by.count 0 xs ys)
      ∙ ap₂ (λ (b : Bool) (o : Origin).
      record {
        kind = old.kind;
        key = option_map by.key old.key;
        marks = old.marks;
        passed = b;
        origin = o;
      }) (passed_later by.count xs ys) origin_later

-- ---- the paths

not_root_put : (p q : List Part) (ps rest : List (List Part)) → same_path q p ≡ false
    → list_any (same_path q) (ps ++ p ∷ rest) ≡ list_any (same_path q) (ps ++ rest)
not_root_put p q ps rest differ =
    list_any-append (same_path q) ps (p ∷ rest)
    ∙ ap (λ (b : Bool). list_any (same_path q) ps || (b || list_any (same_path q) rest)) differ
    ∙ sym (list_any-append (same_path q) ps rest)

-- a path that none of the further ones is
paths_put : (p : List Part) (qs ps rest : List (List Part)) → AllOf (λ (q : List Part). same_path q p ≡ false) qs
    → fold paths_with (ps ++ p ∷ rest) qs ≡ insert (fold paths_with (ps ++ rest) qs) (length ps) p
paths_put p [] ps rest h =
    ap₂ (λ (us vs : List (List Part)). us ++ p ∷ vs) (sym (take-append_seam ps rest)) (sym (drop-append_seam ps rest))
paths_put p (q ∷ qs) ps rest h =
    ap (λ (b : Bool). fold paths_with (cond b (ps ++ p ∷ rest) ((ps ++ p ∷ rest) ++ q ∷ [])) qs)
    (not_root_put p q ps rest h.0) ∙ by (list_any (same_path q) (ps ++ rest)) (λ more. paths_put p qs ps more h.1)
  where
    by : (b : Bool)
        → ((more : List (List Part))
        → fold paths_with (ps ++ p ∷ more) qs ≡ insert (fold paths_with (ps ++ more) qs) (length ps) p)
        → fold paths_with (cond b (ps ++ p ∷ rest) ((ps ++ p ∷ rest) ++ q ∷ [])) qs
        ≡ insert (fold paths_with (cond b (ps ++ rest) ((ps ++ rest) ++ q ∷ [])) qs) (length ps) p
    by true put = put rest
    by false put =
        ap (λ (l : List (List Part)). fold paths_with l qs) (append_assoc ps (p ∷ rest) (q ∷ []))
        ∙ put (rest ++ q ∷ [])
        ∙ ap (λ (l : List (List Part)). insert (fold paths_with l qs) (length ps) p)
        (sym (append_assoc ps rest (q ∷ [])))

-- ---- the line

abbrev pub path_of : Mention → List Part
path_of m = m.path

none_at : (p : List Part) (ms : List Mention) → list_any (is_at p) ms ≡ false
    → AllOf (λ (q : List Part). same_path q p ≡ false) (map path_of ms)
none_at p [] e = tt
none_at p (m ∷ ms) e = let r = or_parts (is_at p m) (list_any (is_at p) ms) e in (r.0, none_at p ms r.1)

pub none_numbered : (p : List Part) (ns : List Numbered) → list_any (is_at p) (map mention_of ns) ≡ false
    → numbered_at p ns ≡ []
none_numbered p [] e = refl
none_numbered p (n ∷ ns) e =
    let r = or_parts (is_at p n.mention) (list_any (is_at p) (map mention_of ns)) e in
    ap (λ (b : Bool). cond b (n ∷ numbered_at p ns) (numbered_at p ns)) r.0 ∙ none_numbered p ns r.1

at_later : (other : Count → Count) (p : List Part) (ns : List Numbered)
    → numbered_at p (map (with_count other) ns) ≡ map (with_count other) (numbered_at p ns)
at_later other p [] = refl
at_later other p (n ∷ ns) = by (is_at p n.mention) (at_later other p ns)
  where
    by : (b : Bool) → numbered_at p (map (with_count other) ns) ≡ map (with_count other) (numbered_at p ns)
        → cond b (with_count other n ∷ numbered_at p (map (with_count other) ns))
        (numbered_at p (map (with_count other) ns))
        ≡ map (with_count other) (cond b (n ∷ numbered_at p ns) (numbered_at p ns))
    by true e = ap (λ (l : List Numbered). with_count other n ∷ l) e
    by false e = e

pub mentions_later : (other : Count → Count) (ns : List Numbered)
    → map mention_of (map (with_count other) ns) ≡ map mention_of ns
mentions_later other [] = refl
mentions_later other (n ∷ ns) = ap (λ (l : List Mention). n.mention ∷ l) (mentions_later other ns)

pub all_filter : {A : Type 0} (P : A → Type 0) (test : A → Bool) (xs : List A) → AllOf P xs → AllOf P (filter test xs)
all_filter P test [] h = tt
all_filter P test (x ∷ xs) h = by (test x) (all_filter P test xs h.1)
  where
    by : (b : Bool) → AllOf P (filter test xs) → AllOf P (cond b (x ∷ filter test xs) (filter test xs))
    by true more = (h.0, more)
    by false more = more

pub map_same : {A B : Type 0} (g h : A → B) (xs : List A) → AllOf (λ (y : A). g y ≡ h y) xs → map g xs ≡ map h xs
map_same g h [] e = refl
map_same g h (x ∷ xs) e = ap₂ (λ z l. z ∷ l) e.0 (map_same g h xs e.1)

map_put : {A B : Type 0} (g h : A → B) (xs : List A) (i : ℕ) (x : A) → AllOf (λ (y : A). g y ≡ h y) xs
    → map g (insert xs i x) ≡ insert (map h xs) i (g x)
map_put g h xs i x same =
    map-append g (take i xs) (x ∷ drop i xs)
    ∙ ap₂ (λ us vs. us ++ g x ∷ vs) (sym (take-map g i xs)) (sym (drop-map g i xs))
    ∙ ap (λ l. insert l i (g x)) (map_same g h xs same)

pub map_twice : {A B C : Type 0} (f : B → C) (g : A → B) (xs : List A) → map f (map g xs) ≡ map (λ x. f (g x)) xs
map_twice f g [] = refl
map_twice f g (x ∷ xs) = ap (λ l. f (g x) ∷ l) (map_twice f g xs)

-- what is known of the nodes of which this is said
abbrev pub infos_of : List Numbered → NodeInfos
infos_of ns = record { paths = map node_path (nodes_of ns); infos = map node_info (nodes_of ns) }

pub none_in : (p : List Part) (ps : List (List Part)) → list_any (same_path p) ps ≡ false
    → AllOf (λ (q : List Part). same_path p q ≡ false) ps
none_in p [] e = tt
none_in p (q ∷ ps) e = let r = or_parts (same_path p q) (list_any (same_path p) ps) e in (r.0, none_in p ps r.1)

module _ (c : Count) (xs ys : List Numbered) (low : AllOf (IsLower c) xs) (high : AllOf (IsHigher c) ys) (p : List Part)
    (k : MentionKind) (fresh : is_node p (map mention_of xs ++ map mention_of ys) ≡ false) where
  abbrev own : Numbered
  own = record { mention = record { path = p; kind = k }; before = c }

  abbrev with_own : List Numbered
  with_own = xs ++ own ∷ map later_numbered ys

  abbrev was_met : List (List Part)
  was_met = node_paths (map mention_of xs)

  unmet_before : list_any (same_path p) was_met ≡ false
  unmet_before =
      let (root, none) = or_parts (is_root p) (list_any (is_at p) (map mention_of xs ++ map mention_of ys)) fresh in
      let (left, right) =
      or_parts (list_any (is_at p) (map mention_of xs)) (list_any (is_at p) (map mention_of ys))
      (sym (list_any-append (is_at p) (map mention_of xs) (map mention_of ys)) ∙ none) in
      node_met p (map mention_of xs) ∙ ap₂ (λ (a b : Bool). a || b) root left

  unsaid_before : list_any (is_at p) (map mention_of xs) ≡ false
  unsaid_before =
      let (root, none) = or_parts (is_root p) (list_any (is_at p) (map mention_of xs ++ map mention_of ys)) fresh in
      (or_parts (list_any (is_at p) (map mention_of xs)) (list_any (is_at p) (map mention_of ys))
      (sym (list_any-append (is_at p) (map mention_of xs) (map mention_of ys)) ∙ none)).0

  unsaid_after : list_any (is_at p) (map mention_of ys) ≡ false
  unsaid_after =
      let (root, none) = or_parts (is_root p) (list_any (is_at p) (map mention_of xs ++ map mention_of ys)) fresh in
      (or_parts (list_any (is_at p) (map mention_of xs)) (list_any (is_at p) (map mention_of ys))
      (sym (list_any-append (is_at p) (map mention_of xs) (map mention_of ys)) ∙ none)).1

  met_after : (ms : List Mention) → node_paths (map mention_of xs ++ ms) ≡ fold paths_with was_met (map path_of ms)
  met_after ms =
      ap (fold paths_with ([] ∷ [])) (map-append path_of (map mention_of xs) ms)
      ∙ fold-append paths_with ([] ∷ []) (map path_of (map mention_of xs)) (map path_of ms)

  -- the line's path is met after those before, and the others as they were
  pub paths_more : node_paths (map mention_of with_own)
      ≡ insert (node_paths (map mention_of (xs ++ ys))) (length was_met) p
  paths_more =
      let mb : List (List Part) = map path_of (map mention_of ys) in
      ap node_paths (map-append mention_of xs (own ∷ map later_numbered ys)
      ∙ ap (λ (l : List Mention). map mention_of xs ++ own.mention ∷ l) (mentions_later later ys))
      ∙ met_after (own.mention ∷ map mention_of ys)
      ∙ ap (λ (b : Bool). fold paths_with (cond b was_met (was_met ++ p ∷ [])) mb) unmet_before
      ∙ paths_put p mb was_met [] (none_at p (map mention_of ys) unsaid_after)
      ∙ ap (λ (l : List (List Part)). insert (fold paths_with l mb) (length was_met) p) (append-nil was_met)
      ∙ ap (λ (l : List (List Part)). insert l (length was_met) p)
      (sym (met_after (map mention_of ys)) ∙ ap node_paths (sym (map-append mention_of xs ys)))

  abbrev new_info : List Part → NodeInfo
  new_info q = node_info (node_at with_own q)

  abbrev later_info : List Part → NodeInfo
  later_info q = renumbered later_number (line_of c) (node_info (node_at (xs ++ ys) q))

  elsewhere : (q : List Part) → same_path p q ≡ false → new_info q ≡ later_info q
  elsewhere q differ =
      let test : Numbered → Bool = is_numbered_at q in
      ap (λ (l : List Numbered). node_info (mentioned_node q l)) (
      filter-append test xs (own ∷ map later_numbered ys)
      ∙ ap (λ (b : Bool).
      numbered_at q xs ++ cond b (own ∷ numbered_at q (map later_numbered ys)) (numbered_at q (map later_numbered ys)))
      differ
      ∙ ap (λ (l : List Numbered). numbered_at q xs ++ l) (at_later later q ys))
      ∙ info_later c (one_later c) (numbered_at q xs) (numbered_at q ys) (all_filter (IsLower c) test xs low)
      (all_filter (IsHigher c) test ys high) q
      ∙ ap (λ (l : List Numbered). renumbered later_number (line_of c) (node_info (mentioned_node q l)))
      (sym (filter-append test xs ys))

  abbrev own_info : NodeInfo
  own_info = node_info (mentioned_node p (own ∷ []))

  here : new_info p ≡ own_info
  here = ap (λ (l : List Numbered). node_info (mentioned_node p l)) (
      filter-append (is_numbered_at p) xs (own ∷ map later_numbered ys)
      ∙ ap (λ (l : List Numbered). l ++ numbered_at p (own ∷ map later_numbered ys)) (none_numbered p xs unsaid_before)
      ∙ ap (λ (b : Bool). cond b (own ∷ numbered_at p (map later_numbered ys)) (numbered_at p (map later_numbered ys)))
      ((path_decides p p).1 refl)
      ∙ ap (λ (l : List Numbered). own ∷ l)
      (at_later later p ys ∙ ap (map later_numbered) (none_numbered p ys unsaid_after)))

  pub node_more : infos_of with_own ≡ record {
    paths = insert (infos_of (xs ++ ys)).paths (length was_met) p;
    infos = insert (map (renumbered later_number (line_of c)) (infos_of (xs ++ ys)).infos) (length was_met) own_info;
  }
  node_more =
      let ps : List (List Part) = node_paths (map mention_of (xs ++ ys)) in
      let at : ℕ = length was_met in
      let others : AllOf (λ (q : List Part). same_path p q ≡ false) ps =
      none_in p ps (node_met p (map mention_of (xs ++ ys)) ∙ ap (is_node p) (map-append mention_of xs ys) ∙ fresh) in
      let same : AllOf (λ (q : List Part). new_info q ≡ later_info q) ps =
      all_of (λ (q : List Part). same_path p q ≡ false) (λ (q : List Part). new_info q ≡ later_info q) elsewhere ps
      others in
      let later_infos : map later_info ps
      ≡ map (renumbered later_number (line_of c)) (map node_info (map (node_at (xs ++ ys)) ps)) =
      sym (map_twice (renumbered later_number (line_of c)) (λ (q : List Part). node_info (node_at (xs ++ ys) q)) ps)
      ∙ ap (map (renumbered later_number (line_of c))) (sym (map_twice node_info (node_at (xs ++ ys)) ps)) in
      ap₂ (λ (qs : List (List Part)) (is : List NodeInfo). record { paths = qs; infos = is })
      (paths-nodes with_own (node_paths (map mention_of with_own)) ∙ paths_more
      ∙ ap (λ (l : List (List Part)). insert l at p) (sym (paths-nodes (xs ++ ys) ps)))
      (map_twice node_info (node_at with_own) (node_paths (map mention_of with_own))
      ∙ ap (map new_info) paths_more
      ∙ map_put new_info later_info ps at p same
      ∙ ap₂ (λ (l : List NodeInfo) (i : NodeInfo). insert l at i) later_infos here)

-- ---- the same mentions, with other numbers from a count on

module _ (c : Count) (by : Renumbering c) (xs ys : List Numbered) (low : AllOf (IsLower c) xs)
    (high : AllOf (IsHigher c) ys) where
  abbrev old_info : List Part → NodeInfo
  old_info q = node_info (node_at (xs ++ ys) q)

  abbrev other_info : List Part → NodeInfo
  other_info q = node_info (node_at (xs ++ map (with_count by.count) ys) q)

  other_at : (q : List Part) → other_info q ≡ with_renumbering by (old_info q)
  other_at q =
      let test : Numbered → Bool = is_numbered_at q in
      ap (λ (l : List Numbered). node_info (mentioned_node q l))
      (filter-append test xs (map (with_count by.count) ys)
      ∙ ap (λ (l : List Numbered). numbered_at q xs ++ l) (at_later by.count q ys))
      ∙ info_later c by (numbered_at q xs) (numbered_at q ys) (all_filter (IsLower c) test xs low)
      (all_filter (IsHigher c) test ys high) q
      ∙ ap (λ (l : List Numbered). with_renumbering by (node_info (mentioned_node q l)))
      (sym (filter-append test xs ys))

  others_same : (ps : List (List Part)) → map other_info ps ≡ map (with_renumbering by) (map old_info ps)
  others_same [] = refl
  others_same (p ∷ ps) = ap₂ (λ (i : NodeInfo) (is : List NodeInfo). i ∷ is) (other_at p) (others_same ps)

  pub renumbered_nodes : infos_of (xs ++ map (with_count by.count) ys) ≡ record {
    paths = (infos_of (xs ++ ys)).paths;
    infos = map (with_renumbering by) (infos_of (xs ++ ys)).infos;
  }
  renumbered_nodes =
      let ps : List (List Part) = node_paths (map mention_of (xs ++ ys)) in
      let zs : List Numbered = xs ++ map (with_count by.count) ys in
      let same : node_paths (map mention_of zs) ≡ ps =
      ap node_paths (map-append mention_of xs (map (with_count by.count) ys)
      ∙ ap (λ (l : List Mention). map mention_of xs ++ l) (mentions_later by.count ys)
      ∙ sym (map-append mention_of xs ys)) in
      ap₂ (λ (qs : List (List Part)) (is : List NodeInfo). record { paths = qs; infos = is })
      (paths-nodes zs (node_paths (map mention_of zs)) ∙ same ∙ sym (paths-nodes (xs ++ ys) ps))
      (map_twice node_info (node_at zs) (node_paths (map mention_of zs)) ∙ ap (map other_info) same ∙ others_same ps
      ∙ ap (map (with_renumbering by)) (sym (map_twice node_info (node_at (xs ++ ys)) ps)))
