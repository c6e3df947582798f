-- Where a keyval goes below the holder of its path, by where the holder comes from.
--
-- The code decides by the origin of the holder's node; the definition asks what is mentioned at the holder's path. The
-- origin is the first number that is known, in a fixed order, so it says which of them are not known (`table_fits`,
-- `value_fits`, `root_fits`). There is one lemma for each origin. A table gets the keyval after its body, in a new
-- section, after the last line or entry of its dotted keys, or in its braces. A value that is no inline table, and an
-- array of tables, refuse it (`value_refused`, `tables_refused`). `own_base` and `base_is` say how much of the path is
-- written.
--
-- Theorems: `root_spot`, `header_spot`, `element_spot`, `through_spot`, `line_dotted`, `braces_dotted`, `braces_aimed`:
-- the spot by the origin.
use Rattle.std.proofs.Common.{◌≡◌, ℕ, ◌≤◌, Bool, true, false, not, ◌&&◌, List, [], ◌∷◌, length, take, refl, sym, ap}
use Rattle.std.proofs.Common.{subst, ◌∙◌, arith, Option, Some, None, Ok, Err, inl, inr}
use Rattle.std.specs.Prelude.{if◌then◌else◌}
use Rattle.std.specs.Option.{option_map}
use Rattle.std.proofs.lemmas.Bool.{cases_lt}
use Rattle.std.proofs.lemmas.List.{take-take, length-take-le}
use Rattle.keep_types.specs.declared.leaf.Leaf.{Leaf}
use Rattle.keep_types.specs.declared.leaf.Leaf.TheVariants as leaf
use Rattle.keep_syntax.specs.Tree.{Document}
use Rattle.keep_types.specs.declared.syntax.ValueInfo.{ValueInfo}
use Rattle.keep_syntax.specs.Numbered as syntax
use Rattle.keep_types.specs.declared.node.Kind.TheVariants as kind
use Rattle.keep_types.specs.declared.node.NodeInfo.{NodeInfo}
use Rattle.keep_types.specs.declared.node.Origin.{Origin}
use Rattle.keep_types.specs.declared.node.Origin.TheVariants as origin
use Rattle.keep_meaning.specs.Counts.{is_value, numbered_in}
use Rattle.keep_meaning.specs.Fact as fact
use Rattle.keep_meaning.specs.Fact.{Fact}
use Rattle.keep_path.specs.Path.{Part}
use Rattle.keep_meaning.specs.Marks as mention_kind
use Rattle.keep_meaning.specs.Marks.{MentionKind, Mention}
use Rattle.keep_meaning.specs.Meaning.{mentions_in}
use Rattle.keep_meaning.specs.Nodes.{is_node, has, is_element, is_begun, is_define, is_dotted, is_through, fact_at}
use Rattle.keep_meaning.specs.Nodes.{kind_at, kind_or_table, moment_kind, numbered_at, last_number, value_number}
use Rattle.keep_meaning.specs.Nodes.{statement_number, first_that_fits}
use Rattle.keep_edit_spec.specs.declared.fault.EditFault.TheVariants as fault
use Rattle.keep_edit_spec.specs.Look.{holder, is_table, is_table_fact}
use Rattle.keep_edit_spec.specs.Refusals.{has_value}
use Rattle.keep_edit_spec.proofs.Shared.{SomeOf, IsMentioned, is_origin, origin_mentioned, unsaid_of_none}
use Rattle.keep_edit_spec.proofs.Shared.{has_of_number, none_of_number}
use Rattle.keep_edit_plan.specs.Reading.{ProfiledText, IsTextOfTree}
use Rattle.keep_edit_plan.specs.Answers.{value_number_of}
use Rattle.keep_edit_plan.specs.Inserting.{IsBase, IsKeyvalSpot, is_dotted_origin, last_keyval_among, last_keyval_of}
use Rattle.keep_edit_plan.specs.Inserting.{origin_of}
use Rattle.keep_edit_plan.specs.Aiming.{IsKeyvalAimed, spot_in_braces}
use Rattle.keep_edit_plan.specs.Holding.{IsHolder, is_value_origin}
use Rattle.keep_edit_plan.specs.declared.holder.Holder.{Holder}
use Rattle.keep_edit_plan.specs.declared.insert.Spot.{Spot}
use Rattle.keep_edit_plan.specs.declared.insert.Spot.TheVariants as spot
use Rattle.keep_edit_plan.proofs.FoundLaws.{IsStated}
use Rattle.keep_edit_plan.proofs.NodeLaws.{a_node, kind_stated}
use Rattle.keep_edit_plan.proofs.RemoveNode.{has_of, none_of}

-- ---- what fits first

abbrev first : (a b c d e f : Option ℕ) → Origin
first a b c d e f =
    first_that_fits (option_map origin.Value a ∷ option_map (λ i. origin.Tables) b ∷ option_map origin.Element c
    ∷ option_map origin.Header d ∷ option_map origin.Dotted e ∷ option_map origin.Through f ∷ [])

-- neither a value nor an array of tables
abbrev pub is_table_origin : Origin → Bool
is_table_origin (origin.Value v) = false
is_table_origin origin.Tables = false
is_table_origin _ = true

table_fits : (a b c d e f : Option ℕ) → is_table_origin (first a b c d e f) ≡ true → (a ≡ None) × (b ≡ None)
table_fits (Some i) b c d e f h = absurd cc
table_fits None (Some i) c d e f h = absurd cc
table_fits None None c d e f h = (refl, refl)

tables_fit : (a b c d e f : Option ℕ) → first a b c d e f ≡ origin.Tables → (i : ℕ) × (b ≡ Some i)
tables_fit (Some i) b c d e f h = absurd cc
tables_fit None (Some i) c d e f h = (i, refl)
tables_fit None None (Some i) d e f h = absurd cc
tables_fit None None None (Some i) e f h = absurd cc
tables_fit None None None None (Some i) f h = absurd cc
tables_fit None None None None None (Some i) h = absurd cc
tables_fit None None None None None None h = absurd cc

value_fits : (a b c d e f : Option ℕ) (n : ℕ) → first a b c d e f ≡ origin.Value n → a ≡ Some n
value_fits (Some i) b c d e f n h = let same : i ≡ n = cc in ap Some same
value_fits None (Some i) c d e f n h = absurd cc
value_fits None None (Some i) d e f n h = absurd cc
value_fits None None None (Some i) e f n h = absurd cc
value_fits None None None None (Some i) f n h = absurd cc
value_fits None None None None None (Some i) n h = absurd cc
value_fits None None None None None None n h = absurd cc

record IsUnsaid (a b c d e f : Option ℕ) : Type 0 where
  value : a ≡ None
  element : b ≡ None
  begun : c ≡ None
  define : d ≡ None
  dotted : e ≡ None
  through : f ≡ None

root_fits : (a b c d e f : Option ℕ) → first a b c d e f ≡ origin.Root → IsUnsaid a b c d e f
root_fits (Some i) b c d e f h = absurd cc
root_fits None (Some i) c d e f h = absurd cc
root_fits None None (Some i) d e f h = absurd cc
root_fits None None None (Some i) e f h = absurd cc
root_fits None None None None (Some i) f h = absurd cc
root_fits None None None None None (Some i) h = absurd cc
root_fits None None None None None None h =
    record { value = refl; element = refl; begun = refl; define = refl; dotted = refl; through = refl }

never_mentioned : (p : List Part) (ms : List Mention) → (SomeOf (IsMentioned is_value p) ms → ⊥)
    → (SomeOf (IsMentioned is_element p) ms → ⊥) → (SomeOf (IsMentioned is_begun p) ms → ⊥)
    → (SomeOf (IsMentioned is_define p) ms → ⊥)
    → (SomeOf (IsMentioned is_dotted p) ms → ⊥) → (SomeOf (IsMentioned is_through p) ms → ⊥)
    → SomeOf (IsMentioned is_origin p) ms → ⊥
never_mentioned p [] a b c d e f s = s
never_mentioned p (m ∷ ms) a b c d e f (inr s) =
    never_mentioned p ms (λ x. a (inr x)) (λ x. b (inr x)) (λ x. c (inr x)) (λ x. d (inr x)) (λ x. e (inr x))
    (λ x. f (inr x)) s
never_mentioned p (m ∷ ms) a b c d e f (inl s) =
    by m.kind s.1 (λ x. a (inl (s.0, x))) (λ x. b (inl (s.0, x))) (λ x. c (inl (s.0, x))) (λ x. d (inl (s.0, x)))
    (λ x. e (inl (s.0, x))) (λ x. f (inl (s.0, x)))
  where
    by : (t : MentionKind) → is_origin t ≡ true → (is_value t ≡ true → ⊥) → (is_element t ≡ true → ⊥)
        → (is_begun t ≡ true → ⊥) → (is_define t ≡ true → ⊥) → (is_dotted t ≡ true → ⊥) → (is_through t ≡ true → ⊥) → ⊥
    by mention_kind.through o a b c d e f = f refl
    by mention_kind.past o a b c d e f = cc
    by mention_kind.define o a b c d e f = d refl
    by mention_kind.element o a b c d e f = b refl
    by mention_kind.dotted o a b c d e f = e refl
    by (mention_kind.value x) o a b c d e f = a refl
    by mention_kind.begun o a b c d e f = c refl
    by mention_kind.passed o a b c d e f = cc
    by (mention_kind.item x) o a b c d e f = a refl

-- ---- tables by their facts and kinds

abbrev valued_by : Option Fact → Bool
valued_by o = elim o [ None ↦ false | Some f ↦ fact.is_value_fact f ]

table_without : (o : Option Fact) → valued_by o ≡ false → is_table_fact o ≡ true
table_without None e = refl
table_without (Some fact.table) e = refl
table_without (Some (fact.string v)) e = absurd cc
table_without (Some (fact.integer v)) e = absurd cc
table_without (Some (fact.boolean v)) e = absurd cc
table_without (Some (fact.float v)) e = absurd cc
table_without (Some (fact.moment l v)) e = absurd cc
table_without (Some fact.array) e = absurd cc
table_without (Some fact.inline) e = absurd cc

moment_inline : (l : Leaf) → moment_kind l ≡ kind.Inline → ⊥
moment_inline leaf.OffsetDateTime e = absurd cc
moment_inline leaf.LocalDateTime e = absurd cc
moment_inline leaf.LocalDate e = absurd cc
moment_inline _ e = absurd cc

inline_table : (o : Option Fact) → kind_or_table o ≡ kind.Inline → is_table_fact o ≡ true
inline_table None e = absurd cc
inline_table (Some fact.table) e = absurd cc
inline_table (Some (fact.string v)) e = absurd cc
inline_table (Some (fact.integer v)) e = absurd cc
inline_table (Some (fact.boolean v)) e = absurd cc
inline_table (Some (fact.float v)) e = absurd cc
inline_table (Some (fact.moment l v)) e = absurd (moment_inline l e)
inline_table (Some fact.array) e = absurd cc
inline_table (Some fact.inline) e = refl

no_table : (o : Option Fact) → valued_by o ≡ true → (kind_or_table o ≡ kind.Inline → ⊥) → is_table_fact o ≡ false
no_table None e other = absurd cc
no_table (Some fact.table) e other = absurd cc
no_table (Some (fact.string v)) e other = refl
no_table (Some (fact.integer v)) e other = refl
no_table (Some (fact.boolean v)) e other = refl
no_table (Some (fact.float v)) e other = refl
no_table (Some (fact.moment l v)) e other = refl
no_table (Some fact.array) e other = refl
no_table (Some fact.inline) e other = absurd (other refl)

-- ---- where the holder comes from

module _ (d : ProfiledText) (path : List Part) (s : Document) (h : Holder) (read : IsTextOfTree d s)
    (held : IsHolder path s h) (info : NodeInfo) (stated : IsStated (take h.len path) s info) where
  abbrev a : List Part
  a = take h.len path

  abbrev ms : List Mention
  ms = mentions_in s

  place_is : origin_of a s ≡ info.origin
  place_is = sym (ap (λ (i : NodeInfo). i.origin) stated.is)

  kind_is : info.kind ≡ kind_at a ms
  kind_is = ap (λ (i : NodeInfo). i.kind) stated.is ∙ kind_stated a s

  aimed : (at : Spot) → is_table a ms ≡ true → IsKeyvalSpot a s h.base at
      → IsKeyvalAimed (holder path ms) s h.base (Ok at)
  aimed at table here = subst (λ (q : List Part). IsKeyvalAimed q s h.base (Ok at)) (sym held.prefix) (table, here)

  refused : is_table a ms ≡ false → IsKeyvalAimed (holder path ms) s h.base (Err fault.NotTable)
  refused e = subst (λ (q : List Part). IsKeyvalAimed q s h.base (Err fault.NotTable)) (sym held.prefix) (refl, e)

  -- no dots lead to it: it is its own base
  own_base : is_dotted_origin info.origin ≡ false → h.base ≡ length a
  own_base e = elim (cases_lt h.base h.len) [
    | inl low ↦
        (let k : true ≡ false = sym (held.walk.dots h.len low (omega arith)) ∙ ap is_dotted_origin place_is ∙ e in
        absurd cc)
    | inr high ↦ omega (arith, high, held.walk.based, length-take-le h.len path held.walk.within)
  ]

  table_of : is_table_origin info.origin ≡ true → is_table a ms ≡ true
  table_of e =
      let (no_value, no_element) =
      table_fits (value_number_of a s) (last_number is_element statement_number (numbered_at a (numbered_in s)))
      (last_number is_begun statement_number (numbered_at a (numbered_in s)))
      (last_number is_define statement_number (numbered_at a (numbered_in s)))
      (last_number is_dotted value_number (numbered_at a (numbered_in s)))
      (last_number is_through statement_number (numbered_at a (numbered_in s)))
      (ap is_table_origin place_is ∙ e) in
      let table : is_table_fact (fact_at a ms) ≡ true =
      table_without (fact_at a ms) (none_of_number a s read.obeys no_value) in
      let flat : has is_element a ms ≡ false = none_of a s read.obeys is_element statement_number no_element in
      ap (λ (b : Bool). b && not (has is_element a ms)) table ∙ ap not flat

  pub root_spot : info.origin ≡ origin.Root → IsKeyvalAimed (holder path ms) s h.base (Ok (spot.AfterBody None))
  root_spot e =
      let empty : a ≡ [] = by a refl (a_node a ms h.id.0 held.walk.node) in
      aimed (spot.AfterBody None) (table_of (ap is_table_origin e))
      (empty, own_base (ap is_dotted_origin e) ∙ ap length empty)
    where
      by : (q : List Part) → take h.len path ≡ q → is_node q (mentions_in s) ≡ true → q ≡ []
      by [] k node = refl
      by (p ∷ ps) k node = absurd (never_mentioned (p ∷ ps) (mentions_in s)
          (unsaid_of_none is_value value_number (p ∷ ps) s none.value)
          (unsaid_of_none is_element statement_number (p ∷ ps) s none.element)
          (unsaid_of_none is_begun statement_number (p ∷ ps) s none.begun)
          (unsaid_of_none is_define statement_number (p ∷ ps) s none.define)
          (unsaid_of_none is_dotted value_number (p ∷ ps) s none.dotted)
          (unsaid_of_none is_through statement_number (p ∷ ps) s none.through)
          (origin_mentioned s (p ∷ ps) node))
        where
          none : IsUnsaid (value_number_of (p ∷ ps) s)
              (last_number is_element statement_number (numbered_at (p ∷ ps) (numbered_in s)))
              (last_number is_begun statement_number (numbered_at (p ∷ ps) (numbered_in s)))
              (last_number is_define statement_number (numbered_at (p ∷ ps) (numbered_in s)))
              (last_number is_dotted value_number (numbered_at (p ∷ ps) (numbered_in s)))
              (last_number is_through statement_number (numbered_at (p ∷ ps) (numbered_in s)))
          none = root_fits _ _ _ _ _ _ (ap (λ (q : List Part). origin_of q s) (sym k) ∙ place_is ∙ e)

  pub header_spot : (n : ℕ) → info.origin ≡ origin.Header n
      → IsKeyvalAimed (holder path ms) s h.base (Ok (spot.AfterBody (Some n)))
  header_spot n e =
      aimed (spot.AfterBody (Some n)) (table_of (ap is_table_origin e))
      (inl (place_is ∙ e), own_base (ap is_dotted_origin e))

  pub element_spot : (n : ℕ) → info.origin ≡ origin.Element n
      → IsKeyvalAimed (holder path ms) s h.base (Ok (spot.AfterBody (Some n)))
  element_spot n e =
      aimed (spot.AfterBody (Some n)) (table_of (ap is_table_origin e))
      (inr (place_is ∙ e), own_base (ap is_dotted_origin e))

  pub through_spot : (n : ℕ) → info.origin ≡ origin.Through n
      → IsKeyvalAimed (holder path ms) s h.base (Ok (spot.NewSection n))
  through_spot n e =
      aimed (spot.NewSection n) (table_of (ap is_table_origin e)) (place_is ∙ e, own_base (ap is_dotted_origin e))

  -- ---- by dots

  taken : (n : ℕ) → n ≤ h.len → take n a ≡ take n path
  taken n low = take-take n h.len path low

  base_is : IsBase a s h.base
  base_is = record {
    within = omega (arith, held.walk.based, length-take-le h.len path held.walk.within);
    base = ap (λ (q : List Part). is_dotted_origin (origin_of q s)) (taken h.base held.walk.based) ∙ held.walk.base;
    dots = λ n low high. (let near : n ≤ h.len = omega (arith, high, length-take-le h.len path held.walk.within) in
        ap (λ (q : List Part). is_dotted_origin (origin_of q s)) (taken n near) ∙ held.walk.dots n low near);
  }

  value_origin : (o : Origin) → true ≡ is_value_origin o → (b : ℕ) × (o ≡ origin.Value b)
  value_origin (origin.Value b) e = (b, refl)
  value_origin origin.Root e = absurd cc
  value_origin origin.Tables e = absurd cc
  value_origin (origin.Element n) e = absurd cc
  value_origin (origin.Header n) e = absurd cc
  value_origin (origin.Dotted n) e = absurd cc
  value_origin (origin.Through n) e = absurd cc

  no_value : (x b c d e f : Option ℕ) → false ≡ is_value_origin (first x b c d e f) → x ≡ None
  no_value None b c d e f h = refl
  no_value (Some v) b c d e f h = absurd cc

  pub braces_dotted : (v : ℕ) → info.origin ≡ origin.Dotted v → h.braced ≡ true
      → IsKeyvalAimed (holder path ms) s h.base (Ok (spot.AfterEntry v))
  braces_dotted v e yes_braced =
      let (b, is) = value_origin (origin_of (take h.base path) s) (sym yes_braced ∙ held.walk.braced) in
      aimed (spot.AfterEntry v) (table_of (ap is_table_origin e))
      (inr (b, place_is ∙ e, base_is, ap (λ (q : List Part). origin_of q s) (taken h.base held.walk.based) ∙ is))

  pub line_dotted : (v : ℕ) → info.origin ≡ origin.Dotted v → h.braced ≡ false
      → IsKeyvalAimed (holder path ms) s h.base (Ok (spot.AfterLine v))
  line_dotted v e not_braced =
      aimed (spot.AfterLine v) (table_of (ap is_table_origin e)) (
        place_is ∙ e,
        base_is,
        ap (λ (q : List Part). value_number_of q s) (taken h.base held.walk.based)
            ∙ no_value (value_number_of (take h.base path) s) _ _ _ _ _ (sym not_braced ∙ held.walk.braced),
      )

  -- ---- values, and arrays of tables

  valued : (v : ℕ) → info.origin ≡ origin.Value v → has_value a ms ≡ true
  valued v e = has_of_number a s v read.obeys (value_fits (value_number_of a s) _ _ _ _ _ v (place_is ∙ e))

  pub braces_aimed : (v : ℕ) (values : List ValueInfo) → values ≡ syntax.values s → info.origin ≡ origin.Value v
      → info.kind ≡ kind.Inline
      → IsKeyvalAimed (holder path ms) s h.base (Ok (spot_in_braces v (last_keyval_among v values)))
  braces_aimed v values same e k =
      by (has is_element a ms) refl (kind_is) (last_keyval_among v values) (ap (last_keyval_among v) same)
    where
      table : (b : Bool) → has is_element (take h.len path) (mentions_in s) ≡ b
          → (if b then kind.Tables else kind_or_table (fact_at (take h.len path) (mentions_in s))) ≡ kind.Inline
          → is_table (take h.len path) (mentions_in s) ≡ true
      table true g t = absurd cc
      table false g t =
          ap (λ (c : Bool). c && not (has is_element (take h.len path) (mentions_in s)))
          (inline_table (fact_at (take h.len path) (mentions_in s)) t) ∙ ap not g

      by : (b : Bool) → has is_element (take h.len path) (mentions_in s) ≡ b
          → info.kind ≡ kind_at (take h.len path) (mentions_in s) → (o : Option ℕ) → o ≡ last_keyval_of v s
          → IsKeyvalAimed (holder path (mentions_in s)) s h.base (Ok (spot_in_braces v o))
      by b g t (Some n) last =
          aimed (spot.AfterEntry n) (table (has is_element (take h.len path) (mentions_in s)) refl (sym t ∙ k))
          (inl (v, place_is ∙ e, own_base (ap is_dotted_origin e), sym last))
      by b g t None last =
          aimed (spot.InEmpty v) (table (has is_element (take h.len path) (mentions_in s)) refl (sym t ∙ k))
          (place_is ∙ e, own_base (ap is_dotted_origin e), sym last)

  pub value_refused : (v : ℕ) → info.origin ≡ origin.Value v → (info.kind ≡ kind.Inline → ⊥)
      → IsKeyvalAimed (holder path ms) s h.base (Err fault.NotTable)
  value_refused v e other = refused (by (has is_element a ms) refl (λ k. other (kind_is ∙ k)))
    where
      by : (b : Bool) → has is_element (take h.len path) (mentions_in s) ≡ b
          → ((if has is_element (take h.len path) (mentions_in s) then kind.Tables else kind_or_table
          (fact_at (take h.len path) (mentions_in s))) ≡ kind.Inline → ⊥)
          → is_table (take h.len path) (mentions_in s) ≡ false
      by true g differs =
          and_not (is_table_fact (fact_at (take h.len path) (mentions_in s)))
          (has is_element (take h.len path) (mentions_in s)) g
        where
          and_not : (x y : Bool) → y ≡ true → (x && not y) ≡ false
          and_not true y t = ap not t
          and_not false y t = refl
      by false g differs = ap (λ (c : Bool). c && not (has is_element (take h.len path) (mentions_in s)))
          (no_table (fact_at (take h.len path) (mentions_in s)) (valued v e)
          (λ k. differs (ap (λ (c : Bool).
          if c then kind.Tables else kind_or_table (fact_at (take h.len path) (mentions_in s))) g ∙ k)))

  pub tables_refused : info.origin ≡ origin.Tables → IsKeyvalAimed (holder path ms) s h.base (Err fault.NotTable)
  tables_refused e =
      let (i, is) =
      tables_fit (value_number_of a s) (last_number is_element statement_number (numbered_at a (numbered_in s))) _ _ _ _
      (place_is ∙ e) in
      refused (and_not (is_table_fact (fact_at a ms)) (has is_element a ms)
      (has_of a s read.obeys is_element statement_number i is))
    where
      and_not : (x y : Bool) → y ≡ true → (x && not y) ≡ false
      and_not true y t = ap not t
      and_not false y t = refl
