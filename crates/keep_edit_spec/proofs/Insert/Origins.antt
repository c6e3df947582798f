-- What the origin of a node tells of what is said at its path.
--
-- An origin is the first that fits of six numbers, each of which is known exactly if such a thing is said of the path
-- (`mention_with_number`, `unsaid_of_none`). So `Header` and `Element` tell of a header, and `Dotted` and `Through`
-- that no header defines or begins the node. What headers and dots name ends in a key, so it is not the root.
--
-- Theorems: `headed_of_header`, `headed_of_element`, `headed_one`, `dotted_node`, `through_node`.
use Rattle.std.proofs.Common.{◌≡◌, ℕ, Bool, true, false, List, [], ◌∷◌, ◌++◌, map, refl, sym, ap, subst, ◌∙◌, Option}
use Rattle.std.proofs.Common.{Some, None, ◌⊎◌, inl, inr}
use Rattle.keep_types.proofs.Shared.{one_of_two}
use Rattle.std.specs.Prelude.{fold, if◌then◌else◌}
use Rattle.std.specs.Option.{option_map}
use Rattle.std.proofs.lemmas.Bool.{and_parts}
use Rattle.keep_syntax.specs.Tree.{Written, Gap, Content, blank, keyval, header, element, Line, Document}
use Rattle.keep_path.specs.Path.{Part, index, same_path}
use Rattle.keep_types.specs.declared.node.Origin.{Origin}
use Rattle.keep_types.specs.declared.node.Origin.TheVariants as origin
use Rattle.keep_meaning.specs.Marks.{MentionKind, through, define, dotted, Mention, Reading, start, header_path}
use Rattle.keep_meaning.specs.Marks.{elements_of}
use Rattle.keep_meaning.specs.Meaning.{keys_of, key_value, further_value, after_line, lines, mentions_in}
use Rattle.keep_meaning.specs.Counts.{Count, Numbered, is_value, numbered_in}
use Rattle.keep_meaning.specs.Nodes.{is_at, numbered_at, mention_of, last_number, statement_number, value_number}
use Rattle.keep_meaning.specs.Nodes.{first_that_fits, mentioned_origin, is_define, is_begun, is_dotted, is_element}
use Rattle.keep_meaning.specs.Nodes.{is_through}
use Rattle.keep_meaning.proofs.Shared.{mentions-numbered_in}
use Rattle.keep_edit_spec.specs.Lines.{last_line, begins, is_header}
use Rattle.keep_edit_spec.proofs.Common.Runs.{AllOf, SomeOf, same_path-sound, same_path-refl}
use Rattle.keep_edit_spec.proofs.Common.BodyEnd.{IsLast, last_found}
use Rattle.keep_edit_spec.proofs.Common.Doubles.{IsMentioned}
use Rattle.keep_edit_spec.proofs.Common.FromMarks.{IsFormed, Formed}
use Rattle.keep_edit_spec.proofs.Common.FromMarksLines.{formed_lines, path_ends}
use Rattle.keep_edit_spec.proofs.Common.LineLaws.{EndsInKey, never_root}
use Rattle.keep_edit_spec.proofs.Common.TableThere.{some_begins}
use Rattle.keep_edit_spec.proofs.Common.ValueThere.{IsSome}
use Rattle.keep_edit_spec.proofs.Remove.ElementThere as element_there
use Rattle.keep_edit_spec.proofs.Remove.RemoveRefusal.{lines_begun, never_begun}
use Rattle.keep_edit_spec.proofs.Remove.RemoveSectionPlace.{IsHeaded}

-- ---- a number is known exactly of what is said

module _ (is : MentionKind → Bool) (number : Count → ℕ) (path : List Part) where
  abbrev known_after : Option ℕ → Numbered → Option ℕ
  known_after known n = if is n.mention.kind then Some (number n.before) else known

  abbrev last_from : Option ℕ → List Numbered → Option ℕ
  last_from known ns = fold known_after known (numbered_at path ns)

  last_past : (known : Option ℕ) (n : Numbered) (ns : List Numbered) → is_at path n.mention ≡ false
      → last_from known (n ∷ ns) ≡ last_from known ns
  last_past known n ns e = rw e refl

  last_at : (known : Option ℕ) (n : Numbered) (ns : List Numbered) (b : Bool) → is_at path n.mention ≡ true
      → is n.mention.kind ≡ b → last_from known (n ∷ ns) ≡ last_from (if b then Some (number n.before) else known) ns
  last_at known n ns b e k = by e ∙ ap (λ (c : Bool). last_from (if c then Some (number n.before) else known) ns) k
    where
      by : is_at path n.mention ≡ true → last_from known (n ∷ ns) ≡ last_from (known_after known n) ns
      by e = rw e refl

  mentioned_from : (x : ℕ) (known : Option ℕ) (ns : List Numbered) → last_from known ns ≡ Some x
      → (known ≡ Some x) ⊎ SomeOf (IsMentioned is path) (map mention_of ns)
  mentioned_from x known [] e = inl e
  mentioned_from x known (n ∷ ns) e =
      by (is_at path n.mention) refl (is n.mention.kind) refl (λ k. mentioned_from x k ns)
    where
      by : (b : Bool) → is_at path n.mention ≡ b → (c : Bool) → is n.mention.kind ≡ c
          → ((k : Option ℕ) → last_from k ns ≡ Some x → (k ≡ Some x) ⊎ SomeOf (IsMentioned is path) (map mention_of ns))
          → (known ≡ Some x) ⊎ SomeOf (IsMentioned is path) (map mention_of (n ∷ ns))
      by false at c k more =
          elim (more known (sym (last_past known n ns at) ∙ e)) [ inl h ↦ inl h | inr h ↦ inr (inr h) ]
      by true at true k more = inr (inl (same_path-sound n.mention.path path at, k))
      by true at false k more =
          elim (more known (sym (last_at known n ns false at k) ∙ e)) [ inl h ↦ inl h | inr h ↦ inr (inr h) ]

  preserved : (x : ℕ) (ns : List Numbered) → last_from (Some x) ns ≡ None → ⊥
  preserved x [] e = absurd cc
  preserved x (n ∷ ns) e = by (is_at path n.mention) refl (is n.mention.kind) refl (λ y. preserved y ns)
    where
      by : (b : Bool) → is_at path n.mention ≡ b → (c : Bool) → is n.mention.kind ≡ c
          → ((y : ℕ) → last_from (Some y) ns ≡ None → ⊥) → ⊥
      by false at c k more = more x (sym (last_past (Some x) n ns at) ∙ e)
      by true at true k more = more (number n.before) (sym (last_at (Some x) n ns true at k) ∙ e)
      by true at false k more = more x (sym (last_at (Some x) n ns false at k) ∙ e)

  none_from : (ns : List Numbered) → last_from None ns ≡ None → SomeOf (IsMentioned is path) (map mention_of ns) → ⊥
  none_from [] e s = s
  none_from (n ∷ ns) e s = by (is_at path n.mention) refl (is n.mention.kind) refl s (none_from ns)
    where
      by : (b : Bool) → is_at path n.mention ≡ b → (c : Bool) → is n.mention.kind ≡ c
          → SomeOf (IsMentioned is path) (map mention_of (n ∷ ns))
          → (last_from None ns ≡ None → SomeOf (IsMentioned is path) (map mention_of ns) → ⊥) → ⊥
      by false at c k (inl h) more =
          let here : is_at path n.mention ≡ true = ap (λ (q : List Part). same_path q path) h.0 ∙ same_path-refl path in
          absurd cc
      by false at c k (inr h) more = more (sym (last_past None n ns at) ∙ e) h
      by true at true k h more = preserved (number n.before) ns (sym (last_at None n ns true at k) ∙ e)
      by true at false k (inl h) more = let yes : is n.mention.kind ≡ true = h.1 in absurd cc
      by true at false k (inr h) more = more (sym (last_at None n ns false at k) ∙ e) h

pub mention_with_number : (is : MentionKind → Bool) (number : Count → ℕ) (path : List Part) (s : Document) (x : ℕ)
    → last_number is number (numbered_at path (numbered_in s)) ≡ Some x → SomeOf (IsMentioned is path) (mentions_in s)
mention_with_number is number path s x e =
    let first : last_from is number path None (numbered_in s) ≡ Some x = e in
    elim (mentioned_from is number path x None (numbered_in s) first) [
      | inl k ↦ absurd cc
      | inr h ↦ subst (SomeOf (IsMentioned is path)) (mentions-numbered_in s) h
    ]

pub unsaid_of_none : (is : MentionKind → Bool) (number : Count → ℕ) (path : List Part) (s : Document)
    → last_number is number (numbered_at path (numbered_in s)) ≡ None → SomeOf (IsMentioned is path) (mentions_in s) → ⊥
unsaid_of_none is number path s e h =
    none_from is number path (numbered_in s) e (subst (SomeOf (IsMentioned is path)) (sym (mentions-numbered_in s)) h)

-- ---- the first that fits

abbrev origin_from : (a b c d e f : Option ℕ) → Origin
origin_from a b c d e f =
    first_that_fits (option_map origin.Value a ∷ option_map (λ i. origin.Tables) b ∷ option_map origin.Element c
    ∷ option_map origin.Header d ∷ option_map origin.Dotted e ∷ option_map origin.Through f ∷ [])

header_from : (a b c d e f : Option ℕ) (n : ℕ) → origin_from a b c d e f ≡ origin.Header n → d ≡ Some n
header_from (Some i) b c d e f n h = absurd cc
header_from None (Some i) c d e f n h = absurd cc
header_from None None (Some i) d e f n h = absurd cc
header_from None None None (Some i) e f n h = let same : i ≡ n = cc in ap Some same
header_from None None None None (Some i) f n h = absurd cc
header_from None None None None None (Some i) n h = absurd cc
header_from None None None None None None n h = absurd cc

element_from : (a b c d e f : Option ℕ) (n : ℕ) → origin_from a b c d e f ≡ origin.Element n → c ≡ Some n
element_from (Some i) b c d e f n h = absurd cc
element_from None (Some i) c d e f n h = absurd cc
element_from None None (Some i) d e f n h = let same : i ≡ n = cc in ap Some same
element_from None None None (Some i) e f n h = absurd cc
element_from None None None None (Some i) f n h = absurd cc
element_from None None None None None (Some i) n h = absurd cc
element_from None None None None None None n h = absurd cc

record IsDottedFrom (a c d e : Option ℕ) (n : ℕ) : Type 0 where
  value : a ≡ None
  element : c ≡ None
  header : d ≡ None
  dotted : e ≡ Some n

dotted_from : (a b c d e f : Option ℕ) (n : ℕ) → origin_from a b c d e f ≡ origin.Dotted n → IsDottedFrom a c d e n
dotted_from (Some i) b c d e f n h = absurd cc
dotted_from None (Some i) c d e f n h = absurd cc
dotted_from None None (Some i) d e f n h = absurd cc
dotted_from None None None (Some i) e f n h = absurd cc
dotted_from None None None None (Some i) f n h =
    let same : i ≡ n = cc in record { value = refl; element = refl; header = refl; dotted = ap Some same }
dotted_from None None None None None (Some i) n h = absurd cc
dotted_from None None None None None None n h = absurd cc

record IsThroughFrom (c d e f : Option ℕ) (n : ℕ) : Type 0 where
  element : c ≡ None
  header : d ≡ None
  dotted : e ≡ None
  through : f ≡ Some n

through_from : (a b c d e f : Option ℕ) (n : ℕ) → origin_from a b c d e f ≡ origin.Through n → IsThroughFrom c d e f n
through_from (Some i) b c d e f n h = absurd cc
through_from None (Some i) c d e f n h = absurd cc
through_from None None (Some i) d e f n h = absurd cc
through_from None None None (Some i) e f n h = absurd cc
through_from None None None None (Some i) f n h = absurd cc
through_from None None None None None (Some i) n h =
    let same : i ≡ n = cc in record { element = refl; header = refl; dotted = refl; through = ap Some same }
through_from None None None None None None n h = absurd cc

-- where no value, no header and no element is mentioned, but a dotted key is
pub dotted_first : (a b c d e f : Option ℕ) (n : ℕ) → a ≡ None → b ≡ None → c ≡ None → d ≡ None → e ≡ Some n
    → origin_from a b c d e f ≡ origin.Dotted n
dotted_first a b c d e f n ha hb hc hd he = rw (ha, hb, hc, hd, he) refl

-- ---- of a document's node

abbrev pub origin_at : List Part → Document → Origin
origin_at path s = mentioned_origin (numbered_at path (numbered_in s))

abbrev pub stated : (MentionKind → Bool) → (Count → ℕ) → List Part → Document → Option ℕ
stated is number path s = last_number is number (numbered_at path (numbered_in s))

-- a header defines the table, or begins the element
pub headed_of_header : (path : List Part) (s : Document) (n : ℕ) → origin_at path s ≡ origin.Header n
    → IsHeaded path s n
headed_of_header path s n h =
    inl (header_from (stated is_value value_number path s) (stated is_element statement_number path s)
    (stated is_begun statement_number path s) (stated is_define statement_number path s)
    (stated is_dotted value_number path s) (stated is_through statement_number path s) n h)

pub headed_of_element : (path : List Part) (s : Document) (n : ℕ) → origin_at path s ≡ origin.Element n
    → IsHeaded path s n
headed_of_element path s n h =
    inr (element_from (stated is_value value_number path s) (stated is_element statement_number path s)
    (stated is_begun statement_number path s) (stated is_define statement_number path s)
    (stated is_dotted value_number path s) (stated is_through statement_number path s) n h)

-- nothing has a header, and this is stated
pub record IsDottedNode (path : List Part) (s : Document) (n : ℕ) : Type 0 where
  pub number : last_number is_dotted value_number (numbered_at path (numbered_in s)) ≡ Some n
  pub value : last_number is_value value_number (numbered_at path (numbered_in s)) ≡ None
  pub header : SomeOf (IsMentioned is_define path) (mentions_in s) → ⊥
  pub element : SomeOf (IsMentioned is_begun path) (mentions_in s) → ⊥

pub dotted_node : (path : List Part) (s : Document) (n : ℕ) → origin_at path s ≡ origin.Dotted n → IsDottedNode path s n
dotted_node path s n h =
    let k = dotted_from (stated is_value value_number path s) (stated is_element statement_number path s)
    (stated is_begun statement_number path s) (stated is_define statement_number path s)
    (stated is_dotted value_number path s) (stated is_through statement_number path s) n h in
    record {
      number = k.dotted;
      value = k.value;
      header = unsaid_of_none is_define statement_number path s k.header;
      element = unsaid_of_none is_begun statement_number path s k.element;
    }

pub record IsThroughNode (path : List Part) (s : Document) (n : ℕ) : Type 0 where
  pub number : last_number is_through statement_number (numbered_at path (numbered_in s)) ≡ Some n
  pub header : SomeOf (IsMentioned is_define path) (mentions_in s) → ⊥
  pub element : SomeOf (IsMentioned is_begun path) (mentions_in s) → ⊥
  pub dotted : SomeOf (IsMentioned is_dotted path) (mentions_in s) → ⊥

pub through_node : (path : List Part) (s : Document) (n : ℕ) → origin_at path s ≡ origin.Through n
    → IsThroughNode path s n
through_node path s n h =
    let k = through_from (stated is_value value_number path s) (stated is_element statement_number path s)
    (stated is_begun statement_number path s) (stated is_define statement_number path s)
    (stated is_dotted value_number path s) (stated is_through statement_number path s) n h in
    record {
      number = k.through;
      header = unsaid_of_none is_define statement_number path s k.header;
      element = unsaid_of_none is_begun statement_number path s k.element;
      dotted = unsaid_of_none is_dotted value_number path s k.dotted;
    }

-- ---- paths that end in a key

-- said by a key part that no element is at
abbrev by_key : MentionKind → Bool
by_key through = true
by_key define = true
by_key dotted = true
by_key _ = false

formed_ends : (a : MentionKind) (p : List Part) → by_key a ≡ true → IsFormed a p → EndsInKey p
formed_ends through p h f = f
formed_ends define p h f = f
formed_ends dotted p h f = f
formed_ends other p h f = absurd cc

some_ends : (is : MentionKind → Bool) → ((a : MentionKind) → is a ≡ true → by_key a ≡ true)
    → (p : List Part) (ms : List Mention) → AllOf Formed ms → SomeOf (IsMentioned is p) ms → EndsInKey p
some_ends is keyed p [] f s = absurd s
some_ends is keyed p (m ∷ ms) f (inl s) = subst EndsInKey s.0 (formed_ends m.kind m.path (keyed m.kind s.1) f.0)
some_ends is keyed p (m ∷ ms) f (inr s) = some_ends is keyed p ms f.1 s

dotted_keyed : (a : MentionKind) → is_dotted a ≡ true → by_key a ≡ true
dotted_keyed dotted h = refl
dotted_keyed other h = absurd cc

through_keyed : (a : MentionKind) → is_through a ≡ true → by_key a ≡ true
through_keyed through h = refl
through_keyed other h = absurd cc

pub dotted_ends : (p : List Part) (s : Document) → SomeOf (IsMentioned is_dotted p) (mentions_in s) → EndsInKey p
dotted_ends p s h = some_ends is_dotted dotted_keyed p (mentions_in s) (formed_lines start (lines s)) h

pub through_ends : (p : List Part) (s : Document) → SomeOf (IsMentioned is_through p) (mentions_in s) → EndsInKey p
through_ends p s h = some_ends is_through through_keyed p (mentions_in s) (formed_lines start (lines s)) h

-- the root is none
pub no_root : EndsInKey [] → ⊥
no_root ends = never_root [] ends ([], refl)

begun_content : (r : Reading) (before after : Gap) (comment : Option Written) (c : Content)
    → (let l : Line = record { before = before; content = c; after = after; comment = comment } in
    is_header c ≡ true → (after_line r l).body ≡ [] → ⊥)
begun_content r before after comment blank h e = absurd cc
begun_content r before after comment (keyval name v) h e = absurd cc
begun_content r before after comment (header b k a) h e =
    no_root (subst EndsInKey e (path_ends r.tables [] (key_value k.first) (map further_value k.more)))
begun_content r before after comment (element b k a) h e =
    longer (header_path r.tables [] (keys_of k)) (index (elements_of (header_path r.tables [] (keys_of k)) r.tables)) e
  where
    longer : (p : List Part) (x : Part) → p ++ x ∷ [] ≡ [] → ⊥
    longer [] x e = absurd cc
    longer (y ∷ p) x e = absurd cc

-- no header begins the root's body
pub no_root_header : (s : Document) (i : ℕ) → last_line (begins []) start (lines s) ≡ Some i → ⊥
no_root_header s i e =
    let f : IsLast (begins []) start (lines s) i = last_found (begins []) start (lines s) i e in
    let at : List Part = (after_line _ f.here).body in
    let (one, two) = and_parts (is_header f.here.content) (same_path at []) f.passes in
    begun_content _ f.here.before f.here.after f.here.comment f.here.content one (same_path-sound at [] two)

-- ---- where a header is mentioned, some line begins the body, and its number is that of the last

pub headed_begins : (path : List Part) (s : Document) (n : ℕ) → IsHeaded path s n
    → IsSome (last_line (begins path) start (lines s))
headed_begins path s n (inl d) =
    (some_begins path start (lines s) (mention_with_number is_define statement_number path s n d)).0
headed_begins path s n (inr b) =
    element_there.some_begins path start (lines s) (mention_with_number is_begun statement_number path s n b)

-- an element is not defined by a header
not_both : (path : List Part) (s : Document) (a b : ℕ)
    → last_number is_define statement_number (numbered_at path (numbered_in s)) ≡ Some a
    → last_number is_begun statement_number (numbered_at path (numbered_in s)) ≡ Some b → ⊥
not_both path s a b d e =
    let ends : EndsInKey path =
    (some_begins path start (lines s) (mention_with_number is_define statement_number path s a d)).1 in
    never_begun path (mentions_in s) (lines_begun path ends start (lines s))
    (mention_with_number is_begun statement_number path s b e)

pub headed_one : (path : List Part) (s : Document) (a b : ℕ) → IsHeaded path s a → IsHeaded path s b → a ≡ b
headed_one path s a b (inl d) (inl e) = one_of_two _ a b d e
headed_one path s a b (inr d) (inr e) = one_of_two _ a b d e
headed_one path s a b (inl d) (inr e) = absurd (not_both path s a b d e)
headed_one path s a b (inr d) (inl e) = absurd (not_both path s b a e d)
