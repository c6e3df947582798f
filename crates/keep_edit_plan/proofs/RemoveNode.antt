-- What is known of a node tells whether `remove` is refused, and what it takes hold of.
--
-- The index says where a node comes from and how many marks name it; the refusal speaks of all mentions at its path. A
-- number that is stated means that there is such a mention, and none means that there is not (`has_of`, `none_of`). So
-- the origin decides by cases: a value is one piece, a table or an element is one piece where nothing else enters it,
-- and every other node is scattered. The hard case is a table: it may be removed where its header is its only mark. For
-- that, `beside_define` shows, over the kinds of mentions at one path, that all other marks there are headers through
-- it.
--
-- Theorems: `value_piece`, `table_alone`, `table_shared`, `element_alone`, `element_shared`, `other_scattered`: the
-- answer by the origin of the node; `no_removal` where there is no node.
use Rattle.std.proofs.Common.{◌≡◌, ℕ, zero, suc, ◌+◌, Bool, true, false, cond, not, ◌&&◌, ◌||◌, ◌==◌, List, [], ◌∷◌}
use Rattle.std.proofs.Common.{◌++◌, map, length, refl, sym, ap, subst, ◌∙◌, arith, Option, Some, None, Ok, Err, ◌⊎◌}
use Rattle.std.proofs.Common.{inl, inr}
use Rattle.std.specs.Prelude.{filter, fold, if◌then◌else◌}
use Rattle.std.specs.List.{list_any, count_by}
use Rattle.std.specs.Option.{option_map}
use Rattle.std.proofs.lemmas.List.Sums.{sum_by-append}
use Rattle.keep_types.specs.declared.leaf.Profile.{Profile}
use Rattle.keep_syntax.specs.Tree.{Written, Gap, Content, blank, keyval, header, element, Line, Document}
use Rattle.keep_types.specs.declared.node.NodeInfo.{NodeInfo}
use Rattle.keep_types.specs.declared.node.Origin.{Origin}
use Rattle.keep_types.specs.declared.node.Origin.TheVariants as origin
use Rattle.keep_path.specs.Path.{Part, key, index}
use Rattle.keep_meaning.specs.Rules.{ObeysRules}
use Rattle.keep_meaning.specs.Marks as marks_of
use Rattle.keep_meaning.specs.Marks.{MentionKind, through, past, define, dotted, value, begun, passed, item, Mention}
use Rattle.keep_meaning.specs.Marks.{Reading, start, marks, elements_of, entered_path, passing_mentions, header_path}
use Rattle.keep_meaning.specs.Marks.{header_prefixes, below}
use Rattle.keep_meaning.specs.Meaning.{key_value, further_value, keys_of, keyval_mentions, line_mentions, after_line}
use Rattle.keep_meaning.specs.Meaning.{lines_mentions, lines, mentions_in}
use Rattle.keep_meaning.specs.Counts.{Count, Numbered, is_mark, numbered_in}
use Rattle.keep_meaning.specs.Nodes.{is_at, kinds_at, is_root, is_node, has, is_through, is_define, is_element}
use Rattle.keep_meaning.specs.Nodes.{is_dotted, is_begun, is_passed, numbered_at, mention_kind_of, last_number}
use Rattle.keep_meaning.specs.Nodes.{value_number, statement_number, first_that_fits, mentioned_origin}
use Rattle.keep_meaning.proofs.Shared.{mentions-numbered_in}
use Rattle.keep_edit_spec.specs.declared.fault.EditFault.TheVariants as fault
use Rattle.keep_edit_spec.specs.Edits.{remove}
use Rattle.keep_edit_spec.specs.Refusals.{refusal, first_that_holds, has_value, is_one_piece}
use Rattle.keep_edit_spec.proofs.Shared.{AllOf, SomeOf, Pairs, all_join, Allowed, Rules, kinds_allow, same_path-sound}
use Rattle.keep_edit_spec.proofs.Shared.{rules_of_document, EndsInKey, path_ends, IsMentioned, has_some}
use Rattle.keep_edit_spec.proofs.Shared.{mentioned_below, mentions_keyval, some_cases, has_of_number, none_of_number}
use Rattle.keep_edit_spec.proofs.Shared.{lines_begun, never_begun, defined_ends}
use Rattle.keep_edit_plan.specs.Reading.{limit}
use Rattle.keep_edit_plan.specs.Answers.{value_number_of}
use Rattle.keep_edit_plan.specs.Removing.{IsRemovalOf}
use Rattle.keep_edit_plan.specs.declared.remove.Piece.TheVariants as piece
use Rattle.keep_edit_plan.proofs.FoundLaws.{IsStated, number_found}
use Rattle.keep_edit_plan.proofs.NodeLaws.{mentions_numbered}

-- ---- numbers that are stated

abbrev known_by : (MentionKind → Bool) → (Count → ℕ) → Option ℕ → Numbered → Option ℕ
known_by is number known n = if is n.mention.kind then Some (number n.before) else known

preserved_some : (is : MentionKind → Bool) (number : Count → ℕ) (x : ℕ) (ns : List Numbered)
    → fold (known_by is number) (Some x) ns ≡ None → ⊥
preserved_some is number x [] e = absurd cc
preserved_some is number x (n ∷ ns) e = by (is n.mention.kind) (λ y. preserved_some is number y ns) e
  where
    by : (b : Bool) → ((y : ℕ) → fold (known_by is number) (Some y) ns ≡ None → ⊥)
        → fold (known_by is number) (if b then Some (number n.before) else Some x) ns ≡ None → ⊥
    by true more e = more (number n.before) e
    by false more e = more x e

-- none is stated where no such thing is said
none_stated : (is : MentionKind → Bool) (number : Count → ℕ) (ns : List Numbered) → last_number is number ns ≡ None
    → list_any is (map mention_kind_of ns) ≡ false
none_stated is number [] e = refl
none_stated is number (n ∷ ns) e = by (is n.mention.kind) refl (none_stated is number ns) e
  where
    by : (b : Bool) → is n.mention.kind ≡ b
        → (last_number is number ns ≡ None → list_any is (map mention_kind_of ns) ≡ false)
        → fold (known_by is number) (if b then Some (number n.before) else None) ns ≡ None
        → (b || list_any is (map mention_kind_of ns)) ≡ false
    by true k more e = absurd (preserved_some is number (number n.before) ns e)
    by false k more e = more e

preserved_any : (is : MentionKind → Bool) (number : Count → ℕ) (known : Option ℕ) (ns : List Numbered)
    → list_any is (map mention_kind_of ns) ≡ false → fold (known_by is number) known ns ≡ known
preserved_any is number known [] e = refl
preserved_any is number known (n ∷ ns) e = by (is n.mention.kind) refl (preserved_any is number known ns) e
  where
    by : (b : Bool) → is n.mention.kind ≡ b
        → (list_any is (map mention_kind_of ns) ≡ false → fold (known_by is number) known ns ≡ known)
        → (b || list_any is (map mention_kind_of ns)) ≡ false
        → fold (known_by is number) (if b then Some (number n.before) else known) ns ≡ known
    by true k more e = absurd cc
    by false k more e = more e

some_stated : (is : MentionKind → Bool) (number : Count → ℕ) (ns : List Numbered) (x : ℕ)
    → last_number is number ns ≡ Some x → list_any is (map mention_kind_of ns) ≡ true
some_stated is number ns x e = by (list_any is (map mention_kind_of ns)) refl
  where
    by : (b : Bool) → list_any is (map mention_kind_of ns) ≡ b → b ≡ true
    by true k = refl
    by false k = let h : None ≡ Some x = sym (preserved_any is number None ns k) ∙ e in absurd cc

-- ---- by the place

pub header_fits : (a b c d e f : Option ℕ) (n : ℕ)
    → first_that_fits (option_map origin.Value a ∷ option_map (λ i. origin.Tables) b ∷ option_map origin.Element c
    ∷ option_map origin.Header d ∷ option_map origin.Dotted e ∷ option_map origin.Through f ∷ []) ≡ origin.Header n
    → (a ≡ None) × ((c ≡ None) × (d ≡ Some n))
header_fits (Some i) b c d e f n h = absurd cc
header_fits None (Some i) c d e f n h = absurd cc
header_fits None None (Some i) d e f n h = absurd cc
header_fits None None None (Some i) e f n h = let same : i ≡ n = cc in (refl, (refl, ap Some same))
header_fits None None None None (Some i) f n h = absurd cc
header_fits None None None None None (Some i) n h = absurd cc
header_fits None None None None None None n h = absurd cc

element_fits : (a b c d e f : Option ℕ) (n : ℕ)
    → first_that_fits (option_map origin.Value a ∷ option_map (λ i. origin.Tables) b ∷ option_map origin.Element c
    ∷ option_map origin.Header d ∷ option_map origin.Dotted e ∷ option_map origin.Through f ∷ []) ≡ origin.Element n
    → (a ≡ None) × (c ≡ Some n)
element_fits (Some i) b c d e f n h = absurd cc
element_fits None (Some i) c d e f n h = absurd cc
element_fits None None (Some i) d e f n h = let same : i ≡ n = cc in (refl, ap Some same)
element_fits None None None (Some i) e f n h = absurd cc
element_fits None None None None (Some i) f n h = absurd cc
element_fits None None None None None (Some i) n h = absurd cc
element_fits None None None None None None n h = absurd cc

-- neither a value's place nor a header's
abbrev pub IsOther : Origin → Type 0
IsOther (origin.Value n) = ⊥
IsOther (origin.Header n) = ⊥
IsOther (origin.Element n) = ⊥
IsOther _ = Unit {0}

other_fits : (a b c d e f : Option ℕ)
    → IsOther (first_that_fits (option_map origin.Value a ∷ option_map (λ i. origin.Tables) b
    ∷ option_map origin.Element c ∷ option_map origin.Header d ∷ option_map origin.Dotted e
    ∷ option_map origin.Through f ∷ []))
    → (a ≡ None) × (((i : ℕ) × (b ≡ Some i)) ⊎ ((c ≡ None) × (d ≡ None)))
other_fits (Some i) b c d e f h = absurd h
other_fits None (Some i) c d e f h = (refl, inl (i, refl))
other_fits None None (Some i) d e f h = absurd h
other_fits None None None (Some i) e f h = absurd h
other_fits None None None None e f h = (refl, inr (refl, refl))

-- ---- what is said of one path

abbrev Beside : MentionKind → MentionKind → Type 0
Beside a b = kinds_allow a b ≡ true

beside_all : (path : List Part) (m : Mention) (ms : List Mention) → m.path ≡ path → AllOf (Allowed m) ms
    → AllOf (Beside m.kind) (kinds_at path ms)
beside_all path m [] e h = tt
beside_all path m (x ∷ ms) e h = by (is_at path x) refl (beside_all path m ms e h.1)
  where
    by : (b : Bool) → is_at path x ≡ b → AllOf (Beside m.kind) (kinds_at path ms)
        → AllOf (Beside m.kind) (map (λ (m : Mention). m.kind)
        (cond b (x ∷ filter (is_at path) ms) (filter (is_at path) ms)))
    by true k more = (h.0 (e ∙ sym (same_path-sound x.path path k)), more)
    by false k more = more

pairs_at : (path : List Part) (ms : List Mention) → Rules ms → Pairs Beside (kinds_at path ms)
pairs_at path [] h = tt
pairs_at path (m ∷ ms) h = by (is_at path m) refl (pairs_at path ms h.1)
  where
    by : (b : Bool) → is_at path m ≡ b → Pairs Beside (kinds_at path ms)
        → Pairs Beside (map (λ (m : Mention). m.kind) (cond b (m ∷ filter (is_at path) ms) (filter (is_at path) ms)))
    by true k more = (beside_all path m ms (same_path-sound m.path path k) h.0, more)
    by false k more = more

-- beside one that defines it
define_later : (a : MentionKind) (ls : List MentionKind) → AllOf (Beside a) ls → list_any is_define ls ≡ true
    → kinds_allow a define ≡ true
define_later a [] h e = absurd cc
define_later a (define ∷ ls) h e = h.0
define_later a (through ∷ ls) h e = define_later a ls h.1 e
define_later a (past ∷ ls) h e = define_later a ls h.1 e
define_later a (marks_of.element ∷ ls) h e = define_later a ls h.1 e
define_later a (dotted ∷ ls) h e = define_later a ls h.1 e
define_later a (value f ∷ ls) h e = define_later a ls h.1 e
define_later a (begun ∷ ls) h e = define_later a ls h.1 e
define_later a (passed ∷ ls) h e = define_later a ls h.1 e
define_later a (item f ∷ ls) h e = define_later a ls h.1 e

count_step : (t : MentionKind → Bool) (q : MentionKind) (l : List MentionKind)
    → count_by t (q ∷ l) ≡ cond (t q) 1 0 + count_by t l
count_step t q l = omega (arith, sum_by-append (λ x. cond (t x) 1 0) (q ∷ []) l)

-- After it there are no marks but of headers through it, and no element.
record IsThrough (ls : List MentionKind) (n : ℕ) : Type 0 where
  many : count_by is_mark ls ≡ n + count_by is_through ls
  none : list_any is_element ls ≡ false

through_more : (ls : List MentionKind) (n : ℕ) → IsThrough ls n → IsThrough (through ∷ ls) n
through_more ls n h =
    record {
      many = omega (arith, h.many, count_step is_mark through ls, count_step is_through through ls);
      none = h.none;
    }

silent_more : (x : MentionKind) (ls : List MentionKind) (n : ℕ) → is_mark x ≡ false → is_through x ≡ false
    → is_element x ≡ false → IsThrough ls n → IsThrough (x ∷ ls) n
silent_more x ls n a b c h = record {
  many = omega (
    arith,
    h.many,
    count_step is_mark x ls,
    count_step is_through x ls,
    ap (λ (b : Bool). cond {A = ℕ} b 1 0) a,
    ap (λ (b : Bool). cond {A = ℕ} b 1 0) b,
  );
  none = ap (λ (t : Bool). t || list_any is_element ls) c ∙ h.none;
}

after_define : (ls : List MentionKind) → AllOf (Beside define) ls → IsThrough ls 0
after_define [] h = record { many = refl; none = refl }
after_define (through ∷ ls) h = through_more ls 0 (after_define ls h.1)
after_define (begun ∷ ls) h = silent_more begun ls 0 refl refl refl (after_define ls h.1)
after_define (passed ∷ ls) h = silent_more passed ls 0 refl refl refl (after_define ls h.1)
after_define (past ∷ ls) h = let k : false ≡ true = h.0 in absurd cc
after_define (define ∷ ls) h = let k : false ≡ true = h.0 in absurd cc
after_define (marks_of.element ∷ ls) h = let k : false ≡ true = h.0 in absurd cc
after_define (dotted ∷ ls) h = let k : false ≡ true = h.0 in absurd cc
after_define (value f ∷ ls) h = let k : false ≡ true = h.0 in absurd cc
after_define (item f ∷ ls) h = let k : false ≡ true = h.0 in absurd cc

beside_define : (ls : List MentionKind) → Pairs Beside ls → list_any is_define ls ≡ true → IsThrough ls 1
beside_define [] h e = absurd cc
beside_define (define ∷ ls) h e =
    let g = after_define ls h.0 in
    record {
      many = omega (arith, g.many, count_step is_mark define ls, count_step is_through define ls);
      none = g.none;
    }
beside_define (through ∷ ls) h e = through_more ls 1 (beside_define ls h.1 e)
beside_define (begun ∷ ls) h e = silent_more begun ls 1 refl refl refl (beside_define ls h.1 e)
beside_define (passed ∷ ls) h e = silent_more passed ls 1 refl refl refl (beside_define ls h.1 e)
beside_define (past ∷ ls) h e = let k : false ≡ true = define_later past ls h.0 e in absurd cc
beside_define (marks_of.element ∷ ls) h e = let k : false ≡ true = define_later marks_of.element ls h.0 e in absurd cc
beside_define (dotted ∷ ls) h e = let k : false ≡ true = define_later dotted ls h.0 e in absurd cc
beside_define (value f ∷ ls) h e = let k : false ≡ true = define_later (value f) ls h.0 e in absurd cc
beside_define (item f ∷ ls) h e = let k : false ≡ true = define_later (item f) ls h.0 e in absurd cc

no_through : (ls : List MentionKind) → count_by is_through ls ≡ 0 → list_any is_through ls ≡ false
no_through [] e = refl
no_through (x ∷ ls) e = by (is_through x) refl (no_through ls)
  where
    by : (b : Bool) → is_through x ≡ b → (count_by is_through ls ≡ 0 → list_any is_through ls ≡ false)
        → (b || list_any is_through ls) ≡ false
    by true k more = absurd (omega (arith, e, count_step is_through x ls, ap (λ (b : Bool). cond {A = ℕ} b 1 0) k))
    by false k more = more (omega (arith, e, count_step is_through x ls))

a_through : (ls : List MentionKind) (n : ℕ) → count_by is_through ls ≡ suc n → list_any is_through ls ≡ true
a_through [] n e = absurd (omega (arith, e))
a_through (x ∷ ls) n e = by (is_through x) refl (a_through ls n)
  where
    by : (b : Bool) → is_through x ≡ b → (count_by is_through ls ≡ suc n → list_any is_through ls ≡ true)
        → (b || list_any is_through ls) ≡ true
    by true k more = refl
    by false k more = more (omega (arith, e, count_step is_through x ls, ap (λ (b : Bool). cond {A = ℕ} b 1 0) k))

-- ---- an element's line names it by a key

plain_pass : (tables : List (List Part)) (q : List Part) (b : Bool)
    → AllOf (λ (m : Mention). is_element m.kind ≡ false)
    (cond b (record { path = q; kind = through } ∷ [])
    (record { path = q; kind = past } ∷ record { path = entered_path tables q; kind = passed } ∷ []))
plain_pass tables q true = (refl, tt)
plain_pass tables q false = (refl, (refl, tt))

plain_prefixes : (tables : List (List Part)) (at : List Part) (ks : List (List ℕ))
    → AllOf (λ (m : Mention). is_element m.kind ≡ false) (header_prefixes tables at ks)
plain_prefixes tables at [] = tt
plain_prefixes tables at (k ∷ []) = tt
plain_prefixes tables at (k ∷ l ∷ ks) =
    let q : List Part = at ++ key k ∷ [] in
    all_join (λ (m : Mention). is_element m.kind ≡ false) (passing_mentions tables q)
    (header_prefixes tables (entered_path tables q) (l ∷ ks)) (plain_pass tables q (0 == elements_of q tables))
    (plain_prefixes tables (entered_path tables q) (l ∷ ks))

never : (p : List Part) (ms : List Mention) → AllOf (λ (m : Mention). is_element m.kind ≡ false) ms
    → SomeOf (IsMentioned is_element p) ms → ⊥
never p [] h s = s
never p (m ∷ ms) h (inl s) = let k : false ≡ true = sym h.0 ∙ s.1 in absurd cc
never p (m ∷ ms) h (inr s) = never p ms h.1 s

content_named : (p : List Part) (r : Reading) (before after : Gap) (comment : Option Written) (c : Content)
    → SomeOf (IsMentioned is_element p)
    (line_mentions r (record { before = before; content = c; after = after; comment = comment })) → EndsInKey p
content_named p r before after comment blank s = absurd s
content_named p r before after comment (keyval name v) s =
    absurd (never p (map (below r.body) (keyval_mentions name v))
    (mentioned_below (λ (a : MentionKind). is_element a ≡ false) r.body (keyval_mentions name v)
    (mentions_keyval (λ (a : MentionKind). is_element a ≡ false)
    (record { dot = refl; held = λ f. refl; unnamed = λ f. refl }) name v)) s)
content_named p r before after comment (header b k a) s =
    absurd (never p _ (all_join (λ (m : Mention). is_element m.kind ≡ false) (header_prefixes r.tables [] (keys_of k))
    (record { path = header_path r.tables [] (keys_of k); kind = define } ∷ []) (plain_prefixes r.tables [] (keys_of k))
    (refl, tt)) s)
content_named p r before after comment (element b k a) s =
    let prefixes : List Mention = header_prefixes r.tables [] (keys_of k) in
    let at : List Part = header_path r.tables [] (keys_of k) in
    elim (some_cases (IsMentioned is_element p) prefixes
    (record { path = at; kind = marks_of.element }
    ∷ record { path = at ++ index (elements_of at r.tables) ∷ []; kind = begun } ∷ []) s) [
      | inl w ↦ absurd (never p prefixes (plain_prefixes r.tables [] (keys_of k)) w)
      | inr h ↦ (elim h [
        | inl d ↦ subst EndsInKey d.0 (path_ends r.tables [] (key_value k.first) (map further_value k.more))
        | inr g ↦ (elim g [ inl d ↦ (let k : false ≡ true = d.1 in absurd cc) | inr end ↦ absurd end ])
      ])
    ]

lines_named : (p : List Part) (r : Reading) (ls : List Line) → SomeOf (IsMentioned is_element p) (lines_mentions r ls)
    → EndsInKey p
lines_named p r [] s = absurd s
lines_named p r (l ∷ ls) s =
    elim (some_cases (IsMentioned is_element p) (line_mentions r l) (lines_mentions (after_line r l) ls) s) [
      | inl h ↦ content_named p r l.before l.after l.comment l.content h
      | inr h ↦ lines_named p (after_line r l) ls h
    ]

-- ---- the refusal

module _ (path : List Part) (s : Document) (obeys : ObeysRules (marks (mentions_in s))) where
  pub ends_never_begun : EndsInKey path → has is_begun path (mentions_in s) ≡ true → ⊥
  ends_never_begun ends b =
      never_begun path (mentions_in s) (lines_begun path ends start (lines s))
      (has_some is_begun path (mentions_in s) b)

  piece_is : (v d t b q : Bool) → has_value path (mentions_in s) ≡ v → has is_define path (mentions_in s) ≡ d
      → has is_through path (mentions_in s) ≡ t → has is_begun path (mentions_in s) ≡ b
      → has is_passed path (mentions_in s) ≡ q
      → is_one_piece path (mentions_in s) ≡ (v || ((d && not t) || (b && not q)))
  piece_is v d t b q e f g h i = rw (e, f, g, h, i) refl

  stated_mentions : map mention_kind_of (numbered_at path (numbered_in s)) ≡ kinds_at path (mentions_in s)
  stated_mentions = mentions_numbered path (numbered_in s) ∙ ap (kinds_at path) (mentions-numbered_in s)

  pub has_of : (is : MentionKind → Bool) (number : Count → ℕ) (n : ℕ)
      → last_number is number (numbered_at path (numbered_in s)) ≡ Some n → has is path (mentions_in s) ≡ true
  has_of is number n e =
      ap (list_any is) (sym stated_mentions) ∙ some_stated is number (numbered_at path (numbered_in s)) n e

  pub none_of : (is : MentionKind → Bool) (number : Count → ℕ)
      → last_number is number (numbered_at path (numbered_in s)) ≡ None → has is path (mentions_in s) ≡ false
  none_of is number e =
      ap (list_any is) (sym stated_mentions) ∙ none_stated is number (numbered_at path (numbered_in s)) e

  beside : list_any is_define (kinds_at path (mentions_in s)) ≡ true → IsThrough (kinds_at path (mentions_in s)) 1
  beside e = beside_define (kinds_at path (mentions_in s)) (pairs_at path (mentions_in s) (rules_of_document s obeys)) e

  refused_by : (profile : Profile) (b : Bool) → is_root path ≡ false → is_node path (mentions_in s) ≡ true
      → is_one_piece path (mentions_in s) ≡ b
      → refusal profile limit s (remove path) ≡ first_that_holds ((not b, fault.Scattered) ∷ [])
  refused_by profile b root node piece =
      by (is_root path) (is_node path (mentions_in s)) (is_one_piece path (mentions_in s)) root node piece
    where
      by : (r n p : Bool) → r ≡ false → n ≡ true → p ≡ b
          → first_that_holds ((not n, fault.NotFound) ∷ (r, fault.NotKey) ∷ (not p, fault.Scattered) ∷ [])
          ≡ first_that_holds ((not b, fault.Scattered) ∷ [])
      by false true p e f g = ap (λ (x : Bool). first_that_holds ((not x, fault.Scattered) ∷ [])) g
      by true n p e f g = absurd cc
      by false false p e f g = absurd cc

-- ---- what is stated

step_numbered : (t : MentionKind → Bool) (n : Numbered) (ns : List Numbered)
    → count_by (λ (n : Numbered). t n.mention.kind) (n ∷ ns) ≡ cond (t n.mention.kind) 1 0
    + count_by (λ (n : Numbered). t n.mention.kind) ns
step_numbered t n ns = omega (arith, sum_by-append (λ (x : Numbered). cond (t x.mention.kind) 1 0) (n ∷ []) ns)

count_mentions : (t : MentionKind → Bool) (ns : List Numbered)
    → count_by (λ (n : Numbered). t n.mention.kind) ns ≡ count_by t (map mention_kind_of ns)
count_mentions t [] = refl
count_mentions t (n ∷ ns) =
    step_numbered t n ns ∙ ap (λ k. cond (t n.mention.kind) 1 0 + k) (count_mentions t ns)
    ∙ sym (count_step t n.mention.kind (map mention_kind_of ns))

any_mentions : (t : MentionKind → Bool) (ns : List Numbered)
    → list_any (λ (n : Numbered). t n.mention.kind) ns ≡ list_any t (map mention_kind_of ns)
any_mentions t [] = refl
any_mentions t (n ∷ ns) = ap (λ b. t n.mention.kind || b) (any_mentions t ns)

module _ (profile : Profile) (path : List Part) (s : Document) (info : NodeInfo) (stated : IsStated path s info)
    (obeys : ObeysRules (marks (mentions_in s))) (root : is_root path ≡ false) where
  place_is : mentioned_origin (numbered_at path (numbered_in s)) ≡ info.origin
  place_is = sym (ap (λ (i : NodeInfo). i.origin) stated.is)

  marks_are : info.marks ≡ count_by is_mark (kinds_at path (mentions_in s))
  marks_are =
      ap (λ (i : NodeInfo). i.marks) stated.is ∙ count_mentions is_mark (numbered_at path (numbered_in s))
      ∙ ap (count_by is_mark) (stated_mentions path s obeys)

  passed_is : info.passed ≡ has is_passed path (mentions_in s)
  passed_is =
      ap (λ (i : NodeInfo). i.passed) stated.is ∙ any_mentions is_passed (numbered_at path (numbered_in s))
      ∙ ap (list_any is_passed) (stated_mentions path s obeys)

  allowed : is_one_piece path (mentions_in s) ≡ true → refusal profile limit s (remove path) ≡ None
  allowed e = refused_by path s obeys profile true root stated.node e

  refused : is_one_piece path (mentions_in s) ≡ false → refusal profile limit s (remove path) ≡ Some fault.Scattered
  refused e = refused_by path s obeys profile false root stated.node e

  pub value_piece : (n : ℕ) → info.origin ≡ origin.Value n → IsRemovalOf profile path s (Ok (piece.Value n))
  value_piece n e =
      let found : value_number_of path s ≡ Some n = number_found path s info n stated e in (
        allowed (ap (λ b.
            b || ((has is_define path (mentions_in s) && not (has is_through path (mentions_in s)))
            || (has is_begun path (mentions_in s) && not (has is_passed path (mentions_in s)))))
            (has_of_number path s n obeys found)),
        found,
      )

  header_facts : (n : ℕ) → info.origin ≡ origin.Header n
      → (value_number_of path s ≡ None)
      × ((last_number is_begun statement_number (numbered_at path (numbered_in s)) ≡ None)
      × (last_number is_define statement_number (numbered_at path (numbered_in s)) ≡ Some n))
  header_facts n e =
      header_fits (value_number_of path s) (last_number is_element statement_number (numbered_at path (numbered_in s)))
      (last_number is_begun statement_number (numbered_at path (numbered_in s)))
      (last_number is_define statement_number (numbered_at path (numbered_in s)))
      (last_number is_dotted value_number (numbered_at path (numbered_in s)))
      (last_number is_through statement_number (numbered_at path (numbered_in s))) n (place_is ∙ e)

  element_facts : (n : ℕ) → info.origin ≡ origin.Element n
      → (value_number_of path s ≡ None)
      × (last_number is_begun statement_number (numbered_at path (numbered_in s)) ≡ Some n)
  element_facts n e =
      element_fits (value_number_of path s) (last_number is_element statement_number (numbered_at path (numbered_in s)))
      (last_number is_begun statement_number (numbered_at path (numbered_in s)))
      (last_number is_define statement_number (numbered_at path (numbered_in s)))
      (last_number is_dotted value_number (numbered_at path (numbered_in s)))
      (last_number is_through statement_number (numbered_at path (numbered_in s))) n (place_is ∙ e)

  -- a table: by the number of its marks
  table_piece : (n : ℕ) → info.origin ≡ origin.Header n → (b : Bool) → has is_through path (mentions_in s) ≡ b
      → is_one_piece path (mentions_in s) ≡ not b
  table_piece n e b through_is =
      let (no_value, (no_begun, defined)) = header_facts n e in
      piece_is path s obeys false true b false (has is_passed path (mentions_in s))
      (none_of_number path s obeys no_value) (has_of path s obeys is_define statement_number n defined) through_is
      (none_of path s obeys is_begun statement_number no_begun) refl ∙ by b
    where
      by : (b : Bool) → (false || ((true && not b) || (false && not (has is_passed path (mentions_in s))))) ≡ not b
      by true = refl
      by false = refl

  pub table_alone : (n : ℕ) → info.origin ≡ origin.Header n → info.marks ≡ 1
      → IsRemovalOf profile path s (Ok (piece.Section n))
  table_alone n e one =
      let (no_value, (no_begun, defined)) = header_facts n e in
      let t = beside path s obeys (has_of path s obeys is_define statement_number n defined) in
      let none : has is_through path (mentions_in s) ≡ false =
      no_through (kinds_at path (mentions_in s)) (omega (arith, t.many, marks_are, one)) in
      (allowed (table_piece n e false none), (no_value, inl (defined, no_begun)))

  pub table_shared : (n : ℕ) → info.origin ≡ origin.Header n → (info.marks ≡ 1 → ⊥)
      → IsRemovalOf profile path s (Err fault.Scattered)
  table_shared n e more =
      let (no_value, (no_begun, defined)) = header_facts n e in
      let t = beside path s obeys (has_of path s obeys is_define statement_number n defined) in
      refused (table_piece n e true (by (count_by is_through (kinds_at path (mentions_in s))) refl t.many))
    where
      by : (k : ℕ) → count_by is_through (kinds_at path (mentions_in s)) ≡ k
          → count_by is_mark (kinds_at path (mentions_in s)) ≡ 1 + count_by is_through (kinds_at path (mentions_in s))
          → has is_through path (mentions_in s) ≡ true
      by zero k many = absurd (more (omega (arith, marks_are, many, k)))
      by (suc j) k many = a_through (kinds_at path (mentions_in s)) j k

  no_define : (n : ℕ) → last_number is_begun statement_number (numbered_at path (numbered_in s)) ≡ Some n
      → has is_define path (mentions_in s) ≡ false
  no_define n e = by (has is_define path (mentions_in s)) refl
    where
      by : (b : Bool) → has is_define path (mentions_in s) ≡ b → b ≡ false
      by false k = refl
      by true k =
          absurd (ends_never_begun path s obeys (defined_ends s path (has_some is_define path (mentions_in s) k))
          (has_of path s obeys is_begun statement_number n e))

  element_piece : (n : ℕ) → info.origin ≡ origin.Element n → (q : Bool) → info.passed ≡ q
      → is_one_piece path (mentions_in s) ≡ not q
  element_piece n e q p =
      let (no_value, began) = element_facts n e in
      piece_is path s obeys false false (has is_through path (mentions_in s)) true q
      (none_of_number path s obeys no_value) (no_define n began) refl
      (has_of path s obeys is_begun statement_number n began) (sym passed_is ∙ p)

  pub element_alone : (n : ℕ) → info.origin ≡ origin.Element n → info.passed ≡ false
      → IsRemovalOf profile path s (Ok (piece.Section n))
  element_alone n e p =
      let (no_value, began) = element_facts n e in (
        allowed (element_piece n e false p),
        (no_value, inr (began, by (last_number is_define statement_number (numbered_at path (numbered_in s))) refl)),
      )
    where
      by : (o : Option ℕ) → last_number is_define statement_number (numbered_at path (numbered_in s)) ≡ o → o ≡ None
      by None k = refl
      by (Some m) k =
          let t : false ≡ true =
          sym (no_define n (element_facts n e).1) ∙ has_of path s obeys is_define statement_number m k in absurd cc

  pub element_shared : (n : ℕ) → info.origin ≡ origin.Element n → info.passed ≡ true
      → IsRemovalOf profile path s (Err fault.Scattered)
  element_shared n e p = refused (element_piece n e true p)

  -- no table that a header defines, and no element
  other_piece : has_value path (mentions_in s) ≡ false → has is_define path (mentions_in s) ≡ false
      → has is_begun path (mentions_in s) ≡ false → is_one_piece path (mentions_in s) ≡ false
  other_piece v d b =
      piece_is path s obeys false false (has is_through path (mentions_in s)) false (has is_passed path (mentions_in s))
      v d refl b refl

  pub other_scattered : IsOther info.origin → IsRemovalOf profile path s (Err fault.Scattered)
  other_scattered other =
      let h = other_fits (value_number_of path s)
      (last_number is_element statement_number (numbered_at path (numbered_in s)))
      (last_number is_begun statement_number (numbered_at path (numbered_in s)))
      (last_number is_define statement_number (numbered_at path (numbered_in s)))
      (last_number is_dotted value_number (numbered_at path (numbered_in s)))
      (last_number is_through statement_number (numbered_at path (numbered_in s)))
      (subst IsOther (sym place_is) other) in
      refused (elim h.1 [
        | inl several ↦
            (let (i, is) = several in
            let some : has is_element path (mentions_in s) ≡ true =
            has_of path s obeys is_element statement_number i is in
            let ends : EndsInKey path =
            lines_named path start (lines s) (has_some is_element path (mentions_in s) some) in
            other_piece (none_of_number path s obeys h.0) (defined_none some (has is_define path (mentions_in s)) refl)
            (begun_none ends (has is_begun path (mentions_in s)) refl))
        | inr none ↦
            other_piece (none_of_number path s obeys h.0) (none_of path s obeys is_define statement_number none.1)
            (none_of path s obeys is_begun statement_number none.0)
      ])
    where
      defined_none : has is_element path (mentions_in s) ≡ true → (b : Bool) → has is_define path (mentions_in s) ≡ b
          → b ≡ false
      defined_none some false e = refl
      defined_none some true e = let t = beside path s obeys e in let k : false ≡ true = sym t.none ∙ some in absurd cc

      begun_none : EndsInKey path → (b : Bool) → has is_begun path (mentions_in s) ≡ b → b ≡ false
      begun_none ends false e = refl
      begun_none ends true e = absurd (ends_never_begun path s obeys ends e)

-- ---- the root, and no node

pub no_removal : (profile : Profile) (path : List Part) (s : Document) → is_node path (mentions_in s) ≡ false
    → IsRemovalOf profile path s (Err fault.NotFound)
no_removal profile path s e =
    ap (λ (b : Bool).
    first_that_holds ((not b, fault.NotFound) ∷ (is_root path, fault.NotKey)
    ∷ (not (is_one_piece path (mentions_in s)), fault.Scattered) ∷ [])) e

-- ---- as the code asks

pub not_root : (path : List Part) → (length path ≡ 0 → ⊥) → is_root path ≡ false
not_root [] h = absurd (h refl)
not_root (p ∷ ps) h = refl

pub other_of : (p : Origin) → ((n : ℕ) → p ≡ origin.Value n → ⊥) → ((n : ℕ) → p ≡ origin.Header n → ⊥)
    → ((n : ℕ) → p ≡ origin.Element n → ⊥) → IsOther p
other_of (origin.Value n) v h e = absurd (v n refl)
other_of (origin.Header n) v h e = absurd (h n refl)
other_of (origin.Element n) v h e = absurd (e n refl)
other_of origin.Root v h e = tt
other_of (origin.Dotted n) v h e = tt
other_of (origin.Through n) v h e = tt
other_of origin.Tables v h e = tt
