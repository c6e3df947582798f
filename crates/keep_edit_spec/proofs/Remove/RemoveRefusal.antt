-- What a path that ends in a key, and that a header goes through, can't be: a value, or an element.
--
-- A removal is refused unless the path is one piece: a value, a definition that no header goes through, or an element.
-- For such a path two of these are left to exclude. It is no value: a value is beside nothing that may be shared, as a
-- header's mention may (`no_both`, for any such kind of mention). And it is no element, since an element's path ends in
-- an index: `lines_begun`, by induction over the lines.
--
-- Theorems: `no_both` and `lines_begun`.
use Rattle.std.proofs.Common.{◌≡◌, ℕ, ◌+◌, Bool, true, false, cond, List, [], ◌∷◌, ◌++◌, map, refl, sym, ap, ◌∙◌}
use Rattle.std.proofs.Common.{Option, Some, None, inl, inr}
use Rattle.std.specs.Prelude.{◌==◌}
use Rattle.keep_syntax.specs.Tree.{Written, Gap, Name, Entries, none, entry, Content, blank, keyval, header, element}
use Rattle.keep_syntax.specs.Tree.{Line}
use Rattle.keep_meaning.specs.Fact.{Fact}
use Rattle.keep_path.specs.Path.{Part, key, index}
use Rattle.keep_meaning.specs.Marks.{MentionKind, through, past, define, dotted, value, begun, passed, item}
use Rattle.keep_meaning.specs.Marks.{element as kinds_element, Mention, below, Reading, elements_of, entered_path}
use Rattle.keep_meaning.specs.Marks.{passing_mentions, header_path, header_prefixes}
use Rattle.keep_meaning.specs.Meaning.{key_value, further_value, keys_of, body_fact, valued_mentions, keyed_mentions}
use Rattle.keep_meaning.specs.Meaning.{entry_mentions, entries_mentions, keyval_mentions, line_mentions, after_line}
use Rattle.keep_meaning.specs.Meaning.{lines_mentions}
use Rattle.keep_meaning.specs.Nodes.{is_begun}
use Rattle.keep_edit_spec.proofs.Common.Runs.{AllOf, SomeOf, all_join, Allowed, Rules, kinds_allow, solid, exclusive}
use Rattle.keep_edit_spec.proofs.Common.SetLaw.{IsAloneAt, exclusive-solid, solid-exclusive}
use Rattle.keep_edit_spec.proofs.Common.LineLaws.{EndsInKey, last_snoc, last_from}

-- ---- what is at the path

-- a mention that may be beside other such mentions, but beside no value
pub record IsShared (is : MentionKind → Bool) : Type 0 where
  pub firm : (a : MentionKind) → is a ≡ true → solid a ≡ true
  pub many : (a : MentionKind) → is a ≡ true → exclusive a ≡ true → ⊥

alone_after : (is : MentionKind → Bool) → IsShared is → (p : List Part) (m : Mention) (ms : List Mention) → m.path ≡ p
    → is m.kind ≡ true → SomeOf (IsAloneAt p) ms → AllOf (Allowed m) ms → ⊥
alone_after is shared p m [] e t s h = s
alone_after is shared p m (x ∷ ms) e t (inl a) h =
    let yes : kinds_allow m.kind x.kind ≡ true = h.0 (e ∙ sym a.path) in
    let no : kinds_allow m.kind x.kind ≡ false = solid-exclusive m.kind x.kind (shared.firm m.kind t) a.kind in
    absurd cc
alone_after is shared p m (x ∷ ms) e t (inr s) h = alone_after is shared p m ms e t s h.1

shared_after : (is : MentionKind → Bool) → IsShared is → (p : List Part) (m : Mention) (ms : List Mention) → m.path ≡ p
    → exclusive m.kind ≡ true → SomeOf (λ (m : Mention). (m.path ≡ p) × (is m.kind ≡ true)) ms
    → AllOf (Allowed m) ms → ⊥
shared_after is shared p m [] e t s h = s
shared_after is shared p m (x ∷ ms) e t (inl a) h =
    let yes : kinds_allow m.kind x.kind ≡ true = h.0 (e ∙ sym a.0) in
    let no : kinds_allow m.kind x.kind ≡ false = exclusive-solid m.kind x.kind t (shared.firm x.kind a.1) in
    absurd cc
shared_after is shared p m (x ∷ ms) e t (inr s) h = shared_after is shared p m ms e t s h.1

pub no_both : (is : MentionKind → Bool) → IsShared is → (p : List Part) (ms : List Mention)
    → SomeOf (λ (m : Mention). (m.path ≡ p) × (is m.kind ≡ true)) ms → SomeOf (IsAloneAt p) ms → Rules ms → ⊥
no_both is shared p [] s a rules = s
no_both is shared p (m ∷ ms) (inl s) (inl a) rules = shared.many m.kind s.1 a.kind
no_both is shared p (m ∷ ms) (inl s) (inr a) rules = alone_after is shared p m ms s.0 s.1 a rules.0
no_both is shared p (m ∷ ms) (inr s) (inl a) rules = shared_after is shared p m ms a.path a.kind s rules.0
no_both is shared p (m ∷ ms) (inr s) (inr a) rules = no_both is shared p ms s a rules.1

-- ---- an element's path ends in an index

abbrev pub NotBegun : List Part → Mention → Type 0
NotBegun p m = m.path ≡ p → is_begun m.kind ≡ false

plain : (p : List Part) (ms : List Mention) → AllOf (λ (m : Mention). is_begun m.kind ≡ false) ms
    → AllOf (NotBegun p) ms
plain p [] h = tt
plain p (m ∷ ms) h = ((λ e. h.0), plain p ms h.1)

plain_below : (s : List Part) (ms : List Mention) → AllOf (λ (m : Mention). is_begun m.kind ≡ false) ms
    → AllOf (λ (m : Mention). is_begun m.kind ≡ false) (map (below s) ms)
plain_below s [] h = tt
plain_below s (m ∷ ms) h = (h.0, plain_below s ms h.1)

plain_keyed : (k : List ℕ) (ks : List (List ℕ)) (ms : List Mention)
    → AllOf (λ (m : Mention). is_begun m.kind ≡ false) ms
    → AllOf (λ (m : Mention). is_begun m.kind ≡ false) (keyed_mentions (k ∷ ks) ms)
plain_keyed k [] ms h = plain_below (key k ∷ []) ms h
plain_keyed k (l ∷ ks) ms h =
    plain_below (key k ∷ []) (record { path = []; kind = dotted } ∷ keyed_mentions (l ∷ ks) ms)
    (refl, plain_keyed l ks ms h)

plain_named : (n : ℕ) (name : Option Name) (f : Fact) (ms : List Mention)
    → AllOf (λ (m : Mention). is_begun m.kind ≡ false) ms
    → AllOf (λ (m : Mention). is_begun m.kind ≡ false) (entry_mentions n name f ms)
plain_named n None f ms h = plain_below (index n ∷ []) (valued_mentions (item f) ms) (refl, h)
plain_named n (Some name) f ms h =
    plain_keyed (key_value name.key.first) (map further_value name.key.more) (valued_mentions (value f) ms) (refl, h)

plain_entries : (n : ℕ) (es : Entries) → AllOf (λ (m : Mention). is_begun m.kind ≡ false) (entries_mentions n es)
plain_entries n none = tt
plain_entries n (entry name body nested after comma rest) =
    all_join (λ (m : Mention). is_begun m.kind ≡ false)
    (entry_mentions n name (body_fact body) (entries_mentions 0 nested)) (entries_mentions (n + 1) rest)
    (plain_named n name (body_fact body) (entries_mentions 0 nested) (plain_entries 0 nested))
    (plain_entries (n + 1) rest)

plain_pass : (tables : List (List Part)) (q : List Part) (b : Bool)
    → AllOf (λ (m : Mention). is_begun m.kind ≡ false)
    (cond b (record { path = q; kind = through } ∷ [])
    (record { path = q; kind = past } ∷ record { path = entered_path tables q; kind = passed } ∷ []))
plain_pass tables q true = (refl, tt)
plain_pass tables q false = (refl, (refl, tt))

pub plain_prefixes : (tables : List (List Part)) (at : List Part) (keys : List (List ℕ))
    → AllOf (λ (m : Mention). is_begun m.kind ≡ false) (header_prefixes tables at keys)
plain_prefixes tables at [] = tt
plain_prefixes tables at (k ∷ []) = tt
plain_prefixes tables at (k ∷ l ∷ ks) =
    let q : List Part = at ++ key k ∷ [] in
    all_join (λ (m : Mention). is_begun m.kind ≡ false) (passing_mentions tables q)
    (header_prefixes tables (entered_path tables q) (l ∷ ks)) (plain_pass tables q (0 == elements_of q tables))
    (plain_prefixes tables (entered_path tables q) (l ∷ ks))

not_index : (p at : List Part) (n : ℕ) → EndsInKey p → at ++ index n ∷ [] ≡ p → ⊥
not_index p at n ends e =
    let same : index n ≡ key ends.1 =
    sym (last_snoc (index n) (index n) at) ∙ ap (last_from (index n)) (e ∙ ends.2)
    ∙ last_snoc (index n) (key ends.1) ends.0 in
    absurd cc

content_begun : (p : List Part) → EndsInKey p
    → (r : Reading) (before after : Gap) (comment : Option Written) (c : Content)
    → AllOf (NotBegun p) (line_mentions r (record { before = before; content = c; after = after; comment = comment }))
content_begun p ends r before after comment blank = tt
content_begun p ends r before after comment (keyval name v) =
    plain p (map (below r.body) (keyval_mentions name v))
    (plain_below r.body (keyval_mentions name v)
    (plain_named 0 (Some name) (body_fact v.body) (entries_mentions 0 v.nested) (plain_entries 0 v.nested)))
content_begun p ends r before after comment (header b k a) =
    all_join (NotBegun p) (header_prefixes r.tables [] (keys_of k))
    (record { path = header_path r.tables [] (keys_of k); kind = define } ∷ [])
    (plain p (header_prefixes r.tables [] (keys_of k)) (plain_prefixes r.tables [] (keys_of k))) ((λ e. refl), tt)
content_begun p ends r before after comment (element b k a) =
    let at : List Part = header_path r.tables [] (keys_of k) in
    let n : ℕ = elements_of at r.tables in
    all_join (NotBegun p) (header_prefixes r.tables [] (keys_of k))
    (record { path = at; kind = kinds_element } ∷ record { path = at ++ index n ∷ []; kind = begun } ∷ [])
    (plain p (header_prefixes r.tables [] (keys_of k)) (plain_prefixes r.tables [] (keys_of k)))
    ((λ e. refl), ((λ e. absurd (not_index p at n ends e)), tt))

pub lines_begun : (p : List Part) → EndsInKey p → (r : Reading) (ls : List Line)
    → AllOf (NotBegun p) (lines_mentions r ls)
lines_begun p ends r [] = tt
lines_begun p ends r (l ∷ ls) =
    all_join (NotBegun p) (line_mentions r l) (lines_mentions (after_line r l) ls)
    (content_begun p ends r l.before l.after l.comment l.content) (lines_begun p ends (after_line r l) ls)

pub never_begun : (p : List Part) (ms : List Mention) → AllOf (NotBegun p) ms
    → SomeOf (λ (m : Mention). (m.path ≡ p) × (is_begun m.kind ≡ true)) ms → ⊥
never_begun p [] h s = s
never_begun p (m ∷ ms) h (inl s) =
    let no : is_begun m.kind ≡ false = h.0 s.0 in let yes : is_begun m.kind ≡ true = s.1 in absurd cc
never_begun p (m ∷ ms) h (inr s) = never_begun p ms h.1 s
