-- What holds of the mentions of a keyval, and how its paths begin.
--
-- Theorems: `mentions_keyval`: what holds of dotted keys, of values and of items holds of all that a keyval mentions;
-- `mentioned_below`: what holds of mentions holds of them below a path; `starts_keyval`: the paths begin with a key.
use Rattle.std.proofs.Common.{◌≡◌, ℕ, ◌+◌, List, [], ◌∷◌, map, refl, Option, Some, None}
use Rattle.keep_syntax.specs.Tree.{Name, Entries, none, entry, Value}
use Rattle.keep_meaning.specs.Fact.{Fact}
use Rattle.keep_path.specs.Path.{Part, key, index}
use Rattle.keep_meaning.specs.Marks.{MentionKind, dotted, value, item, Mention, below}
use Rattle.keep_meaning.specs.Meaning.{key_value, further_value, body_fact, valued_mentions, keyed_mentions}
use Rattle.keep_meaning.specs.Meaning.{entry_mentions, entries_mentions, keyval_mentions}
use Rattle.keep_edit_spec.proofs.Common.Runs.{AllOf, all_join}

-- what holds of a dotted key, of a value and of an item
pub record IsOfKeyvals (P : MentionKind → Type 0) : Type 0 where
  pub dot : P dotted
  pub held : (f : Fact) → P (value f)
  pub unnamed : (f : Fact) → P (item f)

pub mentioned_below : (P : MentionKind → Type 0) (s : List Part) (ms : List Mention) → AllOf (λ m. P m.kind) ms
    → AllOf (λ m. P m.kind) (map (below s) ms)
mentioned_below P s [] h = tt
mentioned_below P s (m ∷ ms) h = (h.0, mentioned_below P s ms h.1)

mentions_keyed : (P : MentionKind → Type 0) → IsOfKeyvals P → (k : List ℕ) (ks : List (List ℕ)) (ms : List Mention)
    → AllOf (λ m. P m.kind) ms → AllOf (λ m. P m.kind) (keyed_mentions (k ∷ ks) ms)
mentions_keyed P all k [] ms h = mentioned_below P (key k ∷ []) ms h
mentions_keyed P all k (l ∷ ks) ms h =
    mentioned_below P (key k ∷ []) (record { path = []; kind = dotted } ∷ keyed_mentions (l ∷ ks) ms)
    (all.dot, mentions_keyed P all l ks ms h)

mentions_named : (P : MentionKind → Type 0) → IsOfKeyvals P
    → (n : ℕ) (name : Option Name) (f : Fact) (ms : List Mention) → AllOf (λ m. P m.kind) ms
    → AllOf (λ m. P m.kind) (entry_mentions n name f ms)
mentions_named P all n None f ms h = mentioned_below P (index n ∷ []) (valued_mentions (item f) ms) (all.unnamed f, h)
mentions_named P all n (Some name) f ms h =
    mentions_keyed P all (key_value name.key.first) (map further_value name.key.more) (valued_mentions (value f) ms)
    (all.held f, h)

mentions_entries : (P : MentionKind → Type 0) → IsOfKeyvals P → (n : ℕ) (es : Entries)
    → AllOf (λ m. P m.kind) (entries_mentions n es)
mentions_entries P all n none = tt
mentions_entries P all n (entry name body nested after comma rest) =
    all_join (λ m. P m.kind) (entry_mentions n name (body_fact body) (entries_mentions 0 nested))
    (entries_mentions (n + 1) rest)
    (mentions_named P all n name (body_fact body) (entries_mentions 0 nested) (mentions_entries P all 0 nested))
    (mentions_entries P all (n + 1) rest)

pub mentions_keyval : (P : MentionKind → Type 0) → IsOfKeyvals P → (name : Name) (v : Value)
    → AllOf (λ m. P m.kind) (keyval_mentions name v)
mentions_keyval P all name v =
    mentions_named P all 0 (Some name) (body_fact v.body) (entries_mentions 0 v.nested)
    (mentions_entries P all 0 v.nested)

-- its paths begin with a key
abbrev pub StartsInKey : List Part → Type 0
StartsInKey q = (k : List ℕ) × (rest : List Part) × (q ≡ key k ∷ rest)

starts_below : (k : List ℕ) (ms : List Mention) → AllOf (λ m. StartsInKey m.path) (map (below (key k ∷ [])) ms)
starts_below k [] = tt
starts_below k (m ∷ ms) = ((k, m.path, refl), starts_below k ms)

starts_keyed : (k : List ℕ) (ks : List (List ℕ)) (ms : List Mention)
    → AllOf (λ m. StartsInKey m.path) (keyed_mentions (k ∷ ks) ms)
starts_keyed k [] ms = starts_below k ms
starts_keyed k (l ∷ ks) ms = starts_below k (record { path = []; kind = dotted } ∷ keyed_mentions (l ∷ ks) ms)

pub starts_keyval : (name : Name) (v : Value) → AllOf (λ m. StartsInKey m.path) (keyval_mentions name v)
starts_keyval name v =
    starts_keyed (key_value name.key.first) (map further_value name.key.more)
    (valued_mentions (value (body_fact v.body)) (entries_mentions 0 v.nested))
