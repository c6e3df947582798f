-- The texts of a key, and the walks of headers and keyvals along them.
--
-- The texts of a key are those of its key parts in the flat list (`keys_at`), as many as these are (`length-keys_in`):
-- the leading ones and the last (`texts_split`). The code goes along the leading ones in their order: the first ones
-- are `take i k.texts`, and one more comes after these (`leading_more`). So the descent of a header or of a keyval goes
-- on (`walked_more`, `dotted_more`), with the facts that the next key part adds (`walked_added`, `dotted_added`). Where
-- the next one is refused, the leading texts are those before it, its own, and those after it (`leading_split`); so it
-- is the first faulty key part of them all (`walk_stops`, `dots_stop`).
--
-- Theorems: `length-keys_in`: a key has as many texts as key parts; `walked_more`: a header goes down one more key;
-- `walk_stops`: it is refused there.
use Rattle.std.proofs.Common.{◌≡◌, ℕ, zero, suc, ◌+◌, ◌-◌, ◌<◌, ◌≤◌, List, [], ◌∷◌, ◌++◌, length, get_or, take, drop}
use Rattle.std.proofs.Common.{refl, sym, ◌∙◌, ap, subst, arith, Some}
use Rattle.std.specs.Prelude.{slice_get}
use Rattle.std.proofs.lemmas.List.{get_or-map, get_or-take, get_or-drop, take_more, take_all, take-append-drop}
use Rattle.std.proofs.lemmas.List.{drop_more, length-map, length-take, length-take-le, length-drop}
use Rattle.std.proofs.lemmas.Option.{slice_get_within, get_or_from_slice_get}
use Rattle.keep_types.specs.declared.syntax.KeyPart.{KeyPart}
use Rattle.keep_syntax.specs.declared.fault.Why.TheVariants.{NotATable, NotByDots}
use Rattle.keep_types.specs.declared.role.Role.TheVariants.{Through, Dotted}
use Rattle.keep_path.specs.Path.{Part, key}
use Rattle.keep_meaning.specs.KeyText.{part_text}
use Rattle.keep_rules.specs.Keys.{Key, key_text_at, leading_texts, last_text}
use Rattle.keep_meaning.specs.KeyText.{keys_in}
use Rattle.keep_types.specs.declared.node.Kind.TheVariants as kind
use Rattle.keep_types.specs.declared.node.Origin.TheVariants as origin
use Rattle.keep_meaning.specs.Marks.{Mention, passing_mentions}
use Rattle.keep_index_store.specs.Facts.{named_info}
use Rattle.keep_index_store.specs.Tree.{TrieInfos}
use Rattle.keep_rules.specs.AddedInfos.{AddsInfo, HeaderAdds, DottedAdds}
use Rattle.keep_index_store.specs.Trie.{TrieNode, by_key, holds_at, path_at}
use Rattle.keep_rules.specs.Represents.{Represents, IsDefined, Enters, WasRefused, HasNoElement, FaultIn, FaultFrom}
use Rattle.keep_rules.specs.Steps.{HeaderDescent, DottedDescent}
use Rattle.keep_rules.specs.Descents.{descent_mentions, dotted_mentions}
use Rattle.keep_rules.proofs.StepLemmas.{walks_more, dots_more}
use Rattle.keep_rules.proofs.StopLemmas.{walk_fault, dots_fault, fault_from}
use Rattle.keep_rules.proofs.KeyWalkInfoLemmas.{walk_adds, dot_adds}

-- a table's node is there
pub root_within : (nodes : List TrieNode) → holds_at nodes 0 ≡ by_key → 0 < length nodes
root_within [] keyed = absurd cc
root_within (n ∷ nodes) keyed = omega arith

-- ---- the texts

pub keys_at : (bytes : List ℕ) (parts : List KeyPart) (first count number : ℕ) (p : KeyPart) → number < count
    → slice_get parts (first + number) ≡ Some p → part_text bytes p ≡ get_or (keys_in bytes parts first count) number []
keys_at bytes parts first count number p low is =
    let nested : first + number < length parts = slice_get_within parts (first + number) p is in
    let many : number < length (take count (drop first parts)) =
    omega (arith, length-take count (drop first parts), length-drop first parts, nested, low) in
    sym (
    get_or-map (part_text bytes) (take count (drop first parts)) number p [] many
    ∙ ap (part_text bytes) (get_or-take count (drop first parts) number p low ∙ get_or-drop first parts number p
    ∙ get_or_from_slice_get parts (first + number) p p is)
    )

pub length-keys_in : (bytes : List ℕ) (parts : List KeyPart) (first count : ℕ) → first + count ≤ length parts
    → length (keys_in bytes parts first count) ≡ count
length-keys_in bytes parts first count h =
    length-map (take count (drop first parts)) (part_text bytes)
    ∙ length-take-le count (drop first parts) (omega (arith, length-drop first parts))

-- a key is its leading parts and its last part
pub texts_split : (k : Key) → 0 < length k.texts → leading_texts k ++ last_text k ∷ [] ≡ k.texts
texts_split k some =
    let n : ℕ = length k.texts - 1 in
    sym (take_more k.texts n [] (omega (arith, some))) ∙ take_all (n + 1) k.texts (omega (arith, some))

pub length-leading_texts : (k : Key) → length (leading_texts k) ≡ length k.texts - 1
length-leading_texts k = length-take-le (length k.texts - 1) k.texts (omega arith)

-- ---- the leading keys, one after another

-- one more of them
pub leading_more : (k : Key) (i : ℕ) (text : List ℕ) → i < length k.texts → text ≡ key_text_at k i
    → take (i + 1) k.texts ≡ take i k.texts ++ text ∷ []
leading_more k i text h is = take_more k.texts i [] h ∙ ap (λ t. take i k.texts ++ t ∷ []) (sym is)

pub so_many : (k : Key) (i : ℕ) → i < length k.texts → length (take i k.texts) ≡ i
so_many k i h = length-take-le i k.texts (omega (arith, h))

-- those before one of them, that one, and those after it
take_less : {X : Type 0} (xs : List X) (i n : ℕ) → i ≤ n → take i (take n xs) ≡ take i xs
take_less xs zero n h = refl
take_less xs (suc i) zero h = absurd (omega (arith, h))
take_less [] (suc i) (suc n) h = refl
take_less (x ∷ xs) (suc i) (suc n) h = ap (λ t. x ∷ t) (take_less xs i n (omega (arith, h)))

pub leading_split : (k : Key) (i : ℕ) (text : List ℕ) → i < length k.texts - 1 → text ≡ key_text_at k i
    → leading_texts k ≡ take i k.texts ++ text ∷ drop (i + 1) (leading_texts k)
leading_split k i text h is =
    let leading : List (List ℕ) = leading_texts k in
    let low : i < length leading = omega (arith, h, length-leading_texts k) in
    sym (take-append-drop i leading) ∙ ap (λ r. take i leading ++ r) (drop_more leading i [] low)
    ∙ ap (λ ts. ts ++ get_or leading i [] ∷ drop (i + 1) leading)
    (take_less k.texts i (length k.texts - 1) (omega (arith, h)))
    ∙ ap (λ t. take i k.texts ++ t ∷ drop (i + 1) leading) (get_or-take (length k.texts - 1) k.texts i [] h ∙ sym is)

pub walked_more : (old mid new : List TrieNode) (at to : ℕ) (k : Key) (i : ℕ) (text : List ℕ) → i < length k.texts
    → text ≡ key_text_at k i
    → HeaderDescent old mid at (take i k.texts) → Enters mid new at to text
    → HeaderDescent old new to (take (i + 1) k.texts)
walked_more old mid new at to k i text h is walked pass =
    subst (λ (ks : List (List ℕ)). HeaderDescent old new to ks) (sym (leading_more k i text h is))
    (walks_more old mid new at to (take i k.texts) text walked pass)

pub walk_stops : (old mid : List TrieNode) (at : ℕ) (k : Key) (i : ℕ) (text : List ℕ) → i < length k.texts - 1
    → text ≡ key_text_at k i
    → HeaderDescent old mid at (take i k.texts) → WasRefused mid (path_at mid at ++ key text ∷ []) Through
    → HasNoElement mid (path_at mid at ++ key text ∷ [])
    → (ms : List Mention) (ts : List (List Part)) → Represents old ms ts
    → FaultFrom ms (descent_mentions ts [] (leading_texts k)) k.first (k.first + i) NotATable
walk_stops old mid at k i text h is walked was plain ms ts represents =
    fault_from k.first (subst (λ (n : ℕ). FaultIn ms (descent_mentions ts [] (leading_texts k)) n NotATable)
    (so_many k i (omega (arith, h)))
    (subst (λ (ks : List (List ℕ)). FaultIn ms (descent_mentions ts [] ks) (length (take i k.texts)) NotATable)
    (sym (leading_split k i text h is))
    (walk_fault old mid at (take i k.texts) text (drop (i + 1) (leading_texts k)) walked was plain ms ts represents)))

pub dotted_more : (old mid new : List TrieNode) (at by to : ℕ) (k : Key) (i : ℕ) (text : List ℕ) → i < length k.texts
    → text ≡ key_text_at k i
    → DottedDescent old mid at by (take i k.texts)
    → IsDefined mid new (path_at mid by ++ key text ∷ []) Dotted by_key to
    → DottedDescent old new at to (take (i + 1) k.texts)
dotted_more old mid new at by to k i text h is gone marked =
    subst (λ (ks : List (List ℕ)). DottedDescent old new at to ks) (sym (leading_more k i text h is))
    (dots_more old mid new at by to (take i k.texts) text gone marked)

pub dots_stop : (old mid : List TrieNode) (at by : ℕ) (k : Key) (i : ℕ) (text : List ℕ) → i < length k.texts - 1
    → text ≡ key_text_at k i
    → DottedDescent old mid at by (take i k.texts) → WasRefused mid (path_at mid by ++ key text ∷ []) Dotted
    → (ms : List Mention) (ts : List (List Part)) → Represents old ms ts
    → FaultFrom ms (dotted_mentions (path_at old at) (leading_texts k)) k.first (k.first + i) NotByDots
dots_stop old mid at by k i text h is gone was ms ts represents =
    fault_from k.first (subst (λ (n : ℕ). FaultIn ms (dotted_mentions (path_at old at) (leading_texts k)) n NotByDots)
    (so_many k i (omega (arith, h)))
    (subst (λ (ks : List (List ℕ)).
    FaultIn ms (dotted_mentions (path_at old at) ks) (length (take i k.texts)) NotByDots)
    (sym (leading_split k i text h is))
    (dots_fault old mid at by (take i k.texts) text (drop (i + 1) (leading_texts k)) gone was ms ts represents)))

-- ---- the facts from the leading keys

module _ (old mid new : TrieInfos) (k : Key) (i : ℕ) (text : List ℕ) where
  pub walked_added : (at statement : ℕ) → i < length k.texts → text ≡ key_text_at k i
      → HeaderDescent old.trie mid.trie at (take i k.texts)
      → HeaderAdds old mid k.first statement (λ tables. descent_mentions tables [] (take i k.texts))
      → HeaderAdds mid new (k.first + i) statement
      (λ tables. passing_mentions tables (path_at mid.trie at ++ key text ∷ []))
      → HeaderAdds old new k.first statement (λ tables. descent_mentions tables [] (take (i + 1) k.texts))
  walked_added at statement h is walked facts last =
      subst (λ (ks : List (List ℕ)). HeaderAdds old new k.first statement (λ tables. descent_mentions tables [] ks))
      (sym (leading_more k i text h is))
      (walk_adds old mid new at (take i k.texts) text k.first statement walked facts
      (subst (λ (n : ℕ).
      HeaderAdds mid new (k.first + n) statement
      (λ tables. passing_mentions tables (path_at mid.trie at ++ key text ∷ []))) (sym (so_many k i h)) last))

  pub dotted_added : (from at number : ℕ) → i < length k.texts → text ≡ key_text_at k i
      → DottedDescent old.trie mid.trie from at (take i k.texts)
      → DottedAdds old mid k.first number (dotted_mentions (path_at old.trie from) (take i k.texts))
      → AddsInfo mid new (path_at mid.trie at ++ key text ∷ [])
      (named_info kind.Table (k.first + i) (origin.Dotted number))
      → DottedAdds old new k.first number (dotted_mentions (path_at old.trie from) (take (i + 1) k.texts))
  dotted_added from at number h is gone facts one =
      subst (λ (ks : List (List ℕ)). DottedAdds old new k.first number (dotted_mentions (path_at old.trie from) ks))
      (sym (leading_more k i text h is))
      (dot_adds old mid new from at (take i k.texts) text k.first number gone facts
      (subst (λ (n : ℕ).
      AddsInfo mid new (path_at mid.trie at ++ key text ∷ [])
      (named_info kind.Table (k.first + n) (origin.Dotted number))) (sym (so_many k i h)) one))
