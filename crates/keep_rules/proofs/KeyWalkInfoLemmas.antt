-- The facts that headers and values add, key by key.
--
-- The code walks along the keys of a header or a keyval and changes one node for each; the definitions list the
-- mentions of the whole statement. For one key, the facts that the code adds are those of the mentions at its path
-- (`past_added`, `through_added`, `define_added`, `begin_added`, `item_added`). Such additions are joined in their
-- order (`adds_then`), along the leading keys of a header (`header_adds`, `walk_adds`) and those of a keyval
-- (`dot_adds`). For that the numbers after the leading keys have to be known: `header_counts` and `dotted_counts`, by
-- induction over the keys.
--
-- Theorems: `header_added`, `element_added` and `keyed_added`: a whole header, element header and keyval.
use Rattle.std.proofs.Common.{◌≡◌, ℕ, ◌+◌, ◌<◌, true, false, cond, List, [], ◌∷◌, ◌++◌, length, map, refl, sym, ◌∙◌, ap}
use Rattle.std.proofs.Common.{subst, arith, None, Result, Ok, Err}
use Rattle.std.specs.Prelude.{Contains, ◌==◌, OnOk, IfOk}
use Rattle.std.proofs.lemmas.List.{append-nil, get_or_default}
use Rattle.std.proofs.lemmas.List.Sums.{fold-append}
use Rattle.keep_types.specs.declared.node.Kind.{Kind}
use Rattle.keep_types.specs.declared.node.Kind.TheVariants as kind
use Rattle.keep_types.specs.declared.node.Origin.TheVariants as origin
use Rattle.keep_types.specs.declared.node.NodeInfo.{NodeInfo}
use Rattle.keep_types.specs.declared.role.Role.TheVariants.{Element, Value}
use Rattle.keep_path.specs.Path.{Part, key, index}
use Rattle.keep_meaning.specs.Marks as marks
use Rattle.keep_meaning.specs.Marks.{Mention, through, past, passed, define, element, begun, dotted, value, item}
use Rattle.keep_meaning.specs.Marks.{elements_of, passing_mentions, entered_path, header, element_header}
use Rattle.keep_meaning.specs.Counts.{Count, Numbered, count_with_mention, numbered_mentions, count_after}
use Rattle.keep_meaning.specs.Nodes.{fact_kind}
use Rattle.keep_index_store.specs.Facts.{named_info, unnamed_info, passed_info}
use Rattle.keep_rules.specs.MentionInfos.{with_info, with_mentions, mention_info, paths_after, ValuesAreNew}
use Rattle.keep_index_store.specs.Trie.{Holding, by_key, by_index, paths_of, path_at, children_of}
use Rattle.keep_index_store.specs.Growth.{Grows}
use Rattle.keep_index_store.specs.Tree.{TrieInfos, node_infos}
use Rattle.keep_rules.specs.Represents.{IsDefined, IsLastElement, HasNoElement}
use Rattle.keep_rules.specs.Steps.{HeaderDescent, DottedDescent}
use Rattle.keep_rules.specs.Descents.{descent_path, descent_mentions, dotted_mentions}
use Rattle.keep_rules.specs.NestedValues.{path_of_value, entries_of_value}
use Rattle.keep_rules.specs.AddedInfos.{AddsInfo, AddsMentions, HeaderAdds, DottedAdds, StatementAdds, AddsValue}
use Rattle.keep_rules.specs.AddedInfos.{KeyedAdds, ItemAdds, begin_mentions}
use Rattle.keep_meaning.proofs.Shared.{numbered_mentions-append}
use Rattle.keep_index_store.proofs.Shared.{length-paths_of, one_node}
use Rattle.keep_rules.proofs.PassLemmas.{passing-none, passing-some, element_place, elements_there}
use Rattle.keep_rules.proofs.KeyWalkLemmas.{descent_mentions-append, header_prefixes-split, header_path-split}
use Rattle.keep_rules.proofs.KeyWalkLemmas.{dotted_mentions-append}
use Rattle.keep_rules.proofs.NextValueLemmas.{keyed_mentions_are}
use Rattle.keep_rules.proofs.MentionInfoLemmas.{with_mentions-append, values_new-append, through_info, past_info}
use Rattle.keep_rules.proofs.MentionInfoLemmas.{define_info, element_info, dotted_info, value_info, begun_info}
use Rattle.keep_rules.proofs.MentionInfoLemmas.{passed_is_info, item_info}
use Rattle.keep_rules.proofs.AddedInfoLemmas.{added_at_new, with_mentions-paths}

-- ---- one operation

two_added : (old mid new : TrieInfos) (p q : List Part) (i j : NodeInfo) → AddsInfo old mid p i → AddsInfo mid new q j
    → node_infos new ≡ with_info (with_info (node_infos old) p i) q j
two_added old mid new p q i j one two = two ∙ ap (λ t. with_info t q j) one

-- a header goes past an array of tables
pub past_added : (old mid new : TrieInfos) (p : List Part) (child to number statement : ℕ)
    → IsLastElement old.trie p child to
    → AddsInfo old mid p (named_info kind.Table number origin.Root) → AddsInfo mid new (path_at old.trie to) passed_info
    → HeaderAdds old new number statement (λ tables. passing_mentions tables p)
past_added old mid new p child to number statement last one two ms tables represents c keys statements =
    let e : List Part = entered_path tables p in
    let m : Mention = record { path = p; kind = past } in
    let m' : Mention = record { path = e; kind = passed } in
    let n : Numbered = record { mention = m; before = c } in
    let n' : Numbered = record { mention = m'; before = count_with_mention c m } in
    let some : 0 < elements_of p tables =
    omega (arith, last.some, elements_there old.trie p child to last ms tables represents) in
    two_added old mid new p (path_at old.trie to) _ _ one two
    ∙ ap (λ q. with_info (with_info (node_infos old) p (named_info kind.Table number origin.Root)) q passed_info)
    (element_place old.trie p child to last ms tables represents)
    ∙ ap (λ i. with_info (with_info (node_infos old) p i) e passed_info) (sym (past_info n number refl keys))
    ∙ ap (λ i. with_info (with_info (node_infos old) p (mention_info n)) e i) (sym (passed_is_info n' refl))
    ∙ ap (λ w. with_mentions (node_infos old) (numbered_mentions c w)) (sym (passing-some tables p some))

-- a header marks a key that is not its last
pub through_added : (old new : TrieInfos) (p : List Part) (number statement : ℕ) → HasNoElement old.trie p
    → AddsInfo old new p (named_info kind.Table number (origin.Through statement))
    → HeaderAdds old new number statement (λ tables. passing_mentions tables p)
through_added old new p number statement none one ms tables represents c keys statements =
    let n : Numbered = record { mention = record { path = p; kind = through }; before = c } in
    one ∙ ap (λ s. with_info (node_infos old) p (named_info kind.Table number (origin.Through s))) (sym statements)
    ∙ ap (λ i. with_info (node_infos old) p i) (sym (through_info n number refl keys))
    ∙ ap (λ w. with_mentions (node_infos old) (numbered_mentions c w))
    (sym (passing-none tables p (none tables represents.tables_are represents.begun)))

-- `[..]` defines a table
pub define_added : (old new : TrieInfos) (p : List Part) (number statement : ℕ)
    → AddsInfo old new p (named_info kind.Table number (origin.Header statement))
    → HeaderAdds old new number statement (λ tables. record { path = p; kind = define } ∷ [])
define_added old new p number statement one ms tables represents c keys statements =
    let n : Numbered = record { mention = record { path = p; kind = define }; before = c } in
    one ∙ ap (λ s. with_info (node_infos old) p (named_info kind.Table number (origin.Header s))) (sym statements)
    ∙ ap (λ i. with_info (node_infos old) p i) (sym (define_info n number refl keys))

-- `[[..]]` begins an element
pub begin_added : (old mid new : TrieInfos) (p : List Part) (id number statement : ℕ)
    → IsDefined old.trie mid.trie p Element by_index id
    → AddsInfo old mid p (named_info kind.Tables number origin.Tables)
    → Grows mid.trie new.trie id (path_at mid.trie id ++ index (length (children_of mid.trie id)) ∷ []) None by_key
    → new.infos ≡ mid.infos ++ unnamed_info kind.Table (origin.Element statement) ∷ []
    → HeaderAdds old new number statement (begin_mentions p)
begin_added old mid new p id number statement marked one grows infos ms tables represents c keys statements =
    let q : List Part = p ++ index (elements_of p tables) ∷ [] in
    let m : Mention = record { path = p; kind = element } in
    let m' : Mention = record { path = q; kind = begun } in
    let n : Numbered = record { mention = m; before = c } in
    let n' : Numbered = record { mention = m'; before = count_with_mention c m } in
    let own : List Part = path_at mid.trie id ++ index (length (children_of mid.trie id)) ∷ [] in
    let counted : elements_of p tables ≡ length (children_of mid.trie id) =
    ap (λ q. elements_of q tables) (sym marked.here)
    ∙ (marked.tables tables represents.tables_are).counts id marked.nested
    ∙ ap (λ t. cond t (length (children_of mid.trie id)) 0) marked.kind in
    let there : own ≡ q =
    ap (λ r. r ++ index (length (children_of mid.trie id)) ∷ []) marked.here
    ∙ ap (λ x. p ++ index x ∷ []) (sym counted) in
    let begins : NodeInfo = unnamed_info kind.Table (origin.Element statement) in
    let tables_info : NodeInfo = named_info kind.Tables number origin.Tables in
    two_added old mid new p own tables_info begins one (added_at_new mid new id own None by_key begins grows infos)
    ∙ ap (λ r. with_info (with_info (node_infos old) p tables_info) r begins) there
    ∙ ap (λ i. with_info (with_info (node_infos old) p i) q begins) (sym (element_info n number refl keys))
    ∙ ap (λ s. with_info (with_info (node_infos old) p (mention_info n)) q (unnamed_info kind.Table (origin.Element s)))
    (sym statements)
    ∙ ap (λ i. with_info (with_info (node_infos old) p (mention_info n)) q i) (sym (begun_info n' refl))

-- an item of an array
pub item_added : (old new : TrieInfos) (array number : ℕ) (k : Kind) (holds : Holding)
    → Grows old.trie new.trie array (path_at old.trie array ++ index (length (children_of old.trie array)) ∷ []) None
    holds
    → new.infos ≡ old.infos ++ unnamed_info k (origin.Value number) ∷ [] → ItemAdds old new array number k
item_added old new array number k holds grows infos s o f here count is c number_is =
    let own : List Part = path_at old.trie array ++ index (length (children_of old.trie array)) ∷ [] in
    let q : List Part = path_of_value s o ++ index (entries_of_value s o) ∷ [] in
    let there : own ≡ q =
    ap (λ r. r ++ index (length (children_of old.trie array)) ∷ []) here
    ∙ ap (λ x. path_of_value s o ++ index x ∷ []) (sym count) in
    let n : Numbered = record { mention = record { path = q; kind = item f }; before = c } in
    record {
      joined =
          added_at_new old new array own None holds _ grows infos
          ∙ ap (λ r. with_info (node_infos old) r (unnamed_info k (origin.Value number))) there
          ∙ ap (λ x. with_info (node_infos old) q (unnamed_info x (origin.Value number))) (sym is)
          ∙ ap (λ v. with_info (node_infos old) q (unnamed_info (fact_kind f) (origin.Value v))) (sym number_is)
          ∙ ap (λ i. with_info (node_infos old) q i) (sym (item_info n f refl));
      fresh = (λ t met. grows.fresh (subst (Contains (paths_of old.trie)) (sym there) met), tt);
    }

pub both_on : {T E : Type 0} (r : Result T E) (P Q R : Type 0) → (P → Q → R) → OnOk r P → OnOk r Q → IfOk r (λ x. R)
both_on (Ok x) P Q R f p q = f p q
both_on (Err e) P Q R f p q = p

-- ---- one operation after another

pub adds_then : (old mid new : TrieInfos) (c : Count) (ms ns : List Mention) → AddsMentions old mid c ms
    → AddsMentions mid new (count_after c ms) ns → AddsMentions old new c (ms ++ ns)
adds_then old mid new c ms ns one two =
    two ∙ ap (λ t. with_mentions t (numbered_mentions (count_after c ms) ns)) one
    ∙ sym (with_mentions-append (node_infos old) (numbered_mentions c ms) (numbered_mentions (count_after c ms) ns))
    ∙ ap (with_mentions (node_infos old)) (sym (numbered_mentions-append c ms ns))

-- ---- the numbers after the leading keys

count-append : (c : Count) (ms ns : List Mention) → count_after c (ms ++ ns) ≡ count_after (count_after c ms) ns
count-append c ms ns = fold-append count_with_mention c ms ns

pub record CountsKeys (c : Count) (ms : List Mention) (n : ℕ) : Type 0 where
  pub keys : (count_after c ms).keys ≡ c.keys + n
  pub statements : (count_after c ms).statements ≡ c.statements
  pub values : (count_after c ms).values ≡ c.values

passing_counts : (tables : List (List Part)) (p : List Part) (c : Count) → CountsKeys c (passing_mentions tables p) 1
passing_counts tables p c =
    elim (0 == elements_of p tables) as
    (λ b. CountsKeys c (cond b (record { path = p; kind = through } ∷ [])
    (record { path = p; kind = past } ∷ record { path = entered_path tables p; kind = passed } ∷ [])) 1) [
      | true ↦ record { keys = omega arith; statements = refl; values = omega arith }
      | false ↦ record { keys = omega arith; statements = refl; values = omega arith }
    ]

counts_then : (c : Count) (ms ns : List Mention) (m n : ℕ) → CountsKeys c ms m → CountsKeys (count_after c ms) ns n
    → CountsKeys c (ms ++ ns) (m + n)
counts_then c ms ns m n f g = record {
  keys = ap (λ (d : Count). d.keys) (count-append c ms ns) ∙ omega (arith, f.keys, g.keys);
  statements = ap (λ (d : Count). d.statements) (count-append c ms ns) ∙ g.statements ∙ f.statements;
  values = ap (λ (d : Count). d.values) (count-append c ms ns) ∙ g.values ∙ f.values;
}

pub header_counts : (tables : List (List Part)) (at : List Part) (ks : List (List ℕ)) (c : Count)
    → CountsKeys c (descent_mentions tables at ks) (length ks)
header_counts tables at [] c = record { keys = omega arith; statements = refl; values = refl }
header_counts tables at (k ∷ ks) c =
    let p : List Part = at ++ key k ∷ [] in
    let all =
    counts_then c (passing_mentions tables p) (descent_mentions tables (entered_path tables p) ks) 1 (length ks)
    (passing_counts tables p c) (header_counts tables (entered_path tables p) ks
    (count_after c (passing_mentions tables p))) in
    record { keys = omega (arith, all.keys); statements = all.statements; values = all.values }

pub dotted_counts : (at : List Part) (ks : List (List ℕ)) (c : Count) → CountsKeys c (dotted_mentions at ks) (length ks)
dotted_counts at [] c = record { keys = omega arith; statements = refl; values = refl }
dotted_counts at (k ∷ ks) c =
    let p : List Part = at ++ key k ∷ [] in
    let m : Mention = record { path = p; kind = dotted } in
    let more = dotted_counts p ks (count_with_mention c m) in
    record { keys = omega (arith, more.keys); statements = more.statements; values = omega (arith, more.values) }

-- ---- headers

-- one key more, with these mentions at its path
pub header_adds : (old mid new : TrieInfos) (at : ℕ) (ks : List (List ℕ)) (x : List ℕ) (first statement : ℕ)
    (mentioned : List (List Part) → List Part → List Mention)
    → HeaderDescent old.trie mid.trie at ks
    → HeaderAdds old mid first statement (λ tables. descent_mentions tables [] ks)
    → HeaderAdds mid new (first + length ks) statement (λ tables. mentioned tables (path_at mid.trie at ++ key x ∷ []))
    → HeaderAdds old new first statement
    (λ tables. descent_mentions tables [] ks ++ mentioned tables (descent_path tables [] ks ++ key x ∷ []))
header_adds old mid new at ks x first statement mentioned walked leading last ms tables represents c keys statements =
    let d : Count = count_after c (descent_mentions tables [] ks) in
    let counts = header_counts tables [] ks c in
    adds_then old mid new c (descent_mentions tables [] ks) (mentioned tables (descent_path tables [] ks ++ key x ∷ []))
    (leading ms tables represents c keys statements)
    (subst (λ (q : List Part). AddsMentions mid new d (mentioned tables (q ++ key x ∷ [])))
    (walked.is_open ms tables represents).here
    (last (ms ++ descent_mentions tables [] ks) tables (walked.represents ms tables represents) d
    (counts.keys ∙ ap (λ k. k + length ks) keys) (counts.statements ∙ statements)))

pub walk_adds : (old mid new : TrieInfos) (at : ℕ) (ks : List (List ℕ)) (x : List ℕ) (first statement : ℕ)
    → HeaderDescent old.trie mid.trie at ks
    → HeaderAdds old mid first statement (λ tables. descent_mentions tables [] ks)
    → HeaderAdds mid new (first + length ks) statement
    (λ tables. passing_mentions tables (path_at mid.trie at ++ key x ∷ []))
    → HeaderAdds old new first statement (λ tables. descent_mentions tables [] (ks ++ x ∷ []))
walk_adds old mid new at ks x first statement walked leading last ms tables represents c keys statements =
    let p : List Part = descent_path tables [] ks ++ key x ∷ [] in
    subst (λ (w : List Mention). AddsMentions old new c w)
    (ap (λ w. descent_mentions tables [] ks ++ w) (sym (append-nil (passing_mentions tables p)))
    ∙ sym (descent_mentions-append tables [] ks (x ∷ [])))
    (header_adds old mid new at ks x first statement passing_mentions walked leading last ms tables represents c keys
    statements)

-- a header with all its keys
pub header_added : (old new : TrieInfos) (ks : List (List ℕ)) (x : List ℕ) (first statement : ℕ)
    → HeaderAdds old new first statement
    (λ tables.
    descent_mentions tables [] ks ++ record { path = descent_path tables [] ks ++ key x ∷ []; kind = define } ∷ [])
    → StatementAdds old new first statement (header (ks ++ x ∷ []))
header_added old new ks x first statement joined ms r body reading c keys statements =
    let ts : List (List Part) = r.tables in
    subst (λ (w : List Mention). AddsMentions old new c w)
    (ap (λ w. w ++ record { path = descent_path ts [] ks ++ key x ∷ []; kind = define } ∷ [])
    (sym (header_prefixes-split ts [] ks x))
    ∙ ap (λ p. marks.header_prefixes ts [] (ks ++ x ∷ []) ++ record { path = p; kind = define } ∷ [])
    (sym (header_path-split ts [] ks x)))
    (joined ms ts reading.represents c keys statements)

pub element_added : (old new : TrieInfos) (ks : List (List ℕ)) (x : List ℕ) (first statement : ℕ)
    → HeaderAdds old new first statement
    (λ tables. descent_mentions tables [] ks ++ begin_mentions (descent_path tables [] ks ++ key x ∷ []) tables)
    → StatementAdds old new first statement (element_header (ks ++ x ∷ []))
element_added old new ks x first statement joined ms r body reading c keys statements =
    let ts : List (List Part) = r.tables in
    subst (λ (w : List Mention). AddsMentions old new c w)
    (ap (λ w. w ++ begin_mentions (descent_path ts [] ks ++ key x ∷ []) ts) (sym (header_prefixes-split ts [] ks x))
    ∙ ap (λ p. marks.header_prefixes ts [] (ks ++ x ∷ []) ++ begin_mentions p ts) (sym (header_path-split ts [] ks x)))
    (joined ms ts reading.represents c keys statements)

-- ---- values with keys

pub dot_adds : (old mid new : TrieInfos) (from at : ℕ) (ks : List (List ℕ)) (x : List ℕ) (first number : ℕ)
    → DottedDescent old.trie mid.trie from at ks
    → DottedAdds old mid first number (dotted_mentions (path_at old.trie from) ks)
    → AddsInfo mid new (path_at mid.trie at ++ key x ∷ [])
    (named_info kind.Table (first + length ks) (origin.Dotted number))
    → DottedAdds old new first number (dotted_mentions (path_at old.trie from) (ks ++ x ∷ []))
dot_adds old mid new from at ks x first number gone leading one c keys number_is =
    let p : List Part = path_at old.trie from in
    let q : List Part = (p ++ map key ks) ++ key x ∷ [] in
    let d : Count = count_after c (dotted_mentions p ks) in
    let counts = dotted_counts p ks c in
    let n : Numbered = record { mention = record { path = q; kind = dotted }; before = d } in
    let last : AddsMentions mid new d (record { path = q; kind = dotted } ∷ []) =
    one ∙ ap (λ r.
    with_info (node_infos mid) (r ++ key x ∷ []) (named_info kind.Table (first + length ks) (origin.Dotted number)))
    gone.is_open.here
    ∙ ap (λ v. with_info (node_infos mid) q (named_info kind.Table (first + length ks) (origin.Dotted v)))
    (sym (counts.values ∙ number_is))
    ∙ ap (λ i. with_info (node_infos mid) q i)
    (sym (dotted_info n (first + length ks) refl (counts.keys ∙ ap (λ k. k + length ks) keys))) in
    subst (λ (w : List Mention). AddsMentions old new c w) (sym (dotted_mentions-append p ks (x ∷ [])))
    (adds_then old mid new c (dotted_mentions p ks) (record { path = q; kind = dotted } ∷ []) (leading c keys number_is)
    last)

-- leading keys give no values
leading_new : (ks : List (List ℕ)) (paths : List (List Part)) (at : List Part) (c : Count)
    → ValuesAreNew paths (numbered_mentions c (dotted_mentions at ks))
leading_new [] paths at c = tt
leading_new (k ∷ ks) paths at c = (λ t. absurd cc, leading_new ks _ (at ++ key k ∷ []) _)

-- the path of a value's mark is new
value_fresh : (old new : TrieInfos) (p : List Part) (holds : Holding) (id : ℕ)
    → IsDefined old.trie new.trie p Value holds id → (trie : 0 < length old.trie) → Contains (paths_of old.trie) p → ⊥
value_fresh old new p holds id marked root there =
    let j : ℕ = there.0 in
    let low : j < length old.trie = omega (arith, there.1, length-paths_of old.trie root) in
    let is : path_at old.trie j ≡ p = get_or_default (paths_of old.trie) j [] p there.1 ∙ there.2 in
    let one : j ≡ id =
    one_node new.trie marked.trie j id (omega (arith, low, marked.keeps.longer)) marked.nested
    (marked.keeps.paths j low ∙ is ∙ sym marked.here) in
    omega (arith, one, low, (marked.valued refl).2)

pub keyed_added : (old mid new : TrieInfos) (from at id : ℕ) (ks : List (List ℕ)) (x : List ℕ) (first number : ℕ)
    (k : Kind) (holds : Holding)
    → DottedDescent old.trie mid.trie from at ks
    → DottedAdds old mid first number (dotted_mentions (path_at old.trie from) ks)
    → IsDefined mid.trie new.trie (path_at mid.trie at ++ key x ∷ []) Value holds id
    → AddsInfo mid new (path_at mid.trie at ++ key x ∷ []) (named_info k (first + length ks) (origin.Value number))
    → KeyedAdds old new from first (ks ++ x ∷ []) number k
keyed_added old mid new from at id ks x first number k holds gone leading marked one s o f here is c number_is keys =
    let p : List Part = path_at old.trie from in
    let q : List Part = (p ++ map key ks) ++ key x ∷ [] in
    let d : Count = count_after c (dotted_mentions p ks) in
    let counts = dotted_counts p ks c in
    let full : path_at mid.trie at ++ key x ∷ [] ≡ q = ap (λ r. r ++ key x ∷ []) gone.is_open.here in
    let m : Mention = record { path = q; kind = value f } in
    let n : Numbered = record { mention = m; before = d } in
    let numbered : d.values ≡ number = counts.values ∙ number_is in
    let before : AddsMentions old mid c (dotted_mentions p ks) = leading c keys number_is in
    let last : AddsMentions mid new d (m ∷ []) =
    one ∙ ap (λ r. with_info (node_infos mid) r (named_info k (first + length ks) (origin.Value number))) full
    ∙ ap (λ y. with_info (node_infos mid) q (named_info y (first + length ks) (origin.Value number))) (sym is)
    ∙ ap (λ v. with_info (node_infos mid) q (named_info (fact_kind f) (first + length ks) (origin.Value v)))
    (sym numbered)
    ∙ ap (λ i. with_info (node_infos mid) q i)
    (sym (value_info n f (first + length ks) refl (counts.keys ∙ ap (λ k. k + length ks) keys))) in
    let paths : paths_of mid.trie ≡ paths_after (paths_of old.trie) (numbered_mentions c (dotted_mentions p ks)) =
    ap (λ t. t.paths) before ∙ with_mentions-paths (node_infos old) (numbered_mentions c (dotted_mentions p ks)) in
    let root : 0 < length mid.trie = omega (arith, gone.is_open.nested) in
    let fresh : Contains (paths_of mid.trie) q → ⊥ =
    λ there.
    value_fresh mid new (path_at mid.trie at ++ key x ∷ []) holds id marked root
    (subst (Contains (paths_of mid.trie)) (sym full) there) in
    let all : AddsValue old new c (dotted_mentions p ks ++ m ∷ []) = record {
      joined = adds_then old mid new c (dotted_mentions p ks) (m ∷ []) before last;
      fresh = subst (ValuesAreNew (paths_of old.trie))
          (sym (numbered_mentions-append c (dotted_mentions p ks) (m ∷ [])))
          (values_new-append (paths_of old.trie) (numbered_mentions c (dotted_mentions p ks))
          (numbered_mentions d (m ∷ [])) (leading_new ks (paths_of old.trie) p c)
          (λ t there. fresh (subst (λ (ps : List (List Part)). Contains ps q) (sym paths) there), tt));
    } in
    subst (λ (w : List Mention). AddsValue old new c w)
    (sym (keyed_mentions_are (path_of_value s o) ks x f
    ∙ ap (λ p. dotted_mentions p ks ++ record { path = (p ++ map key ks) ++ key x ∷ []; kind = value f } ∷ [])
    (sym here))) all
