-- Without its numbers, the list of numbered mentions of a document is that of its mentions, and the paths of its nodes
-- are the root's and those that are mentioned.
--
-- Theorems: `mentions-numbered_in`: the list without numbers; `paths-nodes_in`: the paths of the nodes, in the order in
-- which they are first met; `mentions_in-statements`: the mentions line by line are those of the statements.
use Rattle.std.proofs.Common.{◌≡◌, false, List, [], ◌∷◌, ◌++◌, map, refl, sym, ap, ◌∙◌, Option, Some, None}
use Rattle.std.specs.List.{filter_map, cons_option}
use Rattle.std.proofs.lemmas.List.{append-nil, map-append}
use Rattle.std.proofs.lemmas.List.Elements.{filter-append}
use Rattle.keep_syntax.specs.Tree.{Line, Document}
use Rattle.keep_path.specs.Path.{Part}
use Rattle.keep_meaning.specs.Marks.{Mention, Statement, Reading, statement_mentions, next_reading, mentions_from}
use Rattle.keep_meaning.specs.Marks.{mentions, start}
use Rattle.keep_meaning.specs.Meaning.{statement_of, lines_mentions, lines, mentions_in}
use Rattle.keep_meaning.specs.Counts.{Count, Numbered, count_with_mention, numbered_mentions, count_after, next_count}
use Rattle.keep_meaning.specs.Counts.{no_count, numbered_from, numbered_in, line_statement, statements_in}
use Rattle.keep_meaning.specs.Nodes.{node_path, node_paths, nodes_in, mention_of, numbered_at, is_numbered_at, is_at}
use Rattle.keep_meaning.specs.Nodes.{mentioned_node, node_at}

pub numbered_mentions-append : (c : Count) (xs ys : List Mention)
    → numbered_mentions c (xs ++ ys) ≡ numbered_mentions c xs ++ numbered_mentions (count_after c xs) ys
numbered_mentions-append c [] ys = refl
numbered_mentions-append c (x ∷ xs) ys =
    ap (λ ns. record { mention = x; before = c } ∷ ns) (numbered_mentions-append (count_with_mention c x) xs ys)

pub mentions-numbered_mentions : (c : Count) (ms : List Mention) → map mention_of (numbered_mentions c ms) ≡ ms
mentions-numbered_mentions c [] = refl
mentions-numbered_mentions c (m ∷ ms) = ap (λ xs. m ∷ xs) (mentions-numbered_mentions (count_with_mention c m) ms)

pub mentions-numbered_from : (c : Count) (r : Reading) (ss : List Statement)
    → map mention_of (numbered_from c r ss) ≡ mentions_from r ss
mentions-numbered_from c r [] = refl
mentions-numbered_from c r (s ∷ ss) =
    map-append mention_of (numbered_mentions c (statement_mentions r s))
    (numbered_from (next_count c (statement_mentions r s)) (next_reading r s) ss)
    ∙ ap (λ xs. xs ++ map mention_of (numbered_from (next_count c (statement_mentions r s)) (next_reading r s) ss))
    (mentions-numbered_mentions c (statement_mentions r s))
    ∙ ap (λ xs. statement_mentions r s ++ xs)
    (mentions-numbered_from (next_count c (statement_mentions r s)) (next_reading r s) ss)

-- line by line is statement by statement
by_statement : (r : Reading) (o : Option Statement) (ls : List Line)
    → ((q : Reading) → lines_mentions q ls ≡ mentions_from q (filter_map line_statement ls))
    → elim o [ None ↦ [] | Some s ↦ statement_mentions r s ]
    ++ lines_mentions (elim o [ None ↦ r | Some s ↦ next_reading r s ]) ls
    ≡ mentions_from r (cons_option o (filter_map line_statement ls))
by_statement r None ls more = more r
by_statement r (Some s) ls more = ap (λ xs. statement_mentions r s ++ xs) (more (next_reading r s))

pub lines_mentions-statements : (r : Reading) (ls : List Line)
    → lines_mentions r ls ≡ mentions_from r (filter_map line_statement ls)
lines_mentions-statements r [] = refl
lines_mentions-statements r (l ∷ ls) = by_statement r (statement_of l.content) ls (λ q. lines_mentions-statements q ls)

pub mentions_in-statements : (s : Document) → mentions_in s ≡ mentions (statements_in s)
mentions_in-statements s = lines_mentions-statements start (lines s)

-- without its numbers, the numbered list is what the document says
pub mentions-numbered_in : (s : Document) → map mention_of (numbered_in s) ≡ mentions_in s
mentions-numbered_in s = mentions-numbered_from no_count start (statements_in s) ∙ sym (mentions_in-statements s)

-- what is said elsewhere leaves a node as it is
none_here : (q : List Part) (xs : List Numbered) (n : Numbered) → is_at q n.mention ≡ false
    → numbered_at q xs ++ numbered_at q (n ∷ []) ≡ numbered_at q xs
none_here q xs n disjoint = rw disjoint (append-nil (numbered_at q xs))

pub node_at-elsewhere : (q : List Part) (xs : List Numbered) (n : Numbered) → is_at q n.mention ≡ false
    → node_at (xs ++ n ∷ []) q ≡ node_at xs q
node_at-elsewhere q xs n disjoint =
    ap (mentioned_node q) (filter-append (is_numbered_at q) xs (n ∷ []) ∙ none_here q xs n disjoint)

pub paths-nodes : (ns : List Numbered) (ps : List (List Part)) → map node_path (map (node_at ns) ps) ≡ ps
paths-nodes ns [] = refl
paths-nodes ns (p ∷ ps) = ap (λ qs. p ∷ qs) (paths-nodes ns ps)

-- the nodes' paths are what is mentioned, in the order of first meeting
pub paths-nodes_in : (s : Document) → map node_path (nodes_in s) ≡ node_paths (mentions_in s)
paths-nodes_in s =
    paths-nodes (numbered_in s) (node_paths (map mention_of (numbered_in s))) ∙ ap node_paths (mentions-numbered_in s)
