-- A header at the end adds what it says to the facts about the nodes (`statement_is_known`).
--
-- The facts from all mentions are those from the ones of before, and then from the last statement's
-- (`added_further`), if these give no value to a path that is mentioned before (`known_if_new`). A header gives none
-- (`header_gives_none`).
--
-- Theorems: `known_if_new` and `statement_is_known`.
use Rattle.std.proofs.Common.{◌≡◌, ℕ, ◌^◌, ◌<◌, Bool, true, false, cond, List, [], ◌∷◌, ◌++◌, length, map, refl, sym}
use Rattle.std.proofs.Common.{ap, ◌∙◌, arith, append-nil}
use Rattle.std.specs.Prelude.{◌==◌}
use Rattle.std.specs.List.{AllByRecursion, count_by}
use Rattle.keep_syntax.specs.Numbered.{parts}
use Rattle.keep_syntax.specs.Tree.{Document}
use Rattle.keep_path.specs.NodeInfos.{NodeInfos}
use Rattle.keep_path.specs.Path.{Part, key}
use Rattle.keep_meaning.specs.Counts.{Count, Numbered, count_with_mention, is_mark, is_value, no_count, numbered_from}
use Rattle.keep_meaning.specs.Counts.{numbered_in, numbered_mentions, statements_in}
use Rattle.keep_meaning.specs.LinesMore.{node_infos}
use Rattle.keep_meaning.specs.Marks.{Mention, Reading, Statement, element_header, elements_of, entered_path, header}
use Rattle.keep_meaning.specs.Marks.{header_prefixes, keyval, marks, passing_mentions, past, passed, start}
use Rattle.keep_meaning.specs.Marks.{statement_mentions, through}
use Rattle.keep_meaning.specs.Nodes.{infos_in, mention_of, node_paths, paths_with}
use Rattle.keep_meaning.specs.StatementsMore.{HasStatementMore, reading_at_end, said_next}
use Rattle.keep_meaning.proofs.Shared.{marked-parts, mentions-numbered_in, numbered_from-append, paths-nodes_in}
use Rattle.keep_rules.specs.MentionInfos.{ValuesAreNew, with_mentions}
use Rattle.keep_rules.specs.StatementsKnown.{IsHeader, StatementIsKnown}
use Rattle.keep_rules.proofs.AllInfoLemmas.{added_further, count-marks, infos_of_mentions}

-- ---- a header gives no value

abbrev GivesNone : Mention → Type 0
GivesNone m = is_value m.kind ≡ false

all_join : (xs ys : List Mention) → AllByRecursion GivesNone xs → AllByRecursion GivesNone ys
    → AllByRecursion GivesNone (xs ++ ys)
all_join [] ys h g = g
all_join (x ∷ xs) ys h g = (h.0, all_join xs ys h.1 g)

none_passing : (tables : List (List Part)) (q : List Part) (b : Bool)
    → AllByRecursion GivesNone (cond b (record { path = q; kind = through } ∷ [])
    (record { path = q; kind = past } ∷ record { path = entered_path tables q; kind = passed } ∷ []))
none_passing tables q true = (refl, tt)
none_passing tables q false = (refl, (refl, tt))

none_prefixes : (tables : List (List Part)) (at : List Part) (ks : List (List ℕ))
    → AllByRecursion GivesNone (header_prefixes tables at ks)
none_prefixes tables at [] = tt
none_prefixes tables at (k ∷ []) = tt
none_prefixes tables at (k ∷ l ∷ ks) =
    let q : List Part = at ++ key k ∷ [] in
    all_join (passing_mentions tables q) (header_prefixes tables (entered_path tables q) (l ∷ ks))
    (none_passing tables q (0 == elements_of q tables)) (none_prefixes tables (entered_path tables q) (l ∷ ks))

header_gives_none : (r : Reading) (s : Statement) → IsHeader s → AllByRecursion GivesNone (statement_mentions r s)
header_gives_none r (header keys) h =
    all_join (header_prefixes r.tables [] keys) _ (none_prefixes r.tables [] keys) (refl, tt)
header_gives_none r (element_header keys) h =
    all_join (header_prefixes r.tables [] keys) _ (none_prefixes r.tables [] keys) (refl, (refl, tt))
header_gives_none r (keyval nested) h = absurd h

none_new : (paths : List (List Part)) (c : Count) (ms : List Mention) → AllByRecursion GivesNone ms
    → ValuesAreNew paths (numbered_mentions c ms)
none_new paths c [] h = tt
none_new paths c (m ∷ ms) h = (
  (λ is. let none : is_value m.kind ≡ false = h.0 in absurd cc),
  none_new (paths_with paths m.path) (count_with_mention c m) ms h.1,
)

-- ---- the facts

infos_are : (d : Document) → infos_of_mentions (numbered_in d) ≡ node_infos d
infos_are d =
    ap (λ (ps : List (List Part)). let t : NodeInfos = record { paths = ps; infos = infos_in d } in t)
    (ap node_paths (mentions-numbered_in d) ∙ sym (paths-nodes_in d))

-- of any last statement
pub known_if_new : (d more : Document) (s : Statement) → HasStatementMore d s more → length (parts more) < 2 ^ 64
    → ValuesAreNew (node_paths (map mention_of (numbered_in d))) (said_next d s)
    → node_infos more ≡ with_mentions (node_infos d) (said_next d s)
known_if_new d more s last few new =
    let said : List Numbered = said_next d s in
    let all : numbered_in more ≡ numbered_in d ++ said =
    ap (numbered_from no_count start) last ∙ numbered_from-append no_count start (statements_in d) (s ∷ [])
    ∙ ap (λ (ns : List Numbered). numbered_in d ++ ns) (append-nil said) in
    let counted : count_by (λ m. is_mark m.mention.kind) (numbered_in d ++ said) < 2 ^ 64 =
    omega (
      arith,
      ap (λ (ns : List Numbered). count_by (λ m. is_mark m.mention.kind) ns) all,
      count-marks (numbered_in more),
      ap (λ (ms : List Mention). length (marks ms)) (mentions-numbered_in more),
      marked-parts more,
    ) in
    sym (infos_are more)
    ∙ ap infos_of_mentions all
    ∙ sym (added_further (numbered_in d) said counted new)
    ∙ ap (λ (t : NodeInfos). with_mentions t said) (infos_are d)

pub statement_is_known : StatementIsKnown
statement_is_known d more s is last few =
    known_if_new d more s last few
    (none_new (node_paths (map mention_of (numbered_in d))) _ (statement_mentions (reading_at_end d) s)
    (header_gives_none (reading_at_end d) s is))
