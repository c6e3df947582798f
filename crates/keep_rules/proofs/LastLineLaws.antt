-- A line at the end, with a new path and with nothing in its value, adds its node after all others
-- (`last_line_is_known`).
--
-- The line says one thing, that its path has its value, with the numbers that come next (`said_is`). No node has the
-- path yet (`unmet`), so the facts are those of before with what the line says (`known_if_new`), which is a new node.
--
-- Theorem: `last_line_is_known`.
use Rattle.std.proofs.Common.{◌≡◌, ℕ, ◌^◌, ◌<◌, false, List, [], ◌∷◌, ◌++◌, length, get_or, map, sym, ap, subst, ◌∙◌}
use Rattle.std.proofs.Common.{append-nil, Option}
use Rattle.std.specs.Prelude.{Contains}
use Rattle.std.proofs.lemmas.List.Folds.{list_any_at}
use Rattle.keep_syntax.specs.Numbered.{parts}
use Rattle.keep_syntax.specs.Tree.{Document}
use Rattle.keep_path.specs.NodeInfos.{line_info, with_last}
use Rattle.keep_path.specs.Path.{Part, key, same_path}
use Rattle.keep_path.proofs.Shared.{path_decides}
use Rattle.keep_meaning.specs.Counts.{Numbered, count_from, no_count, numbered_in, numbered_mentions, statements_in}
use Rattle.keep_meaning.specs.LinesMore.{HasLineMore, node_infos, numbers_after, path_after}
use Rattle.keep_meaning.specs.Marks.{Mention, Statement, keyval, reading_after, start, statement_mentions, value}
use Rattle.keep_meaning.specs.Meaning.{mentions_in}
use Rattle.keep_meaning.specs.Nodes.{fact_kind, is_node, mention_of, node_paths}
use Rattle.keep_meaning.specs.StatementsMore.{HasStatementMore, said_next}
use Rattle.keep_meaning.proofs.Shared.{mentions-numbered_in, node_met, paths-nodes_in}
use Rattle.keep_rules.specs.MentionInfos.{ValuesAreNew, with_info_at, with_mentions}
use Rattle.keep_rules.specs.StatementsKnown.{LastLineIsKnown}
use Rattle.keep_rules.proofs.LineNestedLaws.{differ}
use Rattle.keep_rules.proofs.LookupLemmas.{number_none}
use Rattle.keep_rules.proofs.StatementKnownLaws.{known_if_new}

module _ (d more : Document) (line : HasLineMore d more) (last : line.after ≡ [])
    (fresh : is_node (path_after line.before line.text) (mentions_in d) ≡ false) where
  abbrev p : List Part
  p = path_after line.before line.text

  abbrev own : Statement
  own = keyval (record { path = key line.text ∷ []; kind = value line.fact } ∷ [])

  -- what the line says
  abbrev said : List Numbered
  said =
      record { mention = record { path = p; kind = value line.fact }; before = count_from no_count start line.before }
      ∷ []

  all_before : statements_in d ≡ line.before
  all_before = line.old ∙ ap (λ (ss : List Statement). line.before ++ ss) last ∙ append-nil line.before

  own_last : HasStatementMore d own more
  own_last =
      line.new ∙ ap (λ (ss : List Statement). line.before ++ own ∷ ss) last
      ∙ ap (λ (ss : List Statement). ss ++ own ∷ []) (sym all_before)

  said_is : said_next d own ≡ said
  said_is =
      ap (λ (ss : List Statement).
      numbered_mentions (count_from no_count start ss) (statement_mentions (reading_after start ss) own)) all_before

  unmet : Contains (node_paths (mentions_in d)) p → ⊥
  unmet there =
      differ (is_node p (mentions_in d))
      (sym (node_met p (mentions_in d))
      ∙ list_any_at (same_path p) (node_paths (mentions_in d)) there.0 p there.1
      ((path_decides p (get_or (node_paths (mentions_in d)) there.0 p)).1 (sym there.2))) fresh

  value_new : ValuesAreNew (node_paths (map mention_of (numbered_in d))) (said_next d own)
  value_new =
      subst (ValuesAreNew (node_paths (map mention_of (numbered_in d)))) (sym said_is) (
        (λ is there. unmet
            (subst (λ (ms : List Mention). Contains (node_paths ms) p) (mentions-numbered_in d) there)),
        tt,
      )

  pub added_last : length (parts more) < 2 ^ 64
      → node_infos more
      ≡ with_last (node_infos d) p (line_info (numbers_after line.before) (fact_kind line.fact))
  added_last few =
      known_if_new d more own own_last few value_new ∙ ap (with_mentions (node_infos d)) said_is
      ∙ ap (λ (o : Option ℕ).
      with_info_at (node_infos d) o p (line_info (numbers_after line.before) (fact_kind line.fact)))
      (number_none (node_infos d).paths p (λ there. unmet
      (subst (λ (ps : List (List Part)). Contains ps p) (paths-nodes_in d) there)))

pub last_line_is_known : LastLineIsKnown
last_line_is_known d more line last fresh few = added_last d more line last fresh few
