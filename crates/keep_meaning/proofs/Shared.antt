-- What the crates above build on, in one place.
pub use Rattle.keep_meaning.proofs.KeyPlaceLemmas.{HasAsciiEnds, parts_readable, syntax_readable, value_syntax_readable}
pub use Rattle.keep_meaning.proofs.KeyPartLemmas.{IsPart, Spelled, keys_mention, keys_within, length-key_parts}
pub use Rattle.keep_meaning.proofs.KeyPartLemmas.{part_ends, part_left, part_placed, part_right, part_taken, part_whole}
pub use Rattle.keep_meaning.proofs.KeyPartLemmas.{spelled_left, spelled_right}
pub use Rattle.keep_meaning.proofs.LinePlaceLemmas.{LinesSpelled, content_spelled, head_spelled, line_spelled}
pub use Rattle.keep_meaning.proofs.LinePlaceLemmas.{lines_spelled, next_spelled}
pub use Rattle.keep_meaning.proofs.FaultLemmas.{StatesEdits, first_fault_after-states, not_both}
pub use Rattle.keep_meaning.proofs.NumberLemmas.{count_after-keys, count_after-values, count_from-keys}
pub use Rattle.keep_meaning.proofs.NumberLemmas.{count_from-statements, length-entries_values, numbered_from-append}
pub use Rattle.keep_meaning.proofs.NumberLemmas.{one_mark, statements-count, valued, valued-append, valued-below}
pub use Rattle.keep_meaning.proofs.NumberLemmas.{valued-content, valued-entries, valued-keyed}
pub use Rattle.keep_meaning.proofs.FactLemmas.{first_number-more, last_number-more, marks-more, or_number, passed-more}
pub use Rattle.keep_meaning.proofs.PlaceLemmas.{length-entries_parts, length-named, marked, marked-append, marked-below}
pub use Rattle.keep_meaning.proofs.PlaceLemmas.{marked-content, marked-entries, marked-keyed, marked-parts}
pub use Rattle.keep_meaning.proofs.PlaceLemmas.{marked-parts_in, marked-prefixes}
pub use Rattle.keep_meaning.proofs.CountLemmas.{lines_mentions-statements, mentions-numbered_from, mentions-numbered_in}
pub use Rattle.keep_meaning.proofs.CountLemmas.{mentions-numbered_mentions, node_at-elsewhere, numbered_mentions-append}
pub use Rattle.keep_meaning.proofs.CountLemmas.{paths-nodes, paths-nodes_in, mentions_in-statements}
pub use Rattle.keep_meaning.proofs.DecodeLaws.{means_value}
pub use Rattle.keep_meaning.proofs.DotsLaws.{dots_are_found}
pub use Rattle.keep_meaning.proofs.DotsLastLaws.{dots_have_last}
pub use Rattle.keep_meaning.proofs.BoundLaws.{mentions_few, nodes_few}
pub use Rattle.keep_meaning.proofs.BodyLaws.{body_has_no_element, body_is_node, tables_are_nodes}
pub use Rattle.keep_meaning.proofs.LineLaws.{few_before, line_adds_node, line_takes_node}
pub use Rattle.keep_meaning.proofs.LineFoundLaws.{line_is_found, same_node}
pub use Rattle.keep_meaning.proofs.KeysLaws.{keys_add_nodes, keys_add_value_nodes, keys_are_found, keys_take_nodes}
pub use Rattle.keep_meaning.proofs.OtherValueLaws.{value_gives_nodes}
pub use Rattle.keep_meaning.proofs.MetLemmas.{node_met}
pub use Rattle.keep_meaning.proofs.HeaderLaws.{element_has_key, element_has_no_element, element_is_new, element_is_node}
pub use Rattle.keep_meaning.proofs.HeaderLaws.{header_has_key, root_has_no_element, table_is_node}
