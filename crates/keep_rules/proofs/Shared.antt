-- What the crates above build on, in one place.
pub use Rattle.keep_rules.proofs.AllInfoLemmas.{met_or_unmet, node_paths-distinct, infos_of, infos_set}
pub use Rattle.keep_rules.proofs.DotsNestedLaws.{dots_are_nested, dots_leave_nested}
pub use Rattle.keep_rules.proofs.FlatValueLemmas.{kind_of_body}
pub use Rattle.keep_rules.proofs.KeysNestedLaws.{keys_are_nested, keys_leave_nested}
pub use Rattle.keep_rules.proofs.LastLineLaws.{last_line_is_known}
pub use Rattle.keep_rules.proofs.LineNestedLaws.{line_is_nested, line_leaves_nested}
pub use Rattle.keep_rules.proofs.LinePlaceLemmas.{place_is}
pub use Rattle.keep_rules.proofs.LookupLemmas.{child_push, no_child_root, number_is}
pub use Rattle.keep_rules.proofs.RoleStateLemmas.{one_place}
pub use Rattle.keep_rules.proofs.StatementNestedLaws.{statement_is_nested}
pub use Rattle.keep_rules.proofs.StatementKnownLaws.{statement_is_known}
pub use Rattle.keep_rules.proofs.ValueLaws.{in_wide, strict_value}
pub use Rattle.keep_rules.proofs.ValueNestedLaws.{empty_has_no_child, value_is_nested}
pub use Rattle.keep_rules.proofs.PathNumberLaws.{has_number, number_at, paths_differ}
pub use Rattle.keep_rules.proofs.DotsKnownLaws.{dots_add_nodes, dots_add_value_nodes}
pub use Rattle.keep_rules.proofs.DotsLessLaws.{dots_take_nodes}
