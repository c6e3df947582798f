-- What the crates above build on, in one place.
pub use Rattle.keep_edit_plan.proofs.ReadLaws.{one_tree}
pub use Rattle.keep_edit_plan.proofs.AnswerLaws.{seen, text_seen, profile_seen, stated_is, tokens_are}
pub use Rattle.keep_edit_plan.proofs.NodeLaws.{no_node, a_node, kind_stated}
pub use Rattle.keep_edit_plan.proofs.FoundLaws.{fact_node, none_found, one_found, paths_are, value_nested, value_there}
pub use Rattle.keep_edit_plan.proofs.FoundLaws.{IsStated, IsValueThere}
pub use Rattle.keep_edit_plan.proofs.EditedLaws.{editable}
pub use Rattle.keep_edit_plan.proofs.ChangeLaws.{change_in}
